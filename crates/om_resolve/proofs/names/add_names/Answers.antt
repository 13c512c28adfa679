use Rattle.std.proofs.Common.{◌≡◌, ◌<◌, ◌+◌, List, map, fold, drop, length, ap, sym, ◌∙◌, arith, slice_index_or}
use Rattle.om_symtab.specs.declared.symbol.ExtSym.{ExtSym}
use Rattle.om_resolve.specs.Names.{Name, with_name}
use Rattle.om_resolve.specs.Linked.{bytes_of, names_in}
use Rattle.om_resolve.proofs.Naming.{insert-names, names-step}
use Rattle.om_resolve.proofs.names.add_names.Goals as goal

pub loop-y-preserved : goal.loop-y-preserved
loop-y-preserved c =
    let ys = c.args.p.now.symbols in
    let i = c.loop-y.y-index in
    let d = c.y-item.result in
    let same = c.as_slice-y-items.ensures in
    let len : length c.as_slice-y-items.result.now ≡ length ys = ap length same in
    let below : i < length ys = omega (arith, len, c.loop-y-test.true) in
    let item : d ≡ slice_index_or ys i d = c.y-item.is ∙ ap (λ (xs : List ExtSym). slice_index_or xs i d) same in
    let name : c.as_slice.result.now ≡ (slice_index_or ys i d).name = c.as_slice.ensures ∙ ap (λ (y : ExtSym). y.name) item in
    let grown : names_in c.insert_full.new.self ≡ with_name (names_in c.loop-y.names) (slice_index_or ys i d).name =
    ap (map bytes_of) c.in_ok-insert_full.ensures.keys ∙ insert-names c.loop-y.names.keys c.as_slice.result ∙ ap (with_name (names_in c.loop-y.names)) name in
    ap (λ (ns : List Name). fold with_name ns (map (λ y. y.name) (drop (i + 1) ys))) grown
    ∙ sym (names-step (names_in c.loop-y.names) ys i d below) ∙ c.loop-y.invariant
