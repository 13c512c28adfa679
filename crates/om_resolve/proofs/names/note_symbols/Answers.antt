use Rattle.std.proofs.Common.{◌≡◌, ℕ, ◌<◌, List, [], ◌∷◌, ◌++◌, length, map, fold, take, ap, sym, ◌∙◌, arith, slice_index_or}
use Rattle.om_symtab.specs.declared.symbol.ExtSym.{ExtSym}
use Rattle.om_object.specs.declared.parts.Parts.{Parts}
use Rattle.om_object.specs.Rules.{no_symbol}
use Rattle.om_resolve.specs.declared.definition.Known.{Known}
use Rattle.om_resolve.specs.Names.{Seen, object_at, number_in, seen_in}
use Rattle.om_resolve.specs.Known.{noted, noted_at}
use Rattle.om_resolve.specs.Linked.{names_in}
use Rattle.om_resolve.proofs.Steps.{item_any, fold_append, map_more, take_mapped}
use Rattle.om_resolve.proofs.names.note_symbols.Goals as goal

pub loop-j-preserved : goal.loop-j-preserved
loop-j-preserved c =
    let objects = c.args.objects.now in
    let ns = names_in c.args.names.now in
    let ys = (object_at objects c.args.obj).symbols in
    let j = c.loop-j.j in
    let same : c.as_slice-symbols.result.now ≡ ys = c.as_slice-symbols.ensures ∙ ap (λ (p : Parts). p.symbols) c.parts.ensures in
    let len : length c.as_slice-symbols.result.now ≡ length ys = ap (λ (zs : List ExtSym). length zs) same in
    let below : j < length ys = omega (arith, len, c.loop-j-test.true) in
    let y : ExtSym = slice_index_or ys j no_symbol in
    let item : c.index-symbols-j.result ≡ y =
    c.index-symbols-j.is ∙ ap (λ (zs : List ExtSym). slice_index_or zs j c.index-symbols-j.result) same ∙ item_any ys j c.index-symbols-j.result no_symbol below in
    let number : c.in_ok-k.k ≡ number_in ns y.name =
    c.in_ok-k.ensures ∙ ap (number_in ns) (c.as_slice.ensures ∙ ap (λ (z : ExtSym). z.name) item) in
    let f : ExtSym → ℕ = λ z. number_in ns z.name in
    let g : ExtSym → Seen = λ z. record { obj = c.args.obj; symbol = z } in (
      c.in_ok-push.ensures.items ∙ ap (λ (ks : List ℕ). ks ++ c.in_ok-k.k ∷ []) c.loop-j.invariant.0 ∙ ap (λ k. map f (take j ys) ++ k ∷ []) number
          ∙ sym (map_more f ys j no_symbol below),
      c.note_name.ensures ∙ ap (λ (ks : List Known). noted_at objects ks c.in_ok-k.k (g c.index-symbols-j.result)) c.loop-j.invariant.1
          ∙ ap (λ (z : ExtSym). noted_at objects (fold (noted objects ns) c.args.known.now.items (take j (seen_in c.args.obj (object_at objects c.args.obj)))) c.in_ok-k.k (g z)) item
          ∙ ap (λ k. noted_at objects (fold (noted objects ns) c.args.known.now.items (take j (seen_in c.args.obj (object_at objects c.args.obj)))) k (g y)) number
          ∙ sym (fold_append (noted objects ns) c.args.known.now.items (take j (map g ys)) (g y ∷ []))
          ∙ ap (fold (noted objects ns) c.args.known.now.items) (sym (take_mapped g ys j no_symbol below)),
    )
