use Rattle.std.proofs.Common.{◌≡◌, ◌<◌, true, sym, ◌∙◌, ap, arith, length, List, slice_index_or}
use Rattle.om_fields.proofs.Picked.{picked-first, picked-none, indices-rise}
use Rattle.om_fields.proofs.Found.{item-any}
use Rattle.om_symtab.specs.declared.symbol.ExtSym.{ExtSym}
use Rattle.om_object.specs.Rules.{symbol_breaks, symbol_at, no_symbol}
use Rattle.om_object.proofs.passes.first_symbol.Goals as goal

pub returns-then-breaks_as_symbol : goal.returns-then-breaks_as_symbol
returns-then-breaks_as_symbol c =
    let p = c.args.p.now in
    let j = c.loop-j.j in
    let len : length c.as_slice-symbols.result.now ≡ length p.symbols = ap length c.as_slice-symbols.ensures in
    let below : j < length p.symbols = omega (arith, len, c.loop-j-test.true) in
    let symbol : c.index-symbols-j.result ≡ symbol_at p j =
    c.index-symbols-j.is
    ∙ ap (λ (xs : List ExtSym). slice_index_or xs j c.index-symbols-j.result) c.as_slice-symbols.ensures
    ∙ item-any p.symbols j c.index-symbols-j.result no_symbol below in
    let holds : symbol_breaks p c.args.rule (symbol_at p j) ≡ true = sym (c.breaks_as_symbol.ensures ∙ ap (symbol_breaks p c.args.rule) symbol) ∙ c.if-breaks_as_symbol.true in
    sym (picked-first (λ k. symbol_breaks p c.args.rule (symbol_at p k)) (λ k. k) (length p.symbols) j indices-rise below holds c.loop-j.invariant)

pub returns : goal.returns
returns c =
    let p = c.args.p.now in
    let len : length c.as_slice-symbols.result.now ≡ length p.symbols = ap length c.as_slice-symbols.ensures in
    sym (picked-none (λ k. symbol_breaks p c.args.rule (symbol_at p k)) (λ k. k) (length p.symbols)
    (λ k h. c.loop-j.invariant k (omega (arith, h, len, c.loop-j-test.false, c.loop-j.auto.j-end))))
