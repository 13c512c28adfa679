use Rattle.std.proofs.Common.{◌≡◌, ◌<◌, true, sym, ◌∙◌, arith, ap}
use Rattle.std.specs.Prelude.{Some}
use Rattle.om_fields.proofs.Picked.{picked-first, picked-none}
use Rattle.om_symtab.specs.Symbols.{symbol_count, symbol_at, is_unended}
use Rattle.om_symtab.proofs.InOrder.{symbols-rise}
use Rattle.om_symtab.proofs.symbol_rules.name_fault.Goals as goal

pub returns-then-is_unended : goal.returns-then-is_unended
returns-then-is_unended c =
    let below : c.loop-j.j < symbol_count c.args.bytes.now c.args.at = omega (arith, c.loop-j-test.true, c.count-count.ensures) in
    let holds : is_unended c.args.bytes.now c.args.at c.loop-j.j ≡ true = cc in
    record { gives = ap Some c.symbol_place.ensures.place ∙ sym (picked-first (is_unended c.args.bytes.now c.args.at) (symbol_at c.args.bytes.now c.args.at) (symbol_count c.args.bytes.now c.args.at) c.loop-j.j (symbols-rise c.args.bytes.now c.args.at) below holds c.loop-j.invariant) }

pub returns : goal.returns
returns c =
    record { gives = sym (picked-none (is_unended c.args.bytes.now c.args.at) (symbol_at c.args.bytes.now c.args.at) (symbol_count c.args.bytes.now c.args.at) (λ k h. c.loop-j.invariant k (omega (arith, h, c.loop-j-test.false, c.count-count.ensures)))) }
