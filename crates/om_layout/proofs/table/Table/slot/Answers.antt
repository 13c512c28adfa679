use Rattle.std.proofs.Common.{sym, ◌∙◌, arith}
use Rattle.om_layout.proofs.Finding.{number_below}
use Rattle.om_layout.proofs.table.Table.slot.Goals as goal

pub overflow_mul-result : goal.overflow_mul-result
overflow_mul-result c =
    let b = number_below c.self.inside.slots c.args.t c.in-Some.number (sym c.number.ensures ∙ c.in-Some.is) in
    let f = c.self.invariant.1 in
    omega (arith, b, f)

pub overflow_add-result : goal.overflow_add-result
overflow_add-result c =
    let b = number_below c.self.inside.slots c.args.t c.in-Some.number (sym c.number.ensures ∙ c.in-Some.is) in
    let s = c.self.invariant.0 in
    let f = c.self.invariant.1 in
    omega (arith, b, f, s)
