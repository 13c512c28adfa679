use Rattle.std.proofs.Common.{ℕ, ◌-◌, ◌^◌, min, ap, ◌∙◌}
use Rattle.om_uses.proofs.Counts.{loads_are}
use Rattle.om_uses.proofs.uses.Uses.count.Goals as goal

pub returns : goal.returns
returns c = λ g graph is.
    let at = rw (← c.self.view_is) at is in
    let counted = rw (c.as_slice.ensures.value, c.as_slice-2.ensures.value) at c.count_blocks.ensures in
    counted ∙ ap (λ (n : ℕ). min n (2 ^ 64 - 1)) (loads_are c.args.t g _ graph at)
