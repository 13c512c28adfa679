use Rattle.std.proofs.Common.{ℕ, ◌<◌}
use Rattle.std.specs.Prelude.{All}
use Rattle.om_prog.specs.declared.item.Item.{Item}
use Rattle.om_prog.specs.View.{text_of}
use Rattle.om_encode.specs.Data.{RoleFits}
use Rattle.om_encode.proofs.ranges.texts_fit.Given as goal

abbrev pub invariant-loop-obj : goal.invariant-loop-obj
invariant-loop-obj l = (j : ℕ) → j < l.obj → All (λ (i : Item). RoleFits i.role) (text_of l.program j)
