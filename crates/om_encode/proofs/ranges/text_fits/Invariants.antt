use Rattle.std.proofs.Common.{ℕ, ◌<◌, slice_index_or}
use Rattle.om_prog.specs.declared.item.Item.{Item}
use Rattle.om_prog.specs.View.{text_of}
use Rattle.om_encode.specs.Data.{RoleFits}
use Rattle.om_encode.proofs.ranges.text_fits.Given as goal

abbrev pub invariant-loop-k : goal.invariant-loop-k
invariant-loop-k l = (j : ℕ) → (d : Item) → j < l.k → RoleFits (slice_index_or (text_of l.program l.obj) j d).role
