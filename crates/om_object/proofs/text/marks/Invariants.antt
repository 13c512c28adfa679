use Rattle.std.proofs.Common.{◌≡◌, ◌<◌, ◌*◌, ◌/◌, ℕ, false, length, take}
use Rattle.std.specs.Prelude.{slice_index_or}
use Rattle.om_fields.specs.Places.{any_of}
use Rattle.om_object.specs.Rules.{is_branch_field}
use Rattle.om_object.proofs.text.marks.Given as goal

abbrev pub invariant-loop-r : goal.invariant-loop-r
invariant-loop-r l =
    (length l.marks.items ≡ length l.s.bytes / 4)
    × ((k : ℕ) → k < length l.marks.items → slice_index_or l.marks.items k false ≡ any_of (is_branch_field l.s (4 * k)) (take l.r-index l.s.relocs))
