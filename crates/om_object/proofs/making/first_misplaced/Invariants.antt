use Rattle.std.proofs.Common.{◌≡◌, ◌<◌, ◌||◌, ℕ, false}
use Rattle.std.specs.Prelude.{is_none}
use Rattle.om_fields.specs.Sections.{name_of_number}
use Rattle.om_fields.specs.Extents.{is_misplaced, StandFor}
use Rattle.om_object.specs.Rules.{section_at, section_extent}
use Rattle.om_object.proofs.making.first_misplaced.Given as goal

abbrev pub invariant-loop-a : goal.invariant-loop-a
invariant-loop-a l =
    ((i : ℕ) → i < l.a → (is_none (name_of_number (section_at l.p i).number) || is_misplaced (section_extent l.p) i) ≡ false)
    × StandFor (section_extent l.p) l.a l.loaded.items
