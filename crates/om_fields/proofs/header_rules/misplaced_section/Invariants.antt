use Rattle.std.proofs.Common.{◌≡◌, ◌<◌, ℕ, false}
use Rattle.om_fields.specs.Extents.{is_misplaced, StandFor}
use Rattle.om_fields.specs.HeaderFields.{head_extent}
use Rattle.om_fields.proofs.header_rules.misplaced_section.Given as goal

abbrev pub invariant-loop-k : goal.invariant-loop-k
invariant-loop-k l =
    ((j : ℕ) → j < l.k → is_misplaced (head_extent l.bytes) j ≡ false) × StandFor (head_extent l.bytes) l.k l.loaded.items
