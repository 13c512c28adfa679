use Rattle.std.proofs.Common.{◌≡◌}
use Rattle.om_fields.specs.Places.{picked}
use Rattle.om_object.specs.File.{is_loaded, section_of_head, origin_of}
use Rattle.om_object.proofs.file_parts.all_sections.Given as goal

abbrev pub invariant-loop-k : goal.invariant-loop-k
invariant-loop-k l =
    (l.sections.items ≡ picked (is_loaded l.bytes) (section_of_head l.bytes) l.k)
    × (l.origins.items ≡ picked (is_loaded l.bytes) (origin_of l.bytes) l.k)
