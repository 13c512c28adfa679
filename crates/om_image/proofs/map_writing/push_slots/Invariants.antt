use Rattle.std.proofs.Common.{take}
use Rattle.std.specs.Prelude.{flat_map}
use Rattle.om_fields.specs.Bytes.{Grows}
use Rattle.om_image.specs.Written.{slot_bytes}
use Rattle.om_image.proofs.map_writing.push_slots.Given as goal

abbrev pub invariant-loop-target : goal.invariant-loop-target
invariant-loop-target l = Grows l.fn.out.items l.out.items (flat_map slot_bytes (take l.target-index l.slots))
