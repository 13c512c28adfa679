use Rattle.std.proofs.Common.{take}
use Rattle.om_fields.specs.Bytes.{Grows}
use Rattle.om_encode.specs.DataBytes.{slots_bytes}
use Rattle.om_encode.proofs.filling.push_slots.Given as goal

abbrev pub invariant-loop-target : goal.invariant-loop-target
invariant-loop-target l = Grows l.fn.out.items l.out.items (slots_bytes l.layout (take l.target-index l.slots))
