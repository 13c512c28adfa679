use Rattle.std.proofs.Common.{take}
use Rattle.std.specs.Prelude.{flat_map}
use Rattle.om_fields.specs.Bytes.{Grows}
use Rattle.om_image.specs.Written.{object_bytes}
use Rattle.om_image.proofs.map_writing.push_objects.Given as goal

abbrev pub invariant-loop-o : goal.invariant-loop-o
invariant-loop-o l = Grows l.fn.out.items l.out.items (flat_map object_bytes (take l.o-index l.objects))
