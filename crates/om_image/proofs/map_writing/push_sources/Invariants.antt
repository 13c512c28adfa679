use Rattle.std.proofs.Common.{take}
use Rattle.std.specs.Prelude.{flat_map}
use Rattle.om_fields.specs.Bytes.{Grows}
use Rattle.om_image.specs.Written.{source_bytes}
use Rattle.om_image.proofs.map_writing.push_sources.Given as goal

abbrev pub invariant-loop-w : goal.invariant-loop-w
invariant-loop-w l = Grows l.fn.out.items l.out.items (flat_map source_bytes (take l.w-index l.words))
