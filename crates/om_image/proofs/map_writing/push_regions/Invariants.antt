use Rattle.std.proofs.Common.{take}
use Rattle.std.specs.Prelude.{flat_map}
use Rattle.om_fields.specs.Bytes.{Grows}
use Rattle.om_image.specs.Written.{region_bytes}
use Rattle.om_image.proofs.map_writing.push_regions.Given as goal

abbrev pub invariant-loop-r : goal.invariant-loop-r
invariant-loop-r l = Grows l.fn.out.items l.out.items (flat_map region_bytes (take l.r-index l.regions))
