use Rattle.std.proofs.Common.{take}
use Rattle.std.specs.Prelude.{flat_map}
use Rattle.om_fields.specs.Bytes.{Grows}
use Rattle.om_objwrite.specs.Written.{reloc_bytes}
use Rattle.om_objwrite.proofs.relocations.push_relocs.Given as goal

abbrev pub invariant-loop-r : goal.invariant-loop-r
invariant-loop-r l = Grows l.fn.out.items l.out.items (flat_map reloc_bytes (take l.r-index l.relocs))
