use Rattle.std.proofs.Common.{◌≡◌}
use Rattle.om_fields.specs.Places.{each}
use Rattle.om_reloc.specs.Relocs.{reloc_of}
use Rattle.om_reloc.proofs.reading.relocs.Given as goal

abbrev pub invariant-loop-i : goal.invariant-loop-i
invariant-loop-i l = l.relocs.items ≡ each (reloc_of l.bytes l.head) l.i
