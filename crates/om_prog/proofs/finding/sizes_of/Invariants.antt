use Rattle.std.specs.Prelude.{take}
use Rattle.om_prog.specs.Valid.{AreOnce}
use Rattle.om_prog.specs.Making.{HasSizes}
use Rattle.om_prog.proofs.finding.sizes_of.Given as goal

abbrev pub invariant-loop-i : goal.invariant-loop-i
invariant-loop-i l = HasSizes l.sizes (take l.i l.regions) × AreOnce (take l.i l.regions)
