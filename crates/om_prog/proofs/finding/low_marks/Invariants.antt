use Rattle.std.specs.Prelude.{take}
use Rattle.om_prog.specs.Making.{AreMarks}
use Rattle.om_prog.proofs.finding.low_marks.Given as goal

abbrev pub invariant-loop-i : goal.invariant-loop-i
invariant-loop-i l = AreMarks l.obj l.text (take l.i l.text) l.marks.items
