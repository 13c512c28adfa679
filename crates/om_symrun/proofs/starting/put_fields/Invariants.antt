use Rattle.std.proofs.Common.{drop}
use Rattle.om_symrun.specs.Starting.{WritesFields}
use Rattle.om_symrun.proofs.starting.put_fields.Given as goal

abbrev pub invariant-loop-i : goal.invariant-loop-i
invariant-loop-i l = WritesFields l.initial.cells l.cells (drop l.i l.fields)
