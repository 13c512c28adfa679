use Rattle.std.proofs.Common.{drop}
use Rattle.std.specs.BTreeMap.{get}
use Rattle.om_value.specs.declared.value.Region.{Region}
use Rattle.om_prog.specs.Keys.{region_cmp}
use Rattle.om_symrun.specs.Starting.{IsMadeOf, init_in}
use Rattle.om_symrun.proofs.starting.given_cells.Given as goal

abbrev pub invariant-loop-i : goal.invariant-loop-i
invariant-loop-i l = (r : Region) → IsMadeOf (get region_cmp l.given r) (init_in (drop l.i l.regions) r)
