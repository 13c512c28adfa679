use Rattle.std.proofs.Common.{◌≡◌, ◌*◌, ◌^◌, ◌≤◌, take}
use Rattle.std.specs.Prelude.{sum_by}
use Rattle.om_resolve.specs.Totals.{amount}
use Rattle.om_resolve.proofs.totals.sum_of.Given as goal

abbrev pub invariant-loop-i : goal.invariant-loop-i
invariant-loop-i l = (l.sum ≡ sum_by (amount l.total) (take l.i l.objects)) × (l.sum ≤ l.i * 2 ^ 68)
