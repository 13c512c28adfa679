use Rattle.std.proofs.Common.{◌≡◌, ◌*◌, ◌^◌, ◌≤◌, take}
use Rattle.std.specs.Prelude.{sum_by}
use Rattle.om_resolve.specs.Names.{names_of, definition_of}
use Rattle.om_resolve.specs.Targets.{common_size}
use Rattle.om_resolve.proofs.totals.commons_size.Given as goal

abbrev pub invariant-loop-k : goal.invariant-loop-k
invariant-loop-k l = (l.sum ≡ sum_by (λ n. common_size (definition_of l.l.objects.now n)) (take l.k (names_of l.l.objects.now))) × (l.sum ≤ l.k * 2 ^ 65)
