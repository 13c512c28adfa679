use Rattle.std.proofs.Common.{◌≡◌, take}
use Rattle.std.specs.Prelude.{None}
use Rattle.om_resolve.specs.Names.{names_of, defining}
use Rattle.om_resolve.specs.Causes.{first_given, two_of}
use Rattle.om_resolve.proofs.resolving.check_duplicates.Given as goal

abbrev pub invariant-loop-k : goal.invariant-loop-k
invariant-loop-k l = first_given (λ n. two_of n (defining l.l.objects.now n)) (take l.k (names_of l.l.objects.now)) ≡ None
