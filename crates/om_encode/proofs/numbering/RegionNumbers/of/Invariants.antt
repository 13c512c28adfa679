use Rattle.std.proofs.Common.{◌≡◌, drop}
use Rattle.std.specs.Prelude.{find}
use Rattle.om_value.specs.declared.value.Region.{Region}
use Rattle.om_value.specs.Same.{region_eq}
use Rattle.om_encode.specs.DataBytes.{numbered}
use Rattle.om_encode.proofs.numbering.RegionNumbers.of.Given as goal

abbrev pub invariant-loop-k : goal.invariant-loop-k
invariant-loop-k l = (r : Region) → numbered l.numbers l.regions r ≡ find (λ i. region_eq i.region r) (drop l.k l.regions)
