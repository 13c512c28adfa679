use Rattle.std.proofs.Common.{◌≡◌, Option, Some, subst}
use Rattle.om_addr.specs.declared.near.Pointer.{Pointer}
use Rattle.om_addr.specs.Near.{IsSaid}
use Rattle.om_addr.proofs.InARow as row
use Rattle.om_addr.proofs.reduction.take_bases.Goals as goal

pub returns-in-Some-clause-passed : goal.returns-in-Some-clause-passed
returns-in-Some-clause-passed c = λ l said masks. c.take_pointers.ensures.passed l (subst (λ (o : Option Pointer). IsSaid l c.args.load.now o) c.in-Some.is said) masks

pub returns-in-Some-clause-nothing : goal.returns-in-Some-clause-nothing
returns-in-Some-clause-nothing c = λ l said. c.take_pointers.ensures.nothing l (subst (λ (o : Option Pointer). IsSaid l c.args.load.now o) c.in-Some.is said)

pub returns-in-None-clause-passed : goal.returns-in-None-clause-passed
returns-in-None-clause-passed c = λ l said masks. row.none l masks c.args.g.now
