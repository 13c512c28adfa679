use Rattle.std.proofs.Common.{sym, subst}
use Rattle.om_prog.specs.Valid.{IsProgram}
use Rattle.om_layout.specs.Limits.{IsWithinLimits}
use Rattle.om_link.specs.Plain.{BranchesReach}
use Rattle.om_link.proofs.Answered.{within_limits}
use Rattle.om_link.proofs.Reach.{branches_reach}
use Rattle.om_link.proofs.linking.link.Goals as goal

pub image_of-requires-clause-limits : goal.image_of-requires-clause-limits
image_of-requires-clause-limits c = subst IsWithinLimits (sym c.in-Ok.ensures.0) (within_limits c.args.objects.now c.in-Ok.ensures.1)

pub image_of-requires-clause-reach : goal.image_of-requires-clause-reach
image_of-requires-clause-reach c =
    subst BranchesReach (sym c.in-Ok.ensures.0)
    (branches_reach c.args.objects.now c.in-Ok.ensures.1 (subst IsProgram c.in-Ok.ensures.0 (subst IsProgram c.program.view_is c.program.invariant)))
