use Rattle.om_flow.specs.declared.parts.Fact.{Fact}
use Rattle.om_blocks.proofs.Walking.{OnOps, ops_left}
use Rattle.om_gpfacts.proofs.Inside.{Behind}
use Rattle.om_gpfacts.proofs.walks.fact_before_last.Given as goal

abbrev pub invariant-loop-next : goal.invariant-loop-next
invariant-loop-next l = OnOps Fact (Behind l.g l.start) l.g l.fn.b l.next l.fact

abbrev pub decreases-loop-next : goal.decreases-loop-next
decreases-loop-next l = ops_left Fact (Behind l.g l.start) l.g l.fn.b l.next
