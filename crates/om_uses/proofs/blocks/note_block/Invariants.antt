use Rattle.om_uses.proofs.Nodes.{OnNodes, IsNoted, nodes_left}
use Rattle.om_uses.proofs.blocks.note_block.Given as goal

abbrev pub invariant-loop-next : goal.invariant-loop-next
invariant-loop-next l =
    OnNodes l.g l.fn.b l.next (λ done left. IsNoted l.g l.fn.b l.fn.start l.at l.ops.items l.fn.ops.items l.loads.items l.fn.loads.items left)

abbrev pub decreases-loop-next : goal.decreases-loop-next
decreases-loop-next l = nodes_left l.g l.fn.b l.next
