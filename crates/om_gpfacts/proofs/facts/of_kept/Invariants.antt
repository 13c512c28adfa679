use Rattle.std.proofs.Common.{List}
use Rattle.om_flow.specs.declared.parts.Fact.{Fact}
use Rattle.om_flow.specs.declared.parts.Fact.TheVariants.{Unknown}
use Rattle.om_blocks.proofs.Walking.{OnBlocks, blocks_left}
use Rattle.om_gpfacts.proofs.Copying.{AreCopied}
use Rattle.om_gpfacts.proofs.facts.of_kept.Given as goal

abbrev pub invariant-loop-next : goal.invariant-loop-next
invariant-loop-next l = OnBlocks (List Fact) (AreCopied Fact Unknown l.g l.found) l.g l.next l.facts.items

abbrev pub decreases-loop-next : goal.decreases-loop-next
decreases-loop-next l = blocks_left (List Fact) (AreCopied Fact Unknown l.g l.found) l.g l.next
