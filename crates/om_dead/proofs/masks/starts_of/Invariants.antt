use Rattle.std.proofs.Common.{ℕ, List}
use Rattle.om_blocks.specs.Found.{all_registers}
use Rattle.om_blocks.proofs.Walking.{OnBlocks, blocks_left}
use Rattle.om_live.proofs.Copying.{AreCopied}
use Rattle.om_dead.proofs.masks.starts_of.Given as goal

abbrev pub invariant-loop-next : goal.invariant-loop-next
invariant-loop-next l = OnBlocks (List ℕ) (AreCopied ℕ all_registers l.g l.l) l.g l.next l.starts.items

abbrev pub decreases-loop-next : goal.decreases-loop-next
decreases-loop-next l = blocks_left (List ℕ) (AreCopied ℕ all_registers l.g l.l) l.g l.next
