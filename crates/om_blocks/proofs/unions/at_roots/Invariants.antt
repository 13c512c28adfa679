use Rattle.std.proofs.Common.{take}
use Rattle.om_blocks.specs.Landing.{IsUnion}
use Rattle.om_blocks.proofs.unions.at_roots.Given as goal

abbrev pub invariant-loop-root : goal.invariant-loop-root
invariant-loop-root g l = IsUnion l.g (g.M.BlockMask.lacks l.masks) (take l.root-index l.g.roots) l.all
