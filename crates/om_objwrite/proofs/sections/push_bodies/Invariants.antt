use Rattle.std.proofs.Common.{◌≡◌, ◌++◌, drop}
use Rattle.om_objwrite.specs.Written.{blocks, blocks_end, bodies}
use Rattle.om_objwrite.proofs.sections.push_bodies.Given as goal

abbrev pub invariant-loop-s : goal.invariant-loop-s
invariant-loop-s l =
    (l.out.items ++ blocks 16 l.place (bodies (drop l.s-index l.sections)) ≡ l.fn.out.items ++ blocks 16 l.at (bodies l.sections))
    × (blocks_end 16 l.place (bodies (drop l.s-index l.sections)) ≡ blocks_end 16 l.at (bodies l.sections))
