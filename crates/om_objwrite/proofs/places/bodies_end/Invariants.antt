use Rattle.std.proofs.Common.{◌≡◌, drop}
use Rattle.om_objwrite.specs.Written.{blocks_end, bodies}
use Rattle.om_objwrite.proofs.places.bodies_end.Given as goal

abbrev pub invariant-loop-s : goal.invariant-loop-s
invariant-loop-s l = blocks_end 16 l.end (bodies (drop l.s-index l.sections)) ≡ blocks_end 16 l.at (bodies l.sections)
