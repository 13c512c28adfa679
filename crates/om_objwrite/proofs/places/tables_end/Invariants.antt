use Rattle.std.proofs.Common.{◌≡◌, drop}
use Rattle.om_objwrite.specs.Written.{blocks_end, tables}
use Rattle.om_objwrite.proofs.places.tables_end.Given as goal

abbrev pub invariant-loop-s : goal.invariant-loop-s
invariant-loop-s l = blocks_end 8 l.end (tables (drop l.s-index l.sections)) ≡ blocks_end 8 l.at (tables l.sections)
