use Rattle.std.proofs.Common.{◌≡◌, ◌++◌, drop}
use Rattle.om_objwrite.specs.Written.{blocks, blocks_end, tables}
use Rattle.om_objwrite.proofs.relocations.push_tables.Given as goal

abbrev pub invariant-loop-s : goal.invariant-loop-s
invariant-loop-s l =
    (l.out.items ++ blocks 8 l.place (tables (drop l.s-index l.sections)) ≡ l.fn.out.items ++ blocks 8 l.at (tables l.sections))
    × (blocks_end 8 l.place (tables (drop l.s-index l.sections)) ≡ blocks_end 8 l.at (tables l.sections))
