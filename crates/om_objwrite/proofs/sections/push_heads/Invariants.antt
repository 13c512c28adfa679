use Rattle.std.proofs.Common.{◌≡◌, ◌++◌, drop}
use Rattle.om_objwrite.specs.Written.{section_headers, blocks_end, bodies, tables}
use Rattle.om_objwrite.proofs.sections.push_heads.Given as goal

abbrev pub invariant-loop-s : goal.invariant-loop-s
invariant-loop-s l =
    (l.out.items ++ section_headers l.body l.table (drop l.s-index l.sections) ≡ l.fn.out.items ++ section_headers l.bodies l.tables l.sections)
    × (blocks_end 16 l.body (bodies (drop l.s-index l.sections)) ≡ blocks_end 16 l.bodies (bodies l.sections))
    × (blocks_end 8 l.table (tables (drop l.s-index l.sections)) ≡ blocks_end 8 l.tables (tables l.sections))
