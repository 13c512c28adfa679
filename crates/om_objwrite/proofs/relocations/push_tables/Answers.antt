use Rattle.std.proofs.Common.{arith}
use Rattle.om_objwrite.specs.Written.{table_of}
use Rattle.om_objwrite.proofs.Steps.{step_fits}
use Rattle.om_objwrite.proofs.relocations.push_tables.Goals as goal

pub push_table-requires-clause-low : goal.push_table-requires-clause-low
push_table-requires-clause-low c =
    (step_fits 8 c.loop-s.place _ table_of c.args.sections.now c.loop-s.s-index c.s-item.result (omega arith) (omega arith)
    c.s-item.is c.loop-s.invariant.1 c.requires).low

pub push_table-requires-clause-small : goal.push_table-requires-clause-small
push_table-requires-clause-small c =
    (step_fits 8 c.loop-s.place _ table_of c.args.sections.now c.loop-s.s-index c.s-item.result (omega arith) (omega arith)
    c.s-item.is c.loop-s.invariant.1 c.requires).small

pub push_table-requires-clause-fits : goal.push_table-requires-clause-fits
push_table-requires-clause-fits c =
    (step_fits 8 c.loop-s.place _ table_of c.args.sections.now c.loop-s.s-index c.s-item.result (omega arith) (omega arith)
    c.s-item.is c.loop-s.invariant.1 c.requires).fits
