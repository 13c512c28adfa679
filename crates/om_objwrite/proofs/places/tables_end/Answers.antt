use Rattle.std.proofs.Common.{arith}
use Rattle.om_objwrite.specs.Written.{table_of}
use Rattle.om_objwrite.proofs.Steps.{step_fits}
use Rattle.om_objwrite.proofs.places.tables_end.Goals as goal

pub table_size-requires : goal.table_size-requires
table_size-requires c =
    (step_fits 8 c.loop-s.end _ table_of c.args.sections.now c.loop-s.s-index c.s-item.result (omega arith) (omega arith)
    c.s-item.is c.loop-s.invariant c.requires).small

pub block_end-end-requires-clause-low : goal.block_end-end-requires-clause-low
block_end-end-requires-clause-low c =
    (step_fits 8 c.loop-s.end _ table_of c.args.sections.now c.loop-s.s-index c.s-item.result (omega arith) (omega arith)
    c.s-item.is c.loop-s.invariant c.requires).low

pub block_end-end-requires-clause-fits : goal.block_end-end-requires-clause-fits
block_end-end-requires-clause-fits c =
    rw c.table_size.ensures
    ((step_fits 8 c.loop-s.end _ table_of c.args.sections.now c.loop-s.s-index c.s-item.result (omega arith) (omega arith)
    c.s-item.is c.loop-s.invariant c.requires).fits)
