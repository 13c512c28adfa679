use Rattle.std.proofs.Common.{arith}
use Rattle.om_object.specs.declared.parts.Section.{Section}
use Rattle.om_objwrite.specs.Written.{table_of}
use Rattle.om_objwrite.proofs.Steps.{step_fits}
use Rattle.om_objwrite.proofs.sections.push_heads.Goals as goal

pub push_head-requires-clause-bodies : goal.push_head-requires-clause-bodies
push_head-requires-clause-bodies c =
    (step_fits 16 c.loop-s.body _ (λ (s : Section). s.bytes) c.args.sections.now c.loop-s.s-index c.s-item.result (omega arith) (omega arith)
    c.s-item.is c.loop-s.invariant.1 c.requires.bodies).low

pub push_head-requires-clause-tables : goal.push_head-requires-clause-tables
push_head-requires-clause-tables c =
    (step_fits 8 c.loop-s.table _ table_of c.args.sections.now c.loop-s.s-index c.s-item.result (omega arith) (omega arith)
    c.s-item.is c.loop-s.invariant.2 c.requires.tables).low

pub push_head-requires-clause-small : goal.push_head-requires-clause-small
push_head-requires-clause-small c =
    (step_fits 8 c.loop-s.table _ table_of c.args.sections.now c.loop-s.s-index c.s-item.result (omega arith) (omega arith)
    c.s-item.is c.loop-s.invariant.2 c.requires.tables).small

pub block_end-body-requires-clause-low : goal.block_end-body-requires-clause-low
block_end-body-requires-clause-low c =
    (step_fits 16 c.loop-s.body _ (λ (s : Section). s.bytes) c.args.sections.now c.loop-s.s-index c.s-item.result (omega arith) (omega arith)
    c.s-item.is c.loop-s.invariant.1 c.requires.bodies).low

pub block_end-body-requires-clause-fits : goal.block_end-body-requires-clause-fits
block_end-body-requires-clause-fits c =
    rw c.as_slice.ensures
    ((step_fits 16 c.loop-s.body _ (λ (s : Section). s.bytes) c.args.sections.now c.loop-s.s-index c.s-item.result (omega arith) (omega arith)
    c.s-item.is c.loop-s.invariant.1 c.requires.bodies).fits)

pub table_size-requires : goal.table_size-requires
table_size-requires c =
    (step_fits 8 c.loop-s.table _ table_of c.args.sections.now c.loop-s.s-index c.s-item.result (omega arith) (omega arith)
    c.s-item.is c.loop-s.invariant.2 c.requires.tables).small

pub block_end-table-requires-clause-low : goal.block_end-table-requires-clause-low
block_end-table-requires-clause-low c =
    (step_fits 8 c.loop-s.table _ table_of c.args.sections.now c.loop-s.s-index c.s-item.result (omega arith) (omega arith)
    c.s-item.is c.loop-s.invariant.2 c.requires.tables).low

pub block_end-table-requires-clause-fits : goal.block_end-table-requires-clause-fits
block_end-table-requires-clause-fits c =
    rw c.table_size.ensures
    ((step_fits 8 c.loop-s.table _ table_of c.args.sections.now c.loop-s.s-index c.s-item.result (omega arith) (omega arith)
    c.s-item.is c.loop-s.invariant.2 c.requires.tables).fits)
