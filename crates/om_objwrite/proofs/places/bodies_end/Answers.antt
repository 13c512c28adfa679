use Rattle.std.proofs.Common.{arith}
use Rattle.om_object.specs.declared.parts.Section.{Section}
use Rattle.om_objwrite.proofs.Steps.{step_fits}
use Rattle.om_objwrite.proofs.places.bodies_end.Goals as goal

pub block_end-end-requires-clause-low : goal.block_end-end-requires-clause-low
block_end-end-requires-clause-low c =
    (step_fits 16 c.loop-s.end _ (λ (s : Section). s.bytes) c.args.sections.now c.loop-s.s-index c.s-item.result (omega arith) (omega arith)
    c.s-item.is c.loop-s.invariant c.requires).low

pub block_end-end-requires-clause-fits : goal.block_end-end-requires-clause-fits
block_end-end-requires-clause-fits c =
    rw c.as_slice.ensures
    ((step_fits 16 c.loop-s.end _ (λ (s : Section). s.bytes) c.args.sections.now c.loop-s.s-index c.s-item.result (omega arith) (omega arith)
    c.s-item.is c.loop-s.invariant c.requires).fits)
