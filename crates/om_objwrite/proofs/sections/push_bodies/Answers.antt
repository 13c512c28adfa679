use Rattle.std.proofs.Common.{arith}
use Rattle.om_object.specs.declared.parts.Section.{Section}
use Rattle.om_objwrite.proofs.Steps.{step_fits}
use Rattle.om_objwrite.proofs.sections.push_bodies.Goals as goal

pub push_block-requires-clause-low : goal.push_block-requires-clause-low
push_block-requires-clause-low c =
    (step_fits 16 c.loop-s.place _ (λ (s : Section). s.bytes) c.args.sections.now c.loop-s.s-index c.s-item.result (omega arith) (omega arith)
    c.s-item.is c.loop-s.invariant.1 c.requires).low

pub push_block-requires-clause-fits : goal.push_block-requires-clause-fits
push_block-requires-clause-fits c =
    rw c.as_slice.ensures
    ((step_fits 16 c.loop-s.place _ (λ (s : Section). s.bytes) c.args.sections.now c.loop-s.s-index c.s-item.result (omega arith) (omega arith)
    c.s-item.is c.loop-s.invariant.1 c.requires).fits)
