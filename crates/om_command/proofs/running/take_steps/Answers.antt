use Rattle.std.proofs.Common.{refl}
use Rattle.om_machine.specs.declared.machine.Step.TheVariants as step
use Rattle.om_image.specs.NumStep.{num_start}
use Rattle.om_command.proofs.Ran.{first_is, arrived, read_failed, put_failed, faultless, went_is_no_fault, exit_is_no_fault, trap_is_no_fault, read_is_no_write, write_is_no_read, input_fault, sink_fault}
use Rattle.om_command.proofs.running.take_steps.Goals as goal

pub returns-in-Went : goal.returns-in-Went
returns-in-Went g c = (
  refl,
  (
    faultless _ _ (c.in-Went.ensures.no_read_fault went_is_no_fault.0) (c.in-Went.ensures.no_write_fault went_is_no_fault.1),
    λ xs told.
        arrived c.args.image.now c.args.steps _ xs _ _ step.Went
        (c.in-Went.ensures.runs c.args.image.now (num_start c.args.image.now xs)
        (g.O.Sink.written c.args.out.now) (g.E.Sink.written c.args.err.now) c.in-Ok.ensures.image
        (first_is c.args.image.now c.in-Ok.machine c.in-Ok.ensures.start xs _ _ _ told)),
  ),
)

pub returns-in-Exit : goal.returns-in-Exit
returns-in-Exit g c = (
  faultless _ _ (c.in-Exit.ensures.no_read_fault (exit_is_no_fault c.in-Exit.status).0) (c.in-Exit.ensures.no_write_fault (exit_is_no_fault c.in-Exit.status).1),
  λ xs told.
      arrived c.args.image.now c.args.steps _ xs _ _ (step.Exit c.in-Exit.status)
      (c.in-Exit.ensures.runs c.args.image.now (num_start c.args.image.now xs)
      (g.O.Sink.written c.args.out.now) (g.E.Sink.written c.args.err.now) c.in-Ok.ensures.image
      (first_is c.args.image.now c.in-Ok.machine c.in-Ok.ensures.start xs _ _ _ told)),
)

pub returns-in-Trap : goal.returns-in-Trap
returns-in-Trap g c = (
  faultless _ _ (c.in-Trap.ensures.no_read_fault (trap_is_no_fault c.in-Trap.kind c.in-Trap.at).0) (c.in-Trap.ensures.no_write_fault (trap_is_no_fault c.in-Trap.kind c.in-Trap.at).1),
  λ xs told.
      arrived c.args.image.now c.args.steps _ xs _ _ (step.Trap c.in-Trap.kind c.in-Trap.at)
      (c.in-Trap.ensures.runs c.args.image.now (num_start c.args.image.now xs)
      (g.O.Sink.written c.args.out.now) (g.E.Sink.written c.args.err.now) c.in-Ok.ensures.image
      (first_is c.args.image.now c.in-Ok.machine c.in-Ok.ensures.start xs _ _ _ told)),
)

pub returns-in-ReadFault : goal.returns-in-ReadFault
returns-in-ReadFault g c = (
  input_fault _ _ (c.in-ReadFault.ensures.read_fault refl) (c.in-ReadFault.ensures.no_write_fault read_is_no_write),
  λ xs told.
      read_failed c.args.image.now c.args.steps _ xs _ _
      (c.in-ReadFault.ensures.runs c.args.image.now (num_start c.args.image.now xs)
      (g.O.Sink.written c.args.out.now) (g.E.Sink.written c.args.err.now) c.in-Ok.ensures.image
      (first_is c.args.image.now c.in-Ok.machine c.in-Ok.ensures.start xs _ _ _ told)),
)

pub returns : goal.returns
returns g c = (
  sink_fault _ _ (c.in-WriteFault.ensures.no_read_fault write_is_no_read) (c.in-WriteFault.ensures.write_fault refl),
  λ xs told.
      put_failed c.args.image.now c.args.steps _ xs _ _
      (c.in-WriteFault.ensures.runs c.args.image.now (num_start c.args.image.now xs)
      (g.O.Sink.written c.args.out.now) (g.E.Sink.written c.args.err.now) c.in-Ok.ensures.image
      (first_is c.args.image.now c.in-Ok.machine c.in-Ok.ensures.start xs _ _ _ told)),
)
