use Rattle.std.proofs.Common.{refl}
use Rattle.om_prog.specs.Script.{program_script}
use Rattle.om_prog.specs.Runs.{sym_start}
use Rattle.om_symrun.specs.declared.machine.SymStep.TheVariants as step
use Rattle.om_command.proofs.Ran.{faultless, input_fault, sink_fault}
use Rattle.om_command.proofs.Simmed.{sim_first_is, sim_arrived, sim_wanted, sim_read_failed, sim_put_failed, none_taken, no_faults, went_is_no_fault, exit_is_no_fault, trap_is_no_fault, observes_is_no_fault, want_is_no_fault, read_is_no_write, write_is_no_read}
use Rattle.om_command.proofs.simulating.sim_program.Goals as goal

pub returns-in-Went : goal.returns-in-Went
returns-in-Went g c = (
  refl,
  (
    faultless _ _ (c.in-Went.ensures.no_read_fault went_is_no_fault.0) (c.in-Went.ensures.no_write_fault went_is_no_fault.1),
    λ xs told.
        sim_arrived c.args.program.now c.args.steps _ xs _ _ step.Went c.in-Ok.machine.program c.in-Ok.ensures.program
        (c.in-Went.ensures.runs (sym_start (program_script c.args.program.now) xs)
        (g.O.Sink.written c.args.out.now) (g.E.Sink.written c.args.err.now)
        (sim_first_is (program_script c.args.program.now) c.in-Ok.machine c.in-Ok.ensures.start xs _ _ _ told)),
  ),
)

pub returns-in-Exit : goal.returns-in-Exit
returns-in-Exit g c = (
  faultless _ _ (c.in-Exit.ensures.no_read_fault (exit_is_no_fault c.in-Exit.status).0) (c.in-Exit.ensures.no_write_fault (exit_is_no_fault c.in-Exit.status).1),
  λ xs told.
      sim_arrived c.args.program.now c.args.steps _ xs _ _ (step.Exit c.in-Exit.status) c.in-Ok.machine.program c.in-Ok.ensures.program
      (c.in-Exit.ensures.runs (sym_start (program_script c.args.program.now) xs)
      (g.O.Sink.written c.args.out.now) (g.E.Sink.written c.args.err.now)
      (sim_first_is (program_script c.args.program.now) c.in-Ok.machine c.in-Ok.ensures.start xs _ _ _ told)),
)

pub returns-in-Trap : goal.returns-in-Trap
returns-in-Trap g c = (
  faultless _ _ (c.in-Trap.ensures.no_read_fault (trap_is_no_fault c.in-Trap.kind c.in-Trap.at).0) (c.in-Trap.ensures.no_write_fault (trap_is_no_fault c.in-Trap.kind c.in-Trap.at).1),
  λ xs told.
      sim_arrived c.args.program.now c.args.steps _ xs _ _ (step.Trap c.in-Trap.kind c.in-Trap.at) c.in-Ok.machine.program c.in-Ok.ensures.program
      (c.in-Trap.ensures.runs (sym_start (program_script c.args.program.now) xs)
      (g.O.Sink.written c.args.out.now) (g.E.Sink.written c.args.err.now)
      (sim_first_is (program_script c.args.program.now) c.in-Ok.machine c.in-Ok.ensures.start xs _ _ _ told)),
)

pub returns-in-Observes : goal.returns-in-Observes
returns-in-Observes g c = (
  faultless _ _ (c.in-Observes.ensures.no_read_fault (observes_is_no_fault c.in-Observes.at).0) (c.in-Observes.ensures.no_write_fault (observes_is_no_fault c.in-Observes.at).1),
  λ xs told.
      sim_arrived c.args.program.now c.args.steps _ xs _ _ (step.Observes c.in-Observes.at) c.in-Ok.machine.program c.in-Ok.ensures.program
      (c.in-Observes.ensures.runs (sym_start (program_script c.args.program.now) xs)
      (g.O.Sink.written c.args.out.now) (g.E.Sink.written c.args.err.now)
      (sim_first_is (program_script c.args.program.now) c.in-Ok.machine c.in-Ok.ensures.start xs _ _ _ told)),
)

pub returns-in-ReadFault : goal.returns-in-ReadFault
returns-in-ReadFault g c = (
  input_fault _ _ (c.in-ReadFault.ensures.read_fault refl) (c.in-ReadFault.ensures.no_write_fault read_is_no_write),
  λ xs told.
      sim_read_failed c.args.program.now c.args.steps _ xs _ _ c.in-Ok.machine.program c.in-Ok.ensures.program
      (c.in-ReadFault.ensures.runs (sym_start (program_script c.args.program.now) xs)
      (g.O.Sink.written c.args.out.now) (g.E.Sink.written c.args.err.now)
      (sim_first_is (program_script c.args.program.now) c.in-Ok.machine c.in-Ok.ensures.start xs _ _ _ told)),
)

pub returns-in-WriteFault : goal.returns-in-WriteFault
returns-in-WriteFault g c = (
  sink_fault _ _ (c.in-WriteFault.ensures.no_read_fault write_is_no_read) (c.in-WriteFault.ensures.write_fault refl),
  λ xs told.
      sim_put_failed c.args.program.now c.args.steps _ xs _ _ c.in-Ok.machine.program c.in-Ok.ensures.program
      (c.in-WriteFault.ensures.runs (sym_start (program_script c.args.program.now) xs)
      (g.O.Sink.written c.args.out.now) (g.E.Sink.written c.args.err.now)
      (sim_first_is (program_script c.args.program.now) c.in-Ok.machine c.in-Ok.ensures.start xs _ _ _ told)),
)

pub returns : goal.returns
returns g c = (
  faultless _ _ (c.in-NoMemory.ensures.no_read_fault want_is_no_fault.0) (c.in-NoMemory.ensures.no_write_fault want_is_no_fault.1),
  λ xs told.
      sim_wanted c.args.program.now c.args.steps _ xs _ _ c.in-Ok.machine.program c.in-Ok.ensures.program
      (c.in-NoMemory.ensures.runs (sym_start (program_script c.args.program.now) xs)
      (g.O.Sink.written c.args.out.now) (g.E.Sink.written c.args.err.now)
      (sim_first_is (program_script c.args.program.now) c.in-Ok.machine c.in-Ok.ensures.start xs _ _ _ told)),
)

pub returns-in-Err : goal.returns-in-Err
returns-in-Err g c = (no_faults _, λ xs told. none_taken c.args.program.now c.args.steps _ xs told)
