use Rattle.std.proofs.Common.{◌≡◌, ◌∙◌, subst, refl, arith}
use Rattle.om_prog.specs.Script.{program_script}
use Rattle.om_prog.specs.Step.{SymState, ExitedWith, TrappedAt, ObservedAt}
use Rattle.om_prog.specs.View.{ProgramView}
use Rattle.om_symrun.specs.Calls.{IsState}
use Rattle.om_symrun.specs.Steps.{sym_steps, StepsTo}
use Rattle.om_symrun.specs.declared.machine.SymStep.TheVariants as step
use Rattle.om_symrun.proofs.Running.{next_of, runs_out, read_failed, write_failed, wants_memory, runs_through}
use Rattle.om_symrun.proofs.machine.SymRun.run.Goals as goal

pub loop-turn-init : goal.loop-turn-init
unfolding sym_steps
loop-turn-init g c = (refl, refl, refl, refl, λ s ot et h. h)

pub loop-turn-preserved : goal.loop-turn-preserved
loop-turn-preserved g c = (
  c.in-Went.ensures.program ∙ c.loop-turn.invariant.0,
  c.in-Went.ensures.no_read_fault (λ e. cc) ∙ c.loop-turn.invariant.1,
  (c.in-Went.ensures.no_write_fault (λ e. cc)).0 ∙ c.loop-turn.invariant.2,
  (c.in-Went.ensures.no_write_fault (λ e. cc)).1 ∙ c.loop-turn.invariant.3,
  λ s ot et h.
      let p = program_script c.args.self.now.program in
      let before = c.loop-turn.invariant.4 s ot et h in
      let next = subst (λ (x : ProgramView). StepsTo (program_script x) step.Went (sym_steps p s c.loop-turn.turn) c.step.new.self (g.I.Source.left c.step.new.input) (ot, g.O.Sink.written c.step.new.out) (et, g.E.Sink.written c.step.new.err)) c.loop-turn.invariant.0 (c.in-Went.ensures.steps (sym_steps p s c.loop-turn.turn) ot et before) in
      subst (λ (x : SymState). IsState c.step.new.self (g.I.Source.left c.step.new.input) (ot, g.O.Sink.written c.step.new.out) (et, g.E.Sink.written c.step.new.err) x) (next_of p s c.loop-turn.turn) next.state,
)

pub returns-in-Exit-clause-runs : goal.returns-in-Exit-clause-runs
returns-in-Exit-clause-runs g c = λ s ot et h.
    let p = program_script c.args.self.now.program in
    let before = c.loop-turn.invariant.4 s ot et h in
    let next = subst (λ (x : ProgramView). StepsTo (program_script x) (step.Exit c.in-Exit.status) (sym_steps p s c.loop-turn.turn) c.step.new.self (g.I.Source.left c.step.new.input) (ot, g.O.Sink.written c.step.new.out) (et, g.E.Sink.written c.step.new.err)) c.loop-turn.invariant.0 (c.in-Exit.ensures.steps (sym_steps p s c.loop-turn.turn) ot et before) in
    runs_out p s c.loop-turn.turn c.args.steps c.step.new.self (g.I.Source.left c.step.new.input) (ot, g.O.Sink.written c.step.new.out) (et, g.E.Sink.written c.step.new.err) (omega arith) (step.Exit c.in-Exit.status) (ExitedWith c.in-Exit.status) (λ a. a) next

pub returns-in-Trap-clause-runs : goal.returns-in-Trap-clause-runs
returns-in-Trap-clause-runs g c = λ s ot et h.
    let p = program_script c.args.self.now.program in
    let before = c.loop-turn.invariant.4 s ot et h in
    let next = subst (λ (x : ProgramView). StepsTo (program_script x) (step.Trap c.in-Trap.kind c.in-Trap.at) (sym_steps p s c.loop-turn.turn) c.step.new.self (g.I.Source.left c.step.new.input) (ot, g.O.Sink.written c.step.new.out) (et, g.E.Sink.written c.step.new.err)) c.loop-turn.invariant.0 (c.in-Trap.ensures.steps (sym_steps p s c.loop-turn.turn) ot et before) in
    runs_out p s c.loop-turn.turn c.args.steps c.step.new.self (g.I.Source.left c.step.new.input) (ot, g.O.Sink.written c.step.new.out) (et, g.E.Sink.written c.step.new.err) (omega arith) (step.Trap c.in-Trap.kind c.in-Trap.at) (TrappedAt c.in-Trap.kind c.in-Trap.at) (λ a. a) next

pub returns-in-Observes-clause-runs : goal.returns-in-Observes-clause-runs
returns-in-Observes-clause-runs g c = λ s ot et h.
    let p = program_script c.args.self.now.program in
    let before = c.loop-turn.invariant.4 s ot et h in
    let next = subst (λ (x : ProgramView). StepsTo (program_script x) (step.Observes c.in-Observes.at) (sym_steps p s c.loop-turn.turn) c.step.new.self (g.I.Source.left c.step.new.input) (ot, g.O.Sink.written c.step.new.out) (et, g.E.Sink.written c.step.new.err)) c.loop-turn.invariant.0 (c.in-Observes.ensures.steps (sym_steps p s c.loop-turn.turn) ot et before) in
    runs_out p s c.loop-turn.turn c.args.steps c.step.new.self (g.I.Source.left c.step.new.input) (ot, g.O.Sink.written c.step.new.out) (et, g.E.Sink.written c.step.new.err) (omega arith) (step.Observes c.in-Observes.at) (ObservedAt c.in-Observes.at) (λ a. a) next

pub returns-in-ReadFault-clause-runs : goal.returns-in-ReadFault-clause-runs
returns-in-ReadFault-clause-runs g c = λ s ot et h.
    let p = program_script c.args.self.now.program in
    let before = c.loop-turn.invariant.4 s ot et h in
    let next = subst (λ (x : ProgramView). StepsTo (program_script x) step.ReadFault (sym_steps p s c.loop-turn.turn) c.step.new.self (g.I.Source.left c.step.new.input) (ot, g.O.Sink.written c.step.new.out) (et, g.E.Sink.written c.step.new.err)) c.loop-turn.invariant.0 (c.in-ReadFault.ensures.steps (sym_steps p s c.loop-turn.turn) ot et before) in
    read_failed p s c.loop-turn.turn c.args.steps c.step.new.self (g.I.Source.left c.step.new.input) (ot, g.O.Sink.written c.step.new.out) (et, g.E.Sink.written c.step.new.err) (omega arith) next

pub returns-in-WriteFault-clause-runs : goal.returns-in-WriteFault-clause-runs
returns-in-WriteFault-clause-runs g c = λ s ot et h.
    let p = program_script c.args.self.now.program in
    let before = c.loop-turn.invariant.4 s ot et h in
    let next = subst (λ (x : ProgramView). StepsTo (program_script x) step.WriteFault (sym_steps p s c.loop-turn.turn) c.step.new.self (g.I.Source.left c.step.new.input) (ot, g.O.Sink.written c.step.new.out) (et, g.E.Sink.written c.step.new.err)) c.loop-turn.invariant.0 (c.in-WriteFault.ensures.steps (sym_steps p s c.loop-turn.turn) ot et before) in
    write_failed p s c.loop-turn.turn c.args.steps c.step.new.self (g.I.Source.left c.step.new.input) (ot, g.O.Sink.written c.step.new.out) (et, g.E.Sink.written c.step.new.err) (omega arith) next

pub returns-in-NoMemory-clause-runs : goal.returns-in-NoMemory-clause-runs
returns-in-NoMemory-clause-runs g c = λ s ot et h.
    let p = program_script c.args.self.now.program in
    let before = c.loop-turn.invariant.4 s ot et h in
    let next = subst (λ (x : ProgramView). StepsTo (program_script x) step.NoMemory (sym_steps p s c.loop-turn.turn) c.step.new.self (g.I.Source.left c.step.new.input) (ot, g.O.Sink.written c.step.new.out) (et, g.E.Sink.written c.step.new.err)) c.loop-turn.invariant.0 (c.in-NoMemory.ensures.steps (sym_steps p s c.loop-turn.turn) ot et before) in
    wants_memory p s c.loop-turn.turn c.args.steps c.step.new.self (g.I.Source.left c.step.new.input) (ot, g.O.Sink.written c.step.new.out) (et, g.E.Sink.written c.step.new.err) (omega arith) next

pub returns-clause-runs : goal.returns-clause-runs
returns-clause-runs g c = λ s ot et h.
    let p = program_script c.args.self.now.program in
    let all : c.loop-turn.turn ≡ c.args.steps = omega (arith, c.loop-turn.auto.turn-end) in
    let here = subst (λ n. IsState c.loop-turn.self (g.I.Source.left c.loop-turn.input) (ot, g.O.Sink.written c.loop-turn.out) (et, g.E.Sink.written c.loop-turn.err) (sym_steps p s n)) all (c.loop-turn.invariant.4 s ot et h) in
    runs_through p s c.args.steps c.answered.result c.loop-turn.self (g.I.Source.left c.loop-turn.input) (ot, g.O.Sink.written c.loop-turn.out) (et, g.E.Sink.written c.loop-turn.err) c.answered.ensures.no_read_fault c.answered.ensures.no_write_fault c.answered.ensures.no_want c.answered.ensures.answer here
