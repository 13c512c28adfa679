use Rattle.std.proofs.Common.{◌≡◌, ◌∙◌, subst, refl, arith}
use Rattle.om_image.specs.NumState.{NumState, Exited, Trapped}
use Rattle.om_image.specs.NumRun.{num_steps}
use Rattle.om_machine.specs.Calls.{IsState}
use Rattle.om_machine.specs.declared.machine.Step.TheVariants as step
use Rattle.om_machine.proofs.Running.{next_of, runs_out, read_failed, write_failed, runs_through}
use Rattle.om_machine.proofs.machine.Machine.run.Goals as goal

pub loop-turn-preserved : goal.loop-turn-preserved
loop-turn-preserved g c = (
  λ i image. c.in-Went.ensures.image i (c.loop-turn.invariant.0 i image),
  c.in-Went.ensures.no_read_fault (λ e. cc) ∙ c.loop-turn.invariant.1,
  (c.in-Went.ensures.no_write_fault (λ e. cc)).0 ∙ c.loop-turn.invariant.2,
  (c.in-Went.ensures.no_write_fault (λ e. cc)).1 ∙ c.loop-turn.invariant.3,
  λ i s ot et image h.
      let before = c.loop-turn.invariant.4 i s ot et image h in
      let next = c.in-Went.ensures.steps i (num_steps i s c.loop-turn.turn) ot et (c.loop-turn.invariant.0 i image) before in
      subst (λ (x : NumState). IsState c.step.new.self (g.I.Source.left c.step.new.input) (ot, g.O.Sink.written c.step.new.out) (et, g.E.Sink.written c.step.new.err) x) (next_of i s c.loop-turn.turn) next.state,
)

pub returns-in-Exit-clause-runs : goal.returns-in-Exit-clause-runs
returns-in-Exit-clause-runs g c = λ i s ot et image h.
    let before = c.loop-turn.invariant.4 i s ot et image h in
    runs_out i s c.loop-turn.turn c.args.steps c.step.new.self (g.I.Source.left c.step.new.input) (ot, g.O.Sink.written c.step.new.out) (et, g.E.Sink.written c.step.new.err) (omega arith) (step.Exit c.in-Exit.status) (Exited c.in-Exit.status) (λ a. a) (c.in-Exit.ensures.steps i (num_steps i s c.loop-turn.turn) ot et (c.loop-turn.invariant.0 i image) before)

pub returns-in-Trap-clause-runs : goal.returns-in-Trap-clause-runs
returns-in-Trap-clause-runs g c = λ i s ot et image h.
    let before = c.loop-turn.invariant.4 i s ot et image h in
    runs_out i s c.loop-turn.turn c.args.steps c.step.new.self (g.I.Source.left c.step.new.input) (ot, g.O.Sink.written c.step.new.out) (et, g.E.Sink.written c.step.new.err) (omega arith) (step.Trap c.in-Trap.kind c.in-Trap.at) (Trapped c.in-Trap.kind c.in-Trap.at) (λ a. a) (c.in-Trap.ensures.steps i (num_steps i s c.loop-turn.turn) ot et (c.loop-turn.invariant.0 i image) before)

pub returns-in-ReadFault-clause-runs : goal.returns-in-ReadFault-clause-runs
returns-in-ReadFault-clause-runs g c = λ i s ot et image h.
    let before = c.loop-turn.invariant.4 i s ot et image h in
    read_failed i s c.loop-turn.turn c.args.steps c.step.new.self (g.I.Source.left c.step.new.input) (ot, g.O.Sink.written c.step.new.out) (et, g.E.Sink.written c.step.new.err) (omega arith) (c.in-ReadFault.ensures.steps i (num_steps i s c.loop-turn.turn) ot et (c.loop-turn.invariant.0 i image) before)

pub returns-in-WriteFault-clause-runs : goal.returns-in-WriteFault-clause-runs
returns-in-WriteFault-clause-runs g c = λ i s ot et image h.
    let before = c.loop-turn.invariant.4 i s ot et image h in
    write_failed i s c.loop-turn.turn c.args.steps c.step.new.self (g.I.Source.left c.step.new.input) (ot, g.O.Sink.written c.step.new.out) (et, g.E.Sink.written c.step.new.err) (omega arith) (c.in-WriteFault.ensures.steps i (num_steps i s c.loop-turn.turn) ot et (c.loop-turn.invariant.0 i image) before)

pub returns-clause-runs : goal.returns-clause-runs
returns-clause-runs g c = λ i s ot et image h.
    let all : c.loop-turn.turn ≡ c.args.steps = omega (arith, c.loop-turn.auto.turn-end) in
    let here = subst (λ n. IsState c.loop-turn.self (g.I.Source.left c.loop-turn.input) (ot, g.O.Sink.written c.loop-turn.out) (et, g.E.Sink.written c.loop-turn.err) (num_steps i s n)) all (c.loop-turn.invariant.4 i s ot et image h) in
    runs_through i s c.args.steps c.answered.result c.loop-turn.self (g.I.Source.left c.loop-turn.input) (ot, g.O.Sink.written c.loop-turn.out) (et, g.E.Sink.written c.loop-turn.err) c.answered.ensures.no_read_fault c.answered.ensures.no_write_fault c.answered.ensures.answer here

pub loop-turn-init : goal.loop-turn-init
unfolding num_steps
loop-turn-init g c = (λ i image. image, refl, refl, refl, λ i s ot et image h. h)
