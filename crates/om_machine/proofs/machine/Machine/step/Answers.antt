use Rattle.std.proofs.Common.{◌∙◌, ap, subst, sym, refl}
use Rattle.om_machine.specs.View.{View, HasImage, instr_at}
use Rattle.om_machine.specs.Streams.{Told}
use Rattle.om_machine.specs.Calls.{IsState}
use Rattle.om_machine.proofs.Stepping.{plain_steps, call_steps}
use Rattle.om_machine.proofs.machine.Machine.step.Goals as goal

pub returns-then-plain_step-clause-steps : goal.returns-then-plain_step-clause-steps
returns-then-plain_step-clause-steps g c = λ i s ot et image h.
    let v = c.plain_step.new.self in
    let same = c.if-plain_step.ensures.call refl in
    let left = g.I.Source.left c.args.input.now in
    let out : Told = (ot, g.O.Sink.written c.args.out.now) in
    let err : Told = (et, g.E.Sink.written c.args.err.now) in
    let here = subst (λ (x : View). IsState x left out err s) (sym same) h in
    let running = ap (λ (x : View). x.end) same ∙ c.if-plain_step.ensures.running refl in
    let at = ap (λ (x : View). instr_at x.code x.pc) same ∙ c.if-plain_step.ensures.callsys refl in
    call_steps i v c.call.new.self (subst (λ (x : View). HasImage i x) (sym same) image) s c.call.result left (g.I.Source.left c.call.new.input) out err (ot, g.O.Sink.written c.call.new.out) (et, g.E.Sink.written c.call.new.err) running at c.call.ensures.answer here (c.call.ensures.calls s ot et here)

pub returns-else-plain_step-clause-steps : goal.returns-else-plain_step-clause-steps
returns-else-plain_step-clause-steps g c = λ i s ot et image h.
    plain_steps i c.args.self.now c.plain_step.new.self image s c.answered.result (g.I.Source.left c.args.input.now) (ot, g.O.Sink.written c.args.out.now) (et, g.E.Sink.written c.args.err.now) (c.if-plain_step.ensures.state refl) c.answered.ensures.answer c.answered.ensures.no_read_fault c.answered.ensures.no_write_fault h

pub returns-else-plain_step-clause-read_fault : goal.returns-else-plain_step-clause-read_fault
returns-else-plain_step-clause-read_fault g c = λ e. absurd (c.answered.ensures.no_read_fault e)

pub returns-else-plain_step-clause-write_fault : goal.returns-else-plain_step-clause-write_fault
returns-else-plain_step-clause-write_fault g c = λ e. absurd (c.answered.ensures.no_write_fault e)
