use Rattle.std.proofs.Common.{◌∙◌, ap, subst, sym, Ok}
use Rattle.om_symrun.specs.Calls.{IsState, CallsTo}
use Rattle.om_symrun.specs.Streams.{Told}
use Rattle.om_symrun.specs.View.{View, state_of}
use Rattle.om_symrun.proofs.Stepping.{plain_steps, call_steps, want_steps}
use Rattle.om_symrun.proofs.machine.SymRun.step.Goals as goal

pub returns-in-Ok-true-clause-steps : goal.returns-in-Ok-true-clause-steps
returns-in-Ok-true-clause-steps g c = λ s ot et h.
    let left = g.I.Source.left c.args.input.now in
    let out : Told = (ot, g.O.Sink.written c.args.out.now) in
    let err : Told = (et, g.E.Sink.written c.args.err.now) in
    let is = ap Ok c.in-Ok-true.field-0-test in
    let same = c.in-Ok-true.ensures.call is in
    let here = subst (λ (x : View). IsState x left out err s) (sym same) h in
    call_steps c.args.self.now c.call.new.self s c.call.result left (g.I.Source.left c.call.new.input) out err (ot, g.O.Sink.written c.call.new.out) (et, g.E.Sink.written c.call.new.err)
    (c.in-Ok-true.ensures.callsys is) c.call.ensures.answer h
    (subst (λ (x : View). CallsTo x c.call.result s c.call.new.self (g.I.Source.left c.call.new.input) (ot, g.O.Sink.written c.call.new.out) (et, g.E.Sink.written c.call.new.err)) same (c.call.ensures.calls s ot et here))

pub returns-in-Ok-false-clause-steps : goal.returns-in-Ok-false-clause-steps
returns-in-Ok-false-clause-steps g c = λ s ot et h.
    plain_steps c.args.self.now c.plain_step.new.self s c.answered.result (g.I.Source.left c.args.input.now) (ot, g.O.Sink.written c.args.out.now) (et, g.E.Sink.written c.args.err.now)
    (c.in-Ok-false.ensures.state (ap Ok c.in-Ok-false.field-0-test)) c.answered.ensures.answer c.answered.ensures.no_read_fault c.answered.ensures.no_write_fault c.answered.ensures.no_want h

pub returns-in-Err-clause-steps : goal.returns-in-Err-clause-steps
returns-in-Err-clause-steps g c = λ s ot et h.
    want_steps c.args.self.now c.plain_step.new.self s (g.I.Source.left c.args.input.now) (ot, g.O.Sink.written c.args.out.now) (et, g.E.Sink.written c.args.err.now)
    c.in-Err.ensures.same (c.in-Err.ensures.end_kept ∙ c.in-Err.ensures.running) h

pub returns-in-Ok-true-clause-kept : goal.returns-in-Ok-true-clause-kept
returns-in-Ok-true-clause-kept g c = λ e l o r.
    c.call.ensures.kept e l o r ∙ ap (λ (x : View). state_of x l o r) (c.in-Ok-true.ensures.call (ap Ok c.in-Ok-true.field-0-test))
