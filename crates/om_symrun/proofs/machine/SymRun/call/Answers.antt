use Rattle.std.proofs.Common.{◌∙◌, ap, subst, sym, refl, inl, inr}
use Rattle.om_isa.specs.SystemCall.{Call, Puts}
use Rattle.om_value.specs.declared.value.Value.TheVariants.{Num}
use Rattle.om_prog.specs.Step.{calls}
use Rattle.om_symrun.specs.Calls.{IsState, FailsToPut, descriptor_number, span_bytes}
use Rattle.om_symrun.specs.View.{view_register}
use Rattle.om_symrun.specs.Memory.{heap_size}
use Rattle.om_symrun.specs.declared.requests.Descriptor.{Descriptor}
use Rattle.om_symrun.proofs.Calling.{answers_state, heap_end_state, resizes_state, same_state_is, puts_out, puts_err, fails_out, fails_err, length-region_bytes}
use Rattle.om_symrun.proofs.machine.SymRun.call.Goals as goal

pub returns-in-Answer-clause-calls : goal.returns-in-Answer-clause-calls
returns-in-Answer-clause-calls g c = λ s ot et h.
    subst (λ (k : Call). IsState c.answer.new.self (g.I.Source.left c.args.input.now) (ot, g.O.Sink.written c.args.out.now) (et, g.E.Sink.written c.args.err.now) (calls s s.place k (view_register c.args.self.now 17))) c.in-Answer.ensures.value
    (answers_state c.args.self.now c.answer.new.self (g.I.Source.left c.args.input.now) (ot, g.O.Sink.written c.args.out.now) (et, g.E.Sink.written c.args.err.now) s h (Num c.in-Answer.v0) c.in-Answer.a3 c.answer.ensures.state)

pub returns-in-HeapEnd-clause-calls : goal.returns-in-HeapEnd-clause-calls
returns-in-HeapEnd-clause-calls g c = λ s ot et h.
    subst (λ (k : Call). IsState c.answer_heap_end.new.self (g.I.Source.left c.args.input.now) (ot, g.O.Sink.written c.args.out.now) (et, g.E.Sink.written c.args.err.now) (calls s s.place k (view_register c.args.self.now 17))) c.in-HeapEnd.ensures.value
    (heap_end_state c.args.self.now c.answer_heap_end.new.self (g.I.Source.left c.args.input.now) (ot, g.O.Sink.written c.args.out.now) (et, g.E.Sink.written c.args.err.now) s h (heap_size c.args.self.now.memory) refl c.answer_heap_end.ensures.state)

pub returns-in-Ok-clause-calls : goal.returns-in-Ok-clause-calls
returns-in-Ok-clause-calls g c = λ s ot et h.
    subst (λ (k : Call). IsState c.resize.new.self (g.I.Source.left c.args.input.now) (ot, g.O.Sink.written c.args.out.now) (et, g.E.Sink.written c.args.err.now) (calls s s.place k (view_register c.args.self.now 17))) c.in-Resize.ensures.value
    (resizes_state c.args.self.now c.resize.new.self (g.I.Source.left c.args.input.now) (ot, g.O.Sink.written c.args.out.now) (et, g.E.Sink.written c.args.err.now) s h c.in-Resize.size c.in-Ok.ensures.state)

pub returns-in-Err-clause-calls : goal.returns-in-Err-clause-calls
returns-in-Err-clause-calls g c = λ s ot et h.
    same_state_is c.args.self.now c.resize.new.self (g.I.Source.left c.args.input.now) (ot, g.O.Sink.written c.args.out.now) (et, g.E.Sink.written c.args.err.now) s h c.in-Err.ensures.same

pub returns-then-take-clause-calls : goal.returns-then-take-clause-calls
returns-then-take-clause-calls g c = λ s ot et h.
    subst (λ (k : Call). IsState c.take.new.self (g.I.Source.left c.take.new.input) (ot, g.O.Sink.written c.args.out.now) (et, g.E.Sink.written c.args.err.now) (calls s s.place k (view_register c.args.self.now 17))) c.in-Take.ensures.value
    (c.if-take.ensures.taken refl s (ot, g.O.Sink.written c.args.out.now) (et, g.E.Sink.written c.args.err.now) h)

pub returns-else-take-clause-read_fault : goal.returns-else-take-clause-read_fault
returns-else-take-clause-read_fault g c = λ e.
    ((c.in-Take.span.count, sym c.in-Take.ensures.value), c.if-take.ensures.rose refl)

pub returns-then-put-clause-calls : goal.returns-then-put-clause-calls
returns-then-put-clause-calls g c = λ s ot et h.
    let value = ap (λ (d : Descriptor). Puts (descriptor_number d) (span_bytes c.args.self.now.memory c.in-Put-Out-default.span)) (sym c.in-Put-Out-default.field-0-is) ∙ c.in-Put-Out-default.ensures.value in
    let count = length-region_bytes c.args.self.now.memory c.in-Put-Out-default.span.region c.in-Put-Out-default.span.at c.in-Put-Out-default.span.count c.in-Put-Out-default.ensures.served.fits in
    subst (λ (k : Call). IsState c.put.new.self (g.I.Source.left c.args.input.now) (ot, g.O.Sink.written c.put.new.sink) (et, g.E.Sink.written c.args.err.now) (calls s s.place k (view_register c.args.self.now 17))) value
    (puts_out c.args.self.now c.put.new.self (g.I.Source.left c.args.input.now) ot (g.O.Sink.written c.args.out.now) (g.O.Sink.written c.put.new.sink) (et, g.E.Sink.written c.args.err.now) (span_bytes c.args.self.now.memory c.in-Put-Out-default.span) s c.in-Put-Out-default.span.count (view_register c.args.self.now 17) count (c.if-put.ensures.state refl) c.if-put.ensures.appends h)

pub returns-else-put-clause-calls : goal.returns-else-put-clause-calls
returns-else-put-clause-calls g c = λ s ot et h.
    let value = ap (λ (d : Descriptor). Puts (descriptor_number d) (span_bytes c.args.self.now.memory c.in-Put-Out-default.span)) (sym c.in-Put-Out-default.field-0-is) ∙ c.in-Put-Out-default.ensures.value in
    subst (λ (k : Call). FailsToPut k s c.put.new.self (g.I.Source.left c.args.input.now) (ot, g.O.Sink.written c.put.new.sink) (et, g.E.Sink.written c.args.err.now)) value
    (fails_out c.args.self.now c.put.new.self (g.I.Source.left c.args.input.now) ot (g.O.Sink.written c.args.out.now) (g.O.Sink.written c.put.new.sink) (et, g.E.Sink.written c.args.err.now) (span_bytes c.args.self.now.memory c.in-Put-Out-default.span) s (c.if-put.ensures.same refl) c.if-put.ensures.appends h)

pub returns-else-put-clause-write_fault : goal.returns-else-put-clause-write_fault
returns-else-put-clause-write_fault g c = λ e.
    let value = ap (λ (d : Descriptor). Puts (descriptor_number d) (span_bytes c.args.self.now.memory c.in-Put-Out-default.span)) (sym c.in-Put-Out-default.field-0-is) ∙ c.in-Put-Out-default.ensures.value in
    inl (((span_bytes c.args.self.now.memory c.in-Put-Out-default.span), sym value), c.if-put.ensures.rose refl)

pub returns-then-put-2-clause-calls : goal.returns-then-put-2-clause-calls
returns-then-put-2-clause-calls g c = λ s ot et h.
    let value = ap (λ (d : Descriptor). Puts (descriptor_number d) (span_bytes c.args.self.now.memory c.in-Put-Err-default.span)) (sym c.in-Put-Err-default.field-0-is) ∙ c.in-Put-Err-default.ensures.value in
    let count = length-region_bytes c.args.self.now.memory c.in-Put-Err-default.span.region c.in-Put-Err-default.span.at c.in-Put-Err-default.span.count c.in-Put-Err-default.ensures.served.fits in
    subst (λ (k : Call). IsState c.put-in-Put-Err-default.new.self (g.I.Source.left c.args.input.now) (ot, g.O.Sink.written c.args.out.now) (et, g.E.Sink.written c.put-in-Put-Err-default.new.sink) (calls s s.place k (view_register c.args.self.now 17))) value
    (puts_err c.args.self.now c.put-in-Put-Err-default.new.self (g.I.Source.left c.args.input.now) et (g.E.Sink.written c.args.err.now) (g.E.Sink.written c.put-in-Put-Err-default.new.sink) (ot, g.O.Sink.written c.args.out.now) (span_bytes c.args.self.now.memory c.in-Put-Err-default.span) s c.in-Put-Err-default.span.count (view_register c.args.self.now 17) count (c.if-put-2.ensures.state refl) c.if-put-2.ensures.appends h)

pub returns-else-put-2-clause-calls : goal.returns-else-put-2-clause-calls
returns-else-put-2-clause-calls g c = λ s ot et h.
    let value = ap (λ (d : Descriptor). Puts (descriptor_number d) (span_bytes c.args.self.now.memory c.in-Put-Err-default.span)) (sym c.in-Put-Err-default.field-0-is) ∙ c.in-Put-Err-default.ensures.value in
    subst (λ (k : Call). FailsToPut k s c.put-in-Put-Err-default.new.self (g.I.Source.left c.args.input.now) (ot, g.O.Sink.written c.args.out.now) (et, g.E.Sink.written c.put-in-Put-Err-default.new.sink)) value
    (fails_err c.args.self.now c.put-in-Put-Err-default.new.self (g.I.Source.left c.args.input.now) et (g.E.Sink.written c.args.err.now) (g.E.Sink.written c.put-in-Put-Err-default.new.sink) (ot, g.O.Sink.written c.args.out.now) (span_bytes c.args.self.now.memory c.in-Put-Err-default.span) s (c.if-put-2.ensures.same refl) c.if-put-2.ensures.appends h)

pub returns-else-put-2-clause-write_fault : goal.returns-else-put-2-clause-write_fault
returns-else-put-2-clause-write_fault g c = λ e.
    let value = ap (λ (d : Descriptor). Puts (descriptor_number d) (span_bytes c.args.self.now.memory c.in-Put-Err-default.span)) (sym c.in-Put-Err-default.field-0-is) ∙ c.in-Put-Err-default.ensures.value in
    inr (((span_bytes c.args.self.now.memory c.in-Put-Err-default.span), sym value), c.if-put-2.ensures.rose refl)
