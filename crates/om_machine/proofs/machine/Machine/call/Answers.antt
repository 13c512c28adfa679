use Rattle.std.proofs.Common.{◌+◌, ◌∙◌, ap, subst, sym, refl, slice_index}
use Rattle.om_isa.specs.SystemCall.{Call, Puts}
use Rattle.om_image.specs.NumState.{heap_base}
use Rattle.om_image.specs.NumAccess.{bytes_from}
use Rattle.om_image.specs.NumStep.{answers, calls}
use Rattle.om_machine.specs.Memory.{memory_of}
use Rattle.om_machine.specs.View.{View, state_of}
use Rattle.om_machine.specs.Calls.{IsState, FailsToPut, descriptor_number}
use Rattle.om_machine.specs.declared.requests.Descriptor.{Descriptor}
use Rattle.om_machine.proofs.Calling.{answers_state, resizes_state, puts_out, puts_err, fails_out, fails_err, length-bytes_from}
use Rattle.om_machine.proofs.machine.Machine.call.Goals as goal

pub returns-in-Answer-clause-calls : goal.returns-in-Answer-clause-calls
returns-in-Answer-clause-calls g c = λ s ot et h.
    subst (λ (k : Call). IsState c.answer.new.self (g.I.Source.left c.args.input.now) (ot, g.O.Sink.written c.args.out.now) (et, g.E.Sink.written c.args.err.now) (calls s k (slice_index c.args.self.now.registers 17))) c.in-Answer.ensures.value
    (answers_state c.args.self.now c.answer.new.self (g.I.Source.left c.args.input.now) (ot, g.O.Sink.written c.args.out.now) (et, g.E.Sink.written c.args.err.now) s c.in-Answer.v0 c.in-Answer.a3 c.answer.ensures.state h)

pub returns-in-HeapEnd-clause-calls : goal.returns-in-HeapEnd-clause-calls
returns-in-HeapEnd-clause-calls g c = λ s ot et h.
    let size = c.heap_size-size.ensures.value ∙ ap (λ (x : View). x.memory.heap_size) c.self.view_is in
    subst (λ (k : Call). IsState c.answer-in-HeapEnd.new.self (g.I.Source.left c.args.input.now) (ot, g.O.Sink.written c.args.out.now) (et, g.E.Sink.written c.args.err.now) (calls s k (slice_index c.args.self.now.registers 17))) c.in-HeapEnd.ensures.value
    (answers_state c.args.self.now c.answer-in-HeapEnd.new.self (g.I.Source.left c.args.input.now) (ot, g.O.Sink.written c.args.out.now) (et, g.E.Sink.written c.args.err.now) s (heap_base + c.args.self.now.memory.heap_size) 0 (λ i o e. c.answer-in-HeapEnd.ensures.state i o e ∙ ap (λ n. answers (state_of c.args.self.now i o e) (heap_base + n) 0) size) h)

pub returns-in-Resize-clause-calls : goal.returns-in-Resize-clause-calls
returns-in-Resize-clause-calls g c = λ s ot et h.
    subst (λ (k : Call). IsState c.resize.new.self (g.I.Source.left c.args.input.now) (ot, g.O.Sink.written c.args.out.now) (et, g.E.Sink.written c.args.err.now) (calls s k (slice_index c.args.self.now.registers 17))) c.in-Resize.ensures.value
    (resizes_state c.args.self.now c.resize.new.self (g.I.Source.left c.args.input.now) (ot, g.O.Sink.written c.args.out.now) (et, g.E.Sink.written c.args.err.now) s c.in-Resize.size (slice_index c.args.self.now.registers 17) c.resize.ensures.state h)

pub returns-then-take-clause-calls : goal.returns-then-take-clause-calls
returns-then-take-clause-calls g c = λ s ot et h.
    subst (λ (k : Call). IsState c.take.new.self (g.I.Source.left c.take.new.input) (ot, g.O.Sink.written c.args.out.now) (et, g.E.Sink.written c.args.err.now) (calls s k (slice_index c.args.self.now.registers 17))) c.in-Take.ensures.value
    (c.if-take.ensures.taken refl s (ot, g.O.Sink.written c.args.out.now) (et, g.E.Sink.written c.args.err.now) h)

pub returns-then-put-clause-calls : goal.returns-then-put-clause-calls
returns-then-put-clause-calls g c = λ s ot et h.
    let value = ap (λ (d : Descriptor). Puts (descriptor_number d) (bytes_from (memory_of c.args.self.now.memory) (slice_index c.args.self.now.registers 17) c.in-Put-Out-default.n)) (sym c.in-Put-Out-default.field-0-is) ∙ c.in-Put-Out-default.ensures.value in
    subst (λ (k : Call). IsState c.put.new.self (g.I.Source.left c.args.input.now) (ot, (g.O.Sink.written c.put.new.sink)) (et, g.E.Sink.written c.args.err.now) (calls s k (slice_index c.args.self.now.registers 17))) value
    (puts_out c.args.self.now c.put.new.self (g.I.Source.left c.args.input.now) ot (g.O.Sink.written c.args.out.now) (g.O.Sink.written c.put.new.sink) (et, g.E.Sink.written c.args.err.now) (bytes_from (memory_of c.args.self.now.memory) (slice_index c.args.self.now.registers 17) c.in-Put-Out-default.n) s c.in-Put-Out-default.n (length-bytes_from (memory_of c.args.self.now.memory) (slice_index c.args.self.now.registers 17) c.in-Put-Out-default.n) (c.if-put.ensures.state refl) c.if-put.ensures.appends h)

pub returns-else-put-clause-calls : goal.returns-else-put-clause-calls
returns-else-put-clause-calls g c = λ s ot et h.
    let value = ap (λ (d : Descriptor). Puts (descriptor_number d) (bytes_from (memory_of c.args.self.now.memory) (slice_index c.args.self.now.registers 17) c.in-Put-Out-default.n)) (sym c.in-Put-Out-default.field-0-is) ∙ c.in-Put-Out-default.ensures.value in
    subst (λ (k : Call). FailsToPut k s c.put.new.self (g.I.Source.left c.args.input.now) (ot, (g.O.Sink.written c.put.new.sink)) (et, g.E.Sink.written c.args.err.now)) value
    (fails_out c.args.self.now c.put.new.self (g.I.Source.left c.args.input.now) ot (g.O.Sink.written c.args.out.now) (g.O.Sink.written c.put.new.sink) (et, g.E.Sink.written c.args.err.now) (bytes_from (memory_of c.args.self.now.memory) (slice_index c.args.self.now.registers 17) c.in-Put-Out-default.n) s (c.if-put.ensures.same refl) c.if-put.ensures.appends h)

pub returns-then-put-2-clause-calls : goal.returns-then-put-2-clause-calls
returns-then-put-2-clause-calls g c = λ s ot et h.
    let value = ap (λ (d : Descriptor). Puts (descriptor_number d) (bytes_from (memory_of c.args.self.now.memory) (slice_index c.args.self.now.registers 17) c.in-Put-Err-default.n)) (sym c.in-Put-Err-default.field-0-is) ∙ c.in-Put-Err-default.ensures.value in
    subst (λ (k : Call). IsState c.put-in-Put-Err-default.new.self (g.I.Source.left c.args.input.now) (ot, g.O.Sink.written c.args.out.now) (et, (g.E.Sink.written c.put-in-Put-Err-default.new.sink)) (calls s k (slice_index c.args.self.now.registers 17))) value
    (puts_err c.args.self.now c.put-in-Put-Err-default.new.self (g.I.Source.left c.args.input.now) et (g.E.Sink.written c.args.err.now) (g.E.Sink.written c.put-in-Put-Err-default.new.sink) (ot, g.O.Sink.written c.args.out.now) (bytes_from (memory_of c.args.self.now.memory) (slice_index c.args.self.now.registers 17) c.in-Put-Err-default.n) s c.in-Put-Err-default.n (length-bytes_from (memory_of c.args.self.now.memory) (slice_index c.args.self.now.registers 17) c.in-Put-Err-default.n) (c.if-put-2.ensures.state refl) c.if-put-2.ensures.appends h)

pub returns-else-put-2-clause-calls : goal.returns-else-put-2-clause-calls
returns-else-put-2-clause-calls g c = λ s ot et h.
    let value = ap (λ (d : Descriptor). Puts (descriptor_number d) (bytes_from (memory_of c.args.self.now.memory) (slice_index c.args.self.now.registers 17) c.in-Put-Err-default.n)) (sym c.in-Put-Err-default.field-0-is) ∙ c.in-Put-Err-default.ensures.value in
    subst (λ (k : Call). FailsToPut k s c.put-in-Put-Err-default.new.self (g.I.Source.left c.args.input.now) (ot, g.O.Sink.written c.args.out.now) (et, (g.E.Sink.written c.put-in-Put-Err-default.new.sink))) value
    (fails_err c.args.self.now c.put-in-Put-Err-default.new.self (g.I.Source.left c.args.input.now) et (g.E.Sink.written c.args.err.now) (g.E.Sink.written c.put-in-Put-Err-default.new.sink) (ot, g.O.Sink.written c.args.out.now) (bytes_from (memory_of c.args.self.now.memory) (slice_index c.args.self.now.registers 17) c.in-Put-Err-default.n) s (c.if-put-2.ensures.same refl) c.if-put-2.ensures.appends h)
