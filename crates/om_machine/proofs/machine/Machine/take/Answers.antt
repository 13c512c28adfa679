use Rattle.std.proofs.Common.{◌≡◌, ℕ, ◌∙◌, ap, subst, Ok, Err, slice_index}
use Rattle.om_image.specs.NumStep.{answers}
use Rattle.om_machine.specs.Streams.{Takes}
use Rattle.om_machine.specs.View.{View, state_of}
use Rattle.om_machine.proofs.Calling.{takes, fails}
use Rattle.om_machine.proofs.machine.Machine.take.Goals as goal

pub returns-in-Ok-clause-taken : goal.returns-in-Ok-clause-taken
returns-in-Ok-clause-taken g c = λ _ s told_out told_err h.
    let m = c.take_all.new.memory in
    let left = g.I.Source.left c.take_all.new.source in
    let t = subst (λ (x : View). Takes {E = ℕ} x.memory m (slice_index x.registers 17) c.args.count s.input left (Ok c.in-Ok.taken)) c.self.view_is (c.in-Ok.ensures.taken s.input h.input) in
    let size = subst (λ (x : View). m.heap_size ≡ x.memory.heap_size) c.self.view_is c.in-Ok.ensures.heap in
    takes c.args.self.now c.answer.new.self m (slice_index c.args.self.now.registers 17) c.args.count _ left told_out told_err size s c.in-Ok.taken (λ i o e. c.answer.ensures.state i o e ∙ ap (λ (x : View). answers (state_of (record x { memory = m }) i o e) c.in-Ok.taken 0) c.self.view_is) t h

pub returns-in-Err-clause-failed : goal.returns-in-Err-clause-failed
returns-in-Err-clause-failed g c = λ _ s told_out told_err h.
    let m = c.take_all.new.memory in
    let left = g.I.Source.left c.take_all.new.source in
    let t = subst (λ (x : View). Takes {E = Unit {0}} x.memory m (slice_index x.registers 17) c.args.count s.input left (Err tt)) c.self.view_is (c.in-Err.ensures.taken s.input h.input) in
    let size = subst (λ (x : View). m.heap_size ≡ x.memory.heap_size) c.self.view_is c.in-Err.ensures.heap in
    fails c.args.self.now _ m (slice_index c.args.self.now.registers 17) c.args.count _ left told_out told_err size s (λ i o e. ap (λ (x : View). state_of (record x { memory = m }) i o e) c.self.view_is) t h
