use Rattle.std.proofs.Common.{ℕ, ◌∙◌, ap, subst, Ok, Err}
use Rattle.om_value.specs.declared.value.Value.TheVariants.{Num}
use Rattle.om_prog.specs.Step.{answers}
use Rattle.om_symrun.specs.Streams.{Takes}
use Rattle.om_symrun.specs.View.{View, state_of, view_register}
use Rattle.om_symrun.proofs.States.{memory_kept, with_memory}
use Rattle.om_symrun.proofs.Calling.{takes, fails}
use Rattle.om_symrun.proofs.machine.SymRun.take.Goals as goal

pub invariant_of-self : goal.invariant_of-self
invariant_of-self g c =
    memory_kept c.self.inside.program.now c.self.inside.memory c.take_all.new.memory c.self.invariant c.in-Ok.ensures.sizes

pub invariant_of-self-in-Err : goal.invariant_of-self-in-Err
invariant_of-self-in-Err g c =
    memory_kept c.self.inside.program.now c.self.inside.memory c.take_all.new.memory c.self.invariant c.in-Err.ensures.sizes

pub returns-in-Ok-clause-taken : goal.returns-in-Ok-clause-taken
returns-in-Ok-clause-taken g c = λ _ s told_out told_err h.
    let m = c.take_all.new.memory in
    let left = g.I.Source.left c.take_all.new.source in
    let t = subst (λ (x : View). Takes {E = ℕ} x.memory m c.args.span.region c.args.span.at c.args.span.count s.input left (Ok c.in-Ok.taken)) c.self.view_is (c.in-Ok.ensures.taken s.input h.input) in
    takes c.args.self.now c.answer.new.self m c.args.span.region c.args.span.at c.args.span.count (g.I.Source.left c.args.input.now) left told_out told_err s c.in-Ok.taken (view_register c.args.self.now 17) c.requires.span.here
    (λ i o e. c.answer.ensures.state i o e ∙ ap (λ (x : View). answers (state_of (with_memory x m) i o e) x.place (Num c.in-Ok.taken) 0) c.self.view_is) t h

pub returns-in-Err-clause-failed : goal.returns-in-Err-clause-failed
returns-in-Err-clause-failed g c = λ _ s told_out told_err h.
    let m = c.take_all.new.memory in
    let left = g.I.Source.left c.take_all.new.source in
    let t = subst (λ (x : View). Takes {E = Unit {0}} x.memory m c.args.span.region c.args.span.at c.args.span.count s.input left (Err tt)) c.self.view_is (c.in-Err.ensures.taken s.input h.input) in
    fails c.args.self.now _ m c.args.span.region c.args.span.at c.args.span.count (g.I.Source.left c.args.input.now) left told_out told_err s (view_register c.args.self.now 17) c.requires.span.here
    (λ i o e. ap (λ (x : View). state_of (with_memory x m) i o e) c.self.view_is) t h
