use Rattle.std.proofs.Common.{◌≤◌, length, Some, refl, sym, ap, ◌∙◌, arith}
use Rattle.std.specs.List.{slice_get}
use Rattle.std.proofs.lemmas.Bool.Decides.{nat_tests}
use Rattle.om_prog.specs.Valid.{IsText}
use Rattle.om_prog.proofs.Every.{step_each, all_each, yes, no_way, denied}
use Rattle.om_prog.proofs.Texts.{text_found, as_many}
use Rattle.om_prog.proofs.items.are_texts.Goals as goal

pub returns-then-not-branch : goal.returns-then-not-branch
returns-then-not-branch c v known =
    let vs = c.args.known.now.texts.now in
    let x = c.index-known-obj.result in
    let found = ap (λ ts. slice_get ts c.loop-obj.obj) known.texts ∙ text_found vs vs c.loop-obj.obj x refl c.loop-obj-test.true c.index-known-obj.is ∙ ap (λ w. Some w.items) c.index-known-obj.is ∙ ap (λ ys. Some ys) (sym c.as_slice-text.ensures.value) in
    no_way (λ all. denied c.in_ok-is_text.field-0 c.if-not-branch.true (c.in_ok-is_text.ensures v known) (all.each c.loop-obj.obj c.as_slice-text.result.now found))

pub loop-obj-preserved : goal.loop-obj-preserved
loop-obj-preserved c v known =
    let vs = c.args.known.now.texts.now in
    let x = c.index-known-obj.result in
    let found = ap (λ ts. slice_get ts c.loop-obj.obj) known.texts ∙ text_found vs vs c.loop-obj.obj x refl c.loop-obj-test.true c.index-known-obj.is ∙ ap (λ w. Some w.items) c.index-known-obj.is ∙ ap (λ ys. Some ys) (sym c.as_slice-text.ensures.value) in
    step_each (λ k text. IsText v k text) v.texts c.loop-obj.obj c.as_slice-text.result.now found (c.loop-obj.invariant v known)
    ((c.in_ok-is_text.ensures v known).0 c.if-not-branch.false)

pub returns : goal.returns
returns c v known =
    let vs = c.args.known.now.texts.now in
    let many = ap (λ ts. length ts) known.texts ∙ as_many vs in
    let over = c.loop-obj-test.false in
    let long : length v.texts ≤ c.loop-obj.obj = grind (arith, nat_tests, over, many) in
    yes (record { each = all_each (λ k text. IsText v k text) v.texts c.loop-obj.obj long (c.loop-obj.invariant v known) })
