use Rattle.std.proofs.Common.{◌<◌, ◌≤◌, length, refl, arith}
use Rattle.std.proofs.lemmas.Bool.Decides.{nat_tests}
use Rattle.std.proofs.lemmas.Option.{slice_get_read}
use Rattle.om_prog.specs.Valid.{IsItem}
use Rattle.om_prog.specs.Making.{word_place}
use Rattle.om_prog.proofs.Every.{step_each, all_each, yes, no_way, denied, named_is}
use Rattle.om_prog.proofs.items.are_items.Goals as goal

pub returns-then-not-is_item : goal.returns-then-not-is_item
returns-then-not-is_item c v known =
    let text = c.args.text.now in
    let below : c.loop-i.i < length text = grind (arith, nat_tests, c.loop-i-test.true) in
    let x = c.index-text-i.result in
    let found = slice_get_read text (length text) c.loop-i.i x refl below c.index-text-i.is in
    no_way (λ all. denied c.is_item.result c.if-not-is_item.true (c.is_item.ensures v text known (named_is c.args.obj text c.args.marks.now c.loop-i.i c.requires.marked below)) (all.each c.loop-i.i x found))

pub loop-i-preserved : goal.loop-i-preserved
loop-i-preserved c v known =
    let text = c.args.text.now in
    let below : c.loop-i.i < length text = grind (arith, nat_tests, c.loop-i-test.true) in
    let x = c.index-text-i.result in
    let found = slice_get_read text (length text) c.loop-i.i x refl below c.index-text-i.is in
    step_each (λ k i. IsItem v text (word_place c.args.obj k) i) text c.loop-i.i x found (c.loop-i.invariant v known)
    ((c.is_item.ensures v text known (named_is c.args.obj text c.args.marks.now c.loop-i.i c.requires.marked below)).0 c.if-not-is_item.false)

pub returns : goal.returns
returns c v known =
    let text = c.args.text.now in
    let long : length text ≤ c.loop-i.i = grind (arith, nat_tests, c.loop-i-test.false) in
    yes (record { each = all_each (λ k i. IsItem v text (word_place c.args.obj k) i) text c.loop-i.i long (c.loop-i.invariant v known) })
