use Rattle.std.proofs.Common.{◌||◌, ◌≤◌, List, length, arith, subst}
use Rattle.std.specs.List.{list_any}
use Rattle.std.proofs.lemmas.List.{take_all}
use Rattle.om_prog.specs.declared.item.Item.{Item}
use Rattle.om_graph.specs.Landing.{loads_place, branches_to}
use Rattle.om_lift.specs.Places.{AreMarks}
use Rattle.om_lift.proofs.Sets.{texts_more, few_words}
use Rattle.om_lift.proofs.marks.mark_words.Goals as goal

pub mark_text-requires : goal.mark_text-requires
mark_text-requires c = few_words c.args.p.now c.objects-obj-end.ensures.program c.loop-obj.obj

pub loop-obj-preserved : goal.loop-obj-preserved
loop-obj-preserved c named branched h =
    let i = c.loop-obj.invariant named branched h in
    let v = c.objects-obj-end.ensures.value in
    let t = c.loop-obj-test.true in
    texts_more c.args.p.now c.loop-obj.obj named branched c.mark_text.new.marks (omega (arith, v, t)) (c.mark_text.ensures _ _ i)

pub returns : goal.returns
returns c named branched h =
    let texts = c.args.p.now.texts in
    let v = c.objects-obj-end.ensures.value in
    let t = c.loop-obj-test.false in
    let l : length texts ≤ c.loop-obj.obj = omega (arith, v, t) in
    subst (λ (ts : List (List Item)). AreMarks c.args.p.now (λ q. named q || list_any (λ text. list_any (λ i. loads_place q i.role) text) ts) (λ q. branched q || list_any (λ text. list_any (λ i. branches_to q i.role) text) ts) c.loop-obj.marks) (take_all c.loop-obj.obj texts l)
    (c.loop-obj.invariant named branched h)
