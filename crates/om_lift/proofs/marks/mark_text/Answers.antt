use Rattle.std.proofs.Common.{◌||◌, ◌≤◌, List, length, arith, subst}
use Rattle.std.specs.List.{list_any}
use Rattle.std.proofs.lemmas.List.{take_all}
use Rattle.om_prog.specs.declared.item.Item.{Item}
use Rattle.om_prog.specs.View.{text_of}
use Rattle.om_graph.specs.Landing.{loads_place, branches_to}
use Rattle.om_lift.specs.Places.{AreMarks}
use Rattle.om_lift.proofs.Sets.{text_more, word_there}
use Rattle.om_lift.proofs.marks.mark_text.Goals as goal
use Rattle.om_lift.proofs.marks.mark_text.Goals.{in-Some, in_default}

pub overflow_mul-at : goal.overflow_mul-at
overflow_mul-at c =
    let w = c.words-word-end.ensures in
    let r = c.requires in
    let t = c.loop-word-test.true in
    omega (arith, w, r, t)

pub loop-word-preserved : goal.loop-word-preserved
loop-word-preserved c named branched h =
    let i = c.loop-word.invariant named branched h in
    let e = c.words-word-end.ensures in
    let t = c.loop-word-test.true in
    elim c.match-item.branch [
      | in-Some w ↦ text_more c.args.p.now c.args.obj c.loop-word.word c.item.result w.in-Some.item named branched w.mark.new.self c.match-item.marks c.item.ensures w.in-Some.is w.marks-is (w.mark.ensures c.args.p.now _ _ i)
      | in_default w ↦ absurd (word_there c.args.p.now c.args.obj c.loop-word.word c.item.result c.item.ensures w.in_default.is (omega (arith, e, t)))
    ]

pub returns : goal.returns
returns c named branched h =
    let text = text_of c.args.p.now c.args.obj in
    let e = c.words-word-end.ensures in
    let t = c.loop-word-test.false in
    let l : length text ≤ c.loop-word.word = omega (arith, e, t) in
    subst (λ (is : List Item). AreMarks c.args.p.now (λ q. named q || list_any (λ i. loads_place q i.role) is) (λ q. branched q || list_any (λ i. branches_to q i.role) is) c.loop-word.marks) (take_all c.loop-word.word text l)
    (c.loop-word.invariant named branched h)
