use Rattle.std.proofs.Common.{ℕ, ◌+◌, [], Option, Some, sym, subst, ◌∙◌, arith}
use Rattle.std.specs.Prelude.{get_or}
use Rattle.std.proofs.lemmas.Option.{slice_get-get_or}
use Rattle.om_graph.specs.View.{GraphView}
use Rattle.om_lift.proofs.Sets.{few_words, word_there}
use Rattle.om_lift.proofs.Texts.{Lifting, word_lifted, text_lifted}
use Rattle.om_lift.proofs.lifting.lift_text.Goals as goal
use Rattle.om_lift.proofs.lifting.lift_text.Goals.{in-Some+in_ok-lift_word, in_default}

pub overflow_mul-at : goal.overflow_mul-at
overflow_mul-at c =
    let f = few_words c.args.p.now c.requires.program c.args.obj in
    let e = c.words-word-end.ensures in
    let t = c.loop-word-test.true in
    omega (arith, f, e, t)

pub lift_word-requires-clause-room : goal.lift_word-requires-clause-room
lift_word-requires-clause-room c =
    let f = few_words c.args.p.now c.requires.program c.args.obj in
    let e = c.words-word-end.ensures in
    let t = c.loop-word-test.true in
    omega (arith, f, e, t)

pub loop-word-preserved : goal.loop-word-preserved
loop-word-preserved c =
    let e = c.words-word-end.ensures in
    let t = c.loop-word-test.true in
    elim c.match-item.branch [
      | in-Some+in_ok-lift_word w ↦
          let p = c.args.p.now in
          let k = c.loop-word.word in
          let h = c.loop-word.invariant in
          let texts = slice_get-get_or p.texts c.args.obj [] c.requires.object in
          subst (λ (o : Option ℕ). Lifting p c.args.obj (k + 1) o c.match-item.graph) (sym w.block-is)
          (subst (λ (g : GraphView). Lifting p c.args.obj (k + 1) (Some w.in_ok-lift_word.field-0) g) (sym w.graph-is)
          (word_lifted p c.requires.program c.args.obj k (get_or p.texts c.args.obj []) w.in-Some.item c.loop-word.block w.in_ok-lift_word.field-0 c.loop-word.graph w.lift_word.new.graph texts
          (sym c.item.ensures ∙ w.in-Some.is) h (w.in_ok-lift_word.ensures _ h.holds h.ends)))
      | in_default w ↦ absurd (word_there c.args.p.now c.args.obj c.loop-word.word c.item.result c.item.ensures w.in_default.is (omega (arith, e, t)))
    ]

pub returns : goal.returns
returns c =
    let e = c.words-word-end.ensures in
    let t = c.loop-word-test.false in
    let o = c.requires.object in
    text_lifted c.args.p.now c.args.obj c.loop-word.word c.loop-word.block c.loop-word.graph o (omega (arith, e, t)) c.loop-word.invariant
