use Rattle.std.proofs.Common.{◌∙◌, [], ◌∷◌, ◌++◌, Vec, Global, sym, ap, arith}
use Rattle.om_image.specs.declared.map.MapWord.{MapWord}
use Rattle.om_encode.proofs.MapWalks.{few_words, item_there, words_step, words_end}
use Rattle.om_encode.proofs.map_walk.add_text.Goals as goal
use Rattle.om_encode.proofs.map_walk.add_text.Goals.{in-Some+in_ok-push, in_default}

pub overflow_mul-at : goal.overflow_mul-at
overflow_mul-at c =
    let f = few_words c.args.program.now c.requires c.args.obj in
    let e = c.words-word-end.ensures in
    let t = c.loop-word-test.true in
    omega (arith, f, e, t)

pub loop-word-preserved : goal.loop-word-preserved
loop-word-preserved c =
    let e = c.words-word-end.ensures in
    let t = c.loop-word-test.true in
    elim c.match-item.branch [
      | in-Some+in_ok-push w ↦
          words_step c.args.layout.now c.args.program.now c.args.obj c.loop-word.word w.in-Some.item c.args.words.now.items
          c.loop-word.words.items c.match-item.words.items (sym c.item.ensures ∙ w.in-Some.is) c.loop-word.invariant
          (ap (λ (v : Vec MapWord Global). v.items) w.words-is ∙ w.in_ok-push.ensures.items
          ∙ ap (λ (x : MapWord). c.loop-word.words.items ++ x ∷ []) w.word_at.ensures)
      | in_default w ↦ absurd (item_there c.args.program.now c.args.obj c.loop-word.word c.item.result c.item.ensures w.in_default.is (omega (arith, e, t)))
    ]

pub returns : goal.returns
returns c =
    let e = c.words-word-end.ensures in
    let t = c.loop-word-test.false in
    words_end c.args.layout.now c.args.program.now c.args.obj c.loop-word.word c.args.words.now.items c.loop-word.words.items
    c.loop-word.invariant (omega (arith, e, t))
