use Rattle.std.proofs.Common.{arith}
use Rattle.om_encode.proofs.MapWalks.{texts_step, texts_end}
use Rattle.om_encode.proofs.map_walk.map_words_of.Goals as goal

pub loop-obj-preserved : goal.loop-obj-preserved
loop-obj-preserved c =
    let e = c.objects-obj-end.ensures.value in
    let t = c.loop-obj-test.true in
    texts_step c.args.layout.now c.args.program.now c.loop-obj.obj c.loop-obj.words.items c.add_text.new.words.items
    (omega (arith, e, t)) c.loop-obj.invariant c.in_ok-add_text.ensures

pub returns : goal.returns
returns c =
    let e = c.objects-obj-end.ensures.value in
    let t = c.loop-obj-test.false in
    texts_end c.args.layout.now c.args.program.now c.loop-obj.obj c.loop-obj.words.items c.loop-obj.invariant (omega (arith, e, t))
