use Rattle.std.proofs.Common.{◌<◌, [], length, ap, ◌∙◌, arith}
use Rattle.std.specs.Prelude.{unwrap_or}
use Rattle.std.proofs.lemmas.Option.{slice_get-get_or}
use Rattle.om_layout.proofs.Noted.{counts_step}
use Rattle.om_layout.proofs.laying.counts_of.Goals as goal

pub loop-obj-preserved : goal.loop-obj-preserved
loop-obj-preserved c =
    let v = c.objects-obj-end.ensures.value in
    let t = c.loop-obj-test.true in
    let texts = c.args.program.now.texts in
    let l : c.loop-obj.obj < length texts = omega (arith, v, t) in
    counts_step texts c.loop-obj.obj c.words.result c.loop-obj.counts.items c.push.new.self.items l c.loop-obj.invariant
    (c.words.ensures ∙ ap (λ o. length (unwrap_or o [])) (slice_get-get_or texts c.loop-obj.obj [] l)) c.in_ok-push.ensures.items
