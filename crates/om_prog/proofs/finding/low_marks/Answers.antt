use Rattle.std.proofs.Common.{◌<◌, length, arith}
use Rattle.std.specs.Prelude.{get_or}
use Rattle.std.proofs.lemmas.Bool.Decides.{nat_tests}
use Rattle.std.proofs.lemmas.Option.{slice_get-get_or}
use Rattle.om_prog.proofs.Found.{marks_step}
use Rattle.om_prog.proofs.finding.low_marks.Goals as goal

pub loop-i-preserved : goal.loop-i-preserved
loop-i-preserved c =
    let text = c.args.text.now in
    let below : c.loop-i.i < length text = grind (arith, nat_tests, c.loop-i-test.true) in
    let d = c.index-text-i.result in
    marks_step c.args.obj text c.loop-i.i (get_or text c.loop-i.i d) c.loop-i.marks.items c.mark.new.marks.items c.loop-i.invariant
    (slice_get-get_or text c.loop-i.i d below) c.mark.ensures.as_long c.mark.ensures.each
