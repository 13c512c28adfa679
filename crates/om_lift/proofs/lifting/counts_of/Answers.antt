use Rattle.std.proofs.Common.{arith}
use Rattle.om_lift.proofs.Sets.{counts_more}
use Rattle.om_lift.proofs.lifting.counts_of.Goals as goal

pub loop-obj-preserved : goal.loop-obj-preserved
loop-obj-preserved c =
    let v = c.objects-obj-end.ensures.value in
    let t = c.loop-obj-test.true in
    counts_more c.args.p.now c.loop-obj.obj c.words.result c.loop-obj.counts.items c.push.new.self.items (omega (arith, v, t)) c.loop-obj.invariant c.words.ensures c.in_ok-push.ensures.items
