use Rattle.std.proofs.Common.{arith}
use Rattle.om_encode.proofs.Mapped.{texts_all}
use Rattle.om_encode.proofs.ranges.texts_fit.Goals as goal

pub returns : goal.returns
returns c =
    texts_all c.args.program.now
    (λ j h. c.loop-obj.invariant j (let t = c.loop-obj-test.false in let e = c.objects-obj-end.ensures.value in omega (arith, h, t, e)))
