use Rattle.std.proofs.Common.{Option, subst, arith}
use Rattle.std.specs.Prelude.{IfSome}
use Rattle.om_prog.specs.declared.item.Item.{Item}
use Rattle.om_encode.specs.Data.{RoleFits}
use Rattle.om_encode.proofs.Mapped.{few_words, roles_more}
use Rattle.om_encode.proofs.ranges.text_fits.Goals as goal

pub overflow_mul-k : goal.overflow_mul-k
overflow_mul-k c =
    let n = few_words c.args.program.now c.args.obj c.requires in
    let e = c.words-k-end.ensures in
    omega (arith, n, e)

pub loop-k-preserved : goal.loop-k-preserved
loop-k-preserved c =
    let e = c.words-k-end.ensures in
    let t = c.loop-k-test.true in
    roles_more c.args.program.now c.args.obj c.loop-k.k (omega (arith, e, t))
    (subst (λ (o : Option Item). IfSome o (λ (i : Item). RoleFits i.role)) c.item.ensures c.item_fits.ensures)
    c.loop-k.invariant
