use Rattle.std.proofs.Common.{◌≡◌, false, length, replicate, arith, ap, ◌∙◌}
use Rattle.std.proofs.lemmas.Grind.{common_steps}
use Rattle.om_lift.proofs.Sets.{row_push, empty_set}
use Rattle.om_lift.proofs.places.PlaceSet.new.Goals as goal

pub loop-obj-preserved : goal.loop-obj-preserved
loop-obj-preserved c = record {
  many = grind (arith, common_steps);
  empty = row_push c.args.p.now c.loop-obj.rows.items c.push.new.self.items c.in_ok-vec.field-0 c.loop-obj.obj
      c.in_ok-push.ensures.items c.loop-obj.invariant.many c.loop-obj.invariant.empty (c.in_ok-vec.ensures.items_if_clones_equal (λ y e. e) ∙ ap (λ n. replicate n false) c.words.ensures);
}

pub returns : goal.returns
returns c =
    let n = c.loop-obj.invariant.many in
    let v = c.objects-obj-end.ensures.value in
    let t = c.loop-obj-test.false in
    let e = c.loop-obj.auto.obj-end in
    let m : c.loop-obj.obj ≡ length c.args.p.now.texts = omega (arith, v, t, e) in
    empty_set c.args.p.now _ (n ∙ m) (λ k h. c.loop-obj.invariant.empty k (omega (arith, m, h)))
