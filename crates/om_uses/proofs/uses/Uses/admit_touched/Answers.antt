use Rattle.std.proofs.Common.{◌<◌, [], Option, Some, sym, subst}
use Rattle.om_value.specs.declared.value.Place.{Place}
use Rattle.om_uses.proofs.Fresh.{OnTouched, labels_left, touched_added, touched_fewer, have_added, roomier_both}
use Rattle.om_uses.proofs.uses.Uses.admit_touched.Goals as goal

on : (c : goal.After-next_touched-next-in-Some) → OnTouched c.args.g.now (Some c.in-Some.label) c.loop-next.fresh.items
on c = subst (λ (n : Option Place). OnTouched c.args.g.now n c.loop-next.fresh.items) c.in-Some.is c.loop-next.invariant.2

pub loop-next-smaller : goal.loop-next-smaller
loop-next-smaller c =
    subst (λ (n : Option Place). labels_left c.args.g.now c.next_touched-next-in-Some.result < labels_left c.args.g.now n) (sym c.in-Some.is)
    (touched_fewer c.args.g.now c.requires.graph c.in-Some.label c.next_touched-next-in-Some.result c.loop-next.fresh.items (on c) c.next_touched-next-in-Some.ensures)

pub loop-next-preserved : goal.loop-next-preserved
loop-next-preserved c = (
  roomier_both _ _ _ c.loop-next.invariant.0 c.add_fresh.ensures.same,
  have_added c.args.g.now c.loop-next.self c.add_fresh.new.self c.in-Some.label c.loop-next.fresh.items c.add_fresh.new.fresh.items c.add_fresh.ensures.same c.loop-next.invariant.1
      c.in_ok-add_fresh.ensures.added,
  touched_added c.args.g.now c.requires.graph c.add_fresh.new.self c.in-Some.label c.next_touched-next-in-Some.result c.loop-next.fresh.items c.add_fresh.new.fresh.items (on c)
      c.in_ok-add_fresh.ensures.added c.next_touched-next-in-Some.ensures,
  λ empty. let none = (c.loop-next.invariant.3 empty).0 in let some = c.in-Some.is in absurd (cc),
)
