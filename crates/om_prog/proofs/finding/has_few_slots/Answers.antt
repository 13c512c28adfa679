use Rattle.std.proofs.Common.{◌<◌, List, take, length, refl, sym, ap, subst, arith}
use Rattle.std.proofs.lemmas.Bool.Decides.{nat_tests}
use Rattle.std.proofs.lemmas.Option.{slice_get_read}
use Rattle.om_value.specs.declared.value.Target.{Target}
use Rattle.om_prog.specs.Valid.{slots}
use Rattle.om_prog.specs.Making.{HasSlots}
use Rattle.om_prog.proofs.Found.{slots_step}
use Rattle.om_prog.proofs.finding.has_few_slots.Goals.{then-branch, else-branch}
use Rattle.om_prog.proofs.finding.has_few_slots.Goals as goal

pub loop-i-preserved : goal.loop-i-preserved
loop-i-preserved c =
    let text = c.args.text.now in
    let below : c.loop-i.i < length text = grind (arith, nat_tests, c.loop-i-test.true) in
    let d = c.index-text-i.result in
    let ts = slots (take c.loop-i.i text) in
    let step = slots_step text c.loop-i.i d (slice_get_read text (length text) c.loop-i.i d refl below c.index-text-i.is) in
    let longer = ap (λ us. length us) step in
    let more = c.in_ok-note.ensures.count ts c.loop-i.invariant.0 in
    let was = c.loop-i.invariant.1 in
    let small = c.loop-i.invariant.2 in (
      subst (λ (us : List Target). HasSlots c.note.new.seen us) (sym step) (c.in_ok-note.ensures.slots ts c.loop-i.invariant.0),
      elim c.if-branch.branch [
        | then-branch w ↦ (let t = w.if-branch in let n = w.count-is in grind (arith, longer, more, was, t, n))
        | else-branch w ↦ (let t = w.if-branch in let n = w.count-is in grind (arith, longer, more, was, t, n))
      ],
      elim c.if-branch.branch [
        | then-branch w ↦ (let n = w.count-is in grind (arith, small, n))
        | else-branch w ↦ (let n = w.count-is in grind (arith, small, n))
      ],
    )
