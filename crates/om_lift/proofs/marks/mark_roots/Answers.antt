use Rattle.std.proofs.Common.{◌||◌, ◌≤◌, List, length, subst}
use Rattle.std.specs.List.{list_any}
use Rattle.std.proofs.lemmas.List.{take_all}
use Rattle.std.proofs.lemmas.Option.{slice_get-get_or}
use Rattle.om_value.specs.declared.value.Place.{Place}
use Rattle.om_value.specs.Same.{place_eq}
use Rattle.om_lift.specs.Places.{AreMarks}
use Rattle.om_lift.proofs.Sets.{roots_more}
use Rattle.om_lift.proofs.marks.mark_roots.Goals as goal

pub loop-root-preserved : goal.loop-root-preserved
loop-root-preserved c p named branched h =
    let i = c.loop-root.invariant p named branched h in
    let rs = c.args.roots.now in
    let n = c.insert.ensures.now in
    roots_more p rs c.loop-root.root-index _ named branched c.loop-root.marks c.insert.new.self
    (slice_get-get_or rs c.loop-root.root-index (record { obj = 0; off = 0 }) c.loop-root-test.true) i (record { now = n; sized = c.insert.ensures.sized })

pub returns : goal.returns
returns c p named branched h =
    let rs = c.args.roots.now in
    let t : length rs ≤ c.loop-root.root-index = c.loop-root-test.false in
    subst (λ (xs : List Place). AreMarks p (λ q. list_any (λ r. place_eq r q) xs || named q) branched c.loop-root.marks) (take_all c.loop-root.root-index rs t)
    (c.loop-root.invariant p named branched h)
