use Rattle.std.proofs.Common.{◌≤◌, length, refl, sym, ap, ◌∙◌, arith}
use Rattle.std.specs.List.{slice_get}
use Rattle.std.proofs.lemmas.Bool.Decides.{nat_tests}
use Rattle.std.proofs.lemmas.Option.{slice_get_read}
use Rattle.om_prog.specs.Valid.{IsRegionInit}
use Rattle.om_prog.proofs.Every.{step_each, all_each, yes, no_way, denied}
use Rattle.om_prog.proofs.making.are_regions.Goals as goal

pub returns-then-not-branch : goal.returns-then-not-branch
returns-then-not-branch c v known same =
    let rs = c.args.regions.now in
    let x = c.index-regions-i.result in
    let found = slice_get_read rs (length rs) c.loop-i.i x refl c.loop-i-test.true c.index-regions-i.is in
    no_way (λ all. denied c.in_ok-is_region.field-0 c.if-not-branch.true (c.in_ok-is_region.ensures v known) (all.each c.loop-i.i x (ap (λ ys. slice_get ys c.loop-i.i) same ∙ found)))

pub loop-i-preserved : goal.loop-i-preserved
loop-i-preserved c v known =
    let rs = c.args.regions.now in
    let x = c.index-regions-i.result in
    let found = slice_get_read rs (length rs) c.loop-i.i x refl c.loop-i-test.true c.index-regions-i.is in
    step_each (λ k y. IsRegionInit v y) rs c.loop-i.i x found (c.loop-i.invariant v known) ((c.in_ok-is_region.ensures v known).0 c.if-not-branch.false)

pub returns : goal.returns
returns c v known same =
    let rs = c.args.regions.now in
    let long : length rs ≤ c.loop-i.i = grind (arith, nat_tests, c.loop-i-test.false) in
    yes (record { each = λ k y e. all_each (λ k y. IsRegionInit v y) rs c.loop-i.i long (c.loop-i.invariant v known) k y (sym (ap (λ ys. slice_get ys k) same) ∙ e) })
