use Rattle.std.proofs.Common.{◌≡◌, ◌<◌, ◌+◌, ◌-◌, length, drop, List, ◌∷◌, refl, ap, sym, subst, ◌∙◌, arith}
use Rattle.std.specs.BTreeMap.{get}
use Rattle.std.proofs.lemmas.Option.{slice_get_read}
use Rattle.om_value.specs.Same.{region_eq}
use Rattle.om_prog.specs.declared.region.RegionInit.{RegionInit}
use Rattle.om_prog.specs.Keys.{region_cmp}
use Rattle.om_symrun.specs.Starting.{IsMadeOf, init_in}
use Rattle.om_symrun.proofs.First.{region_more, drop_read}
use Rattle.om_symrun.proofs.starting.given_cells.Goals as goal

pub cells_of-requires : goal.cells_of-requires
cells_of-requires c =
    let all = c.args.regions.now in
    let k = c.loop-i.i - 1 in
    let below : k < length all = omega (arith, c.loop-i-test.true, c.loop-i.auto.i) in
    c.requires.each k c.index-regions-i.result (slice_get_read all (length all) k c.index-regions-i.result refl below c.index-regions-i.is)

pub loop-i-preserved : goal.loop-i-preserved
loop-i-preserved c = λ r.
    let all = c.args.regions.now in
    let k = c.loop-i.i - 1 in
    let below : k < length all = omega (arith, c.loop-i-test.true, c.loop-i.auto.i) in
    let next : k + 1 ≡ c.loop-i.i = omega (arith, c.loop-i-test.true) in
    let x = c.index-regions-i.result in
    let there = slice_get_read all (length all) k x refl below c.index-regions-i.is in
    let list : drop k all ≡ x ∷ drop c.loop-i.i all = drop_read all k x there ∙ ap (λ n. x ∷ drop n all) next in
    subst (λ (ys : List RegionInit). IsMadeOf (get region_cmp c.add.new.given r) (init_in ys r)) (sym list)
    (region_more x (drop c.loop-i.i all) c.in_ok-cells.cells r (get region_cmp c.add.new.given r) (get region_cmp c.loop-i.given r) (region_eq x.region r) refl c.in_ok-cells.ensures (c.loop-i.invariant r) (c.in_ok-add.ensures r))
