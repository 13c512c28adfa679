use Rattle.std.proofs.Common.{ap}
use Rattle.om_value.specs.declared.value.Region.TheVariants.{Sec}
use Rattle.om_layout.specs.declared.sorting.Extent.{Extent}
use Rattle.om_layout.specs.Layout.{RegionAt}
use Rattle.om_layout.proofs.Behind.{fresh, region_step, region_stop_step, region_small}
use Rattle.om_layout.proofs.addresses.placed_regions.Goals as goal

abbrev none : Extent
none = record { size = 0; region = Sec 0 0 }

pub add-requires : goal.add-requires
add-requires c =
    fresh c.args.start c.args.extents.now c.loop-e.e-index none c.loop-e.regions c.new.result.region c.requires.once c.loop-e-test.true c.loop-e.invariant.regions
    (ap (λ (r : RegionAt). r.region) c.new.ensures)

pub loop-e-preserved : goal.loop-e-preserved
loop-e-preserved c =
    let all = c.args.extents.now in
    let i = c.loop-e.e-index in
    let h = c.loop-e.invariant in
    record {
      regions = region_step c.args.start all i none c.loop-e.regions c.add.new.self c.new.result c.loop-e.at c.round_16-address.result c.loop-e-test.true h.regions h.stop c.round_16-address.ensures c.new.ensures c.in_ok-add.ensures;
      stop = region_stop_step c.args.start all i none c.loop-e.at c.round_16-address.result c.loop-e-test.true h.stop c.round_16-address.ensures;
      small = region_small c.args.start all i none c.loop-e.at c.round_16-address.result c.loop-e-test.true h.small c.round_16-address.ensures;
    }
