use Rattle.std.proofs.Common.{◌+◌, ◌*◌}
use Rattle.om_image.specs.MapFields.{map_region_at}
use Rattle.om_image.proofs.Items.{next_item}
use Rattle.om_image.proofs.map_reading.regions.Goals as goal

pub loop-k-preserved : goal.loop-k-preserved
loop-k-preserved c = next_item (λ k. map_region_at c.args.b.now (c.args.at + 32 * k)) _ _ _ c.loop-k.k c.in_ok-push.ensures.items c.loop-k.invariant c.map_region_at.ensures
