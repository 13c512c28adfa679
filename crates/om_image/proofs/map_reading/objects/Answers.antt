use Rattle.std.proofs.Common.{◌+◌, ◌*◌}
use Rattle.om_image.specs.MapFields.{object_at}
use Rattle.om_image.proofs.Items.{next_item}
use Rattle.om_image.proofs.map_reading.objects.Goals as goal

pub loop-k-preserved : goal.loop-k-preserved
loop-k-preserved c = next_item (λ k. object_at c.args.b.now (24 + 8 * k)) _ _ _ c.loop-k.k c.in_ok-push.ensures.items c.loop-k.invariant c.object_at.ensures
