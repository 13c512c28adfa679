use Rattle.std.proofs.Common.{◌+◌, ◌*◌}
use Rattle.om_image.specs.MapFields.{source_at}
use Rattle.om_image.proofs.Items.{next_item}
use Rattle.om_image.proofs.map_reading.sources.Goals as goal

pub loop-k-preserved : goal.loop-k-preserved
loop-k-preserved c = next_item (λ k. source_at c.args.b.now (c.args.at + 8 * k)) _ _ _ c.loop-k.k c.in_ok-push.ensures.items c.loop-k.invariant c.source_at.ensures
