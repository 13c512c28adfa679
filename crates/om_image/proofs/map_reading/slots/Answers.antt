use Rattle.std.proofs.Common.{◌+◌, ◌*◌}
use Rattle.om_image.specs.MapFields.{slot_at}
use Rattle.om_image.proofs.Items.{next_item}
use Rattle.om_image.proofs.map_reading.slots.Goals as goal

pub loop-j-preserved : goal.loop-j-preserved
loop-j-preserved c = next_item (λ j. slot_at c.args.b.now (c.args.at + 24 * j)) _ _ _ c.loop-j.j c.in_ok-push.ensures.items c.loop-j.invariant c.slot_at.ensures
