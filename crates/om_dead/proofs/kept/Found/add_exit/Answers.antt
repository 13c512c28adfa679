use Rattle.std.proofs.Common.{refl}
use Rattle.om_dead.proofs.kept.Found.add_exit.Goals as goal

pub add-requires : goal.add-requires
add-requires c = c.requires c.in-Block.b (c.in-Block.ensures.live c.in-Block.b refl)
