use Rattle.om_arena.proofs.Laws.{room_lasts}
use Rattle.om_arena.proofs.arena.Arena.room_lasts.Goals as goal

pub returns : goal.returns
returns g c = λ n first last room took. room_lasts n first last room took
