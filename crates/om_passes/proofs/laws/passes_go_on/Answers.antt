use Rattle.om_passes.proofs.Passed.{none, more, all, goes_on, stays}
use Rattle.om_passes.proofs.laws.passes_go_on.Goals as goal

pub returns : goal.returns
returns c = record { none = none; more = more; all = all; goes_on = goes_on; stays = stays }
