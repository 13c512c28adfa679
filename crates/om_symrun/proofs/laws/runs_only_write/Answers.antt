use Rattle.om_symrun.proofs.Growing.{later_only}
use Rattle.om_symrun.proofs.laws.runs_only_write.Goals as goal

pub returns : goal.returns
returns c = record { later = later_only }
