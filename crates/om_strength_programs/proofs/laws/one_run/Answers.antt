use Rattle.om_strength_programs.proofs.OneAnswer.{same_run}
use Rattle.om_strength_programs.proofs.laws.one_run.Goals as goal

pub returns : goal.returns
returns c = record { same = same_run }
