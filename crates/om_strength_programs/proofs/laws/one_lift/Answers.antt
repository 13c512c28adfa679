use Rattle.om_strength_programs.proofs.OneAnswer.{same_lift}
use Rattle.om_strength_programs.proofs.laws.one_lift.Goals as goal

pub returns : goal.returns
returns c = record { same = same_lift }
