use Rattle.om_strength_programs.proofs.OneAnswer.{same_resolution}
use Rattle.om_strength_programs.proofs.laws.one_resolution.Goals as goal

pub returns : goal.returns
returns c = record { same = same_resolution }
