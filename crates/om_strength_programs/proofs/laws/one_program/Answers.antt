use Rattle.om_strength_programs.proofs.OneAnswer.{same_program}
use Rattle.om_strength_programs.proofs.laws.one_program.Goals as goal

pub returns : goal.returns
returns c = record { same = same_program }
