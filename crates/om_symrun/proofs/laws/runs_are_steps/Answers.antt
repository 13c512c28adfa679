use Rattle.om_symrun.proofs.Running.{steps_of_run}
use Rattle.om_symrun.proofs.laws.runs_are_steps.Goals as goal

pub returns : goal.returns
returns c = record { same = steps_of_run }
