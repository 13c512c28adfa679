use Rattle.om_lockstep.proofs.Rows.{loop_runs}
use Rattle.om_lockstep.proofs.laws.loop_runs_in_lockstep.Goals as goal

pub returns : goal.returns
returns c = loop_runs
