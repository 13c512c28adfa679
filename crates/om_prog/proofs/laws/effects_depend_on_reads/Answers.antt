use Rattle.om_prog.proofs.Agree.{act_same}
use Rattle.om_prog.proofs.laws.effects_depend_on_reads.Goals as goal

pub returns : goal.returns
returns c = record { same = act_same }
