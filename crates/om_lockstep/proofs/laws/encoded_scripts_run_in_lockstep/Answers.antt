use Rattle.om_lockstep.proofs.Steps as steps
use Rattle.om_lockstep.proofs.laws.encoded_scripts_run_in_lockstep.Goals as goal

pub returns : goal.returns
returns c = λ s l i lands comes enc st input bytes codes. steps.in_lockstep s l i _ _ enc st input bytes codes
