use Rattle.om_resolve.proofs.ProgramValid as valid
use Rattle.om_resolve.proofs.laws.objects_make_programs.Goals as goal

pub returns : goal.returns
returns c = valid.objects_make_programs
