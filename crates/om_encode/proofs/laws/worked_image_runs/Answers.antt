use Rattle.om_encode.proofs.Rows as law
use Rattle.om_encode.proofs.laws.worked_image_runs.Goals as goal

pub returns : goal.returns
returns c = law.the_image_runs
