use Rattle.om_encode.proofs.Sentences as law
use Rattle.om_encode.proofs.laws.follows_and_runs.Goals as goal

pub returns : goal.returns
returns c = law.follows_and_runs
