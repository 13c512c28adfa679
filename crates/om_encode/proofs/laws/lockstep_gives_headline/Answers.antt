use Rattle.om_encode.proofs.Sentences as law
use Rattle.om_encode.proofs.laws.lockstep_gives_headline.Goals as goal

pub returns : goal.returns
returns c = law.lockstep_gives_headline
