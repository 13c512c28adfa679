use Rattle.om_encode.proofs.Sentences as law
use Rattle.om_encode.proofs.laws.counted_gives_headline.Goals as goal

pub returns : goal.returns
returns c = law.counted_gives_headline
