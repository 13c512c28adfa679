use Rattle.om_encode.proofs.TurnedRows as law
use Rattle.om_encode.proofs.laws.turned_words_run.Goals as goal

pub returns : goal.returns
returns c = law.turned_words_run
