use Rattle.om_layout.proofs.Runs.{by_runs}
use Rattle.om_layout.proofs.laws.runs_place_words.Goals as goal

pub returns : goal.returns
returns c = λ comes ws runs run_of are. by_runs _ ws runs run_of are
