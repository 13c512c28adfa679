use Rattle.om_graph.proofs.Whole.{run_comes, run_labels, run_lands}
use Rattle.om_graph.proofs.laws.runs_stay_in_kept_set.Goals as goal

pub returns : goal.returns
returns c = record { place = run_comes; labels = run_labels; landings = run_lands }
