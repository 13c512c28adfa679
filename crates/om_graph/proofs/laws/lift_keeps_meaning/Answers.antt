use Rattle.om_graph.proofs.LiftedRun.{lifted_run}
use Rattle.om_graph.proofs.LiftedOf.{lifted_of}
use Rattle.om_graph.proofs.LiftedKept.{lifted_whole}
use Rattle.om_graph.proofs.laws.lift_keeps_meaning.Goals as goal

pub returns : goal.returns
returns c = record {
  runs = λ p g prog lifted. lifted_run p prog g lifted;
  of = λ p g prog lifted. lifted_of p prog g lifted;
  whole = λ p g prog lifted. lifted_whole p prog g lifted;
}
