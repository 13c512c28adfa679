use Rattle.om_graph.proofs.Bound.{some_left}
use Rattle.om_graph.proofs.Places.{in_labels}
use Rattle.om_graph.proofs.laws.some_step_is_left_in.Goals as goal

pub returns : goal.returns
returns c = record {
  grows = λ p old new graph form places keeps. some_left p old new (in_labels old graph form places) keeps;
}
