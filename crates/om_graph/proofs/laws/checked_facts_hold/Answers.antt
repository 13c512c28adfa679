use Rattle.om_graph.proofs.Whole.{told_hold}
use Rattle.om_graph.proofs.GpFacts.{reaches_allows}
use Rattle.om_graph.proofs.Reached.{words_reached}
use Rattle.om_graph.proofs.OnWalks.{is_gp_fact}
use Rattle.om_graph.proofs.Places.{in_labels, placed}
use Rattle.om_graph.specs.Run.{graph_script}
use Rattle.om_graph.proofs.laws.checked_facts_hold.Goals as goal

pub returns : goal.returns
returns c = record {
  blocks = λ p g facts. reaches_allows (graph_script p g) facts g;
  reached = λ p g graph form places. words_reached g graph form places (graph_script p g);
  walks = λ p g facts graph form places. is_gp_fact g (in_labels g graph form places) (placed g graph form places) form (graph_script p g) facts;
  runs = λ p g facts whole. told_hold p g whole facts;
}
