use Rattle.om_graph.proofs.Compose.{keeps_both}
use Rattle.om_graph.proofs.Itself.{all_ordered, keeps_itself}
use Rattle.om_graph.proofs.Places.{placed}
use Rattle.om_graph.proofs.laws.passes_compose.Goals as goal

pub returns : goal.returns
returns c = record {
  itself = λ p g graph form places apart. keeps_itself p g (all_ordered g.blocks (placed g graph form places)) apart;
  both = keeps_both;
}
