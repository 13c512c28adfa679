use Rattle.om_graph.proofs.OfProgram.{words_in_place}
use Rattle.om_graph.proofs.Forms.{pairs_apart, whole_of}
use Rattle.om_graph.proofs.laws.graphs_of_programs.Goals as goal

pub returns : goal.returns
returns c = record {
  places = λ p g prog of. words_in_place p prog g of;
  apart = λ p g prog of. pairs_apart p prog g of;
  whole = λ p g prog of. whole_of p prog g of;
}
