use Rattle.om_graph.specs.Kept.{Comes}
use Rattle.om_layout.proofs.Natural.{lays_out}
use Rattle.om_layout.proofs.laws.layouts_place_words.Goals as goal

pub returns : goal.returns
returns c = λ p g l prog of lay. lays_out p prog g of l lay (Comes g)
