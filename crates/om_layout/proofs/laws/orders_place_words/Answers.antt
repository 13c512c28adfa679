use Rattle.om_layout.proofs.InOrder.{placed_in_order}
use Rattle.om_layout.proofs.laws.orders_place_words.Goals as goal

pub returns : goal.returns
returns c = placed_in_order
