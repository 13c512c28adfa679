use Rattle.om_layout.proofs.Limits.{stays}
use Rattle.om_layout.proofs.laws.layouts_stay_in_limits.Goals as goal

pub returns : goal.returns
returns c = λ p g l prog of limits lay. stays p prog g of limits l lay
