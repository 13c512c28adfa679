use Rattle.om_shrink.proofs.Fits.{ops_fit}
use Rattle.om_shrink.proofs.Placed.{are_placed}
use Rattle.om_shrink.proofs.laws.layouts_shrink.Goals as goal

pub returns : goal.returns
returns c = record { fits = λ p g h l m prog of on same fewer lay may stays fits. ops_fit p prog g h of on same fewer l m lay may stays (are_placed p prog h on) fits }
