use Rattle.std.proofs.Common.{refl}
use Rattle.om_listing.proofs.Sent.{sends_into}
use Rattle.om_listing.proofs.listing.put_lines.Goals as goal

pub returns-in_err-send_full : goal.returns-in_err-send_full
returns-in_err-send_full g c = sends_into _ _ refl c.from_residual.ensures.0 c.in_err-send_full.ensures.sends
