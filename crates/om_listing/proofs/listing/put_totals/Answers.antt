use Rattle.std.proofs.Common.{◌∙◌, ◌++◌, [], refl, append-nil}
use Rattle.om_io.specs.declared.causes.Failed.{Failed}
use Rattle.om_listing.specs.Listing.{totals}
use Rattle.om_listing.proofs.Sent.{sends_into, sends_more, sends_waiting}
use Rattle.om_listing.proofs.listing.put_totals.Goals as goal

pub returns-in_err-send_full-clause-sends : goal.returns-in_err-send_full-clause-sends
returns-in_err-send_full-clause-sends g c = sends_into _ _ refl c.from_residual.ensures.0 c.in_err-send_full.ensures.sends

pub returns-in_err-send-clause-sends : goal.returns-in_err-send-clause-sends
returns-in_err-send-clause-sends g c =
    sends_into (totals c.args.m.now) [] (append-nil (totals c.args.m.now ++ []) ∙ append-nil (totals c.args.m.now))
    c.from_residual-in_err-send.ensures.0
    (sends_more (sends_more c.in_ok-send_full.ensures.sends (sends_waiting {T = Unit {0}} {E = Failed} tt c.push_map_totals.ensures))
    c.in_err-send.ensures.sends)
