use Rattle.om_listing.proofs.Steps.{lines_failed, totals_failed}
use Rattle.om_listing.proofs.listing.list.Goals as goal

pub returns-in_err-put_objects-clause-appends : goal.returns-in_err-put_objects-clause-appends
returns-in_err-put_objects-clause-appends g c =
    lines_failed c.args.i.now c.from_residual.result c.as_slice.ensures c.as_slice-2.ensures c.as_slice-3.ensures c.new-page.ensures
    c.from_residual.ensures.0 c.in_err-put_objects.ensures

pub returns-in_err-put_totals-clause-appends : goal.returns-in_err-put_totals-clause-appends
returns-in_err-put_totals-clause-appends g c =
    totals_failed c.args.i.now c.from_residual-in_err-put_totals.result c.as_slice.ensures c.as_slice-2.ensures c.as_slice-3.ensures
    c.new-page.ensures c.from_residual-in_err-put_totals.ensures.0 c.in_ok-put_objects.ensures c.in_err-put_totals.ensures.sends
