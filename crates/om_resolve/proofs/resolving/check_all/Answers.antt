use Rattle.std.proofs.Common.{[], ◌∷◌}
use Rattle.om_resolve.specs.declared.finding.Scan.TheVariants.{Reach}
use Rattle.om_resolve.specs.Causes.{scanned, name_causes, limit_causes, first_cause}
use Rattle.om_resolve.proofs.Given.{found_here, found_later, checked_later, checked_last}
use Rattle.om_resolve.proofs.resolving.check_all.Goals as goal

pub returns-in-Err : goal.returns-in-Err
unfolding first_cause
returns-in-Err c =
    let os = c.args.l.now.objects.now in
    found_here (name_causes os) (limit_causes os ∷ scanned os Reach ∷ []) c.in-Err.cause c.in-Err.ensures

pub returns-in-Err-check_limits : goal.returns-in-Err-check_limits
unfolding first_cause
returns-in-Err-check_limits c =
    let os = c.args.l.now.objects.now in
    let cause = c.in-Err-check_limits.cause in
    found_later (name_causes os) (limit_causes os ∷ scanned os Reach ∷ []) cause c.in_default.ensures
    (found_here (limit_causes os) (scanned os Reach ∷ []) cause c.in-Err-check_limits.ensures)

pub returns : goal.returns
unfolding first_cause
returns c =
    let os = c.args.l.now.objects.now in
    checked_later (name_causes os) (limit_causes os ∷ scanned os Reach ∷ []) c.check_relocs.result c.in_default.ensures
    (checked_later (limit_causes os) (scanned os Reach ∷ []) c.check_relocs.result c.in_default-check_limits.ensures
    (checked_last (scanned os Reach) c.check_relocs.result c.check_relocs.ensures))
