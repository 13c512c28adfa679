use Rattle.std.proofs.Common.{[], ◌∷◌}
use Rattle.om_resolve.specs.declared.finding.Scan.TheVariants.{Names, Targets}
use Rattle.om_resolve.specs.Causes.{duplicate, no_start, scanned, name_causes}
use Rattle.om_resolve.proofs.Given.{found_here, found_later, checked_later, checked_last}
use Rattle.om_resolve.proofs.resolving.check_names.Goals as goal

pub returns-in-Err : goal.returns-in-Err
unfolding name_causes
returns-in-Err c =
    let os = c.args.l.now.objects.now in
    found_here (duplicate os) (no_start os ∷ scanned os Names ∷ scanned os Targets ∷ []) c.in-Err.cause c.in-Err.ensures

pub returns-in-Err-check_start : goal.returns-in-Err-check_start
unfolding name_causes
returns-in-Err-check_start c =
    let os = c.args.l.now.objects.now in
    let cause = c.in-Err-check_start.cause in
    found_later (duplicate os) (no_start os ∷ scanned os Names ∷ scanned os Targets ∷ []) cause c.in_default.ensures
    (found_here (no_start os) (scanned os Names ∷ scanned os Targets ∷ []) cause c.in-Err-check_start.ensures)

pub returns-in-Err-check_relocs : goal.returns-in-Err-check_relocs
unfolding name_causes
returns-in-Err-check_relocs c =
    let os = c.args.l.now.objects.now in
    let cause = c.in-Err-check_relocs.cause in
    found_later (duplicate os) (no_start os ∷ scanned os Names ∷ scanned os Targets ∷ []) cause c.in_default.ensures
    (found_later (no_start os) (scanned os Names ∷ scanned os Targets ∷ []) cause c.in_default-check_start.ensures
    (found_here (scanned os Names) (scanned os Targets ∷ []) cause c.in-Err-check_relocs.ensures))

pub returns : goal.returns
unfolding name_causes
returns c =
    let os = c.args.l.now.objects.now in
    checked_later (duplicate os) (no_start os ∷ scanned os Names ∷ scanned os Targets ∷ []) c.check_relocs-2.result c.in_default.ensures
    (checked_later (no_start os) (scanned os Names ∷ scanned os Targets ∷ []) c.check_relocs-2.result c.in_default-check_start.ensures
    (checked_later (scanned os Names) (scanned os Targets ∷ []) c.check_relocs-2.result c.in_default-check_relocs.ensures
    (checked_last (scanned os Targets) c.check_relocs-2.result c.check_relocs-2.ensures)))
