use Rattle.std.proofs.Common.{◌≡◌, true, get_or, sym, subst, ◌∙◌}
use Rattle.std.proofs.lemmas.List.{get_or_default}
use Rattle.om_value.specs.Same.{place_eq}
use Rattle.om_graph.specs.declared.parts.Row.{Row}
use Rattle.om_graph.specs.Laid.{no_row, row_at}
use Rattle.om_graph.proofs.Labels.{same_place}
use Rattle.om_graph.proofs.RowSearch.{before_here, behind_here}
use Rattle.om_graph.proofs.parts.place_before.Goals as goal

pub returns-then-eq-clause-below : goal.returns-then-eq-clause-below
returns-then-eq-clause-below c =
    let here : place_eq (row_at c.args.rows.now c.args.near).label c.args.p ≡ true =
    subst (λ (r : Row). place_eq r.label c.args.p ≡ true) (get_or_default c.args.rows.now c.args.near _ no_row c.if-near-rows.true) (sym c.eq.ensures ∙ c.if-eq.true) in
    before_here c.args.rows.now c.args.near c.args.p c.requires c.if-near-rows.true (same_place (row_at c.args.rows.now c.args.near).label c.args.p here)

pub returns-then-eq-clause-above : goal.returns-then-eq-clause-above
returns-then-eq-clause-above c =
    let here : place_eq (row_at c.args.rows.now c.args.near).label c.args.p ≡ true =
    subst (λ (r : Row). place_eq r.label c.args.p ≡ true) (get_or_default c.args.rows.now c.args.near _ no_row c.if-near-rows.true) (sym c.eq.ensures ∙ c.if-eq.true) in
    behind_here c.args.rows.now c.args.near c.args.p c.requires c.if-near-rows.true (same_place (row_at c.args.rows.now c.args.near).label c.args.p here)
