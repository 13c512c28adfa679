use Rattle.std.proofs.Common.{◌≡◌, ℕ, true, false, sym, ap, subst, ◌∙◌, arith}
use Rattle.std.proofs.lemmas.Bool.{true≢false, false_from_ne_true}
use Rattle.om_value.specs.Same.{place_eq}
use Rattle.om_graph.specs.declared.parts.Row.{Row}
use Rattle.om_graph.specs.Laid.{no_row, row_at}
use Rattle.om_graph.proofs.RowBlocks.{IsAt, at_bound, at_get, at_read}
use Rattle.om_graph.proofs.RowLabels.{located}
use Rattle.om_graph.proofs.Labels.{same_place}
use Rattle.om_graph.proofs.Numbers.{Only, number_here, number_none}
use Rattle.om_graph.proofs.graph.Graph.number.Goals as goal

pub returns-then-row-len : goal.returns-then-row-len
returns-then-row-len c =
    let rows = c.self.inside.rows.items in
    let below = rw c.as_slice.ensures.value at c.place_before-row.ensures.below in
    rw (← c.self.view_is) (sym (number_none c.args.label 0 rows (λ k x at. false_from_ne_true (place_eq x.label c.args.label) (λ t.
    let z = located c.args.label rows c.place_before-row.result k x c.self.invariant.graph.labels below (λ l. absurd (omega (arith, l))) at t in
    let b = at_bound rows k x at in
    absurd (omega (arith, z, b))))))

pub returns-then-eq : goal.returns-then-eq
returns-then-eq c =
    let rows = c.self.inside.rows.items in
    let below = rw c.as_slice.ensures.value at c.place_before-row.ensures.below in
    let above = rw c.as_slice.ensures.value at c.place_before-row.ensures.above in
    let at = at_read rows c.place_before-row.result c.index.result.now c.index.result.now (omega arith) (sym c.index.ensures) in
    let here = same_place c.index.result.now.label c.args.label (sym c.eq.ensures ∙ c.if-eq.true) in
    rw (← c.self.view_is) (sym (number_here c.args.label 0 c.place_before-row.result rows c.place_before-row.result c.index.result.now (omega arith) at here
    (λ k x a t. located c.args.label rows c.place_before-row.result k x c.self.invariant.graph.labels below (λ l. above c.place_before-row.result (omega arith) l) a t)))

pub returns-else-eq : goal.returns-else-eq
returns-else-eq c =
    let rows = c.self.inside.rows.items in
    let below = rw c.as_slice.ensures.value at c.place_before-row.ensures.below in
    let above = rw c.as_slice.ensures.value at c.place_before-row.ensures.above in
    let at = at_read rows c.place_before-row.result c.index.result.now c.index.result.now (omega arith) (sym c.index.ensures) in
    let same : row_at rows c.place_before-row.result ≡ c.index.result.now = at_get rows c.place_before-row.result c.index.result.now no_row at in
    let other : place_eq c.index.result.now.label c.args.label ≡ false = sym c.eq.ensures ∙ c.if-eq.false in
    rw (← c.self.view_is) (sym (number_none c.args.label 0 rows (λ k x a. false_from_ne_true (place_eq x.label c.args.label) (λ t.
    let z = located c.args.label rows c.place_before-row.result k x c.self.invariant.graph.labels below (λ l. above c.place_before-row.result (omega arith) l) a t in
    let is : row_at rows c.place_before-row.result ≡ x = at_get rows c.place_before-row.result x no_row (subst (λ (j : ℕ). IsAt rows j x) z a) in
    true≢false (sym t ∙ subst (λ (y : Row). place_eq y.label c.args.label ≡ false) (sym same ∙ is) other)))))
