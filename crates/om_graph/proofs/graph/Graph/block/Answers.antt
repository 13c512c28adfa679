use Rattle.std.proofs.Common.{◌≡◌, ℕ, true, false, sym, ap, subst, ◌∙◌, arith}
use Rattle.std.specs.Prelude.{option_map}
use Rattle.om_value.specs.Same.{place_eq}
use Rattle.om_graph.specs.declared.parts.Row.{Row}
use Rattle.om_graph.specs.View.{is_live_block, labelled}
use Rattle.om_graph.specs.Laid.{no_row, row_at}
use Rattle.om_graph.proofs.RowBlocks.{at_get, at_read}
use Rattle.om_graph.proofs.GraphReads.{if_some, labelled_past, labelled_other, labelled_here, labelled_live, numbers_are, numbers_live}
use Rattle.om_graph.proofs.graph.Graph.block.Goals as goal

pub returns-then-at-len-clause-block : goal.returns-then-at-len-clause-block
returns-then-at-len-clause-block c =
    rw (← c.self.view_is) (sym (labelled_past c.args.label c.self.inside.ops.lists c.self.inside.rows.items c.place_before-at.result c.self.invariant.graph.labels
    (rw c.as_slice.ensures.value at c.place_before-at.ensures.below) (rw c.as_slice.ensures.value at c.place_before-at.ensures.above) (omega arith)))

pub numbered-requires : goal.numbered-requires
numbered-requires c =
    let at = at_read c.self.inside.rows.items c.place_before-at.result c.index.result.now c.index.result.now (omega arith) (sym c.index.ensures) in
    numbers_live c.self.inside.kept.lists c.self.inside.rows.items c.self.invariant.numbers (c.ids_differ.ensures.apart 0) c.place_before-at.result c.index.result.now at

read : (c : goal.After-numbered) → c.numbered.result ≡ labelled c.args.self.now c.args.label
read c =
    let at = at_read c.self.inside.rows.items c.place_before-at.result c.index.result.now c.index.result.now (omega arith) (sym c.index.ensures) in
    let same : row_at c.self.inside.rows.items c.place_before-at.result ≡ c.index.result.now = at_get c.self.inside.rows.items c.place_before-at.result c.index.result.now no_row at in
    let here : place_eq c.index.result.now.label c.args.label ≡ true = sym c.eq.ensures ∙ c.if-eq.true in
    let is = labelled_here c.args.label c.self.inside.ops.lists c.self.inside.rows.items c.place_before-at.result c.self.invariant.graph.labels
    (rw c.as_slice.ensures.value at c.place_before-at.ensures.below) (rw c.as_slice.ensures.value at c.place_before-at.ensures.above) (omega arith)
    (subst (λ (r : Row). place_eq r.label c.args.label ≡ true) (sym same) here) in
    c.numbered.ensures
    ∙ numbers_are c.self.inside.kept.lists c.self.inside.rows.items c.self.invariant.numbers (c.ids_differ.ensures.apart 0) c.place_before-at.result c.index.result.now at
    ∙ ap (λ (r : Row). option_map (λ (k : ℕ). c.place_before-at.result) r.kept) (sym same)
    ∙ rw (← c.self.view_is) (sym is)

pub returns-then-eq-clause-block : goal.returns-then-eq-clause-block
returns-then-eq-clause-block c = read c

pub returns-then-eq-clause-live : goal.returns-then-eq-clause-live
returns-then-eq-clause-live c =
    if_some c.numbered.result (λ (b : ℕ). is_live_block c.args.self.now b ≡ true) (λ b e. labelled_live c.args.self.now c.args.label b (sym (read c) ∙ e))

pub returns-else-eq-clause-block : goal.returns-else-eq-clause-block
returns-else-eq-clause-block c =
    let at = at_read c.self.inside.rows.items c.place_before-at.result c.index.result.now c.index.result.now (omega arith) (sym c.index.ensures) in
    let same : row_at c.self.inside.rows.items c.place_before-at.result ≡ c.index.result.now = at_get c.self.inside.rows.items c.place_before-at.result c.index.result.now no_row at in
    let other : place_eq c.index.result.now.label c.args.label ≡ false = sym c.eq.ensures ∙ c.if-eq.false in
    rw (← c.self.view_is) (sym (labelled_other c.args.label c.self.inside.ops.lists c.self.inside.rows.items c.place_before-at.result c.self.invariant.graph.labels
    (rw c.as_slice.ensures.value at c.place_before-at.ensures.below) (rw c.as_slice.ensures.value at c.place_before-at.ensures.above)
    (subst (λ (r : Row). place_eq r.label c.args.label ≡ false) (sym same) other)))
