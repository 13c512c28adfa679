use Rattle.std.proofs.Common.{◌≡◌, List, length, sym, ap, ◌∙◌, subst, arith}
use Rattle.std.specs.Prelude.{map}
use Rattle.std.proofs.lemmas.List.{length-map, with_items_is}
use Rattle.std.specs.Vec.{with_items}
use Rattle.om_graph.specs.declared.parts.Row.{Row}
use Rattle.om_graph.specs.View.{cleared}
use Rattle.om_graph.specs.Laid.{cleared_row, seen_graph}
use Rattle.om_graph.proofs.GraphEdits.{Edited, marks_cleared}
use Rattle.om_graph.proofs.graph.Graph.clear_touched.Goals as goal

becomes : (c : goal.After-self-1) → Edited c.self.inside.counts.items c.self.inside.starts.items c.self.inside.roots.items c.self.inside.tables.items (with_items c.self.inside.rows c.clear_rows.new.rows).items c.self.inside.kept.lists c.self.inside.order c.self.inside.ops.lists (cleared (seen_graph c.self.inside.counts.items c.self.inside.roots.items c.self.inside.tables.items c.self.inside.rows.items c.self.inside.ops.lists))
becomes c =
    let counts = c.self.inside.counts.items in
    let starts = c.self.inside.starts.items in
    let roots = c.self.inside.roots.items in
    let tables = c.self.inside.tables.items in
    let rows = c.self.inside.rows.items in
    let kept = c.self.inside.kept.lists in
    let order = c.self.inside.order in
    let lists = c.self.inside.ops.lists in
    let are : c.clear_rows.new.rows ≡ map cleared_row rows = c.clear_rows.ensures ∙ ap (λ (l : List Row). map cleared_row l) c.as_mut_slice.ensures.value in
    let as_many : length c.clear_rows.new.rows ≡ c.self.inside.rows.len =
    let a = ap (λ (l : List Row). length l) are in
    let m = length-map rows cleared_row in
    let s = ap (λ (l : List Row). length l) c.as_mut_slice.ensures.value in
    let n = c.as_mut_slice.ensures.len in
    omega (arith, a, m, s, n) in
    let items : (with_items c.self.inside.rows c.clear_rows.new.rows).items ≡ map cleared_row rows = with_items_is c.self.inside.rows c.clear_rows.new.rows as_many ∙ are in
    subst (λ (l : List Row). Edited counts starts roots tables l kept order lists (cleared (seen_graph counts roots tables rows lists))) (sym items)
    (marks_cleared counts starts roots tables rows kept order lists c.self.invariant)

pub invariant_of-self : goal.invariant_of-self
invariant_of-self c = (becomes c).laid

pub returns : goal.returns
returns c = rw (← c.self.view_is) (becomes c).are
