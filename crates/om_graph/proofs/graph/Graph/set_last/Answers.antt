use Rattle.std.proofs.Common.{◌≡◌, ℕ, true, is_some, List, set, arith, sym, ap, ◌∙◌, subst}
use Rattle.std.specs.Prelude.{find}
use Rattle.om_graph.specs.declared.parts.Row.{Row}
use Rattle.om_graph.specs.View.{is_block, last_set}
use Rattle.om_graph.specs.Laid.{blocks_from, seen_graph, ended_row, row_at}
use Rattle.om_graph.proofs.GraphReads.{live_block}
use Rattle.om_graph.proofs.GraphEdits.{Edited, last_edited}
use Rattle.om_graph.proofs.graph.Graph.set_last.Goals as goal

pub end_row-requires : goal.end_row-requires
end_row-requires c =
    let live : is_some (find (is_block c.args.b) (blocks_from c.self.inside.ops.lists 0 c.self.inside.rows.items)) ≡ true = rw (← c.self.view_is) at c.requires in
    let w = (live_block c.self.inside.ops.lists c.self.inside.rows.items c.args.b live).within in
    omega (arith, w)

becomes : (c : goal.After-end_row) → Edited c.self.inside.counts.items c.self.inside.starts.items c.self.inside.roots.items c.self.inside.tables.items c.end_row.new.rows.items c.self.inside.kept.lists c.self.inside.order c.self.inside.ops.lists (last_set (seen_graph c.self.inside.counts.items c.self.inside.roots.items c.self.inside.tables.items c.self.inside.rows.items c.self.inside.ops.lists) c.args.b c.args.last)
becomes c =
    let counts = c.self.inside.counts.items in
    let starts = c.self.inside.starts.items in
    let roots = c.self.inside.roots.items in
    let tables = c.self.inside.tables.items in
    let rows = c.self.inside.rows.items in
    let kept = c.self.inside.kept.lists in
    let order = c.self.inside.order in
    let lists = c.self.inside.ops.lists in
    let live : is_some (find (is_block c.args.b) (blocks_from lists 0 rows)) ≡ true = rw (← c.self.view_is) at c.requires in
    let written : c.end_row.new.rows.items ≡ set rows c.args.b (ended_row c.args.last (row_at rows c.args.b)) =
    c.end_row.ensures ∙ ap (λ (n : ℕ). set rows n (ended_row c.args.last (row_at rows n))) c.list.ensures in
    subst (λ (l : List Row). Edited counts starts roots tables l kept order lists (last_set (seen_graph counts roots tables rows lists) c.args.b c.args.last)) (sym written)
    (last_edited counts starts roots tables rows kept order lists c.self.invariant c.args.b c.args.last (live_block lists rows c.args.b live))

pub invariant_of-self : goal.invariant_of-self
invariant_of-self c = (becomes c).laid

pub returns : goal.returns
returns c = rw (← c.self.view_is) (becomes c).are
