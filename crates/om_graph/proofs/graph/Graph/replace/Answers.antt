use Rattle.std.proofs.Common.{◌≡◌, ℕ, true, Some, is_some, List, [], get_or, set, eqb, sym, ap, ◌∙◌, subst}
use Rattle.std.specs.Prelude.{find}
use Rattle.std.specs.Map.{lookup}
use Rattle.om_arena.specs.Lists.{home, with_value}
use Rattle.om_graph.specs.declared.parts.Row.{Row}
use Rattle.om_graph.specs.View.{holds_node, replaced}
use Rattle.om_graph.specs.Laid.{blocks_from, seen_graph, touched_row, row_at}
use Rattle.om_graph.proofs.GraphReads.{live_op}
use Rattle.om_graph.proofs.GraphEdits.{Edited, kind_edited}
use Rattle.om_graph.proofs.graph.Graph.replace.Goals as goal

pub list_of-list-requires : goal.list_of-list-requires
list_of-list-requires c =
    let live : is_some (find (holds_node c.args.o) (blocks_from c.self.inside.ops.lists 0 c.self.inside.rows.items)) ≡ true = rw (← c.self.view_is) at c.requires in
    let l = live_op c.self.inside.ops.lists c.self.inside.rows.items c.args.o c.ids_differ.ensures.homes live in
    subst (λ (n : ℕ). is_some (lookup (eqb n) (get_or c.self.inside.ops.lists (home n c.self.inside.ops.lists) [])) ≡ true) (sym c.id.ensures) (ap is_some l.item)

pub get_mut-op-requires : goal.get_mut-op-requires
get_mut-op-requires c =
    let live : is_some (find (holds_node c.args.o) (blocks_from c.self.inside.ops.lists 0 c.self.inside.rows.items)) ≡ true = rw (← c.self.view_is) at c.requires in
    let l = live_op c.self.inside.ops.lists c.self.inside.rows.items c.args.o c.ids_differ.ensures.homes live in
    subst (λ (n : ℕ). is_some (lookup (eqb n) (get_or c.self.inside.ops.lists (home n c.self.inside.ops.lists) [])) ≡ true) (sym c.id-2.ensures) (ap is_some l.item)

becomes : (c : goal.After-touch_row) → Edited c.self.inside.counts.items c.self.inside.starts.items c.self.inside.roots.items c.self.inside.tables.items c.touch_row.new.rows.items c.self.inside.kept.lists c.self.inside.order (set c.self.inside.ops.lists (home c.id-2.result c.self.inside.ops.lists) (with_value c.id-2.result (record { place = c.get_mut-op.result.now.place; kind = c.args.kind }) (get_or c.self.inside.ops.lists (home c.id-2.result c.self.inside.ops.lists) []))) (replaced (seen_graph c.self.inside.counts.items c.self.inside.roots.items c.self.inside.tables.items c.self.inside.rows.items c.self.inside.ops.lists) c.args.o c.args.kind)
becomes c =
    let counts = c.self.inside.counts.items in
    let starts = c.self.inside.starts.items in
    let roots = c.self.inside.roots.items in
    let tables = c.self.inside.tables.items in
    let rows = c.self.inside.rows.items in
    let kept = c.self.inside.kept.lists in
    let order = c.self.inside.order in
    let lists = c.self.inside.ops.lists in
    let live : is_some (find (holds_node c.args.o) (blocks_from lists 0 rows)) ≡ true = rw (← c.self.view_is) at c.requires in
    let l = live_op lists rows c.args.o c.ids_differ.ensures.homes live in
    let home_is : c.list_of-list.result ≡ home c.args.o lists = c.list_of-list.ensures ∙ ap (λ (n : ℕ). home n lists) c.id.ensures in
    let touched : c.touch_row.new.rows.items ≡ set rows (home c.args.o lists) (touched_row (row_at rows (home c.args.o lists))) =
    c.touch_row.ensures ∙ ap (λ (n : ℕ). set rows n (touched_row (row_at rows n))) home_is in
    let value : lookup (eqb c.args.o) (get_or lists (home c.args.o lists) []) ≡ Some c.get_mut-op.result.now =
    subst (λ (n : ℕ). lookup (eqb n) (get_or lists (home n lists) []) ≡ Some c.get_mut-op.result.now) c.id-2.ensures c.get_mut-op.ensures.value in
    let g = replaced (seen_graph counts roots tables rows lists) c.args.o c.args.kind in
    subst (λ (n : ℕ). Edited counts starts roots tables c.touch_row.new.rows.items kept order (set lists (home n lists) (with_value n (record { place = c.get_mut-op.result.now.place; kind = c.args.kind }) (get_or lists (home n lists) []))) g) (sym c.id-2.ensures)
    (subst (λ (r : List Row). Edited counts starts roots tables r kept order (set lists (home c.args.o lists) (with_value c.args.o (record { place = c.get_mut-op.result.now.place; kind = c.args.kind }) (get_or lists (home c.args.o lists) []))) g) (sym touched)
    (kind_edited counts starts roots tables rows kept order lists c.self.invariant c.args.o c.args.kind c.get_mut-op.result.now l c.ids_differ.ensures.homes (c.ids_differ.ensures.apart (home c.args.o lists)) value))

pub invariant_of-self : goal.invariant_of-self
invariant_of-self c = (becomes c).laid

pub returns : goal.returns
returns c = rw (← c.self.view_is) (becomes c).are
