use Rattle.std.proofs.Common.{◌≡◌, ◌++◌, ◌∷◌, ℕ, false, Some, List, [], get_or, set, refl, sym, ap, ◌∙◌, subst}
use Rattle.om_graph.specs.declared.op.Op.{Op}
use Rattle.om_graph.specs.declared.op.Last.TheVariants.{Off}
use Rattle.om_graph.specs.declared.parts.Row.{Row}
use Rattle.om_graph.specs.View.{IsAfter, block_added}
use Rattle.om_graph.specs.Laid.{labels_of, kept_from, seen_graph}
use Rattle.om_graph.proofs.GraphEdits.{Edited, block_fresh, block_put}
use Rattle.om_graph.proofs.graph.Graph.add_block.Goals as goal

becomes : (c : goal.After-new) → Edited c.self.inside.counts.items c.self.inside.starts.items c.self.inside.roots.items c.self.inside.tables.items c.push_reserved.new.self.items c.push_back.new.self.lists c.self.inside.order c.add_list.new.self.lists (block_added (seen_graph c.self.inside.counts.items c.self.inside.roots.items c.self.inside.tables.items c.self.inside.rows.items c.self.inside.ops.lists) c.new.result c.args.label c.args.opening)
becomes c =
    let counts = c.self.inside.counts.items in
    let starts = c.self.inside.starts.items in
    let roots = c.self.inside.roots.items in
    let tables = c.self.inside.tables.items in
    let rows = c.self.inside.rows.items in
    let kept = c.self.inside.kept.lists in
    let order = c.self.inside.order in
    let lists = c.self.inside.ops.lists in
    let k = c.push_back.result in
    let n = c.in-Ok.list in
    let row : Row = record { label = c.args.label; opening = c.args.opening; touched = false; last = Off; kept = Some k } in
    let rows_are : c.push_reserved.new.self.items ≡ rows ++ row ∷ [] = c.push_reserved.ensures.items ∙ ap (λ (r : List Row). r ++ row ∷ []) c.reserve.ensures.items in
    let kept_are : c.push_back.new.self.lists ≡ (kept_from 0 rows ++ (k, n) ∷ []) ∷ [] =
    c.push_back.ensures.pushed
    ∙ ap (λ (m : List (List (ℕ × ℕ))). set m order (get_or m order [] ++ (k, n) ∷ [])) (c.reserve-2.ensures.lists ∙ c.self.invariant.numbers)
    ∙ ap (λ (o : ℕ). set (kept_from 0 rows ∷ []) o (get_or (kept_from 0 rows ∷ []) o [] ++ (k, n) ∷ [])) c.self.invariant.first in
    let after : IsAfter (labels_of rows) c.args.label = rw (← c.self.view_is) at c.requires in
    subst (λ (m : ℕ). Edited counts starts roots tables c.push_reserved.new.self.items c.push_back.new.self.lists order c.add_list.new.self.lists (block_added (seen_graph counts roots tables rows lists) m c.args.label c.args.opening)) (sym c.new.ensures)
    (subst (λ (r : List Row). Edited counts starts roots tables r c.push_back.new.self.lists order c.add_list.new.self.lists (block_added (seen_graph counts roots tables rows lists) n c.args.label c.args.opening)) (sym rows_are)
    (subst (λ (m : List (List (ℕ × ℕ))). Edited counts starts roots tables (rows ++ row ∷ []) m order c.add_list.new.self.lists (block_added (seen_graph counts roots tables rows lists) n c.args.label c.args.opening)) (sym kept_are)
    (subst (λ (m : List (List (ℕ × Op))). Edited counts starts roots tables (rows ++ row ∷ []) ((kept_from 0 rows ++ (k, n) ∷ []) ∷ []) order m (block_added (seen_graph counts roots tables rows lists) n c.args.label c.args.opening)) (sym c.in-Ok.ensures.added)
    (block_put counts starts roots tables rows kept order lists c.self.invariant n k row c.in-Ok.ensures.number refl refl refl after))))

pub invariant_of-self-2 : goal.invariant_of-self-2
invariant_of-self-2 c = (becomes c).laid

pub returns-clause-fresh : goal.returns-clause-fresh
returns-clause-fresh c =
    rw (← c.self.view_is) (block_fresh c.self.inside.counts.items c.self.inside.starts.items c.self.inside.roots.items c.self.inside.tables.items c.self.inside.rows.items c.self.inside.kept.lists c.self.inside.order c.self.inside.ops.lists c.self.invariant c.new.result (c.new.ensures ∙ c.in-Ok.ensures.number))

pub returns-clause-added : goal.returns-clause-added
returns-clause-added c = rw (← c.self.view_is) (becomes c).are
