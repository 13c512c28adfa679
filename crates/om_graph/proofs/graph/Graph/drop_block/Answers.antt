use Rattle.std.proofs.Common.{◌≡◌, ◌∷◌, ℕ, true, Some, is_some, List, [], get_or, set, arith, sym, ap, ◌∙◌, subst}
use Rattle.std.specs.Prelude.{find}
use Rattle.std.specs.Map.{keys_of}
use Rattle.om_arena.specs.Lists.{AreApart, without}
use Rattle.om_graph.specs.declared.parts.Row.{Row}
use Rattle.om_graph.specs.View.{is_block, dropped}
use Rattle.om_graph.specs.Laid.{blocks_from, kept_from, seen_graph, dropped_row, row_at}
use Rattle.om_graph.proofs.GraphReads.{live_block, number_is, kept_unlinked}
use Rattle.om_graph.proofs.GraphEdits.{Edited, block_dropped}
use Rattle.om_graph.proofs.graph.Graph.drop_block.Goals as goal

pub drop_row-kept-requires-clause-list : goal.drop_row-kept-requires-clause-list
drop_row-kept-requires-clause-list c =
    let live : is_some (find (is_block c.args.b) (blocks_from c.self.inside.ops.lists 0 c.self.inside.rows.items)) ≡ true = rw (← c.self.view_is) at c.requires in
    let l = live_block c.self.inside.ops.lists c.self.inside.rows.items c.args.b live in
    let w = l.within in
    omega (arith, w)

pub drop_row-kept-requires-clause-kept : goal.drop_row-kept-requires-clause-kept
drop_row-kept-requires-clause-kept c =
    let live : is_some (find (is_block c.args.b) (blocks_from c.self.inside.ops.lists 0 c.self.inside.rows.items)) ≡ true = rw (← c.self.view_is) at c.requires in
    let l = live_block c.self.inside.ops.lists c.self.inside.rows.items c.args.b live in
    ap (λ (n : ℕ). is_some (row_at c.self.inside.rows.items n).kept) c.list.ensures ∙ ap is_some l.kept

pub unlink-requires : goal.unlink-requires
unlink-requires c =
    let live : is_some (find (is_block c.args.b) (blocks_from c.self.inside.ops.lists 0 c.self.inside.rows.items)) ≡ true = rw (← c.self.view_is) at c.requires in
    let l = live_block c.self.inside.ops.lists c.self.inside.rows.items c.args.b live in
    let is : (row_at c.self.inside.rows.items c.args.b).kept ≡ Some c.drop_row-kept.result = ap (λ (n : ℕ). (row_at c.self.inside.rows.items n).kept) (sym c.list.ensures) ∙ c.drop_row-kept.ensures.kept in
    ap is_some (number_is c.self.inside.kept.lists c.self.inside.rows.items c.self.invariant.numbers (c.ids_differ.ensures.apart 0) c.args.b c.drop_row-kept.result (row_at c.self.inside.rows.items c.args.b) l.is_at is)

becomes : (c : goal.After-unlink) → Edited c.self.inside.counts.items c.self.inside.starts.items c.self.inside.roots.items c.self.inside.tables.items c.drop_row-kept.new.rows.items c.unlink.new.self.lists c.self.inside.order c.self.inside.ops.lists (dropped (seen_graph c.self.inside.counts.items c.self.inside.roots.items c.self.inside.tables.items c.self.inside.rows.items c.self.inside.ops.lists) c.args.b)
becomes c =
    let counts = c.self.inside.counts.items in
    let starts = c.self.inside.starts.items in
    let roots = c.self.inside.roots.items in
    let tables = c.self.inside.tables.items in
    let rows = c.self.inside.rows.items in
    let kept = c.self.inside.kept.lists in
    let order = c.self.inside.order in
    let lists = c.self.inside.ops.lists in
    let live : is_some (find (is_block c.args.b) (blocks_from c.self.inside.ops.lists 0 c.self.inside.rows.items)) ≡ true = rw (← c.self.view_is) at c.requires in
    let l = live_block c.self.inside.ops.lists c.self.inside.rows.items c.args.b live in
    let k = c.drop_row-kept.result in
    let is : (row_at rows c.args.b).kept ≡ Some k = ap (λ (n : ℕ). (row_at rows n).kept) (sym c.list.ensures) ∙ c.drop_row-kept.ensures.kept in
    let written : c.drop_row-kept.new.rows.items ≡ set rows c.args.b (dropped_row (row_at rows c.args.b)) =
    c.drop_row-kept.ensures.rows ∙ ap (λ (n : ℕ). set rows n (dropped_row (row_at rows n))) c.list.ensures in
    let apart = subst (λ (m : List (List (ℕ × ℕ))). AreApart (keys_of (get_or m 0 []))) c.self.invariant.numbers (c.ids_differ.ensures.apart 0) in
    let taken = c.unlink.ensures.unlinked ∙ kept_unlinked kept rows c.args.b k (row_at rows c.args.b) c.self.invariant.numbers (c.ids_differ.ensures.apart 0) l.is_at is in
    let g = dropped (seen_graph counts roots tables rows lists) c.args.b in
    subst (λ (m : List (List (ℕ × ℕ))). Edited counts starts roots tables c.drop_row-kept.new.rows.items m order lists g) (sym taken)
    (subst (λ (r : List Row). Edited counts starts roots tables r (without k (kept_from 0 rows) ∷ []) order lists g) (sym written)
    (block_dropped counts starts roots tables rows kept order lists c.self.invariant c.args.b k l is apart))

pub invariant_of-self : goal.invariant_of-self
invariant_of-self c = (becomes c).laid

pub returns : goal.returns
returns c = rw (← c.self.view_is) (becomes c).are
