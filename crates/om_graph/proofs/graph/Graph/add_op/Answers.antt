use Rattle.std.proofs.Common.{◌≡◌, ◌++◌, ◌∷◌, ℕ, true, None, is_some, List, [], length, get_or, set, eqb, arith, sym, ap, ◌∙◌, subst}
use Rattle.std.specs.Prelude.{find}
use Rattle.std.specs.Map.{lookup}
use Rattle.om_arena.specs.Lists.{home}
use Rattle.om_graph.specs.declared.op.Op.{Op}
use Rattle.om_graph.specs.View.{is_block, op_added}
use Rattle.om_graph.specs.Laid.{blocks_from, seen_graph}
use Rattle.om_graph.proofs.GraphReads.{live_block}
use Rattle.om_graph.proofs.GraphEdits.{Edited, op_fresh, op_put}
use Rattle.om_graph.proofs.graph.Graph.add_op.Goals as goal

pub push_back-requires-clause-list : goal.push_back-requires-clause-list
push_back-requires-clause-list c =
    let live : is_some (find (is_block c.args.b) (blocks_from c.self.inside.ops.lists 0 c.self.inside.rows.items)) ≡ true = rw (← c.self.view_is) at c.requires in
    let l = live_block c.self.inside.ops.lists c.self.inside.rows.items c.args.b live in
    let w = l.within in
    let s = c.self.invariant.listed in
    let e = ap (λ (m : List (List (ℕ × Op))). length m) c.reserve.ensures.lists in
    omega (arith, w, s, e)

-- the id stood nowhere
nowhere : (c : goal.After-new) → lookup (eqb c.new.result) (get_or c.self.inside.ops.lists (home c.new.result c.self.inside.ops.lists) []) ≡ None
nowhere c =
    subst (λ (m : List (List (ℕ × Op))). lookup (eqb c.new.result) (get_or m (home c.new.result m) []) ≡ None) c.reserve.ensures.lists
    (subst (λ (n : ℕ). lookup (eqb n) (get_or c.reserve.new.self.lists (home n c.reserve.new.self.lists) []) ≡ None) (sym c.new.ensures) c.push_back.ensures.fresh)

becomes : (c : goal.After-new) → Edited c.self.inside.counts.items c.self.inside.starts.items c.self.inside.roots.items c.self.inside.tables.items c.self.inside.rows.items c.self.inside.kept.lists c.self.inside.order c.push_back.new.self.lists (op_added (seen_graph c.self.inside.counts.items c.self.inside.roots.items c.self.inside.tables.items c.self.inside.rows.items c.self.inside.ops.lists) c.args.b (record { id = c.new.result; op = c.args.op }))
becomes c =
    let counts = c.self.inside.counts.items in
    let starts = c.self.inside.starts.items in
    let roots = c.self.inside.roots.items in
    let tables = c.self.inside.tables.items in
    let rows = c.self.inside.rows.items in
    let kept = c.self.inside.kept.lists in
    let order = c.self.inside.order in
    let lists = c.self.inside.ops.lists in
    let live : is_some (find (is_block c.args.b) (blocks_from c.self.inside.ops.lists 0 c.self.inside.rows.items)) ≡ true = rw (← c.self.view_is) at c.requires in
    let l = live_block c.self.inside.ops.lists c.self.inside.rows.items c.args.b live in
    let put : c.push_back.new.self.lists ≡ set lists c.args.b (get_or lists c.args.b [] ++ (c.new.result, c.args.op) ∷ []) =
    c.push_back.ensures.pushed
    ∙ ap (λ (m : List (List (ℕ × Op))). set m c.list.result (get_or m c.list.result [] ++ (c.push_back.result, c.args.op) ∷ [])) c.reserve.ensures.lists
    ∙ ap (λ (n : ℕ). set lists n (get_or lists n [] ++ (c.push_back.result, c.args.op) ∷ [])) c.list.ensures
    ∙ ap (λ (n : ℕ). set lists c.args.b (get_or lists c.args.b [] ++ (n, c.args.op) ∷ [])) (sym c.new.ensures) in
    let g = op_added (seen_graph counts roots tables rows lists) c.args.b (record { id = c.new.result; op = c.args.op }) in
    subst (λ (m : List (List (ℕ × Op))). Edited counts starts roots tables rows kept order m g) (sym put)
    (op_put counts starts roots tables rows kept order lists c.self.invariant c.args.b c.new.result c.args.op l (nowhere c))

pub invariant_of-self-2 : goal.invariant_of-self-2
invariant_of-self-2 c = (becomes c).laid

pub returns-clause-fresh : goal.returns-clause-fresh
returns-clause-fresh c =
    rw (← c.self.view_is) (op_fresh c.self.inside.counts.items c.self.inside.starts.items c.self.inside.roots.items c.self.inside.tables.items c.self.inside.rows.items c.self.inside.kept.lists c.self.inside.order c.self.inside.ops.lists c.self.invariant c.new.result (nowhere c))

pub returns-clause-added : goal.returns-clause-added
returns-clause-added c = rw (← c.self.view_is) (becomes c).are
