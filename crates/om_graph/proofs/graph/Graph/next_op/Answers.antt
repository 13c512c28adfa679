use Rattle.std.proofs.Common.{◌≡◌, ℕ, true, is_some, get_or, sym, ap, subst, ◌∙◌, eqb}
use Rattle.std.specs.Prelude.{find, []}
use Rattle.std.specs.Map.{lookup}
use Rattle.om_arena.specs.Lists.{home}
use Rattle.om_arena.specs.Lists as arena
use Rattle.om_graph.specs.View.{holds_node, is_live_op, next_op_of}
use Rattle.om_graph.specs.Laid.{blocks_from}
use Rattle.om_graph.proofs.GraphReads.{if_some, live_op, ops_next, next_op_live}
use Rattle.om_graph.proofs.graph.Graph.next_op.Goals as goal

pub next-requires : goal.next-requires
next-requires c =
    let live : is_some (find (holds_node c.args.o) (blocks_from c.self.inside.ops.lists 0 c.self.inside.rows.items)) ≡ true = rw (← c.self.view_is) at c.requires in
    let l = live_op c.self.inside.ops.lists c.self.inside.rows.items c.args.o c.ids_differ.ensures.homes live in
    subst (λ (o : ℕ). is_some (lookup (eqb o) (get_or c.self.inside.ops.lists (home o c.self.inside.ops.lists) [])) ≡ true) (sym c.id.ensures) (ap is_some l.item)

read : (c : goal.After-found) → c.found.result ≡ next_op_of c.args.self.now c.args.o
read c =
    let live : is_some (find (holds_node c.args.o) (blocks_from c.self.inside.ops.lists 0 c.self.inside.rows.items)) ≡ true = rw (← c.self.view_is) at c.requires in
    let l = live_op c.self.inside.ops.lists c.self.inside.rows.items c.args.o c.ids_differ.ensures.homes live in
    c.found.ensures ∙ c.next.ensures.next ∙ ap (λ (n : ℕ). arena.id_after n (get_or c.self.inside.ops.lists (home n c.self.inside.ops.lists) [])) c.id.ensures
    ∙ rw (← c.self.view_is) (sym (ops_next c.self.inside.ops.lists c.self.inside.rows.items c.args.o c.ids_differ.ensures.homes l))

pub returns-clause-next : goal.returns-clause-next
returns-clause-next c = read c

pub returns-clause-live : goal.returns-clause-live
returns-clause-live c =
    if_some c.found.result (λ (o : ℕ). is_live_op c.args.self.now o ≡ true) (λ o e. next_op_live c.args.o c.args.self.now.blocks o (sym (read c) ∙ e))
