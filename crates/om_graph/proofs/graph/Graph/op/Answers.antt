use Rattle.std.proofs.Common.{◌≡◌, ℕ, true, is_some, get_or, Some, sym, ap, subst, eqb}
use Rattle.std.specs.Prelude.{find, []}
use Rattle.std.specs.Map.{lookup}
use Rattle.om_arena.specs.Lists.{home}
use Rattle.om_graph.specs.View.{holds_node}
use Rattle.om_graph.specs.Laid.{blocks_from}
use Rattle.om_graph.proofs.GraphReads.{live_op, op_value}
use Rattle.om_graph.proofs.graph.Graph.op.Goals as goal

pub get-requires : goal.get-requires
get-requires c =
    let live : is_some (find (holds_node c.args.o) (blocks_from c.self.inside.ops.lists 0 c.self.inside.rows.items)) ≡ true = rw (← c.self.view_is) at c.requires in
    let l = live_op c.self.inside.ops.lists c.self.inside.rows.items c.args.o c.ids_differ.ensures.homes live in
    subst (λ (o : ℕ). is_some (lookup (eqb o) (get_or c.self.inside.ops.lists (home o c.self.inside.ops.lists) [])) ≡ true) (sym c.id.ensures) (ap is_some l.item)

pub returns : goal.returns
returns c =
    let live : is_some (find (holds_node c.args.o) (blocks_from c.self.inside.ops.lists 0 c.self.inside.rows.items)) ≡ true = rw (← c.self.view_is) at c.requires in
    let l = live_op c.self.inside.ops.lists c.self.inside.rows.items c.args.o c.ids_differ.ensures.homes live in
    let value : lookup (eqb c.args.o) (get_or c.self.inside.ops.lists (home c.args.o c.self.inside.ops.lists) []) ≡ Some c.get.result.now =
    subst (λ (o : ℕ). lookup (eqb o) (get_or c.self.inside.ops.lists (home o c.self.inside.ops.lists) []) ≡ Some c.get.result.now) c.id.ensures c.get.ensures in
    rw (← c.self.view_is) (op_value c.self.inside.ops.lists c.self.inside.rows.items c.args.o c.get.result.now c.ids_differ.ensures.homes l value)
