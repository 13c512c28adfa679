use Rattle.std.proofs.Common.{◌≡◌, ℕ, true, is_some, get_or, arith, sym, ap, ◌∙◌}
use Rattle.std.specs.Prelude.{find, []}
use Rattle.om_arena.specs.Lists as arena
use Rattle.om_graph.specs.View.{is_block, is_live_op, first_op_of}
use Rattle.om_graph.specs.Laid.{blocks_from}
use Rattle.om_graph.proofs.GraphReads.{if_some, live_block, ops_first, first_op_live}
use Rattle.om_graph.proofs.graph.Graph.first_op.Goals as goal

pub first-requires : goal.first-requires
first-requires c =
    let live : is_some (find (is_block c.args.b) (blocks_from c.self.inside.ops.lists 0 c.self.inside.rows.items)) ≡ true = rw (← c.self.view_is) at c.requires in
    let w = (live_block c.self.inside.ops.lists c.self.inside.rows.items c.args.b live).within in
    let s = c.self.invariant.listed in
    omega (arith, w, s)

read : (c : goal.After-found) → c.found.result ≡ first_op_of c.args.self.now c.args.b
read c =
    let live : is_some (find (is_block c.args.b) (blocks_from c.self.inside.ops.lists 0 c.self.inside.rows.items)) ≡ true = rw (← c.self.view_is) at c.requires in
    let l = live_block c.self.inside.ops.lists c.self.inside.rows.items c.args.b live in
    c.found.ensures ∙ c.first.ensures.first ∙ ap (λ (n : ℕ). arena.first_id (get_or c.self.inside.ops.lists n [])) c.list.ensures
    ∙ rw (← c.self.view_is) (sym (ops_first c.self.inside.ops.lists c.self.inside.rows.items c.args.b l))

pub returns-clause-first : goal.returns-clause-first
returns-clause-first c = read c

pub returns-clause-live : goal.returns-clause-live
returns-clause-live c =
    if_some c.found.result (λ (o : ℕ). is_live_op c.args.self.now o ≡ true) (λ o e. first_op_live c.args.b c.args.self.now.blocks o (sym (read c) ∙ e))
