use Rattle.std.proofs.Common.{◌≡◌, ℕ, true, is_some, sym, ap, ◌∙◌, arith}
use Rattle.std.specs.Prelude.{find}
use Rattle.om_graph.specs.View.{is_live_block, is_block, block_id_after}
use Rattle.om_graph.specs.Laid.{blocks_from}
use Rattle.om_graph.proofs.GraphReads.{if_some, block_next, number_is, next_live, live_block, read_row}
use Rattle.om_graph.proofs.graph.Graph.next_block.Goals as goal

pub index-requires : goal.index-requires
index-requires c =
    let live : is_some (find (is_block c.args.b) (blocks_from c.self.inside.ops.lists 0 c.self.inside.rows.items)) ≡ true = rw (← c.self.view_is) at c.requires in
    let w = (live_block c.self.inside.ops.lists c.self.inside.rows.items c.args.b live).within in
    omega (arith, w)

pub unwrap-kept-requires : goal.unwrap-kept-requires
unwrap-kept-requires c =
    let live : is_some (find (is_block c.args.b) (blocks_from c.self.inside.ops.lists 0 c.self.inside.rows.items)) ≡ true = rw (← c.self.view_is) at c.requires in
    ap is_some (read_row c.self.inside.ops.lists c.self.inside.rows.items c.args.b c.number.result c.index.result.now live c.index.ensures c.number.ensures).1.1

pub next-requires : goal.next-requires
next-requires c =
    let live : is_some (find (is_block c.args.b) (blocks_from c.self.inside.ops.lists 0 c.self.inside.rows.items)) ≡ true = rw (← c.self.view_is) at c.requires in
    let r = read_row c.self.inside.ops.lists c.self.inside.rows.items c.args.b c.number.result c.index.result.now live c.index.ensures c.number.ensures in
    ap is_some (number_is c.self.inside.kept.lists c.self.inside.rows.items c.self.invariant.numbers (c.ids_differ.ensures.apart 0) c.args.b c.unwrap-kept.result c.index.result.now r.0 c.unwrap-kept.ensures)

read : (c : goal.After-numbered) → c.numbered.result ≡ block_id_after c.args.b c.args.self.now.blocks
read c =
    let live : is_some (find (is_block c.args.b) (blocks_from c.self.inside.ops.lists 0 c.self.inside.rows.items)) ≡ true = rw (← c.self.view_is) at c.requires in
    let r = read_row c.self.inside.ops.lists c.self.inside.rows.items c.args.b c.number.result c.index.result.now live c.index.ensures c.number.ensures in
    c.numbered.ensures ∙ rw c.next.ensures.next
    (rw (← c.self.view_is) (block_next c.self.inside.kept.lists c.self.inside.rows.items c.self.invariant.numbers (c.ids_differ.ensures.apart 0) c.self.inside.ops.lists c.args.b c.unwrap-kept.result c.index.result.now r.0 c.unwrap-kept.ensures))

pub returns-clause-next : goal.returns-clause-next
returns-clause-next c = read c

pub returns-clause-live : goal.returns-clause-live
returns-clause-live c =
    if_some c.numbered.result (λ (b : ℕ). is_live_block c.args.self.now b ≡ true) (λ b e. next_live c.args.b c.args.self.now.blocks b (sym (read c) ∙ e))
