use Rattle.std.proofs.Common.{◌≡◌, ℕ, true, is_some, get_or, arith, ap, ◌∙◌}
use Rattle.std.specs.Prelude.{find, option_map, Option}
use Rattle.om_graph.specs.View.{Block, is_block}
use Rattle.om_graph.specs.Laid.{blocks_from}
use Rattle.om_graph.proofs.GraphReads.{live_block, block_read}
use Rattle.om_graph.proofs.graph.Graph.opening.Goals as goal

pub index-requires : goal.index-requires
index-requires c =
    let live : is_some (find (is_block c.args.b) (blocks_from c.self.inside.ops.lists 0 c.self.inside.rows.items)) ≡ true = rw (← c.self.view_is) at c.requires in
    let l = live_block c.self.inside.ops.lists c.self.inside.rows.items c.args.b live in
    let w = l.within in
    omega (arith, w)

pub returns : goal.returns
returns c =
    let live : is_some (find (is_block c.args.b) (blocks_from c.self.inside.ops.lists 0 c.self.inside.rows.items)) ≡ true = rw (← c.self.view_is) at c.requires in
    let read : c.index.result.now ≡ get_or c.self.inside.rows.items c.args.b c.index.result.now = c.index.ensures ∙ ap (λ (n : ℕ). get_or c.self.inside.rows.items n c.index.result.now) c.number.ensures in
    rw (← c.self.view_is) (ap (λ (x : Option Block). option_map (λ (y : Block). y.opening) x) (block_read c.self.inside.ops.lists c.self.inside.rows.items c.args.b c.index.result.now live read))
