use Rattle.std.proofs.Common.{◌≡◌, ℕ, true, sym, ◌∙◌}
use Rattle.om_graph.specs.View.{is_live_block, first_block_id}
use Rattle.om_graph.proofs.GraphReads.{if_some, block_first, first_live}
use Rattle.om_graph.proofs.graph.Graph.first_block.Goals as goal

read : (c : goal.After-numbered) → c.numbered.result ≡ first_block_id c.args.self.now.blocks
read c =
    c.numbered.ensures ∙ rw c.first.ensures.first
    (rw (← c.self.view_is) (block_first c.self.inside.kept.lists c.self.inside.rows.items c.self.invariant.numbers (c.ids_differ.ensures.apart 0) c.self.inside.order c.self.inside.ops.lists c.self.invariant.first))

pub returns-clause-first : goal.returns-clause-first
returns-clause-first c = read c

pub returns-clause-live : goal.returns-clause-live
returns-clause-live c =
    if_some c.numbered.result (λ (b : ℕ). is_live_block c.args.self.now b ≡ true) (λ b e. first_live c.args.self.now.blocks b (sym (read c) ∙ e))
