use Rattle.std.proofs.Common.{◌<◌, ℕ, Option, Some, sym, subst}
use Rattle.om_blocks.proofs.Walking.{OnBlocks, blocks_left, blocks_more, blocks_fewer}
use Rattle.om_uses.specs.Parts.{Kept}
use Rattle.om_uses.proofs.Fresh.{OfBlocks, blocks_noted}
use Rattle.om_uses.proofs.uses.Uses.scratch.Goals as goal

on : (c : goal.After-next_block-next) → OnBlocks Kept (OfBlocks c.args.g.now) c.args.g.now (Some c.in-Some.b) c.loop-next.uses
on c = subst (λ (n : Option ℕ). OnBlocks Kept (OfBlocks c.args.g.now) c.args.g.now n c.loop-next.uses) c.in-Some.is c.loop-next.invariant

pub loop-next-smaller : goal.loop-next-smaller
loop-next-smaller c =
    subst (λ (n : Option ℕ). blocks_left Kept (OfBlocks c.args.g.now) c.args.g.now c.next_block-next.result < blocks_left Kept (OfBlocks c.args.g.now) c.args.g.now n) (sym c.in-Some.is)
    (blocks_fewer Kept (OfBlocks c.args.g.now) c.args.g.now c.is_graph.ensures c.in-Some.b c.next_block-next.result c.loop-next.uses (on c) c.next_block-next.ensures.next)

pub loop-next-preserved : goal.loop-next-preserved
loop-next-preserved c =
    let g = c.args.g.now in
    blocks_more Kept (OfBlocks g) g c.is_graph.ensures c.in-Some.b c.next_block-next.result c.loop-next.uses c.note.new.self (on c)
    (λ done x among same old. blocks_noted g c.is_graph.ensures done x c.in-Some.b c.in_ok-start.start c.loop-next.uses c.admit.new.self c.note.new.self same among
    c.admit.ensures.same c.in_ok-start.ensures.room c.note.ensures old)
    c.next_block-next.ensures.next c.next_block-next.ensures.live
