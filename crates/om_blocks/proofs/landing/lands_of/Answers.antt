use Rattle.std.proofs.Common.{◌<◌, ℕ, List, Option, Some, sym, subst}
use Rattle.om_blocks.proofs.Walking.{OnBlocks, blocks_left, blocks_more, blocks_fewer, found_here}
use Rattle.om_blocks.proofs.OnLands.{AllLanded, all_more}
use Rattle.om_blocks.proofs.landing.lands_of.Goals as goal

on : (c : goal.After-next_block-next) → OnBlocks (List ℕ) (AllLanded c.args.g.now) c.args.g.now (Some c.in-Some.b) c.loop-next.lands.items
on c = subst (λ (n : Option ℕ). OnBlocks (List ℕ) (AllLanded c.args.g.now) c.args.g.now n c.loop-next.lands.items) c.in-Some.is c.loop-next.invariant

pub loop-next-smaller : goal.loop-next-smaller
loop-next-smaller c =
    subst (λ (n : Option ℕ). blocks_left (List ℕ) (AllLanded c.args.g.now) c.args.g.now c.next_block-next.result < blocks_left (List ℕ) (AllLanded c.args.g.now) c.args.g.now n) (sym c.in-Some.is)
    (blocks_fewer (List ℕ) (AllLanded c.args.g.now) c.args.g.now c.requires.graph c.in-Some.b c.next_block-next.result c.loop-next.lands.items (on c) c.next_block-next.ensures.next)

pub loop-next-preserved : goal.loop-next-preserved
loop-next-preserved c =
    blocks_more (List ℕ) (AllLanded c.args.g.now) c.args.g.now c.requires.graph c.in-Some.b c.next_block-next.result c.loop-next.lands.items c.add_block.new.lands.items (on c)
    (λ done x hx same old. all_more c.args.g.now done x c.loop-next.lands.items c.add_block.new.lands.items
    (c.in_ok-add_block.ensures x (found_here c.args.g.now c.requires.graph x c.in-Some.b hx same).0) old)
    c.next_block-next.ensures.next c.next_block-next.ensures.live
