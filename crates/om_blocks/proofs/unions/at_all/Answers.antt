use Rattle.std.proofs.Common.{◌<◌, ℕ, Option, sym, subst}
use Rattle.std.specs.Int.Bits.{bit_or}
use Rattle.om_blocks.proofs.Walking as walk
use Rattle.om_blocks.proofs.Walking.{OnBlocks, blocks_left, blocks_begin, blocks_fewer, blocks_end, found_here}
use Rattle.om_blocks.proofs.Holding.{BlocksUnite, blocks_first, blocks_more}
use Rattle.om_blocks.proofs.unions.at_all.Goals as goal

pub loop-next-init : goal.loop-next-init
loop-next-init g c =
    let L = g.M.BlockMask.lacks c.args.masks.now in
    blocks_begin ℕ (BlocksUnite c.args.g.now L) c.args.g.now c.requires.graph c.first_block-next.result c.at_roots-all.result c.first_block-next.ensures.first c.first_block-next.ensures.live
    (blocks_first c.args.g.now L c.at_roots-all.result c.at_roots-all.ensures)

pub loop-next-smaller : goal.loop-next-smaller
loop-next-smaller g c =
    let Q = BlocksUnite c.args.g.now (g.M.BlockMask.lacks c.args.masks.now) in
    let on = subst (λ (n : Option ℕ). OnBlocks ℕ Q c.args.g.now n c.loop-next.all) c.in-Some.is c.loop-next.invariant in
    subst (λ (n : Option ℕ). blocks_left ℕ Q c.args.g.now c.next_block-next.result < blocks_left ℕ Q c.args.g.now n) (sym c.in-Some.is)
    (blocks_fewer ℕ Q c.args.g.now c.requires.graph c.in-Some.b c.next_block-next.result c.loop-next.all on c.next_block-next.ensures.next)

pub loop-next-preserved : goal.loop-next-preserved
loop-next-preserved g c =
    let L = g.M.BlockMask.lacks c.args.masks.now in
    let on = subst (λ (n : Option ℕ). OnBlocks ℕ (BlocksUnite c.args.g.now L) c.args.g.now n c.loop-next.all) c.in-Some.is c.loop-next.invariant in
    walk.blocks_more ℕ (BlocksUnite c.args.g.now L) c.args.g.now c.requires.graph c.in-Some.b c.next_block-next.result c.loop-next.all (bit_or c.loop-next.all c.in_block-all.result) on
    (λ done x hx same old. blocks_more c.args.g.now L done x c.loop-next.all c.in_block-all.result (c.in_block-all.ensures x (found_here c.args.g.now c.requires.graph x c.in-Some.b hx same).0) old)
    c.next_block-next.ensures.next c.next_block-next.ensures.live

pub returns : goal.returns
returns g c =
    let Q = BlocksUnite c.args.g.now (g.M.BlockMask.lacks c.args.masks.now) in
    let on = subst (λ (n : Option ℕ). OnBlocks ℕ Q c.args.g.now n c.loop-next.all) c.in_default.is c.loop-next.invariant in
    (blocks_end ℕ Q c.args.g.now c.requires.graph c.loop-next.all on).united
