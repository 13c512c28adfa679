use Rattle.om_encode.proofs.TextWalks.{text_start, text_step, text_fewer, text_end, block_live}
use Rattle.om_encode.proofs.text_walk.text_of.Goals as goal

pub loop-next-init : goal.loop-next-init
loop-next-init c =
    text_start c.args.program.now c.args.graph.now c.args.layout.now c.first_block-next.result _ c.first_block-next.ensures.first c.new-text.ensures.items

pub write_block-requires-clause-live : goal.write_block-requires-clause-live
write_block-requires-clause-live c =
    block_live c.args.program.now c.args.graph.now c.args.layout.now c.requires.graph.graph c.in-Some.block c.loop-next.next
    c.loop-next.text.items c.loop-next.invariant c.in-Some.is

pub next_block-next-requires : goal.next_block-next-requires
next_block-next-requires c =
    block_live c.args.program.now c.args.graph.now c.args.layout.now c.requires.graph.graph c.in-Some.block c.loop-next.next
    c.loop-next.text.items c.loop-next.invariant c.in-Some.is

pub loop-next-smaller : goal.loop-next-smaller
loop-next-smaller c =
    text_fewer c.args.program.now c.args.graph.now c.args.layout.now c.requires.graph.graph c.in-Some.block c.loop-next.next
    c.loop-next.text.items c.loop-next.invariant c.in-Some.is c.next_block-next.result c.next_block-next.ensures.next

pub loop-next-preserved : goal.loop-next-preserved
loop-next-preserved c =
    text_step c.args.program.now c.args.graph.now c.args.layout.now c.requires.graph.graph c.in-Some.block c.loop-next.next
    c.loop-next.text.items c.loop-next.invariant c.in-Some.is c.write_block.new.text.items c.next_block-next.result
    c.in_ok-write_block.ensures c.next_block-next.ensures.next

pub returns : goal.returns
returns c = text_end c.args.program.now c.args.graph.now c.args.layout.now c.loop-next.next c.loop-next.text.items c.loop-next.invariant c.in_default.is
