use Rattle.om_encode.specs.Positions.{filled}
use Rattle.om_encode.proofs.PutWords.{block_live, block_room, words_step, words_fewer}
use Rattle.om_encode.proofs.positions.put_words.Goals as goal

pub put_block-requires-clause-live : goal.put_block-requires-clause-live
put_block-requires-clause-live c =
    block_live c.args.graph.now c.args.layout.now c.args.listed.now c.is_graph.ensures c.in-Some.block c.loop-next.next _ _
    c.loop-next.invariant c.in-Some.is

pub put_block-requires-clause-room : goal.put_block-requires-clause-room
put_block-requires-clause-room c =
    block_room c.args.graph.now c.args.layout.now c.args.listed.now c.is_graph.ensures c.in-Some.block c.loop-next.next _ _
    c.loop-next.invariant c.in-Some.is c.requires.room

pub next_block-next-requires : goal.next_block-next-requires
next_block-next-requires c =
    block_live c.args.graph.now c.args.layout.now c.args.listed.now c.is_graph.ensures c.in-Some.block c.loop-next.next _ _
    c.loop-next.invariant c.in-Some.is

pub loop-next-smaller : goal.loop-next-smaller
loop-next-smaller c =
    words_fewer c.args.graph.now c.args.layout.now c.args.listed.now c.is_graph.ensures c.in-Some.block c.loop-next.next _ _
    c.loop-next.invariant c.in-Some.is c.next_block-next.result c.next_block-next.ensures.next

pub loop-next-preserved : goal.loop-next-preserved
loop-next-preserved c =
    words_step c.args.graph.now c.args.layout.now c.args.listed.now c.is_graph.ensures c.in-Some.block c.loop-next.next _ _
    c.loop-next.invariant c.in-Some.is (filled c.put_block.new.placing) c.next_block-next.result c.put_block.ensures
    c.next_block-next.ensures.next
