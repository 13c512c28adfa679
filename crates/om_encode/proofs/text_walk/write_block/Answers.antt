use Rattle.om_encode.proofs.TextWalks.{last_can, block_done}
use Rattle.om_encode.proofs.text_walk.write_block.Goals as goal

pub write_last-requires : goal.write_last-requires
write_last-requires c =
    last_can c.args.program.now c.args.graph.now c.args.layout.now c.requires.can c.args.block c.requires.live c.last.result c.last.ensures

pub returns : goal.returns
returns c =
    block_done c.args.program.now c.args.graph.now c.args.layout.now c.requires.can c.args.block c.last.result c.args.text.now.items
    c.write_ops.new.text.items c.write_last.new.text.items c.last.ensures c.in_ok-write_ops.ensures c.in_ok-write_last.ensures
