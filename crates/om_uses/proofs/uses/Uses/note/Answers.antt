use Rattle.std.proofs.Common.{arith}
use Rattle.om_graph.specs.View.{block_of}
use Rattle.om_blocks.proofs.Walking.{a_some}
use Rattle.om_uses.proofs.uses.Uses.note.Goals as goal

pub overflow_sub-end : goal.overflow_sub-end
overflow_sub-end c =
    let x = a_some (block_of c.args.g.now c.args.b) c.requires.live in
    let end = c.note_block-end.ensures.end x.0 x.1 in
    omega (arith, end)

pub overflow_cast-end : goal.overflow_cast-end
overflow_cast-end c =
    let x = a_some (block_of c.args.g.now c.args.b) c.requires.live in
    let end = c.note_block-end.ensures.end x.0 x.1 in
    let few = (c.requires.room.of x.0 x.1).few in
    omega (arith, end, few)

pub index_mut-requires : goal.index_mut-requires
index_mut-requires c =
    let x = a_some (block_of c.args.g.now c.args.b) c.requires.live in
    let room = rw (← c.self.view_is) at (c.requires.room.of x.0 x.1) in
    let long = c.self.inside.blocks.ok in
    omega (arith, room.number, c.number.ensures, long)
