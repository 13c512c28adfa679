use Rattle.std.proofs.Common.{get_or, take, length, refl, arith}
use Rattle.std.proofs.lemmas.List.{take_more}
use Rattle.om_flow.specs.declared.parts.FlowBlock.{FlowBlock}
use Rattle.om_flow.specs.declared.parts.Transfer.TheVariants.{Keep}
use Rattle.om_flow.proofs.Chained.{added_pair, pair_low}
use Rattle.om_flow.proofs.chains.Chains.add_blocks.Goals as goal

abbrev none : FlowBlock
none = record { first = 0; second = 0; transfer = Keep; reads = 0; writes = 0 }

pub add-requires : goal.add-requires
add-requires c =
    let low = pair_low c.args.blocks.now c.loop-b.b-index (length c.args.self.now.heads.items) none (get_or c.args.blocks.now c.loop-b.b-index none) (omega arith) refl c.requires.below in
    let x = low.0 in
    omega (arith, c.loop-b.invariant.size, x)

pub add-requires-in-loop-b : goal.add-requires-in-loop-b
add-requires-in-loop-b c =
    let low = pair_low c.args.blocks.now c.loop-b.b-index (length c.args.self.now.heads.items) none (get_or c.args.blocks.now c.loop-b.b-index none) (omega arith) refl c.requires.below in
    let x = low.1 in
    omega (arith, c.loop-b.invariant.size, c.in_ok-add.ensures.size, x)

pub loop-b-preserved : goal.loop-b-preserved
loop-b-preserved c =
    rw (take_more c.args.blocks.now c.loop-b.b-index none (omega arith))
    (added_pair (take c.loop-b.b-index c.args.blocks.now) (get_or c.args.blocks.now c.loop-b.b-index none) (length c.args.self.now.heads.items) (length c.loop-b.self.heads.items)
    (length c.add.new.self.heads.items) c.args.self.now.heads.items c.args.self.now.more.items c.loop-b.self.heads.items c.loop-b.self.more.items c.add.new.self.heads.items c.add.new.self.more.items
    c.add-in-loop-b.new.self.heads.items c.add-in-loop-b.new.self.more.items refl refl c.loop-b.invariant c.in_ok-add.ensures c.in_ok-add-2.ensures)
