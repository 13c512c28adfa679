use Rattle.std.proofs.Common.{get_or, take, length, refl, arith}
use Rattle.std.proofs.lemmas.List.{take_more}
use Rattle.om_flow.proofs.Among.{among_read}
use Rattle.om_flow.proofs.Chained.{added_last}
use Rattle.om_flow.proofs.chains.Chains.add_lands.Goals as goal

pub add-requires : goal.add-requires
add-requires c =
    let x = c.requires.below (get_or c.args.lands.now c.loop-land.land-index 0) (among_read c.args.lands.now c.loop-land.land-index 0 (omega arith)) in
    omega (arith, c.loop-land.invariant.size, x)

pub loop-land-preserved : goal.loop-land-preserved
loop-land-preserved c =
    rw (take_more c.args.lands.now c.loop-land.land-index 0 (omega arith))
    (added_last (take c.loop-land.land-index c.args.lands.now) (get_or c.args.lands.now c.loop-land.land-index 0) (length c.args.self.now.heads.items) (length c.loop-land.self.heads.items)
    c.args.self.now.heads.items c.args.self.now.more.items c.loop-land.self.heads.items c.loop-land.self.more.items c.add.new.self.heads.items c.add.new.self.more.items refl c.loop-land.invariant
    c.in_ok-add.ensures)
