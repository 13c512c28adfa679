use Rattle.std.proofs.Common.{ℕ, subst, sym, arith}
use Rattle.om_graph.specs.View.{Has}
use Rattle.om_dead.proofs.OnLowering.{has_at}
use Rattle.om_dead.proofs.OnRegions.{spreading_first, spreading_more, all_closed, spread_live}
use Rattle.om_dead.proofs.regions.Region.spread.Goals as goal

pub loop-i-init : goal.loop-i-init
loop-i-init c =
    spreading_first c.args.g.now c.args.m.now.starts.items c.args.m.now.ends.items c.args.r c.clear.new.self.items c.put.new.self.blocks.items c.args.b c.clear.ensures.items c.requires.live
    c.in_ok-put.ensures

pub returns-then-i-len-clause-closed : goal.returns-then-i-len-clause-closed
returns-then-i-len-clause-closed c = λ t.
    all_closed c.args.g.now c.args.m.now.starts.items c.args.m.now.ends.items c.args.r c.loop-i.i c.loop-i.self.blocks.items (omega (arith, c.if-i-len.true, c.len.ensures)) c.loop-i.invariant

pub look-requires-clause-live : goal.look-requires-clause-live
look-requires-clause-live c =
    c.loop-i.invariant.live c.index-next.result.now
    (subst (λ (n : ℕ). Has c.loop-i.self.blocks.items n) (sym c.index-next.ensures)
    (has_at c.loop-i.self.blocks.items c.loop-i.i c.index-next.result.now (omega (arith, c.if-i-len.false, c.len.ensures))))

pub returns-then-not-hands-clause-live : goal.returns-then-not-hands-clause-live
returns-then-not-hands-clause-live c = spread_live c.args.g.now c.loop-i.self.blocks.items c.look.new.self.blocks.items c.loop-i.invariant.live c.in_ok-hands.ensures.spread

pub loop-i-preserved : goal.loop-i-preserved
loop-i-preserved c =
    spreading_more c.args.g.now c.args.m.now.starts.items c.args.m.now.ends.items c.args.r c.loop-i.i c.loop-i.self.blocks.items c.look.new.self.blocks.items c.index-next.result.now
    (omega (arith, c.if-i-len.false, c.len.ensures)) c.index-next.ensures c.loop-i.invariant c.in_ok-hands.ensures.spread (c.in_ok-hands.ensures.hands c.if-not-hands.false)
