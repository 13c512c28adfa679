use Rattle.std.proofs.Common.{arith}
use Rattle.om_dead.proofs.Searching.{begun, taken, turn, fewer, all_found}
use Rattle.om_dead.proofs.kept.Found.of.Goals as goal

pub loop-b-init : goal.loop-b-init
loop-b-init c =
    begun c.args.g.now c.rows.result c.add_roots.new.self.set.items c.add_roots.new.self.work.items c.rows.ensures
    (rw (c.in_ok-vec.ensures.items_if_clones_equal (λ y e. e), c.new.ensures.items) at c.in_ok-add_roots.ensures)

pub add_from-requires-clause-live : goal.add_from-requires-clause-live
add_from-requires-clause-live c =
    taken c.args.g.now c.requires.graph c.requires.flow c.requires.kept c.loop-b.found.set.items c.loop-b.found.work.items c.pop.new.self.items c.in-Some.b c.in-Some.ensures.items c.loop-b.invariant

pub add_from-requires-clause-rows : goal.add_from-requires-clause-rows
add_from-requires-clause-rows c = c.loop-b.invariant.rows

pub loop-b-preserved : goal.loop-b-preserved
loop-b-preserved c =
    turn c.args.g.now c.requires.graph c.requires.flow c.requires.kept c.loop-b.found.set.items c.loop-b.found.work.items c.pop.new.self.items c.in-Some.b c.in-Some.ensures.items c.loop-b.invariant
    c.add_from.new.self.set.items c.add_from.new.self.work.items c.in_ok-add_from.ensures

pub loop-b-smaller : goal.loop-b-smaller
loop-b-smaller c =
    fewer c.args.g.now c.requires.graph c.requires.flow c.requires.kept c.loop-b.found.set.items c.loop-b.found.work.items c.pop.new.self.items c.in-Some.b c.in-Some.ensures.items c.loop-b.invariant
    c.add_from.new.self.set.items c.add_from.new.self.work.items c.in_ok-add_from.ensures

pub returns : goal.returns
returns c =
    all_found c.args.g.now c.requires.graph c.requires.flow c.requires.kept c.loop-b.found.set.items c.loop-b.found.work.items (omega (arith, c.in_default.ensures.cases.0)) c.loop-b.invariant
