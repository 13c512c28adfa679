use Rattle.std.proofs.Common.{◌≡◌, ◌<◌, ℕ, Bool, Option, Some, None, sym, ◌∙◌, subst}
use Rattle.om_addr.specs.Loads.{load_kind}
use Rattle.om_addr.proofs.FarWalk.{OnHalves, HalfSet, halves_begin, halves_set, halves_live, halves_more, halves_fewer, halves_stop, halves_end}
use Rattle.om_addr.proofs.Walking.{ops_left}
use Rattle.om_addr.proofs.far.take_halves.Goals as goal

pub loop-next-init : goal.loop-next-init
loop-next-init c =
    halves_begin c.args.g.now c.args.load.now.id c.args.load.now.ra c.args.hi (record { place = c.requires.load.place; kind = load_kind c.args.load.now }) c.next_op-next.result c.requires.graph c.requires.load.is
    c.next_op-next.ensures.next c.next_op-next.ensures.live

pub returns-then-writes : goal.returns-then-writes
returns-then-writes c =
    halves_stop c.args.g.now c.args.load.now.id c.args.load.now.ra c.args.hi c.set.new.g c.in-Some.o c.op-kind.result.kind c.requires.register
    (halves_set c.args.g.now c.args.load.now.id c.args.load.now.ra c.args.hi c.loop-next.g c.set.new.g c.in-Some.o c.loop-next.next c.op-kind.result c.half_use.result c.is_graph.ensures c.loop-next.invariant
    c.in-Some.is c.op-kind.ensures c.half_use.ensures c.set.ensures.graph)
    (sym c.writes.ensures ∙ c.if-writes.true)

pub next_op-next-requires-in-Some : goal.next_op-next-requires-in-Some
next_op-next-requires-in-Some c =
    halves_live c.args.g.now c.args.load.now.id c.args.load.now.ra c.args.hi c.set.new.g c.in-Some.o c.op-kind.result.kind c.is_graph-in-Some.ensures
    (halves_set c.args.g.now c.args.load.now.id c.args.load.now.ra c.args.hi c.loop-next.g c.set.new.g c.in-Some.o c.loop-next.next c.op-kind.result c.half_use.result c.is_graph.ensures c.loop-next.invariant
    c.in-Some.is c.op-kind.ensures c.half_use.ensures c.set.ensures.graph)

pub loop-next-smaller : goal.loop-next-smaller
loop-next-smaller c =
    subst (λ (n : Option ℕ). ops_left c.set.new.g c.next_op-next-in-Some.result < ops_left c.loop-next.g n) (sym c.in-Some.is)
    (halves_fewer c.args.g.now c.args.load.now.id c.args.load.now.ra c.args.hi c.loop-next.g c.set.new.g c.in-Some.o c.op-kind.result.kind c.half_use.result c.next_op-next-in-Some.result c.is_graph-in-Some.ensures
    (halves_set c.args.g.now c.args.load.now.id c.args.load.now.ra c.args.hi c.loop-next.g c.set.new.g c.in-Some.o c.loop-next.next c.op-kind.result c.half_use.result c.is_graph.ensures c.loop-next.invariant
    c.in-Some.is c.op-kind.ensures c.half_use.ensures c.set.ensures.graph)
    c.set.ensures.graph c.next_op-next-in-Some.ensures.next)

pub loop-next-preserved : goal.loop-next-preserved
loop-next-preserved c =
    halves_more c.args.g.now c.args.load.now.id c.args.load.now.ra c.args.hi c.set.new.g c.in-Some.o c.op-kind.result.kind c.next_op-next-in-Some.result c.requires.register c.is_graph-in-Some.ensures
    (halves_set c.args.g.now c.args.load.now.id c.args.load.now.ra c.args.hi c.loop-next.g c.set.new.g c.in-Some.o c.loop-next.next c.op-kind.result c.half_use.result c.is_graph.ensures c.loop-next.invariant
    c.in-Some.is c.op-kind.ensures c.half_use.ensures c.set.ensures.graph)
    (sym c.writes.ensures ∙ c.if-writes.false) c.next_op-next-in-Some.ensures.next c.next_op-next-in-Some.ensures.live

pub returns : goal.returns
returns c =
    halves_end c.args.g.now c.args.load.now.id c.args.load.now.ra c.args.hi c.loop-next.g
    (subst (λ (n : Option ℕ). OnHalves c.args.g.now c.loop-next.g c.args.load.now.id c.args.load.now.ra c.args.hi n) c.in_default.is c.loop-next.invariant)
