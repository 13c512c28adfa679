use Rattle.std.proofs.Common.{◌≡◌, ℕ, ◌<◌, Bool, true, not, List, Option, Some, None, sym, ap, ◌∙◌, subst, arith}
use Rattle.om_layout.specs.Layout.{LayoutView}
use Rattle.om_addr.specs.Near.{base_kind, is_small, IsSaid}
use Rattle.om_addr.proofs.InARow as row
use Rattle.om_addr.proofs.Walking.{ops_left}
use Rattle.om_addr.proofs.Bases.{writes_either}
use Rattle.om_addr.proofs.Loops.{OnLoad}
use Rattle.om_addr.proofs.Loops as loop
use Rattle.om_addr.proofs.Taking.{unbarred, behind_base, none_base}
use Rattle.om_addr.proofs.base_uses.take_pointers.Goals as goal

pub returns-then-is_barred-clause-passed : goal.returns-then-is_barred-clause-passed
returns-then-is_barred-clause-passed c = λ l said masks. row.none l masks c.args.g.now

pub loop-next-init : goal.loop-next-init
loop-next-init c = loop.begins (base_kind c.args.load.now c.args.at.now) (writes_either c.args.load.now.ra c.args.load.now.rb) (λ z. IsSaid z c.args.load.now (Some c.args.at.now)) c.args.load.now c.args.g.now c.next_op-next.result c.is_graph.ensures c.requires.load c.next_op-next.ensures.next c.next_op-next.ensures.live

pub returns-then-writes_either-clause-passed : goal.returns-then-writes_either-clause-passed
returns-then-writes_either-clause-passed c = let b = (behind_base c.args.load.now c.args.at.now (unbarred c.args.load.now.ra c.args.load.now.rb (not (is_small c.args.at.now.distance)) c.if-is_barred.ensures.barred c.is_barred.ensures.first).0 c.is_barred.ensures.second (unbarred c.args.load.now.ra c.args.load.now.rb (not (is_small c.args.at.now.distance)) c.if-is_barred.ensures.barred c.is_barred.ensures.first).1 c.args.g.now c.loop-next.g c.set.new.g c.loop-next.changed c.set.result c.either-changed.result c.loop-next.next c.in-Some.o c.op-op.result c.base_use.result c.requires.pointer c.is_graph-in-Some.ensures c.is_numbered.ensures c.loop-next.invariant c.in-Some.is c.op-op.ensures c.base_use.ensures c.set.ensures.graph c.set.ensures.changed c.either-changed.ensures) in λ l said masks. b.passed l said masks

pub returns-then-writes_either-clause-nothing : goal.returns-then-writes_either-clause-nothing
returns-then-writes_either-clause-nothing c =
    let b = (behind_base c.args.load.now c.args.at.now (unbarred c.args.load.now.ra c.args.load.now.rb (not (is_small c.args.at.now.distance)) c.if-is_barred.ensures.barred c.is_barred.ensures.first).0 c.is_barred.ensures.second (unbarred c.args.load.now.ra c.args.load.now.rb (not (is_small c.args.at.now.distance)) c.if-is_barred.ensures.barred c.is_barred.ensures.first).1 c.args.g.now c.loop-next.g c.set.new.g c.loop-next.changed c.set.result c.either-changed.result c.loop-next.next c.in-Some.o c.op-op.result c.base_use.result c.requires.pointer c.is_graph-in-Some.ensures c.is_numbered.ensures c.loop-next.invariant c.in-Some.is c.op-op.ensures c.base_use.ensures c.set.ensures.graph c.set.ensures.changed c.either-changed.ensures) in
    λ l said. none_base c.args.load.now c.args.at.now (unbarred c.args.load.now.ra c.args.load.now.rb (not (is_small c.args.at.now.distance)) c.if-is_barred.ensures.barred c.is_barred.ensures.first).0 c.is_barred.ensures.second (unbarred c.args.load.now.ra c.args.load.now.rb (not (is_small c.args.at.now.distance)) c.if-is_barred.ensures.barred c.is_barred.ensures.first).1 l said c.args.g.now c.set.new.g c.either-changed.result c.requires.program c.is_graph-in-Some-2.ensures
    (loop.stops (base_kind c.args.load.now c.args.at.now) (writes_either c.args.load.now.ra c.args.load.now.rb) (λ z. IsSaid z c.args.load.now (Some c.args.at.now)) c.args.load.now c.args.g.now c.set.new.g c.either-changed.result c.in-Some.o c.op-op.result b (sym c.if-writes_either.ensures)) b.passed

pub next_op-next-requires-in-Some : goal.next_op-next-requires-in-Some
next_op-next-requires-in-Some c =
    let b = (behind_base c.args.load.now c.args.at.now (unbarred c.args.load.now.ra c.args.load.now.rb (not (is_small c.args.at.now.distance)) c.if-is_barred.ensures.barred c.is_barred.ensures.first).0 c.is_barred.ensures.second (unbarred c.args.load.now.ra c.args.load.now.rb (not (is_small c.args.at.now.distance)) c.if-is_barred.ensures.barred c.is_barred.ensures.first).1 c.args.g.now c.loop-next.g c.set.new.g c.loop-next.changed c.set.result c.either-changed.result c.loop-next.next c.in-Some.o c.op-op.result c.base_use.result c.requires.pointer c.is_graph-in-Some.ensures c.is_numbered.ensures c.loop-next.invariant c.in-Some.is c.op-op.ensures c.base_use.ensures c.set.ensures.graph c.set.ensures.changed c.either-changed.ensures) in
    loop.still_live (base_kind c.args.load.now c.args.at.now) (writes_either c.args.load.now.ra c.args.load.now.rb) (λ z. IsSaid z c.args.load.now (Some c.args.at.now)) c.args.load.now c.args.g.now c.set.new.g c.either-changed.result c.in-Some.o c.op-op.result b c.is_graph-in-Some-2.ensures

pub loop-next-smaller : goal.loop-next-smaller
loop-next-smaller c =
    let b = (behind_base c.args.load.now c.args.at.now (unbarred c.args.load.now.ra c.args.load.now.rb (not (is_small c.args.at.now.distance)) c.if-is_barred.ensures.barred c.is_barred.ensures.first).0 c.is_barred.ensures.second (unbarred c.args.load.now.ra c.args.load.now.rb (not (is_small c.args.at.now.distance)) c.if-is_barred.ensures.barred c.is_barred.ensures.first).1 c.args.g.now c.loop-next.g c.set.new.g c.loop-next.changed c.set.result c.either-changed.result c.loop-next.next c.in-Some.o c.op-op.result c.base_use.result c.requires.pointer c.is_graph-in-Some.ensures c.is_numbered.ensures c.loop-next.invariant c.in-Some.is c.op-op.ensures c.base_use.ensures c.set.ensures.graph c.set.ensures.changed c.either-changed.ensures) in
    subst (λ (n : Option ℕ). ops_left c.set.new.g c.next_op-next-in-Some.result < ops_left c.loop-next.g n) (sym c.in-Some.is)
    (loop.fewer (base_kind c.args.load.now c.args.at.now) (writes_either c.args.load.now.ra c.args.load.now.rb) (λ z. IsSaid z c.args.load.now (Some c.args.at.now)) c.args.load.now c.args.g.now c.loop-next.g c.set.new.g c.either-changed.result c.in-Some.o c.op-op.result c.base_use.result c.next_op-next-in-Some.result b c.is_graph-in-Some-2.ensures
    c.set.ensures.graph c.next_op-next-in-Some.ensures.next)

pub loop-next-preserved : goal.loop-next-preserved
loop-next-preserved c =
    let b = (behind_base c.args.load.now c.args.at.now (unbarred c.args.load.now.ra c.args.load.now.rb (not (is_small c.args.at.now.distance)) c.if-is_barred.ensures.barred c.is_barred.ensures.first).0 c.is_barred.ensures.second (unbarred c.args.load.now.ra c.args.load.now.rb (not (is_small c.args.at.now.distance)) c.if-is_barred.ensures.barred c.is_barred.ensures.first).1 c.args.g.now c.loop-next.g c.set.new.g c.loop-next.changed c.set.result c.either-changed.result c.loop-next.next c.in-Some.o c.op-op.result c.base_use.result c.requires.pointer c.is_graph-in-Some.ensures c.is_numbered.ensures c.loop-next.invariant c.in-Some.is c.op-op.ensures c.base_use.ensures c.set.ensures.graph c.set.ensures.changed c.either-changed.ensures) in
    loop.goes_on (base_kind c.args.load.now c.args.at.now) (writes_either c.args.load.now.ra c.args.load.now.rb) (λ z. IsSaid z c.args.load.now (Some c.args.at.now)) c.args.load.now c.args.g.now c.set.new.g c.either-changed.result c.in-Some.o c.op-op.result c.next_op-next-in-Some.result b c.is_graph-in-Some-2.ensures (sym c.if-writes_either.ensures)
    c.next_op-next-in-Some.ensures.next c.next_op-next-in-Some.ensures.live

pub returns-clause-nothing : goal.returns-clause-nothing
returns-clause-nothing c =
    let on = subst (λ (n : Option ℕ). OnLoad (base_kind c.args.load.now c.args.at.now) (writes_either c.args.load.now.ra c.args.load.now.rb) (λ z. IsSaid z c.args.load.now (Some c.args.at.now)) c.args.load.now c.args.g.now c.loop-next.g c.loop-next.changed n) c.in_default.is c.loop-next.invariant in
    λ l said. none_base c.args.load.now c.args.at.now (unbarred c.args.load.now.ra c.args.load.now.rb (not (is_small c.args.at.now.distance)) c.if-is_barred.ensures.barred c.is_barred.ensures.first).0 c.is_barred.ensures.second (unbarred c.args.load.now.ra c.args.load.now.rb (not (is_small c.args.at.now.distance)) c.if-is_barred.ensures.barred c.is_barred.ensures.first).1 l said c.args.g.now c.loop-next.g c.loop-next.changed c.requires.program c.is_graph-2.ensures
    (loop.ended (base_kind c.args.load.now c.args.at.now) (writes_either c.args.load.now.ra c.args.load.now.rb) (λ z. IsSaid z c.args.load.now (Some c.args.at.now)) c.args.load.now c.args.g.now c.loop-next.g c.loop-next.changed on) c.loop-next.invariant.passed

pub returns-then-writes_either-clause-load : goal.returns-then-writes_either-clause-load
returns-then-writes_either-clause-load c =
    let b = (behind_base c.args.load.now c.args.at.now (unbarred c.args.load.now.ra c.args.load.now.rb (not (is_small c.args.at.now.distance)) c.if-is_barred.ensures.barred c.is_barred.ensures.first).0 c.is_barred.ensures.second (unbarred c.args.load.now.ra c.args.load.now.rb (not (is_small c.args.at.now.distance)) c.if-is_barred.ensures.barred c.is_barred.ensures.first).1 c.args.g.now c.loop-next.g c.set.new.g c.loop-next.changed c.set.result c.either-changed.result c.loop-next.next c.in-Some.o c.op-op.result c.base_use.result c.requires.pointer c.is_graph-in-Some.ensures c.is_numbered.ensures c.loop-next.invariant c.in-Some.is c.op-op.ensures c.base_use.ensures c.set.ensures.graph c.set.ensures.changed c.either-changed.ensures) in
    loop.over_load (base_kind c.args.load.now c.args.at.now) (writes_either c.args.load.now.ra c.args.load.now.rb) (λ z. IsSaid z c.args.load.now (Some c.args.at.now)) c.args.load.now c.set.new.g c.is_graph-in-Some-2.ensures
    (loop.stops (base_kind c.args.load.now c.args.at.now) (writes_either c.args.load.now.ra c.args.load.now.rb) (λ z. IsSaid z c.args.load.now (Some c.args.at.now)) c.args.load.now c.args.g.now c.set.new.g c.either-changed.result c.in-Some.o c.op-op.result b (sym c.if-writes_either.ensures))

pub returns-clause-load : goal.returns-clause-load
returns-clause-load c =
    let on = subst (λ (n : Option ℕ). OnLoad (base_kind c.args.load.now c.args.at.now) (writes_either c.args.load.now.ra c.args.load.now.rb) (λ z. IsSaid z c.args.load.now (Some c.args.at.now)) c.args.load.now c.args.g.now c.loop-next.g c.loop-next.changed n) c.in_default.is c.loop-next.invariant in
    loop.over_load (base_kind c.args.load.now c.args.at.now) (writes_either c.args.load.now.ra c.args.load.now.rb) (λ z. IsSaid z c.args.load.now (Some c.args.at.now)) c.args.load.now c.loop-next.g c.is_graph-2.ensures (loop.ended (base_kind c.args.load.now c.args.at.now) (writes_either c.args.load.now.ra c.args.load.now.rb) (λ z. IsSaid z c.args.load.now (Some c.args.at.now)) c.args.load.now c.args.g.now c.loop-next.g c.loop-next.changed on)
