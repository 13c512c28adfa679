use Rattle.std.proofs.Common.{◌≡◌, ℕ, ◌<◌, Bool, true, List, Option, Some, None, sym, ap, ◌∙◌, subst, arith}
use Rattle.om_layout.specs.Layout.{LayoutView}
use Rattle.om_addr.specs.Loads.{byte_kind}
use Rattle.om_addr.proofs.InARow as row
use Rattle.om_addr.proofs.Walking.{ops_left}
use Rattle.om_addr.proofs.Bytes.{writes_bit}
use Rattle.om_addr.proofs.Loops.{OnLoad, Any}
use Rattle.om_addr.proofs.Loops as loop
use Rattle.om_addr.proofs.Taking.{behind_byte, none_byte}
use Rattle.om_addr.proofs.byte_uses.take_literals.Goals as goal

small_of : (ra n : ℕ) → n ≡ ra → ra < 32 → (n ≡ 31 → ⊥) → ra < 31
small_of ra n e l d = let f : ra ≡ 31 → ⊥ = λ h. d (e ∙ h) in omega (arith, l, f)

pub returns-in_default-clause-passed : goal.returns-in_default-clause-passed
returns-in_default-clause-passed c = λ l masks. row.none l masks c.args.g.now

pub returns-then-num-eq31-clause-passed : goal.returns-then-num-eq31-clause-passed
returns-then-num-eq31-clause-passed c = λ l masks. row.none l masks c.args.g.now

pub loop-next-init : goal.loop-next-init
loop-next-init c = loop.begins (byte_kind c.args.load.now.ra c.byte_of-byte.result) (writes_bit c.args.load.now.ra) Any c.args.load.now c.args.g.now c.next_op-next.result c.is_graph.ensures c.requires.load c.next_op-next.ensures.next c.next_op-next.ensures.live

pub returns-then-writes-clause-passed : goal.returns-then-writes-clause-passed
returns-then-writes-clause-passed c = let b = (behind_byte c.args.load.now c.byte_of-byte.result c.in-Some.off (small_of c.args.load.now.ra c.num.result c.num.ensures.value c.num.ensures.range c.if-num-eq31.false) c.args.g.now c.loop-next.g c.set.new.g c.loop-next.changed c.set.result c.either-changed.result c.loop-next.next c.in-Some-next.o c.op-op.result c.byte_use.result (sym c.pointer_off.ensures ∙ c.in-Some.is) c.byte_of-byte.ensures c.is_graph-in-Some-next.ensures c.is_numbered.ensures c.loop-next.invariant c.in-Some-next.is c.op-op.ensures c.byte_use.ensures c.set.ensures.graph c.set.ensures.changed c.either-changed.ensures) in λ l masks. b.passed l tt masks

pub returns-then-writes-clause-nothing : goal.returns-then-writes-clause-nothing
returns-then-writes-clause-nothing c =
    let b = (behind_byte c.args.load.now c.byte_of-byte.result c.in-Some.off (small_of c.args.load.now.ra c.num.result c.num.ensures.value c.num.ensures.range c.if-num-eq31.false) c.args.g.now c.loop-next.g c.set.new.g c.loop-next.changed c.set.result c.either-changed.result c.loop-next.next c.in-Some-next.o c.op-op.result c.byte_use.result (sym c.pointer_off.ensures ∙ c.in-Some.is) c.byte_of-byte.ensures c.is_graph-in-Some-next.ensures c.is_numbered.ensures c.loop-next.invariant c.in-Some-next.is c.op-op.ensures c.byte_use.ensures c.set.ensures.graph c.set.ensures.changed c.either-changed.ensures) in
    none_byte c.args.load.now c.byte_of-byte.result c.in-Some.off (small_of c.args.load.now.ra c.num.result c.num.ensures.value c.num.ensures.range c.if-num-eq31.false) c.args.g.now c.set.new.g c.either-changed.result c.requires.program c.is_graph-in-Some-next-2.ensures
    (loop.stops (byte_kind c.args.load.now.ra c.byte_of-byte.result) (writes_bit c.args.load.now.ra) Any c.args.load.now c.args.g.now c.set.new.g c.either-changed.result c.in-Some-next.o c.op-op.result b (sym c.if-writes.ensures)) b.passed

pub next_op-next-requires-in-Some-next : goal.next_op-next-requires-in-Some-next
next_op-next-requires-in-Some-next c =
    let b = (behind_byte c.args.load.now c.byte_of-byte.result c.in-Some.off (small_of c.args.load.now.ra c.num.result c.num.ensures.value c.num.ensures.range c.if-num-eq31.false) c.args.g.now c.loop-next.g c.set.new.g c.loop-next.changed c.set.result c.either-changed.result c.loop-next.next c.in-Some-next.o c.op-op.result c.byte_use.result (sym c.pointer_off.ensures ∙ c.in-Some.is) c.byte_of-byte.ensures c.is_graph-in-Some-next.ensures c.is_numbered.ensures c.loop-next.invariant c.in-Some-next.is c.op-op.ensures c.byte_use.ensures c.set.ensures.graph c.set.ensures.changed c.either-changed.ensures) in
    loop.still_live (byte_kind c.args.load.now.ra c.byte_of-byte.result) (writes_bit c.args.load.now.ra) Any c.args.load.now c.args.g.now c.set.new.g c.either-changed.result c.in-Some-next.o c.op-op.result b c.is_graph-in-Some-next-2.ensures

pub loop-next-smaller : goal.loop-next-smaller
loop-next-smaller c =
    let b = (behind_byte c.args.load.now c.byte_of-byte.result c.in-Some.off (small_of c.args.load.now.ra c.num.result c.num.ensures.value c.num.ensures.range c.if-num-eq31.false) c.args.g.now c.loop-next.g c.set.new.g c.loop-next.changed c.set.result c.either-changed.result c.loop-next.next c.in-Some-next.o c.op-op.result c.byte_use.result (sym c.pointer_off.ensures ∙ c.in-Some.is) c.byte_of-byte.ensures c.is_graph-in-Some-next.ensures c.is_numbered.ensures c.loop-next.invariant c.in-Some-next.is c.op-op.ensures c.byte_use.ensures c.set.ensures.graph c.set.ensures.changed c.either-changed.ensures) in
    subst (λ (n : Option ℕ). ops_left c.set.new.g c.next_op-next-in-Some-next.result < ops_left c.loop-next.g n) (sym c.in-Some-next.is)
    (loop.fewer (byte_kind c.args.load.now.ra c.byte_of-byte.result) (writes_bit c.args.load.now.ra) Any c.args.load.now c.args.g.now c.loop-next.g c.set.new.g c.either-changed.result c.in-Some-next.o c.op-op.result c.byte_use.result c.next_op-next-in-Some-next.result b c.is_graph-in-Some-next-2.ensures
    c.set.ensures.graph c.next_op-next-in-Some-next.ensures.next)

pub loop-next-preserved : goal.loop-next-preserved
loop-next-preserved c =
    let b = (behind_byte c.args.load.now c.byte_of-byte.result c.in-Some.off (small_of c.args.load.now.ra c.num.result c.num.ensures.value c.num.ensures.range c.if-num-eq31.false) c.args.g.now c.loop-next.g c.set.new.g c.loop-next.changed c.set.result c.either-changed.result c.loop-next.next c.in-Some-next.o c.op-op.result c.byte_use.result (sym c.pointer_off.ensures ∙ c.in-Some.is) c.byte_of-byte.ensures c.is_graph-in-Some-next.ensures c.is_numbered.ensures c.loop-next.invariant c.in-Some-next.is c.op-op.ensures c.byte_use.ensures c.set.ensures.graph c.set.ensures.changed c.either-changed.ensures) in
    loop.goes_on (byte_kind c.args.load.now.ra c.byte_of-byte.result) (writes_bit c.args.load.now.ra) Any c.args.load.now c.args.g.now c.set.new.g c.either-changed.result c.in-Some-next.o c.op-op.result c.next_op-next-in-Some-next.result b c.is_graph-in-Some-next-2.ensures (sym c.if-writes.ensures)
    c.next_op-next-in-Some-next.ensures.next c.next_op-next-in-Some-next.ensures.live

pub returns-clause-passed : goal.returns-clause-passed
returns-clause-passed c = λ l masks. c.loop-next.invariant.passed l tt masks

pub returns-clause-nothing : goal.returns-clause-nothing
returns-clause-nothing c =
    let on = subst (λ (n : Option ℕ). OnLoad (byte_kind c.args.load.now.ra c.byte_of-byte.result) (writes_bit c.args.load.now.ra) Any c.args.load.now c.args.g.now c.loop-next.g c.loop-next.changed n) c.in_default-next.is c.loop-next.invariant in
    none_byte c.args.load.now c.byte_of-byte.result c.in-Some.off (small_of c.args.load.now.ra c.num.result c.num.ensures.value c.num.ensures.range c.if-num-eq31.false) c.args.g.now c.loop-next.g c.loop-next.changed c.requires.program c.is_graph-2.ensures
    (loop.ended (byte_kind c.args.load.now.ra c.byte_of-byte.result) (writes_bit c.args.load.now.ra) Any c.args.load.now c.args.g.now c.loop-next.g c.loop-next.changed on) c.loop-next.invariant.passed

pub returns-then-writes-clause-load : goal.returns-then-writes-clause-load
returns-then-writes-clause-load c =
    let b = (behind_byte c.args.load.now c.byte_of-byte.result c.in-Some.off (small_of c.args.load.now.ra c.num.result c.num.ensures.value c.num.ensures.range c.if-num-eq31.false) c.args.g.now c.loop-next.g c.set.new.g c.loop-next.changed c.set.result c.either-changed.result c.loop-next.next c.in-Some-next.o c.op-op.result c.byte_use.result (sym c.pointer_off.ensures ∙ c.in-Some.is) c.byte_of-byte.ensures c.is_graph-in-Some-next.ensures c.is_numbered.ensures c.loop-next.invariant c.in-Some-next.is c.op-op.ensures c.byte_use.ensures c.set.ensures.graph c.set.ensures.changed c.either-changed.ensures) in
    loop.over_load (byte_kind c.args.load.now.ra c.byte_of-byte.result) (writes_bit c.args.load.now.ra) Any c.args.load.now c.set.new.g c.is_graph-in-Some-next-2.ensures
    (loop.stops (byte_kind c.args.load.now.ra c.byte_of-byte.result) (writes_bit c.args.load.now.ra) Any c.args.load.now c.args.g.now c.set.new.g c.either-changed.result c.in-Some-next.o c.op-op.result b (sym c.if-writes.ensures))

pub returns-clause-load : goal.returns-clause-load
returns-clause-load c =
    let on = subst (λ (n : Option ℕ). OnLoad (byte_kind c.args.load.now.ra c.byte_of-byte.result) (writes_bit c.args.load.now.ra) Any c.args.load.now c.args.g.now c.loop-next.g c.loop-next.changed n) c.in_default-next.is c.loop-next.invariant in
    loop.over_load (byte_kind c.args.load.now.ra c.byte_of-byte.result) (writes_bit c.args.load.now.ra) Any c.args.load.now c.loop-next.g c.is_graph-2.ensures (loop.ended (byte_kind c.args.load.now.ra c.byte_of-byte.result) (writes_bit c.args.load.now.ra) Any c.args.load.now c.args.g.now c.loop-next.g c.loop-next.changed on)
