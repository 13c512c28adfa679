use Rattle.std.proofs.Common.{ℕ, Option, subst}
use Rattle.om_dead.proofs.Dropping.{Pruned, pruned_first, inside, unkept, of_now, pruned_kept, fewer_kept, pruned_dropped, fewer_dropped, pruned_end}
use Rattle.om_dead.proofs.kept.drop_others.Goals as goal

pub loop-next-init : goal.loop-next-init
loop-next-init c = pruned_first c.passes_go_on.ensures c.args.g.now c.args.found.now.set.items c.first_block-next.result c.is_graph.ensures c.requires.found c.first_block-next.ensures.first

pub drop_unfound-requires-clause-program : goal.drop_unfound-requires-clause-program
drop_unfound-requires-clause-program c = of_now c.passes_go_on.ensures c.args.g.now c.loop-next.g c.args.found.now.set.items c.loop-next.changed c.in-Some.b c.requires.program c.loop-next.next c.in-Some.is c.loop-next.invariant

pub drop_unfound-requires-clause-inside : goal.drop_unfound-requires-clause-inside
drop_unfound-requires-clause-inside c = inside c.passes_go_on.ensures c.args.g.now c.loop-next.g c.args.found.now.set.items c.loop-next.changed c.in-Some.b c.requires.program c.loop-next.next c.in-Some.is c.loop-next.invariant

pub drop_unfound-requires-clause-unkept : goal.drop_unfound-requires-clause-unkept
drop_unfound-requires-clause-unkept c = unkept c.passes_go_on.ensures c.args.g.now c.loop-next.g c.args.found.now.set.items c.loop-next.changed c.in-Some.b c.requires.program c.loop-next.next c.in-Some.is c.loop-next.invariant

pub loop-next-smaller-then-drop_unfound : goal.loop-next-smaller-then-drop_unfound
loop-next-smaller-then-drop_unfound c =
    fewer_dropped c.passes_go_on.ensures c.args.g.now c.loop-next.g c.args.found.now.set.items c.loop-next.changed c.in-Some.b c.requires.program c.loop-next.next c.in-Some.is c.loop-next.invariant c.next_block-next.result c.next_block-next.ensures.next
    c.drop_unfound.result c.drop_unfound.new.g c.if-drop_unfound.true (c.drop_unfound.ensures.unfound c.if-drop_unfound.true) (c.drop_unfound.ensures.dropped c.if-drop_unfound.true) c.drop_unfound.ensures.passed c.drop_unfound.ensures.near

pub loop-next-preserved-then-drop_unfound : goal.loop-next-preserved-then-drop_unfound
loop-next-preserved-then-drop_unfound c =
    pruned_dropped c.passes_go_on.ensures c.args.g.now c.loop-next.g c.args.found.now.set.items c.loop-next.changed c.in-Some.b c.requires.program c.loop-next.next c.in-Some.is c.loop-next.invariant c.next_block-next.result c.next_block-next.ensures.next
    c.drop_unfound.result c.drop_unfound.new.g c.if-drop_unfound.true (c.drop_unfound.ensures.unfound c.if-drop_unfound.true) (c.drop_unfound.ensures.dropped c.if-drop_unfound.true) c.drop_unfound.ensures.passed c.drop_unfound.ensures.near

pub loop-next-smaller : goal.loop-next-smaller
loop-next-smaller c =
    fewer_kept c.passes_go_on.ensures c.args.g.now c.loop-next.g c.args.found.now.set.items c.loop-next.changed c.in-Some.b c.requires.program c.loop-next.next c.in-Some.is c.loop-next.invariant c.next_block-next.result c.next_block-next.ensures.next
    c.drop_unfound.result c.drop_unfound.new.g c.if-drop_unfound.false c.drop_unfound.ensures.passed

pub loop-next-preserved : goal.loop-next-preserved
loop-next-preserved c =
    pruned_kept c.passes_go_on.ensures c.args.g.now c.loop-next.g c.args.found.now.set.items c.loop-next.changed c.in-Some.b c.requires.program c.loop-next.next c.in-Some.is c.loop-next.invariant c.next_block-next.result c.next_block-next.ensures.next
    c.drop_unfound.result c.drop_unfound.new.g c.if-drop_unfound.false c.drop_unfound.ensures.passed (c.drop_unfound.ensures.found c.if-drop_unfound.false)

pub returns-clause-only : goal.returns-clause-only
returns-clause-only c =
    pruned_end c.args.g.now c.loop-next.g c.args.found.now.set.items c.loop-next.changed
    (subst (λ (n : Option ℕ). Pruned c.args.g.now c.loop-next.g c.args.found.now.set.items c.loop-next.changed n) c.in_default.is c.loop-next.invariant)
