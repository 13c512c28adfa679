use Rattle.std.proofs.Common.{◌<◌, ℕ, Bool, Option, Some, IfSome, IsTrue, sym, subst}
use Rattle.om_graph.specs.View.{is_live_block}
use Rattle.om_passes.proofs.Passed.{stays}
use Rattle.om_passes.specs.Passed.{IsOfAProgram}
use Rattle.om_calls.proofs.InBlock.{OverAll, all_first, all_more, id_there}
use Rattle.om_calls.proofs.OverBlocks.{OnIds, ids_left, ids_begin, ids_more, ids_fewer, ids_end, live_same}
use Rattle.om_calls.proofs.dropping.drop_in_blocks.Goals as goal

pub loop-next-init : goal.loop-next-init
loop-next-init c =
    ids_begin Bool (OverAll c.args.g.now c.args.f.now) c.args.g.now c.first_block-next.result _ c.first_block-next.ensures.first c.first_block-next.ensures.live
    (all_first c.args.g.now c.args.f.now c.requires.checked)

on : (c : goal.After-next_block-next) → OnIds Bool (OverAll c.args.g.now c.args.f.now) c.loop-next.g (Some c.in-Some.b) c.loop-next.changed
on c = subst (λ (n : Option ℕ). OnIds Bool (OverAll c.args.g.now c.args.f.now) c.loop-next.g n c.loop-next.changed) c.in-Some.is c.loop-next.invariant

old_program : (c : goal.After-next_block-next) → IsOfAProgram c.loop-next.g
old_program c = stays c.loop-next.changed c.args.g.now c.loop-next.g c.requires.program c.loop-next.invariant.holds.passed

new_program : (c : goal.After-next_block-next) → IsOfAProgram c.drop_in_block-changed.new.g
new_program c = stays c.drop_in_block-changed.result c.loop-next.g c.drop_in_block-changed.new.g (old_program c) c.drop_in_block-changed.ensures.passed

pub loop-next-smaller : goal.loop-next-smaller
loop-next-smaller c =
    subst (λ (n : Option ℕ). ids_left c.drop_in_block-changed.new.g c.next_block-next.result < ids_left c.loop-next.g n) (sym c.in-Some.is)
    (ids_fewer Bool (OverAll c.args.g.now c.args.f.now) c.loop-next.g c.drop_in_block-changed.new.g (old_program c).may_go_on.graph.graph (new_program c).may_go_on.graph.graph c.in-Some.b c.loop-next.changed
    (on c) c.drop_in_block-changed.ensures.ids c.next_block-next.result c.next_block-next.ensures.next)

pub loop-next-preserved : goal.loop-next-preserved
loop-next-preserved c =
    ids_more Bool (OverAll c.args.g.now c.args.f.now) c.loop-next.g c.drop_in_block-changed.new.g (old_program c).may_go_on.graph.graph (new_program c).may_go_on.graph.graph c.in-Some.b c.loop-next.changed
    (on c) c.drop_in_block-changed.ensures.ids c.next_block-next.result c.next_block-next.ensures.next _ c.next_block-next.ensures.live
    (all_more c.args.g.now c.args.f.now c.loop-next.g c.drop_in_block-changed.new.g c.in-Some.b c.loop-next.changed c.drop_in_block-changed.result c.drop_in_block-changed.ensures.passed c.drop_in_block-changed.ensures.near
    c.drop_in_block-changed.ensures.facts c.drop_in_block-changed.ensures.nothing)

pub next_block-next-requires : goal.next_block-next-requires
next_block-next-requires c =
    live_same c.loop-next.g c.drop_in_block-changed.new.g c.in-Some.b c.drop_in_block-changed.ensures.ids
    (subst (λ (n : Option ℕ). IfSome n (λ b. IsTrue (is_live_block c.loop-next.g b))) c.in-Some.is c.loop-next.invariant.live)

pub returns-clause-nothing : goal.returns-clause-nothing
returns-clause-nothing c = λ same x h.
    let end = subst (λ (n : Option ℕ). OnIds Bool (OverAll c.args.g.now c.args.f.now) c.loop-next.g n c.loop-next.changed) c.in_default.is c.loop-next.invariant in
    (ids_end Bool (OverAll c.args.g.now c.args.f.now) c.loop-next.g c.loop-next.changed end).none same x h (id_there c.loop-next.g.blocks x h)
