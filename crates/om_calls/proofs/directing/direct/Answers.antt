use Rattle.std.proofs.Common.{◌<◌, ℕ, Option, Some, sym, subst}
use Rattle.om_graph.specs.View.{GraphView}
use Rattle.om_graph.specs.Left.{NoDirect}
use Rattle.om_uses.proofs.Near.{start_near}
use Rattle.om_calls.specs.Known.{NoDirectIn}
use Rattle.om_calls.proofs.Blocks.{OnPass, left_in, pass_begins, still_of, next_block, pass_lives, pass_more, pass_fewer, pass_ends}
use Rattle.om_calls.proofs.directing.direct.Goals as goal

pub loop-next-init : goal.loop-next-init
loop-next-init c = pass_begins NoDirectIn c.args.g.now c.requires.program c.first_block-next.result c.first_block-next.ensures.first c.first_block-next.ensures.live

on : (c : goal.After-next_block-next) → OnPass NoDirectIn c.args.g.now (Some c.in-Some.b) c.loop-next.changed c.loop-next.g
on c = subst (λ (n : Option ℕ). OnPass NoDirectIn c.args.g.now n c.loop-next.changed c.loop-next.g) c.in-Some.is c.loop-next.invariant

pub direct_block-changed-requires-clause-program : goal.direct_block-changed-requires-clause-program
direct_block-changed-requires-clause-program c = still_of NoDirectIn c.args.g.now c.requires.program c.loop-next.next c.loop-next.changed c.loop-next.g c.loop-next.invariant

pub direct_block-changed-requires-clause-uses : goal.direct_block-changed-requires-clause-uses
direct_block-changed-requires-clause-uses c =
    let on = subst (λ (n : Option ℕ). OnPass NoDirectIn c.args.g.now n c.loop-next.changed c.loop-next.g) c.in-Some.is c.loop-next.invariant in
    let it = next_block NoDirectIn c.args.g.now c.requires.program c.in-Some.b c.loop-next.changed c.loop-next.g on in
    record { start = c.args.g.now; of = c.requires.program; uses = c.requires.uses; block = it.block; among = it.among; here = it.here }

pub next_block-next-requires : goal.next_block-next-requires
next_block-next-requires c =
    let on = subst (λ (n : Option ℕ). OnPass NoDirectIn c.args.g.now n c.loop-next.changed c.loop-next.g) c.in-Some.is c.loop-next.invariant in
    pass_lives NoDirectIn c.args.g.now c.requires.program c.in-Some.b c.loop-next.changed c.direct_block-changed.result c.loop-next.g c.direct_block-changed.new.g on c.direct_block-changed.ensures.passed

pub loop-next-smaller : goal.loop-next-smaller
loop-next-smaller c =
    subst (λ (n : Option ℕ). left_in c.direct_block-changed.new.g c.next_block-next.result < left_in c.loop-next.g n) (sym c.in-Some.is)
    (pass_fewer NoDirectIn c.args.g.now c.requires.program c.in-Some.b c.loop-next.changed c.direct_block-changed.result c.loop-next.g c.direct_block-changed.new.g (on c) c.direct_block-changed.ensures.passed
    c.next_block-next.result c.next_block-next.ensures.next)

pub loop-next-preserved : goal.loop-next-preserved
loop-next-preserved c =
    pass_more NoDirectIn c.args.g.now c.requires.program c.in-Some.b c.loop-next.changed c.direct_block-changed.result c.loop-next.g c.direct_block-changed.new.g (on c) c.direct_block-changed.ensures.passed
    c.next_block-next.result c.direct_block-changed.ensures.near c.next_block-next.ensures.next c.next_block-next.ensures.live

pub returns-clause-near : goal.returns-clause-near
returns-clause-near c = c.loop-next.invariant.near c.args.u.now (start_near c.args.g.now c.args.u.now c.requires.uses)

pub returns-clause-nothing : goal.returns-clause-nothing
returns-clause-nothing c = λ e.
    let on = subst (λ (n : Option ℕ). OnPass NoDirectIn c.args.g.now n c.loop-next.changed c.loop-next.g) c.in_default.is c.loop-next.invariant in
    subst (λ (h : GraphView). NoDirect h) (sym (on.passes.same e))
    (record { calls = λ b call ra q hb hc k r. pass_ends NoDirectIn c.args.g.now c.requires.program c.loop-next.changed c.loop-next.g on e b hb call ra q hc k r })
