use Rattle.std.proofs.Common.{◌<◌, ℕ, Option, Some, sym, subst}
use Rattle.om_graph.specs.Left.{NoEnter}
use Rattle.om_graph.specs.Run.{graph_script}
use Rattle.om_graph.specs.View.{GraphView}
use Rattle.om_blocks.specs.Found.{facts_in}
use Rattle.om_calls.specs.Entries.{NoEnterIn}
use Rattle.om_calls.proofs.Blocks.{OnPass, left_in, pass_begins, still_of, pass_lives, pass_more, pass_fewer, pass_ends}
use Rattle.om_calls.proofs.Entries.{any_program}
use Rattle.om_calls.proofs.entering.enter.Goals as goal

pub loop-next-init : goal.loop-next-init
loop-next-init c = record {
  pass = pass_begins (NoEnterIn c.args.f.now) c.args.g.now c.requires.program c.first_block-next.result c.first_block-next.ensures.first c.first_block-next.ensures.live;
  facts = λ p.
      let o = c.requires.program in
      any_program o.program p c.args.g.now (facts_in c.args.g.now c.args.f.now) (c.requires.facts o.program o.valid o.may_go_on);
}

pub enter_block-changed-requires-clause-program : goal.enter_block-changed-requires-clause-program
enter_block-changed-requires-clause-program c = still_of (NoEnterIn c.args.f.now) c.args.g.now c.requires.program c.loop-next.next c.loop-next.changed c.loop-next.g c.loop-next.invariant.pass

pub enter_block-changed-requires-clause-live : goal.enter_block-changed-requires-clause-live
enter_block-changed-requires-clause-live c =
    let on = subst (λ (n : Option ℕ). OnPass (NoEnterIn c.args.f.now) c.args.g.now n c.loop-next.changed c.loop-next.g) c.in-Some.is c.loop-next.invariant.pass in
    on.live

pub next_block-next-requires : goal.next_block-next-requires
next_block-next-requires c =
    let on = subst (λ (n : Option ℕ). OnPass (NoEnterIn c.args.f.now) c.args.g.now n c.loop-next.changed c.loop-next.g) c.in-Some.is c.loop-next.invariant.pass in
    pass_lives (NoEnterIn c.args.f.now) c.args.g.now c.requires.program c.in-Some.b c.loop-next.changed c.enter_block-changed.result c.loop-next.g c.enter_block-changed.new.g on c.enter_block-changed.ensures.passed

on : (c : goal.After-next_block-next) → OnPass (NoEnterIn c.args.f.now) c.args.g.now (Some c.in-Some.b) c.loop-next.changed c.loop-next.g
on c = subst (λ (n : Option ℕ). OnPass (NoEnterIn c.args.f.now) c.args.g.now n c.loop-next.changed c.loop-next.g) c.in-Some.is c.loop-next.invariant.pass

pub loop-next-smaller : goal.loop-next-smaller
loop-next-smaller c =
    subst (λ (n : Option ℕ). left_in c.enter_block-changed.new.g c.next_block-next.result < left_in c.loop-next.g n) (sym c.in-Some.is)
    (pass_fewer (NoEnterIn c.args.f.now) c.args.g.now c.requires.program c.in-Some.b c.loop-next.changed c.enter_block-changed.result c.loop-next.g c.enter_block-changed.new.g (on c) c.enter_block-changed.ensures.passed
    c.next_block-next.result c.next_block-next.ensures.next)

pub loop-next-preserved : goal.loop-next-preserved
loop-next-preserved c = record {
  pass = pass_more (NoEnterIn c.args.f.now) c.args.g.now c.requires.program c.in-Some.b c.loop-next.changed c.enter_block-changed.result c.loop-next.g c.enter_block-changed.new.g (on c) c.enter_block-changed.ensures.passed
      c.next_block-next.result c.enter_block-changed.ensures.near c.next_block-next.ensures.next c.next_block-next.ensures.live;
  facts = c.enter_block-changed.ensures.facts;
}

pub returns-clause-nothing : goal.returns-clause-nothing
returns-clause-nothing c = λ e p.
    let on = subst (λ (n : Option ℕ). OnPass (NoEnterIn c.args.f.now) c.args.g.now n c.loop-next.changed c.loop-next.g) c.in_default.is c.loop-next.invariant.pass in
    subst (λ (h : GraphView). NoEnter (graph_script p h) (facts_in h c.args.f.now) h) (sym (on.passes.same e))
    (record {
      calls = λ b n bf ws w ra s hn a link closed reach fact.
          pass_ends (NoEnterIn c.args.f.now) c.args.g.now c.requires.program c.loop-next.changed c.loop-next.g on e b s.among p n bf ws w ra s.split hn a link closed reach fact;
    })
