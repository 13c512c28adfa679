use Rattle.std.proofs.Common.{◌≡◌, ℕ, List, [], ◌++◌, ◌-◌, take, sym, ap, ◌∙◌, subst, arith}
use Rattle.std.specs.Prelude.{option_map}
use Rattle.om_graph.specs.declared.op.Last.{Last}
use Rattle.om_graph.specs.View.{Block, block_of}
use Rattle.om_blocks.specs.Effects.{last_reads, last_writes}
use Rattle.om_blocks.proofs.Walking.{a_some, some_is}
use Rattle.om_live.specs.Outs.{HasBits}
use Rattle.om_dead.specs.Sweeps.{live_over_last}
use Rattle.om_dead.proofs.Shapes.{bits_in_front}
use Rattle.om_dead.proofs.OnSweeps.{AtWord, begins, now_at, op_live, any_more, ends}
use Rattle.om_dead.proofs.words.sweep_block.Goals as goal

pub loop-o-init : goal.loop-o-init
loop-o-init c =
    let x = a_some (block_of c.args.g.now c.args.b) c.requires.live in
    let same : (x.0).last ≡ c.last-last.result = some_is (x.0).last c.last-last.result (sym (ap (option_map (λ (y : Block). y.last)) x.1) ∙ c.last-last.ensures) in
    begins c.args.g.now c.args.b c.args.out c.in_front-live.result c.args.ops.now.items x.0 x.1 c.requires.ops
    (λ set is. subst (λ (l : Last). HasBits c.in_front-live.result (live_over_last l set)) (sym same)
    (subst (λ (n : ℕ). HasBits n (live_over_last c.last-last.result set)) (sym c.in_front-live.ensures)
    (bits_in_front (last_reads c.last-last.result) (last_writes c.last-last.result) c.last_reads.result c.last_writes.result c.args.out set c.last_reads.ensures c.last_writes.ensures (omega arith) is)))

pub sweep_op-swept-requires-clause-of : goal.sweep_op-swept-requires-clause-of
sweep_op-swept-requires-clause-of c = now_at c.args.g.now c.loop-o.g c.args.b c.args.out c.loop-o.live c.loop-o.deleted c.loop-o.ops.items c.requires.sweeping c.loop-o.invariant

pub sweep_op-swept-requires-clause-live : goal.sweep_op-swept-requires-clause-live
sweep_op-swept-requires-clause-live c =
    op_live c.args.g.now c.loop-o.g c.args.b c.args.out c.loop-o.live c.loop-o.deleted c.pop.new.self.items c.in-Some.o c.requires.sweeping
    (subst (λ (l : List ℕ). AtWord c.args.g.now c.loop-o.g c.args.b c.args.out c.loop-o.deleted l c.loop-o.live) c.in-Some.ensures.items c.loop-o.invariant)

pub loop-o-preserved : goal.loop-o-preserved
loop-o-preserved c =
    any_more c.args.g.now c.loop-o.g c.sweep_op-swept.new.g c.args.b c.args.out c.loop-o.live c.loop-o.deleted c.pop.new.self.items c.in-Some.o c.sweep_op-swept.result c.requires.sweeping
    (subst (λ (l : List ℕ). AtWord c.args.g.now c.loop-o.g c.args.b c.args.out c.loop-o.deleted l c.loop-o.live) c.in-Some.ensures.items c.loop-o.invariant) c.sweep_op-swept.ensures

nothing_left : (old new : List ℕ) (n : ℕ) → n ≡ 0 → new ≡ take (n - 1) old → old ≡ new ++ [] → old ≡ []
nothing_left old new n z rest items =
    let k : n - 1 ≡ 0 = omega (arith, z) in
    items ∙ ap (λ (l : List ℕ). l ++ []) (rest ∙ ap (λ (m : ℕ). take m old) k)

pub returns-clause-swept : goal.returns-clause-swept
returns-clause-swept c =
    ends c.args.g.now c.loop-o.g c.args.b c.args.out c.loop-o.live c.loop-o.deleted
    (subst (λ (l : List ℕ). AtWord c.args.g.now c.loop-o.g c.args.b c.args.out c.loop-o.deleted l c.loop-o.live) (nothing_left c.loop-o.ops.items c.pop.new.self.items _ c.in_default.ensures.cases.0 c.in_default.ensures.rest c.in_default.ensures.items) c.loop-o.invariant)
