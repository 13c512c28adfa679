use Rattle.std.proofs.Common.{◌≡◌, ◌<◌, ℕ, Option, Some, sym, ap, ◌∙◌, subst}
use Rattle.std.specs.Prelude.{option_map}
use Rattle.om_graph.specs.declared.op.Last.{Last}
use Rattle.om_graph.specs.View.{Block}
use Rattle.om_graph.specs.Run.{block_words, table_of}
use Rattle.om_blocks.specs.declared.effects.Effect.{Effect}
use Rattle.om_blocks.specs.Effects.{DoAll}
use Rattle.om_blocks.proofs.Walking.{OnOps, ops_left, ops_more, ops_fewer, ops_end}
use Rattle.om_blocks.proofs.OnEffects.{Done, done_more, done_last, table_is, label_within}
use Rattle.om_blocks.proofs.effects.effect_of.Goals as goal

pub table-table-requires : goal.table-table-requires
table-table-requires c = label_within c.args.g.now c.requires.graph c.requires.flow c.args.b c.label.result c.label.ensures

on : (c : goal.After-next_op-next) → OnOps Effect (Done c.args.g.now) c.args.g.now c.args.b (Some c.in-Some.o) c.loop-next.e
on c = subst (λ (n : Option ℕ). OnOps Effect (Done c.args.g.now) c.args.g.now c.args.b n c.loop-next.e) c.in-Some.is c.loop-next.invariant

pub loop-next-smaller : goal.loop-next-smaller
loop-next-smaller c =
    subst (λ (n : Option ℕ). ops_left Effect (Done c.args.g.now) c.args.g.now c.args.b c.next_op-next.result < ops_left Effect (Done c.args.g.now) c.args.g.now c.args.b n) (sym c.in-Some.is)
    (ops_fewer Effect (Done c.args.g.now) c.args.g.now c.requires.graph c.args.b c.in-Some.o c.loop-next.e c.next_op-next.result (on c) c.next_op-next.ensures.next)

pub loop-next-preserved : goal.loop-next-preserved
loop-next-preserved c =
    let o = on c in
    let label : Some o.block.label ≡ Some c.label.result = sym (ap (option_map (λ (x : Block). x.label)) o.is) ∙ c.label.ensures in
    let table = table_is c.args.g.now c.requires.graph o.block c.label.result c.table-table.result label
    (label_within c.args.g.now c.requires.graph c.requires.flow c.args.b c.label.result c.label.ensures) c.table-table.ensures in
    ops_more Effect (Done c.args.g.now) c.args.g.now c.requires.graph c.args.b c.in-Some.o c.loop-next.e c.then-e.result c.next_op-next.result c.op-op.result o c.op-op.ensures
    (λ ops hb ho done. done_more c.args.g.now c.requires.flow o.block ops c.op-op.result c.table-table.result c.loop-next.e c.op_effect.result c.then-e.result table c.then-e.ensures.value
    c.then-e.ensures.small hb ho c.op_effect.ensures.reads c.op_effect.ensures.writes c.op_effect.ensures.transfer done) c.next_op-next.ensures.next c.next_op-next.ensures.live

pub returns-clause-all : goal.returns-clause-all
returns-clause-all c = λ x e.
    let o = subst (λ (n : Option ℕ). OnOps Effect (Done c.args.g.now) c.args.g.now c.args.b n c.loop-next.e) c.in_default.is c.loop-next.invariant in
    let same : o.block ≡ x = some_same o.block x (sym o.is ∙ e) in
    let end = ops_end Effect (Done c.args.g.now) c.args.g.now c.requires.graph c.args.b c.loop-next.e o in
    let last : o.block.last ≡ c.last-last.result = some_same_last o.block.last c.last-last.result (sym (ap (option_map (λ (y : Block). y.last)) o.is) ∙ c.last-last.ensures) in
    subst (λ (y : Block). DoAll (table_of c.args.g.now y.label.obj) (block_words y) c.then.result) same
    (subst (λ (y : Effect). DoAll (table_of c.args.g.now o.block.label.obj) (block_words o.block) y) (sym c.then.ensures.value)
    (done_last c.args.g.now c.requires.flow o.block c.loop-next.e c.last_effect.result c.last-last.result end.0 last c.last_effect.ensures.reads c.last_effect.ensures.writes
    c.last_effect.ensures.transfer end.1))
  where
    some_same : (a b : Block) → Some a ≡ Some b → a ≡ b
    some_same a b e = cc

    some_same_last : (a b : Last) → Some a ≡ Some b → a ≡ b
    some_same_last a b e = cc
