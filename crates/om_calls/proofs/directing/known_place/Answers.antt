use Rattle.std.proofs.Common.{◌≡◌, ◌<◌, ℕ, Option, Some, sym, ap, ◌∙◌, subst}
use Rattle.std.specs.Prelude.{is_some}
use Rattle.om_value.specs.declared.value.Place.{Place}
use Rattle.om_graph.specs.declared.op.Op.{Op}
use Rattle.om_graph.specs.View.{Node, Block, GraphView, Has}
use Rattle.om_blocks.proofs.Walking.{found_block}
use Rattle.om_uses.specs.Parts.{Kept}
use Rattle.om_calls.specs.Known.{IsTaken, IsUntaken}
use Rattle.om_calls.proofs.Known.{code_within}
use Rattle.om_calls.proofs.Nodes.{OnNodes, nodes_left, nodes_begin, next_node, nodes_more, nodes_fewer, nodes_end}
use Rattle.om_calls.proofs.directing.known_place.Goals as goal

abbrev Untaken : Kept → GraphView → Place → Node → Type 0
Untaken u g at n = IsUntaken u g.counts at n.id n.op.kind

pub first_op-next-requires : goal.first_op-next-requires
first_op-next-requires c = ap is_some c.requires.uses.here

pub loop-next-init : goal.loop-next-init
loop-next-init c =
    nodes_begin (Untaken c.args.u.now c.args.g.now c.args.at) c.args.g.now c.is_graph.ensures c.args.b c.first_op-next.result (ap is_some c.requires.uses.here) c.first_op-next.ensures.first
    c.first_op-next.ensures.live

some_op : (a b : Op) → Some a ≡ Some b → a ≡ b
some_op a b e = cc

pub taken_from-requires-clause-codes : goal.taken_from-requires-clause-codes
taken_from-requires-clause-codes c = λ n r rb q e k.
    let on = subst (λ (n : Option ℕ). OnNodes (Untaken c.args.u.now c.args.g.now c.args.at) c.args.g.now c.args.b n) c.in-Some.is c.loop-next.invariant in
    let it = next_node (Untaken c.args.u.now c.args.g.now c.args.at) c.args.g.now c.is_graph.ensures c.args.b c.in-Some.o on in
    let same : it.node.op ≡ n = some_op it.node.op n (sym it.op ∙ e) in
    code_within c.args.g.now c.requires.program on.block it.node r rb q (found_block c.args.g.now.blocks c.args.b on.block on.is) it.among (ap (λ (o : Op). o.kind) same ∙ k)

on : (c : goal.After-next_op-next) → OnNodes (Untaken c.args.u.now c.args.g.now c.args.at) c.args.g.now c.args.b (Some c.in-Some.o)
on c = subst (λ (n : Option ℕ). OnNodes (Untaken c.args.u.now c.args.g.now c.args.at) c.args.g.now c.args.b n) c.in-Some.is c.loop-next.invariant

pub loop-next-smaller : goal.loop-next-smaller
loop-next-smaller c =
    subst (λ (n : Option ℕ). nodes_left c.args.g.now c.args.b c.next_op-next.result < nodes_left c.args.g.now c.args.b n) (sym c.in-Some.is)
    (nodes_fewer (Untaken c.args.u.now c.args.g.now c.args.at) c.args.g.now c.is_graph.ensures c.args.b c.in-Some.o c.next_op-next.result (on c) c.next_op-next.ensures.next)

pub loop-next-preserved : goal.loop-next-preserved
loop-next-preserved c =
    nodes_more (Untaken c.args.u.now c.args.g.now c.args.at) c.args.g.now c.is_graph.ensures c.args.b c.in-Some.o c.next_op-next.result (on c)
    (λ n is e. subst (λ (i : ℕ). IsUntaken c.args.u.now c.args.g.now.counts c.args.at i n.op.kind) (sym is) (c.taken_from.ensures.none n.op e c.in_default-taken_from.is))
    c.next_op-next.ensures.next c.next_op-next.ensures.live

some_block : (a b : Block) → Some a ≡ Some b → a ≡ b
some_block a b e = cc

pub returns-in-Some-taken_from-clause-some : goal.returns-in-Some-taken_from-clause-some
returns-in-Some-taken_from-clause-some c = λ x q f e.
    let on = subst (λ (n : Option ℕ). OnNodes (Untaken c.args.u.now c.args.g.now c.args.at) c.args.g.now c.args.b n) c.in-Some.is c.loop-next.invariant in
    let it = next_node (Untaken c.args.u.now c.args.g.now c.args.at) c.args.g.now c.is_graph.ensures c.args.b c.in-Some.o on in
    let same : on.block ≡ x = some_block on.block x (sym on.is ∙ f) in (
      it.node,
      subst (λ (y : Block). Has y.ops it.node) same it.among,
      subst (λ (i : ℕ). IsTaken c.args.u.now c.args.g.now.counts c.args.at i it.node.op.kind q) (sym it.id_is) (c.in-Some-taken_from.ensures.some it.node.op q it.op e),
    )

pub returns-clause-none : goal.returns-clause-none
returns-clause-none c = λ x f e.
    let on = subst (λ (n : Option ℕ). OnNodes (Untaken c.args.u.now c.args.g.now c.args.at) c.args.g.now c.args.b n) c.in_default.is c.loop-next.invariant in
    nodes_end (Untaken c.args.u.now c.args.g.now c.args.at) c.args.g.now c.is_graph.ensures c.args.b on x f
