use Rattle.std.proofs.Common.{◌≡◌, ◌<◌, ◌++◌, ℕ, List, Option, Some, sym, ap, ◌∙◌, subst}
use Rattle.std.specs.Prelude.{option_map, flat_map}
use Rattle.om_graph.specs.declared.op.Last.{Last}
use Rattle.om_graph.specs.View.{Block}
use Rattle.om_graph.specs.Run.{block_words}
use Rattle.om_blocks.specs.Filling.{numbers_at, word_lands}
use Rattle.om_blocks.proofs.Walking.{OnOps, ops_left, ops_more, ops_fewer, ops_end}
use Rattle.om_blocks.proofs.OnLands.{Landed, landed_more, landed_end, link_fits}
use Rattle.om_blocks.proofs.landing.add_block.Goals as goal

on : (c : goal.After-next_op-next) → OnOps (List ℕ) (Landed c.args.g.now c.args.lands.now.items) c.args.g.now c.args.b (Some c.in-Some.o) c.loop-next.lands.items
on c = subst (λ (n : Option ℕ). OnOps (List ℕ) (Landed c.args.g.now c.args.lands.now.items) c.args.g.now c.args.b n c.loop-next.lands.items) c.in-Some.is c.loop-next.invariant

pub loop-next-smaller : goal.loop-next-smaller
loop-next-smaller c =
    subst (λ (n : Option ℕ). ops_left (List ℕ) (Landed c.args.g.now c.args.lands.now.items) c.args.g.now c.args.b c.next_op-next.result < ops_left (List ℕ) (Landed c.args.g.now c.args.lands.now.items) c.args.g.now c.args.b n)
    (sym c.in-Some.is)
    (ops_fewer (List ℕ) (Landed c.args.g.now c.args.lands.now.items) c.args.g.now c.requires.graph c.args.b c.in-Some.o c.loop-next.lands.items c.next_op-next.result (on c) c.next_op-next.ensures.next)

pub loop-next-preserved : goal.loop-next-preserved
loop-next-preserved c =
    let o = on c in
    ops_more (List ℕ) (Landed c.args.g.now c.args.lands.now.items) c.args.g.now c.requires.graph c.args.b c.in-Some.o c.loop-next.lands.items c.add_code.new.lands.items c.next_op-next.result c.op-op.result
    o c.op-op.ensures
    (λ ops hb ho done. landed_more c.args.g.now c.requires.flow c.args.lands.now.items o.block ops c.op-op.result c.loop-next.lands.items c.add_code.new.lands.items hb ho c.in_ok-add_code.ensures done)
    c.next_op-next.ensures.next c.next_op-next.ensures.live

pub add_link-requires-clause-fits : goal.add_link-requires-clause-fits
add_link-requires-clause-fits c = λ at e. link_fits c.args.g.now c.requires.flow c.args.b c.last-last.result c.last-last.ensures at e

some_same : (a b : Block) → Some a ≡ Some b → a ≡ b
some_same a b e = cc

some_last : (a b : Last) → Some a ≡ Some b → a ≡ b
some_last a b e = cc

pub returns : goal.returns
returns c = λ x e.
    let o = subst (λ (n : Option ℕ). OnOps (List ℕ) (Landed c.args.g.now c.args.lands.now.items) c.args.g.now c.args.b n c.loop-next.lands.items) c.in_default.is c.loop-next.invariant in
    let same : o.block ≡ x = some_same o.block x (sym o.is ∙ e) in
    let end = ops_end (List ℕ) (Landed c.args.g.now c.args.lands.now.items) c.args.g.now c.requires.graph c.args.b c.loop-next.lands.items o in
    let last : o.block.last ≡ c.last-last.result = some_last o.block.last c.last-last.result (sym (ap (option_map (λ (y : Block). y.last)) o.is) ∙ c.last-last.ensures) in
    subst (λ (y : Block). c.add_link.new.lands.items ≡ c.args.lands.now.items ++ numbers_at c.args.g.now (flat_map word_lands (block_words y))) same
    (landed_end c.args.g.now c.requires.flow c.args.lands.now.items o.block c.loop-next.lands.items c.add_link.new.lands.items c.last-last.result end.0 last c.in_ok-add_link.ensures end.1)
