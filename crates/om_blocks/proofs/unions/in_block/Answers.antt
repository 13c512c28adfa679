use Rattle.std.proofs.Common.{◌≡◌, ◌<◌, ℕ, Option, Some, sym, ap, ◌∙◌, subst}
use Rattle.std.specs.Prelude.{option_map, flat_map}
use Rattle.std.specs.Int.Bits.{bit_or}
use Rattle.om_graph.specs.declared.op.Last.{Last}
use Rattle.om_graph.specs.View.{Block}
use Rattle.om_graph.specs.Run.{block_words}
use Rattle.om_blocks.specs.Filling.{word_lands}
use Rattle.om_blocks.specs.Landing.{IsUnion}
use Rattle.om_blocks.proofs.Walking as walk
use Rattle.om_blocks.proofs.Walking.{OnOps, ops_left, ops_begin, ops_fewer}
use Rattle.om_blocks.proofs.OnLands.{link_fits}
use Rattle.om_blocks.proofs.Holding.{OpsUnite, ops_first, ops_more, block_united}
use Rattle.om_blocks.proofs.unions.in_block.Goals as goal

some_same : (a b : Block) → Some a ≡ Some b → a ≡ b
some_same a b e = cc

some_last : (a b : Last) → Some a ≡ Some b → a ≡ b
some_last a b e = cc

pub loop-next-init : goal.loop-next-init
loop-next-init g c =
    let L = g.M.BlockMask.lacks c.args.masks.now in
    ops_begin ℕ (OpsUnite c.args.g.now L) c.args.g.now c.requires.graph c.args.b c.first_op-next.result 0 c.requires.live c.first_op-next.ensures.first c.first_op-next.ensures.live
    (λ b. ops_first c.args.g.now L b)

pub loop-next-smaller : goal.loop-next-smaller
loop-next-smaller g c =
    let Q = OpsUnite c.args.g.now (g.M.BlockMask.lacks c.args.masks.now) in
    let o = subst (λ (n : Option ℕ). OnOps ℕ Q c.args.g.now c.args.b n c.loop-next.all) c.in-Some.is c.loop-next.invariant in
    subst (λ (n : Option ℕ). ops_left ℕ Q c.args.g.now c.args.b c.next_op-next.result < ops_left ℕ Q c.args.g.now c.args.b n) (sym c.in-Some.is)
    (ops_fewer ℕ Q c.args.g.now c.requires.graph c.args.b c.in-Some.o c.loop-next.all c.next_op-next.result o c.next_op-next.ensures.next)

pub loop-next-preserved : goal.loop-next-preserved
loop-next-preserved g c =
    let L = g.M.BlockMask.lacks c.args.masks.now in
    let o = subst (λ (n : Option ℕ). OnOps ℕ (OpsUnite c.args.g.now L) c.args.g.now c.args.b n c.loop-next.all) c.in-Some.is c.loop-next.invariant in
    walk.ops_more ℕ (OpsUnite c.args.g.now L) c.args.g.now c.requires.graph c.args.b c.in-Some.o c.loop-next.all (bit_or c.loop-next.all c.at_code-all.result) c.next_op-next.result c.op-op.result o c.op-op.ensures
    (λ ops hb ho done. ops_more c.args.g.now L c.requires.flow o.block ops c.op-op.result c.loop-next.all c.at_code-all.result hb ho c.at_code-all.ensures done)
    c.next_op-next.ensures.next c.next_op-next.ensures.live

pub behind_link-requires-clause-fits : goal.behind_link-requires-clause-fits
behind_link-requires-clause-fits g c = λ at e. link_fits c.args.g.now c.requires.flow c.args.b c.last-last.result c.last-last.ensures at e

pub returns : goal.returns
returns g c = λ x e.
    let L = g.M.BlockMask.lacks c.args.masks.now in
    let o = subst (λ (n : Option ℕ). OnOps ℕ (OpsUnite c.args.g.now L) c.args.g.now c.args.b n c.loop-next.all) c.in_default.is c.loop-next.invariant in
    let same : o.block ≡ x = some_same o.block x (sym o.is ∙ e) in
    let end = walk.ops_end ℕ (OpsUnite c.args.g.now L) c.args.g.now c.requires.graph c.args.b c.loop-next.all o in
    let last : o.block.last ≡ c.last-last.result = some_last o.block.last c.last-last.result (sym (ap (option_map (λ (y : Block). y.last)) o.is) ∙ c.last-last.ensures) in
    subst (λ (y : Block). IsUnion c.args.g.now L (flat_map word_lands (block_words y)) (bit_or c.loop-next.all c.behind_link.result)) same
    (block_united c.args.g.now L c.requires.flow o.block c.last-last.result c.loop-next.all c.behind_link.result end.0 last c.behind_link.ensures end.1)
