use Rattle.std.proofs.Common.{◌<◌, ℕ, List, Option, Some, sym, subst}
use Rattle.om_flow.specs.declared.parts.Fact.{Fact}
use Rattle.om_flow.specs.declared.parts.Fact.TheVariants.{Unknown}
use Rattle.om_blocks.proofs.Walking.{OnBlocks, blocks_left, blocks_begin, blocks_more, blocks_fewer, blocks_end}
use Rattle.om_gpfacts.proofs.Copying.{AreCopied, copied_first, copied_more, are_of_kept}
use Rattle.om_gpfacts.proofs.facts.of_kept.Goals as goal

pub loop-next-init : goal.loop-next-init
loop-next-init c =
    blocks_begin (List Fact) (AreCopied Fact Unknown c.args.g.now c.args.found.now) c.args.g.now c.requires c.first_block-next.result c.in_ok-facts.facts.items c.first_block-next.ensures.first
    c.first_block-next.ensures.live
    (rw (c.in_ok-facts.ensures.items_if_clones_equal (λ y e. e)) (copied_first Fact Unknown c.args.g.now c.requires c.args.found.now c.rows-rows.result c.rows-rows.ensures))

on : (c : goal.After-next_block-next) → OnBlocks (List Fact) (AreCopied Fact Unknown c.args.g.now c.args.found.now) c.args.g.now (Some c.in-Some.b) c.loop-next.facts.items
on c = subst (λ (n : Option ℕ). OnBlocks (List Fact) (AreCopied Fact Unknown c.args.g.now c.args.found.now) c.args.g.now n c.loop-next.facts.items) c.in-Some.is c.loop-next.invariant

pub loop-next-smaller : goal.loop-next-smaller
loop-next-smaller c =
    subst (λ (n : Option ℕ). blocks_left (List Fact) (AreCopied Fact Unknown c.args.g.now c.args.found.now) c.args.g.now c.next_block-next.result < blocks_left (List Fact) (AreCopied Fact Unknown c.args.g.now c.args.found.now) c.args.g.now n)
    (sym c.in-Some.is)
    (blocks_fewer (List Fact) (AreCopied Fact Unknown c.args.g.now c.args.found.now) c.args.g.now c.requires c.in-Some.b c.next_block-next.result c.loop-next.facts.items (on c) c.next_block-next.ensures.next)

pub loop-next-preserved : goal.loop-next-preserved
loop-next-preserved c =
    rw c.number.ensures
    (blocks_more (List Fact) (AreCopied Fact Unknown c.args.g.now c.args.found.now) c.args.g.now c.requires c.in-Some.b c.next_block-next.result c.loop-next.facts.items _ (on c)
    (λ done x hx same old.
    copied_more Fact Unknown c.args.g.now c.requires c.args.found.now done x c.in-Some.b c.fact.result c.loop-next.facts.items hx same c.fact.ensures.fact old)
    c.next_block-next.ensures.next c.next_block-next.ensures.live)

pub returns : goal.returns
returns c =
    let on = subst (λ (n : Option ℕ). OnBlocks (List Fact) (AreCopied Fact Unknown c.args.g.now c.args.found.now) c.args.g.now n c.loop-next.facts.items) c.in_default.is c.loop-next.invariant in
    are_of_kept c.args.g.now c.requires c.args.found.now c.loop-next.facts.items
    (blocks_end (List Fact) (AreCopied Fact Unknown c.args.g.now c.args.found.now) c.args.g.now c.requires c.loop-next.facts.items on)
