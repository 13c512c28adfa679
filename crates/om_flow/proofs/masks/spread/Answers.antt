use Rattle.std.proofs.Common.{◌≡◌, ◌<◌, ◌+◌, ◌-◌, ℕ, List, [], ◌∷◌, ◌++◌, get_or, length, sym, ◌∙◌, subst, arith}
use Rattle.std.specs.Prelude.{map}
use Rattle.std.proofs.lemmas.List.{get_or_default}
use Rattle.om_flow.specs.Chain.{source}
use Rattle.om_flow.specs.MaskSteps.{MaskSpread, mask_up, bits_left}
use Rattle.om_flow.specs.Seen.{writes_of}
use Rattle.om_flow.proofs.Spreading.{spread_more}
use Rattle.om_flow.proofs.MaskSolver.{mask_again}
use Rattle.om_flow.proofs.Chained.{OnChain, chain_step, map_end}
use Rattle.om_flow.proofs.masks.spread.Goals as goal

pub loop-link-preserved : goal.loop-link-preserved
loop-link-preserved c =
    let k = c.loop-link.invariant in
    let chains = c.requires.chains.1 in
    let edge : c.loop-link.link ≡ (c.loop-link.link - 1) + 1 = omega arith in
    let low = k.1.low in
    let in_more : c.loop-link.link - 1 < length c.args.chains.now.more.items = omega (arith, low, edge) in
    let link : c.index-link-in-loop-link.result.now ≡ get_or c.args.chains.now.more.items (c.loop-link.link - 1) 0 =
    c.index-link-in-loop-link.ensures ∙ get_or_default c.args.chains.now.more.items (c.loop-link.link - 1) c.index-link-in-loop-link.result.now 0 in_more in
    let from : source (length c.args.blocks.now) (c.loop-link.link - 1) < length c.args.masks.now.items = omega (arith, c.requires.sizes) in (
      k.0 ++ (c.loop-link.link - 1) ∷ [],
      subst (λ (x : ℕ). OnChain c.args.chains.now.more.items (get_or c.args.chains.now.heads.items c.args.block 0) x (k.0 ++ (c.loop-link.link - 1) ∷ [])) (sym link)
          (chain_step c.args.chains.now.more.items chains.down (get_or c.args.chains.now.heads.items c.args.block 0) (c.loop-link.link - 1) c.loop-link.link k.0 edge k.1),
      subst (λ (l : List ℕ). MaskSpread (writes_of c.args.blocks.now) c.args.live l c.args.masks.now.items c.args.work.now.items c.raise.new.masks.items c.raise.new.work.items)
          (sym (map_end (source (length c.args.blocks.now)) k.0 (c.loop-link.link - 1)))
          (spread_more _ _ 0 (mask_up (writes_of c.args.blocks.now)) bits_left (mask_again (writes_of c.args.blocks.now)) (map (source (length c.args.blocks.now)) k.0)
          (source (length c.args.blocks.now) (c.loop-link.link - 1)) c.args.live c.args.masks.now.items c.args.work.now.items c.loop-link.masks.items c.loop-link.work.items
          c.raise.new.masks.items c.raise.new.work.items from k.2 (rw c.source.ensures at c.in_ok-raise.ensures.raised)),
      c.in_ok-raise.ensures.marks,
      c.in_ok-raise.ensures.size ∙ k.4,
    )
