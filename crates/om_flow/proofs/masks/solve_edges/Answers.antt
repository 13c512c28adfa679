use Rattle.std.proofs.Common.{◌≡◌, ◌<◌, ◌+◌, ℕ, Bool, true, List, [], replicate, length, get_or, arith, ap, sym, ◌∙◌, subst}
use Rattle.std.proofs.lemmas.List.{length-replicate}
use Rattle.om_flow.specs.declared.parts.FlowBlock.{FlowBlock}
use Rattle.om_flow.specs.Worklist.{AreMarks}
use Rattle.om_flow.specs.Edges.{Edge}
use Rattle.om_flow.specs.Seen.{pair_of, edges_of, reads_of, writes_of}
use Rattle.om_flow.specs.Chain.{sources}
use Rattle.om_flow.specs.Masks.{number_at, MasksSolved}
use Rattle.om_flow.specs.MaskSteps.{mask_up, mask_out, bits_left, MaskHolds, AreBelow}
use Rattle.om_flow.proofs.Fields.{field_count}
use Rattle.om_flow.proofs.Spreading.{turn, popped_inside, popped_marks, first_marks}
use Rattle.om_flow.proofs.Chained.{before_of, before_at, chains_reverse, reverse_inside}
use Rattle.om_flow.proofs.MaskSolver.{mask_laws, first_going, solved_end}
use Rattle.om_flow.proofs.masks.solve_edges.Goals as goal

pub loop-block-init : goal.loop-block-init
loop-block-init c =
    let are = chains_reverse c.args.flow.now.blocks.items c.args.flow.now.lands.items c.in_ok-chains.chains.heads.items c.in_ok-chains.chains.more.items c.requires.edges
    (rw (c.as_slice-blocks.ensures.value, c.as_slice.ensures.value) at c.in_ok-chains.ensures) in
    let count = field_count pair_of c.args.flow.now.blocks.items c.args.flow.now.lands.items in
    let reads = field_count (λ b. b.reads) c.args.flow.now.blocks.items 0 in
    let marks_are : c.in_ok-queued.queued.items ≡ replicate (length c.args.flow.now.blocks.items + 1) true =
    c.in_ok-queued.ensures.items_if_clones_equal (λ y e. e) ∙ ap (λ (bs : List FlowBlock). replicate (length bs + 1) true) c.as_slice-blocks.ensures.value in
    let below = rw c.as_slice-blocks.ensures.value at c.in_ok-work.ensures in (
      (rw (c.in_ok-masks.ensures, c.as_slice-blocks.ensures.value)
          (first_going (edges_of c.args.flow.now.blocks.items c.args.flow.now.lands.items) (before_of (length c.args.flow.now.blocks.items) c.in_ok-chains.chains.heads.items c.in_ok-chains.chains.more.items) (reads_of c.args.flow.now.blocks.items) (writes_of c.args.flow.now.blocks.items) c.in_ok-work.work.items (reads ∙ sym count) are
          (subst (λ (n : ℕ). AreBelow n c.in_ok-work.work.items) (sym count) (rw c.as_slice-blocks.ensures.value at c.in_ok-work.ensures)))),
      subst (λ (l : List Bool). AreMarks l c.in_ok-work.work.items) (sym marks_are) (first_marks (length c.args.flow.now.blocks.items + 1) c.in_ok-work.work.items (λ k h. (below.each k).1 h)),
      ap (λ (l : List Bool). length l) marks_are ∙ length-replicate (length c.args.flow.now.blocks.items + 1) true,
    )

inside : (c : goal.After-as_slice-in-Some) → c.in-Some.block < length (before_of (length c.args.flow.now.blocks.items) c.in_ok-chains.chains.heads.items c.in_ok-chains.chains.more.items)
inside c =
    popped_inside _ _ 0 (mask_up (writes_of c.args.flow.now.blocks.items)) bits_left (before_of (length c.args.flow.now.blocks.items) c.in_ok-chains.chains.heads.items c.in_ok-chains.chains.more.items) mask_out
    (MaskHolds (Edge (edges_of c.args.flow.now.blocks.items c.args.flow.now.lands.items)) (number_at (reads_of c.args.flow.now.blocks.items)) (number_at (writes_of c.args.flow.now.blocks.items))) c.in-Some.block c.loop-block.masks.items c.loop-block.work.items c.pop.new.self.items
    c.in-Some.ensures.items c.loop-block.invariant.0

pub mask_of-live-requires : goal.mask_of-live-requires
mask_of-live-requires c = omega (arith, c.loop-block.invariant.0.size, ap length c.as_slice-in-Some.ensures.value, inside c)

pub spread-requires-clause-block : goal.spread-requires-clause-block
spread-requires-clause-block c =
    let h =
    popped_inside _ _ 0 (mask_up (writes_of c.args.flow.now.blocks.items)) bits_left (before_of (length c.args.flow.now.blocks.items) c.in_ok-chains.chains.heads.items c.in_ok-chains.chains.more.items) mask_out
    (MaskHolds (Edge (edges_of c.args.flow.now.blocks.items c.args.flow.now.lands.items)) (number_at (reads_of c.args.flow.now.blocks.items)) (number_at (writes_of c.args.flow.now.blocks.items))) c.in-Some.block c.loop-block.masks.items c.loop-block.work.items c.pop.new.self.items
    c.in-Some.ensures.items c.loop-block.invariant.0 in
    let are = chains_reverse c.args.flow.now.blocks.items c.args.flow.now.lands.items c.in_ok-chains.chains.heads.items c.in_ok-chains.chains.more.items c.requires.edges
    (rw (c.as_slice-blocks.ensures.value, c.as_slice.ensures.value) at c.in_ok-chains.ensures) in
    omega (arith, h, are.size, field_count pair_of c.args.flow.now.blocks.items c.args.flow.now.lands.items, ap length c.as_slice-blocks.ensures.value)

pub loop-block-preserved : goal.loop-block-preserved
loop-block-preserved c =
    let are = chains_reverse c.args.flow.now.blocks.items c.args.flow.now.lands.items c.in_ok-chains.chains.heads.items c.in_ok-chains.chains.more.items c.requires.edges
    (rw (c.as_slice-blocks.ensures.value, c.as_slice.ensures.value) at c.in_ok-chains.ensures) in
    let targets : sources (length c.args.flow.now.blocks.items) c.in_ok-chains.chains.more.items (get_or c.in_ok-chains.chains.heads.items c.in-Some.block 0)
    ≡ get_or (before_of (length c.args.flow.now.blocks.items) c.in_ok-chains.chains.heads.items c.in_ok-chains.chains.more.items) c.in-Some.block [] =
    sym (before_at (length c.args.flow.now.blocks.items) c.in_ok-chains.chains.heads.items c.in_ok-chains.chains.more.items c.in-Some.block) in (
      turn _ _ 0 (mask_up (writes_of c.args.flow.now.blocks.items)) bits_left (before_of (length c.args.flow.now.blocks.items) c.in_ok-chains.chains.heads.items c.in_ok-chains.chains.more.items) mask_out
          (MaskHolds (Edge (edges_of c.args.flow.now.blocks.items c.args.flow.now.lands.items)) (number_at (reads_of c.args.flow.now.blocks.items)) (number_at (writes_of c.args.flow.now.blocks.items)))
          (mask_laws (edges_of c.args.flow.now.blocks.items c.args.flow.now.lands.items) (before_of (length c.args.flow.now.blocks.items) c.in_ok-chains.chains.heads.items c.in_ok-chains.chains.more.items) (reads_of c.args.flow.now.blocks.items) (writes_of c.args.flow.now.blocks.items) are c.requires.fits)
          (reverse_inside (edges_of c.args.flow.now.blocks.items c.args.flow.now.lands.items) (before_of (length c.args.flow.now.blocks.items) c.in_ok-chains.chains.heads.items c.in_ok-chains.chains.more.items) are) c.in-Some.block c.loop-block.masks.items c.loop-block.work.items
          c.pop.new.self.items c.spread.new.masks.items c.spread.new.work.items _ _ c.in-Some.ensures.items targets
          (rw c.as_slice-in-Some.ensures.value at c.mask_of-live.ensures) c.loop-block.invariant.0 (rw c.as_slice-blocks.ensures.value at c.in_ok-spread.ensures.spread),
      c.in_ok-spread.ensures.marks,
      rw c.as_slice-blocks.ensures.value at c.in_ok-spread.ensures.marked,
    )

pub returns : goal.returns
returns c =
    let are = chains_reverse c.args.flow.now.blocks.items c.args.flow.now.lands.items c.in_ok-chains.chains.heads.items c.in_ok-chains.chains.more.items c.requires.edges
    (rw (c.as_slice-blocks.ensures.value, c.as_slice.ensures.value) at c.in_ok-chains.ensures) in
    subst (λ (n : ℕ). MasksSolved n (Edge (edges_of c.args.flow.now.blocks.items c.args.flow.now.lands.items)) (reads_of c.args.flow.now.blocks.items) (writes_of c.args.flow.now.blocks.items) c.loop-block.masks.items) (field_count pair_of c.args.flow.now.blocks.items c.args.flow.now.lands.items)
    (solved_end (edges_of c.args.flow.now.blocks.items c.args.flow.now.lands.items) (before_of (length c.args.flow.now.blocks.items) c.in_ok-chains.chains.heads.items c.in_ok-chains.chains.more.items) (reads_of c.args.flow.now.blocks.items) (writes_of c.args.flow.now.blocks.items) c.loop-block.masks.items c.loop-block.work.items are
    c.requires.fits (omega (arith, c.in_default.ensures.cases.0)) c.loop-block.invariant.0)

pub index_mut-requires : goal.index_mut-requires
index_mut-requires c =
    let h =
    popped_inside _ _ 0 (mask_up (writes_of c.args.flow.now.blocks.items)) bits_left (before_of (length c.args.flow.now.blocks.items) c.in_ok-chains.chains.heads.items c.in_ok-chains.chains.more.items) mask_out
    (MaskHolds (Edge (edges_of c.args.flow.now.blocks.items c.args.flow.now.lands.items)) (number_at (reads_of c.args.flow.now.blocks.items)) (number_at (writes_of c.args.flow.now.blocks.items)))
    c.in-Some.block c.loop-block.masks.items c.loop-block.work.items c.pop.new.self.items c.in-Some.ensures.items c.loop-block.invariant.0 in
    let are = chains_reverse c.args.flow.now.blocks.items c.args.flow.now.lands.items c.in_ok-chains.chains.heads.items c.in_ok-chains.chains.more.items c.requires.edges
    (rw (c.as_slice-blocks.ensures.value, c.as_slice.ensures.value) at c.in_ok-chains.ensures) in
    omega (arith, h, are.size, field_count pair_of c.args.flow.now.blocks.items c.args.flow.now.lands.items, c.loop-block.invariant.2)

pub spread-requires-clause-marks : goal.spread-requires-clause-marks
spread-requires-clause-marks c = popped_marks c.loop-block.queued.items c.loop-block.work.items c.pop.new.self.items c.in-Some.block c.in-Some.ensures.items c.loop-block.invariant.1
