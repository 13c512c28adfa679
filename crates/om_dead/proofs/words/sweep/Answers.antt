use Rattle.std.proofs.Common.{◌<◌, ℕ, Bool, false, Option, sym, subst}
use Rattle.om_graph.specs.Outs.{outs_of}
use Rattle.om_blocks.specs.Found.{masks_in}
use Rattle.om_blocks.proofs.Walking.{blocks_left, blocks_begin}
use Rattle.om_dead.proofs.OnSweeps.{swept_none}
use Rattle.om_dead.proofs.OnGraphs.{Clean, clean_first, SweptTo, sweeping, when_err, out_room, then_rewritten, then_live, swept_fewer, swept_more, next_live, none_left}
use Rattle.om_dead.proofs.words.sweep.Goals as goal

pub loop-next-init : goal.loop-next-init
loop-next-init c = record {
  swept = swept_none (masks_in c.args.g.now c.args.l.now) (outs_of c.args.g.now (masks_in c.args.g.now c.args.l.now)) c.args.g.now c.requires.of c.requires.exact.checked (λ x r h l e. e);
  empty = c.new-ops.ensures.items;
  on = blocks_begin Bool (Clean c.args.g.now (masks_in c.args.g.now c.args.l.now)) c.args.g.now c.is_graph.ensures c.first_block-next.result false c.first_block-next.ensures.first
      c.first_block-next.ensures.live (clean_first c.args.g.now (masks_in c.args.g.now c.args.l.now));
}

pub list_ops-requires-clause-live : goal.list_ops-requires-clause-live
list_ops-requires-clause-live c =
    next_live c.args.g.now c.loop-next.g (masks_in c.args.g.now c.args.l.now) c.loop-next.changed c.in-Some.b c.loop-next.ops.items
    (subst (λ (n : Option ℕ). SweptTo c.args.g.now (masks_in c.args.g.now c.args.l.now) n c.loop-next.g c.loop-next.changed c.loop-next.ops.items) c.in-Some.is c.loop-next.invariant)

pub end_of-out-requires : goal.end_of-out-requires
end_of-out-requires c =
    out_room c.args.g.now c.loop-next.g (masks_in c.args.g.now c.args.l.now) c.args.outs.now c.loop-next.changed c.in-Some.b c.loop-next.ops.items c.requires.outs
    (subst (λ (n : Option ℕ). SweptTo c.args.g.now (masks_in c.args.g.now c.args.l.now) n c.loop-next.g c.loop-next.changed c.loop-next.ops.items) c.in-Some.is c.loop-next.invariant)

pub sweep_block-changed-requires-clause-sweeping : goal.sweep_block-changed-requires-clause-sweeping
sweep_block-changed-requires-clause-sweeping c =
    sweeping c.args.g.now c.loop-next.g (masks_in c.args.g.now c.args.l.now) c.args.outs.now c.loop-next.changed c.in-Some.b c.end_of-out.result c.is_graph.ensures c.requires.outs
    c.loop-next.invariant.swept c.end_of-out.ensures

pub sweep_block-changed-requires-clause-live : goal.sweep_block-changed-requires-clause-live
sweep_block-changed-requires-clause-live c =
    next_live c.args.g.now c.loop-next.g (masks_in c.args.g.now c.args.l.now) c.loop-next.changed c.in-Some.b c.loop-next.ops.items
    (subst (λ (n : Option ℕ). SweptTo c.args.g.now (masks_in c.args.g.now c.args.l.now) n c.loop-next.g c.loop-next.changed c.loop-next.ops.items) c.in-Some.is c.loop-next.invariant)

pub note-requires : goal.note-requires
note-requires c =
    then_live c.args.g.now c.loop-next.g c.sweep_block-changed.new.g (masks_in c.args.g.now c.args.l.now) c.args.outs.now c.loop-next.changed c.sweep_block-changed.result c.in-Some.b
    c.end_of-out.result c.is_graph.ensures c.requires.outs c.loop-next.ops.items
    (subst (λ (n : Option ℕ). SweptTo c.args.g.now (masks_in c.args.g.now c.args.l.now) n c.loop-next.g c.loop-next.changed c.loop-next.ops.items) c.in-Some.is c.loop-next.invariant)
    c.end_of-out.ensures c.sweep_block-changed.ensures.swept

pub returns-in_err-note-clause-stopped : goal.returns-in_err-note-clause-stopped
returns-in_err-note-clause-stopped c =
    when_err c.from_residual-in_err-note.result
    (then_rewritten c.args.g.now c.loop-next.g c.sweep_block-changed.new.g (masks_in c.args.g.now c.args.l.now) c.args.outs.now c.loop-next.changed c.sweep_block-changed.result c.in-Some.b
    c.end_of-out.result c.is_graph.ensures c.requires.outs c.loop-next.ops.items
    (subst (λ (n : Option ℕ). SweptTo c.args.g.now (masks_in c.args.g.now c.args.l.now) n c.loop-next.g c.loop-next.changed c.loop-next.ops.items) c.in-Some.is c.loop-next.invariant)
    c.end_of-out.ensures c.sweep_block-changed.ensures.swept)

pub next_block-next-requires : goal.next_block-next-requires
next_block-next-requires c =
    then_live c.args.g.now c.loop-next.g c.sweep_block-changed.new.g (masks_in c.args.g.now c.args.l.now) c.args.outs.now c.loop-next.changed c.sweep_block-changed.result c.in-Some.b
    c.end_of-out.result c.is_graph.ensures c.requires.outs c.loop-next.ops.items
    (subst (λ (n : Option ℕ). SweptTo c.args.g.now (masks_in c.args.g.now c.args.l.now) n c.loop-next.g c.loop-next.changed c.loop-next.ops.items) c.in-Some.is c.loop-next.invariant)
    c.end_of-out.ensures c.sweep_block-changed.ensures.swept

pub loop-next-smaller : goal.loop-next-smaller
loop-next-smaller c =
    subst (λ (n : Option ℕ). blocks_left Bool (Clean c.args.g.now (masks_in c.args.g.now c.args.l.now)) c.args.g.now c.next_block-next.result < blocks_left Bool (Clean c.args.g.now (masks_in c.args.g.now c.args.l.now)) c.args.g.now n)
    (sym c.in-Some.is)
    (swept_fewer c.args.g.now c.loop-next.g c.sweep_block-changed.new.g (masks_in c.args.g.now c.args.l.now) c.args.outs.now c.loop-next.changed c.sweep_block-changed.result c.in-Some.b
    c.end_of-out.result c.is_graph.ensures c.requires.outs c.loop-next.ops.items
    (subst (λ (n : Option ℕ). SweptTo c.args.g.now (masks_in c.args.g.now c.args.l.now) n c.loop-next.g c.loop-next.changed c.loop-next.ops.items) c.in-Some.is c.loop-next.invariant)
    c.end_of-out.ensures c.sweep_block-changed.ensures.swept c.next_block-next.result c.next_block-next.ensures.next)

pub loop-next-preserved : goal.loop-next-preserved
loop-next-preserved c =
    swept_more c.args.g.now c.loop-next.g c.sweep_block-changed.new.g (masks_in c.args.g.now c.args.l.now) c.args.outs.now c.loop-next.changed c.sweep_block-changed.result c.in-Some.b
    c.end_of-out.result c.is_graph.ensures c.requires.outs c.loop-next.ops.items
    (subst (λ (n : Option ℕ). SweptTo c.args.g.now (masks_in c.args.g.now c.args.l.now) n c.loop-next.g c.loop-next.changed c.loop-next.ops.items) c.in-Some.is c.loop-next.invariant)
    c.end_of-out.ensures c.sweep_block-changed.ensures.swept c.next_block-next.result c.next_block-next.ensures.next c.sweep_block-changed.new.ops.items
    c.sweep_block-changed.ensures.empty c.next_block-next.ensures.live

pub returns-clause-none : goal.returns-clause-none
returns-clause-none c =
    none_left c.args.g.now c.loop-next.g (masks_in c.args.g.now c.args.l.now) c.loop-next.changed c.loop-next.ops.items c.requires.of
    (subst (λ (n : Option ℕ). SweptTo c.args.g.now (masks_in c.args.g.now c.args.l.now) n c.loop-next.g c.loop-next.changed c.loop-next.ops.items) c.in_default.is c.loop-next.invariant)
