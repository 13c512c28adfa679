use Rattle.std.proofs.Common.{◌≡◌, true, false, inl, inr, ◌∙◌, refl, sym, get_or, arith}
use Rattle.std.proofs.lemmas.List.{get_or_default}
use Rattle.om_flow.specs.Seen.{writes_of}
use Rattle.om_flow.proofs.MaskSolver.{raised_mask}
use Rattle.om_flow.proofs.Spreading.{pushed_marks}
use Rattle.om_flow.proofs.masks.raise.Goals as goal

pub returns-then-index-clause-raised : goal.returns-then-index-clause-raised
returns-then-index-clause-raised c =
    let e : c.index-old.result.now ≡ get_or c.args.masks.now.items c.args.at 0 =
    c.index-old.ensures ∙ get_or_default c.args.masks.now.items c.args.at c.index-old.result.now 0 c.requires.mask in
    let k = raised_mask (writes_of c.args.blocks.now) c.args.masks.now.items c.args.at c.index-old.result.now c.args.live c.written.result c.written.ensures c.requires.mask e (omega arith) (omega arith)
    c.if-new-old.false in
    let marked : get_or c.args.queued.now.items c.args.at false ≡ true =
    get_or_default c.args.queued.now.items c.args.at false c.index.result.now c.requires.mark ∙ sym c.index.ensures ∙ c.if-index.true in
    record { becomes = k.0; queue = inr (inr (refl, c.requires.marks.queued c.args.at marked, omega (arith, k.1))) }

pub returns-clause-raised : goal.returns-clause-raised
returns-clause-raised c =
    let e : c.index-old.result.now ≡ get_or c.args.masks.now.items c.args.at 0 =
    c.index-old.ensures ∙ get_or_default c.args.masks.now.items c.args.at c.index-old.result.now 0 c.requires.mask in
    let k = raised_mask (writes_of c.args.blocks.now) c.args.masks.now.items c.args.at c.index-old.result.now c.args.live c.written.result c.written.ensures c.requires.mask e (omega arith) (omega arith)
    c.if-new-old.false in
    record { becomes = k.0; queue = inr (inl (c.in_ok-push.ensures.items, k.1)) }

pub returns-clause-marks : goal.returns-clause-marks
returns-clause-marks c = rw c.in_ok-push.ensures.items (pushed_marks c.args.queued.now.items c.args.work.now.items c.args.at c.requires.marks)
