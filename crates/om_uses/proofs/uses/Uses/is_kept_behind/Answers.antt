use Rattle.std.proofs.Common.{length, sym, ap, ◌∙◌, arith}
use Rattle.om_uses.specs.declared.tables.OpUses.{OpUses}
use Rattle.om_uses.specs.Parts.{Kept}
use Rattle.om_uses.specs.Readers.{is_kept}
use Rattle.om_uses.proofs.Standing.{id_same, id_differs, keeps_end, keeps_written, keeps_more, walk_ends}
use Rattle.om_uses.proofs.uses.Uses.is_kept_behind.Goals as goal

pub returns-then-eq : goal.returns-then-eq
returns-then-eq c = λ n behind is.
    keeps_end c.args.self.now c.args.r c.requires behind c.loop.at c.loop.counter c.op-next.result.next (ap (λ (o : OpUses). o.next) c.op-next.ensures)
    (c.loop.invariant n behind is) (id_same c.op-next.result.next c.loop.at (sym c.eq.ensures ∙ c.if-eq.true))

pub returns-then-has : goal.returns-then-has
returns-then-has c = λ n behind is.
    keeps_written c.args.self.now c.args.r c.requires behind c.loop.at c.loop.counter c.op-next.result.next (ap (λ (o : OpUses). o.next) c.op-next.ensures)
    (c.loop.invariant n behind is) c.op.result c.op.ensures (id_differs c.op-next.result.next c.loop.at (sym c.eq.ensures ∙ c.if-eq.false)) (sym c.has.ensures ∙ c.if-has.true)

pub loop-preserved : goal.loop-preserved
loop-preserved c = λ n behind is.
    keeps_more c.args.self.now c.args.r c.requires behind c.loop.at c.loop.counter c.op-next.result.next (ap (λ (o : OpUses). o.next) c.op-next.ensures)
    (c.loop.invariant n behind is) c.op.result c.op.ensures (id_differs c.op-next.result.next c.loop.at (sym c.eq.ensures ∙ c.if-eq.false)) (sym c.has.ensures ∙ c.if-has.false)

pub returns : goal.returns
returns c = λ n behind is.
    walk_ends c.args.self.now (is_kept c.args.r) behind c.loop.at c.loop.counter (c.loop.invariant n behind is)
    (omega (arith, c.loop-test.false, c.len-end.ensures, ap (λ (u : Kept). length u.ops) c.self.view_is)) is.few
