use Rattle.std.proofs.Common.{sym, ap, ◌∙◌}
use Rattle.om_uses.specs.declared.tables.OpUses.{OpUses}
use Rattle.om_uses.specs.Scans.{has_bit}
use Rattle.om_uses.proofs.Standing.{after_written, after_unwritten}
use Rattle.om_uses.proofs.uses.Uses.reader_after.Goals as goal

pub returns-then-has : goal.returns-then-has
returns-then-has c = λ n behind is.
    after_written c.args.self.now c.args.r c.requires c.args.o n behind is
    (ap (λ (o : OpUses). has_bit o.writes c.args.r) (sym c.op.ensures) ∙ sym c.has.ensures ∙ c.if-has.true)

pub returns : goal.returns
returns c = λ n behind is.
    after_unwritten c.args.self.now c.args.r c.requires c.args.o n behind is c.reader_behind.result
    (ap (λ (o : OpUses). has_bit o.writes c.args.r) (sym c.op.ensures) ∙ sym c.has.ensures ∙ c.if-has.false)
    (c.reader_behind.ensures n behind is)
