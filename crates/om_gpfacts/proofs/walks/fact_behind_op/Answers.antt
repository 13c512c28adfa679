use Rattle.std.proofs.Common.{sym, ap, ◌∙◌}
use Rattle.om_gpfacts.proofs.Inside.{fact_then, behind_op}
use Rattle.om_gpfacts.proofs.walks.fact_behind_op.Goals as goal

pub returns-in-Keep : goal.returns-in-Keep
returns-in-Keep c = behind_op c.args.kind.now c.args.table c.args.start c.args.before c.args.before (ap (fact_then c.args.start c.args.before) (sym c.in-Keep.is ∙ c.transfer_of.ensures))

pub returns-in-SetTable : goal.returns-in-SetTable
returns-in-SetTable c =
    behind_op c.args.kind.now c.args.table c.args.start c.args.before c.set_table.result
    (c.set_table.ensures ∙ ap (fact_then c.args.start c.args.before) (sym c.in-SetTable.is ∙ c.transfer_of.ensures))

pub returns-in-SetUnknown : goal.returns-in-SetUnknown
returns-in-SetUnknown c = behind_op c.args.kind.now c.args.table c.args.start c.args.before _ (ap (fact_then c.args.start c.args.before) (sym c.in-SetUnknown.is ∙ c.transfer_of.ensures))
