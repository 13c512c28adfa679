use Rattle.std.proofs.Common.{sym, ◌∙◌}
use Rattle.om_calls.proofs.OpeningPairs.{no_first, no_second, two_there}
use Rattle.om_calls.proofs.openings.first_two.Goals as goal

pub returns-in_default : goal.returns-in_default
returns-in_default c = λ x e. no_first c.args.g.now c.requires.graph c.args.b x e (sym c.first_op.ensures.first ∙ c.in_default.is)

pub returns-in_default-next_op : goal.returns-in_default-next_op
returns-in_default-next_op c = λ x e.
    no_second c.args.g.now c.requires.graph c.args.b x e c.in-Some.first (sym c.first_op.ensures.first ∙ c.in-Some.is) (sym c.next_op.ensures.next ∙ c.in_default-next_op.is)

pub returns : goal.returns
returns c = λ x e.
    two_there c.args.g.now c.requires.graph c.args.b x e c.in-Some.first c.in-Some-next_op.second c.op.result c.op-2.result (sym c.first_op.ensures.first ∙ c.in-Some.is)
    (sym c.next_op.ensures.next ∙ c.in-Some-next_op.is) c.op.ensures c.op-2.ensures
