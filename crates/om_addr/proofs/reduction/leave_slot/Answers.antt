use Rattle.std.proofs.Common.{◌≡◌, [], sym, ◌∙◌}
use Rattle.om_addr.proofs.InARow as row
use Rattle.om_addr.proofs.Loops.{no_layout}
use Rattle.om_addr.proofs.Loaded.{in_a_row, left_is}
use Rattle.om_addr.proofs.reduction.leave_slot.Goals as goal

pub take_near-near-requires-clause-program : goal.take_near-near-requires-clause-program
take_near-near-requires-clause-program c =
    row.stays no_layout [] c.take_literals-byted.result c.args.g.now c.take_literals-byted.new.g c.requires.program (c.take_literals-byted.ensures.passed no_layout [])

pub returns-clause-passed : goal.returns-clause-passed
returns-clause-passed c = λ l said masks.
    in_a_row l masks c.args.g.now c.take_literals-byted.new.g c.take_near-near.new.g c.take_literals-byted.result c.take_near-near.result c.either.result c.either.ensures (c.take_literals-byted.ensures.passed l masks)
    (c.take_near-near.ensures.passed l said masks)

pub returns-clause-nothing : goal.returns-clause-nothing
returns-clause-nothing c = λ l said e.
    left_is l c.args.load.now c.args.at c.take_literals-byted.new.g c.take_near-near.new.g c.take_literals-byted.result c.take_near-near.result c.either.result c.either.ensures said c.take_literals-byted.ensures.nothing
    (c.take_near-near.ensures.passed l said []) c.take_near-near.ensures.nothing e
