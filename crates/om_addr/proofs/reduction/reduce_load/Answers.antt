use Rattle.std.proofs.Common.{◌≡◌, [], sym, ◌∙◌}
use Rattle.om_addr.proofs.InARow as row
use Rattle.om_addr.proofs.Loaded.{in_a_row, done_is}
use Rattle.om_addr.proofs.reduction.reduce_load.Goals as goal

pub returns-then-not-load-clause-passed : goal.returns-then-not-load-clause-passed
returns-then-not-load-clause-passed c = λ masks. c.take_bases-based.ensures.passed c.args.lay.now c.pointer_of-at.ensures.said masks

pub leave_slot-left-requires-clause-program : goal.leave_slot-left-requires-clause-program
leave_slot-left-requires-clause-program c =
    row.stays c.args.lay.now [] c.take_bases-based.result c.args.g.now c.take_bases-based.new.g c.requires.program (c.take_bases-based.ensures.passed c.args.lay.now c.pointer_of-at.ensures.said [])

pub returns-clause-passed : goal.returns-clause-passed
returns-clause-passed c = λ masks.
    in_a_row c.args.lay.now masks c.args.g.now c.take_bases-based.new.g c.leave_slot-left.new.g c.take_bases-based.result c.leave_slot-left.result c.either.result c.either.ensures
    (c.take_bases-based.ensures.passed c.args.lay.now c.pointer_of-at.ensures.said masks) (c.leave_slot-left.ensures.passed c.args.lay.now c.pointer_of-at.ensures.said masks)

pub returns-clause-nothing : goal.returns-clause-nothing
returns-clause-nothing c =
    done_is c.args.lay.now c.args.load.now c.take_bases-based.new.g c.leave_slot-left.new.g c.take_bases-based.result c.leave_slot-left.result c.either.result c.either.ensures
    (c.take_bases-based.ensures.nothing c.args.lay.now c.pointer_of-at.ensures.said) (c.leave_slot-left.ensures.passed c.args.lay.now c.pointer_of-at.ensures.said [])
    (λ f. c.leave_slot-left.ensures.nothing c.args.lay.now c.pointer_of-at.ensures.said f)
