use Rattle.om_lift.proofs.Growing.{opened_off}
use Rattle.om_lift.proofs.lifting.lift_word.Goals as goal

pub add_word-requires : goal.add_word-requires
add_word-requires c = (c.in_ok-block.ensures c.requires.holds.0 c.requires.holds.1).last

pub returns : goal.returns
returns c ss h off = c.in_ok-add_word.ensures c.args.p.now _ (c.in_ok-block.ensures ss h) (opened_off c.args.p.now c.args.at c.args.before ss off)
