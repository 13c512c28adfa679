use Rattle.std.proofs.Common.{sym, ◌∙◌}
use Rattle.om_uses.proofs.Fresh.{labelled_number, dropped_none}
use Rattle.om_uses.proofs.uses.Uses.fresh_at.Goals as goal

pub returns-in-Some-clause-fresh : goal.returns-in-Some-clause-fresh
returns-in-Some-clause-fresh c = (
  labelled_number c.args.g.now c.requires.numbers c.args.label c.in-Some.block (sym c.block.ensures.block ∙ c.in-Some.is),
  (c.in-Some.ensures.live, c.in_ok-start.ensures.room),
)

pub returns-in_ok-extend_blocks-in-Some-number-clause-fresh : goal.returns-in_ok-extend_blocks-in-Some-number-clause-fresh
returns-in_ok-extend_blocks-in-Some-number-clause-fresh c =
    let number = sym c.number.ensures ∙ c.in-Some-number.is in (
      number,
      (
        c.in_ok-extend_blocks-in-Some-number.ensures.room,
        dropped_none c.args.g.now c.requires.numbers c.args.label c.in-Some-number.number number (sym c.block.ensures.block ∙ c.in_default.is),
      ),
    )
