use Rattle.std.proofs.Common.{sym, ◌∙◌, arith}
use Rattle.om_uses.proofs.Reading.{lowest_found, lowest_none}
use Rattle.om_uses.proofs.scans.lowest.Goals as goal

pub returns-then-has-clause-one : goal.returns-then-has-clause-one
returns-then-has-clause-one c = λ r h e. lowest_found c.args.mask r c.loop-r.r e (omega (arith, c.loop-r-test.true)) (sym c.has.ensures ∙ c.if-has.true)

pub returns-clause-one : goal.returns-clause-one
returns-clause-one c = λ r h e. lowest_none c.args.mask r e h (λ k l. c.loop-r.invariant k (omega (arith, l, c.loop-r-test.false)))
