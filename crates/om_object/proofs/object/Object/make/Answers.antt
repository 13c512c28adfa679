use Rattle.std.proofs.Common.{refl, sym, ◌∙◌}
use Rattle.om_object.proofs.FoundSpots.{unbroken_object}
use Rattle.om_object.proofs.object.Object.make.Goals as goal

pub invariant_of-result : goal.invariant_of-result
invariant_of-result c = unbroken_object c.args.parts (sym c.in_ok-rule.ensures ∙ c.in_default.is)

pub returns : goal.returns
returns c = (refl, unbroken_object c.args.parts (sym c.in_ok-rule.ensures ∙ c.in_default.is))
