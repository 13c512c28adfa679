use Rattle.std.proofs.Common.{sym, ◌∙◌}
use Rattle.om_image.proofs.Faults.{found_first}
use Rattle.om_image.proofs.reading.image_fault.Goals as goal

pub returns-in-Some-clause-gives : goal.returns-in-Some-clause-gives
returns-in-Some-clause-gives c = sym (found_first c.args.bytes.now c.in-Some.fault (sym c.head_fault.ensures.gives ∙ c.in-Some.is))
