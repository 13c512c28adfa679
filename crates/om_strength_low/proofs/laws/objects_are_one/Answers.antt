use Rattle.om_strength_low.proofs.OneAnswer.{reads_one_object, makes_one_object}
use Rattle.om_strength_low.proofs.laws.objects_are_one.Goals as goal

pub returns : goal.returns
returns c = record { reads = reads_one_object; makes = makes_one_object }
