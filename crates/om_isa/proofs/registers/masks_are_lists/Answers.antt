use Rattle.om_isa.proofs.Masks.{bits_of_mask}
use Rattle.om_isa.proofs.registers.masks_are_lists.Goals as goal

pub returns : goal.returns
returns c = record { bits = bits_of_mask }
