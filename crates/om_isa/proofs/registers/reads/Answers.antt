use Rattle.std.proofs.Common.{ap, ◌∙◌}
use Rattle.std.specs.Int.{bit_at}
use Rattle.om_isa.specs.Registers.{regs_read}
use Rattle.om_isa.proofs.Masks.{bits_of_mask}
use Rattle.om_isa.proofs.registers.reads.Goals as goal

pub returns-clause-bits : goal.returns-clause-bits
returns-clause-bits c r = ap (λ m. bit_at m r) c.mask_read.ensures ∙ bits_of_mask (regs_read c.args.i.now) r
