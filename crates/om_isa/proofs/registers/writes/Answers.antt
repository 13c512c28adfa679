use Rattle.std.proofs.Common.{ap, ◌∙◌}
use Rattle.std.specs.Int.{bit_at}
use Rattle.om_isa.specs.Registers.{regs_written}
use Rattle.om_isa.proofs.Masks.{bits_of_mask}
use Rattle.om_isa.proofs.registers.writes.Goals as goal

pub returns-clause-bits : goal.returns-clause-bits
returns-clause-bits c r = ap (λ m. bit_at m r) c.mask_written.ensures ∙ bits_of_mask (regs_written c.args.i.now) r
