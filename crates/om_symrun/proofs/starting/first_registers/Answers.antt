use Rattle.std.proofs.Common.{refl}
use Rattle.om_symrun.proofs.First.{no_registers}
use Rattle.om_symrun.proofs.starting.first_registers.Goals as goal

pub returns : goal.returns
returns c = λ r. rw (c.set_register-3.ensures r, c.set_register-2.ensures r, c.set_register.ensures r, no_registers r) refl
