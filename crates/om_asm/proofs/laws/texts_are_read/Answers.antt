use Rattle.om_asm.proofs.Kept.{texts_read}
use Rattle.om_asm.proofs.laws.texts_are_read.Goals as goal

pub returns : goal.returns
returns c = texts_read
