use Rattle.std.proofs.Common.{subst, sym}
use Rattle.om_asm.specs.Parsing.{ParsesInstr}
use Rattle.om_asm.proofs.Kept.{parsed}
use Rattle.om_asm.proofs.parsing.parse_instr.Goals as goal

pub returns : goal.returns
returns c = subst (ParsesInstr c.args.line.now) (sym c.answer.ensures) (parsed c.args.line.now c.read.result (sym c.read.ensures))
