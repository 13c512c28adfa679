use Rattle.std.proofs.Common.{List, ℕ, subst}
use Rattle.std.specs.Prelude.{codes, decimal}
use Rattle.om_io.specs.Digits.{hex}
use Rattle.om_io.specs.declared.causes.Failed.{Failed}
use Rattle.om_command.specs.Telling.{Adds}
use Rattle.om_command.proofs.Adding.{eight_parts}
use Rattle.om_command.proofs.no_program.put_far.Goals as goal

pub returns : goal.returns
returns g c =
    subst (λ (line : List ℕ). Adds {T = Unit {0}} {E = Failed} line (g.E.Sink.written c.args.err.now) (g.E.Sink.faults c.args.err.now)
    (g.E.Sink.written c.put_line.new.err) (g.E.Sink.faults c.put_line.new.err) c.put_line.result)
    (eight_parts (codes "limit reach ") c.args.file.now (codes " ") (hex 8 c.args.off) (codes " ") c.args.sign.now (decimal c.args.size) (codes "\n"))
    c.put_line.ensures
