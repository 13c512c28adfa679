use Rattle.std.proofs.Common.{take, Ok}
use Rattle.om_command.specs.Telling.{Adds, texts_of}
use Rattle.om_command.proofs.lines.put_line.Given as goal

abbrev pub invariant-loop-piece : goal.invariant-loop-piece
invariant-loop-piece g l =
    Adds {T = Unit {0}} {E = Unit {0}} (texts_of (take l.piece-index l.line)) (g.E.Sink.written l.initial.err) (g.E.Sink.faults l.initial.err)
    (g.E.Sink.written l.err) (g.E.Sink.faults l.err) (Ok tt)
