use Rattle.std.proofs.Common.{◌≡◌, ℕ, List, Option}
use Rattle.om_prog.specs.Script.{program_script}
use Rattle.om_prog.specs.Step.{SymState}
use Rattle.om_symrun.specs.Calls.{IsState}
use Rattle.om_symrun.specs.Steps.{sym_steps}
use Rattle.om_symrun.proofs.machine.SymRun.run.Given as goal

abbrev pub invariant-loop-turn : goal.invariant-loop-turn
invariant-loop-turn g l =
    (l.self.program ≡ l.initial.self.program)
    × (g.I.Source.faults l.input ≡ g.I.Source.faults l.initial.input)
    × (g.O.Sink.faults l.out ≡ g.O.Sink.faults l.initial.out)
    × (g.E.Sink.faults l.err ≡ g.E.Sink.faults l.initial.err)
    × ((s : SymState) (ot et : Option (List ℕ))
    → IsState l.initial.self (g.I.Source.left l.initial.input) (ot, g.O.Sink.written l.initial.out) (et, g.E.Sink.written l.initial.err) s
    → IsState l.self (g.I.Source.left l.input) (ot, g.O.Sink.written l.out) (et, g.E.Sink.written l.err) (sym_steps (program_script l.initial.self.program) s l.turn))
