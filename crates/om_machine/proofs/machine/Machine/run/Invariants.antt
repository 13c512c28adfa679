use Rattle.std.proofs.Common.{◌≡◌, ℕ, List, Option}
use Rattle.om_image.specs.declared.image.Image.{Image}
use Rattle.om_image.specs.NumState.{NumState}
use Rattle.om_image.specs.NumRun.{num_steps}
use Rattle.om_machine.specs.View.{HasImage}
use Rattle.om_machine.specs.Calls.{IsState}
use Rattle.om_machine.proofs.machine.Machine.run.Given as goal

abbrev pub invariant-loop-turn : goal.invariant-loop-turn
invariant-loop-turn g l =
    ((i : Image) → HasImage i l.initial.self → HasImage i l.self)
    × (g.I.Source.faults l.input ≡ g.I.Source.faults l.initial.input)
    × (g.O.Sink.faults l.out ≡ g.O.Sink.faults l.initial.out)
    × (g.E.Sink.faults l.err ≡ g.E.Sink.faults l.initial.err)
    × ((i : Image) (s : NumState) (ot et : Option (List ℕ)) → HasImage i l.initial.self
    → IsState l.initial.self (g.I.Source.left l.initial.input) (ot, g.O.Sink.written l.initial.out) (et, g.E.Sink.written l.initial.err) s
    → IsState l.self (g.I.Source.left l.input) (ot, g.O.Sink.written l.out) (et, g.E.Sink.written l.err) (num_steps i s l.turn))
