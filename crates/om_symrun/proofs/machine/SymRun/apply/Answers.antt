use Rattle.std.proofs.Common.{◌∙◌, ap, sym}
use Rattle.om_prog.specs.Cells.{cells_of}
use Rattle.om_prog.specs.Step.{after}
use Rattle.om_symrun.specs.Actions.{effect_in}
use Rattle.om_symrun.specs.CellsIn.{size_bytes}
use Rattle.om_symrun.specs.View.{state_of}
use Rattle.om_symrun.specs.declared.actions.Action.{Action}
use Rattle.om_symrun.proofs.States.{stored_next}
use Rattle.om_symrun.proofs.machine.SymRun.apply.Goals as goal

pub returns-in_default-clause-state : goal.returns-in_default-clause-state
returns-in_default-clause-state c = λ i o e.
    stored_next c.args.self.now c.store.new.self c.advance-in-Store.new.self i o e c.in-Store.region c.in-Store.at (cells_of (size_bytes c.in-Store.size) c.in-Store.v) (c.in_default.ensures.state i o e) c.in_default.ensures.rest c.advance-in-Store.ensures
    ∙ ap (λ (a : Action). after (state_of c.args.self.now i o e) c.args.self.now.place (effect_in a)) (sym c.in-Store.is)
