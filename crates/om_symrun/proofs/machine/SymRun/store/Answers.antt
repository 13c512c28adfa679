use Rattle.om_prog.specs.Cells.{cells_of}
use Rattle.om_symrun.specs.CellsIn.{size_bytes}
use Rattle.om_symrun.specs.View.{View}
use Rattle.om_symrun.proofs.States.{kept_either, same_result, written_result}
use Rattle.om_symrun.proofs.machine.SymRun.store.Goals as goal

pub invariant_of-self : goal.invariant_of-self
invariant_of-self c =
    kept_either c.self.inside.program.now c.self.inside.memory c.store-stored.new.self c.args.region c.args.at (cells_of (size_bytes c.args.size) c.args.v) c.store-stored.result c.store-stored.ensures.writes c.store-stored.ensures.same c.self.invariant

pub returns-clause-state : goal.returns-clause-state
returns-clause-state c =
    let u : View = record { program = c.self.inside.program.now; registers = c.self.inside.registers; place = c.self.inside.place; memory = c.self.inside.memory; end = c.self.inside.end } in
    written_result u c.args.self.now c.store-stored.new.self c.self.view_is c.args.region c.args.at (cells_of (size_bytes c.args.size) c.args.v) c.store-stored.result c.store-stored.ensures.writes

pub returns-clause-same : goal.returns-clause-same
returns-clause-same c =
    let u : View = record { program = c.self.inside.program.now; registers = c.self.inside.registers; place = c.self.inside.place; memory = c.self.inside.memory; end = c.self.inside.end } in
    same_result u c.args.self.now c.store-stored.new.self c.self.view_is c.store-stored.result c.store-stored.ensures.same
