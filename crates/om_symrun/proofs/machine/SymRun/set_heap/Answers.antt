use Rattle.om_symrun.specs.View.{View}
use Rattle.om_symrun.proofs.States.{resized_either, same_result, resized_result}
use Rattle.om_symrun.proofs.machine.SymRun.set_heap.Goals as goal

pub invariant_of-self : goal.invariant_of-self
invariant_of-self c =
    resized_either c.self.inside.program.now c.self.inside.memory c.resize_heap-resized.new.self c.args.size c.resize_heap-resized.result c.resize_heap-resized.ensures.resized c.resize_heap-resized.ensures.same c.self.invariant c.requires

pub returns-clause-state : goal.returns-clause-state
returns-clause-state c =
    let u : View = record { program = c.self.inside.program.now; registers = c.self.inside.registers; place = c.self.inside.place; memory = c.self.inside.memory; end = c.self.inside.end } in
    resized_result u c.args.self.now c.resize_heap-resized.new.self c.self.view_is c.args.size c.resize_heap-resized.result c.resize_heap-resized.ensures.resized

pub returns-clause-same : goal.returns-clause-same
returns-clause-same c =
    let u : View = record { program = c.self.inside.program.now; registers = c.self.inside.registers; place = c.self.inside.place; memory = c.self.inside.memory; end = c.self.inside.end } in
    same_result u c.args.self.now c.resize_heap-resized.new.self c.self.view_is c.resize_heap-resized.result c.resize_heap-resized.ensures.same
