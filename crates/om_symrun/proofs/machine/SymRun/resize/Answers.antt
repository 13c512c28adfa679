use Rattle.om_symrun.proofs.States.{resized_next}
use Rattle.om_symrun.proofs.machine.SymRun.resize.Goals as goal

pub returns-clause-state : goal.returns-clause-state
returns-clause-state c = λ i o e.
    resized_next c.args.self.now c.set_heap.new.self c.answer.new.self i o e c.args.size (c.in_default.ensures.state i o e) c.in_default.ensures.rest (c.answer.ensures.state i o e)
