use Rattle.std.proofs.Common.{◌∙◌, ap}
use Rattle.om_image.specs.NumStep.{answers}
use Rattle.om_machine.proofs.machine.Machine.resize.Goals as goal

pub returns-clause-state : goal.returns-clause-state
returns-clause-state c = λ input out err.
    c.answer.ensures.state input out err ∙ ap (λ s. answers s 0 0) (c.set_heap.ensures.state input out err)
