use Rattle.std.proofs.Common.{◌∙◌, ap, ℕ}
use Rattle.om_value.specs.declared.value.Region.TheVariants.{Heap}
use Rattle.om_value.specs.declared.value.Value.TheVariants.{Ptr}
use Rattle.om_prog.specs.Step.{answers}
use Rattle.om_symrun.specs.Memory.{heap_size}
use Rattle.om_symrun.specs.View.{View, state_of}
use Rattle.om_symrun.proofs.machine.SymRun.answer_heap_end.Goals as goal

pub returns-clause-state : goal.returns-clause-state
returns-clause-state c = λ input out err.
    c.answer.ensures.state input out err
    ∙ ap (λ (n : ℕ). answers (state_of c.args.self.now input out err) c.args.self.now.place (Ptr Heap n) 0) (c.heap_size-off.ensures ∙ ap (λ (x : View). heap_size x.memory) c.self.view_is)
