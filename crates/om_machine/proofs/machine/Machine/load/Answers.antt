use Rattle.std.proofs.Common.{◌-◌, ◌∙◌, ap, refl, None, nat_le, if◌then◌else◌, slice_index}
use Rattle.om_image.specs.Layout.{data_base}
use Rattle.om_machine.proofs.Starting.{started}
use Rattle.om_machine.proofs.machine.Machine.load.Goals as goal

pub returns-clause-start : goal.returns-clause-start
returns-clause-start c = λ input.
    started (record { registers = c.first_registers.result; pc = c.args.i.now.entry; code = c.in_ok-code.code.items; memory = c.in_ok-memory.memory; end = None }) c.args.i.now input c.first_registers.ensures refl
    (λ a. c.in_ok-memory.ensures.places a ∙ ap (λ bytes. if nat_le data_base a then slice_index bytes (a - data_base) else 0) c.as_slice-2.ensures)
    c.in_ok-memory.ensures.heap refl
