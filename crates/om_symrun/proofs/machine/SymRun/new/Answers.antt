use Rattle.std.proofs.Common.{ℕ, ◌∙◌, None, ap, refl}
use Rattle.om_value.specs.declared.value.Place.{Place}
use Rattle.om_value.specs.declared.value.Region.TheVariants.{Stack}
use Rattle.om_value.specs.declared.value.Value.TheVariants.{Num, Ptr, Code, Gp}
use Rattle.om_prog.specs.Runs.{start_offset}
use Rattle.om_prog.specs.Step.{write_reg}
use Rattle.om_symrun.specs.View.{View}
use Rattle.om_symrun.proofs.First.{started}
use Rattle.om_symrun.proofs.machine.SymRun.new.Goals as goal

pub returns-clause-start : goal.returns-clause-start
returns-clause-start c = λ input.
    let v : View = record { program = c.args.p.now; registers = c.first_registers.result; place = c.entry-2.result; memory = c.in_ok-memory.memory; end = None } in
    started v c.args.p.now input
    (λ r. c.first_registers.ensures r ∙ ap (λ (q : Place). write_reg (write_reg (write_reg (λ (k : ℕ). Num 0) 27 (Code q)) 29 (Gp q.obj)) 30 (Ptr Stack start_offset) r) c.entry.ensures)
    c.entry-2.ensures c.in_ok-memory.ensures refl
