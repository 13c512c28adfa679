use Rattle.std.proofs.Common.{◌≡◌, ◌-◌, List, length, Some, ap, ◌∙◌, arith}
use Rattle.std.specs.Prelude.{slice_get}
use Rattle.om_value.specs.declared.value.Target.{Target}
use Rattle.om_layout.specs.Layout.{TableAt, data_base}
use Rattle.om_encode.proofs.Mapped.{last_table}
use Rattle.om_encode.proofs.filling.tables_end.Goals as goal

pub returns-in-Some : goal.returns-in-Some
returns-in-Some c =
    let tables = c.args.layout.now.tables in
    let at : Some c.in-Some.table.now ≡ slice_get tables (length tables - 1) =
    c.in-Some.ensures.value ∙ ap (λ (ts : List TableAt). slice_get ts (length ts - 1)) c.tables.ensures in
    let start = c.start.ensures.value in
    let slots = ap (λ (ts : List Target). length ts) c.slots.ensures.value in
    let last = last_table data_base tables c.in-Some.table.now c.requires.tables at in
    omega (arith, start, slots, last)
