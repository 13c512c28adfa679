-- What solvers find by number, as facts and masks of places: those of the kept block of the label.
use Rattle.std.specs.Prelude.{ℕ, ◌-◌, ◌^◌, Bool, true, ◌==◌, List, Option, Some, None, get_or}
use Rattle.std.specs.Int.{bit_at}
use Rattle.om_value.specs.declared.value.Place.{Place}
use Rattle.om_prog.specs.Facts as prog
use Rattle.om_flow.specs.declared.parts.Fact.{Fact}
use Rattle.om_flow.specs.declared.parts.Fact.TheVariants.{Any, Table, Unknown}
use Rattle.om_graph.specs.View.{GraphView, labelled}

abbrev pub seen : Fact → prog.Fact
seen Any = prog.Any
seen (Table t) = prog.Table t
seen Unknown = prog.Unknown

abbrev pub fact_under : List Fact → Option ℕ → prog.Fact
fact_under facts None = prog.Unknown
fact_under facts (Some id) = seen (get_or facts id Unknown)

-- where no kept block has the label, or nothing was found for it, nothing is known
abbrev pub facts_in : GraphView → List Fact → Place → prog.Fact
facts_in g facts q = fact_under facts (labelled g q)

-- bits 0 to 30
abbrev pub all_registers : ℕ
all_registers = 2 ^ 31 - 1

abbrev pub mask_under : List ℕ → Option ℕ → ℕ → Bool
mask_under masks None r = true
mask_under masks (Some id) r = bit_at (get_or masks id all_registers) r == 1

abbrev pub masks_in : GraphView → List ℕ → Place → ℕ → Bool
masks_in g masks q r = mask_under masks (labelled g q) r

-- what a walk leaves in r29
abbrev pub left_as : Option ℕ → prog.Fact
left_as None = prog.Unknown
left_as (Some t) = prog.Table t
