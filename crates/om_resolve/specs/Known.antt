-- What the symbols of a name say, taken in one after the other.
use Rattle.std.specs.Prelude.{ℕ, max, nat_lt, if◌then◌else◌, List, length, Option, Some, None, is_none, slice_index_or, slice_set}
use Rattle.om_resolve.specs.declared.definition.Definition.{Definition}
use Rattle.om_resolve.specs.declared.definition.Definition.TheVariants.{Missing, AsCommon}
use Rattle.om_resolve.specs.declared.definition.Known.{Known}
use Rattle.om_object.specs.declared.parts.Parts.{Parts}
use Rattle.om_resolve.specs.Names.{Name, Seen, defines, asks_common, number_in, defined_by}

abbrev pub unknown : Known
unknown = record { first = None; second = None; defined = Missing; common = None }

abbrev pub grown : Option ℕ → ℕ → Option ℕ
grown None size = Some size
grown (Some x) size = Some (max x size)

abbrev pub note_defined : List Parts → Known → Seen → Known
note_defined objects known s =
    if is_none known.first
    then record known { first = Some s.obj; defined = defined_by objects s }
    else if is_none known.second then record known { second = Some s.obj } else known

-- what is known with one more symbol of the name
abbrev pub note : List Parts → Known → Seen → Known
note objects known s =
    if defines s
    then note_defined objects known s
    else if asks_common s then record known { common = grown known.common s.symbol.value } else known

abbrev pub definition_of_parts : ℕ → Option ℕ → Definition → Option ℕ → Definition
definition_of_parts k (Some obj) defined common = defined
definition_of_parts k None defined (Some size) = AsCommon k size
definition_of_parts k None defined None = Missing

-- what a name of a number stands for
abbrev pub definition_by : ℕ → Option Known → Definition
definition_by k None = Missing
definition_by k (Some known) = definition_of_parts k known.first known.defined known.common

abbrev pub noted_at : List Parts → List Known → ℕ → Seen → List Known
noted_at objects known k s =
    if nat_lt k (length known) then slice_set known k (note objects (slice_index_or known k unknown) s) else known

-- what is known of all names with one more symbol
abbrev pub noted : List Parts → List Name → List Known → Seen → List Known
noted objects names known s = noted_at objects known (number_in names s.symbol.name) s
