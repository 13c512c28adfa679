-- Totals over objects.
use Rattle.std.specs.Prelude.{ℕ, length}
use Rattle.om_object.specs.declared.parts.Parts.{Parts}
use Rattle.om_resolve.specs.declared.totals.Total.{Total}
use Rattle.om_resolve.specs.declared.totals.Total.TheVariants.{Text, Data, Symbols}
use Rattle.om_resolve.specs.Causes.{text_size, data_size}

-- how much an object adds to a total
abbrev pub amount : Total → Parts → ℕ
amount Text p = text_size p
amount Data p = data_size p
amount Symbols p = length p.symbols
