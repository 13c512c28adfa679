-- Names in the order in which they are first seen, and what defines them. Which symbols define, are commons or refer follows
-- the storage classes of the ECOFF object format (symconst.h); that a name has at most one definition, and that the largest
-- common stands where there is none, is the rule of Unix linkers. `__start` as the entry is this project's own.
use Rattle.std.specs.Prelude.{ℕ, max, Bool, true, false, if◌then◌else◌, List, [], ◌∷◌, ◌++◌, length, map, filter, fold, codes, bytes_eq, Option, Some, None, unwrap_or, slice_get, slice_index_or}
use Rattle.std.specs.List.{position_or_len}
use Rattle.om_fields.specs.Places.{any_of, joined, minus_64}
use Rattle.om_symtab.specs.declared.symbol.ExtSym.{ExtSym}
use Rattle.om_symtab.specs.Classes.{section_of_class, is_common, is_defining}
use Rattle.om_object.specs.declared.parts.Section.{Section}
use Rattle.om_object.specs.declared.parts.Parts.{Parts}
use Rattle.om_object.specs.Words.{section_of}
use Rattle.om_resolve.specs.declared.definition.Definition.{Definition}
use Rattle.om_resolve.specs.declared.definition.Definition.TheVariants.{Missing, Absolute, InSection, AsCommon}

abbrev pub Name : Type 0
Name = List ℕ

-- where a program starts
abbrev pub start_name : Name
start_name = codes "__start"

abbrev pub no_parts : Parts
no_parts = record { gp = 0; sections = []; symbols = [] }

-- the object of a number
abbrev pub object_at : List Parts → ℕ → Parts
object_at objects i = slice_index_or objects i no_parts

-- ---- first-seen order

-- a name goes behind those that are known, where it is new
abbrev pub with_name : List Name → Name → List Name
with_name names n = if any_of (bytes_eq n) names then names else names ++ n ∷ []

abbrev pub symbol_names : Parts → List Name
symbol_names p = map (λ y. y.name) p.symbols

-- `__start`, then the names of all symbols, object by object
unfoldable pub names_of : List Parts → List Name
names_of objects = fold with_name (start_name ∷ []) (joined (λ i. symbol_names (object_at objects i)) (length objects))

-- a name's number: its place in that order
abbrev pub number_in : List Name → Name → ℕ
number_in names n = position_or_len (bytes_eq n) names

unfoldable pub number_of : List Parts → Name → ℕ
number_of objects n = number_in (names_of objects) n

-- ---- what the symbols of a name say

-- a symbol with the number of its object
pub record Seen : Type 0 where
  pub obj : ℕ
  pub symbol : ExtSym

abbrev pub seen_in : ℕ → Parts → List Seen
seen_in i p = map (λ y. record { obj = i; symbol = y }) p.symbols

-- the symbols of all objects, in their order
unfoldable pub symbols_seen : List Parts → List Seen
symbols_seen objects = joined (λ i. seen_in i (object_at objects i)) (length objects)

abbrev pub is_named : Name → Seen → Bool
is_named n s = bytes_eq s.symbol.name n

abbrev pub defines : Seen → Bool
defines s = is_defining s.symbol.class

abbrev pub asks_common : Seen → Bool
asks_common s = is_common s.symbol.class

-- the symbols of a name that define it
abbrev pub defining : List Parts → Name → List Seen
defining objects n = filter defines (filter (is_named n) (symbols_seen objects))

-- the sizes that its commons want
abbrev pub common_sizes : List Parts → Name → List ℕ
common_sizes objects n = map (λ s. s.symbol.value) (filter asks_common (filter (is_named n) (symbols_seen objects)))

-- the greatest of some numbers, if there are any
abbrev pub greatest : List ℕ → Option ℕ
greatest [] = None
greatest (x ∷ xs) = Some (max x (unwrap_or (greatest xs) 0))

abbrev pub offset_in : Option Section → ℕ → ℕ
offset_in None address = address
offset_in (Some s) address = minus_64 address s.addr

abbrev pub placed_by : List Parts → Seen → Option ℕ → Definition
placed_by objects s None = Absolute s.symbol.value
placed_by objects s (Some n) = InSection s.obj n (offset_in (section_of (object_at objects s.obj) n) s.symbol.value)

-- what a defining symbol defines: an address in the section of its class, or a number
abbrev pub defined_by : List Parts → Seen → Definition
defined_by objects s = placed_by objects s (section_of_class s.symbol.class)

abbrev pub by_symbols : List Parts → ℕ → List Seen → Option ℕ → Definition
by_symbols objects k (s ∷ ss) common = defined_by objects s
by_symbols objects k [] (Some size) = AsCommon k size
by_symbols objects k [] None = Missing

-- a name's definition: the symbol that defines it, or else a common as large as the largest
unfoldable pub definition_of : List Parts → Name → Definition
definition_of objects n = by_symbols objects (number_of objects n) (defining objects n) (greatest (common_sizes objects n))

abbrev pub definition_by_name : List Parts → Option Name → Definition
definition_by_name objects None = Missing
definition_by_name objects (Some n) = definition_of objects n

-- what the name of a number stands for
unfoldable pub definition_at : List Parts → ℕ → Definition
definition_at objects k = definition_by_name objects (slice_get (names_of objects) k)

abbrev pub meaning_by : List Parts → Option ExtSym → Definition
meaning_by objects None = Missing
meaning_by objects (Some y) = definition_of objects y.name

-- what the symbol of a number of an object stands for
unfoldable pub meaning_of : List Parts → ℕ → ℕ → Definition
meaning_of objects obj index = meaning_by objects (slice_get (object_at objects obj).symbols index)

abbrev pub is_missing : Definition → Bool
is_missing Missing = true
is_missing _ = false
