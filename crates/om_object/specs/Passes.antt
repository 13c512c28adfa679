-- Passes over the parts of a file: where a rule is broken, section by section and symbol by symbol.
use Rattle.std.specs.Prelude.{◌≡◌, ℕ, ◌+◌, ◌*◌, ◌/◌, ◌^◌, ◌<◌, Bool, ◌&&◌, ◌==◌, List, length}
use Rattle.om_fields.specs.Places.{picked}
use Rattle.om_object.specs.declared.parts.Parts.{Parts}
use Rattle.om_object.specs.declared.parts.Section.{Section}
use Rattle.om_object.specs.declared.origin.Origin.{Origin}
use Rattle.om_object.specs.declared.origin.Origins.{Origins}
use Rattle.om_object.specs.declared.rules.Pass.{Pass}
use Rattle.om_object.specs.declared.rules.Pass.TheVariants.{Entry, Unled, Shared, Unreadable, Astray}
use Rattle.om_object.specs.Rules.{Spot, section_at, breaks_at, is_unled, is_shared, is_unreadable, is_astray, entries_where, words_where}
use Rattle.om_object.specs.Spots.{origin_at}

-- where a section's i-th relocation stands
abbrev pub entry_place : Origin → ℕ → ℕ
entry_place origin i = origin.relocs + 16 * i

-- where a section's k-th word stands
abbrev pub word_place : Origin → ℕ → ℕ
word_place origin k = origin.bytes + 4 * k

abbrev pub symbol_place : Origins → ℕ → ℕ
symbol_place o j = o.symbols + 24 * j

-- the test of a pass, at a section's i-th relocation or word
abbrev pub test_of : Parts → Pass → Section → ℕ → Bool
test_of p (Entry rule) s = breaks_at p rule s
test_of p Unled s = is_unled s
test_of p Shared s = is_shared s
test_of p Unreadable s = λ k. (s.number == 1) && is_unreadable s (4 * k)
test_of p Astray s = λ k. (s.number == 1) && is_astray p s (4 * k)

-- where the items of a pass stand, and how many there are
abbrev pub item_place : Pass → Origin → ℕ → ℕ
item_place (Entry rule) origin = entry_place origin
item_place Unled origin = entry_place origin
item_place Shared origin = entry_place origin
item_place Unreadable origin = word_place origin
item_place Astray origin = word_place origin

abbrev pub item_count : Pass → Section → ℕ
item_count (Entry rule) s = length s.relocs
item_count Unled s = length s.relocs
item_count Shared s = length s.relocs
item_count Unreadable s = length s.bytes / 4
item_count Astray s = length s.bytes / 4

-- the items of one section that a pass finds, by their indices, and where they stand
abbrev pub indices_of : Parts → Pass → Section → List ℕ
indices_of p pass s = picked (test_of p pass s) (λ i. i) (item_count pass s)

abbrev pub section_places : Parts → Pass → Section → Origin → List ℕ
section_places p pass s origin = picked (test_of p pass s) (item_place pass origin) (item_count pass s)

-- the spots of all sections
abbrev pub spots_of : Parts → Pass → List Spot
spots_of p (Entry rule) = entries_where p (breaks_at p rule)
spots_of p Unled = entries_where p is_unled
spots_of p Shared = entries_where p is_shared
spots_of p Unreadable = words_where p is_unreadable
spots_of p Astray = words_where p (is_astray p)

-- the places of a section fit in 64 bits
pub record FitsAt (s : Section) (origin : Origin) : Type 0 where
  pub relocs : origin.relocs + 16 * length s.relocs < 2 ^ 64
  pub words : origin.bytes + length s.bytes < 2 ^ 64

-- each section has an origin, and all places fit in 64 bits
pub record IsPlaced (p : Parts) (o : Origins) : Type 0 where
  pub sections : length o.sections ≡ length p.sections
  pub each : (a : ℕ) → a < length p.sections → FitsAt (section_at p a) (origin_at o a)
  pub symbols : o.symbols + 24 * length p.symbols < 2 ^ 64
