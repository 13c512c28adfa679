-- Objects with their names, as the code keeps them.
use Rattle.std.specs.Prelude.{◌≡◌, ℕ, ◌<◌, ◌^◌, List, Vec, length, map, fold, filter, take, sum_by, Option, Some, None, option_and_then, unwrap_or, slice_get}
use Rattle.om_fields.specs.Places.{each}
use Rattle.std.proofs.Common.{Bor}
use Rattle.indexmap.specs.IndexSet.{IndexSet}
use Rattle.om_object.specs.declared.parts.Parts.{Parts}
use Rattle.om_resolve.specs.declared.definition.Definition.{Definition}
use Rattle.om_resolve.specs.declared.definition.Definition.TheVariants.{Missing}
use Rattle.om_resolve.specs.declared.definition.Known.{Known}
use Rattle.om_resolve.specs.declared.linked.Linked.{Linked}
use Rattle.om_resolve.specs.Names.{Name, is_named, names_of, number_of, symbols_seen}
use Rattle.om_resolve.specs.Known.{note, unknown, definition_by}
use Rattle.om_resolve.specs.Causes.{text_words}
use Rattle.om_resolve.specs.Laws.{AreObjects}

abbrev pub bytes_of : Bor (List ℕ) → List ℕ
bytes_of k = k.now

abbrev pub names_in : {S : Type 0} → IndexSet (Bor (List ℕ)) S → List (List ℕ)
names_in s = map bytes_of s.keys

abbrev pub lists_in : {X A : Type 0} → List (Vec X A) → List (List X)
lists_in vs = map (λ v. v.items) vs

-- what all symbols of a name say
abbrev pub known_of : List Parts → Name → Known
known_of objects n = fold (note objects) unknown (filter (is_named n) (symbols_seen objects))

-- the numbers of the names of an object's symbols
abbrev pub numbers_of : List Parts → Parts → List ℕ
numbers_of objects p = map (λ y. number_of objects y.name) p.symbols

-- how many words stand in the objects before one
abbrev pub words_before : List Parts → ℕ → ℕ
words_before objects i = sum_by text_words (take i objects)

abbrev pub number_at : Linked → ℕ → ℕ → Option ℕ
number_at l obj index = option_and_then (λ v. slice_get v.items index) (slice_get l.numbers.items obj)

abbrev pub known_at : Linked → ℕ → Option Known
known_at l k = slice_get l.known.items k

abbrev pub definer_by : Option Known → ℕ
definer_by None = 0
definer_by (Some known) = unwrap_or known.first 0

abbrev pub start_at : Linked → ℕ → ℕ
start_at l obj = unwrap_or (slice_get l.starts.items obj) l.words

abbrev pub meaning_by_number : Linked → Option ℕ → Definition
meaning_by_number l None = Missing
meaning_by_number l (Some k) = definition_by k (known_at l k)

abbrev pub meaning_at : Linked → ℕ → ℕ → Definition
meaning_at l obj index = meaning_by_number l (number_at l obj index)

-- the objects break no rule, and names, numbers and what is known are theirs
pub record IsLinked (l : Linked) : Type 0 where
  pub sound : AreObjects l.objects.now
  pub names : names_in l.names ≡ names_of l.objects.now
  pub numbers : lists_in l.numbers.items ≡ map (numbers_of l.objects.now) l.objects.now
  pub known : l.known.items ≡ map (known_of l.objects.now) (names_of l.objects.now)
  pub starts : l.starts.items ≡ each (words_before l.objects.now) (length l.objects.now)
  pub words : l.words ≡ sum_by text_words l.objects.now
  pub few : length l.objects.now < 2 ^ 32
  pub short : length l.known.items < 2 ^ 32
