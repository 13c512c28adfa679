-- A program as contracts see it: words with what they stand for, regions with initial content, and an entry.
use Rattle.std.specs.Prelude.{ℕ, ◌/◌, ◌%◌, Bool, ◌==◌, if◌then◌else◌, List, [], Vec, map, length, Option, Some, None, is_some, find, slice_get, unwrap_or, option_and_then}
use Rattle.om_value.specs.declared.value.Place.{Place}
use Rattle.om_value.specs.declared.value.Region.{Region}
use Rattle.om_value.specs.declared.value.Region.TheVariants.{Stack}
use Rattle.om_value.specs.Same.{region_eq}
use Rattle.om_prog.specs.declared.item.Item.{Item}
use Rattle.om_prog.specs.declared.region.RegionInit.{RegionInit}

pub record ProgramView : Type 0 where
  -- the words of each object
  pub texts : List (List Item)
  pub regions : List RegionInit
  pub entry : Place

abbrev pub items_lists : {A : Type 0} → List (Vec Item A) → List (List Item)
items_lists vs = map (λ v. v.items) vs

-- the words of an object; none where there is no such object
abbrev pub text_of : ProgramView → ℕ → List Item
text_of p obj = unwrap_or (slice_get p.texts obj) []

abbrev pub word_count : ProgramView → ℕ → ℕ
word_count p obj = length (text_of p obj)

-- the word at a place of these texts, if it is one
abbrev pub item_in : List (List Item) → Place → Option Item
item_in texts at =
    if at.off % 4 == 0
    then option_and_then (λ text. slice_get text (at.off / 4)) (slice_get texts at.obj)
    else None

abbrev pub item_at : ProgramView → Place → Option Item
item_at p at = item_in p.texts at

abbrev pub is_word : ProgramView → Place → Bool
is_word p at = is_some (item_at p at)

-- a region's initial content, if the program has the region
abbrev pub init_of : ProgramView → Region → Option RegionInit
init_of p r = find (λ i. region_eq i.region r) p.regions

-- ---- sizes, in bytes

-- the stack's, which is this project's own
abbrev pub stack_size : ℕ
stack_size = 1048576

abbrev pub size_or_none : Option RegionInit → ℕ
size_or_none None = 0
size_or_none (Some i) = i.size

-- the size of a region other than the heap; a region that the program has not has none
abbrev pub size_of : ProgramView → Region → ℕ
size_of p Stack = stack_size
size_of p r = size_or_none (init_of p r)
