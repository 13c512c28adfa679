-- Places of spots, section by section.
use Rattle.std.proofs.Common.{◌≡◌, ℕ, zero, suc, ◌+◌, ◌*◌, ◌/◌, ◌^◌, ◌<◌, ◌==◌, ◌&&◌, Bool, true, false, List, [], ◌∷◌, length, refl, ap, sym, ◌∙◌, arith}
use Rattle.std.specs.Prelude.{Option, Some, None, option_map, is_some}
use Rattle.om_fields.specs.Places.{least, lesser, lesser_of, picked, joined, joined_from}
use Rattle.om_fields.proofs.Picked.{Rises, least-placed, first-picked}
use Rattle.om_fields.proofs.Joined.{map-picked, map-joined, least-joined, none-joined}
use Rattle.om_object.specs.declared.rules.Pass.{Pass}
use Rattle.om_object.specs.declared.rules.Pass.TheVariants.{Entry, Unled, Shared, Unreadable, Astray}
use Rattle.om_symtab.specs.declared.symbol.ExtSym.{ExtSym}
use Rattle.om_object.specs.declared.parts.Section.{Section}
use Rattle.om_object.specs.declared.parts.Parts.{Parts}
use Rattle.om_object.specs.declared.origin.Origin.{Origin}
use Rattle.om_object.specs.declared.origin.Origins.{Origins}
use Rattle.om_object.specs.Rules.{Spot, AtReloc, AtWord, AtSection, AtSymbol, section_at, symbol_at, breaks_at, is_unled, is_shared, is_unreadable, is_astray, entries_where, words_where, sections_where, symbols_where, is_found}
use Rattle.om_object.specs.Spots.{origin_at, place_of, places_of}
use Rattle.om_object.specs.Passes.{entry_place, word_place, symbol_place, item_place, item_count, test_of, indices_of, section_places, spots_of, FitsAt, IsPlaced}

pub entries-rise : (origin : Origin) → Rises (entry_place origin)
entries-rise origin i j h = omega arith

pub words-rise : (origin : Origin) → Rises (word_place origin)
words-rise origin i j h = omega arith

pub symbols-rise : (o : Origins) → Rises (symbol_place o)
symbols-rise o i j h = omega arith

pub items-rise : (pass : Pass) (origin : Origin) → Rises (item_place pass origin)
items-rise (Entry rule) origin = entries-rise origin
items-rise Unled origin = entries-rise origin
items-rise Shared origin = entries-rise origin
items-rise Unreadable origin = words-rise origin
items-rise Astray origin = words-rise origin

item_fits : (pass : Pass) (s : Section) (origin : Origin) (i : ℕ) → FitsAt s origin → i < item_count pass s → item_place pass origin i < 2 ^ 64
item_fits (Entry rule) s origin i fits h = let f = fits.relocs in omega (arith, f, h)
item_fits Unled s origin i fits h = let f = fits.relocs in omega (arith, f, h)
item_fits Shared s origin i fits h = let f = fits.relocs in omega (arith, f, h)
item_fits Unreadable s origin i fits h = let f = fits.words in omega (arith, f, h)
item_fits Astray s origin i fits h = let f = fits.words in omega (arith, f, h)

joined-same : (f g : ℕ → List ℕ) → ((a : ℕ) → f a ≡ g a) → (k n : ℕ) → joined_from f k n ≡ joined_from g k n
joined-same f g e k zero = refl
joined-same f g e k (suc n) = rw (e k, joined-same f g e (k + 1) n) refl

module _ (p : Parts) (o : Origins) where
  entries-by : (test : Section → ℕ → Bool)
      → places_of o (entries_where p test) ≡ joined (λ a. picked (test (section_at p a)) (entry_place (origin_at o a)) (length (section_at p a).relocs)) (length p.sections)
  entries-by test =
      map-joined (place_of o) (λ a. picked (test (section_at p a)) (AtReloc a) (length (section_at p a).relocs)) 0 (length p.sections)
      ∙ joined-same _ (λ a. picked (test (section_at p a)) (entry_place (origin_at o a)) (length (section_at p a).relocs))
      (λ a. map-picked (place_of o) (test (section_at p a)) (AtReloc a) 0 (length (section_at p a).relocs)) 0 (length p.sections)

  words-by : (test : Section → ℕ → Bool)
      → places_of o (words_where p test) ≡ joined (λ a. picked (λ k. ((section_at p a).number == 1) && test (section_at p a) (4 * k)) (word_place (origin_at o a)) (length (section_at p a).bytes / 4)) (length p.sections)
  words-by test =
      map-joined (place_of o) (λ a. picked (λ k. ((section_at p a).number == 1) && test (section_at p a) (4 * k)) (λ k. AtWord a (4 * k)) (length (section_at p a).bytes / 4)) 0 (length p.sections)
      ∙ joined-same _ (λ a. picked (λ k. ((section_at p a).number == 1) && test (section_at p a) (4 * k)) (word_place (origin_at o a)) (length (section_at p a).bytes / 4))
      (λ a. map-picked (place_of o) (λ k. ((section_at p a).number == 1) && test (section_at p a) (4 * k)) (λ k. AtWord a (4 * k)) 0 (length (section_at p a).bytes / 4)) 0 (length p.sections)

  -- the places of one section
  abbrev pub places_in : Pass → ℕ → List ℕ
  places_in pass a = section_places p pass (section_at p a) (origin_at o a)

  pub places_by_section : (pass : Pass) → places_of o (spots_of p pass) ≡ joined (places_in pass) (length p.sections)
  places_by_section (Entry rule) = entries-by (breaks_at p rule)
  places_by_section Unled = entries-by is_unled
  places_by_section Shared = entries-by is_shared
  places_by_section Unreadable = words-by is_unreadable
  places_by_section Astray = words-by (is_astray p)

  -- the least place of a section is that of its least index
  pub section_least : (pass : Pass) (a : ℕ) → option_map (item_place pass (origin_at o a)) (least (indices_of p pass (section_at p a))) ≡ least (places_in pass a)
  section_least pass a = least-placed (test_of p pass (section_at p a)) (item_place pass (origin_at o a)) (item_count pass (section_at p a)) (items-rise pass (origin_at o a))

  -- the places of items fit in 64 bits
  pub index_fits : (pass : Pass) (a i : ℕ) → IsPlaced p o → a < length p.sections → least (indices_of p pass (section_at p a)) ≡ Some i → item_place pass (origin_at o a) i < 2 ^ 64
  index_fits pass a i placed h e =
      let below = (first-picked (test_of p pass (section_at p a)) (item_count pass (section_at p a)) i e).below in
      item_fits pass (section_at p a) (origin_at o a) i (placed.each a h) below

  pub section_heads : (test : Section → Bool) → places_of o (sections_where p test) ≡ picked (λ a. test (section_at p a)) (λ a. (origin_at o a).head) (length p.sections)
  section_heads test = map-picked (place_of o) (λ a. test (section_at p a)) AtSection 0 (length p.sections)

  pub symbol_places : (test : ExtSym → Bool) → places_of o (symbols_where p test) ≡ picked (λ j. test (symbol_at p j)) (symbol_place o) (length p.symbols)
  symbol_places test = map-picked (place_of o) (λ j. test (symbol_at p j)) AtSymbol 0 (length p.symbols)

-- ---- whether a pass finds anything, by places that stand for all spots

-- with no file there are no origins
abbrev pub no_origins : Origins
no_origins = record { sections = []; symbols = 0 }

pub found-by-places : (o : Origins) (spots : List Spot) → is_found spots ≡ is_some (least (places_of o spots))
found-by-places o [] = refl
found-by-places o (x ∷ xs) = some_lesser (place_of o x) (least (places_of o xs))
  where
    some_lesser : (x : ℕ) (o : Option ℕ) → true ≡ is_some (lesser x o)
    some_lesser x None = refl
    some_lesser x (Some y) = refl

none-mapped : (place : ℕ → ℕ) (o : Option ℕ) → option_map place o ≡ None → is_some o ≡ true → ⊥
none-mapped place None e h = cc
none-mapped place (Some i) e h = cc

module _ (p : Parts) (pass : Pass) where
  by-places : is_found (spots_of p pass) ≡ is_some (least (joined (places_in p no_origins pass) (length p.sections)))
  by-places = found-by-places no_origins (spots_of p pass) ∙ ap (λ (xs : List ℕ). is_some (least xs)) (places_by_section p no_origins pass)

  some-by : (o : Option ℕ) → least (joined (places_in p no_origins pass) (length p.sections)) ≡ o → (a : ℕ) → a < length p.sections
      → is_some (least (indices_of p pass (section_at p a))) ≡ true → is_some o ≡ true
  some-by (Some x) e a h found = refl
  some-by None e a h found =
      absurd (none-mapped (item_place pass (origin_at no_origins a)) (least (indices_of p pass (section_at p a)))
      (section_least p no_origins pass a ∙ none-joined (places_in p no_origins pass) (length p.sections) e a h) found)

  -- what is found in one section is found
  pub found-at : (a : ℕ) → a < length p.sections → is_some (least (indices_of p pass (section_at p a))) ≡ true → is_found (spots_of p pass) ≡ true
  found-at a h found = by-places ∙ some-by (least (joined (places_in p no_origins pass) (length p.sections))) refl a h found

  pub none-anywhere : least (joined (places_in p no_origins pass) (length p.sections)) ≡ None → is_found (spots_of p pass) ≡ false
  none-anywhere e = by-places ∙ ap (λ (o : Option ℕ). is_some o) e

  -- nothing is found in one more section
  pub none-further-in : (a : ℕ) → least (joined (places_in p no_origins pass) a) ≡ None → is_some (least (indices_of p pass (section_at p a))) ≡ false
      → least (joined (places_in p no_origins pass) (a + 1)) ≡ None
  none-further-in a e none =
      least-joined (places_in p no_origins pass) a ∙ ap (λ (o : Option ℕ). lesser_of o (least (places_in p no_origins pass a))) e
      ∙ sym (section_least p no_origins pass a) ∙ unmapped (item_place pass (origin_at no_origins a)) (least (indices_of p pass (section_at p a))) none
    where
      unmapped : (place : ℕ → ℕ) (o : Option ℕ) → is_some o ≡ false → option_map place o ≡ None
      unmapped place None h = refl
      unmapped place (Some i) h = cc
