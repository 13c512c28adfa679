-- How much the program of objects against which there is no cause has in all.
use Rattle.std.proofs.Common.{◌≡◌, ℕ, zero, suc, ◌+◌, ◌-◌, ◌*◌, ◌/◌, ◌<◌, ◌≤◌, Bool, true, false, cond, nat_lt, bytes_eq, List, [], ◌∷◌, ◌++◌, length, fold, map, Option, Some, None, refl, ap, ◌∙◌, arith, slice_index_or}
use Rattle.std.specs.Prelude.{sum, sum_by, option_map}
use Rattle.std.specs.Option.{option_to_list}
use Rattle.std.proofs.lemmas.Bool.Decides.{nat_tests}
use Rattle.std.proofs.lemmas.List.{length-append, length-map}
use Rattle.std.proofs.lemmas.List.Sums.{sum_by-cons, sum_by-append, sum-map}
use Rattle.om_fields.specs.Places.{any_of, each, joined, joined_from}
use Rattle.om_fields.proofs.Each.{each_from-length}
use Rattle.om_object.specs.declared.parts.Section.{Section}
use Rattle.om_object.specs.declared.parts.Parts.{Parts}
use Rattle.om_object.specs.Words.{section_of}
use Rattle.om_prog.specs.declared.item.Item.{Item}
use Rattle.om_prog.specs.declared.region.RegionInit.{RegionInit}
use Rattle.om_prog.specs.View.{ProgramView}
use Rattle.om_resolve.specs.declared.causes.ResolveErr.{ResolveErr}
use Rattle.om_resolve.specs.declared.causes.ResolveErr.TheVariants.{Unresolved, Limit}
use Rattle.om_resolve.specs.declared.causes.Which.{Which}
use Rattle.om_resolve.specs.declared.causes.Which.TheVariants.{Objects, Text, ObjText, Data, Symbols}
use Rattle.om_resolve.specs.declared.definition.Definition.{Definition}
use Rattle.om_resolve.specs.declared.definition.Definition.TheVariants.{Missing, Absolute, InSection, AsCommon}
use Rattle.om_resolve.specs.declared.finding.Scan.TheVariants.{Names, Targets, Reach}
use Rattle.om_resolve.specs.Names.{Name, object_at, no_parts, start_name, with_name, symbol_names, names_of, defining, definition_of, definition_at}
use Rattle.om_resolve.specs.Targets.{rounded, section_size, common_size}
use Rattle.om_resolve.specs.Causes.{size_of_text, text_size, text_words, region_numbers, data_size, is_in_text, first_object, duplicate, no_start, scanned, over, many_objects, long_text, long_object, commons_size, much_data, many_symbols, name_causes, limit_causes, first_cause}
use Rattle.om_resolve.specs.Program.{common_region, item_of, items_of, text_of, region_of, region_at, regions_of, common_at, program_of}
use Rattle.om_resolve.proofs.Steps.{get_here}
use Rattle.om_resolve.proofs.Naming.{start_first}
use Rattle.om_resolve.proofs.Meanings.{definition_at_name}
use Rattle.om_resolve.proofs.ProgramEntry.{none_first, none_at}
use Rattle.om_resolve.proofs.Sums.{each_sum, joined_sum, joined_length, total_is, total_most}

-- ---- the causes that do not apply

not_over : (which : Which) (limit total : ℕ) → over which limit total ≡ None → total ≤ limit
not_over which limit total h = by_test (nat_lt limit total) refl h
  where
    by_test : (b : Bool) → nat_lt limit total ≡ b → cond b (Some (Limit which total)) None ≡ None → total ≤ limit
    by_test true e h = cc
    by_test false e h = grind (arith, nat_tests)

module _ (objects : List Parts) (uncaused : first_cause objects ≡ None) where
  pub causes : (name_causes objects ≡ None) × (limit_causes objects ≡ None) × (scanned objects Reach ≡ None)
  unfolding first_cause
  causes =
      let a = none_first (λ (o : Option ResolveErr). o) (name_causes objects) (limit_causes objects ∷ scanned objects Reach ∷ []) uncaused in
      let b = none_first (λ (o : Option ResolveErr). o) (limit_causes objects) (scanned objects Reach ∷ []) a.1 in
      let c = none_first (λ (o : Option ResolveErr). o) (scanned objects Reach) [] b.1 in
      (a.0, b.0, c.0)

  started : no_start objects ≡ None
  unfolding name_causes
  started =
      let a = none_first (λ (o : Option ResolveErr). o) (duplicate objects) (no_start objects ∷ scanned objects Names ∷ scanned objects Targets ∷ []) causes.0 in
      (none_first (λ (o : Option ResolveErr). o) (no_start objects) (scanned objects Names ∷ scanned objects Targets ∷ []) a.1).0

  limits : (many_objects objects ≡ None) × (long_text objects ≡ None) × (long_object objects ≡ None) × (much_data objects ≡ None) × (many_symbols objects ≡ None)
  unfolding limit_causes
  limits =
      let a = none_first (λ (o : Option ResolveErr). o) (many_objects objects) (long_text objects ∷ long_object objects ∷ much_data objects ∷ many_symbols objects ∷ []) causes.1 in
      let b = none_first (λ (o : Option ResolveErr). o) (long_text objects) (long_object objects ∷ much_data objects ∷ many_symbols objects ∷ []) a.1 in
      let c = none_first (λ (o : Option ResolveErr). o) (long_object objects) (much_data objects ∷ many_symbols objects ∷ []) b.1 in
      let d = none_first (λ (o : Option ResolveErr). o) (much_data objects) (many_symbols objects ∷ []) c.1 in
      let e = none_first (λ (o : Option ResolveErr). o) (many_symbols objects) [] d.1 in
      (a.0, b.0, c.0, d.0, e.0)

  few_objects : length objects ≤ 256
  unfolding many_objects
  few_objects = not_over Objects 256 (length objects) limits.0

  short_text : sum_by text_size objects ≤ 16777216
  unfolding long_text
  short_text = not_over Text 16777216 (sum_by text_size objects) limits.1

  pub short_object : (obj : ℕ) → obj < length objects → text_size (object_at objects obj) ≤ 4194304
  unfolding long_object
  short_object obj h = not_over ObjText 4194304 (text_size (object_at objects obj)) (none_at (λ p. over ObjText 4194304 (text_size p)) objects obj no_parts limits.2 h)

  little_data : sum_by data_size objects + commons_size objects ≤ 33554432
  unfolding much_data
  little_data = not_over Data 33554432 (sum_by data_size objects + commons_size objects) limits.3

  few_symbols : sum_by (λ (p : Parts). length p.symbols) objects ≤ 1000000
  unfolding many_symbols
  few_symbols = not_over Symbols 1000000 (sum_by (λ (p : Parts). length p.symbols) objects) limits.4

  start_in_text : is_in_text (definition_of objects start_name) ≡ true
  unfolding no_start
  start_in_text = by_test (is_in_text (definition_of objects start_name)) refl started
    where
      by_test : (b : Bool) → is_in_text (definition_of objects start_name) ≡ b → cond b None (Some (Unresolved start_name (first_object (defining objects start_name)))) ≡ None → is_in_text (definition_of objects start_name) ≡ true
      by_test true e h = e
      by_test false e h = cc

-- ---- texts

module _ (objects : List Parts) where
  count_of : (obj : ℕ) (o : Option Section) → length (items_of objects obj o) ≡ size_of_text o / 4
  count_of obj None = refl
  count_of obj (Some s) = each_from-length (item_of objects obj s) 0 (s.size / 4)

  pub text_count : (obj : ℕ) → length (text_of objects obj) ≡ text_words (object_at objects obj)
  unfolding text_of
  text_count obj = count_of obj (section_of (object_at objects obj) 1)

  same_index : (obj : ℕ) → 0 + obj ≡ obj
  same_index obj = omega arith

  pub words_are : sum (map (λ text. length text) (program_of objects).texts) ≡ sum_by text_words objects
  unfolding program_of
  words_are =
      sum-map (λ (text : List Item). length text) (each (text_of objects) (length objects))
      ∙ each_sum (λ (text : List Item). length text) (text_of objects) 0 (length objects)
      ∙ total_is text_words no_parts objects (λ j. length (text_of objects j)) 0
      (λ j below. ap (λ i. length (text_of objects i)) (same_index j) ∙ text_count j)

words_fit : (os : List Parts) → 4 * sum_by text_words os ≤ sum_by text_size os
words_fit [] = omega arith
words_fit (o ∷ os) =
    let a = sum_by-cons text_words o os in
    let b = sum_by-cons text_size o os in
    let r = words_fit os in
    omega (arith, a, b, r)

-- ---- regions

abbrev size_in : RegionInit → ℕ
size_in r = r.size

-- the names are at most one more than the symbols
with_length : (b : Bool) (ns : List Name) (n : Name) → length (cond b ns (ns ++ n ∷ [])) ≤ length ns + 1
with_length true ns n = omega arith
with_length false ns n = let a = length-append ns (n ∷ []) in omega (arith, a)

folded_length : (ns xs : List Name) → length (fold with_name ns xs) ≤ length ns + length xs
folded_length ns [] = omega arith
folded_length ns (x ∷ xs) =
    let a = folded_length (with_name ns x) xs in
    let b = with_length (any_of (bytes_eq x) ns) ns x in
    omega (arith, a, b)

module _ (objects : List Parts) where
  given_size : (obj n : ℕ) (o : Option Section) → sum_by size_in (option_to_list (option_map (region_of objects obj n) o)) ≡ rounded o
  given_size obj n None = refl
  given_size obj n (Some s) = omega arith

  given_length : (obj n : ℕ) (o : Option Section) → length (option_to_list (option_map (region_of objects obj n) o)) ≤ 1
  given_length obj n None = omega arith
  given_length obj n (Some s) = omega arith

  region_size : (obj n : ℕ) → sum_by size_in (region_at objects obj n) ≡ section_size (object_at objects obj) n
  unfolding region_at
  region_size obj n = given_size obj n (section_of (object_at objects obj) n)

  region_length : (obj n : ℕ) → length (region_at objects obj n) ≤ 1
  unfolding region_at
  region_length obj n = given_length obj n (section_of (object_at objects obj) n)

  object_size : (obj : ℕ) → sum_by size_in (regions_of objects obj) ≡ data_size (object_at objects obj)
  unfolding regions_of
  object_size obj =
      joined_sum size_in (λ k. region_at objects obj (slice_index_or region_numbers k 0)) 0 8
      ∙ total_is (section_size (object_at objects obj)) 0 region_numbers (λ k. sum_by size_in (region_at objects obj (slice_index_or region_numbers k 0))) 0
      (λ j below. region_size obj (slice_index_or region_numbers (0 + j) 0) ∙ ap (λ i. section_size (object_at objects obj) (slice_index_or region_numbers i 0)) (same_index objects j))

  object_length : (obj : ℕ) → length (regions_of objects obj) ≤ 8
  unfolding regions_of
  object_length obj =
      let a = joined_length (λ k. region_at objects obj (slice_index_or region_numbers k 0)) 0 8 in
      let b = total_most (λ k. length (region_at objects obj (slice_index_or region_numbers k 0))) 1 0 8 (λ k. region_length obj (slice_index_or region_numbers k 0)) in
      omega (arith, a, b)

  sections_size : sum_by size_in (joined (regions_of objects) (length objects)) ≡ sum_by data_size objects
  sections_size =
      joined_sum size_in (regions_of objects) 0 (length objects)
      ∙ total_is data_size no_parts objects (λ j. sum_by size_in (regions_of objects j)) 0
      (λ j below. object_size (0 + j) ∙ ap (λ i. data_size (object_at objects i)) (same_index objects j))

  sections_length : length (joined (regions_of objects) (length objects)) ≤ 8 * length objects
  sections_length =
      let a = joined_length (regions_of objects) 0 (length objects) in
      let b = total_most (λ j. length (regions_of objects j)) 8 0 (length objects) object_length in
      omega (arith, a, b)

  -- ---- commons

  common_weight : (d : Definition) → sum_by size_in (common_region d) ≡ common_size d
  common_weight (AsCommon k size) = omega arith
  common_weight Missing = refl
  common_weight (Absolute v) = refl
  common_weight (InSection obj n off) = refl

  common_few : (d : Definition) → length (common_region d) ≤ 1
  common_few (AsCommon k size) = omega arith
  common_few Missing = omega arith
  common_few (Absolute v) = omega arith
  common_few (InSection obj n off) = omega arith

  common_none : (d : Definition) → is_in_text d ≡ true → length (common_region d) ≡ 0
  common_none (AsCommon k size) h = cc
  common_none Missing h = cc
  common_none (Absolute v) h = cc
  common_none (InSection obj n off) h = refl

  commons_are : sum_by size_in (joined (common_at objects) (length (names_of objects))) ≡ commons_size objects
  commons_are =
      joined_sum size_in (common_at objects) 0 (length (names_of objects))
      ∙ total_is (λ n. common_size (definition_of objects n)) [] (names_of objects) (λ k. sum_by size_in (common_at objects k)) 0
      (λ j below. common_weight (definition_at objects (0 + j))
      ∙ ap (λ i. common_size (definition_at objects i)) (same_index objects j)
      ∙ ap common_size (definition_at_name objects j (slice_index_or (names_of objects) j []) (get_here (names_of objects) j [] below)))

  names_few : length (names_of objects) ≤ 1 + sum_by (λ (p : Parts). length p.symbols) objects
  unfolding names_of
  names_few =
      let a = folded_length (start_name ∷ []) (joined (λ i. symbol_names (object_at objects i)) (length objects)) in
      let b = joined_length (λ i. symbol_names (object_at objects i)) 0 (length objects) in
      let c =
      total_is (λ (p : Parts). length p.symbols) no_parts objects (λ i. length (symbol_names (object_at objects i))) 0
      (λ j below. length-map (object_at objects (0 + j)).symbols (λ y. y.name) ∙ ap (λ i. length (object_at objects i).symbols) (same_index objects j)) in
      omega (arith, a, b, c)

  module _ (started : is_in_text (definition_of objects start_name) ≡ true) where
    first_none : length (common_at objects 0) ≡ 0
    first_none = common_none (definition_at objects 0) (ap is_in_text (definition_at_name objects 0 start_name (start_first objects)) ∙ started)

    commons_by : (count : ℕ) → length (joined (common_at objects) count) ≤ count - 1
    commons_by zero = omega arith
    commons_by (suc count) =
        let a = length-append (common_at objects 0) (joined_from (common_at objects) (0 + 1) count) in
        let b = joined_length (common_at objects) (0 + 1) count in
        let c = total_most (λ k. length (common_at objects k)) 1 (0 + 1) count (λ k. common_few (definition_at objects k)) in
        let d = first_none in
        omega (arith, a, b, c, d)

-- ---- the limits

pub record IsFew (p : ProgramView) : Type 0 where
  pub texts : length p.texts ≤ 256
  pub words : sum (map (λ text. length text) p.texts) ≤ 4194304
  pub sizes : sum_by (λ r. r.size) p.regions ≤ 33554432
  pub regions : length p.regions ≤ 1002048

module _ (objects : List Parts) (uncaused : first_cause objects ≡ None) where
  sizes_are : sum_by size_in (program_of objects).regions ≡ sum_by data_size objects + commons_size objects
  unfolding program_of
  sizes_are =
      sum_by-append size_in (joined (regions_of objects) (length objects)) (joined (common_at objects) (length (names_of objects)))
      ∙ ap (λ s. s + sum_by size_in (joined (common_at objects) (length (names_of objects)))) (sections_size objects)
      ∙ ap (λ s. sum_by data_size objects + s) (commons_are objects)

  regions_few : length (program_of objects).regions ≤ 1002048
  unfolding program_of
  regions_few =
      let a = length-append (joined (regions_of objects) (length objects)) (joined (common_at objects) (length (names_of objects))) in
      let b = sections_length objects in
      let c = commons_by objects (start_in_text objects uncaused) (length (names_of objects)) in
      let d = names_few objects in
      let e = few_symbols objects uncaused in
      let f = few_objects objects uncaused in
      omega (arith, a, b, c, d, e, f)

  texts_count : length (program_of objects).texts ≡ length objects
  unfolding program_of
  texts_count = each_from-length (text_of objects) 0 (length objects)

  pub few : IsFew (program_of objects)
  few = record {
    texts = let a = texts_count in let b = few_objects objects uncaused in omega (arith, a, b);
    words = let a = words_are objects in let b = words_fit objects in let c = short_text objects uncaused in omega (arith, a, b, c);
    sizes = let a = sizes_are in let b = little_data objects uncaused in omega (arith, a, b);
    regions = regions_few;
  }
