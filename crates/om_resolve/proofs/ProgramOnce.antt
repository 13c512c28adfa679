-- Each region of the program of objects stands once.
use Rattle.std.proofs.Common.{◌≡◌, inl, inr, ℕ, zero, suc, ◌<◌, Bool, true, false, ◌&&◌, ◌==◌, List, [], ◌∷◌, length, Option, Some, None, refl, ap, sym, ◌∙◌, arith, slice_index_or}
use Rattle.std.specs.Prelude.{option_map}
use Rattle.std.specs.Option.{option_to_list}
use Rattle.std.proofs.lemmas.Bool.Decides.{nat_tests}
use Rattle.om_fields.specs.Places.{joined}
use Rattle.om_object.specs.declared.parts.Section.{Section}
use Rattle.om_object.specs.declared.parts.Parts.{Parts}
use Rattle.om_object.specs.Words.{section_of}
use Rattle.om_value.specs.declared.value.Region.{Region}
use Rattle.om_value.specs.declared.value.Region.TheVariants.{Sec, Common}
use Rattle.om_value.specs.Same.{region_eq}
use Rattle.om_prog.specs.declared.region.RegionInit.{RegionInit}
use Rattle.om_prog.specs.Valid.{AreOnce}
use Rattle.om_resolve.specs.declared.definition.Definition.{Definition}
use Rattle.om_resolve.specs.declared.definition.Definition.TheVariants.{Missing, Absolute, InSection, AsCommon}
use Rattle.om_resolve.specs.Names.{object_at, names_of, definition_at}
use Rattle.om_resolve.specs.Causes.{region_numbers}
use Rattle.om_resolve.specs.Program.{region_of, region_at, regions_of, common_region, common_at, program_of}
use Rattle.om_resolve.proofs.Members.{In, in_joined, in_option}
use Rattle.om_resolve.proofs.Pairwise.{Pairwise, pairwise_at, pairwise_append, pairwise_joined}
use Rattle.om_resolve.proofs.ProgramNear.{common_number}

-- ---- the numbers of the sections that are regions rise

abbrev Rises : ℕ → List ℕ → Type 0
Rises low [] = Unit {0}
Rises low (x ∷ xs) = (low < x) × Rises x xs

above : (low : ℕ) (xs : List ℕ) (k : ℕ) → Rises low xs → k < length xs → low < slice_index_or xs k 0
above low [] k r h = absurd (omega arith)
above low (x ∷ xs) zero r h = r.0
above low (x ∷ xs) (suc k) r h = let z = above x xs k r.1 (omega arith) in omega (arith, r.0, z)

rising : (low : ℕ) (xs : List ℕ) (j k : ℕ) → Rises low xs → j < k → k < length xs → slice_index_or xs j 0 < slice_index_or xs k 0
rising low [] j k r b h = absurd (omega arith)
rising low (x ∷ xs) j zero r b h = absurd (omega arith)
rising low (x ∷ xs) zero (suc k) r b h = above x xs k r.1 (omega arith)
rising low (x ∷ xs) (suc j) (suc k) r b h = rising x xs j k r.1 (omega arith) (omega arith)

numbers_rise : Rises 0 region_numbers
numbers_rise = (omega arith, (omega arith, (omega arith, (omega arith, (omega arith, (omega arith, (omega arith, (omega arith, tt))))))))

-- ---- regions that differ

abbrev Differ : RegionInit → RegionInit → Type 0
Differ a b = region_eq a.region b.region ≡ false

sections_differ : (o p n m : ℕ) → ((o ≡ p) → n ≡ m → ⊥) → region_eq (Sec o n) (Sec p m) ≡ false
sections_differ o p n m h = by_test (o == p) (n == m) refl refl
  where
    by_test : (a b : Bool) → (o == p) ≡ a → (n == m) ≡ b → (a && b) ≡ false
    by_test false b e f = refl
    by_test true false e f = refl
    by_test true true e f =
        let x : o ≡ p = grind (arith, nat_tests) in
        let y : n ≡ m = grind (arith, nat_tests) in
        absurd (h x y)

commons_differ : (i j : ℕ) → i < j → region_eq (Common i) (Common j) ≡ false
commons_differ i j h = grind (arith, nat_tests)

by_regions : (a b : RegionInit) (r q : Region) → a.region ≡ r → b.region ≡ q → region_eq r q ≡ false → Differ a b
by_regions a b r q e f h = ap (λ x. region_eq x b.region) e ∙ ap (region_eq r) f ∙ h

module _ (objects : List Parts) where
  -- a region of a section of an object
  region_at_is : (obj n : ℕ) (i : RegionInit) → In (region_at objects obj n) i → i.region ≡ Sec obj n
  unfolding region_at
  region_at_is obj n i h =
      let s = in_option (region_of objects obj n) (section_of (object_at objects obj) n) i h in
      sym (ap (λ (j : RegionInit). j.region) s.2)

  regions_of_is : (obj : ℕ) (i : RegionInit) → In (regions_of objects obj) i → (n : ℕ) × (i.region ≡ Sec obj n)
  unfolding regions_of
  regions_of_is obj i h =
      let a = in_joined (λ k. region_at objects obj (slice_index_or region_numbers k 0)) (length region_numbers) i h in
      (slice_index_or region_numbers a.index 0, region_at_is obj (slice_index_or region_numbers a.index 0) i a.here)

  region_at_once : (obj n : ℕ) → Pairwise Differ (region_at objects obj n)
  unfolding region_at
  region_at_once obj n = by_section (section_of (object_at objects obj) n)
    where
      by_section : (o : Option Section) → Pairwise Differ (option_to_list (option_map (region_of objects obj n) o))
      by_section None = tt
      by_section (Some s) = (λ y h. absurd h, tt)

  object_once : (obj : ℕ) → Pairwise Differ (regions_of objects obj)
  unfolding regions_of
  object_once obj =
      pairwise_joined Differ (λ k. region_at objects obj (slice_index_or region_numbers k 0)) (length region_numbers)
      (λ k b. region_at_once obj (slice_index_or region_numbers k 0))
      (λ j k x y b c h i.
      by_regions x y (Sec obj (slice_index_or region_numbers j 0)) (Sec obj (slice_index_or region_numbers k 0))
      (region_at_is obj (slice_index_or region_numbers j 0) x h) (region_at_is obj (slice_index_or region_numbers k 0) y i)
      (sections_differ obj obj (slice_index_or region_numbers j 0) (slice_index_or region_numbers k 0) (λ e f. let r = rising 0 region_numbers j k numbers_rise b c in omega (arith, r, f))))

  sections_once : Pairwise Differ (joined (regions_of objects) (length objects))
  sections_once =
      pairwise_joined Differ (regions_of objects) (length objects) (λ i b. object_once i)
      (λ i j x y b c h k.
      let a = regions_of_is i x h in
      let z = regions_of_is j y k in
      by_regions x y (Sec i a.0) (Sec j z.0) a.1 z.1 (sections_differ i j a.0 z.0 (λ e f. omega (arith, e, b))))

  -- a common's region has the number of its name
  common_at_is : (k : ℕ) (i : RegionInit) → In (common_at objects k) i → i.region ≡ Common k
  common_at_is k i h = by_definition (definition_at objects k) refl h
    where
      by_definition : (d : Definition) → definition_at objects k ≡ d → In (common_region d) i → i.region ≡ Common k
      by_definition (AsCommon c size) e (inl same) = sym (ap (λ (j : RegionInit). j.region) same) ∙ ap (λ x. Common x) (common_number objects k c size e)
      by_definition (AsCommon c size) e (inr h) = absurd h
      by_definition Missing e h = absurd h
      by_definition (Absolute v) e h = absurd h
      by_definition (InSection o n x) e h = absurd h

  common_once : (d : Definition) → Pairwise Differ (common_region d)
  common_once (AsCommon c size) = (λ y h. absurd h, tt)
  common_once Missing = tt
  common_once (Absolute v) = tt
  common_once (InSection o n x) = tt

  commons_once : Pairwise Differ (joined (common_at objects) (length (names_of objects)))
  commons_once =
      pairwise_joined Differ (common_at objects) (length (names_of objects)) (λ k b. common_once (definition_at objects k))
      (λ i j x y b c h k. by_regions x y (Common i) (Common j) (common_at_is i x h) (common_at_is j y k) (commons_differ i j b))

  all_once : Pairwise Differ (program_of objects).regions
  unfolding program_of
  all_once =
      pairwise_append Differ (joined (regions_of objects) (length objects)) (joined (common_at objects) (length (names_of objects))) sections_once commons_once
      (λ x y h k.
      let a = in_joined (regions_of objects) (length objects) x h in
      let b = regions_of_is a.index x a.here in
      let c = in_joined (common_at objects) (length (names_of objects)) y k in
      by_regions x y (Sec a.index b.0) (Common c.index) b.1 (common_at_is c.index y c.here) refl)

  pub regions_once : AreOnce (program_of objects).regions
  regions_once = record { apart = λ j k a b h e f. pairwise_at Differ (program_of objects).regions j k a b all_once h e f }
