-- The regions of the program of objects.
use Rattle.std.proofs.Common.{◌≡◌, ◌⊎◌, inl, inr, ℕ, ◌<◌, Bool, true, false, ◌&&◌, ◌==◌, List, [], length, Some, refl, sym, subst, arith, slice_index_or}
use Rattle.std.proofs.lemmas.Bool.{eqb-true}
use Rattle.std.proofs.lemmas.Bool.Decides.{nat_tests}
use Rattle.om_fields.specs.Places.{joined, round_up}
use Rattle.om_object.specs.declared.parts.Section.{Section}
use Rattle.om_object.specs.declared.parts.Parts.{Parts}
use Rattle.om_object.specs.Words.{section_of}
use Rattle.om_value.specs.declared.value.Region.{Region}
use Rattle.om_value.specs.declared.value.Region.TheVariants.{Sec, Common, Stack, Heap}
use Rattle.om_value.specs.Same.{region_eq}
use Rattle.om_prog.specs.declared.region.RegionInit.{RegionInit}
use Rattle.om_prog.specs.View.{init_of}
use Rattle.om_resolve.specs.declared.definition.Definition.{Definition}
use Rattle.om_resolve.specs.declared.definition.Definition.TheVariants.{Missing, Absolute, InSection, AsCommon}
use Rattle.om_resolve.specs.Names.{object_at, names_of, definition_at}
use Rattle.om_resolve.specs.Causes.{region_numbers}
use Rattle.om_resolve.specs.Program.{region_of, region_at, regions_of, common_region, common_at, program_of}
use Rattle.om_resolve.proofs.Members.{In, in_front, in_back, in_either, in_joined, joined_in, in_option, option_in, found_in, something_found}

and_both : (a b : Bool) → (a && b) ≡ true → (a ≡ true) × (b ≡ true)
and_both true b e = (refl, e)
and_both false b e = cc

pub region_same : (r s : Region) → region_eq r s ≡ true → r ≡ s
region_same (Sec o n) (Sec p m) e =
    let b = and_both (o == p) (n == m) e in
    let f : o ≡ p = eqb-true o p b.0 in
    let g : n ≡ m = eqb-true n m b.1 in
    cc
region_same (Common a) (Common b) e = let f : a ≡ b = eqb-true a b e in cc
region_same Stack Stack e = refl
region_same Heap Heap e = refl
region_same _ _ e = cc

self_eq : (n : ℕ) → (n == n) ≡ true
self_eq n = grind (arith, nat_tests)

pub region_self : (r : Region) → region_eq r r ≡ true
region_self (Sec o n) = rw (self_eq o, self_eq n) refl
region_self (Common a) = self_eq a
region_self Stack = refl
region_self Heap = refl

-- a region of the program is a section of an object, or a common
pub data IsRegion (objects : List Parts) (i : RegionInit) : Type 0 where
  of_section :
      (obj k n : ℕ) (s : Section) → obj < length objects → k < 8 → slice_index_or region_numbers k 0 ≡ n →
      section_of (object_at objects obj) n ≡ Some s → region_of objects obj n s ≡ i → IsRegion objects i
  of_common :
      (k sym size : ℕ) → k < length (names_of objects) → definition_at objects k ≡ AsCommon sym size →
      i ≡ record { region = Common sym; size = round_up size 8; zero = true; bytes = []; fields = [] } → IsRegion objects i

module _ (objects : List Parts) where
  common_in : (d : Definition) (i : RegionInit) → In (common_region d) i → (sym : ℕ) × (size : ℕ) × (d ≡ AsCommon sym size) × (i ≡ record { region = Common sym; size = round_up size 8; zero = true; bytes = []; fields = [] })
  common_in (AsCommon k size) i (inl e) = (k, size, refl, sym e)
  common_in (AsCommon k size) i (inr h) = absurd h
  common_in Missing i h = absurd h
  common_in (Absolute v) i h = absurd h
  common_in (InSection o n x) i h = absurd h

  pub region_is : (i : RegionInit) → In (program_of objects).regions i → IsRegion objects i
  unfolding program_of regions_of region_at
  region_is i h = by_side (in_either (joined (regions_of objects) (length objects)) (joined (common_at objects) (length (names_of objects))) i h)
    where
      by_side : In (joined (regions_of objects) (length objects)) i ⊎ In (joined (common_at objects) (length (names_of objects))) i → IsRegion objects i
      by_side (inl k) =
          let a = in_joined (regions_of objects) (length objects) i k in
          let b = in_joined (λ k. region_at objects a.index (slice_index_or region_numbers k 0)) (length region_numbers) i a.here in
          let s = in_option (region_of objects a.index (slice_index_or region_numbers b.index 0)) (section_of (object_at objects a.index) (slice_index_or region_numbers b.index 0)) i b.here in
          of_section a.index b.index (slice_index_or region_numbers b.index 0) s.0 a.below b.below refl s.1 s.2
      by_side (inr k) =
          let a = in_joined (common_at objects) (length (names_of objects)) i k in
          let c = common_in (definition_at objects a.index) i a.here in
          of_common a.index c.0 c.1 a.below c.2 c.3

  -- the section of a number in an object that is there is a region
  pub section_there : (obj k n : ℕ) (s : Section) → obj < length objects → k < 8 → slice_index_or region_numbers k 0 ≡ n → section_of (object_at objects obj) n ≡ Some s → In (program_of objects).regions (region_of objects obj n s)
  unfolding program_of regions_of region_at
  section_there obj k n s ho hk hn hs =
      in_front (joined (regions_of objects) (length objects)) (joined (common_at objects) (length (names_of objects))) (region_of objects obj n s)
      (joined_in (regions_of objects) (length objects) obj (region_of objects obj n s) ho
      (joined_in (λ k. region_at objects obj (slice_index_or region_numbers k 0)) (length region_numbers) k (region_of objects obj n s) hk
      (subst (λ m. In (region_at objects obj m) (region_of objects obj n s)) (sym hn) (option_in (region_of objects obj n) (section_of (object_at objects obj) n) s hs))))

  -- and the common that defines a name
  pub common_there : (k c size : ℕ) → k < length (names_of objects) → definition_at objects k ≡ AsCommon c size → In (program_of objects).regions (record { region = Common c; size = round_up size 8; zero = true; bytes = []; fields = [] })
  unfolding program_of
  common_there k c size hk hd =
      in_back (joined (regions_of objects) (length objects)) (joined (common_at objects) (length (names_of objects))) _
      (joined_in (common_at objects) (length (names_of objects)) k _ hk (subst (λ d. In (common_region d) (record { region = Common c; size = round_up size 8; zero = true; bytes = []; fields = [] })) (sym hd) (inl refl)))

  -- a region that is there is found
  pub region_found : (i : RegionInit) → In (program_of objects).regions i → (j : RegionInit) × (init_of (program_of objects) i.region ≡ Some j) × In (program_of objects).regions j × (j.region ≡ i.region)
  region_found i h =
      let f = something_found (λ (x : RegionInit). region_eq x.region i.region) (program_of objects).regions i h (region_self i.region) in
      let k = found_in (λ (x : RegionInit). region_eq x.region i.region) (program_of objects).regions f.0 f.1 in
      (f.0, f.1, k.0, region_same f.0.region i.region k.1)
