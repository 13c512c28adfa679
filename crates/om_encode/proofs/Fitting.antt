-- Slots, pairs and distances fit.
use Rattle.std.proofs.Common.{◌≡◌, ℕ, ◌+◌, ◌-◌, ◌*◌, ◌<◌, ◌≤◌, true, ◌&&◌, nat_lt, length, Option, Some, None, refl, ap, sym, subst, arith}
use Rattle.std.specs.Prelude.{pos, ◌-ℤ◌, All, FitsSigned}
use Rattle.std.specs.Int.{w16, w32}
use Rattle.std.proofs.lemmas.Int.{ints}
use Rattle.std.proofs.lemmas.Bool.{leb-true}
use Rattle.om_value.specs.declared.value.Place.{Place}
use Rattle.om_value.specs.declared.value.Region.{Region}
use Rattle.om_value.specs.declared.value.Region.TheVariants.{Sec, Common, Stack, Heap}
use Rattle.om_value.specs.declared.value.Target.{Target}
use Rattle.om_value.specs.declared.value.Target.TheVariants as target
use Rattle.om_value.specs.declared.value.Value.{Value}
use Rattle.om_value.specs.declared.value.Value.TheVariants.{Num, Ptr, Code, Gp, Half, GpOff}
use Rattle.om_value.specs.Same.{region_eq}
use Rattle.om_prog.specs.declared.item.Field.{Field}
use Rattle.om_prog.specs.declared.region.RegionInit.{RegionInit}
use Rattle.om_prog.specs.View.{ProgramView, init_of, size_or_none}
use Rattle.om_prog.specs.Valid.{IsProgram, is_given, width_of, is_near_target, is_up_to}
use Rattle.om_graph.specs.View.{GraphView}
use Rattle.om_graph.specs.Kept.{Comes}
use Rattle.om_graph.specs.Run.{words}
use Rattle.om_graph.specs.OfProgram.{IsGraphOf}
use Rattle.om_lockstep.proofs.Small.{and_true, cond_some, same_region}
use Rattle.om_layout.specs.Layout.{LayoutView, start_at, start_or, gp_at, gp_of, table_at, code_at, address_of, position_of}
use Rattle.om_layout.specs.Facts.{LaysOut}
use Rattle.om_layout.specs.Limits.{IsWithinLimits, StaysInLimits}
use Rattle.om_layout.proofs.Limits.{stays}
use Rattle.om_encode.specs.Halves.{high_part}
use Rattle.om_encode.specs.Data.{DistanceFits}
use Rattle.om_encode.specs.Fields.{Splits}
use Rattle.om_encode.specs.Fitting.{low_part, AllFits, FitsInEveryLayout}
use Rattle.om_encode.proofs.Extents.{SizesMatch, sizes_match}
use Rattle.om_encode.proofs.Regions.{IsGiven, located, table_start, got_in}
use Rattle.om_encode.proofs.Start.{find_all}
use Rattle.om_encode.proofs.Whole.{all_of}

-- a distance of less than 2^31 - 2^15 is split into its parts
splits_up : (n : ℕ) → n < 2147450880 → Splits (pos n) (high_part (pos n)) (low_part (pos n))
splits_up n h = record { sum = omega (arith, ints); low = omega (arith, ints); high = omega (arith, ints) }

pair_fits : (gp base : ℕ) → 0x140008000 ≤ gp → gp ≤ 0x144008000 → 0x120000000 ≤ base → base ≤ 0x121000000 → Splits (pos gp -ℤ pos base) (high_part (pos gp -ℤ pos base)) (low_part (pos gp -ℤ pos base))
pair_fits gp base a b c d =
    let e : pos gp -ℤ pos base ≡ pos (gp - base) = omega (arith, ints) in
    subst (λ z. Splits z (high_part z) (low_part z)) (sym e) (splits_up (gp - base) (omega arith))

distance_fits : (a gp : ℕ) → 0x120000000 ≤ a → a ≤ 0x144000000 → 0x140008000 ≤ gp → gp ≤ 0x144008000 → FitsSigned w32 (pos a -ℤ pos gp)
distance_fits a gp h i j k = omega (arith, ints)

slot_fits : (start j : ℕ) → j < 8192 → FitsSigned w16 (pos (start + 8 * j) -ℤ pos (start + 32768))
slot_fits start j h = omega (arith, ints)

-- a region that a program gives is no stack and no heap
given_is : (r : Region) → is_given r ≡ true → IsGiven r
given_is (Sec o n) e = tt
given_is (Common n) e = tt
given_is Stack e = cc
given_is Heap e = cc

module _ (p : ProgramView) (g : GraphView) (l : LayoutView) (prog : IsProgram p) (of : IsGraphOf p g) (limits : IsWithinLimits p) (lay : LaysOut p g l (Comes g)) where
  pub inside : StaysInLimits g l
  inside = stays p prog g of limits l lay.data_part

  sizes : SizesMatch p l
  sizes = sizes_match p l prog.once lay.data_part.extents

  pub most : (q : Place) → position_of l q ≤ length (words g)
  most q = lay.words.most q

  pub code_low : (q : Place) → (0x120000000 ≤ code_at l q) × (code_at l q ≤ 0x121000000)
  code_low q = let a = most q in let b = inside.words in (omega arith, omega (arith, a, b))

  pub gp_between : (k : ℕ) → (0x140008000 ≤ gp_at l k) × (gp_at l k ≤ 0x144008000)
  gp_between k =
      let h = table_start p l sizes lay.data_part.tables lay.data_part.regions inside.data_part k in
      let a = h.0 in
      let b = h.1 in
      (omega (arith, a), omega (arith, b))

  -- a byte of a region or its end
  pub near_between : (r : Region) (x : ℕ) → is_up_to p x (init_of p r) ≡ true → (0x120000000 ≤ address_of l (target.Ptr r x)) × (address_of l (target.Ptr r x) ≤ 0x144000000)
  near_between r x up = by_init (init_of p r) refl up
    where
      by_init : (o : Option RegionInit) → init_of p r ≡ o → is_up_to p x o ≡ true → (0x120000000 ≤ address_of l (target.Ptr r x)) × (address_of l (target.Ptr r x) ≤ 0x144000000)
      by_init None e up = cc
      by_init (Some i) e up =
          let f = find_all (λ (q : RegionInit). is_given q.region ≡ true) (λ (q : RegionInit). region_eq q.region r) p.regions i given_all e in
          let same : i.region ≡ r = same_region i.region r f.1 in
          let d = located p l sizes lay.data_part.tables lay.data_part.regions inside.data_part r (given_is r (subst (λ q. is_given q ≡ true) same f.0)) in
          let a = d.above in
          let b = d.below in
          let s = ap size_or_none e in
          let u = leb-true x i.size up in
          let m = inside.data_part in
          (omega (arith, a, b, s, u, m), omega (arith, a, b, s, u, m))
        where
          given_all : All (λ (q : RegionInit). is_given q.region ≡ true) p.regions
          given_all = all_of (λ (q : RegionInit). is_given q.region ≡ true) p.regions (λ k q h. (prog.regions.each k q h).form.given)

  target_between : (t : Target) → is_near_target p t ≡ true → (0x120000000 ≤ address_of l t) × (address_of l t ≤ 0x144000000)
  target_between (target.Num n) h = cc
  target_between (target.Ptr r x) h = near_between r x h
  target_between (target.Code q) h = let c = code_low q in let a = c.0 in let b = c.1 in (a, omega (arith, b))

  value_fits : (v : Value) (w : ℕ) → width_of p v ≡ Some w → DistanceFits l v
  value_fits (GpOff o t) w e =
      let n = and_true (nat_lt o (length p.texts)) (is_near_target p t) (cond_some (nat_lt o (length p.texts) && is_near_target p t) 4 w e).0 in
      let a = target_between t n.1 in
      let b = gp_between (table_at l o) in
      distance_fits (address_of l t) (gp_of l o) a.0 a.1 b.0 b.1
  value_fits (Num n) w e = tt
  value_fits (Ptr r x) w e = tt
  value_fits (Code q) w e = tt
  value_fits (Gp o) w e = tt
  value_fits (Half q) w e = tt

  pub fits : AllFits p g l
  fits = record {
    slots =
        λ k j t u e f.
        let s : start_at l k ≡ t.start = ap start_or e in
        let n = inside.slots k t e in
        let m = got_in t.slots j u f in
        subst (λ a. FitsSigned w16 (pos (a + 8 * j) -ℤ pos (a + 32768))) (sym s) (slot_fits t.start j (omega (arith, n, m)));
    pairs =
        λ obj base.
        let a = gp_between (table_at l obj) in
        let b = code_low base in
        pair_fits (gp_of l obj) (code_at l base) a.0 a.1 b.0 b.1;
    distances =
        all_of (λ (q : RegionInit). All (λ (z : Field). DistanceFits l z.value) q.fields) p.regions
        (λ k q h. all_of (λ (z : Field). DistanceFits l z.value) q.fields (λ j z m. value_fits z.value z.width ((prog.regions.each k q h).fields.each j z m).width));
  }

pub fits_in_every_layout : FitsInEveryLayout
fits_in_every_layout p g l prog of limits lay = fits p g l prog of limits lay
