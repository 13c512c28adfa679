-- Where tables lose slots, every region comes nearer to every global pointer, by a multiple of 16, and stays behind it less 32768.
use Rattle.std.proofs.Common.{◌≡◌, ◌⊎◌, inl, inr, ◌<◌, ◌≤◌, ℕ, zero, suc, ◌+◌, ◌*◌, ◌/◌, Bool, true, false, cond, List, [], ◌∷◌, length, map, Option, Some, None, refl, sym, ap, ◌∙◌, subst, arith}
use Rattle.std.specs.Prelude.{find, slice_get, slice_index_or, Contains, IsPermutation}
use Rattle.std.proofs.lemmas.List.Sorted.{Contains-permutation, IsPermutation-sym}
use Rattle.std.proofs.lemmas.Bool.{true≢false}
use Rattle.om_value.specs.declared.value.Region.{Region}
use Rattle.om_value.specs.declared.value.Region.TheVariants.{Sec, Common, Stack, Heap}
use Rattle.om_value.specs.Same.{region_eq}
use Rattle.om_prog.specs.View.{ProgramView}
use Rattle.om_prog.specs.Valid.{IsProgram}
use Rattle.om_graph.specs.View.{GraphView, Has}
use Rattle.om_graph.specs.OfProgram.{IsGraphOf}
use Rattle.om_layout.specs.Layout.{LayoutView, TableAt, RegionAt, data_base, is_region, region_there, region_at, start_at, gp_of, table_at}
use Rattle.om_layout.specs.Order.{tables_end, PlacedTables, PlacedRegions, InOrder, extent_at, extent_of, IsDataLayout}
use Rattle.om_passes.specs.Step.{FewerTargets}
use Rattle.om_shrink.specs.Shrinks.{SlotsLess}
use Rattle.om_shrink.specs.Placed.{IsData}
use Rattle.om_shrink.proofs.Shrinking.{tables_lower, table_lowered, region_lowered, Lowered}
use Rattle.om_shrink.proofs.OneOrder.{Sooner, sooner_apart, in_order, one_order}
use Rattle.om_shrink.proofs.FewerSlots.{slots_less}

-- ---- elements

abbrev Extent : Type 0
Extent = Region × ℕ

to_contains : (xs : List Extent) (x : Extent) → Has xs x → Contains xs x
to_contains [] x h = absurd h
to_contains (y ∷ ys) x (inl e) = (0, omega arith, e)
to_contains (y ∷ ys) x (inr h) = let c = to_contains ys x h in let l = c.1 in (suc c.0, omega (arith, l), c.2)

of_contains : (xs : List Extent) (x : Extent) → Contains xs x → Has xs x
of_contains xs x c = by_index xs c.0 c.1 c.2
  where
    by_index : (xs : List Extent) (k : ℕ) → k < length xs → slice_index_or xs k x ≡ x → Has xs x
    by_index [] k h e = absurd (omega (arith, h))
    by_index (y ∷ ys) zero h e = inl e
    by_index (y ∷ ys) (suc k) h e = inr (by_index ys k (omega (arith, h)) e)

pub shuffled : (xs ys : List Extent) (x : Extent) → IsPermutation xs ys → Has xs x → Has ys x
shuffled xs ys x s h = of_contains ys x (Contains-permutation xs ys x s (to_contains xs x h))

pub same_order : (p : ProgramView) (g h : GraphView) (l m : LayoutView) → IsDataLayout p g l → IsDataLayout p h m → map extent_at l.regions ≡ map extent_at m.regions
same_order p g h l m lay may =
    one_order Sooner sooner_apart (map extent_at l.regions) (map extent_at m.regions) (in_order l.regions lay.order) (in_order m.regions may.order)
    (λ x k. shuffled (map extent_of p.regions) (map extent_at m.regions) x (IsPermutation-sym _ _ may.extents) (shuffled (map extent_at l.regions) (map extent_of p.regions) x lay.extents k))
    (λ x k. shuffled (map extent_of p.regions) (map extent_at l.regions) x (IsPermutation-sym _ _ lay.extents) (shuffled (map extent_at m.regions) (map extent_of p.regions) x may.extents k))

-- a region is found at one index in both
record FoundIn (rs qs : List RegionAt) (r : Region) (x : RegionAt) : Type 0 where
  index : ℕ
  other : RegionAt
  here : slice_get rs index ≡ Some x
  there : slice_get qs index ≡ Some other
  found : find (is_region r) qs ≡ Some other

found_in : (rs qs : List RegionAt) (r : Region) (x : RegionAt) → map extent_at rs ≡ map extent_at qs → find (is_region r) rs ≡ Some x → FoundIn rs qs r x
found_in [] qs r x e f = cc
found_in (y ∷ rs) [] r x e f = cc
found_in (y ∷ rs) (z ∷ qs) r x e f =
    let s : extent_at y ≡ extent_at z = cc in
    let t : map extent_at rs ≡ map extent_at qs = cc in
    by_test (region_eq y.region r) refl (ap (λ (w : Extent). region_eq w.0 r) (sym s)) f (found_in rs qs r x t)
  where
    by_test :
        (b : Bool) → region_eq y.region r ≡ b → region_eq z.region r ≡ region_eq y.region r → cond b (Some y) (find (is_region r) rs) ≡ Some x → (find (is_region r) rs ≡ Some x → FoundIn rs qs r x) →
        FoundIn (y ∷ rs) (z ∷ qs) r x
    by_test true c d f i = record { index = 0; other = z; here = f; there = refl; found = let k = d ∙ c in rw k refl }
    by_test false c d f i = let v = i f in record { index = suc v.index; other = v.other; here = v.here; there = v.there; found = let k = d ∙ c in rw k v.found }

-- ---- distances

-- a region comes nearer to a global pointer, and stays behind it less 32768
pub record IsNearer (l m : LayoutView) (o : ℕ) (r : Region) : Type 0 where
  pub by : ℕ
  pub distance : region_at l r + gp_of m o ≡ region_at m r + gp_of l o + 16 * by
  pub behind : gp_of m o ≤ region_at m r + 32768
  pub lower : region_at m r ≤ region_at l r
  -- both are multiples of 16
  pub region_by : ℕ
  pub region_is : region_at m r ≡ 16 * region_by
  pub gp_by : ℕ
  pub gp_is : gp_of m o ≡ 16 * gp_by

module _ (p : ProgramView) (prog : IsProgram p) (g h : GraphView) (of : IsGraphOf p g) (on : IsGraphOf p h) (same : h.tables ≡ g.tables) (fewer : FewerTargets g h)
    (l m : LayoutView) (lay : IsDataLayout p g l) (may : IsDataLayout p h m) where
  less : SlotsLess l.tables m.tables
  less = slots_less p prog g h of on same fewer l m lay may

  one_table : (o : ℕ) → table_at m o ≡ table_at l o
  one_table o = ap (λ (ts : List ℕ). slice_index_or ts o o) (may.object_tables ∙ same ∙ sym lay.object_tables)

  none_less : (ts us : List TableAt) (k : ℕ) → SlotsLess ts us → slice_get ts k ≡ None → slice_get us k ≡ None
  none_less [] [] k s e = e
  none_less (t ∷ ts) (u ∷ us) zero s e = cc
  none_less (t ∷ ts) (u ∷ us) (suc k) s e = none_less ts us k s.1 e
  none_less [] (u ∷ us) k s e = absurd s
  none_less (t ∷ ts) [] k s e = absurd s

  some_less : (ts us : List TableAt) (k : ℕ) (t : TableAt) → SlotsLess ts us → slice_get ts k ≡ Some t → (u : TableAt) × (slice_get us k ≡ Some u)
  some_less [] [] k x s e = cc
  some_less (t ∷ ts) (u ∷ us) zero x s e = (u, refl)
  some_less (t ∷ ts) (u ∷ us) (suc k) x s e = some_less ts us k x s.1 e
  some_less [] (u ∷ us) k x s e = absurd s
  some_less (t ∷ ts) [] k x s e = absurd s

  -- a table goes down, and what stands behind all tables by no less
  record TableMoves (k : ℕ) : Type 0 where
    by : ℕ
    start : start_at l k ≡ start_at m k + 16 * by
    ends : tables_end data_base m.tables + 16 * by ≤ tables_end data_base l.tables
    inside : start_at m k ≤ tables_end data_base m.tables

  end_behind : (us : List TableAt) (b : ℕ) → b ≤ tables_end b us
  end_behind [] b = omega arith
  end_behind (u ∷ us) b = let e = end_behind us ((b + 15) / 16 * 16 + 8 * length u.slots) in omega (arith, e)

  table_moves : (k : ℕ) → TableMoves k
  table_moves k = by_found (slice_get l.tables k) refl
    where
      by_found : (o : Option TableAt) → slice_get l.tables k ≡ o → TableMoves k
      by_found None e =
          let f = none_less l.tables m.tables k less e in
          let d = tables_lower l.tables m.tables data_base data_base 0 less (omega arith) in
          let b = end_behind m.tables data_base in
          record { by = 0; start = rw (e, f) refl; ends = d; inside = rw f b }
      by_found (Some t) e =
          let u = some_less l.tables m.tables k t less e in
          let f = u.1 in
          let d = table_lowered l.tables m.tables data_base data_base k t u.0 lay.tables may.tables less (omega arith) e f in
          record { by = d.by; start = rw (e, f) d.start; ends = d.ends; inside = rw f d.inside }

  region_even : (qs : List RegionAt) (a k : ℕ) (q : RegionAt) → PlacedRegions a qs → slice_get qs k ≡ Some q → (n : ℕ) × (q.address ≡ 16 * n)
  region_even [] a k q s e = cc
  region_even (x ∷ qs) a zero q s e = let i : x ≡ q = cc in let j = ap (λ (z : RegionAt). z.address) i in let s0 = s.0 in ((a + 15) / 16, omega (arith, j, s0))
  region_even (x ∷ qs) a (suc k) q s e = region_even qs ((a + 15) / 16 * 16 + x.size) k q s.1 e

  table_even : (us : List TableAt) (a k : ℕ) (u : TableAt) → PlacedTables a us → slice_get us k ≡ Some u → (n : ℕ) × (u.start ≡ 16 * n)
  table_even [] a k u s e = cc
  table_even (x ∷ us) a zero u s e = let i : x ≡ u = cc in let j = ap (λ (z : TableAt). z.start) i in let s0 = s.0 in ((a + 15) / 16, omega (arith, j, s0))
  table_even (x ∷ us) a (suc k) u s e = table_even us ((a + 15) / 16 * 16 + 8 * length x.slots) k u s.1 e

  start_even : (k : ℕ) → (n : ℕ) × (start_at m k ≡ 16 * n)
  start_even k = by_found (slice_get m.tables k) refl
    where
      by_found : (o : Option TableAt) → slice_get m.tables k ≡ o → (n : ℕ) × (start_at m k ≡ 16 * n)
      by_found None e = (0x14000000, rw e refl)
      by_found (Some u) e = let t = table_even m.tables data_base k u may.tables e in (t.0, rw e t.1)

  pub nearer : (o : ℕ) (r : Region) (x : RegionAt) → IsData r → region_there l r ≡ Some x → IsNearer l m o r
  nearer o r x is found =
      let v = found_in l.regions m.regions r x (same_order p g h l m lay may) found in
      let t = table_moves (table_at l o) in
      let w = region_lowered l.regions m.regions (tables_end data_base l.tables) (tables_end data_base m.tables) t.by v.index x v.other lay.regions may.regions (same_order p g h l m lay may) t.ends v.here v.there in
      let a = address l r is x found in
      let b = address m r is v.other v.found in
      let c = ap (start_at m) (one_table o) in
      let w1 = w.1 in
      let w2 = w.2 in
      let s = t.start in
      let n = t.inside in
      let q = region_even m.regions (tables_end data_base m.tables) v.index v.other may.regions v.there in
      let u = start_even (table_at m o) in
      let u1 = u.1 in
      record { by = w.0; distance = omega (arith, a, b, c, w1, s); behind = omega (arith, b, c, w2, n); lower = omega (arith, a, b, w1); region_by = q.0; region_is = b ∙ q.1; gp_by = u.0 + 2048; gp_is = omega (arith, u1) }
    where
      address : (k : LayoutView) (r : Region) → IsData r → (x : RegionAt) → region_there k r ≡ Some x → region_at k r ≡ x.address
      address k (Sec i n) d x e = rw e refl
      address k (Common n) d x e = rw e refl
      address k Stack d x e = absurd d
      address k Heap d x e = absurd d
