-- All layouts of the graphs that a program is lifted to are one.
use Rattle.std.proofs.Common.{◌≡◌, ◌⊎◌, inl, inr, ◌<◌, ℕ, zero, suc, ◌+◌, ◌*◌, Bool, true, false, cond, ◌&&◌, ◌||◌, ◌==◌, List, [], ◌∷◌, length, Some, refl, sym, ap, ◌∙◌, subst, arith, slice_index_or}
use Rattle.std.specs.Prelude.{map, nat_lt, slice_get, IsPermutation, Contains}
use Rattle.std.proofs.lemmas.List.Sorted.{Contains-permutation, IsPermutation-sym}
use Rattle.std.proofs.lemmas.Bool.{true≢false, eqb-true, ltb-true}
use Rattle.om_value.specs.declared.value.Region.{Region}
use Rattle.om_value.specs.declared.value.Target.{Target}
use Rattle.om_prog.specs.View.{ProgramView}
use Rattle.om_prog.specs.Valid.{IsProgram}
use Rattle.om_graph.specs.View.{GraphView, Has}
use Rattle.om_graph.specs.Lifted.{IsLifted}
use Rattle.om_graph.proofs.OfProgram.{to_map}
use Rattle.om_layout.specs.Layout.{LayoutView, TableAt, RegionAt, place_number, data_base}
use Rattle.om_layout.specs.Order.{region_rank, comes_before, InOrder, extent_at, extent_of, round_16, PlacedTables, PlacedRegions, tables_end, IsPlaceOf, IsLayoutOf, place_count, table_count}
use Rattle.om_layout.proofs.Numbers.{every_number}
use Rattle.om_link.proofs.OwnNumbers.{own_number}
use Rattle.om_link.proofs.OwnSlots.{own_slots}
use Rattle.om_counted.specs.Levels.{counts_of}

-- ---- one order

module _ {E : Type 0} (Before : E → E → Type 0) (apart : (a b : E) → Before a b → Before b a → ⊥) where
  abbrev pub BeforeAll : E → List E → Type 0
  BeforeAll x ys = (y : E) → Has ys y → Before x y

  abbrev pub Strict : List E → Type 0
  Strict [] = Unit {0}
  Strict (x ∷ xs) = BeforeAll x xs × Strict xs

  itself : (x : E) → Before x x → ⊥
  itself x b = apart x x b b

  one_order : (xs ys : List E) → Strict xs → Strict ys → ((x : E) → Has xs x → Has ys x) → ((x : E) → Has ys x → Has xs x) → xs ≡ ys
  one_order [] [] s t f g = refl
  one_order [] (y ∷ ys) s t f g = absurd (g y (inl refl))
  one_order (x ∷ xs) [] s t f g = absurd (f x (inl refl))
  one_order (x ∷ xs) (y ∷ ys) s t f g =
      let h : y ≡ x = heads (f x (inl refl)) (g y (inl refl)) in
      let r = one_order xs ys s.1 t.1 (λ z m. down z m h (f z (inr m))) (λ z m. up z m h (g z (inr m))) in
      ap (λ (z : E). z ∷ xs) (sym h) ∙ ap (λ (zs : List E). y ∷ zs) r
    where
      heads : Has (y ∷ ys) x → Has (x ∷ xs) y → y ≡ x
      heads (inl e) k = e
      heads (inr m) (inl e) = sym e
      heads (inr m) (inr k) = absurd (apart x y (s.0 y k) (t.0 x m))

      down : (z : E) → Has xs z → y ≡ x → Has (y ∷ ys) z → Has ys z
      down z m h (inr k) = k
      down z m h (inl e) = absurd (itself z (subst (λ (w : E). Before w z) (sym h ∙ e) (s.0 z m)))

      up : (z : E) → Has ys z → y ≡ x → Has (x ∷ xs) z → Has xs z
      up z m h (inr k) = k
      up z m h (inl e) = absurd (itself z (subst (λ (w : E). Before w z) (h ∙ e) (t.0 z m)))

-- ---- extents

abbrev pub Sooner : Region × ℕ → Region × ℕ → Type 0
Sooner a b = (a.1 < b.1) ⊎ ((a.1 ≡ b.1) × (region_rank a.0 < region_rank b.0))

pub sooner_apart : (a b : Region × ℕ) → Sooner a b → Sooner b a → ⊥
sooner_apart a b (inl h) (inl k) = omega (arith, h, k)
sooner_apart a b (inl h) (inr (k, l)) = omega (arith, h, k)
sooner_apart a b (inr (h, i)) (inl k) = omega (arith, h, k)
sooner_apart a b (inr (h, i)) (inr (k, l)) = omega (arith, i, l)

sooner_then : (a b c : Region × ℕ) → Sooner a b → Sooner b c → Sooner a c
sooner_then a b c (inl h) (inl k) = inl (omega (arith, h, k))
sooner_then a b c (inl h) (inr (k, l)) = inl (omega (arith, h, k))
sooner_then a b c (inr (h, i)) (inl k) = inl (omega (arith, h, k))
sooner_then a b c (inr (h, i)) (inr (k, l)) = inr (omega (arith, h, k), omega (arith, i, l))

sooner_of : (a b : RegionAt) → comes_before a b ≡ true → Sooner (extent_at a) (extent_at b)
sooner_of a b h = by_size (nat_lt a.size b.size) refl h
  where
    by_rank : (x y : Bool) → (a.size == b.size) ≡ x → nat_lt (region_rank a.region) (region_rank b.region) ≡ y → (x && y) ≡ true → Sooner (extent_at a) (extent_at b)
    by_rank true true e f h = inr (eqb-true a.size b.size e, ltb-true _ _ f)
    by_rank true false e f h = absurd (true≢false (sym h))
    by_rank false y e f h = absurd (true≢false (sym h))

    by_size : (x : Bool) → nat_lt a.size b.size ≡ x → (x || ((a.size == b.size) && nat_lt (region_rank a.region) (region_rank b.region))) ≡ true → Sooner (extent_at a) (extent_at b)
    by_size true e h = inl (ltb-true a.size b.size e)
    by_size false e h = by_rank _ _ refl refl h

pub in_order : (rs : List RegionAt) → InOrder rs → Strict Sooner sooner_apart (map extent_at rs)
in_order [] o = tt
in_order (r ∷ []) o = ((λ y h. absurd h), tt)
in_order (r ∷ q ∷ rs) o =
    let s = in_order (q ∷ rs) o.1 in
    let f = sooner_of r q o.0 in
    ((λ y h. first y f s h), s)
  where
    first : (y : Region × ℕ) → Sooner (extent_at r) (extent_at q) → Strict Sooner sooner_apart (map extent_at (q ∷ rs)) → Has (map extent_at (q ∷ rs)) y → Sooner (extent_at r) y
    first y f s (inl e) = subst (Sooner (extent_at r)) e f
    first y f s (inr m) = sooner_then (extent_at r) (extent_at q) y f (s.0 y m)

-- ---- elements of permutations

abbrev pub Extent : Type 0
Extent = Region × ℕ

to_contains : (xs : List Extent) (x : Extent) → Has xs x → Contains xs x
to_contains [] x h = absurd h
to_contains (y ∷ ys) x (inl e) = (0, omega arith, e)
to_contains (y ∷ ys) x (inr h) = let c = to_contains ys x h in let l = c.1 in (suc c.0, omega (arith, l), c.2)

of_contains : (xs : List Extent) (x : Extent) → Contains xs x → Has xs x
of_contains xs x c = by_index xs c.0 c.1 c.2
  where
    by_index : (xs : List Extent) (k : ℕ) → k < length xs → slice_index_or xs k x ≡ x → Has xs x
    by_index [] k h e = absurd (omega (arith, h))
    by_index (y ∷ ys) zero h e = inl e
    by_index (y ∷ ys) (suc k) h e = inr (by_index ys k (omega (arith, h)) e)

pub shuffled : (xs ys : List Extent) (x : Extent) → IsPermutation xs ys → Has xs x → Has ys x
shuffled xs ys x s h = of_contains ys x (Contains-permutation xs ys x s (to_contains xs x h))

-- ---- lists placed alike

-- no two regions of one have the same extent
pub one_extent : (rs : List RegionAt) → Strict Sooner sooner_apart (map extent_at rs) → (a b : RegionAt) → Has rs a → Has rs b → extent_at a ≡ extent_at b → a ≡ b
one_extent [] s a b h k e = absurd h
one_extent (r ∷ rs) s a b (inl f) (inl g) e = sym f ∙ g
one_extent (r ∷ rs) s a b (inl f) (inr k) e =
    let x : extent_at r ≡ extent_at b = ap extent_at f ∙ e in
    let y = s.0 (extent_at b) (to_map extent_at rs b k) in
    absurd (sooner_apart (extent_at b) (extent_at b) (subst (λ (z : Extent). Sooner z (extent_at b)) x y) (subst (λ (z : Extent). Sooner z (extent_at b)) x y))
one_extent (r ∷ rs) s a b (inr h) (inl g) e =
    let x : extent_at r ≡ extent_at a = ap extent_at g ∙ sym e in
    let y = s.0 (extent_at a) (to_map extent_at rs a h) in
    absurd (sooner_apart (extent_at a) (extent_at a) (subst (λ (z : Extent). Sooner z (extent_at a)) x y) (subst (λ (z : Extent). Sooner z (extent_at a)) x y))
one_extent (r ∷ rs) s a b (inr h) (inr k) e = one_extent rs s.1 a b h k e

same_tables :
    (a : ℕ) (ts us : List TableAt) → PlacedTables a ts → PlacedTables a us → length ts ≡ length us →
    ((k : ℕ) (t u : TableAt) → slice_get ts k ≡ Some t → slice_get us k ≡ Some u → t.slots ≡ u.slots) → ts ≡ us
same_tables a [] [] p q n f = refl
same_tables a [] (u ∷ us) p q n f = absurd (omega (arith, n))
same_tables a (t ∷ ts) [] p q n f = absurd (omega (arith, n))
same_tables a (t ∷ ts) (u ∷ us) p q n f =
    let s : t.slots ≡ u.slots = f 0 t u refl refl in
    let e : t ≡ u =
    ap (λ (x : ℕ). let y : TableAt = record { start = x; slots = t.slots } in y) (p.0 ∙ sym q.0)
    ∙ ap (λ (x : List Target). let y : TableAt = record { start = u.start; slots = x } in y) s in
    let r = same_tables (round_16 a + 8 * length t.slots) ts us p.1
    (subst (λ (x : List Target). PlacedTables (round_16 a + 8 * length x) us) (sym s) q.1) (omega (arith, n)) (λ k x y g h. f (suc k) x y g h) in
    ap (λ (x : TableAt). x ∷ ts) e ∙ ap (λ (xs : List TableAt). u ∷ xs) r

same_regions : (a : ℕ) (rs qs : List RegionAt) → PlacedRegions a rs → PlacedRegions a qs → map extent_at rs ≡ map extent_at qs → rs ≡ qs
same_regions a [] [] p q e = refl
same_regions a [] (y ∷ ys) p q e = cc
same_regions a (x ∷ xs) [] p q e = cc
same_regions a (x ∷ xs) (y ∷ ys) p q e =
    let f : extent_at x ≡ extent_at y = cc in
    let g : map extent_at xs ≡ map extent_at ys = cc in
    let region : x.region ≡ y.region = ap (λ (z : Extent). z.0) f in
    let size : x.size ≡ y.size = ap (λ (z : Extent). z.1) f in
    let same : x ≡ y =
    ap (λ (z : Region). let w : RegionAt = record { region = z; address = x.address; size = x.size } in w) region
    ∙ ap (λ (z : ℕ). let w : RegionAt = record { region = y.region; address = z; size = x.size } in w) (p.0 ∙ sym q.0)
    ∙ ap (λ (z : ℕ). let w : RegionAt = record { region = y.region; address = y.address; size = z } in w) size in
    let r = same_regions (round_16 a + x.size) xs ys p.1 (subst (λ (z : ℕ). PlacedRegions (round_16 a + z) ys) (sym size) q.1) g in
    ap (λ (z : RegionAt). z ∷ xs) same ∙ ap (λ (zs : List RegionAt). y ∷ zs) r

same_numbers : (xs ys : List ℕ) → length xs ≡ length ys → ((k : ℕ) → k < length xs → slice_index_or xs k 0 ≡ slice_index_or ys k 0) → xs ≡ ys
same_numbers [] [] n f = refl
same_numbers [] (y ∷ ys) n f = absurd (omega (arith, n))
same_numbers (x ∷ xs) [] n f = absurd (omega (arith, n))
same_numbers (x ∷ xs) (y ∷ ys) n f =
    ap (λ (z : ℕ). z ∷ xs) (f 0 (omega arith))
    ∙ ap (λ (zs : List ℕ). y ∷ zs) (same_numbers xs ys (omega (arith, n)) (λ k h. f (suc k) (omega (arith, h))))

-- ---- layouts

module _ (p : ProgramView) (prog : IsProgram p) (g h : GraphView) (l m : LayoutView) (glift : IsLifted p g) (hlift : IsLifted p h) (lay : IsLayoutOf p g l) (may : IsLayoutOf p h m) where
  counts : l.counts ≡ m.counts
  counts = lay.data_part.counts ∙ glift.counts ∙ sym hlift.counts ∙ sym may.data_part.counts

  object_tables : l.object_tables ≡ m.object_tables
  object_tables = lay.data_part.object_tables ∙ glift.tables ∙ sym hlift.tables ∙ sym may.data_part.object_tables

  tables : l.tables ≡ m.tables
  tables =
      same_tables data_base l.tables m.tables lay.data_part.tables may.data_part.tables
      (lay.data_part.number ∙ ap table_count (glift.tables ∙ sym hlift.tables) ∙ sym may.data_part.number)
      (λ k t u e f.
      lay.data_part.slots k t e ∙ own_slots p prog g glift k ∙ sym (own_slots p prog h hlift k) ∙ sym (may.data_part.slots k u f))

  extents : map extent_at l.regions ≡ map extent_at m.regions
  extents =
      one_order Sooner sooner_apart (map extent_at l.regions) (map extent_at m.regions) (in_order l.regions lay.data_part.order) (in_order m.regions may.data_part.order)
      (λ x k. shuffled (map extent_of p.regions) (map extent_at m.regions) x (IsPermutation-sym _ _ may.data_part.extents) (shuffled (map extent_at l.regions) (map extent_of p.regions) x lay.data_part.extents k))
      (λ x k. shuffled (map extent_of p.regions) (map extent_at l.regions) x (IsPermutation-sym _ _ lay.data_part.extents) (shuffled (map extent_at m.regions) (map extent_of p.regions) x may.data_part.extents k))

  regions : l.regions ≡ m.regions
  regions =
      same_regions (tables_end data_base l.tables) l.regions m.regions lay.data_part.regions
      (subst (λ (ts : List TableAt). PlacedRegions (tables_end data_base ts) m.regions) (sym tables) may.data_part.regions) extents

  number_at : (k : ℕ) → k < length l.positions → slice_index_or l.positions k 0 ≡ slice_index_or m.positions k 0
  number_at k lt =
      let n = lay.places ∙ ap place_count glift.counts in
      let q = every_number (counts_of p) k (omega (arith, n, lt)) in
      let x = lay.positions q.0 (subst (λ (cs : List ℕ). IsPlaceOf cs q.0) (sym glift.counts) q.1) ∙ own_number p prog g glift q.0 q.1 in
      let y = may.positions q.0 (subst (λ (cs : List ℕ). IsPlaceOf cs q.0) (sym hlift.counts) q.1) ∙ own_number p prog h hlift q.0 q.1 in
      let a : place_number l.counts q.0 ≡ k = ap (λ (cs : List ℕ). place_number cs q.0) (lay.data_part.counts ∙ glift.counts) ∙ q.2 in
      let b : place_number m.counts q.0 ≡ k = ap (λ (cs : List ℕ). place_number cs q.0) (may.data_part.counts ∙ hlift.counts) ∙ q.2 in
      ap (λ (j : ℕ). slice_index_or l.positions j 0) (sym a) ∙ x ∙ sym y ∙ ap (λ (j : ℕ). slice_index_or m.positions j 0) b

  positions : l.positions ≡ m.positions
  positions = same_numbers l.positions m.positions (lay.places ∙ ap place_count (glift.counts ∙ sym hlift.counts) ∙ sym may.places) number_at

  pub one_layout : l ≡ m
  one_layout =
      ap (λ (x : List ℕ). let v : LayoutView = record { counts = x; object_tables = l.object_tables; tables = l.tables; regions = l.regions; positions = l.positions } in v) counts
      ∙ ap (λ (x : List ℕ). let v : LayoutView = record { counts = m.counts; object_tables = x; tables = l.tables; regions = l.regions; positions = l.positions } in v) object_tables
      ∙ ap (λ (x : List TableAt). let v : LayoutView = record { counts = m.counts; object_tables = m.object_tables; tables = x; regions = l.regions; positions = l.positions } in v) tables
      ∙ ap (λ (x : List RegionAt). let v : LayoutView = record { counts = m.counts; object_tables = m.object_tables; tables = m.tables; regions = x; positions = l.positions } in v) regions
      ∙ ap (λ (x : List ℕ). let v : LayoutView = record { counts = m.counts; object_tables = m.object_tables; tables = m.tables; regions = m.regions; positions = x } in v) positions
