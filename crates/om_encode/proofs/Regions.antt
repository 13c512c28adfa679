-- The regions and tables of a layout are apart and mapped.
use Rattle.std.proofs.Common.{◌≡◌, ℕ, zero, suc, ◌+◌, ◌-◌, ◌*◌, ◌/◌, ◌%◌, ◌^◌, ◌<◌, ◌≤◌, Bool, true, false, cond, nat_le, List, [], ◌∷◌, length, Option, Some, None, refl, ap, sym, subst, ◌∙◌, arith}
use Rattle.std.specs.Prelude.{slice_get, slice_index, find}
use Rattle.std.proofs.lemmas.Bool.Decides.{nat_tests}
use Rattle.om_value.specs.declared.value.Region.{Region}
use Rattle.om_value.specs.declared.value.Region.TheVariants.{Sec, Common, Stack, Heap}
use Rattle.om_value.specs.declared.value.Target.{Target}
use Rattle.om_value.specs.declared.value.Target.TheVariants as target
use Rattle.om_value.specs.Same.{region_eq}
use Rattle.om_value.specs.declared.value.Place.{Place}
use Rattle.om_prog.specs.View.{ProgramView, init_of, size_or_none, size_of}
use Rattle.om_prog.specs.Act.{Act, Plain, Lit, GpHi, GpLo, To, AddrLda, AddrHi, UseLo, UseGp, Wrong, Word}
use Rattle.om_prog.specs.Script.{program_fetch}
use Rattle.om_prog.specs.Step.{sized}
use Rattle.om_isa.specs.SystemCall.{heap_limit}
use Rattle.om_graph.specs.View.{GraphView}
use Rattle.om_graph.specs.Run.{graph_script}
use Rattle.om_image.specs.declared.image.Image.{Image}
use Rattle.om_image.specs.NumAccess.{is_mapped}
use Rattle.om_image.specs.NumStep.{data_size}
use Rattle.om_lockstep.specs.Addresses.{IsLaidOut, target_number}
use Rattle.om_lockstep.specs.Forms.{IsSlot}
use Rattle.om_lockstep.proofs.Small.{same_region}
use Rattle.om_layout.specs.Layout.{LayoutView, TableAt, RegionAt, text_base, data_base, stack_base, heap_base, region_at, address_or, position_of, start_at, start_or, address_of}
use Rattle.om_layout.specs.Order.{round_16, PlacedTables, tables_end, PlacedRegions, regions_end}
use Rattle.om_encode.specs.Halves.{FarLoad, far_of, far_or, half_by, half_of, addresses_of}
use Rattle.om_encode.proofs.Extents.{SizesMatch}

-- ---- regions one after the other

pub end_grows : (a : ℕ) (rs : List RegionAt) → a ≤ regions_end a rs
end_grows a [] = omega arith
end_grows a (r ∷ rs) = let h = end_grows (round_16 a + r.size) rs in omega (arith, h)

record IsIn (a : ℕ) (rs : List RegionAt) (r : Region) (e : RegionAt) : Type 0 where
  above : a ≤ e.address
  aligned : e.address % 16 ≡ 0
  below : e.address + e.size ≤ regions_end a rs
  named : region_eq e.region r ≡ true

is_in : (a : ℕ) (rs : List RegionAt) → PlacedRegions a rs → (r : Region) (e : RegionAt) → find (λ e. region_eq e.region r) rs ≡ Some e → IsIn a rs r e
is_in a [] h r e k = cc
is_in a (x ∷ xs) h r e k = by_test (is_in (round_16 a + x.size) xs h.1 r e) (region_eq x.region r) refl k
  where
    by_test : (find (λ e. region_eq e.region r) xs ≡ Some e → IsIn (round_16 a + x.size) xs r e) → (b : Bool) → region_eq x.region r ≡ b → cond b (Some x) (find (λ e. region_eq e.region r) xs) ≡ Some e → IsIn a (x ∷ xs) r e
    by_test again true t k =
        let same : x ≡ e = cc in
        let g = end_grows (round_16 a + x.size) xs in
        let at = h.0 in
        subst (λ y. IsIn a (x ∷ xs) r y) same (record { above = omega (arith, at); aligned = omega (arith, at); below = omega (arith, at, g); named = t })
    by_test again false t k =
        let i = again k in
        let at = i.above in
        record { above = omega (arith, at); aligned = i.aligned; below = i.below; named = i.named }

-- two that share an address are one
one_shared : (a : ℕ) (rs : List RegionAt) → PlacedRegions a rs → (r s : Region) (e f : RegionAt) (x y : ℕ) → find (λ e. region_eq e.region r) rs ≡ Some e → find (λ e. region_eq e.region s) rs ≡ Some f → x < e.size → y < f.size → e.address + x ≡ f.address + y → e ≡ f
one_shared a [] h r s e f x y k j hx hy same = cc
one_shared a (v ∷ vs) h r s e f x y k j hx hy same = by_tests (λ k j. one_shared (round_16 a + v.size) vs h.1 r s e f x y k j hx hy same) (region_eq v.region r) (region_eq v.region s) k j
  where
    by_tests : (find (λ e. region_eq e.region r) vs ≡ Some e → find (λ e. region_eq e.region s) vs ≡ Some f → e ≡ f) → (b d : Bool) → cond b (Some v) (find (λ e. region_eq e.region r) vs) ≡ Some e → cond d (Some v) (find (λ e. region_eq e.region s) vs) ≡ Some f → e ≡ f
    by_tests again true true k j = cc
    by_tests again false false k j = again k j
    by_tests again true false k j =
        let q : v ≡ e = cc in
        let i = (is_in (round_16 a + v.size) vs h.1 s f j).above in
        let at = h.0 in
        let ea : v.address ≡ e.address = ap (λ (r : RegionAt). r.address) q in
        let es : v.size ≡ e.size = ap (λ (r : RegionAt). r.size) q in
        absurd (omega (arith, i, at, ea, es))
    by_tests again false true k j =
        let q : v ≡ f = cc in
        let i = (is_in (round_16 a + v.size) vs h.1 r e k).above in
        let at = h.0 in
        let ea : v.address ≡ f.address = ap (λ (r : RegionAt). r.address) q in
        let es : v.size ≡ f.size = ap (λ (r : RegionAt). r.size) q in
        absurd (omega (arith, i, at, ea, es))

-- ---- tables

tables_grow : (a : ℕ) (ts : List TableAt) → a ≤ tables_end a ts
tables_grow a [] = omega arith
tables_grow a (t ∷ ts) = let h = tables_grow (round_16 a + 8 * length t.slots) ts in omega (arith, h)

pub got_in : {A : Type 0} (xs : List A) (k : ℕ) (x : A) → slice_get xs k ≡ Some x → k < length xs
got_in [] k x e = cc
got_in (y ∷ ys) zero x e = omega arith
got_in (y ∷ ys) (suc k) x e = let h = got_in ys k x e in omega arith

pub record IsTableIn (a : ℕ) (ts : List TableAt) (t : TableAt) : Type 0 where
  pub above : a ≤ t.start
  pub aligned : t.start % 16 ≡ 0
  pub below : t.start + 8 * length t.slots ≤ tables_end a ts

pub table_in : (a : ℕ) (ts : List TableAt) → PlacedTables a ts → (k : ℕ) (t : TableAt) → slice_get ts k ≡ Some t → IsTableIn a ts t
table_in a [] h k t e = cc
table_in a (x ∷ xs) h zero t e =
    let same : x ≡ t = cc in
    let g = tables_grow (round_16 a + 8 * length x.slots) xs in
    let at = h.0 in
    subst (IsTableIn a (x ∷ xs)) same (record { above = omega (arith, at); aligned = omega (arith, at); below = omega (arith, at, g) })
table_in a (x ∷ xs) h (suc k) t e =
    let i = table_in (round_16 a + 8 * length x.slots) xs h.1 k t e in
    let at = i.above in
    record { above = omega (arith, at); aligned = i.aligned; below = i.below }

mapped_data : (limit heap a n : ℕ) → data_base ≤ a → a + n ≤ data_base + limit → is_mapped limit heap a n ≡ true
mapped_data limit heap a n h k = grind (arith, nat_tests)

mapped_stack : (limit heap a n : ℕ) → stack_base ≤ a → a + n ≤ text_base → is_mapped limit heap a n ≡ true
mapped_stack limit heap a n h k = grind (arith, nat_tests)

mapped_heap : (limit heap a n : ℕ) → heap_base ≤ a → a + n ≤ heap_base + heap → is_mapped limit heap a n ≡ true
mapped_heap limit heap a n h k = grind (arith, nat_tests)

pub data_test : (a : ℕ) → data_base ≤ a → nat_le data_base a ≡ true
data_test a h = grind (arith, nat_tests)

-- ---- the layout of a program

-- a section or a common
abbrev pub IsGiven : Region → Type 0
IsGiven (Sec o n) = Unit {0}
IsGiven (Common n) = Unit {0}
IsGiven _ = ⊥

module _ (p : ProgramView) (l : LayoutView) (sizes : SizesMatch p l) (tables : PlacedTables data_base l.tables) (regions : PlacedRegions (tables_end data_base l.tables) l.regions) (limit : regions_end (tables_end data_base l.tables) l.regions ≤ data_base + 67108864) where
  abbrev pub most : Region → ℕ
  most r = sized (size_of p) heap_limit r

  given_at : (r : Region) → IsGiven r → region_at l r ≡ address_or (find (λ e. region_eq e.region r) l.regions)
  given_at (Sec o n) h = refl
  given_at (Common n) h = refl
  given_at Stack h = absurd h
  given_at Heap h = absurd h

  given_size : (r : Region) (heap : ℕ) → IsGiven r → sized (size_of p) heap r ≡ size_or_none (init_of p r)
  given_size (Sec o n) heap h = refl
  given_size (Common n) heap h = refl
  given_size Stack heap h = absurd h
  given_size Heap heap h = absurd h

  -- where a region is
  pub record Located (r : Region) : Type 0 where
    pub above : data_base ≤ region_at l r
    pub tabled : 0 < size_or_none (init_of p r) → tables_end data_base l.tables ≤ region_at l r
    pub aligned : region_at l r % 16 ≡ 0
    pub below : region_at l r + size_or_none (init_of p r) ≤ regions_end (tables_end data_base l.tables) l.regions

  pub located : (r : Region) → IsGiven r → Located r
  located r given = by_find (find (λ e. region_eq e.region r) l.regions) refl
    where
      by_find : (o : Option RegionAt) → find (λ e. region_eq e.region r) l.regions ≡ o → Located r
      by_find None e =
          let at : region_at l r ≡ data_base = given_at r given ∙ ap address_or e in
          let z = sizes.absent r e in
          let g1 = tables_grow data_base l.tables in
          let g2 = end_grows (tables_end data_base l.tables) l.regions in
          record { above = omega (arith, at); tabled = λ h. absurd (omega (arith, h, z)); aligned = omega (arith, at); below = omega (arith, at, z, g1, g2) }
      by_find (Some f) e =
          let at : region_at l r ≡ f.address = given_at r given ∙ ap address_or e in
          let z = sizes.known r f e in
          let i = is_in (tables_end data_base l.tables) l.regions regions r f e in
          let i1 = i.above in
          let i2 = i.aligned in
          let i3 = i.below in
          let g1 = tables_grow data_base l.tables in
          record { above = omega (arith, at, i1, g1); tabled = λ h. omega (arith, at, i1); aligned = omega (arith, at, i2); below = omega (arith, at, z, i3) }

  given_apart : (r s : Region) (x y : ℕ) → IsGiven r → IsGiven s → x < size_or_none (init_of p r) → y < size_or_none (init_of p s) → region_at l r + x ≡ region_at l s + y → r ≡ s
  given_apart r s x y gr gs hx hy same = by_find (find (λ e. region_eq e.region r) l.regions) (find (λ e. region_eq e.region s) l.regions) refl refl
    where
      by_find : (o q : Option RegionAt) → find (λ e. region_eq e.region r) l.regions ≡ o → find (λ e. region_eq e.region s) l.regions ≡ q → r ≡ s
      by_find None q e f = let z = sizes.absent r e in absurd (omega (arith, hx, z))
      by_find (Some v) None e f = let z = sizes.absent s f in absurd (omega (arith, hy, z))
      by_find (Some v) (Some w) e f =
          let av : region_at l r ≡ v.address = given_at r gr ∙ ap address_or e in
          let aw : region_at l s ≡ w.address = given_at s gs ∙ ap address_or f in
          let zv = sizes.known r v e in
          let zw = sizes.known s w f in
          let one : v ≡ w = one_shared (tables_end data_base l.tables) l.regions regions r s v w x y e f (omega (arith, hx, zv)) (omega (arith, hy, zw)) (omega (arith, same, av, aw)) in
          let nv = same_region v.region r (is_in (tables_end data_base l.tables) l.regions regions r v e).named in
          let nw = same_region w.region s (is_in (tables_end data_base l.tables) l.regions regions s w f).named in
          sym nv ∙ ap (λ (r : RegionAt). r.region) one ∙ nw

  -- ---- all regions

  region_aligned : (r : Region) → region_at l r % 16 ≡ 0
  region_aligned (Sec o n) = (located (Sec o n) tt).aligned
  region_aligned (Common n) = (located (Common n) tt).aligned
  region_aligned Stack = refl
  region_aligned Heap = refl

  region_above : (r : Region) → 0x10000 ≤ region_at l r
  region_above (Sec o n) = let h = (located (Sec o n) tt).above in omega (arith, h)
  region_above (Common n) = let h = (located (Common n) tt).above in omega (arith, h)
  region_above Stack = omega arith
  region_above Heap = omega arith

  region_below : (r : Region) → region_at l r + most r < 2 ^ 63
  region_below (Sec o n) = let h = (located (Sec o n) tt).below in omega (arith, h, limit)
  region_below (Common n) = let h = (located (Common n) tt).below in omega (arith, h, limit)
  region_below Stack = omega arith
  region_below Heap = omega arith

  -- data lies below the heap and above the stack
  between : (r : Region) (x : ℕ) → IsGiven r → x < most r → (data_base ≤ region_at l r + x) × (region_at l r + x < data_base + 67108864)
  between r x g h =
      let i = located r g in
      let a = i.above in
      let b = i.below in
      let z = given_size r heap_limit g in
      (omega (arith, a), omega (arith, b, z, h, limit))

  region_apart : (r s : Region) (x y : ℕ) → x < most r → y < most s → region_at l r + x ≡ region_at l s + y → r ≡ s
  region_apart (Sec o n) (Sec q m) x y hx hy e = given_apart (Sec o n) (Sec q m) x y tt tt hx hy e
  region_apart (Sec o n) (Common m) x y hx hy e = given_apart (Sec o n) (Common m) x y tt tt hx hy e
  region_apart (Common n) (Sec q m) x y hx hy e = given_apart (Common n) (Sec q m) x y tt tt hx hy e
  region_apart (Common n) (Common m) x y hx hy e = given_apart (Common n) (Common m) x y tt tt hx hy e
  region_apart (Sec o n) Stack x y hx hy e = let b = between (Sec o n) x tt hx in absurd (omega (arith, b.0, hy, e))
  region_apart (Sec o n) Heap x y hx hy e = let b = between (Sec o n) x tt hx in absurd (omega (arith, b.1, hy, e))
  region_apart (Common n) Stack x y hx hy e = let b = between (Common n) x tt hx in absurd (omega (arith, b.0, hy, e))
  region_apart (Common n) Heap x y hx hy e = let b = between (Common n) x tt hx in absurd (omega (arith, b.1, hy, e))
  region_apart Stack (Sec q m) x y hx hy e = let b = between (Sec q m) y tt hy in absurd (omega (arith, b.0, hx, e))
  region_apart Heap (Sec q m) x y hx hy e = let b = between (Sec q m) y tt hy in absurd (omega (arith, b.1, hx, e))
  region_apart Stack (Common m) x y hx hy e = let b = between (Common m) y tt hy in absurd (omega (arith, b.0, hx, e))
  region_apart Heap (Common m) x y hx hy e = let b = between (Common m) y tt hy in absurd (omega (arith, b.1, hx, e))
  region_apart Stack Stack x y hx hy e = refl
  region_apart Heap Heap x y hx hy e = refl
  region_apart Stack Heap x y hx hy e = absurd (omega (arith, hx, hy, e))
  region_apart Heap Stack x y hx hy e = absurd (omega (arith, hx, hy, e))

  pub table_start : (k : ℕ) → (data_base ≤ start_at l k) × (start_at l k ≤ data_base + 67108864)
  table_start k = by_got (slice_get l.tables k) refl
    where
      by_got : (o : Option TableAt) → slice_get l.tables k ≡ o → (data_base ≤ start_or (slice_get l.tables k)) × (start_or (slice_get l.tables k) ≤ data_base + 67108864)
      by_got None e = rw e (omega arith, omega arith)
      by_got (Some t) e =
          let i = table_in data_base l.tables tables k t e in
          let a = i.above in
          let b = i.below in
          let g = end_grows (tables_end data_base l.tables) l.regions in
          rw e (omega (arith, a), omega (arith, b, g, limit))

  far_small : (obj : ℕ) (o : Option FarLoad) → far_or l obj o < 2 ^ 64
  far_small obj None = omega arith
  far_small obj (Some f) = omega arith

  half_small : (obj : ℕ) (w : Option Word) (o : Option FarLoad) → half_of l obj w o < 2 ^ 64
  half_small obj None o = far_small obj o
  half_small obj (Some w) o = by_act w.act
    where
      by_act : (a : Act) → half_by l obj a o < 2 ^ 64
      by_act (GpHi ra rb base) = omega arith
      by_act (Plain i) = far_small obj o
      by_act (Lit ra rb t) = far_small obj o
      by_act (GpLo ra rb hi) = far_small obj o
      by_act (To op ra q) = far_small obj o
      by_act (AddrLda ra rb t) = far_small obj o
      by_act (AddrHi ra rb t) = far_small obj o
      by_act (UseLo i hi t) = far_small obj o
      by_act (UseGp i gp t) = far_small obj o
      by_act Wrong = far_small obj o

  module _ (g : GraphView) (positions : (q : Place) → position_of l q ≤ 4194304) where
    pub is_laid_out : IsLaidOut (addresses_of p g l) most
    is_laid_out = record {
      aligned = region_aligned;
      above = region_above;
      below = region_below;
      apart = region_apart;
      code_aligned = λ q. omega arith;
      code_above = λ q. omega arith;
      code_below = λ q. let h = positions q in omega (arith, h);
      gp = λ k. let h = table_start k in omega (arith, h.1);
      half = λ q. half_small q.obj (program_fetch p q) (far_of g.blocks q);
    }

  -- all but the heap lies below the heap
  pub given_low : (r : Region) (x : ℕ) → (r ≡ Heap → ⊥) → x < most r → region_at l r + x < heap_base
  given_low (Sec o n) x n2 h = let b = between (Sec o n) x tt h in let b1 = b.1 in omega (arith, b1)
  given_low (Common n) x n2 h = let b = between (Common n) x tt h in let b1 = b.1 in omega (arith, b1)
  given_low Stack x n2 h = omega arith
  given_low Heap x n2 h = absurd (n2 refl)

  -- ---- memory that can be reached

  module _ (i : Image) (whole : data_base + data_size i ≡ regions_end (tables_end data_base l.tables) l.regions) where
    given_mapped : (r : Region) (x n heap : ℕ) → IsGiven r → 0 < n → x + n ≤ sized (size_of p) heap r → is_mapped (data_size i) heap (region_at l r + x) n ≡ true
    given_mapped r x n heap given some fits =
        let d = located r given in
        let a = d.above in
        let b = d.below in
        let z = given_size r heap given in
        let lo : data_base ≤ region_at l r + x = omega (arith, a) in
        let hi : region_at l r + x + n ≤ data_base + data_size i = omega (arith, b, z, fits, whole) in
        mapped_data (data_size i) heap (region_at l r + x) n lo hi

    pub all_mapped : (r : Region) (x n heap : ℕ) → heap ≤ heap_limit → 0 < n → x + n ≤ sized (size_of p) heap r → is_mapped (data_size i) heap (region_at l r + x) n ≡ true
    all_mapped (Sec o k) x n heap small some fits = given_mapped (Sec o k) x n heap tt some fits
    all_mapped (Common k) x n heap small some fits = given_mapped (Common k) x n heap tt some fits
    all_mapped Stack x n heap small some fits = mapped_stack (data_size i) heap (stack_base + x) n (omega arith) (omega arith)
    all_mapped Heap x n heap small some fits = mapped_heap (data_size i) heap (heap_base + x) n (omega arith) (omega arith)

    -- a slot
    pub slot_at : (g : GraphView) (k j : ℕ) (t : TableAt) (u : Target) → slice_get l.tables k ≡ Some t → slice_get t.slots j ≡ Some u → ((b : ℕ) → b < 8 → slice_index i.bytes (t.start + 8 * j + b - data_base) ≡ address_of l u / 256 ^ b % 256) → IsSlot (graph_script p g) (addresses_of p g l) i (start_at l k + 8 * j) u
    slot_at g k j t u e f holds =
        let at : start_at l k ≡ t.start = ap start_or e in
        let d = table_in data_base l.tables tables k t e in
        let a = d.above in
        let al = d.aligned in
        let b = d.below in
        let lt = got_in t.slots j u f in
        let grown = end_grows (tables_end data_base l.tables) l.regions in
        subst (λ s. IsSlot (graph_script p g) (addresses_of p g l) i (s + 8 * j) u) (sym at)
        (record {
          aligned = omega (arith, al);
          mapped = λ heap. mapped_data (data_size i) heap (t.start + 8 * j) 8 (omega (arith, a)) (omega (arith, b, lt, whole, grown));
          fixed = λ m h. record {
            below = omega (arith, b, lt, h, grown, limit);
            outside = slot_outside (t.start + 8 * j + m) (omega (arith, a)) (omega (arith, b, lt, h));
          };
          holds =
              λ m h. let low : nat_le data_base (t.start + 8 * j + m) ≡ true = data_test (t.start + 8 * j + m) (omega (arith, a)) in
              rw low (holds m h ∙ ap (λ n. n / 256 ^ m % 256) (target_same u));
        })
      where
        target_same : (u : Target) → address_of l u ≡ target_number (addresses_of p g l) u
        target_same (target.Num n) = refl
        target_same (target.Ptr r x) = refl
        target_same (target.Code q) = refl

        given_outside : (a : ℕ) → a < tables_end data_base l.tables → (r : Region) (x : ℕ) → IsGiven r → x < most r → a ≡ region_at l r + x → ⊥
        given_outside a h r x given hx e =
            let z = given_size r heap_limit given in
            let d = (located r given).tabled (omega (arith, z, hx)) in
            omega (arith, d, h, e)

        slot_outside : (a : ℕ) → data_base ≤ a → a < tables_end data_base l.tables → (r : Region) (x : ℕ) → x < most r → a ≡ region_at l r + x → ⊥
        slot_outside a h0 h (Sec o n) x hx e = given_outside a h (Sec o n) x tt hx e
        slot_outside a h0 h (Common n) x hx e = given_outside a h (Common n) x tt hx e
        slot_outside a h0 h Stack x hx e = omega (arith, hx, e, h0)
        slot_outside a h0 h Heap x hx e = let g = end_grows (tables_end data_base l.tables) l.regions in omega (arith, hx, e, h, limit, g)
