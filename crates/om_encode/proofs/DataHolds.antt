-- Where the data of an image is what is put at the addresses of a layout, the map is true of it.
use Rattle.std.proofs.Common.{◌≡◌, ◌⊎◌, inl, inr, ℕ, zero, suc, ◌+◌, ◌-◌, ◌*◌, ◌/◌, ◌%◌, ◌^◌, ◌<◌, ◌≤◌, Bool, true, false, cond, if◌then◌else◌, List, [], ◌∷◌, ◌++◌, length, get_or, Option, Some, None, refl, ap, sym, subst, ◌∙◌, arith, length-append}
use Rattle.std.specs.Prelude.{map, find, slice_get, slice_index}
use Rattle.std.specs.Int.{bytes_low_first, byte_at}
use Rattle.std.proofs.lemmas.List.{get_or_append_left, get_or-append_right}
use Rattle.std.proofs.lemmas.List.Sorted.{Contains-permutation, IsPermutation-sym}
use Rattle.byteorder.specs.Endian.{little_bytes}
use Rattle.om_value.specs.declared.value.Region.{Region}
use Rattle.om_value.specs.declared.value.Region.TheVariants.{Sec, Common, Stack, Heap}
use Rattle.om_value.specs.declared.value.Target.{Target}
use Rattle.om_value.specs.Same.{region_eq}
use Rattle.om_prog.specs.declared.region.RegionInit.{RegionInit}
use Rattle.om_prog.specs.View.{ProgramView, init_of}
use Rattle.om_prog.specs.Valid.{IsProgram, IsRegionInit, is_given}
use Rattle.om_graph.specs.View.{GraphView, Has}
use Rattle.om_graph.proofs.Labels.{has_append, append_left, append_right}
use Rattle.om_graph.proofs.OfProgram.{of_map, to_map, same_some, index_below}
use Rattle.om_lockstep.proofs.Small.{same_region, region_self}
use Rattle.om_layout.specs.Layout.{LayoutView, TableAt, RegionAt, data_base, is_region, address_or, region_at, address_of}
use Rattle.om_layout.specs.Order.{round_16, extent_at, extent_of, PlacedTables, PlacedRegions, tables_end, regions_end, IsDataLayout}
use Rattle.om_encode.specs.Data.{InSlot, InRegion, region_byte, zero_or, is_zero, given_from, data_given, data_end}
use Rattle.om_encode.specs.DataBytes.{Piece, with_pieces, slots_bytes, table_piece, table_pieces, pieces_of, region_pieces, content, data_bytes}
use Rattle.om_encode.proofs.Laid.{Ascends, pieces_end, pieces_length, piece_stands, IsOutside, none_stands, pieces_append, ends_append, ascends_append}
use Rattle.om_encode.proofs.Overlaid.{content_length, content_at, zero_at}
use Rattle.om_encode.proofs.Valid.{got_map, map_got, some_at, has_at, index_at, contains_at}

-- ---- lists

at_has : {A : Type 0} (xs : List A) (x : A) → Has xs x → (k : ℕ) × (slice_get xs k ≡ Some x)
at_has [] x h = absurd h
at_has (y ∷ ys) x (inl e) = (0, ap (λ z. Some z) e)
at_has (y ∷ ys) x (inr h) = let r = at_has ys x h in (suc r.0, r.1)

-- ---- slots

little_at : (k m n b : ℕ) → b < m → get_or (bytes_low_first k m n) b 0 ≡ byte_at (k + b) n
little_at k zero n b h = absurd (omega arith)
little_at k (suc m) n zero h = let e : k ≡ k + 0 = omega arith in ap (λ (i : ℕ). byte_at i n) e
little_at k (suc m) n (suc b) h = let e : suc k + b ≡ k + suc b = omega arith in little_at (suc k) m n b (omega (arith, h)) ∙ ap (λ (i : ℕ). byte_at i n) e

byte_is : (b n : ℕ) → byte_at b n ≡ n / 256 ^ b % 256
byte_is zero n = omega arith
byte_is (suc b) n = refl

slots_length : (l : LayoutView) (ts : List Target) → length (slots_bytes l ts) ≡ 8 * length ts
slots_length l [] = refl
slots_length l (t ∷ ts) =
    let a = length-append (little_bytes 8 (address_of l t)) (slots_bytes l ts) in
    let b = slots_length l ts in
    omega (arith, a, b)

slot_at : (l : LayoutView) (ts : List Target) (j : ℕ) (u : Target) (b : ℕ) → slice_get ts j ≡ Some u → b < 8 → get_or (slots_bytes l ts) (8 * j + b) 0 ≡ address_of l u / 256 ^ b % 256
slot_at l [] j u b e h = cc
slot_at l (t ∷ ts) zero u b e h =
    let s : t ≡ u = cc in
    let i : 8 * 0 + b ≡ b = omega arith in
    let k : 0 + b ≡ b = omega arith in
    ap (λ (n : ℕ). get_or (slots_bytes l (t ∷ ts)) n 0) i
    ∙ get_or_append_left (little_bytes 8 (address_of l t)) (slots_bytes l ts) 0 b h
    ∙ little_at 0 8 (address_of l t) b h
    ∙ ap (λ (n : ℕ). byte_at n (address_of l t)) k
    ∙ byte_is b (address_of l t)
    ∙ ap (λ (x : Target). address_of l x / 256 ^ b % 256) s
slot_at l (t ∷ ts) (suc j) u b e h =
    let i : 8 * suc j + b - 8 ≡ 8 * j + b = omega arith in
    get_or-append_right (little_bytes 8 (address_of l t)) (slots_bytes l ts) 8 (8 * suc j + b) 0 refl (omega arith)
    ∙ ap (λ (n : ℕ). get_or (slots_bytes l ts) n 0) i ∙ slot_at l ts j u b e h

-- ---- tables in order

tables_laid : (l : LayoutView) (a : ℕ) (ts : List TableAt) → PlacedTables a ts → Ascends a (table_pieces l ts) × (pieces_end a (table_pieces l ts) ≡ tables_end a ts)
tables_laid l a [] h = (tt, refl)
tables_laid l a (t ∷ ts) h =
    let n = slots_length l t.slots in
    let at = h.0 in
    let e : round_16 a + 8 * length t.slots ≡ t.start + length (slots_bytes l t.slots) = omega (arith, n, at) in
    let r = tables_laid l (round_16 a + 8 * length t.slots) ts h.1 in (
      (omega (arith, at), subst (λ (b : ℕ). Ascends b (table_pieces l ts)) e r.0),
      ap (λ (b : ℕ). pieces_end b (table_pieces l ts)) (sym e) ∙ r.1,
    )

table_above : (a : ℕ) (ts : List TableAt) (t : TableAt) → PlacedTables a ts → Has ts t → a ≤ t.start
table_above a [] t h k = absurd k
table_above a (x ∷ xs) t h (inl e) = let at = h.0 in let s = ap (λ (y : TableAt). y.start) e in omega (arith, at, s)
table_above a (x ∷ xs) t h (inr k) = let r = table_above (round_16 a + 8 * length x.slots) xs t h.1 k in omega (arith, r)

tables_grow : (a : ℕ) (ts : List TableAt) → a ≤ tables_end a ts
tables_grow a [] = omega arith
tables_grow a (t ∷ ts) = let h = tables_grow (round_16 a + 8 * length t.slots) ts in omega (arith, h)

table_below : (a : ℕ) (ts : List TableAt) (t : TableAt) → PlacedTables a ts → Has ts t → t.start + 8 * length t.slots ≤ tables_end a ts
table_below a [] t h k = absurd k
table_below a (x ∷ xs) t h (inl e) =
    let at = h.0 in
    let s = ap (λ (y : TableAt). y.start + 8 * length y.slots) e in
    let g = tables_grow (round_16 a + 8 * length x.slots) xs in
    omega (arith, at, s, g)
table_below a (x ∷ xs) t h (inr k) = table_below (round_16 a + 8 * length x.slots) xs t h.1 k

-- ---- regions in order

region_above : (a : ℕ) (es : List RegionAt) (e : RegionAt) → PlacedRegions a es → Has es e → a ≤ e.address
region_above a [] e h k = absurd k
region_above a (x ∷ xs) e h (inl s) = let at = h.0 in let f = ap (λ (y : RegionAt). y.address) s in omega (arith, at, f)
region_above a (x ∷ xs) e h (inr k) = let r = region_above (round_16 a + x.size) xs e h.1 k in omega (arith, r)

-- two that have an address are one
one_region :
    (a : ℕ) (es : List RegionAt) (e f : RegionAt) (n : ℕ) → PlacedRegions a es → Has es e → Has es f →
    e.address ≤ n → n < e.address + e.size → f.address ≤ n → n < f.address + f.size → e ≡ f
one_region a [] e f n h k m p q s t = absurd k
one_region a (x ∷ xs) e f n h (inl i) (inl j) p q s t = sym i ∙ j
one_region a (x ∷ xs) e f n h (inl i) (inr m) p q s t =
    let r = region_above (round_16 a + x.size) xs f h.1 m in
    let at = h.0 in
    let u = ap (λ (y : RegionAt). y.address + y.size) i in
    absurd (omega (arith, r, at, u, q, s))
one_region a (x ∷ xs) e f n h (inr k) (inl j) p q s t =
    let r = region_above (round_16 a + x.size) xs e h.1 k in
    let at = h.0 in
    let u = ap (λ (y : RegionAt). y.address + y.size) j in
    absurd (omega (arith, r, at, u, p, t))
one_region a (x ∷ xs) e f n h (inr k) (inr m) p q s t = one_region (round_16 a + x.size) xs e f n h.1 k m p q s t

-- ---- a layout's region in the program

record IsKnown (p : ProgramView) (e : RegionAt) : Type 0 where
  init : RegionInit
  found : init_of p e.region ≡ Some init
  size : init.size ≡ e.size
  is : IsRegionInit p init

found_own :
    (rs : List RegionInit) →
    ((j k : ℕ) (a b : RegionInit) → j < k → slice_get rs j ≡ Some a → slice_get rs k ≡ Some b → region_eq a.region b.region ≡ false) →
    (k : ℕ) (q : RegionInit) → slice_get rs k ≡ Some q → find (λ (i : RegionInit). region_eq i.region q.region) rs ≡ Some q
found_own [] h k q e = cc
found_own (v ∷ vs) h zero q e =
    let s : v ≡ q = cc in
    let t : region_eq v.region q.region ≡ true = ap (λ (x : RegionInit). region_eq v.region x.region) (sym s) ∙ region_self v.region in
    rw t (ap (λ x. Some x) s)
found_own (v ∷ vs) h (suc k) q e =
    let t = h 0 (suc k) v q (omega arith) refl e in
    rw t (found_own vs (λ i j a b lt f g. h (suc i) (suc j) a b (omega (arith, lt)) f g) k q e)

abbrev piece_of : LayoutView → RegionAt → RegionInit → Piece
piece_of l e r = record { at = e.address; bytes = content l r }

-- a region and those behind it, by what the program gives for it
abbrev RegionLaid : ProgramView → LayoutView → ℕ → RegionAt → List RegionAt → Option RegionInit → Type 0
RegionLaid p l b e es o =
    Ascends b (pieces_of l e o ++ region_pieces l p es)
    × (pieces_end b (pieces_of l e o ++ region_pieces l p es) ≡ given_from p (if zero_or o then b else e.address + e.size) es)

regions_laid :
    (p : ProgramView) (l : LayoutView) (a b : ℕ) (es : List RegionAt) → b ≤ a → PlacedRegions a es → ((e : RegionAt) → Has es e → IsKnown p e) →
    Ascends b (region_pieces l p es) × (pieces_end b (region_pieces l p es) ≡ given_from p b es)
regions_laid p l a b [] le h known = (tt, refl)
regions_laid p l a b (e ∷ es) le h known =
    subst (RegionLaid p l b e es) (sym here.found) (by_zero here.init.zero (λ c lt. regions_laid p l (round_16 a + e.size) c es lt h.1 (λ x m. known x (inr m))))
  where
    here : IsKnown p e
    here = known e (inl refl)

    by_zero :
        (z : Bool) →
        ((c : ℕ) → c ≤ round_16 a + e.size → Ascends c (region_pieces l p es) × (pieces_end c (region_pieces l p es) ≡ given_from p c es)) →
        Ascends b ((if z then [] else piece_of l e here.init ∷ []) ++ region_pieces l p es)
        × (pieces_end b ((if z then [] else piece_of l e here.init ∷ []) ++ region_pieces l p es) ≡ given_from p (if z then b else e.address + e.size) es)
    by_zero true again = again b (omega (arith, le))
    by_zero false again =
        let n = content_length p l here.init here.is in
        let s = here.size in
        let at = h.0 in
        let same : e.address + length (content l here.init) ≡ e.address + e.size = omega (arith, n, s) in
        let r = again (e.address + length (content l here.init)) (omega (arith, same, at)) in
        ((omega (arith, le, at), r.0), r.1 ∙ ap (λ (c : ℕ). given_from p c es) same)

-- the region of a piece
record IsRegionPiece (p : ProgramView) (l : LayoutView) (es : List RegionAt) (x : Piece) : Type 0 where
  region : RegionAt
  among : Has es region
  init : RegionInit
  found : init_of p region.region ≡ Some init
  given : init.zero ≡ false
  piece : piece_of l region init ≡ x

piece_from : (p : ProgramView) (l : LayoutView) (es : List RegionAt) (x : Piece) → Has (region_pieces l p es) x → IsRegionPiece p l es x
piece_from p l [] x h = absurd h
piece_from p l (e ∷ es) x h = by_part (has_append (pieces_of l e (init_of p e.region)) (region_pieces l p es) x h) (piece_from p l es x)
  where
    by_zero : (r : RegionInit) → init_of p e.region ≡ Some r → (z : Bool) → r.zero ≡ z → Has (if z then [] else piece_of l e r ∷ []) x → IsRegionPiece p l (e ∷ es) x
    by_zero r f true s h = absurd h
    by_zero r f false s (inl i) = record { region = e; among = inl refl; init = r; found = f; given = s; piece = i }
    by_zero r f false s (inr i) = absurd i

    by_init : (o : Option RegionInit) → init_of p e.region ≡ o → Has (pieces_of l e o) x → IsRegionPiece p l (e ∷ es) x
    by_init None f h = absurd h
    by_init (Some r) f h = by_zero r f r.zero refl h

    by_part : Has (pieces_of l e (init_of p e.region)) x ⊎ Has (region_pieces l p es) x → (Has (region_pieces l p es) x → IsRegionPiece p l es x) → IsRegionPiece p l (e ∷ es) x
    by_part (inl h) again = by_init (init_of p e.region) refl h
    by_part (inr h) again =
        let r = again h in
        record { region = r.region; among = inr r.among; init = r.init; found = r.found; given = r.given; piece = r.piece }

piece_there : (p : ProgramView) (l : LayoutView) (es : List RegionAt) (e : RegionAt) (r : RegionInit) → Has es e → init_of p e.region ≡ Some r → r.zero ≡ false → Has (region_pieces l p es) (piece_of l e r)
piece_there p l [] e r h f z = absurd h
piece_there p l (x ∷ xs) e r (inl s) f z =
    append_left (pieces_of l x (init_of p x.region)) (region_pieces l p xs) (piece_of l e r)
    (subst (λ (y : RegionAt). Has (pieces_of l y (init_of p y.region)) (piece_of l e r)) (sym s)
    (subst (λ (o : Option RegionInit). Has (pieces_of l e o) (piece_of l e r)) (sym f)
    (subst (λ (b : Bool). Has (if b then [] else piece_of l e r ∷ []) (piece_of l e r)) (sym z) (inl refl))))
piece_there p l (x ∷ xs) e r (inr h) f z = append_right (pieces_of l x (init_of p x.region)) (region_pieces l p xs) (piece_of l e r) (piece_there p l xs e r h f z)

-- ---- the end of the data

given_most : (p : ProgramView) (a b : ℕ) (es : List RegionAt) → a ≤ b → PlacedRegions b es → given_from p a es ≤ regions_end b es
given_most p a b [] le h = le
given_most p a b (e ∷ es) le h = by_zero (is_zero p e) (λ c lt. given_most p c (round_16 b + e.size) es lt h.1)
  where
    by_zero :
        (z : Bool) → ((c : ℕ) → c ≤ round_16 b + e.size → given_from p c es ≤ regions_end (round_16 b + e.size) es) →
        given_from p (if z then a else e.address + e.size) es ≤ regions_end (round_16 b + e.size) es
    by_zero true again = again a (omega (arith, le))
    by_zero false again = again (e.address + e.size) (let at = h.0 in omega (arith, at))

-- ---- the data

module _ (p : ProgramView) (g : GraphView) (l : LayoutView) (prog : IsProgram p) (lay : IsDataLayout p g l) where
  known : (e : RegionAt) → Has l.regions e → IsKnown p e
  known e h =
      let k = at_has l.regions e h in
      let c = Contains-permutation (map extent_at l.regions) (map extent_of p.regions) (extent_at e) lay.extents
      (contains_at (map extent_at l.regions) k.0 (extent_at e) (map_got extent_at l.regions k.0 e k.1)) in
      let s = some_at (map extent_of p.regions) c.0 c.1 in
      let q = got_map extent_of p.regions c.0 s.0 s.1 in
      let same : s.0 ≡ extent_at e = index_at (map extent_of p.regions) c.0 s.0 (extent_at e) s.1 ∙ c.2 in
      let region : q.0.region ≡ e.region = ap (λ (x : Region × ℕ). x.0) (q.2 ∙ same) in
      record {
        init = q.0;
        found = subst (λ (r : Region). init_of p r ≡ Some q.0) region (found_own p.regions prog.once.apart c.0 q.0 q.1);
        size = ap (λ (x : Region × ℕ). x.1) (q.2 ∙ same);
        is = prog.regions.each c.0 q.0 q.1;
      }

  -- a region of the program in the layout
  record IsPlaced (q : RegionInit) : Type 0 where
    at : RegionAt
    among : Has l.regions at
    region : at.region ≡ q.region
    address : region_at l q.region ≡ at.address
    size : q.size ≡ at.size

  given_at : (r : Region) → is_given r ≡ true → region_at l r ≡ address_or (find (is_region r) l.regions)
  given_at (Sec o n) e = refl
  given_at (Common s) e = refl
  given_at Stack e = cc
  given_at Heap e = cc

  found_has : (es : List RegionAt) (r : Region) (e : RegionAt) → find (is_region r) es ≡ Some e → Has es e × (e.region ≡ r)
  found_has [] r e f = cc
  found_has (v ∷ vs) r e f = by_test (found_has vs r e) (region_eq v.region r) refl f
    where
      by_test : (find (is_region r) vs ≡ Some e → Has vs e × (e.region ≡ r)) → (b : Bool) → region_eq v.region r ≡ b → cond b (Some v) (find (is_region r) vs) ≡ Some e → Has (v ∷ vs) e × (e.region ≡ r)
      by_test again true t f = let s : v ≡ e = cc in (inl s, subst (λ (x : RegionAt). x.region ≡ r) s (same_region v.region r t))
      by_test again false t f = let h = again f in (inr h.0, h.1)

  none_has : (es : List RegionAt) (r : Region) (e : RegionAt) → find (is_region r) es ≡ None → Has es e → e.region ≡ r → ⊥
  none_has [] r e f h s = h
  none_has (v ∷ vs) r e f h s = by_test (none_has vs r e) (region_eq v.region r) refl f h
    where
      differ : {b : Bool} → b ≡ true → b ≡ false → ⊥
      differ i j = cc

      by_test : (find (is_region r) vs ≡ None → Has vs e → e.region ≡ r → ⊥) → (b : Bool) → region_eq v.region r ≡ b → cond b (Some v) (find (is_region r) vs) ≡ None → Has (v ∷ vs) e → ⊥
      by_test again true t f h = some_none f
        where
          some_none : Some v ≡ None → ⊥
          some_none i = cc
      by_test again false t f (inl i) =
          differ (ap (λ (x : RegionAt). region_eq x.region r) i ∙ ap (λ (x : Region). region_eq x r) s ∙ region_self r) t
      by_test again false t f (inr h) = again f h s

  placed : (k : ℕ) (q : RegionInit) → slice_get p.regions k ≡ Some q → IsPlaced q
  placed k q e = by_find (find (is_region q.region) l.regions) refl
    where
      there : (u : RegionAt) × Has l.regions u × (u.region ≡ q.region)
      there =
          let c = Contains-permutation (map extent_of p.regions) (map extent_at l.regions) (extent_of q)
          (IsPermutation-sym (map extent_at l.regions) (map extent_of p.regions) lay.extents)
          (contains_at (map extent_of p.regions) k (extent_of q) (map_got extent_of p.regions k q e)) in
          let s = some_at (map extent_at l.regions) c.0 c.1 in
          let u = got_map extent_at l.regions c.0 s.0 s.1 in
          let same : s.0 ≡ extent_of q = index_at (map extent_at l.regions) c.0 s.0 (extent_of q) s.1 ∙ c.2 in
          (u.0, has_at l.regions c.0 u.0 u.1, ap (λ (x : Region × ℕ). x.0) (u.2 ∙ same))

      by_find : (o : Option RegionAt) → find (is_region q.region) l.regions ≡ o → IsPlaced q
      by_find None f = absurd (none_has l.regions q.region there.0 f there.1 there.2)
      by_find (Some u) f =
          let h = found_has l.regions q.region u f in
          let i = known u h.0 in
          let own : init_of p u.region ≡ Some q = subst (λ (r : Region). init_of p r ≡ Some q) (sym h.1) (found_own p.regions prog.once.apart k q e) in
          let same : i.init ≡ q = same_some (sym i.found ∙ own) in
          record {
            at = u;
            among = h.0;
            region = h.1;
            address = given_at q.region (prog.regions.each k q e).form.given ∙ ap address_or f;
            size = ap (λ (x : RegionInit). x.size) (sym same) ∙ i.size;
          }

  abbrev pieces : List Piece
  pieces = table_pieces l l.tables ++ region_pieces l p l.regions

  tables_are : Ascends data_base (table_pieces l l.tables) × (pieces_end data_base (table_pieces l l.tables) ≡ tables_end data_base l.tables)
  tables_are = tables_laid l data_base l.tables lay.tables

  regions_are : Ascends (pieces_end data_base (table_pieces l l.tables)) (region_pieces l p l.regions) × (pieces_end (pieces_end data_base (table_pieces l l.tables)) (region_pieces l p l.regions) ≡ given_from p (pieces_end data_base (table_pieces l l.tables)) l.regions)
  regions_are =
      let e = tables_are.1 in
      regions_laid p l (tables_end data_base l.tables) (pieces_end data_base (table_pieces l l.tables)) l.regions (omega (arith, e)) lay.regions known

  ascends : Ascends data_base pieces
  ascends = ascends_append data_base (table_pieces l l.tables) (region_pieces l p l.regions) tables_are.0 regions_are.0

  bytes_are : data_bytes l p ≡ with_pieces pieces []
  bytes_are = sym (pieces_append (table_pieces l l.tables) (region_pieces l p l.regions) [])

  pub bytes_end : data_base + length (data_bytes l p) ≡ data_given p l
  bytes_end =
      ap (λ (xs : List ℕ). data_base + length xs) bytes_are ∙ pieces_length pieces [] ascends
      ∙ ends_append data_base (table_pieces l l.tables) (region_pieces l p l.regions)
      ∙ regions_are.1 ∙ ap (λ (a : ℕ). given_from p a l.regions) tables_are.1

  pub given_end : data_given p l ≤ data_end p l
  given_end = given_most p (tables_end data_base l.tables) (tables_end data_base l.tables) l.regions (omega arith) lay.regions

  piece_byte : (x : Piece) (j : ℕ) → Has pieces x → j < length x.bytes → data_base ≤ x.at → slice_index (data_bytes l p) (x.at + j - data_base) ≡ get_or x.bytes j 0
  piece_byte x j h lt le =
      let e : x.at + j - data_base ≡ x.at - data_base + j = omega (arith, le) in
      ap (λ (xs : List ℕ). get_or xs (x.at + j - data_base) 0) bytes_are ∙ ap (λ (n : ℕ). get_or (with_pieces pieces []) n 0) e
      ∙ piece_stands pieces [] ascends x j h lt

  free_byte : (a : ℕ) → data_base ≤ a → IsOutside pieces a → slice_index (data_bytes l p) (a - data_base) ≡ 0
  free_byte a le f =
      let e : a ≡ data_base + (a - data_base) = omega (arith, le) in
      ap (λ (xs : List ℕ). get_or xs (a - data_base) 0) bytes_are
      ∙ none_stands pieces [] ascends (a - data_base) (omega arith) (subst (λ (n : ℕ). IsOutside pieces n) e f)

  -- ---- what stands at addresses

  pub slot_byte :
      (k : ℕ) (t : TableAt) (j : ℕ) (u : Target) (b : ℕ) → slice_get l.tables k ≡ Some t → slice_get t.slots j ≡ Some u → b < 8 →
      slice_index (data_bytes l p) (t.start + 8 * j + b - data_base) ≡ address_of l u / 256 ^ b % 256
  slot_byte k t j u b e f h =
      let has = has_at l.tables k t e in
      let low = table_above data_base l.tables t lay.tables has in
      let n = slots_length l t.slots in
      let lt = index_below t.slots j u f in
      let i : t.start + 8 * j + b - data_base ≡ t.start + (8 * j + b) - data_base = omega arith in
      ap (λ (m : ℕ). slice_index (data_bytes l p) m) i
      ∙ piece_byte (table_piece l t) (8 * j + b) (append_left (table_pieces l l.tables) (region_pieces l p l.regions) (table_piece l t) (to_map (table_piece l) l.tables t has)) (omega (arith, n, lt, h)) low
      ∙ slot_at l t.slots j u b f h

  region_low : (e : RegionAt) → Has l.regions e → tables_end data_base l.tables ≤ e.address
  region_low e h = region_above (tables_end data_base l.tables) l.regions e lay.regions h

  -- no piece has an address of a region that is zero
  outside_zero : (e : RegionAt) (r : RegionInit) → Has l.regions e → init_of p e.region ≡ Some r → r.zero ≡ true → (x : ℕ) → x < e.size → IsOutside pieces (e.address + x)
  outside_zero e r h f z x lt y m a b = by_part (has_append (table_pieces l l.tables) (region_pieces l p l.regions) y m)
    where
      differ : {b : Bool} → b ≡ true → b ≡ false → ⊥
      differ i j = cc

      by_part : Has (table_pieces l l.tables) y ⊎ Has (region_pieces l p l.regions) y → ⊥
      by_part (inl i) =
          let t = of_map (table_piece l) l.tables y i in
          let below = table_below data_base l.tables t.0 lay.tables t.1 in
          let n = slots_length l t.0.slots in
          let s = ap (λ (v : Piece). v.at + length v.bytes) t.2 in
          let low = region_low e h in
          omega (arith, below, n, s, low, b)
      by_part (inr i) =
          let q = piece_from p l l.regions y i in
          let k = known q.region q.among in
          let same_init : k.init ≡ q.init = same_some (sym k.found ∙ q.found) in
          let n = content_length p l q.init (subst (λ (v : RegionInit). IsRegionInit p v) same_init k.is) in
          let size : q.init.size ≡ q.region.size = ap (λ (v : RegionInit). v.size) (sym same_init) ∙ k.size in
          let pa = ap (λ (v : Piece). v.at) q.piece in
          let pb = ap (λ (v : Piece). length v.bytes) q.piece in
          let one = one_region (tables_end data_base l.tables) l.regions e q.region (e.address + x) lay.regions h q.among (omega arith) (omega (arith, lt)) (omega (arith, pa, a)) (omega (arith, pa, pb, n, size, b)) in
          let same : r ≡ q.init = same_some (sym f ∙ ap (λ (v : RegionAt). init_of p v.region) one ∙ q.found) in
          differ z (ap (λ (v : RegionInit). v.zero) same ∙ q.given)

  pub region_bytes : (k : ℕ) (q : RegionInit) → slice_get p.regions k ≡ Some q → (x : ℕ) → x < q.size → slice_index (data_bytes l p) (region_at l q.region + x - data_base) ≡ region_byte l q x
  region_bytes k q e x lt = ap (λ (a : ℕ). slice_index (data_bytes l p) (a + x - data_base)) at.address ∙ by_zero q.zero refl
    where
      at : IsPlaced q
      at = placed k q e

      is : IsRegionInit p q
      is = prog.regions.each k q e

      found : init_of p at.at.region ≡ Some q
      found = subst (λ (r : Region). init_of p r ≡ Some q) (sym at.region) (found_own p.regions prog.once.apart k q e)

      low : data_base ≤ at.at.address
      low = let a = region_low at.at at.among in let b = tables_grow data_base l.tables in omega (arith, a, b)

      by_zero : (z : Bool) → q.zero ≡ z → slice_index (data_bytes l p) (at.at.address + x - data_base) ≡ region_byte l q x
      by_zero true z =
          let s = at.size in
          let le = low in
          free_byte (at.at.address + x) (omega (arith, le)) (outside_zero at.at q at.among found z x (omega (arith, lt, s)))
          ∙ sym (zero_at p l q is z x)
      by_zero false z =
          let n = content_length p l q is in
          piece_byte (piece_of l at.at q) x (append_right (table_pieces l l.tables) (region_pieces l p l.regions) (piece_of l at.at q) (piece_there p l l.regions at.at q at.among found z)) (omega (arith, n, lt)) low
          ∙ content_at p l q is x

  pub other_byte : (a : ℕ) → data_base ≤ a → (InSlot l a → ⊥) → (InRegion l a → ⊥) → slice_index (data_bytes l p) (a - data_base) ≡ 0
  other_byte a le s r = free_byte a le outside
    where
      outside : IsOutside pieces a
      outside y m b c = by_part (has_append (table_pieces l l.tables) (region_pieces l p l.regions) y m)
        where
          by_part : Has (table_pieces l l.tables) y ⊎ Has (region_pieces l p l.regions) y → ⊥
          by_part (inl i) =
              let t = of_map (table_piece l) l.tables y i in
              let n = slots_length l t.0.slots in
              let pa = ap (λ (v : Piece). v.at) t.2 in
              let pb = ap (λ (v : Piece). length v.bytes) t.2 in
              let k = at_has l.tables t.0 t.1 in
              s (k.0, t.0, k.1, omega (arith, pa, b), omega (arith, pa, pb, n, c))
          by_part (inr i) =
              let q = piece_from p l l.regions y i in
              let k = known q.region q.among in
              let same_init : k.init ≡ q.init = same_some (sym k.found ∙ q.found) in
              let n = content_length p l q.init (subst (λ (v : RegionInit). IsRegionInit p v) same_init k.is) in
              let size : q.init.size ≡ q.region.size = ap (λ (v : RegionInit). v.size) (sym same_init) ∙ k.size in
              let pa = ap (λ (v : Piece). v.at) q.piece in
              let pb = ap (λ (v : Piece). length v.bytes) q.piece in
              let j = at_has l.regions q.region q.among in
              r (j.0, q.region, j.1, omega (arith, pa, b), omega (arith, pa, pb, n, size, c))
