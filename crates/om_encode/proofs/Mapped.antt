-- Lists and maps as the encoder makes them, step by step.
use Rattle.std.proofs.Common.{◌≡◌, ℕ, suc, ◌+◌, ◌-◌, ◌*◌, ◌/◌, ◌%◌, ◌^◌, ◌<◌, ◌≤◌, Bool, true, false, cond, if◌then◌else◌, ◌==◌, List, [], ◌∷◌, ◌++◌, length, get_or, take, drop, Option, Some, None, refl, ap, sym, subst, ◌∙◌, arith, slice_index_or, append_assoc}
use Rattle.std.specs.Prelude.{pos, ◌-ℤ◌, find, All, IfSome, FitsSigned, slice_get, option_and_then, unwrap_or}
use Rattle.std.specs.Int.{w32, cast_unsigned}
use Rattle.std.proofs.Math.Decide.{dec_le}
use Rattle.std.proofs.lemmas.Int.{ints}
use Rattle.std.proofs.lemmas.Bool.Decides.{nat_tests}
use Rattle.std.proofs.lemmas.Option.{slice_get-get_or, slice_get_read}
use Rattle.std.proofs.lemmas.List.{drop_more}
use Rattle.om_fields.specs.Bytes.{Grows, zeros}
use Rattle.om_fields.specs.Places.{each}
use Rattle.om_fields.proofs.Each.{each-snoc}
use Rattle.om_value.specs.declared.value.Region.{Region}
use Rattle.om_value.specs.Same.{region_eq}
use Rattle.om_prog.specs.declared.item.Item.{Item}
use Rattle.om_prog.specs.declared.item.Field.{Field}
use Rattle.om_prog.specs.declared.region.RegionInit.{RegionInit}
use Rattle.om_prog.specs.View.{ProgramView, text_of, word_count, item_at, init_of}
use Rattle.om_prog.specs.Valid.{IsProgram}
use Rattle.om_layout.specs.Layout.{LayoutView, TableAt, RegionAt}
use Rattle.om_layout.specs.Order.{round_16, PlacedTables, PlacedRegions, tables_end, regions_end}
use Rattle.om_encode.specs.declared.numbering.RegionNumbers.{RegionNumbers}
use Rattle.om_encode.specs.Data.{RoleFits, DistanceFits}
use Rattle.om_encode.specs.DataBytes.{number_in, numbered, with_fields, with_pieces, pieces_of, region_pieces, FillsRegion}
use Rattle.om_encode.proofs.Laid.{pieces_append}
use Rattle.om_encode.proofs.Overlaid.{fields_past, fills}
use Rattle.om_encode.proofs.Sources.{all_at}
use Rattle.om_encode.proofs.Start.{find_all}
use Rattle.om_encode.proofs.Whole.{all_of}

pub each_snoc : {X : Type 0} (f : ℕ → X) (n : ℕ) → each f (n + 1) ≡ each f n ++ f n ∷ []
each_snoc f n = each-snoc f n

-- ---- words of a text

pub few_words : (p : ProgramView) (obj : ℕ) → IsProgram p → word_count p obj < 2 ^ 30
few_words p obj prog = by_text (slice_get p.texts obj) refl
  where
    by_text : (o : Option (List Item)) → slice_get p.texts obj ≡ o → length (unwrap_or o []) < 2 ^ 30
    by_text None e = omega arith
    by_text (Some text) e = (prog.texts.each obj text e).words

pub item_is : (p : ProgramView) (obj k : ℕ) → item_at p (record { obj = obj; off = 4 * k }) ≡ slice_get (text_of p obj) k
item_is p obj k =
    let a : (4 * k % 4 == 0) ≡ true = grind (arith, nat_tests) in
    let b : 4 * k / 4 ≡ k = omega arith in
    rw a (ap (λ (n : ℕ). option_and_then (λ (t : List Item). slice_get t n) (slice_get p.texts obj)) b ∙ by_text (slice_get p.texts obj))
  where
    by_text : (o : Option (List Item)) → option_and_then (λ (t : List Item). slice_get t k) o ≡ slice_get (unwrap_or o []) k
    by_text None = refl
    by_text (Some text) = refl

-- ---- regions by number

-- from the region before: m counts down
pub number_step :
    (old new : RegionNumbers) (regions : List RegionInit) (m : ℕ) (x : RegionInit) → 0 < m → m ≤ length regions → x ≡ get_or regions (m - 1) x →
    ((q : Region) → number_in new q ≡ (if region_eq (get_or regions (m - 1) x).region q then Some (m - 1) else number_in old q)) →
    ((r : Region) → numbered old regions r ≡ find (λ (i : RegionInit). region_eq i.region r) (drop m regions)) →
    (r : Region) → numbered new regions r ≡ find (λ (i : RegionInit). region_eq i.region r) (drop (m - 1) regions)
number_step old new regions m x some le is added was r =
    ap (option_and_then (slice_get regions)) (added r ∙ ap (λ (y : RegionInit). if region_eq y.region r then Some (m - 1) else number_in old r) (sym is))
    ∙ by_test (region_eq x.region r)
    ∙ ap (λ (rs : List RegionInit). find (λ (i : RegionInit). region_eq i.region r) rs) (sym rest)
  where
    below : m - 1 < length regions
    below = omega (arith, some, le)

    at : slice_get regions (m - 1) ≡ Some x
    at = slice_get_read regions (length regions) (m - 1) x refl below is

    back : m - 1 + 1 ≡ m
    back = omega (arith, some)

    rest : drop (m - 1) regions ≡ x ∷ drop m regions
    rest = drop_more regions (m - 1) x below ∙ ap (λ (y : RegionInit). y ∷ drop (m - 1 + 1) regions) (sym is) ∙ ap (λ (k : ℕ). x ∷ drop k regions) back

    by_test :
        (b : Bool) →
        option_and_then (slice_get regions) (if b then Some (m - 1) else number_in old r)
        ≡ cond b (Some x) (find (λ (i : RegionInit). region_eq i.region r) (drop m regions))
    by_test true = at
    by_test false = was r

-- one more word of a text
pub roles_more :
    (p : ProgramView) (obj k : ℕ) → k < word_count p obj → IfSome (item_at p (record { obj = obj; off = 4 * k })) (λ (i : Item). RoleFits i.role) →
    ((j : ℕ) (d : Item) → j < k → RoleFits (slice_index_or (text_of p obj) j d).role) →
    (j : ℕ) (d : Item) → j < k + 1 → RoleFits (slice_index_or (text_of p obj) j d).role
roles_more p obj k lt here before j d h = by_place (dec_le k j)
  where
    at : (text : List Item) → k < length text → IfSome (slice_get text k) (λ (i : Item). RoleFits i.role) → RoleFits (slice_index_or text k d).role
    at text lt f = subst (λ (o : Option Item). IfSome o (λ (i : Item). RoleFits i.role)) (slice_get-get_or text k d lt) f

    by_place : Dec (k ≤ j) → RoleFits (slice_index_or (text_of p obj) j d).role
    by_place (no n) = before j d (omega (arith, n))
    by_place (yes le) =
        let e : k ≡ j = omega (arith, le, h) in
        subst (λ (n : ℕ). RoleFits (slice_index_or (text_of p obj) n d).role) e
        (at (text_of p obj) lt (subst (λ (o : Option Item). IfSome o (λ (i : Item). RoleFits i.role)) (item_is p obj k) here))

-- of all texts
pub texts_all :
    (p : ProgramView) → ((j : ℕ) → j < length p.texts → All (λ (i : Item). RoleFits i.role) (text_of p j)) →
    All (λ (text : List Item). All (λ (i : Item). RoleFits i.role) text) p.texts
texts_all p h k d lt =
    subst (λ (text : List Item). All (λ (i : Item). RoleFits i.role) text) (ap (λ (o : Option (List Item)). unwrap_or o []) (slice_get-get_or p.texts k d lt)) (h k lt)

-- ---- bytes

-- the low bits of a distance
pub low_distance : (a g : ℕ) → a < 2 ^ 64 → g < 2 ^ 64 → FitsSigned w32 (pos a -ℤ pos g) → (a + (2 ^ 64 - g)) % 2 ^ 64 % 4294967296 ≡ cast_unsigned w32 (pos a -ℤ pos g)
low_distance a g h k f = omega (arith, ints)

-- a region behind what was written
pub region_grown :
    (l : LayoutView) (old front mid new bytes zs : List ℕ) (fs : List Field) (n len : ℕ) → front ≡ old ++ bytes → Grows front mid zs →
    zs ≡ zeros n → new ≡ with_fields l (length old) fs mid → length new ≡ length mid → len ≡ length mid →
    Grows old (take len (new ++ drop (length new) mid)) (with_fields l 0 fs (bytes ++ zeros n))
region_grown l old front mid new bytes zs fs n len e grown are put same is = record {
  by = all ∙ put ∙ ap (with_fields l (length old) fs) behind ∙ fields_past l old (bytes ++ zeros n) fs;
}
  where
    behind : mid ≡ old ++ (bytes ++ zeros n)
    behind = grown.by ∙ ap (λ (xs : List ℕ). front ++ xs) are ∙ ap (λ (xs : List ℕ). xs ++ zeros n) e ∙ append_assoc old bytes (zeros n)

    none_left : (xs : List ℕ) → drop (length xs) xs ≡ []
    none_left [] = refl
    none_left (x ∷ xs) = none_left xs

    all_taken : (xs : List ℕ) → take (length xs) (xs ++ []) ≡ xs
    all_taken [] = refl
    all_taken (x ∷ xs) = ap (λ ys. x ∷ ys) (all_taken xs)

    all : take len (new ++ drop (length new) mid) ≡ new
    all =
        ap (λ (k : ℕ). take len (new ++ drop k mid)) same ∙ ap (λ (xs : List ℕ). take len (new ++ xs)) (none_left mid)
        ∙ ap (λ (k : ℕ). take k (new ++ [])) (is ∙ sym same) ∙ all_taken new

-- ---- ends

pub last_table : (a : ℕ) (ts : List TableAt) (t : TableAt) → PlacedTables a ts → Some t ≡ slice_get ts (length ts - 1) → t.start + 8 * length t.slots ≡ tables_end a ts
last_table a [] t h e = cc
last_table a (x ∷ []) t h e =
    let s : t ≡ x = cc in
    let at = h.0 in
    ap (λ (y : TableAt). y.start + 8 * length y.slots) s ∙ omega (arith, at)
last_table a (x ∷ y ∷ ts) t h e =
    let i : suc (suc (length ts)) - 1 ≡ suc (suc (length ts) - 1) = omega arith in
    last_table (round_16 a + 8 * length x.slots) (y ∷ ts) t h.1 (e ∙ ap (slice_get (x ∷ y ∷ ts)) i)

pub last_region : (a : ℕ) (es : List RegionAt) (r : RegionAt) → PlacedRegions a es → Some r ≡ slice_get es (length es - 1) → r.address + r.size ≡ regions_end a es
last_region a [] r h e = cc
last_region a (x ∷ []) r h e =
    let s : r ≡ x = cc in
    let at = h.0 in
    ap (λ (y : RegionAt). y.address + y.size) s ∙ omega (arith, at)
last_region a (x ∷ y ∷ es) r h e =
    let i : suc (suc (length es)) - 1 ≡ suc (suc (length es) - 1) = omega arith in
    last_region (round_16 a + x.size) (y ∷ es) r h.1 (e ∙ ap (slice_get (x ∷ y ∷ es)) i)

-- ---- regions of a program

pub found_fills :
    (p : ProgramView) (l : LayoutView) → IsProgram p → All (λ (q : RegionInit). All (λ (f : Field). DistanceFits l f.value) q.fields) p.regions →
    (r : Region) (i : RegionInit) → init_of p r ≡ Some i → FillsRegion l i
found_fills p l prog distances r i e =
    (find_all (λ (q : RegionInit). FillsRegion l q) (λ (q : RegionInit). region_eq q.region r) p.regions i
    (all_of (λ (q : RegionInit). FillsRegion l q) p.regions
    (λ k q f. fills p l q (prog.regions.each k q f) (all_at (λ (q : RegionInit). All (λ (f : Field). DistanceFits l f.value) q.fields) p.regions k q distances f))) e).0

-- one more region of a layout
pub regions_step :
    (p : ProgramView) (l : LayoutView) (items es : List RegionAt) (k : ℕ) (e : RegionAt) (init : Option RegionInit) (old new all : List ℕ) →
    items ≡ es → k < length items → e ≡ get_or items k e → init ≡ init_of p e.region → new ≡ with_pieces (pieces_of l e init) old →
    with_pieces (region_pieces l p (drop k es)) old ≡ all → with_pieces (region_pieces l p (drop (k + 1) es)) new ≡ all
regions_step p l items es k e init old new all same lt is found put was =
    ap (with_pieces (region_pieces l p (drop (k + 1) es))) (put ∙ ap (λ (o : Option RegionInit). with_pieces (pieces_of l e o) old) found)
    ∙ sym (pieces_append (pieces_of l e (init_of p e.region)) (region_pieces l p (drop (k + 1) es)) old)
    ∙ ap (λ (xs : List RegionAt). with_pieces (region_pieces l p xs) old) (sym rest)
    ∙ was
  where
    rest : drop k es ≡ e ∷ drop (k + 1) es
    rest =
        ap (λ (xs : List RegionAt). drop k xs) (sym same) ∙ drop_more items k e lt ∙ ap (λ (y : RegionAt). y ∷ drop (k + 1) items) (sym is)
        ∙ ap (λ (xs : List RegionAt). e ∷ drop (k + 1) xs) same
