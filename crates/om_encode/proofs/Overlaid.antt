-- Fields over the bytes of their region: each field holds its value, and what lies under none stays.
use Rattle.std.proofs.Common.{◌≡◌, ℕ, suc, ◌+◌, ◌-◌, ◌<◌, ◌≤◌, Bool, true, false, cond, ◌&&◌, nat_lt, List, [], ◌∷◌, ◌++◌, length, get_or, Option, Some, None, refl, ap, sym, subst, ◌∙◌, arith, length-append}
use Rattle.std.specs.Prelude.{find, slice_get, slice_index, All}
use Rattle.std.proofs.lemmas.Bool.Decides.{nat_tests}
use Rattle.std.proofs.lemmas.List.{get_or_append_left, get_or-append_right}
use Rattle.std.proofs.Math.Decide.{dec_le}
use Rattle.om_fields.specs.Bytes.{zeros}
use Rattle.om_value.specs.declared.value.Value.{Value}
use Rattle.om_value.specs.declared.value.Value.TheVariants.{Num, Ptr, Code, Gp, Half, GpOff}
use Rattle.om_prog.specs.declared.item.Field.{Field}
use Rattle.om_prog.specs.declared.region.RegionInit.{RegionInit}
use Rattle.om_prog.specs.View.{ProgramView, is_word}
use Rattle.om_prog.specs.Script.{covers}
use Rattle.om_prog.specs.Valid.{are_apart, IsField, IsRegionInit, width_of, has_region, is_near_target}
use Rattle.om_lockstep.proofs.Small.{cond_some}
use Rattle.om_layout.specs.Layout.{LayoutView}
use Rattle.om_encode.specs.Data.{DistanceFits, value_bytes, field_byte, region_byte}
use Rattle.om_encode.specs.DataBytes.{overlay, with_fields, content, FillsRegion}
use Rattle.om_encode.proofs.Laid.{zeros_length, zeros_at, past_all, overlay_length, overlay_in, overlay_out, overlay_past}
use Rattle.om_encode.proofs.Whole.{all_of}

-- ---- behind other bytes

pub fields_past : (l : LayoutView) (out zone : List ℕ) (fs : List Field) → with_fields l (length out) fs (out ++ zone) ≡ out ++ with_fields l 0 fs zone
fields_past l out zone [] = refl
fields_past l out zone (f ∷ fs) =
    let e : 0 + f.off ≡ f.off = omega arith in
    ap (with_fields l (length out) fs) (overlay_past out zone (value_bytes l f.value) f.off)
    ∙ fields_past l out (overlay f.off (value_bytes l f.value) zone) fs
    ∙ ap (λ (n : ℕ). out ++ with_fields l 0 fs (overlay n (value_bytes l f.value) zone)) (sym e)

-- ---- fields that lie apart

-- each lies within so many bytes, and has its width
abbrev pub AreWithin : LayoutView → ℕ → List Field → Type 0
AreWithin l size [] = Unit {0}
AreWithin l size (f ∷ fs) = (f.off + f.width ≤ size) × (length (value_bytes l f.value) ≡ f.width) × AreWithin l size fs

abbrev pub ApartFrom : Field → List Field → Type 0
ApartFrom f [] = Unit {0}
ApartFrom f (g ∷ gs) = (are_apart f g ≡ true) × ApartFrom f gs

abbrev pub AllApart : List Field → Type 0
AllApart [] = Unit {0}
AllApart (f ∷ fs) = ApartFrom f fs × AllApart fs

pub fields_length : (l : LayoutView) (fs : List Field) (xs : List ℕ) → AreWithin l (length xs) fs → length (with_fields l 0 fs xs) ≡ length xs
fields_length l [] xs h = refl
fields_length l (f ∷ fs) xs h =
    let a = h.0 in
    let b = h.1 in
    let e = overlay_length (0 + f.off) (value_bytes l f.value) xs (omega (arith, a, b)) in
    fields_length l fs (overlay (0 + f.off) (value_bytes l f.value) xs) (subst (λ (n : ℕ). AreWithin l n fs) (sym e) h.2) ∙ e

not_both : (f g : Field) (x : ℕ) → covers x f ≡ true → are_apart f g ≡ true → covers x g ≡ false
not_both f g x e a = grind (arith, nat_tests)

none_covers : (f : Field) (gs : List Field) (x : ℕ) → covers x f ≡ true → ApartFrom f gs → find (covers x) gs ≡ None
none_covers f [] x e a = refl
none_covers f (g ∷ gs) x e a = let n = not_both f g x e a.0 in rw n (none_covers f gs x e a.1)

covers_is : (x : ℕ) (f : Field) → covers x f ≡ true → (f.off ≤ x) × (x < f.off + f.width)
covers_is x f e = (grind (arith, nat_tests), grind (arith, nat_tests))

covers_not : (x : ℕ) (f : Field) → covers x f ≡ false → f.off ≤ x → x < f.off + f.width → ⊥
covers_not x f e a b = grind (arith, nat_tests)

-- the byte at a place: of the field there, or of what lies under the fields
abbrev pub byte_or : LayoutView → List ℕ → ℕ → Option Field → ℕ
byte_or l xs x None = get_or xs x 0
byte_or l xs x (Some f) = get_or (value_bytes l f.value) (x - f.off) 0

pub fields_at : (l : LayoutView) (fs : List Field) (xs : List ℕ) → AreWithin l (length xs) fs → AllApart fs → (x : ℕ) → get_or (with_fields l 0 fs xs) x 0 ≡ byte_or l xs x (find (covers x) fs)
fields_at l [] xs h a x = refl
fields_at l (f ∷ fs) xs h a x =
    by_test (covers x f) refl
    (fields_at l fs (overlay (0 + f.off) (value_bytes l f.value) xs) (subst (λ (n : ℕ). AreWithin l n fs) (sym (overlay_length (0 + f.off) (value_bytes l f.value) xs fits)) h.2) a.1 x)
  where
    fits : 0 + f.off + length (value_bytes l f.value) ≤ length xs
    fits = let b = h.0 in let c = h.1 in omega (arith, b, c)

    by_find :
        covers x f ≡ false → (o : Option Field) → byte_or l (overlay (0 + f.off) (value_bytes l f.value) xs) x o ≡ byte_or l xs x o
    by_find n None =
        let c = h.1 in
        overlay_out (0 + f.off) (value_bytes l f.value) xs fits x (λ p q. covers_not x f n (omega (arith, p)) (omega (arith, q, c)))
    by_find n (Some g) = refl

    by_test :
        (b : Bool) → covers x f ≡ b →
        get_or (with_fields l 0 fs (overlay (0 + f.off) (value_bytes l f.value) xs)) x 0 ≡ byte_or l (overlay (0 + f.off) (value_bytes l f.value) xs) x (find (covers x) fs) →
        get_or (with_fields l 0 fs (overlay (0 + f.off) (value_bytes l f.value) xs)) x 0 ≡ byte_or l xs x (cond b (Some f) (find (covers x) fs))
    by_test true t again =
        let r = covers_is x f t in
        let c = h.1 in
        let low = r.0 in
        let high = r.1 in
        let e : x - (0 + f.off) ≡ x - f.off = omega arith in
        again
        ∙ ap (byte_or l (overlay (0 + f.off) (value_bytes l f.value) xs) x) (none_covers f fs x t a.0)
        ∙ overlay_in (0 + f.off) (value_bytes l f.value) xs fits x (omega (arith, low)) (omega (arith, high, c))
        ∙ ap (λ (k : ℕ). get_or (value_bytes l f.value) k 0) e
    by_test false t again = again ∙ by_find t (find (covers x) fs)

-- ---- the fields of a program

pub value_width : (p : ProgramView) (l : LayoutView) (v : Value) (w : ℕ) → width_of p v ≡ Some w → length (value_bytes l v) ≡ w
value_width p l (Num n) w e = cc
value_width p l (Ptr r x) w e = (cond_some (has_region p r) 8 w e).1
value_width p l (Code q) w e = (cond_some (is_word p q) 8 w e).1
value_width p l (GpOff o t) w e = (cond_some (nat_lt o (length p.texts) && is_near_target p t) 4 w e).1
value_width p l (Gp o) w e = cc
value_width p l (Half q) w e = cc

within : (p : ProgramView) (l : LayoutView) (size : ℕ) (fs : List Field) → ((k : ℕ) (f : Field) → slice_get fs k ≡ Some f → IsField p size f) → AreWithin l size fs
within p l size [] h = tt
within p l size (f ∷ fs) h =
    let i = h 0 f refl in
    (i.inside, value_width p l f.value f.width i.width, within p l size fs (λ k g e. h (suc k) g e))

apart_from : (f : Field) (gs : List Field) → ((k : ℕ) (g : Field) → slice_get gs k ≡ Some g → are_apart f g ≡ true) → ApartFrom f gs
apart_from f [] h = tt
apart_from f (g ∷ gs) h = (h 0 g refl, apart_from f gs (λ k x e. h (suc k) x e))

all_apart : (fs : List Field) → ((j k : ℕ) (f g : Field) → j < k → slice_get fs j ≡ Some f → slice_get fs k ≡ Some g → are_apart f g ≡ true) → AllApart fs
all_apart [] h = tt
all_apart (f ∷ fs) h = (
  apart_from f fs (λ k g e. h 0 (suc k) f g (omega arith) refl e),
  all_apart fs (λ j k x y lt e i. h (suc j) (suc k) x y (omega (arith, lt)) e i),
)

-- ---- the bytes of a region

module _ (p : ProgramView) (l : LayoutView) (r : RegionInit) (is : IsRegionInit p r) where
  bare_length : length (r.bytes ++ zeros (r.size - length r.bytes)) ≡ r.size
  bare_length =
      let a = length-append r.bytes (zeros (r.size - length r.bytes)) in
      let b = zeros_length (r.size - length r.bytes) in
      let c = is.form.bytes in
      omega (arith, a, b, c)

  fields_within : AreWithin l (length (r.bytes ++ zeros (r.size - length r.bytes))) r.fields
  fields_within = subst (λ (n : ℕ). AreWithin l n r.fields) (sym bare_length) (within p l r.size r.fields is.fields.each)

  pub content_length : length (content l r) ≡ r.size
  content_length = fields_length l r.fields (r.bytes ++ zeros (r.size - length r.bytes)) fields_within ∙ bare_length

  bare_at : (x : ℕ) → get_or (r.bytes ++ zeros (r.size - length r.bytes)) x 0 ≡ slice_index r.bytes x
  bare_at x = by_place (dec_le (length r.bytes) x)
    where
      by_place : Dec (length r.bytes ≤ x) → get_or (r.bytes ++ zeros (r.size - length r.bytes)) x 0 ≡ slice_index r.bytes x
      by_place (yes le) =
          get_or-append_right r.bytes (zeros (r.size - length r.bytes)) (length r.bytes) x 0 refl le
          ∙ zeros_at (r.size - length r.bytes) (x - length r.bytes) ∙ sym (past_all r.bytes x le)
      by_place (no n) = get_or_append_left r.bytes (zeros (r.size - length r.bytes)) 0 x (omega (arith, n))

  pub content_at : (x : ℕ) → get_or (content l r) x 0 ≡ region_byte l r x
  content_at x =
      fields_at l r.fields (r.bytes ++ zeros (r.size - length r.bytes)) fields_within (all_apart r.fields is.fields.apart.apart) x
      ∙ by_find (find (covers x) r.fields)
    where
      by_find : (o : Option Field) → byte_or l (r.bytes ++ zeros (r.size - length r.bytes)) x o ≡ field_byte l r.bytes x o
      by_find None = bare_at x
      by_find (Some f) = refl

  pub fills : All (λ (f : Field). DistanceFits l f.value) r.fields → FillsRegion l r
  fills d = record {
    bytes = is.form.bytes;
    fields =
        all_of (λ (f : Field). f.off + length (value_bytes l f.value) ≤ r.size) r.fields
        (λ k f e. let i = is.fields.each k f e in let w = value_width p l f.value f.width i.width in let b = i.inside in omega (arith, w, b));
    distances = d;
  }

  -- a region that is zero holds zeros
  pub zero_at : r.zero ≡ true → (x : ℕ) → region_byte l r x ≡ 0
  zero_at z x =
      let n = is.form.zero z in
      ap (λ (fs : List Field). field_byte l r.bytes x (find (covers x) fs)) (none_of r.fields n.1) ∙ past_all r.bytes x (let k = n.0 in omega (arith, k))
    where
      none_of : (fs : List Field) → length fs ≡ 0 → fs ≡ []
      none_of [] e = refl
      none_of (f ∷ fs) e = absurd (omega (arith, e))
