-- Bytes that stand in earlier fields.
use Rattle.std.proofs.Common.{◌≡◌, ℕ, zero, suc, ◌+◌, ◌<◌, Bool, true, false, ◌||◌, ◌==◌, List, [], ◌∷◌, ◌++◌, length, take, refl, ap, sym, ◌∙◌, arith}
use Rattle.std.specs.Prelude.{flat_map, slice_index_or}
use Rattle.om_fields.specs.Places.{any_of}
use Rattle.om_reloc.specs.declared.reloc.Reloc.{Reloc}
use Rattle.om_object.specs.declared.parts.Section.{Section}
use Rattle.om_object.specs.Rules.{repeats, field_bytes, reloc_at, no_reloc, is_led, is_literal}
use Rattle.om_object.specs.Claims.{behind}

or-regroup : (a b c : Bool) → (a || (b || c)) ≡ ((a || b) || c)
or-regroup true b c = refl
or-regroup false b c = refl

or-swap : (a b c : Bool) → (a || (b || c)) ≡ (b || (a || c))
or-swap true true c = refl
or-swap true false c = refl
or-swap false b c = refl

pub repeats_append : (seen xs ys : List ℕ) → repeats seen (xs ++ ys) ≡ (repeats seen xs || repeats (behind seen xs) ys)
repeats_append seen [] ys = refl
repeats_append seen (x ∷ xs) ys =
    ap (λ b. any_of (λ c. c == x) seen || b) (repeats_append (x ∷ seen) xs ys)
    ∙ or-regroup (any_of (λ c. c == x) seen) (repeats (x ∷ seen) xs) (repeats (behind (x ∷ seen) xs) ys)

pub behind_append : (seen xs ys : List ℕ) → behind seen (xs ++ ys) ≡ behind (behind seen xs) ys
behind_append seen [] ys = refl
behind_append seen (x ∷ xs) ys = behind_append (x ∷ seen) xs ys

any-append : (t : ℕ → Bool) (xs ys : List ℕ) → any_of t (xs ++ ys) ≡ (any_of t xs || any_of t ys)
any-append t [] ys = refl
any-append t (x ∷ xs) ys = ap (λ b. t x || b) (any-append t xs ys) ∙ or-regroup (t x) (any_of t xs) (any_of t ys)

any-none : (b : Bool) → (b || false) ≡ b
any-none true = refl
any-none false = refl

-- what is put behind a list is in it as what stands after it is
pub any-behind : (t : ℕ → Bool) (seen bs : List ℕ) → any_of t (behind seen bs) ≡ any_of t (seen ++ bs)
any-behind t seen [] = sym (any-append t seen [] ∙ any-none (any_of t seen))
any-behind t seen (b ∷ bs) =
    any-behind t (b ∷ seen) bs ∙ any-append t (b ∷ seen) bs
    ∙ sym (or-regroup (t b) (any_of t seen) (any_of t bs))
    ∙ or-swap (t b) (any_of t seen) (any_of t bs)
    ∙ sym (any-append t seen (b ∷ bs))

flat-snoc : (s : Section) (rs : List Reloc) (i : ℕ) → i < length rs → flat_map (field_bytes s) (take (i + 1) rs) ≡ flat_map (field_bytes s) (take i rs) ++ field_bytes s (slice_index_or rs i no_reloc)
flat-snoc s [] i h = absurd (omega arith)
flat-snoc s (r ∷ rs) zero h = refl-append (field_bytes s r)
  where
    refl-append : (xs : List ℕ) → xs ++ [] ≡ xs
    refl-append [] = refl
    refl-append (x ∷ xs) = ap (λ ys. x ∷ ys) (refl-append xs)
flat-snoc s (r ∷ rs) (suc i) h =
    let e : suc i + 1 ≡ suc (i + 1) = omega arith in
    rw e (ap (λ ys. field_bytes s r ++ ys) (flat-snoc s rs i (omega arith)) ∙ regroup (field_bytes s r) (flat_map (field_bytes s) (take i rs)) (field_bytes s (slice_index_or rs i no_reloc)))
  where
    regroup : (xs ys zs : List ℕ) → xs ++ (ys ++ zs) ≡ (xs ++ ys) ++ zs
    regroup [] ys zs = refl
    regroup (x ∷ xs) ys zs = ap (λ ws. x ∷ ws) (regroup xs ys zs)

-- the set holds the bytes of one more field
pub seen_further : (s : Section) (i : ℕ) → i < length s.relocs → (t : ℕ → Bool) → any_of t (behind (flat_map (field_bytes s) (take i s.relocs)) (field_bytes s (reloc_at s i))) ≡ any_of t (flat_map (field_bytes s) (take (i + 1) s.relocs))
seen_further s i h t =
    any-behind t (flat_map (field_bytes s) (take i s.relocs)) (field_bytes s (reloc_at s i))
    ∙ ap (any_of t) (sym (flat-snoc s s.relocs i h))

any-snoc : (rs : List Reloc) (i : ℕ) → i < length rs → (t : Reloc → Bool) → any_of t (take (i + 1) rs) ≡ (any_of t (take i rs) || t (slice_index_or rs i no_reloc))
any-snoc [] i h t = absurd (omega arith)
any-snoc (r ∷ rs) zero h t = any-none (t r)
any-snoc (r ∷ rs) (suc i) h t =
    let e : suc i + 1 ≡ suc (i + 1) = omega arith in
    rw e (ap (λ b. t r || b) (any-snoc rs i (omega arith) t) ∙ or-regroup (t r) (any_of t (take i rs)) (t (slice_index_or rs i no_reloc)))

-- whether a LITERAL stands among one more relocation
pub led_further : (s : Section) (i : ℕ) → i < length s.relocs → is_led s (i + 1) ≡ (is_led s i || is_literal (reloc_at s i).kind)
led_further s i h = any-snoc s.relocs i h (λ r. is_literal r.kind)
