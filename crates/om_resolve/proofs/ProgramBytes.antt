-- No byte of a section is in the fields of two relocations.
use Rattle.std.proofs.Common.{◌≡◌, inl, inr, ℕ, zero, suc, ◌+◌, ◌-◌, ◌%◌, ◌^◌, ◌<◌, ◌≤◌, Bool, true, false, ◌||◌, ◌==◌, nat_lt, List, [], ◌∷◌, ◌++◌, length, take, refl, ap, sym, subst, ◌∙◌, arith, slice_index_or}
use Rattle.std.specs.Prelude.{flat_map}
use Rattle.std.proofs.lemmas.Bool.Decides.{nat_tests}
use Rattle.om_fields.specs.Places.{any_of}
use Rattle.om_reloc.specs.declared.reloc.Reloc.{Reloc}
use Rattle.om_reloc.specs.declared.reloc.RelocKind.{RelocKind}
use Rattle.om_reloc.specs.declared.reloc.RelocKind.TheVariants.{RefQuad, GpRel32, Literal, GpDisp, BrAddr}
use Rattle.om_object.specs.declared.parts.Section.{Section}
use Rattle.om_object.specs.Words.{offset_of, lda_offset}
use Rattle.om_object.specs.Rules.{no_reloc, reloc_at, four_bytes, bytes_by_kind, field_bytes, repeats, is_shared}
use Rattle.om_resolve.proofs.Members.{In, in_front, in_back}
use Rattle.om_resolve.proofs.ObjectFacts.{or_false}

-- ---- bytes that repeat

any_in : (x : ℕ) (xs : List ℕ) → In xs x → any_of (λ c. c == x) xs ≡ true
any_in x [] h = absurd h
any_in x (y ∷ ys) (inl e) = let t : (y == x) ≡ true = grind (arith, nat_tests, e) in rw t refl
any_in x (y ∷ ys) (inr h) = by_test (any_in x ys h) (y == x)
  where
    by_test : any_of (λ c. c == x) ys ≡ true → (b : Bool) → (b || any_of (λ c. c == x) ys) ≡ true
    by_test rest true = refl
    by_test rest false = rest

any_more : (x y : ℕ) (seen : List ℕ) → any_of (λ c. c == x) seen ≡ true → any_of (λ c. c == x) (y ∷ seen) ≡ true
any_more x y seen h = by_test (y == x)
  where
    by_test : (b : Bool) → (b || any_of (λ c. c == x) seen) ≡ true
    by_test true = refl
    by_test false = h

-- what was seen is not among bytes that do not repeat
pub not_seen : (seen bs : List ℕ) (x : ℕ) → repeats seen bs ≡ false → any_of (λ c. c == x) seen ≡ true → In bs x → ⊥
not_seen seen [] x h s i = i
not_seen seen (b ∷ bs) x h s (inl e) =
    let k = (or_false (any_of (λ c. c == b) seen) (repeats (b ∷ seen) bs) h).0 in
    let t : any_of (λ c. c == b) seen ≡ true = ap (λ y. any_of (λ c. c == y) seen) e ∙ s in
    let never : true ≡ false = sym t ∙ k in cc
not_seen seen (b ∷ bs) x h s (inr i) = not_seen (b ∷ seen) bs x (or_false (any_of (λ c. c == b) seen) (repeats (b ∷ seen) bs) h).1 (any_more x b seen s) i

pub in_flat : {X : Type 0} (f : X → List ℕ) (xs : List X) (i j : ℕ) (d : X) (x : ℕ) → i < j → i < length xs → In (f (slice_index_or xs i d)) x → In (flat_map f (take j xs)) x
in_flat f [] i j d x b c h = absurd (omega arith)
in_flat f (y ∷ ys) i zero d x b c h = absurd (omega arith)
in_flat f (y ∷ ys) zero (suc j) d x b c h = in_front (f y) (flat_map f (take j ys)) x h
in_flat f (y ∷ ys) (suc i) (suc j) d x b c h = in_back (f y) (flat_map f (take j ys)) x (in_flat f ys i j d x (omega arith) (omega arith) h)

-- no byte of a field is one of an earlier one
pub bytes_apart : (s : Section) (i j x : ℕ) → is_shared s j ≡ false → i < j → i < length s.relocs → In (field_bytes s (reloc_at s i)) x → In (field_bytes s (reloc_at s j)) x → ⊥
bytes_apart s i j x h b c p q =
    not_seen (flat_map (field_bytes s) (take j s.relocs)) (field_bytes s (reloc_at s j)) x h
    (any_in x (flat_map (field_bytes s) (take j s.relocs)) (in_flat (field_bytes s) s.relocs i j no_reloc x b c p)) q

-- nor of either of two relocations that differ
pub others_apart : (s : Section) → ((i : ℕ) → i < length s.relocs → is_shared s i ≡ false) → (i j x : ℕ) → i < length s.relocs → j < length s.relocs → In (field_bytes s (reloc_at s i)) x → In (field_bytes s (reloc_at s j)) x → i ≡ j
others_apart s unshared i j x li lj p q = by_order (nat_lt i j) (nat_lt j i) refl refl
  where
    by_order : (a b : Bool) → nat_lt i j ≡ a → nat_lt j i ≡ b → i ≡ j
    by_order true b e f = absurd (bytes_apart s i j x (unshared j lj) (grind (arith, nat_tests)) li p q)
    by_order false true e f = absurd (bytes_apart s j i x (unshared i li) (grind (arith, nat_tests)) lj q p)
    by_order false false e f = grind (arith, nat_tests)

-- ---- the bytes of fields

pub four_in : (off d : ℕ) → d < 4 → In (four_bytes off) ((off + d) % 2 ^ 64)
unfolding four_bytes
four_in off zero h = inl refl
four_in off (suc zero) h = inr (inl refl)
four_in off (suc (suc zero)) h = inr (inr (inl refl))
four_in off (suc (suc (suc zero))) h = inr (inr (inr (inl refl)))
four_in off (suc (suc (suc (suc d)))) h = absurd (omega arith)

-- the width of a field of an address, or of a distance
abbrev pub width_by : RelocKind → ℕ
width_by RefQuad = 8
width_by _ = 4

abbrev pub HasField : RelocKind → Type 0
HasField RefQuad = Unit {0}
HasField GpRel32 = Unit {0}
HasField Literal = Unit {0}
HasField BrAddr = Unit {0}
HasField GpDisp = Unit {0}
HasField _ = ⊥

by_half : (s : Section) (r : Reloc) (d : ℕ) → d < 8 → (b : Bool) → nat_lt d 4 ≡ b → In (four_bytes (offset_of s r) ++ four_bytes ((offset_of s r + 4) % 2 ^ 64)) ((offset_of s r + d) % 2 ^ 64)
by_half s r d h true e = in_front (four_bytes (offset_of s r)) (four_bytes ((offset_of s r + 4) % 2 ^ 64)) _ (four_in (offset_of s r) d (grind (arith, nat_tests)))
by_half s r d h false e =
    let low : 4 ≤ d = grind (arith, nat_tests) in
    let same : ((offset_of s r + 4) % 2 ^ 64 + (d - 4)) % 2 ^ 64 ≡ (offset_of s r + d) % 2 ^ 64 = omega arith in
    in_back (four_bytes (offset_of s r)) (four_bytes ((offset_of s r + 4) % 2 ^ 64)) _
    (subst (In (four_bytes ((offset_of s r + 4) % 2 ^ 64))) same (four_in ((offset_of s r + 4) % 2 ^ 64) (d - 4) (omega arith)))

pub byte_in_field : (s : Section) (r : Reloc) (kind : RelocKind) → HasField kind → (d : ℕ) → d < width_by kind → In (bytes_by_kind s r kind) ((offset_of s r + d) % 2 ^ 64)
byte_in_field s r RefQuad f d h = by_half s r d h (nat_lt d 4) refl
byte_in_field s r GpRel32 f d h = four_in (offset_of s r) d h
byte_in_field s r Literal f d h = four_in (offset_of s r) d h
byte_in_field s r BrAddr f d h = four_in (offset_of s r) d h
byte_in_field s r GpDisp f d h = in_front (four_bytes (offset_of s r)) (four_bytes (lda_offset s r)) _ (four_in (offset_of s r) d h)
byte_in_field s r _ f d h = absurd f

-- the second word of a pair
pub low_in_field : (s : Section) (r : Reloc) (d : ℕ) → d < 4 → In (bytes_by_kind s r GpDisp) ((lda_offset s r + d) % 2 ^ 64)
low_in_field s r d h = in_back (four_bytes (offset_of s r)) (four_bytes (lda_offset s r)) _ (four_in (lda_offset s r) d h)
