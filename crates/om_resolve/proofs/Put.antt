-- One more entry of a map that stands for a list.
use Rattle.std.proofs.Common.{◌≡◌, ℕ, zero, suc, ◌*◌, ◌<◌, Bool, true, false, ◌==◌, List, [], ◌∷◌, ◌++◌, length, refl, ap, sym, subst, ◌∙◌, arith, cond, slice_index_or, slice_set}
use Rattle.std.specs.Prelude.{if◌then◌else◌}
use Rattle.std.proofs.lemmas.Bool.{true≢false}
use Rattle.std.proofs.lemmas.Bool.Decides.{nat_tests}
use Rattle.std.proofs.lemmas.List.{length-set}
use Rattle.std.specs.Prelude.{Option, Some, None, is_some, find, option_map}
use Rattle.std.specs.Option.{option_or}
use Rattle.std.specs.BTreeMap.{BTreeMap, get}
use Rattle.std.specs.Ordering.{nat_cmp, is_eq}
use Rattle.om_reloc.specs.declared.reloc.Reloc.{Reloc}
use Rattle.om_reloc.specs.declared.reloc.RelocKind.{RelocKind}
use Rattle.om_reloc.specs.declared.reloc.RelocKind.TheVariants.{RefQuad}
use Rattle.om_object.specs.declared.parts.Section.{Section}
use Rattle.om_object.specs.Words.{offset_of}
use Rattle.om_object.specs.Aims.{is_quad}
use Rattle.om_prog.specs.declared.item.Role.{Role}
use Rattle.om_resolve.specs.Program.{role_given}
use Rattle.om_resolve.specs.Maps.{HasRoles, HasQuads, is_quad_at}

find-by : {X : Type 0} (test : X → Bool) (x : X) (b : Bool) (o p rest : Option X) → rest ≡ option_or o p → (if b then Some x else rest) ≡ option_or (if b then Some x else o) p
find-by test x true o p rest e = refl
find-by test x false o p rest e = e

pub find_append : {X : Type 0} (test : X → Bool) (xs ys : List X) → find test (xs ++ ys) ≡ option_or (find test xs) (find test ys)
find_append test [] ys = refl
find_append test (x ∷ xs) ys = find-by test x (test x) (find test xs) (find test ys) (find test (xs ++ ys)) (find_append test xs ys)

or-none : {X : Type 0} (o : Option X) → option_or o None ≡ o
or-none None = refl
or-none (Some x) = refl

same-key : (m n : ℕ) → is_eq (nat_cmp m n) ≡ (m == n)
same-key m n = grind (arith, nat_tests)

equal-keys : (m n : ℕ) → (m == n) ≡ true → m ≡ n
equal-keys m n e = grind (arith, nat_tests)

none-is : {X : Type 0} (o : Option X) → is_some o ≡ false → o ≡ None
none-is None e = refl
none-is (Some x) e = cc

-- a key that is new
new-key : {X : Type 0} (off q : ℕ) (v : X) (old : Option X) (b : Bool) → (off == q) ≡ b → (b ≡ true → old ≡ None) → cond b (Some v) old ≡ option_or old (if b then Some v else None)
new-key off q v old true e h = rw (h refl) refl
new-key off q v old false e h = sym (or-none old)

-- a key that is there
old-key : {X : Type 0} (off q : ℕ) (v : X) (old : Option X) (b : Bool) → (off == q) ≡ b → (b ≡ true → is_some old ≡ true) → old ≡ option_or old (if b then Some v else None)
old-key off q v None true e h = let g = h refl in cc
old-key off q v (Some x) b e h = refl
old-key off q v None false e h = refl

given-append : (rs ss : List (ℕ × Role)) (q : ℕ) → role_given (rs ++ ss) q ≡ option_or (role_given rs q) (role_given ss q)
given-append rs ss q = ap (option_map (λ (e : ℕ × Role). e.1)) (find_append (λ e. e.0 == q) rs ss) ∙ mapped (find (λ (e : ℕ × Role). e.0 == q) rs) (find (λ (e : ℕ × Role). e.0 == q) ss)
  where
    mapped : (o p : Option (ℕ × Role)) → option_map (λ (e : ℕ × Role). e.1) (option_or o p) ≡ option_or (option_map (λ (e : ℕ × Role). e.1) o) (option_map (λ (e : ℕ × Role). e.1) p)
    mapped None p = refl
    mapped (Some e) p = refl

one-given : (off : ℕ) (role : Role) (q : ℕ) (b : Bool) → (off == q) ≡ b → role_given ((off, role) ∷ []) q ≡ (if b then Some role else None)
one-given off role q true e = rw e refl
one-given off role q false e = rw e refl

-- one more role, where it changes nothing at the words that are there
role-at : (rs : List (ℕ × Role)) (off : ℕ) (role : Role) (q : ℕ) → role_given (rs ++ (off, role) ∷ []) q ≡ option_or (role_given rs q) (if off == q then Some role else None)
role-at rs off role q = given-append rs ((off, role) ∷ []) q ∙ ap (option_or (role_given rs q)) (one-given off role q (off == q) refl)

pub role_kept : (m : List (Option Role)) (rs : List (ℕ × Role)) (off : ℕ) (role : Role) → HasRoles m rs →
    ((k : ℕ) → k < length m → off ≡ 4 * k → is_some (slice_index_or m k None) ≡ true) → HasRoles m (rs ++ (off, role) ∷ [])
role_kept m rs off role h there = record {
  holds = λ k below.
      old-key off (4 * k) role (slice_index_or m k None) (off == 4 * k) refl (λ e. there k below (equal-keys off (4 * k) e))
      ∙ ap (λ (o : Option Role). option_or o (if off == 4 * k then Some role else None)) (h.holds k below)
      ∙ sym (role-at rs off role (4 * k));
}

-- a role at a word that has none
both-later : (m n : ℕ) → (suc m == suc n) ≡ (m == n)
both-later m n = grind (arith, nat_tests)

here-or-there : (m : List (Option Role)) (role : Role) (word k : ℕ) (b : Bool) → word < length m → (word == k) ≡ b →
    slice_index_or (slice_set m word (Some role)) k None ≡ cond b (Some role) (slice_index_or m k None)
here-or-there [] role word k b below e = absurd (omega (arith, below))
here-or-there (x ∷ xs) role zero zero true below e = refl
here-or-there (x ∷ xs) role zero (suc k) false below e = refl
here-or-there (x ∷ xs) role zero zero false below e = absurd (true≢false e)
here-or-there (x ∷ xs) role zero (suc k) true below e = absurd (omega (arith, equal-keys zero (suc k) e))
here-or-there (x ∷ xs) role (suc word) zero true below e = absurd (omega (arith, equal-keys (suc word) zero e))
here-or-there (x ∷ xs) role (suc word) zero false below e = refl
here-or-there (x ∷ xs) role (suc word) (suc k) b below e = here-or-there xs role word k b (omega (arith, below)) (sym (both-later word k) ∙ e)

-- what is read of an entry that is there
pub same-entry : (m : List (Option Role)) (word : ℕ) (here : Option Role) → word < length m → here ≡ slice_index_or m word here → here ≡ slice_index_or m word None
same-entry [] word here below e = absurd (omega (arith, below))
same-entry (x ∷ xs) zero here below e = e
same-entry (x ∷ xs) (suc word) here below e = same-entry xs word here (omega (arith, below)) e

pub role_put : (m : List (Option Role)) (rs : List (ℕ × Role)) (off : ℕ) (role : Role) (word : ℕ) → HasRoles m rs → word < length m → off ≡ 4 * word →
    is_some (slice_index_or m word None) ≡ false → HasRoles (slice_set m word (Some role)) (rs ++ (off, role) ∷ [])
role_put m rs off role word h inside same fresh = record {
  holds = λ k below.
      let here : k < length m = subst (λ n. k < n) (length-set m word (Some role)) below in
      here-or-there m role word k (word == k) inside refl
      ∙ new-key word k role (slice_index_or m k None) (word == k) refl (λ e. ap (λ j. slice_index_or m j None) (sym (equal-keys word k e)) ∙ none-is (slice_index_or m word None) fresh)
      ∙ ap (λ (o : Option Role). option_or o (if word == k then Some role else None)) (h.holds k here)
      ∙ ap (λ (b : Bool). option_or (role_given rs (4 * k)) (if b then Some role else None)) (same-word word k off same)
      ∙ sym (role-at rs off role (4 * k));
}
  where
    same-word : (word k off : ℕ) → off ≡ 4 * word → (word == k) ≡ (off == 4 * k)
    same-word word k off same = grind (arith, nat_tests)

one-quad : (lita : Section) (q : ℕ) (r : Reloc) (b : Bool) → is_quad r.kind ≡ true → (offset_of lita r == q) ≡ b → find (is_quad_at lita q) (r ∷ []) ≡ (if b then Some r else None)
one-quad lita q r true k e = rw k (rw e refl)
one-quad lita q r false k e = rw k (rw e refl)

no-quad : (lita : Section) (q : ℕ) (r : Reloc) → is_quad r.kind ≡ false → find (is_quad_at lita q) (r ∷ []) ≡ None
no-quad lita q r k = rw k refl

-- a REFQUAD at a new offset
pub quad_put : (lita : Section) (m n : BTreeMap ℕ Reloc) (rs : List Reloc) (r : Reloc) → HasQuads lita m rs → is_quad r.kind ≡ true → is_some (get nat_cmp m (offset_of lita r)) ≡ false
    → ((q : ℕ) → get nat_cmp n q ≡ cond (is_eq (nat_cmp (offset_of lita r) q)) (Some r) (get nat_cmp m q)) → HasQuads lita n (rs ++ r ∷ [])
quad_put lita m n rs r h k fresh now = record {
  holds = λ q.
      now q ∙ ap (λ b. cond b (Some r) (get nat_cmp m q)) (same-key (offset_of lita r) q)
      ∙ new-key (offset_of lita r) q r (get nat_cmp m q) (offset_of lita r == q) refl (λ e. ap (get nat_cmp m) (sym (equal-keys (offset_of lita r) q e)) ∙ none-is (get nat_cmp m (offset_of lita r)) fresh)
      ∙ ap (λ (o : Option Reloc). option_or o (if offset_of lita r == q then Some r else None)) (h.holds q)
      ∙ ap (option_or (find (is_quad_at lita q) rs)) (sym (one-quad lita q r (offset_of lita r == q) k refl))
      ∙ sym (find_append (is_quad_at lita q) rs (r ∷ []));
}

-- one at an offset that has one
pub quad_kept : (lita : Section) (m : BTreeMap ℕ Reloc) (rs : List Reloc) (r : Reloc) → HasQuads lita m rs → is_quad r.kind ≡ true → is_some (get nat_cmp m (offset_of lita r)) ≡ true → HasQuads lita m (rs ++ r ∷ [])
quad_kept lita m rs r h k there = record {
  holds = λ q.
      old-key (offset_of lita r) q r (get nat_cmp m q) (offset_of lita r == q) refl (λ e. ap (λ i. is_some (get nat_cmp m i)) (sym (equal-keys (offset_of lita r) q e)) ∙ there)
      ∙ ap (λ (o : Option Reloc). option_or o (if offset_of lita r == q then Some r else None)) (h.holds q)
      ∙ ap (option_or (find (is_quad_at lita q) rs)) (sym (one-quad lita q r (offset_of lita r == q) k refl))
      ∙ sym (find_append (is_quad_at lita q) rs (r ∷ []));
}

-- a relocation of another kind
pub quad_other : (lita : Section) (m : BTreeMap ℕ Reloc) (rs : List Reloc) (r : Reloc) → HasQuads lita m rs → is_quad r.kind ≡ false → HasQuads lita m (rs ++ r ∷ [])
quad_other lita m rs r h k = record {
  holds = λ q.
      h.holds q ∙ sym (or-none (find (is_quad_at lita q) rs)) ∙ ap (option_or (find (is_quad_at lita q) rs)) (sym (no-quad lita q r k))
      ∙ sym (find_append (is_quad_at lita q) rs (r ∷ []));
}

pub other_kind : (k : RelocKind) → (k ≡ RefQuad → ⊥) → is_quad k ≡ false
other_kind RefQuad h = absurd (h refl)
other_kind _ h = refl
