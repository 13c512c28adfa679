-- What parts that break no rule have, section by section and relocation by relocation.
use Rattle.std.proofs.Common.{◌≡◌, ℕ, zero, suc, ◌+◌, ◌*◌, ◌/◌, ◌<◌, Bool, true, false, not, ◌&&◌, ◌||◌, ◌==◌, List, [], ◌∷◌, ◌++◌, length, refl, ap, ◌∙◌, arith}
use Rattle.std.specs.Prelude.{is_none}
use Rattle.om_fields.specs.Places.{put_if, picked_from, picked, joined_from}
use Rattle.om_fields.specs.Sections.{name_of_number}
use Rattle.om_fields.specs.Extents.{is_misplaced}
use Rattle.om_object.specs.declared.parts.Section.{Section}
use Rattle.om_object.specs.declared.parts.Parts.{Parts}
use Rattle.om_object.specs.declared.rules.RelocRule.{RelocRule}
use Rattle.om_object.specs.declared.rules.RelocRule.TheVariants.{Inside, Aligned, Named, Targeted, Paired, Slotted, Branching, Known, Placed, Natural}
use Rattle.om_object.specs.declared.rules.SymbolRule.TheVariants.{Misvalued}
use Rattle.om_object.specs.Rules.{AtSection, AtSymbol, AtReloc, AtWord, section_at, symbol_at, section_extent, is_misfilled, is_uneven, is_shared, is_astray, is_unreadable, breaks_at, symbol_breaks, entries_where, relocs_where, words_where, IsObject}

-- ---- empty lists

put_nothing : {X : Type 0} (b : Bool) (x : X) (xs : List X) → put_if b x xs ≡ [] → (b ≡ false) × (xs ≡ [])
put_nothing true x xs h = cc
put_nothing false x xs h = (refl, h)

nothing_picked : {X : Type 0} (test : ℕ → Bool) (f : ℕ → X) (k n : ℕ) → picked_from test f k n ≡ [] → (j : ℕ) → j < n → test (k + j) ≡ false
nothing_picked test f k zero h j b = absurd (omega arith)
nothing_picked test f k (suc n) h zero b =
    let e : k + 0 ≡ k = omega arith in
    ap test e ∙ (put_nothing (test k) (f k) (picked_from test f (k + 1) n) h).0
nothing_picked test f k (suc n) h (suc j) b =
    let e : k + suc j ≡ k + 1 + j = omega arith in
    ap test e ∙ nothing_picked test f (k + 1) n (put_nothing (test k) (f k) (picked_from test f (k + 1) n) h).1 j (omega arith)

append_nothing : {X : Type 0} (xs ys : List X) → xs ++ ys ≡ [] → (xs ≡ []) × (ys ≡ [])
append_nothing [] ys h = (refl, h)
append_nothing (x ∷ xs) ys h = cc

nothing_joined : {X : Type 0} (f : ℕ → List X) (k n : ℕ) → joined_from f k n ≡ [] → (j : ℕ) → j < n → f (k + j) ≡ []
nothing_joined f k zero h j b = absurd (omega arith)
nothing_joined f k (suc n) h zero b =
    let e : k + 0 ≡ k = omega arith in
    ap f e ∙ (append_nothing (f k) (joined_from f (k + 1) n) h).0
nothing_joined f k (suc n) h (suc j) b =
    let e : k + suc j ≡ k + 1 + j = omega arith in
    ap f e ∙ nothing_joined f (k + 1) n (append_nothing (f k) (joined_from f (k + 1) n) h).1 j (omega arith)

from_zero : {X : Type 0} (f : ℕ → X) (j : ℕ) (x : X) → f (0 + j) ≡ x → f j ≡ x
from_zero f j x h = let e : j ≡ 0 + j = omega arith in ap f e ∙ h

pub or_false : (a b : Bool) → (a || b) ≡ false → (a ≡ false) × (b ≡ false)
or_false true b e = cc
or_false false b e = (refl, e)

pub and_false : (a b : Bool) → (a && b) ≡ false → a ≡ true → b ≡ false
and_false true b e t = e
and_false false b e t = cc

pub not_true : (b : Bool) → not b ≡ false → b ≡ true
not_true true e = refl
not_true false e = cc

module _ (p : Parts) (o : IsObject p) where
  in_entries : (test : Section → ℕ → Bool) → entries_where p test ≡ [] → (a i : ℕ) → a < length p.sections → i < length (section_at p a).relocs → test (section_at p a) i ≡ false
  in_entries test h a i la li =
      let here : picked (test (section_at p a)) (AtReloc a) (length (section_at p a).relocs) ≡ [] = from_zero (λ k. picked (test (section_at p k)) (AtReloc k) (length (section_at p k).relocs)) a [] (nothing_joined (λ k. picked (test (section_at p k)) (AtReloc k) (length (section_at p k).relocs)) 0 (length p.sections) h a la) in
      from_zero (test (section_at p a)) i false (nothing_picked (test (section_at p a)) (AtReloc a) 0 (length (section_at p a).relocs) here i li)

  in_sections : (test : Section → Bool) → picked (λ a. test (section_at p a)) AtSection (length p.sections) ≡ [] → (a : ℕ) → a < length p.sections → test (section_at p a) ≡ false
  in_sections test h a la = from_zero (λ k. test (section_at p k)) a false (nothing_picked (λ k. test (section_at p k)) AtSection 0 (length p.sections) h a la)

  in_words : (test : Section → ℕ → Bool) → words_where p test ≡ [] → (a k : ℕ) → a < length p.sections → (section_at p a).number ≡ 1 → k < length (section_at p a).bytes / 4 → test (section_at p a) (4 * k) ≡ false
  in_words test h a k la one lk =
      let here = from_zero (λ b. picked (λ k. ((section_at p b).number == 1) && test (section_at p b) (4 * k)) (λ k. AtWord b (4 * k)) (length (section_at p b).bytes / 4)) a [] (nothing_joined (λ b. picked (λ k. ((section_at p b).number == 1) && test (section_at p b) (4 * k)) (λ k. AtWord b (4 * k)) (length (section_at p b).bytes / 4)) 0 (length p.sections) h a la) in
      let both = from_zero (λ k. ((section_at p a).number == 1) && test (section_at p a) (4 * k)) k false (nothing_picked (λ k. ((section_at p a).number == 1) && test (section_at p a) (4 * k)) (λ k. AtWord a (4 * k)) 0 (length (section_at p a).bytes / 4) here k lk) in
      and_false ((section_at p a).number == 1) (test (section_at p a) (4 * k)) both (ap (λ n. n == 1) one)

  pub is_filled : (a : ℕ) → a < length p.sections → is_misfilled (section_at p a) ≡ false
  is_filled = in_sections is_misfilled o.kept.0

  rule_6 : (a : ℕ) → a < length p.sections → (is_none (name_of_number (section_at p a).number) || is_misplaced (section_extent p) a) ≡ false
  rule_6 a la = from_zero (λ a. is_none (name_of_number (section_at p a).number) || is_misplaced (section_extent p) a) a false (nothing_picked (λ a. is_none (name_of_number (section_at p a).number) || is_misplaced (section_extent p) a) AtSection 0 (length p.sections) o.kept.1.0 a la)

  pub is_named : (a : ℕ) → a < length p.sections → is_none (name_of_number (section_at p a).number) ≡ false
  is_named a la = (or_false (is_none (name_of_number (section_at p a).number)) (is_misplaced (section_extent p) a) (rule_6 a la)).0

  pub is_placed : (a : ℕ) → a < length p.sections → is_misplaced (section_extent p) a ≡ false
  is_placed a la = (or_false (is_none (name_of_number (section_at p a).number)) (is_misplaced (section_extent p) a) (rule_6 a la)).1

  pub is_even : (a : ℕ) → a < length p.sections → is_uneven (section_at p a) ≡ false
  is_even = in_sections is_uneven o.kept.1.1.1.1.1.1.1.1.1.1.1.1.1.1.1.0

  pub is_valued : (j : ℕ) → j < length p.symbols → symbol_breaks p Misvalued (symbol_at p j) ≡ false
  is_valued j lj =
      let here = (append_nothing (picked (λ j. symbol_breaks p Misvalued (symbol_at p j)) AtSymbol (length p.symbols)) (relocs_where p Targeted) o.kept.1.1.1.1.1.1.0).0 in
      from_zero (λ j. symbol_breaks p Misvalued (symbol_at p j)) j false (nothing_picked (λ j. symbol_breaks p Misvalued (symbol_at p j)) AtSymbol 0 (length p.symbols) here j lj)

  keeps : (rule : RelocRule) → relocs_where p rule ≡ []
  keeps Inside = o.kept.1.1.1.0
  keeps Aligned = o.kept.1.1.1.1.0
  keeps Named = o.kept.1.1.1.1.1.0
  keeps Targeted = (append_nothing (picked (λ j. symbol_breaks p Misvalued (symbol_at p j)) AtSymbol (length p.symbols)) (relocs_where p Targeted) o.kept.1.1.1.1.1.1.0).1
  keeps Paired = o.kept.1.1.1.1.1.1.1.0
  keeps Slotted = o.kept.1.1.1.1.1.1.1.1.0
  keeps Branching = (append_nothing (relocs_where p Branching) (words_where p (is_astray p)) o.kept.1.1.1.1.1.1.1.1.1.1.0).0
  keeps Known = o.kept.1.1.1.1.1.1.1.1.1.1.1.1.1.0
  keeps Placed = o.kept.1.1.1.1.1.1.1.1.1.1.1.1.1.1.0
  keeps Natural = o.kept.1.1.1.1.1.1.1.1.1.1.1.1.1.1.1.1.1.0

  -- a relocation breaks none of the rules on one relocation
  pub keeps_rule : (rule : RelocRule) (a i : ℕ) → a < length p.sections → i < length (section_at p a).relocs → breaks_at p rule (section_at p a) i ≡ false
  keeps_rule rule = in_entries (breaks_at p rule) (keeps rule)

  pub is_unshared : (a i : ℕ) → a < length p.sections → i < length (section_at p a).relocs → is_shared (section_at p a) i ≡ false
  is_unshared = in_entries is_shared o.kept.1.1.1.1.1.1.1.1.1.1.1.0

  pub stays_in : (a k : ℕ) → a < length p.sections → (section_at p a).number ≡ 1 → k < length (section_at p a).bytes / 4 → is_astray p (section_at p a) (4 * k) ≡ false
  stays_in = in_words (is_astray p) ((append_nothing (relocs_where p Branching) (words_where p (is_astray p)) o.kept.1.1.1.1.1.1.1.1.1.1.0).1)

  pub is_readable : (a k : ℕ) → a < length p.sections → (section_at p a).number ≡ 1 → k < length (section_at p a).bytes / 4 → is_unreadable (section_at p a) (4 * k) ≡ false
  is_readable = in_words is_unreadable o.kept.1.1.1.1.1.1.1.1.1.1.1.1.0
