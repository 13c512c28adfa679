-- What the symbols of a name say, taken in one after the other, is what they say together.
use Rattle.std.proofs.Common.{◌≡◌, ℕ, Bool, true, false, List, [], ◌∷◌, map, fold, filter, max, refl, ap, ◌∙◌, arith, cond}
use Rattle.std.proofs.Common.{◌⊎◌, inl, inr}
use Rattle.std.specs.Prelude.{Option, Some, None, unwrap_or, if◌then◌else◌, slice_get, option_map}
use Rattle.std.proofs.lemmas.Bool.Decides.{nat_tests}
use Rattle.om_symtab.specs.Classes.{section_of_class, is_common, is_defining}
use Rattle.om_object.specs.declared.parts.Parts.{Parts}
use Rattle.om_resolve.specs.declared.definition.Definition.{Definition}
use Rattle.om_resolve.specs.declared.definition.Definition.TheVariants.{Missing}
use Rattle.om_resolve.specs.declared.definition.Known.{Known}
use Rattle.om_resolve.specs.Names.{Seen, defines, asks_common, greatest, defined_by, by_symbols}
use Rattle.om_resolve.specs.Known.{note, note_defined, unknown, grown, definition_by}

-- the larger of a size and the greatest of others
abbrev pub with_sizes : Option ℕ → List ℕ → Option ℕ
with_sizes c [] = c
with_sizes c (x ∷ xs) = with_sizes (grown c x) xs

abbrev sizes : List Seen → List ℕ
sizes ss = map (λ s. s.symbol.value) (filter asks_common ss)

with-some : (x : ℕ) (xs : List ℕ) → with_sizes (Some x) xs ≡ Some (max x (unwrap_or (greatest xs) 0))
with-some x [] = let e : x ≡ max x 0 = omega arith in ap Some e
with-some x (y ∷ ys) = with-some (max x y) ys ∙ ap Some (let e : max (max x y) (unwrap_or (greatest ys) 0) ≡ max x (max y (unwrap_or (greatest ys) 0)) = omega arith in e)

with-none : (xs : List ℕ) → with_sizes None xs ≡ greatest xs
with-none [] = refl
with-none (x ∷ xs) = with-some x xs

abbrev zero_known : Option ℕ → Known
zero_known c = record { first = None; second = None; defined = Missing; common = c }

abbrev one_known : ℕ → Definition → Option ℕ → Known
one_known a d c = record { first = Some a; second = None; defined = d; common = c }

abbrev two_known : ℕ → ℕ → Definition → Option ℕ → Known
two_known a b d c = record { first = Some a; second = Some b; defined = d; common = c }

-- a defining symbol is no common
common-class : (class : ℕ) → (class ≡ 17) ⊎ (class ≡ 18) → is_defining class ≡ false
unfolding section_of_class
common-class class (inl e) = rw e refl
common-class class (inr e) = rw e refl

either-class : (class : ℕ) → is_common class ≡ true → (class ≡ 17) ⊎ (class ≡ 18)
either-class class e = grind (arith, nat_tests)

apart : (s : Seen) → defines s ≡ true → asks_common s ≡ false
apart s e = by_test (asks_common s) refl
  where
    by_test : (b : Bool) → asks_common s ≡ b → b ≡ false
    by_test false f = refl
    by_test true f = let g = common-class s.symbol.class (either-class s.symbol.class f) in cc

module _ (objects : List Parts) where
  two-step : (a b : ℕ) (d : Definition) (c : Option ℕ) (s : Seen) (ss : List Seen) (x y : Bool) → defines s ≡ x → asks_common s ≡ y
      → ((e : Option ℕ) → fold (note objects) (two_known a b d e) ss ≡ two_known a b d (with_sizes e (sizes ss)))
      → fold (note objects) (if x then note_defined objects (two_known a b d c) s else if y then two_known a b d (grown c s.symbol.value) else two_known a b d c) ss
      ≡ two_known a b d (with_sizes c (map (λ t. t.symbol.value) (cond y (s ∷ filter asks_common ss) (filter asks_common ss))))
  two-step a b d c s ss true true e f ih = let g = apart s e in cc
  two-step a b d c s ss true false e f ih = ih c
  two-step a b d c s ss false true e f ih = ih (grown c s.symbol.value)
  two-step a b d c s ss false false e f ih = ih c

  two-all : (a b : ℕ) (d : Definition) (c : Option ℕ) (ss : List Seen) → fold (note objects) (two_known a b d c) ss ≡ two_known a b d (with_sizes c (sizes ss))
  two-all a b d c [] = refl
  two-all a b d c (s ∷ ss) = two-step a b d c s ss (defines s) (asks_common s) refl refl (λ e. two-all a b d e ss)

  -- with one definition known already
  abbrev with_one : ℕ → Definition → Option ℕ → List Seen → Known
  with_one a d c [] = one_known a d c
  with_one a d c (t ∷ ts) = two_known a t.obj d c

  one-step : (a : ℕ) (d : Definition) (c : Option ℕ) (s : Seen) (ss : List Seen) (x y : Bool) → defines s ≡ x → asks_common s ≡ y
      → ((e : Option ℕ) → fold (note objects) (one_known a d e) ss ≡ with_one a d (with_sizes e (sizes ss)) (filter defines ss))
      → fold (note objects) (if x then note_defined objects (one_known a d c) s else if y then one_known a d (grown c s.symbol.value) else one_known a d c) ss
      ≡ with_one a d (with_sizes c (map (λ t. t.symbol.value) (cond y (s ∷ filter asks_common ss) (filter asks_common ss)))) (cond x (s ∷ filter defines ss) (filter defines ss))
  one-step a d c s ss true true e f ih = let g = apart s e in cc
  one-step a d c s ss true false e f ih = two-all a s.obj d c ss
  one-step a d c s ss false true e f ih = ih (grown c s.symbol.value)
  one-step a d c s ss false false e f ih = ih c

  one-all : (a : ℕ) (d : Definition) (c : Option ℕ) (ss : List Seen) → fold (note objects) (one_known a d c) ss ≡ with_one a d (with_sizes c (sizes ss)) (filter defines ss)
  one-all a d c [] = refl
  one-all a d c (s ∷ ss) = one-step a d c s ss (defines s) (asks_common s) refl refl (λ e. one-all a d e ss)

  -- with none
  abbrev pub with_none : Option ℕ → List Seen → Known
  with_none c [] = zero_known c
  with_none c (s ∷ ss) = with_one s.obj (defined_by objects s) c ss

  zero-step : (c : Option ℕ) (s : Seen) (ss : List Seen) (x y : Bool) → defines s ≡ x → asks_common s ≡ y
      → ((e : Option ℕ) → fold (note objects) (zero_known e) ss ≡ with_none (with_sizes e (sizes ss)) (filter defines ss))
      → fold (note objects) (if x then note_defined objects (zero_known c) s else if y then zero_known (grown c s.symbol.value) else zero_known c) ss
      ≡ with_none (with_sizes c (map (λ t. t.symbol.value) (cond y (s ∷ filter asks_common ss) (filter asks_common ss)))) (cond x (s ∷ filter defines ss) (filter defines ss))
  zero-step c s ss true true e f ih = let g = apart s e in cc
  zero-step c s ss true false e f ih = one-all s.obj (defined_by objects s) c ss
  zero-step c s ss false true e f ih = ih (grown c s.symbol.value)
  zero-step c s ss false false e f ih = ih c

  zero-all : (c : Option ℕ) (ss : List Seen) → fold (note objects) (zero_known c) ss ≡ with_none (with_sizes c (sizes ss)) (filter defines ss)
  zero-all c [] = refl
  zero-all c (s ∷ ss) = zero-step c s ss (defines s) (asks_common s) refl refl (λ e. zero-all e ss)

  -- all symbols of a name, taken in one after the other
  pub known_all : (ss : List Seen) → fold (note objects) unknown ss ≡ with_none (greatest (map (λ s. s.symbol.value) (filter asks_common ss))) (filter defines ss)
  known_all ss = zero-all None ss ∙ ap (λ (c : Option ℕ). with_none c (filter defines ss)) (with-none (sizes ss))

  pub defined_all : (k : ℕ) (c : Option ℕ) (ds : List Seen) → definition_by k (Some (with_none c ds)) ≡ by_symbols objects k ds c
  defined_all k None [] = refl
  defined_all k (Some size) [] = refl
  defined_all k c (s ∷ []) = refl
  defined_all k c (s ∷ t ∷ ts) = refl

  pub first_all : (c : Option ℕ) (ds : List Seen) → (with_none c ds).first ≡ option_map (λ (s : Seen). s.obj) (slice_get ds 0)
  first_all c [] = refl
  first_all c (s ∷ []) = refl
  first_all c (s ∷ t ∷ ts) = refl

  pub second_all : (c : Option ℕ) (ds : List Seen) → (with_none c ds).second ≡ option_map (λ (s : Seen). s.obj) (slice_get ds 1)
  second_all c [] = refl
  second_all c (s ∷ []) = refl
  second_all c (s ∷ t ∷ ts) = refl
