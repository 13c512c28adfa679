-- The first fault of a table of rules is the least broken rule with its least place.
use Rattle.std.proofs.Common.{◌≡◌, inl, inr, ℕ, zero, suc, ◌<◌, List, [], ◌∷◌, refl, sym, ap, subst, ◌∙◌, arith}
use Rattle.std.specs.Prelude.{Option, Some, None}
use Rattle.om_fields.specs.Places.{least}
use Rattle.om_fields.specs.Rules.{Rule, Breaks, IsFirstFault, IsUnbroken, first_fault, AreAbove, TablesAreRead}
use Rattle.om_fields.proofs.Least.{least-among, least-none, least-below}

-- the rule of a table that is broken has a number above the table's floor
broken_above : {A : Type 0} (n : ℕ) (rules : List (Rule A)) (file : A) (r p : ℕ) → AreAbove n rules → Breaks rules file r p → n < r
broken_above n [] file r p up h = absurd h
broken_above n (x ∷ xs) file r p up (inl h) = let e = h.0 in let f = up.0 in omega (arith, e, f)
broken_above n (x ∷ xs) file r p up (inr h) = let f = up.0 in let g = broken_above x.0 xs file r p up.1 h in omega (arith, f, g)

-- what follows a first rule that is broken nowhere
later_fault : {A : Type 0} (x : Rule A) (xs : List (Rule A)) (file : A) (rule at : ℕ) → least (x.1 file) ≡ None → IsFirstFault xs file rule at → IsFirstFault (x ∷ xs) file rule at
later_fault x xs file rule at e f = record {
  broken = inr f.broken;
  no_less = λ r p h b. less r p h b;
  no_nearer = λ p h b. near p h b;
}
  where
    less : (r p : ℕ) → r < rule → Breaks (x ∷ xs) file r p → ⊥
    less r p h (inl b) = least-none (x.1 file) p e b.1
    less r p h (inr b) = f.no_less r p h b

    near : (p : ℕ) → p < at → Breaks (x ∷ xs) file rule p → ⊥
    near p h (inl b) = least-none (x.1 file) p e b.1
    near p h (inr b) = f.no_nearer p h b

first_here : {A : Type 0} (x : Rule A) (xs : List (Rule A)) (file : A) (rule at : ℕ) → AreAbove x.0 xs → x.0 ≡ rule → least (x.1 file) ≡ Some at → IsFirstFault (x ∷ xs) file rule at
first_here x xs file rule at up n e = record {
  broken = inl (n, least-among (x.1 file) at e);
  no_less = λ r p h b. less r p h b;
  no_nearer = λ p h b. near p h b;
}
  where
    less : (r p : ℕ) → r < rule → Breaks (x ∷ xs) file r p → ⊥
    less r p h (inl b) = let g = b.0 in omega (arith, n, h, g)
    less r p h (inr b) = let g = broken_above x.0 xs file r p up b in omega (arith, n, h, g)

    near : (p : ℕ) → p < at → Breaks (x ∷ xs) file rule p → ⊥
    near p h (inl b) = let g = least-below (x.1 file) at p e b.1 in omega (arith, h, g)
    near p h (inr b) = let g = broken_above x.0 xs file rule p up b in omega (arith, n, g)

fault_by : {A : Type 0} (x : Rule A) (xs : List (Rule A)) (file : A) (rule at : ℕ) (o : Option ℕ) → AreAbove x.0 xs → least (x.1 file) ≡ o
    → (first_fault xs file ≡ Some (rule, at) → IsFirstFault xs file rule at)
    → elim o as (λ _. Option (ℕ × ℕ)) [ None ↦ first_fault xs file | Some p ↦ Some (x.0, p) ] ≡ Some (rule, at) → IsFirstFault (x ∷ xs) file rule at
fault_by x xs file rule at None up e ih h = later_fault x xs file rule at e (ih h)
fault_by x xs file rule at (Some p) up e ih h =
    let pair : ◌≡◌ {A = ℕ × ℕ} (x.0, p) (rule, at) = cc in
    let n : x.0 ≡ rule = ap (λ (t : ℕ × ℕ). t.0) pair in
    let q : p ≡ at = ap (λ (t : ℕ × ℕ). t.1) pair in
    first_here x xs file rule at up n (e ∙ ap Some q)

pub fault_is_least : {A : Type 0} (n : ℕ) (rules : List (Rule A)) (file : A) (rule at : ℕ) → AreAbove n rules → first_fault rules file ≡ Some (rule, at) → IsFirstFault rules file rule at
fault_is_least n [] file rule at up h = cc
fault_is_least n (x ∷ xs) file rule at up h =
    fault_by x xs file rule at (least (x.1 file)) up.1 refl (λ e. fault_is_least x.0 xs file rule at up.1 e) h

none_by : {A : Type 0} (x : Rule A) (xs : List (Rule A)) (file : A) (r p : ℕ) (o : Option ℕ) → least (x.1 file) ≡ o
    → (first_fault xs file ≡ None → Breaks xs file r p → ⊥)
    → elim o as (λ _. Option (ℕ × ℕ)) [ None ↦ first_fault xs file | Some q ↦ Some (x.0, q) ] ≡ None → Breaks (x ∷ xs) file r p → ⊥
none_by x xs file r p None e ih h (inl b) = least-none (x.1 file) p e b.1
none_by x xs file r p None e ih h (inr b) = ih h b
none_by x xs file r p (Some q) e ih h b = cc

unbroken_at : {A : Type 0} (rules : List (Rule A)) (file : A) (r p : ℕ) → first_fault rules file ≡ None → Breaks rules file r p → ⊥
unbroken_at [] file r p h b = b
unbroken_at (x ∷ xs) file r p h b =
    none_by x xs file r p (least (x.1 file)) refl (λ e c. unbroken_at xs file r p e c) h b

pub none_is_unbroken : {A : Type 0} (rules : List (Rule A)) (file : A) → first_fault rules file ≡ None → IsUnbroken rules file
none_is_unbroken rules file h = record { nowhere = λ r p b. unbroken_at rules file r p h b }

-- and the other way round: two first faults are one
same_number : (a b : ℕ) → (a < b → ⊥) → (b < a → ⊥) → a ≡ b
same_number zero zero p q = refl
same_number zero (suc b) p q = absurd (p (omega arith))
same_number (suc a) zero p q = absurd (q (omega arith))
same_number (suc a) (suc b) p q = ap suc (same_number a b (λ h. p (omega (arith, h))) (λ h. q (omega (arith, h))))

first_by : {A : Type 0} (n : ℕ) (rules : List (Rule A)) (file : A) (rule at : ℕ) (o : Option (ℕ × ℕ)) → AreAbove n rules
    → first_fault rules file ≡ o → IsFirstFault rules file rule at → o ≡ Some (rule, at)
first_by n rules file rule at None up e f = absurd ((none_is_unbroken rules file e).nowhere rule at f.broken)
first_by n rules file rule at (Some (r, p)) up e f =
    let g = fault_is_least n rules file r p up e in
    let same : r ≡ rule = same_number r rule (λ h. f.no_less r p h g.broken) (λ h. g.no_less rule at h f.broken) in
    let here : Breaks rules file rule p = subst (λ (n : ℕ). Breaks rules file n p) same g.broken in
    let there : Breaks rules file r at = subst (λ (n : ℕ). Breaks rules file n at) (sym same) f.broken in
    let near : p ≡ at = same_number p at (λ h. f.no_nearer p h here) (λ h. g.no_nearer at h there) in
    cc

pub least_is_first : {A : Type 0} (n : ℕ) (rules : List (Rule A)) (file : A) (rule at : ℕ) → AreAbove n rules → IsFirstFault rules file rule at → first_fault rules file ≡ Some (rule, at)
least_is_first n rules file rule at up f = first_by n rules file rule at (first_fault rules file) up refl f

none_here : {A : Type 0} (n : ℕ) (rules : List (Rule A)) (file : A) (o : Option (ℕ × ℕ)) → AreAbove n rules
    → first_fault rules file ≡ o → IsUnbroken rules file → o ≡ None
none_here n rules file None up e u = refl
none_here n rules file (Some (r, p)) up e u = absurd (u.nowhere r p (fault_is_least n rules file r p up e).broken)

pub unbroken_is_none : {A : Type 0} (n : ℕ) (rules : List (Rule A)) (file : A) → AreAbove n rules → IsUnbroken rules file → first_fault rules file ≡ None
unbroken_is_none n rules file up u = none_here n rules file (first_fault rules file) up refl u

pub tables_are_read : TablesAreRead
tables_are_read rules file up = record {
  fault = λ rule at h. fault_is_least 0 rules file rule at up h;
  none = λ h. none_is_unbroken rules file h;
}
