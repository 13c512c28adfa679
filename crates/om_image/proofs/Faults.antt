-- The first faults of images are the least.
use Rattle.std.proofs.Common.{◌≡◌, ℕ, List, [], ◌∷◌, ◌++◌, refl, arith}
use Rattle.std.specs.Prelude.{Option, Some, None}
use Rattle.om_fields.specs.Places.{least}
use Rattle.om_fields.specs.Rules.{Rule, IsFirstFault, IsUnbroken, first_fault, AreAbove}
use Rattle.om_fields.proofs.FirstFault.{fault_is_least, none_is_unbroken}
use Rattle.om_image.specs.Rules.{head_rules, body_rules, image_rules}

-- a fault by the first rules of a table is that of the table
first_by : (r : Rule (List ℕ)) (xs ys : List (Rule (List ℕ))) (file : List ℕ) (f : ℕ × ℕ) (o : Option ℕ)
    → (first_fault xs file ≡ Some f → first_fault (xs ++ ys) file ≡ Some f)
    → elim o as (λ _. Option (ℕ × ℕ)) [ None ↦ first_fault xs file | Some p ↦ Some (r.0, p) ] ≡ Some f
    → elim o as (λ _. Option (ℕ × ℕ)) [ None ↦ first_fault (xs ++ ys) file | Some p ↦ Some (r.0, p) ] ≡ Some f
first_by r xs ys file f None ih h = ih h
first_by r xs ys file f (Some p) ih h = h

found_in : (xs ys : List (Rule (List ℕ))) (file : List ℕ) (f : ℕ × ℕ) → first_fault xs file ≡ Some f → first_fault (xs ++ ys) file ≡ Some f
found_in [] ys file f h = cc
found_in (r ∷ xs) ys file f h = first_by r xs ys file f (least (r.1 file)) (λ e. found_in xs ys file f e) h

-- where the first rules are broken nowhere, the others tell
later_by : (r : Rule (List ℕ)) (xs ys : List (Rule (List ℕ))) (file : List ℕ) (o : Option ℕ)
    → (first_fault xs file ≡ None → first_fault (xs ++ ys) file ≡ first_fault ys file)
    → elim o as (λ _. Option (ℕ × ℕ)) [ None ↦ first_fault xs file | Some p ↦ Some (r.0, p) ] ≡ None
    → elim o as (λ _. Option (ℕ × ℕ)) [ None ↦ first_fault (xs ++ ys) file | Some p ↦ Some (r.0, p) ] ≡ first_fault ys file
later_by r xs ys file None ih h = ih h
later_by r xs ys file (Some p) ih h = cc

found_behind : (xs ys : List (Rule (List ℕ))) (file : List ℕ) → first_fault xs file ≡ None → first_fault (xs ++ ys) file ≡ first_fault ys file
found_behind [] ys file h = refl
found_behind (r ∷ xs) ys file h = later_by r xs ys file (least (r.1 file)) (λ e. found_behind xs ys file e) h

pub found_first : (file : List ℕ) (f : ℕ × ℕ) → first_fault head_rules file ≡ Some f → first_fault image_rules file ≡ Some f
found_first file f h = found_in head_rules body_rules file f h

pub found_later : (file : List ℕ) → first_fault head_rules file ≡ None → first_fault image_rules file ≡ first_fault body_rules file
found_later file h = found_behind head_rules body_rules file h

rules_rise : AreAbove 0 image_rules
rules_rise =
    (omega arith, (omega arith, (omega arith, (omega arith, (omega arith, (omega arith, (omega arith, (omega arith, (omega arith, tt)))))))))

pub image_fault_is : (file : List ℕ) (rule at : ℕ) → first_fault image_rules file ≡ Some (rule, at) → IsFirstFault image_rules file rule at
image_fault_is file rule at h = fault_is_least 0 image_rules file rule at rules_rise h

pub image_unbroken : (file : List ℕ) → first_fault image_rules file ≡ None → IsUnbroken image_rules file
image_unbroken file h = none_is_unbroken image_rules file h
