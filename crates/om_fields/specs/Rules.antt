-- A table of rules, in the order of their numbers: each has a number and the places where it is broken.
use Rattle.std.specs.Prelude.{◌≡◌, ◌⊎◌, ℕ, ◌<◌, List, [], ◌∷◌, Option, Some, None}
use Rattle.om_fields.specs.Places.{least, IsAmong}

-- the places in an A where a rule is broken
abbrev pub Rule : Type 0 → Type 0
Rule A = ℕ × (A → List ℕ)

-- a rule of the table is broken at a place
abbrev pub Breaks : {A : Type 0} → List (Rule A) → A → ℕ → ℕ → Type 0
Breaks [] file rule at = ⊥
Breaks (r ∷ rs) file rule at = ((r.0 ≡ rule) × IsAmong (r.1 file) at) ⊎ Breaks rs file rule at

-- the least broken rule with its least place
pub record IsFirstFault {A : Type 0} (rules : List (Rule A)) (file : A) (rule at : ℕ) : Type 0 where
  pub broken : Breaks rules file rule at
  pub no_less : (r p : ℕ) → r < rule → Breaks rules file r p → ⊥
  pub no_nearer : (p : ℕ) → p < at → Breaks rules file rule p → ⊥

-- no rule is broken anywhere
pub record IsUnbroken {A : Type 0} (rules : List (Rule A)) (file : A) : Type 0 where
  pub nowhere : (r p : ℕ) → Breaks rules file r p → ⊥

-- the first rule of the table that has a place, with the least of its places
abbrev pub first_fault : {A : Type 0} → List (Rule A) → A → Option (ℕ × ℕ)
first_fault [] file = None
first_fault (r ∷ rs) file =
    elim (least (r.1 file)) as (λ _. Option (ℕ × ℕ)) [
      | None ↦ first_fault rs file
      | Some at ↦ Some (r.0, at)
    ]

-- the numbers rise, and all are above n
abbrev pub AreAbove : {A : Type 0} → ℕ → List (Rule A) → Type 0
AreAbove n [] = Unit {0}
AreAbove n (r ∷ rs) = (n < r.0) × AreAbove r.0 rs

-- in a table of rising numbers the first fault is the least one
pub record FirstFaultIsLeast (rules : List (Rule (List ℕ))) (file : List ℕ) : Type 0 where
  pub fault : (rule at : ℕ) → first_fault rules file ≡ Some (rule, at) → IsFirstFault rules file rule at
  pub none : first_fault rules file ≡ None → IsUnbroken rules file

-- for every table of rising numbers and every file
abbrev pub TablesAreRead : Type 0
TablesAreRead = (rules : List (Rule (List ℕ))) (file : List ℕ) → AreAbove 0 rules → FirstFaultIsLeast rules file
