-- Relocation entries stand in order, and the first fault of a table's rules is the least.
use Rattle.std.proofs.Common.{◌≡◌, ℕ, ◌+◌, true, false, List, [], ◌∷◌, ◌++◌, refl, ap, ◌∙◌, arith, Bool}
use Rattle.std.specs.Prelude.{Option, Some, None}
use Rattle.om_fields.specs.Places.{each, least, place_if}
use Rattle.om_fields.specs.Rules.{IsFirstFault, IsUnbroken, first_fault, AreAbove}
use Rattle.om_fields.proofs.FirstFault.{fault_is_least, none_is_unbroken}
use Rattle.om_fields.proofs.Each.{each-snoc}
use Rattle.om_fields.specs.declared.head.SecHead.{SecHead}
use Rattle.om_reloc.specs.Relocs.{reloc_of, table_rules, early_table_rules, table_is_past, is_over}

pub relocs_snoc : (file : List ℕ) (head : SecHead) (n : ℕ) → each (reloc_of file head) (n + 1) ≡ each (reloc_of file head) n ++ reloc_of file head n ∷ []
relocs_snoc file head n = each-snoc (reloc_of file head) n

rise : (head : SecHead) (at : ℕ) → AreAbove 0 (table_rules head at)
rise head at = (omega arith, (omega arith, tt))

-- the first fault, by the two tests
abbrev fault_by : Bool → Bool → ℕ → Option (ℕ × ℕ)
fault_by past over at =
    elim (least (place_if past at)) as (λ _. Option (ℕ × ℕ)) [
      | None ↦ elim (least (place_if over at)) as (λ _. Option (ℕ × ℕ)) [ None ↦ None | Some p ↦ Some (26, p) ]
      | Some p ↦ Some (5, p)
    ]

fault_where : (file : List ℕ) (head : SecHead) (at : ℕ) (past over : Bool) (fault : Option (ℕ × ℕ))
    → table_is_past file head ≡ past → is_over head ≡ over → fault_by past over at ≡ fault → first_fault (table_rules head at) file ≡ fault
fault_where file head at past over fault h g e =
    ap (λ (t : Bool). fault_by t (is_over head) at) h ∙ ap (λ (t : Bool). fault_by past t at) g ∙ e

pub past_is : (file : List ℕ) (head : SecHead) (at : ℕ) → table_is_past file head ≡ true → IsFirstFault (table_rules head at) file 5 at
past_is file head at h = fault_is_least 0 (table_rules head at) file 5 at (rise head at) (fault_where file head at true (is_over head) (Some (5, at)) h refl refl)

pub over_is : (file : List ℕ) (head : SecHead) (at : ℕ) → table_is_past file head ≡ false → is_over head ≡ true → IsFirstFault (table_rules head at) file 26 at
over_is file head at h g = fault_is_least 0 (table_rules head at) file 26 at (rise head at) (fault_where file head at false true (Some (26, at)) h g refl)

pub unbroken : (file : List ℕ) (head : SecHead) (at : ℕ) → table_is_past file head ≡ false → is_over head ≡ false → IsUnbroken (table_rules head at) file
unbroken file head at h g = none_is_unbroken (table_rules head at) file (fault_where file head at false false None h g refl)

early-rise : (head : SecHead) (at : ℕ) → AreAbove 0 (early_table_rules head at)
early-rise head at = (omega arith, tt)

-- the first fault, by the one test
abbrev early_by : Bool → ℕ → Option (ℕ × ℕ)
early_by past at = elim (least (place_if past at)) as (λ _. Option (ℕ × ℕ)) [ None ↦ None | Some p ↦ Some (5, p) ]

pub early_where : (file : List ℕ) (head : SecHead) (at : ℕ) (past : Bool) → table_is_past file head ≡ past → first_fault (early_table_rules head at) file ≡ early_by past at
early_where file head at past h = ap (λ (t : Bool). early_by t at) h

pub early_past_is : (file : List ℕ) (head : SecHead) (at : ℕ) → table_is_past file head ≡ true → IsFirstFault (early_table_rules head at) file 5 at
early_past_is file head at h = fault_is_least 0 (early_table_rules head at) file 5 at (early-rise head at) (early_where file head at true h)

pub early_unbroken : (file : List ℕ) (head : SecHead) (at : ℕ) → table_is_past file head ≡ false → IsUnbroken (early_table_rules head at) file
early_unbroken file head at h = none_is_unbroken (early_table_rules head at) file (early_where file head at false h)

-- a table that lies in the file has no early fault
pub no_early_fault : (file : List ℕ) (head : SecHead) (at rule place : ℕ) → table_is_past file head ≡ false → IsFirstFault (early_table_rules head at) file rule place → ⊥
no_early_fault file head at rule place h f = (early_unbroken file head at h).nowhere rule place f.broken
