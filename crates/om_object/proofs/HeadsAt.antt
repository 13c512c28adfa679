-- The headers of a file whose sections lie in it.
use Rattle.std.proofs.Common.{◌≡◌, ℕ, ◌<◌, Bool, true, false, ◌&&◌, List, length, refl, ap, subst, ◌∙◌, arith}
use Rattle.std.specs.Prelude.{Option, Some, None, Err, slice_index_or, is_some}
use Rattle.om_fields.specs.Places.{each, is_past}
use Rattle.om_fields.proofs.Picked.{none-picked}
use Rattle.om_fields.proofs.Each.{each_from-get, each_from-length}
use Rattle.om_fields.specs.declared.head.SecHead.{SecHead}
use Rattle.om_fields.specs.Sections.{is_bss}
use Rattle.om_fields.specs.HeaderFields.{section_count, head_of, header_at, number_of, has_bytes, runs_past, early_rules, headers_of}
use Rattle.om_fields.specs.Answers.{Reads}
use Rattle.om_fields.specs.declared.head.FieldErr.{FieldErr}
use Rattle.om_fields.specs.declared.head.FieldErr.TheVariants.{Rule as Broken}
use Rattle.om_fields.proofs.Faults.{early_none, early_first}
use Rattle.om_fields.specs.Rules.{IsFirstFault, IsUnbroken, first_fault}
use Rattle.om_reloc.specs.Relocs.{table_is_past, early_table_rules}
use Rattle.om_reloc.proofs.Entries.{no_early_fault}
use Rattle.om_object.specs.declared.rules.TableRule.TheVariants.{Past}
use Rattle.om_object.specs.File.{HasSections, head_breaks}

pub heads-length : (file : List ℕ) (heads : List SecHead) → heads ≡ each (head_of file) (section_count file) → length heads ≡ section_count file
heads-length file heads e = ap length e ∙ each_from-length (head_of file) 0 (section_count file)

pub head-at : (file : List ℕ) (heads : List SecHead) (k : ℕ) (d : SecHead) → heads ≡ each (head_of file) (section_count file) → k < section_count file → slice_index_or heads k d ≡ head_of file k
head-at file heads k d e h =
    ap (λ (hs : List SecHead). slice_index_or hs k d) e ∙ each_from-get (head_of file) 0 (section_count file) k d h
    ∙ ap (head_of file) (omega arith)

last-false : (a b : Bool) → a ≡ true → (a && b) ≡ false → b ≡ false
last-false true b e h = h
last-false false b e h = cc

has-bytes : (o : Option ℕ) (n : ℕ) → o ≡ Some n → is_bss n ≡ false → has_bytes o ≡ true
has-bytes o n e h = rw e (rw h refl)

loaded-by : (o : Option ℕ) (n : ℕ) → o ≡ Some n → is_some o ≡ true
loaded-by o n e = rw e refl

-- a loaded section's bytes lie in the file
pub section-inside : (file : List ℕ) (k n : ℕ) → HasSections file → k < section_count file → number_of file k ≡ Some n → is_bss n ≡ false
    → is_past (length file) (head_of file k).bytes_at (head_of file k).size ≡ false
section-inside file k n fits h number e =
    last-false (has_bytes (number_of file k)) (is_past (length file) (head_of file k).bytes_at (head_of file k).size)
    (has-bytes (number_of file k) n number e) (none-picked (runs_past file) header_at (section_count file) fits.bytes k h)

-- and its relocation table too
pub table-inside : (file : List ℕ) (k n : ℕ) → HasSections file → k < section_count file → number_of file k ≡ Some n → table_is_past file (head_of file k) ≡ false
table-inside file k n fits h number =
    last-false (is_some (number_of file k)) (table_is_past file (head_of file k))
    (loaded-by (number_of file k) n number) (none-picked (λ j. head_breaks Past file (head_of file j)) header_at (section_count file) fits.tables k h)

-- the early reader of relocations finds no fault in a table that lies in the file
pub no_table_fault : (file : List ℕ) (head : SecHead) (at rule place : ℕ) → table_is_past file head ≡ false → IsFirstFault (early_table_rules head at) file rule place → ⊥
no_table_fault file head at rule place h f = no_early_fault file head at rule place h f

-- what the early reader of headers says of the first fault
pub early_kept : (file : List ℕ) → IsUnbroken early_rules file → first_fault early_rules file ≡ None
early_kept file u = early_none file u

pub early_named : (file : List ℕ) (e : FieldErr) (rule at : ℕ) → e ≡ Broken rule at → Reads early_rules file (headers_of file) (Err e) → first_fault early_rules file ≡ Some (rule, at)
early_named file e rule at named h = early_first file rule at (subst (λ (x : FieldErr). Reads early_rules file (headers_of file) (Err x)) named h)
