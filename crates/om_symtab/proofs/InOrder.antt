-- The symbols stand in order, and the first fault of their rules is the least.
use Rattle.std.proofs.Common.{◌≡◌, ℕ, ◌+◌, List, [], ◌∷◌, ◌++◌, arith}
use Rattle.std.specs.Prelude.{Some, None}
use Rattle.om_fields.specs.Places.{each}
use Rattle.om_fields.specs.Rules.{IsFirstFault, IsUnbroken, first_fault, AreAbove}
use Rattle.om_fields.proofs.FirstFault.{fault_is_least, none_is_unbroken}
use Rattle.om_fields.proofs.Each.{each-snoc}
use Rattle.om_fields.proofs.Picked.{Rises}
use Rattle.om_symtab.specs.Symbols.{symbol_of, symbol_at, symbol_rules}

pub symbols-rise : (file : List ℕ) (at : ℕ) → Rises (symbol_at file at)
symbols-rise file at i j h = omega arith

pub symbols_snoc : (file : List ℕ) (at n : ℕ) → each (symbol_of file at) (n + 1) ≡ each (symbol_of file at) n ++ symbol_of file at n ∷ []
symbols_snoc file at n = each-snoc (symbol_of file at) n

rise : (at : ℕ) → AreAbove 0 (symbol_rules at)
rise at = (omega arith, (omega arith, tt))

pub fault_is : (file : List ℕ) (at rule place : ℕ) → first_fault (symbol_rules at) file ≡ Some (rule, place) → IsFirstFault (symbol_rules at) file rule place
fault_is file at rule place h = fault_is_least 0 (symbol_rules at) file rule place (rise at) h

pub unbroken : (file : List ℕ) (at : ℕ) → first_fault (symbol_rules at) file ≡ None → IsUnbroken (symbol_rules at) file
unbroken file at h = none_is_unbroken (symbol_rules at) file h
