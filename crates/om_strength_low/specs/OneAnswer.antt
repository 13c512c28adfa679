-- Clauses that leave one answer, but for want of memory.
use Rattle.std.specs.Prelude.{◌≡◌, ◌⊎◌, ℕ, List, Result, Err}
use Rattle.om_fields.specs.Rules.{Rule}
use Rattle.om_fields.specs.Answers.{Reads}
use Rattle.om_fields.specs.declared.head.FieldErr.{FieldErr}
use Rattle.om_fields.specs.declared.head.FieldErr.TheVariants as field
use Rattle.om_fields.specs.declared.head.Headers.{Headers}
use Rattle.om_symtab.specs.declared.symbol.ExtSym.{ExtSym}
use Rattle.om_reloc.specs.declared.reloc.Reloc.{Reloc}
use Rattle.om_object.specs.File.{ReadsParts, MakesObject}
use Rattle.om_object.specs.declared.parts.Parts.{Parts}
use Rattle.om_object.specs.declared.errors.ObjErr.{ObjErr}
use Rattle.om_object.specs.declared.errors.ObjErr.TheVariants as obj
use Rattle.om_object.specs.declared.errors.MakeErr.{MakeErr}
use Rattle.om_object.specs.declared.errors.MakeErr.TheVariants as make

-- one of two answers is want of memory, or they are equal
abbrev pub AreOne : {T E : Type 0} → E → Result T E → Result T E → Type 0
AreOne want a b = (a ≡ Err want) ⊎ ((b ≡ Err want) ⊎ (a ≡ b))

-- of a reader, by whatever rules, of whatever file, for whatever value
abbrev pub AnswersAreOne : Type 0 → Type 0
AnswersAreOne T =
    (rules : List (Rule (List ℕ))) (file : List ℕ) (v : T) (a b : Result T FieldErr)
    → Reads rules file v a → Reads rules file v b → AreOne field.NoMemory a b

pub record ReadersAreOne : Type 0 where
  pub headers : AnswersAreOne Headers
  pub symbols : AnswersAreOne (List ExtSym)
  pub relocs : AnswersAreOne (List Reloc)

-- of the reader and of the maker of objects
pub record ObjectsAreOne : Type 0 where
  pub reads : (file : List ℕ) (a b : Result Parts ObjErr) → ReadsParts file a → ReadsParts file b → AreOne obj.NoMemory a b
  pub makes : (p : Parts) (a b : Result Parts MakeErr) → MakesObject p a → MakesObject p b → AreOne make.NoMemory a b
