-- What the fields and branches of objects aim at in their program.
use Rattle.std.specs.Prelude.{ℕ, ◌+◌, ◌%◌, ◌^◌, ◌==◌, if◌then◌else◌, List, Option, Some, None}
use Rattle.om_fields.specs.Places.{round_up}
use Rattle.om_value.specs.declared.value.Region.TheVariants.{Sec, Common}
use Rattle.om_value.specs.declared.value.Target.{Target}
use Rattle.om_value.specs.declared.value.Target.TheVariants.{Num, Ptr, Code}
use Rattle.om_object.specs.declared.parts.Section.{Section}
use Rattle.om_object.specs.declared.parts.Parts.{Parts}
use Rattle.om_object.specs.Words.{section_of, is_word}
use Rattle.om_object.specs.Aims.{Aim, Number, Inside, Symbol}
use Rattle.om_resolve.specs.declared.definition.Definition.{Definition}
use Rattle.om_resolve.specs.declared.definition.Definition.TheVariants.{Missing, Absolute, InSection, AsCommon}
use Rattle.om_resolve.specs.Names.{object_at, meaning_of}

module _ (objects : List Parts) where
  abbrev pub byte_in : ℕ → ℕ → ℕ → Option Section → Option Target
  byte_in obj n off None = None
  byte_in obj n off (Some s) = Some (Ptr (Sec obj n) off)

  -- an offset in an object's section: in the text it is a word, or nothing; and nothing is in a section that is not there
  abbrev pub place_in : ℕ → ℕ → ℕ → Option Target
  place_in obj n off =
      if n == 1
      then (if is_word (object_at objects obj) off then Some (Code (record { obj = obj; off = off })) else None)
      else byte_in obj n off (section_of (object_at objects obj) n)

  -- a definition with an addend
  abbrev pub defined_target : Definition → ℕ → Option Target
  defined_target Missing addend = None
  defined_target (Absolute v) addend = Some (Num ((v + addend) % 2 ^ 64))
  defined_target (InSection obj section off) addend = place_in obj section ((off + addend) % 2 ^ 64)
  defined_target (AsCommon sym size) addend = Some (Ptr (Common sym) addend)

  -- the target of an aim of an object
  abbrev pub target_of : ℕ → Aim → Option Target
  target_of obj (Number n) = Some (Num n)
  target_of obj (Inside section off) = place_in obj section off
  target_of obj (Symbol index addend) = defined_target (meaning_of objects obj index) addend

-- ---- sizes, rounded up to a multiple of 8

abbrev pub rounded : Option Section → ℕ
rounded None = 0
rounded (Some s) = round_up s.size 8

abbrev pub section_size : Parts → ℕ → ℕ
section_size p n = rounded (section_of p n)

abbrev pub common_size : Definition → ℕ
common_size (AsCommon sym size) = round_up size 8
common_size _ = 0
