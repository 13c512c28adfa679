-- How long the lists of an object are.
use Rattle.std.specs.Prelude.{ℕ, ◌+◌, ◌^◌, ◌<◌, length, All, sum_by}
use Rattle.om_symtab.specs.declared.symbol.ExtSym.{ExtSym}
use Rattle.om_object.specs.declared.parts.Section.{Section}
use Rattle.om_object.specs.declared.parts.Parts.{Parts}

-- how many items the lists of a section have
abbrev pub section_length : Section → ℕ
section_length s = length s.bytes + length s.relocs

abbrev pub name_length : ExtSym → ℕ
name_length y = length y.name

-- how many items the lists of an object have
abbrev pub total_length : Parts → ℕ
total_length p =
    length p.sections + sum_by section_length p.sections + length p.symbols + sum_by name_length p.symbols

-- the numbers of sections and of their relocations can be written
pub record HasCounts (p : Parts) : Type 0 where
  pub sections : length p.sections < 2 ^ 16
  pub relocs : All (λ s. length s.relocs < 2 ^ 16) p.sections
