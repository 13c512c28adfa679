-- A written object is read as itself.
use Rattle.std.specs.Prelude.{◌≡◌, ◌^◌, ◌<◌, All}
use Rattle.om_symtab.specs.declared.symbol.ExtSym.{ExtSym}
use Rattle.om_reloc.specs.declared.reloc.Reloc.{Reloc}
use Rattle.om_object.specs.declared.parts.Section.{Section}
use Rattle.om_object.specs.declared.parts.Parts.{Parts}
use Rattle.om_object.specs.Rules.{IsObject}
use Rattle.om_object.specs.File.{parts_of, IsAccepted}
use Rattle.om_objwrite.specs.Written.{file_of}
use Rattle.om_objwrite.specs.Lengths.{total_length}

-- the numbers of a relocation, a section, a symbol and an object are below the widths of their fields; those of which a rule
-- says more, as a section's number or a symbol's class, are left to the rules
pub record HasRelocWidths (r : Reloc) : Type 0 where
  pub place : r.place < 2 ^ 64
  pub index : r.index < 2 ^ 32

pub record HasSectionWidths (s : Section) : Type 0 where
  pub addr : s.addr < 2 ^ 64
  pub size : s.size < 2 ^ 64
  pub relocs : All HasRelocWidths s.relocs

pub record HasSymbolWidths (y : ExtSym) : Type 0 where
  pub value : y.value < 2 ^ 64

pub record HasWidths (p : Parts) : Type 0 where
  pub gp : p.gp < 2 ^ 64
  pub sections : All HasSectionWidths p.sections
  pub symbols : All HasSymbolWidths p.symbols

-- the file of the parts holds them, and breaks no rule
pub record ReadsBack (p : Parts) : Type 0 where
  pub parts : parts_of (file_of p) ≡ p
  pub accepted : IsAccepted (file_of p)

abbrev pub WrittenIsRead : Type 0
WrittenIsRead = (p : Parts) → HasWidths p → IsObject p → total_length p < 2 ^ 28 → ReadsBack p
