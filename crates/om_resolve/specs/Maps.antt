-- Tables and ordered maps that stand for lists: what is found first in the list is what they have.
use Rattle.std.specs.Prelude.{◌≡◌, ℕ, ◌*◌, ◌<◌, Bool, ◌&&◌, ◌==◌, List, length, find, Option, None, slice_index_or}
use Rattle.std.specs.BTreeMap.{BTreeMap, get}
use Rattle.std.specs.Ordering.{nat_cmp}
use Rattle.om_reloc.specs.declared.reloc.Reloc.{Reloc}
use Rattle.om_object.specs.declared.parts.Section.{Section}
use Rattle.om_object.specs.Words.{offset_of}
use Rattle.om_object.specs.Aims.{is_quad}
use Rattle.om_prog.specs.declared.item.Role.{Role}
use Rattle.om_resolve.specs.Program.{role_given}

-- the roles of a list that stand at words, by the numbers of these
pub record HasRoles (words : List (Option Role)) (roles : List (ℕ × Role)) : Type 0 where
  pub holds : (k : ℕ) → k < length words → slice_index_or words k None ≡ role_given roles (4 * k)

-- a REFQUAD at an offset of a section
abbrev pub is_quad_at : Section → ℕ → Reloc → Bool
is_quad_at lita off r = is_quad r.kind && (offset_of lita r == off)

-- the REFQUADs of a list, by the offsets of their fields
pub record HasQuads (lita : Section) (m : BTreeMap ℕ Reloc) (relocs : List Reloc) : Type 0 where
  pub holds : (off : ℕ) → get nat_cmp m off ≡ find (is_quad_at lita off) relocs
