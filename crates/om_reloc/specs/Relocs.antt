-- Relocation entries, and the rules on their tables. An entry is that of the ECOFF object format for Alpha (its reloc.h), of
-- 16 bytes, little-endian: r_vaddr, r_symndx, and four bytes of bits, the type in the first and r_extern in bit 0 of the
-- second.
use Rattle.std.specs.Prelude.{ℕ, ◌+◌, ◌*◌, ◌%◌, Bool, ◌&&◌, ◌==◌, is_some, slice_index, List, [], ◌∷◌, length, find, unwrap_or}
use Rattle.om_fields.specs.Places.{number_at, each, place_if, is_past}
use Rattle.om_fields.specs.Rules.{Rule}
use Rattle.om_fields.specs.declared.head.SecHead.{SecHead}
use Rattle.om_fields.specs.HeaderFields.{head_of, number_of, heads_where}
use Rattle.om_reloc.specs.declared.reloc.Reloc.{Reloc}
use Rattle.om_reloc.specs.declared.reloc.RelocKind.{RelocKind}
use Rattle.om_reloc.specs.declared.reloc.RelocKind.TheVariants.{Ignore, RefLong, RefQuad, GpRel32, Literal, LitUse, GpDisp, BrAddr, Hint, Other}

-- the number of a type: R_REFLONG, R_REFQUAD, R_GPREL32, R_LITERAL, R_LITUSE, R_GPDISP, R_BRADDR, R_HINT; 0 is passed over
abbrev pub kind_code : RelocKind → ℕ
kind_code Ignore = 0
kind_code RefLong = 1
kind_code RefQuad = 2
kind_code GpRel32 = 3
kind_code Literal = 4
kind_code LitUse = 5
kind_code GpDisp = 6
kind_code BrAddr = 7
kind_code Hint = 8
kind_code (Other n) = n

-- the types that have a name here
abbrev pub named_kinds : List RelocKind
named_kinds = Ignore ∷ RefLong ∷ RefQuad ∷ GpRel32 ∷ Literal ∷ LitUse ∷ GpDisp ∷ BrAddr ∷ Hint ∷ []

-- the type of a number, by that table
abbrev pub kind_of : ℕ → RelocKind
kind_of n = unwrap_or (find (λ k. kind_code k == n) named_kinds) (Other n)

-- the entry at an offset
abbrev pub reloc_at : List ℕ → ℕ → Reloc
reloc_at file at = record {
  place = number_at file at 8;
  index = number_at file (at + 8) 4;
  kind = kind_of (slice_index file (at + 12));
  external = slice_index file (at + 13) % 2 == 1;
}

-- the offset of a section's i-th entry, by the section's header
abbrev pub entry_at : SecHead → ℕ → ℕ
entry_at head i = head.relocs_at + 16 * i

-- a section's i-th entry
abbrev pub reloc_of : List ℕ → SecHead → ℕ → Reloc
reloc_of file head i = reloc_at file (entry_at head i)

-- a section's entries in their order
abbrev pub relocs_of : List ℕ → SecHead → List Reloc
relocs_of file head = each (reloc_of file head) head.relocs

-- rule 5: the table, of 16 bytes an entry, runs past the file's end
abbrev pub table_is_past : List ℕ → SecHead → Bool
table_is_past file head = is_past (length file) head.relocs_at (16 * head.relocs)

-- rule 26: the count is 65535, which stands for a greater one that is told elsewhere
abbrev pub is_over : SecHead → Bool
is_over head = head.relocs == 65535

-- the rules on one section's table, at the offset of its header
abbrev pub table_rules : SecHead → ℕ → List (Rule (List ℕ))
table_rules head at = (5, λ file. place_if (table_is_past file head) at) ∷ (26, λ file. place_if (is_over head) at) ∷ []

-- those that a reader tests early: all but rule 26
abbrev pub early_table_rules : SecHead → ℕ → List (Rule (List ℕ))
early_table_rules head at = (5, λ file. place_if (table_is_past file head) at) ∷ []

-- the two rules on all loaded sections of a file, at their headers
abbrev pub rule_5 : List ℕ → List ℕ
rule_5 file = heads_where (λ k. is_some (number_of file k) && table_is_past file (head_of file k)) file

abbrev pub rule_26 : List ℕ → List ℕ
rule_26 file = heads_where (λ k. is_some (number_of file k) && is_over (head_of file k)) file
