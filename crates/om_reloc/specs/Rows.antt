-- Worked rows of relocation entries.
use Rattle.std.specs.Prelude.{◌≡◌, ℕ, ◌-◌, ◌^◌, true, false, List, [], ◌∷◌, ◌++◌, map, codes, Some, None, refl, slice_set}
use Rattle.om_fields.specs.Rules.{first_fault}
use Rattle.om_fields.specs.RowOne.{row_one}
use Rattle.om_fields.specs.Sections.{number_of_name}
use Rattle.om_fields.specs.declared.head.SecHead.{SecHead}
use Rattle.om_reloc.specs.Relocs.{kind_of, reloc_at, relocs_of, table_rules, early_table_rules, rule_5, rule_26}
use Rattle.om_reloc.specs.declared.reloc.RelocKind.TheVariants.{Ignore, RefLong, RefQuad, GpRel32, Literal, LitUse, GpDisp, BrAddr, Hint, Other}

pub row_kinds : map kind_of (0 ∷ 1 ∷ 2 ∷ 3 ∷ 4 ∷ 5 ∷ 6 ∷ 7 ∷ 8 ∷ 9 ∷ 255 ∷ [])
    ≡ Ignore ∷ RefLong ∷ RefQuad ∷ GpRel32 ∷ Literal ∷ LitUse ∷ GpDisp ∷ BrAddr ∷ Hint ∷ Other 9 ∷ Other 255 ∷ []
row_kinds = refl

-- an external BRADDR at 120000010 to the symbol 3, and a GPDISP whose LDA stands 4 bytes before its LDAH; bits that are
-- not named are set
abbrev pub branch : List ℕ
branch = 0x10 ∷ 0 ∷ 0 ∷ 0x20 ∷ 1 ∷ 0 ∷ 0 ∷ 0 ∷ 3 ∷ 0 ∷ 0 ∷ 0 ∷ 7 ∷ 0x01 ∷ 0 ∷ 0xfc ∷ []

abbrev pub base : List ℕ
base = 0x20 ∷ 0 ∷ 0 ∷ 0x20 ∷ 1 ∷ 0 ∷ 0 ∷ 0 ∷ 0xfc ∷ 0xff ∷ 0xff ∷ 0xff ∷ 6 ∷ 0xfe ∷ 0xff ∷ 0xff ∷ []

pub row_branch : reloc_at branch 0 ≡ record { place = 0x120000010; index = 3; kind = BrAddr; external = true }
row_branch = refl

pub row_base : reloc_at (branch ++ base) 16 ≡ record { place = 0x120000020; index = 2 ^ 32 - 4; kind = GpDisp; external = false }
row_base = refl

-- a table of so many entries at an offset
abbrev pub table : ℕ → ℕ → SecHead
table at count = record { name = codes ".text"; addr = 0; size = 0; bytes_at = 0; relocs_at = at; relocs = count }

pub row_both : relocs_of (branch ++ base) (table 0 2)
    ≡ record { place = 0x120000010; index = 3; kind = BrAddr; external = true }
    ∷ record { place = 0x120000020; index = 2 ^ 32 - 4; kind = GpDisp; external = false } ∷ []
row_both = refl

-- in 32 bytes: a table to the end, one a byte past it, an empty one far behind, and counts of 65534 and 65535 in 32 bytes
pub row_to_the_end : first_fault (table_rules (table 0 2) 104) (branch ++ base) ≡ None
row_to_the_end = refl

pub row_past_the_end : first_fault (table_rules (table 1 2) 104) (branch ++ base) ≡ Some (5, 104)
row_past_the_end = refl

pub row_empty_behind : first_fault (table_rules (table (2 ^ 64 - 1) 0) 104) [] ≡ None
row_empty_behind = refl

pub row_many : first_fault (table_rules (table 0 65535) 104) (branch ++ base) ≡ Some (5, 104)
row_many = refl

pub row_past_the_end_early : first_fault (early_table_rules (table 1 2) 104) (branch ++ base) ≡ Some (5, 104)
row_past_the_end_early = refl

-- the places of rule 26, in whatever file
pub row_not_over : map (λ r. r.1 []) (table_rules (table 0 65534) 104) ≡ (104 ∷ []) ∷ [] ∷ []
row_not_over = refl

pub row_over : map (λ r. r.1 []) (table_rules (table 0 65535) 104) ≡ (104 ∷ []) ∷ (104 ∷ []) ∷ []
row_over = refl

pub row_over_early : map (λ r. r.0) (early_table_rules (table 0 65535) 104) ≡ 5 ∷ []
row_over_early = refl

-- a whole file of one text: a table that runs past the end, with 65535 entries
pub row_file_none : rule_5 row_one ≡ []
unfolding number_of_name
row_file_none = refl

pub row_file_past : rule_5 (slice_set (slice_set row_one 160 0xff) 161 0xff) ≡ 104 ∷ []
unfolding number_of_name
row_file_past = refl

pub row_file_over : rule_26 (slice_set (slice_set row_one 160 0xff) 161 0xff) ≡ 104 ∷ []
unfolding number_of_name
row_file_over = refl
