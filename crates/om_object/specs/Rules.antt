-- The rules on the parts of an object, each as the spots where it is broken.
use Rattle.std.specs.Prelude.{◌≡◌, ℕ, ◌+◌, ◌*◌, ◌/◌, ◌%◌, ◌^◌, ℤ, Bool, true, false, not, ◌&&◌, ◌||◌, ◌==◌, nat_lt, nat_le, is_none, if◌then◌else◌, List, [], ◌∷◌, ◌++◌, length, take, flat_map, Option, Some, None, slice_get, slice_index_or}
use Rattle.om_fields.specs.Places.{any_of, each, joined, picked, minus_64, number_at}
use Rattle.om_fields.specs.Sections.{is_bss, name_of_number}
use Rattle.om_fields.specs.declared.extents.Extent.{Extent}
use Rattle.om_fields.specs.Extents.{is_misplaced}
use Rattle.om_symtab.specs.declared.symbol.ExtSym.{ExtSym}
use Rattle.om_symtab.specs.Classes.{section_of_class, is_naming}
use Rattle.om_reloc.specs.declared.reloc.Reloc.{Reloc}
use Rattle.om_reloc.specs.declared.reloc.RelocKind.{RelocKind}
use Rattle.om_reloc.specs.declared.reloc.RelocKind.TheVariants.{Ignore, RefLong, RefQuad, GpRel32, Literal, LitUse, GpDisp, BrAddr, Hint, Other}
use Rattle.om_object.specs.declared.parts.Section.{Section}
use Rattle.om_object.specs.declared.parts.Parts.{Parts}
use Rattle.om_object.specs.declared.rules.RelocRule.{RelocRule}
use Rattle.om_object.specs.declared.rules.RelocRule.TheVariants.{Inside, Aligned, Named, Targeted, Paired, Slotted, Branching, Known, Placed, Natural}
use Rattle.om_object.specs.declared.rules.SectionRule.{SectionRule}
use Rattle.om_object.specs.declared.rules.SectionRule.TheVariants.{Uneven, Misfilled, Crowded}
use Rattle.om_object.specs.declared.rules.SymbolRule.{SymbolRule}
use Rattle.om_object.specs.declared.rules.SymbolRule.TheVariants.{Misvalued, Unwritable}
use Rattle.om_object.specs.Words.{section_of, offset_of, is_word, instr_in, branch_disp, lda_offset, base_offset, slot_of, own_target, moved}
use Rattle.om_object.specs.Aims.{gp_value}

-- where a rule on parts is broken: a section, a symbol, a section's relocation, an offset of a word of a section
pub data Spot : Type 0 where
  AtSection : (a : ℕ) → Spot
  AtSymbol : (j : ℕ) → Spot
  AtReloc : (a i : ℕ) → Spot
  AtWord : (a offset : ℕ) → Spot

abbrev pub no_section : Section
no_section = record { number = 0; addr = 0; size = 0; bytes = []; relocs = [] }

abbrev pub no_reloc : Reloc
no_reloc = record { place = 0; index = 0; kind = Ignore; external = false }

abbrev pub no_symbol : ExtSym
no_symbol = record { name = []; value = 0; class = 0 }

abbrev pub section_at : Parts → ℕ → Section
section_at p a = slice_index_or p.sections a no_section

abbrev pub symbol_at : Parts → ℕ → ExtSym
symbol_at p j = slice_index_or p.symbols j no_symbol

abbrev pub reloc_at : Section → ℕ → Reloc
reloc_at s i = slice_index_or s.relocs i no_reloc

-- ---- what kinds of relocations are

abbrev pub is_ignore : RelocKind → Bool
is_ignore Ignore = true
is_ignore _ = false

-- 64 bits, or 32
abbrev pub field_width : RelocKind → ℕ
field_width RefQuad = 8
field_width _ = 4

-- it names a target
abbrev pub has_target : RelocKind → Bool
has_target RefQuad = true
has_target GpRel32 = true
has_target BrAddr = true
has_target _ = false

abbrev pub is_literal : RelocKind → Bool
is_literal Literal = true
is_literal _ = false

abbrev pub is_lituse : RelocKind → Bool
is_lituse LitUse = true
is_lituse _ = false

abbrev pub is_gpdisp : RelocKind → Bool
is_gpdisp GpDisp = true
is_gpdisp _ = false

abbrev pub is_braddr : RelocKind → Bool
is_braddr BrAddr = true
is_braddr _ = false

abbrev pub is_unknown : RelocKind → Bool
is_unknown RefLong = true
is_unknown (Other n) = true
is_unknown _ = false

abbrev pub holds_data : ℕ → Bool
holds_data n = (n == 2) || (n == 3) || (n == 4) || (n == 8) || (n == 9) || (n == 15)

-- a kind may stand in the section of a number
abbrev pub may_stand : RelocKind → ℕ → Bool
may_stand RefQuad n = holds_data n || (n == 13)
may_stand GpRel32 n = holds_data n
may_stand Literal n = n == 1
may_stand LitUse n = n == 1
may_stand GpDisp n = n == 1
may_stand BrAddr n = n == 1
may_stand Hint n = n == 1
may_stand _ n = false

abbrev pub is_unnatural : RelocKind → ℕ → Bool
is_unnatural RefQuad off = not (off % 8 == 0)
is_unnatural GpRel32 off = not (off % 4 == 0)
is_unnatural _ off = false

-- 15: a LITUSE without an earlier LITERAL, or of an unknown use
abbrev pub is_stray : Bool → Reloc → Bool
is_stray led r = is_lituse r.kind && (not led || not (nat_le 1 r.index && nat_le r.index 3))

abbrev pub is_led : Section → ℕ → Bool
is_led s i = any_of (λ r. is_literal r.kind) (take i s.relocs)

abbrev pub is_unled : Section → ℕ → Bool
is_unled s i = is_stray (is_led s i) (reloc_at s i)

-- 17: a byte of two fields
unfoldable pub four_bytes : ℕ → List ℕ
four_bytes off = each (λ k. (off + k) % 2 ^ 64) 4

abbrev pub bytes_by_kind : Section → Reloc → RelocKind → List ℕ
bytes_by_kind s r RefQuad = four_bytes (offset_of s r) ++ four_bytes ((offset_of s r + 4) % 2 ^ 64)
bytes_by_kind s r GpRel32 = four_bytes (offset_of s r)
bytes_by_kind s r Literal = four_bytes (offset_of s r)
bytes_by_kind s r BrAddr = four_bytes (offset_of s r)
bytes_by_kind s r GpDisp = four_bytes (offset_of s r) ++ four_bytes (lda_offset s r)
bytes_by_kind s r _ = []

abbrev pub field_bytes : Section → Reloc → List ℕ
field_bytes s r = bytes_by_kind s r r.kind

-- some byte stands in the others, or twice among these
abbrev pub repeats : List ℕ → List ℕ → Bool
repeats seen [] = false
repeats seen (b ∷ bs) = any_of (λ c. c == b) seen || repeats (b ∷ seen) bs

abbrev pub is_shared : Section → ℕ → Bool
is_shared s i = repeats (flat_map (field_bytes s) (take i s.relocs)) (field_bytes s (reloc_at s i))

-- 16: an external BRADDR stands at an offset
abbrev pub is_branch_field : Section → ℕ → Reloc → Bool
is_branch_field s off r = is_braddr r.kind && r.external && (offset_of s r == off)

abbrev pub is_bound : Section → ℕ → Bool
is_bound s off = any_of (is_branch_field s off) s.relocs

-- 21: a word that is no instruction
abbrev pub is_unreadable : Section → ℕ → Bool
is_unreadable s off = is_none (instr_in s off)

-- 25: an address that is no multiple of 16, or a size that leaves a part of a word or of a slot
abbrev pub is_uneven : Section → Bool
is_uneven s =
    (nat_lt 0 s.size && not (s.addr % 16 == 0)) || ((s.number == 1) && not (s.size % 4 == 0)) || ((s.number == 13) && not (s.size % 8 == 0))

-- 4, of parts made by hand: bytes of the wrong number
abbrev pub bytes_wanted : Section → ℕ
bytes_wanted s = if is_bss s.number then 0 else s.size

abbrev pub is_misfilled : Section → Bool
is_misfilled s = not (length s.bytes == bytes_wanted s)

-- 26, of parts made by hand: more relocations than a count can say
abbrev pub is_crowded : Section → Bool
is_crowded s = nat_le 65535 (length s.relocs)

abbrev pub section_breaks : SectionRule → Section → Bool
section_breaks Uneven s = is_uneven s
section_breaks Misfilled s = is_misfilled s
section_breaks Crowded s = is_crowded s

-- 8, of parts made by hand: a name that holds a zero byte, or a class above 31
abbrev pub is_unwritable : ExtSym → Bool
is_unwritable y = any_of (λ c. c == 0) y.name || nat_lt 31 y.class

abbrev pub names_nothing : Option ExtSym → Bool
names_nothing None = true
names_nothing (Some y) = not (is_naming y.class)

module _ (p : Parts) where
  -- ---- tests of one relocation, or of one symbol

  abbrev pub names_no_section : ℕ → Bool
  names_no_section n = not (n == 14) && ((n == 13) || is_none (section_of p n))

  -- an address outside a section, or in the text and no word; or the section is missing
  abbrev pub is_no_place : ℕ → Option Section → Bool
  is_no_place address None = true
  is_no_place address (Some s) =
      nat_lt s.size (minus_64 address s.addr) || ((s.number == 1) && not (is_word p (minus_64 address s.addr)))

  abbrev pub is_no_word : ℕ → Option Section → Bool
  is_no_word address None = true
  is_no_word address (Some s) = not (is_word p (minus_64 address s.addr))

  abbrev pub misses : RelocKind → Section → Reloc → Bool
  misses RefQuad s r = (r.index == 1) && is_no_word (number_at s.bytes (offset_of s r) 8) (section_of p 1)
  misses GpRel32 s r = (r.index == 14) || is_no_place (moved p.gp (gp_value s r)) (section_of p r.index)
  misses _ s r = false

  abbrev pub is_no_base : Option ℕ → Bool
  is_no_base None = true
  is_no_base (Some off) = not (is_word p off)

  abbrev pub is_unpaired : Section → Reloc → Bool
  is_unpaired s r =
      r.external || (r.index == 0) || not (r.index % 4 == 0) || not (nat_lt (lda_offset s r) s.size) || is_no_base (base_offset p s r)

  abbrev pub breaks : RelocRule → Section → Reloc → Bool
  breaks Inside s r = nat_lt s.size (offset_of s r + field_width r.kind)
  breaks Aligned s r = (s.number == 1) && not (offset_of s r % 4 == 0)
  breaks Named s r = has_target r.kind && (if r.external then names_nothing (slice_get p.symbols r.index) else names_no_section r.index)
  breaks Targeted s r = not r.external && misses r.kind s r
  breaks Paired s r = (s.number == 1) && is_gpdisp r.kind && is_unpaired s r
  breaks Slotted s r =
      (s.number == 1) && is_literal r.kind && (r.external || not (r.index == 13) || is_none (slot_of p s r))
  breaks Branching s r = (s.number == 1) && is_braddr r.kind && is_none (branch_disp (instr_in s (offset_of s r)))
  breaks Known s r = is_unknown r.kind
  breaks Placed s r = not (may_stand r.kind s.number)
  breaks Natural s r = is_unnatural r.kind (offset_of s r)

  -- ---- the spots of which a test holds

  abbrev pub sections_where : (Section → Bool) → List Spot
  sections_where test = picked (λ a. test (section_at p a)) AtSection (length p.sections)

  abbrev pub symbols_where : (ExtSym → Bool) → List Spot
  symbols_where test = picked (λ j. test (symbol_at p j)) AtSymbol (length p.symbols)

  -- a test of a section's i-th relocation
  abbrev pub entries_where : (Section → ℕ → Bool) → List Spot
  entries_where test =
      joined (λ a. picked (test (section_at p a)) (AtReloc a) (length (section_at p a).relocs)) (length p.sections)

  abbrev pub breaks_at : RelocRule → Section → ℕ → Bool
  breaks_at rule s i = not (is_ignore (reloc_at s i).kind) && breaks rule s (reloc_at s i)

  abbrev pub relocs_where : RelocRule → List Spot
  relocs_where rule = entries_where (breaks_at rule)

  -- a test of an offset of the words of the text
  abbrev pub words_where : (Section → ℕ → Bool) → List Spot
  words_where test =
      joined (λ a. picked (λ k. ((section_at p a).number == 1) && test (section_at p a) (4 * k)) (λ k. AtWord a (4 * k)) (length (section_at p a).bytes / 4)) (length p.sections)

  -- ---- the rules

  -- 12: of symbols
  abbrev pub is_misplaced_in : ℕ → Option ℕ → Bool
  is_misplaced_in value None = false
  is_misplaced_in value (Some n) = is_no_place value (section_of p n)

  abbrev pub symbol_breaks : SymbolRule → ExtSym → Bool
  symbol_breaks Misvalued y = is_misplaced_in y.value (section_of_class y.class)
  symbol_breaks Unwritable y = is_unwritable y

  abbrev pub part_rule_12 : List Spot
  part_rule_12 = symbols_where (symbol_breaks Misvalued) ++ relocs_where Targeted

  -- 16: a branch without an external BRADDR that leaves the text
  abbrev pub goes_astray : ℕ → Option ℤ → Bool
  goes_astray off None = false
  goes_astray off (Some disp) = not (is_word p (own_target off disp))

  abbrev pub is_astray : Section → ℕ → Bool
  is_astray s off = goes_astray off (branch_disp (instr_in s off)) && not (is_bound s off)

  abbrev pub part_rule_16 : List Spot
  part_rule_16 =
      relocs_where Branching ++ words_where is_astray

-- a rule on parts: its number, and the spots where it is broken
abbrev pub PartRule : Type 0
PartRule = ℕ × (Parts → List Spot)

abbrev pub rule_9 : PartRule
rule_9 = (9, λ p. relocs_where p Inside)

abbrev pub rules_9_to_12 : List PartRule
rules_9_to_12 =
    rule_9 ∷ (10, λ p. relocs_where p Aligned) ∷ (11, λ p. relocs_where p Named) ∷ (12, part_rule_12) ∷ []

abbrev pub rules_13_to_17 : List PartRule
rules_13_to_17 =
    (13, λ p. relocs_where p Paired) ∷ (14, λ p. relocs_where p Slotted) ∷ (15, λ p. entries_where p is_unled)
    ∷ (16, part_rule_16) ∷ (17, λ p. entries_where p is_shared) ∷ []

abbrev pub rules_21_to_23 : List PartRule
rules_21_to_23 =
    (21, λ p. words_where p is_unreadable) ∷ (22, λ p. relocs_where p Known) ∷ (23, λ p. relocs_where p Placed) ∷ []

-- the rules on sections, symbols, relocations and words that files and parts made by hand have in common
abbrev pub rules_9_to_23 : List PartRule
rules_9_to_23 = rules_9_to_12 ++ rules_13_to_17 ++ rules_21_to_23

abbrev pub rule_25 : PartRule
rule_25 = (25, λ p. sections_where p (section_breaks Uneven))

abbrev pub rule_29 : PartRule
rule_29 = (29, λ p. relocs_where p Natural)

-- ---- the rules that parts made by hand must meet besides

-- 6
abbrev pub extent_of : Section → Extent
extent_of s = record { number = Some s.number; addr = s.addr; size = s.size }

abbrev pub section_extent : Parts → ℕ → Extent
section_extent p a = extent_of (section_at p a)

abbrev pub made_rule_6 : Parts → List Spot
made_rule_6 p =
    picked (λ a. is_none (name_of_number (section_at p a).number) || is_misplaced (section_extent p) a) AtSection (length p.sections)

abbrev pub made_front : List PartRule
made_front =
    (4, λ p. sections_where p (section_breaks Misfilled)) ∷ (6, made_rule_6) ∷ (8, λ p. symbols_where p (symbol_breaks p Unwritable)) ∷ []

abbrev pub made_last : List PartRule
made_last = rule_25 ∷ (26, λ p. sections_where p (section_breaks Crowded)) ∷ rule_29 ∷ []

-- all rules on parts, in the order of their numbers
abbrev pub made_rules : List PartRule
made_rules = made_front ++ rules_9_to_12 ++ rules_13_to_17 ++ rules_21_to_23 ++ made_last

-- no rule of a list is broken
abbrev pub AreKept : List PartRule → Parts → Type 0
AreKept [] p = Unit {0}
AreKept (r ∷ rs) p = (r.1 p ≡ []) × AreKept rs p

-- parts that are an object
pub record IsObject (p : Parts) : Type 0 where
  pub kept : AreKept made_rules p

-- some spot stands in a list
abbrev pub is_found : List Spot → Bool
is_found [] = false
is_found (x ∷ xs) = true

-- the least rule of a list that is broken, where the numbers rise
abbrev pub first_broken : List PartRule → Parts → Option ℕ
first_broken [] p = None
first_broken (r ∷ rs) p = if is_found (r.1 p) then Some r.0 else first_broken rs p
