-- Why objects are no program: ten causes, of which the first that applies is answered. The rules 27 and 28 are this project's
-- own reading of external relocations of the ECOFF object format; the limits are its own too. That a branch reaches 2 ^ 20
-- words each way follows the branch format of the Alpha Architecture Handbook.
use Rattle.std.specs.Prelude.{◌≡◌, ℕ, ◌+◌, ◌/◌, ℤ, pos, negsuc, ◌-ℤ◌, Bool, true, false, ◌&&◌, ◌==◌, nat_lt, if◌then◌else◌, List, [], ◌∷◌, length, sum_by, take, Option, Some, None, Result, Ok, Err, is_none, option_map, option_and_then, slice_get, slice_index_or}
use Rattle.om_fields.specs.Places.{each, joined}
use Rattle.om_value.specs.declared.value.Place.{Place}
use Rattle.om_value.specs.declared.value.Region.{Region}
use Rattle.om_value.specs.declared.value.Region.TheVariants.{Sec, Common}
use Rattle.om_value.specs.declared.value.Target.{Target}
use Rattle.om_value.specs.declared.value.Target.TheVariants.{Num, Ptr, Code}
use Rattle.om_symtab.specs.declared.symbol.ExtSym.{ExtSym}
use Rattle.om_reloc.specs.declared.reloc.Reloc.{Reloc}
use Rattle.om_reloc.specs.declared.reloc.RelocKind.{RelocKind}
use Rattle.om_reloc.specs.declared.reloc.RelocKind.TheVariants.{RefQuad, GpRel32, BrAddr}
use Rattle.om_object.specs.declared.parts.Section.{Section}
use Rattle.om_object.specs.declared.parts.Parts.{Parts}
use Rattle.om_object.specs.Words.{section_of, offset_of}
use Rattle.om_object.specs.Aims.{quad_aim, gp_aim, branch_aim}
use Rattle.om_object.specs.Rules.{is_braddr, has_target, section_at, reloc_at}
use Rattle.om_resolve.specs.declared.causes.ResolveErr.{ResolveErr}
use Rattle.om_resolve.specs.declared.causes.ResolveErr.TheVariants.{Duplicate, Unresolved, Rule, Limit, TooFar, NoMemory}
use Rattle.om_resolve.specs.declared.causes.Which.{Which}
use Rattle.om_resolve.specs.declared.causes.Which.TheVariants.{Objects, Text, ObjText, Data, Symbols}
use Rattle.om_resolve.specs.declared.definition.Definition.{Definition}
use Rattle.om_resolve.specs.declared.definition.Definition.TheVariants.{InSection}
use Rattle.om_resolve.specs.declared.finding.Scan.{Scan}
use Rattle.om_resolve.specs.declared.finding.Scan.TheVariants.{Names, Targets, Reach}
use Rattle.om_resolve.specs.declared.finding.Finding.{Finding}
use Rattle.om_resolve.specs.declared.finding.Finding.TheVariants.{Nameless, Broken, Far}
use Rattle.om_resolve.specs.Names.{Name, Seen, start_name, object_at, names_of, number_of, defining, definition_of, definition_at, is_missing}
use Rattle.om_resolve.specs.Targets.{target_of, section_size, common_size}
use Rattle.om_resolve.specs.Findings.{first_found}

-- the first that an item of a list gives
abbrev pub first_given : {X Y : Type 0} → (X → Option Y) → List X → Option Y
first_given {Y = Y} f [] = None
first_given {Y = Y} f (x ∷ xs) =
    elim (f x) as (λ _. Option Y) [
      | None ↦ first_given f xs
      | Some y ↦ Some y
    ]

-- ---- sizes of an object's parts, in bytes

abbrev pub size_of_text : Option Section → ℕ
size_of_text None = 0
size_of_text (Some t) = t.size

abbrev pub text_size : Parts → ℕ
text_size p = size_of_text (section_of p 1)

abbrev pub text_words : Parts → ℕ
text_words p = text_size p / 4

-- the sections that are regions, by their numbers: all loaded ones but `.text` and `.lita`
abbrev pub region_numbers : List ℕ
region_numbers = 2 ∷ 3 ∷ 4 ∷ 5 ∷ 6 ∷ 8 ∷ 9 ∷ 15 ∷ []

abbrev pub data_size : Parts → ℕ
data_size p = sum_by (section_size p) region_numbers

-- a name that two symbols define
abbrev pub two_of : Name → List Seen → Option ResolveErr
two_of n (s ∷ t ∷ ss) = Some (Duplicate n s.obj t.obj)
two_of n _ = None

abbrev pub is_in_text : Definition → Bool
is_in_text (InSection obj n off) = n == 1
is_in_text _ = false

abbrev pub first_object : List Seen → ℕ
first_object [] = 0
first_object (s ∷ ss) = s.obj

-- it needs a definition of the name that it names
abbrev pub is_reference : Reloc → Bool
is_reference r = r.external && has_target r.kind

abbrev pub is_no_code : Option Target → Bool
is_no_code (Some (Code q)) = false
is_no_code _ = true

-- 21 signed bits
abbrev pub reaches : ℤ → Bool
reaches (pos n) = nat_lt n 1048576
reaches (negsuc n) = nat_lt n 1048576

abbrev pub code_of : Option Target → Option Place
code_of (Some (Code q)) = Some q
code_of _ = None

-- a total above its limit
abbrev pub over : Which → ℕ → ℕ → Option ResolveErr
over which limit total = if nat_lt limit total then Some (Limit which total) else None

module _ (objects : List Parts) where
  -- ---- a name with two definitions

  unfoldable pub duplicate : Option ResolveErr
  duplicate = first_given (λ n. two_of n (defining objects n)) (names_of objects)

  -- ---- no place to start

  unfoldable pub no_start : Option ResolveErr
  no_start =
      if is_in_text (definition_of objects start_name) then None else Some (Unresolved start_name (first_object (defining objects start_name)))

  -- ---- a name that is referenced and has no definition

  abbrev pub nameless_by : ℕ → Option ExtSym → Option Finding
  nameless_by obj None = None
  nameless_by obj (Some y) = if is_missing (definition_of objects y.name) then Some (Nameless (number_of objects y.name) obj) else None

  abbrev pub nameless_at : ℕ → Reloc → Option Finding
  nameless_at obj r = if is_reference r then nameless_by obj (slice_get (object_at objects obj).symbols r.index) else None

  -- ---- rules 27 and 28

  abbrev pub region_size : Region → ℕ
  region_size (Sec obj n) = section_size (object_at objects obj) n
  region_size (Common k) = common_size (definition_at objects k)
  region_size _ = 0

  abbrev pub is_no_gp_target : Option Target → Bool
  is_no_gp_target None = true
  is_no_gp_target (Some (Num n)) = true
  is_no_gp_target (Some (Ptr r x)) = nat_lt (region_size r) x
  is_no_gp_target (Some (Code q)) = false

  abbrev pub quad_target : ℕ → Section → Reloc → Option Target
  quad_target obj s r = target_of objects obj (quad_aim (object_at objects obj) s r)

  abbrev pub gp_target : ℕ → Section → Reloc → Option Target
  gp_target obj s r = target_of objects obj (gp_aim (object_at objects obj) s r)

  abbrev pub branch_target : ℕ → Section → Reloc → Option Target
  branch_target obj s r = option_and_then (target_of objects obj) (branch_aim s r)

  -- the rule that an external relocation breaks
  abbrev pub rule_broken : ℕ → Section → Reloc → RelocKind → Option ℕ
  rule_broken obj s r RefQuad = if is_none (quad_target obj s r) then Some 27 else None
  rule_broken obj s r GpRel32 = if is_no_gp_target (gp_target obj s r) then Some 27 else None
  rule_broken obj s r BrAddr = if is_no_code (branch_target obj s r) then Some 28 else None
  rule_broken obj s r _ = None

  abbrev pub broken_at : ℕ → Section → Reloc → Option Finding
  broken_at obj s r = if r.external then option_map (λ rule. Broken obj rule r.place) (rule_broken obj s r r.kind) else None

  -- ---- branches that do not reach

  -- how many words of the program stand before a place, by object and offset
  abbrev pub index_of : Place → ℕ
  index_of q = sum_by text_words (take q.obj objects) + q.off / 4

  abbrev pub distance : Place → Place → ℤ
  distance p q = (pos (index_of q) -ℤ pos (index_of p)) -ℤ pos 1

  abbrev pub far_by : Place → Option Place → Option Finding
  far_by p None = None
  far_by p (Some q) = if reaches (distance p q) then None else Some (Far p (distance p q))

  abbrev pub far_at : ℕ → Section → Reloc → Option Finding
  far_at obj s r =
      if r.external && is_braddr r.kind
      then far_by (record { obj = obj; off = offset_of s r }) (code_of (branch_target obj s r))
      else None

  -- ---- what is found at all relocations

  abbrev pub found_at : Scan → ℕ → Section → Reloc → Option Finding
  found_at Names obj s r = nameless_at obj r
  found_at Targets obj s r = broken_at obj s r
  found_at Reach obj s r = far_at obj s r

  unfoldable pub found_in_section : Scan → ℕ → Section → List (Option Finding)
  found_in_section scan obj s = each (λ k. found_at scan obj s (reloc_at s k)) (length s.relocs)

  unfoldable pub found_in_object : Scan → ℕ → List (Option Finding)
  found_in_object scan obj =
      joined (λ a. found_in_section scan obj (section_at (object_at objects obj) a)) (length (object_at objects obj).sections)

  unfoldable pub found_in : Scan → List (Option Finding)
  found_in scan = joined (found_in_object scan) (length objects)

  abbrev pub cause_of : Finding → ResolveErr
  cause_of (Nameless k file) = Unresolved (slice_index_or (names_of objects) k []) file
  cause_of (Broken file rule at) = Rule file rule at
  cause_of (Far p words) = TooFar p words

  unfoldable pub scanned : Scan → Option ResolveErr
  scanned scan = option_map cause_of (first_found (found_in scan))

  -- ---- limits

  unfoldable pub many_objects : Option ResolveErr
  many_objects = over Objects 256 (length objects)

  unfoldable pub long_text : Option ResolveErr
  long_text = over Text 16777216 (sum_by text_size objects)

  unfoldable pub long_object : Option ResolveErr
  long_object = first_given (λ p. over ObjText 4194304 (text_size p)) objects

  abbrev pub commons_size : ℕ
  commons_size = sum_by (λ n. common_size (definition_of objects n)) (names_of objects)

  unfoldable pub much_data : Option ResolveErr
  much_data = over Data 33554432 (sum_by data_size objects + commons_size)

  unfoldable pub many_symbols : Option ResolveErr
  many_symbols = over Symbols 1000000 (sum_by (λ p. length p.symbols) objects)

  -- ---- all causes, in their order

  unfoldable pub name_causes : Option ResolveErr
  name_causes = first_given (λ o. o) (duplicate ∷ no_start ∷ scanned Names ∷ scanned Targets ∷ [])

  unfoldable pub limit_causes : Option ResolveErr
  limit_causes = first_given (λ o. o) (many_objects ∷ long_text ∷ long_object ∷ much_data ∷ many_symbols ∷ [])

  unfoldable pub first_cause : Option ResolveErr
  first_cause = first_given (λ o. o) (name_causes ∷ limit_causes ∷ scanned Reach ∷ [])

-- what is answered in place of a result: the cause; or memory ran out, whatever applies
abbrev pub Blames : Option ResolveErr → ResolveErr → Type 0
Blames cause NoMemory = Unit {0}
Blames cause e = cause ≡ Some e

-- what a test of a cause answers: the cause, or nothing where it does not apply
abbrev pub Checks : {T : Type 0} → Option ResolveErr → Result T ResolveErr → Type 0
Checks cause (Ok x) = cause ≡ None
Checks cause (Err e) = Blames cause e
