-- The object that a file holds, and the rules on files.
use Rattle.std.specs.Prelude.{◌≡◌, ⊤, ℕ, Bool, ◌&&◌, is_some, if◌then◌else◌, List, [], ◌∷◌, ◌++◌, map, Option, Some, None, unwrap_or, Result, Ok, Err}
use Rattle.om_fields.specs.Places.{number_at, bytes_at, picked, least}
use Rattle.om_fields.specs.Rules.{Rule, IsFirstFault, IsUnbroken, first_fault}
use Rattle.om_fields.specs.declared.head.SecHead.{SecHead}
use Rattle.om_fields.specs.declared.head.Headers.{Headers}
use Rattle.om_fields.specs.Sections.{is_bss, number_of_name}
use Rattle.om_fields.specs.HeaderFields.{section_count, header_at, head_of, headers_of, number_of, header_rules, rule_4, rule_6, rule_24}
use Rattle.om_symtab.specs.Symbols.{symbols_of, symbols_place, rule_7, rule_8}
use Rattle.om_reloc.specs.Relocs.{relocs_of, rule_5, rule_26, table_is_past, is_over}
use Rattle.om_object.specs.declared.parts.Section.{Section}
use Rattle.om_object.specs.declared.parts.Parts.{Parts}
use Rattle.om_object.specs.declared.errors.ObjErr.{ObjErr}
use Rattle.om_object.specs.declared.errors.ObjErr.TheVariants as obj
use Rattle.om_object.specs.declared.errors.MakeErr.{MakeErr}
use Rattle.om_object.specs.declared.errors.MakeErr.TheVariants as make
use Rattle.om_object.specs.declared.rules.TableRule.{TableRule}
use Rattle.om_object.specs.declared.rules.TableRule.TheVariants.{Past, Over}
use Rattle.om_object.specs.declared.origin.Origin.{Origin}
use Rattle.om_object.specs.declared.origin.Origins.{Origins}
use Rattle.om_object.specs.Spots.{place_of, places_of}
use Rattle.om_object.specs.Rules.{PartRule, rules_9_to_23, rule_25, rule_29, made_rules, first_broken, IsObject}

-- a header of a loaded section
abbrev pub is_loaded : List ℕ → ℕ → Bool
is_loaded file k = is_some (number_of file k)

abbrev pub bytes_of_section : List ℕ → ℕ → SecHead → List ℕ
bytes_of_section file n head = if is_bss n then [] else bytes_at file head.bytes_at head.size

abbrev pub section_by : List ℕ → ℕ → SecHead → Section
section_by file n head = record {
  number = n;
  addr = head.addr;
  size = head.size;
  bytes = bytes_of_section file n head;
  relocs = relocs_of file head;
}

abbrev pub section_of_head : List ℕ → ℕ → Section
section_of_head file k = section_by file (unwrap_or (number_of file k) 0) (head_of file k)

abbrev pub sym_at : List ℕ → ℕ
sym_at file = number_at file 8 8

-- the parts that a file holds
abbrev pub parts_of : List ℕ → Parts
parts_of file = record {
  gp = number_at file 96 8;
  sections = picked (is_loaded file) (section_of_head file) (section_count file);
  symbols = symbols_of file (sym_at file);
}

-- where the sections' headers, bytes and relocations stand in a file, and where its symbols do
abbrev pub origin_of : List ℕ → ℕ → Origin
origin_of file k = record {
  head = header_at k;
  bytes = (head_of file k).bytes_at;
  relocs = (head_of file k).relocs_at;
}

abbrev pub origins_of : List ℕ → Origins
origins_of file = record {
  sections = picked (is_loaded file) (origin_of file) (section_count file);
  symbols = symbols_place file (sym_at file);
}

-- the test of a rule on the relocation table of a loaded section
abbrev pub table_breaks : TableRule → List ℕ → SecHead → Bool
table_breaks Past file head = table_is_past file head
table_breaks Over file head = is_over head

abbrev pub head_breaks : TableRule → List ℕ → SecHead → Bool
head_breaks rule file head = is_some (number_of_name head.name) && table_breaks rule file head

-- the loaded sections' bytes and relocation tables lie in the file
pub record HasSections (file : List ℕ) : Type 0 where
  pub bytes : least (rule_4 file) ≡ None
  pub tables : least (rule_5 file) ≡ None

-- a rule on parts as one on files
abbrev pub on_file : PartRule → Rule (List ℕ)
on_file r = (r.0, λ file. map (place_of (origins_of file)) (r.1 (parts_of file)))

-- the rules 1 to 6: on the headers, and on what they say of relocation tables and of addresses
abbrev pub head_rules : List (Rule (List ℕ))
head_rules = header_rules ++ (5, rule_5) ∷ (6, rule_6) ∷ []

-- the rules 7 and 8, on symbols
abbrev pub name_rules : List (Rule (List ℕ))
name_rules = (7, λ file. rule_7 (sym_at file) file) ∷ (8, λ file. rule_8 (sym_at file) file) ∷ []

-- the rules 24, 25, 26 and 29
abbrev pub last_rules : List (Rule (List ℕ))
last_rules = (24, rule_24) ∷ on_file rule_25 ∷ (26, rule_26) ∷ on_file rule_29 ∷ []

abbrev pub found_or : ℕ → Option ℕ → Option (ℕ × ℕ) → Option (ℕ × ℕ)
found_or rule at later = elim at as (λ _. Option (ℕ × ℕ)) [ None ↦ later | Some x ↦ Some (rule, x) ]

-- the first of them that is broken by a file with these parts and origins
abbrev pub last_spot : List ℕ → Parts → Origins → Option (ℕ × ℕ)
last_spot file p o =
    found_or 24 (least (rule_24 file)) (found_or 25 (least (places_of o (rule_25.1 p)))
    (found_or 26 (least (rule_26 file)) (found_or 29 (least (places_of o (rule_29.1 p))) None)))

-- all rules of object files, in the order of their numbers
abbrev pub object_rules : List (Rule (List ℕ))
object_rules = head_rules ++ name_rules ++ map on_file rules_9_to_23 ++ last_rules

-- the headers of a file that breaks none of the rules 1 to 6, or the first of these that it breaks
abbrev pub ReadsHeads : List ℕ → Result Headers ObjErr → Type 0
ReadsHeads file (Ok headers) = (headers ≡ headers_of file) × (first_fault head_rules file ≡ None)
ReadsHeads file (Err (obj.Rule rule at)) = first_fault head_rules file ≡ Some (rule, at)
ReadsHeads file (Err obj.NoMemory) = ⊤

-- a file that breaks no rule
abbrev pub IsAccepted : List ℕ → Type 0
IsAccepted file = IsUnbroken object_rules file

-- what reading a file answers: the parts of an accepted file, or the least broken rule with its least place
abbrev pub ReadsParts : List ℕ → Result Parts ObjErr → Type 0
ReadsParts file (Ok p) = (p ≡ parts_of file) × IsAccepted file
ReadsParts file (Err (obj.Rule rule at)) = IsFirstFault object_rules file rule at
ReadsParts file (Err obj.NoMemory) = ⊤

-- what `Object::make` answers
abbrev pub MakesObject : Parts → Result Parts MakeErr → Type 0
MakesObject p (Ok q) = (q ≡ p) × IsObject p
MakesObject p (Err (make.Rule rule)) = first_broken made_rules p ≡ Some rule
MakesObject p (Err make.NoMemory) = ⊤
