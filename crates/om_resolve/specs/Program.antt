-- The program of objects.
use Rattle.std.specs.Prelude.{◌≡◌, ℕ, ℤ, ◌*◌, ◌/◌, true, ◌==◌, if◌then◌else◌, List, [], ◌∷◌, ◌++◌, length, find, Option, Some, None, option_map, option_and_then, unwrap_or, slice_index_or, Result, Ok, Err}
use Rattle.std.specs.Option.{option_to_list}
use Rattle.om_fields.specs.Places.{each, joined, round_up, number_at}
use Rattle.om_fields.specs.Sections.{is_bss}
use Rattle.om_isa.specs.declared.instr.Instr.TheVariants.{Halt}
use Rattle.om_isa.specs.Words.{instr_of}
use Rattle.om_value.specs.declared.value.Place.{Place}
use Rattle.om_value.specs.declared.value.Region.TheVariants.{Sec, Common}
use Rattle.om_value.specs.declared.value.Target.{Target}
use Rattle.om_value.specs.declared.value.Value.TheVariants.{GpOff}
use Rattle.om_value.specs.Lift.{value_of}
use Rattle.om_prog.specs.declared.item.Role.{Role}
use Rattle.om_prog.specs.declared.item.Role.TheVariants.{Plain, Lit, GpHi, GpLo, To}
use Rattle.om_prog.specs.declared.item.Item.{Item}
use Rattle.om_prog.specs.declared.item.Field.{Field}
use Rattle.om_prog.specs.declared.region.RegionInit.{RegionInit}
use Rattle.om_prog.specs.View.{ProgramView}
use Rattle.om_reloc.specs.declared.reloc.Reloc.{Reloc}
use Rattle.om_reloc.specs.declared.reloc.RelocKind.{RelocKind}
use Rattle.om_reloc.specs.declared.reloc.RelocKind.TheVariants.{RefQuad, GpRel32, Literal, GpDisp, BrAddr}
use Rattle.om_object.specs.declared.parts.Section.{Section}
use Rattle.om_object.specs.declared.parts.Parts.{Parts}
use Rattle.om_object.specs.Words.{section_of, offset_of, instr_in, branch_disp, lda_offset, base_offset, own_target}
use Rattle.om_object.specs.Aims.{literal_aim}
use Rattle.om_object.specs.Rules.{reloc_at}
use Rattle.om_resolve.specs.declared.causes.ResolveErr.{ResolveErr}
use Rattle.om_resolve.specs.declared.definition.Definition.{Definition}
use Rattle.om_resolve.specs.declared.definition.Definition.TheVariants.{InSection, AsCommon}
use Rattle.om_resolve.specs.Names.{start_name, object_at, names_of, definition_of, definition_at}
use Rattle.om_resolve.specs.Targets.{target_of}
use Rattle.om_resolve.specs.Causes.{quad_target, gp_target, branch_target, code_of, region_numbers, first_cause, Blames}

abbrev pub place_at : ℕ → ℕ → Place
place_at obj off = record { obj = obj; off = off }

-- what a word is by itself: a branch to the place that its displacement gives, or no more than its instruction
abbrev pub role_by_disp : ℕ → ℕ → Option ℤ → Role
role_by_disp obj off None = Plain
role_by_disp obj off (Some disp) = To (place_at obj (own_target off disp))

abbrev pub own_role : ℕ → Section → ℕ → Role
own_role obj s off = role_by_disp obj off (branch_disp (instr_in s off))

-- the role that stands first at an offset
abbrev pub role_given : List (ℕ × Role) → ℕ → Option Role
role_given roles off = option_map (λ e. e.1) (find (λ e. e.0 == off) roles)

-- a common, where it defines a name
abbrev pub common_region : Definition → List RegionInit
common_region (AsCommon sym size) =
    record { region = Common sym; size = round_up size 8; zero = true; bytes = []; fields = [] } ∷ []
common_region _ = []

abbrev pub entry_by : Definition → Place
entry_by (InSection obj n off) = place_at obj off
entry_by _ = place_at 0 0

module _ (objects : List Parts) where
  -- ---- the words of a text, with their roles

  abbrev pub literal_target : ℕ → Section → Reloc → Option Target
  literal_target obj s r = option_and_then (target_of objects obj) (literal_aim (object_at objects obj) s r)

  -- the first word of a pair that sets the global pointer
  abbrev pub high_roles : ℕ → Section → Reloc → List (ℕ × Role)
  high_roles obj s r =
      option_to_list (option_map (λ base. (offset_of s r, GpHi (place_at obj base))) (base_offset (object_at objects obj) s r))

  -- the words on which a relocation stands, each with the role that it gives it
  abbrev pub roles_by : ℕ → Section → Reloc → RelocKind → List (ℕ × Role)
  roles_by obj s r Literal = option_to_list (option_map (λ t. (offset_of s r, Lit t)) (literal_target obj s r))
  roles_by obj s r GpDisp =
      high_roles obj s r ++ (lda_offset s r, GpLo (place_at obj (offset_of s r))) ∷ []
  roles_by obj s r BrAddr =
      if r.external then option_to_list (option_map (λ q. (offset_of s r, To q)) (code_of (branch_target objects obj s r))) else []
  roles_by obj s r _ = []

  unfoldable pub roles_at : ℕ → Section → Reloc → List (ℕ × Role)
  roles_at obj s r = roles_by obj s r r.kind

  unfoldable pub roles_in : ℕ → Section → List (ℕ × Role)
  roles_in obj s = joined (λ k. roles_at obj s (reloc_at s k)) (length s.relocs)

  -- a word's role: that of the first relocation that stands on it, or else its own
  unfoldable pub role_at : ℕ → Section → ℕ → Role
  role_at obj s off = unwrap_or (role_given (roles_in obj s) off) (own_role obj s off)

  abbrev pub item_of : ℕ → Section → ℕ → Item
  item_of obj s k = record {
    word = number_at s.bytes (4 * k) 4;
    instr = unwrap_or (instr_of (number_at s.bytes (4 * k) 4)) Halt;
    role = role_at obj s (4 * k);
  }

  abbrev pub items_of : ℕ → Option Section → List Item
  items_of obj None = []
  items_of obj (Some s) = each (item_of obj s) (s.size / 4)

  unfoldable pub text_of : ℕ → List Item
  text_of obj = items_of obj (section_of (object_at objects obj) 1)

  -- ---- regions

  -- the field that a relocation makes: an address of 64 bits, or a distance from the GP value of 32
  abbrev pub field_by : ℕ → Section → Reloc → RelocKind → Option Field
  field_by obj s r RefQuad =
      option_map (λ t. record { off = offset_of s r; width = 8; value = value_of t }) (quad_target objects obj s r)
  field_by obj s r GpRel32 =
      option_map (λ t. record { off = offset_of s r; width = 4; value = GpOff obj t }) (gp_target objects obj s r)
  field_by obj s r _ = None

  unfoldable pub fields_of : ℕ → Section → List Field
  fields_of obj s = joined (λ k. option_to_list (field_by obj s (reloc_at s k) (reloc_at s k).kind)) (length s.relocs)

  abbrev pub region_of : ℕ → ℕ → Section → RegionInit
  region_of obj n s = record {
    region = Sec obj n;
    size = round_up s.size 8;
    zero = is_bss n;
    bytes = s.bytes;
    fields = fields_of obj s;
  }

  -- an object's section of a number, where it has it
  unfoldable pub region_at : ℕ → ℕ → List RegionInit
  region_at obj n = option_to_list (option_map (region_of obj n) (section_of (object_at objects obj) n))

  unfoldable pub regions_of : ℕ → List RegionInit
  regions_of obj = joined (λ k. region_at obj (slice_index_or region_numbers k 0)) (length region_numbers)

  abbrev pub common_at : ℕ → List RegionInit
  common_at k = common_region (definition_at objects k)

  -- the program of objects that have no cause against them: the text of each; the regions of each by their numbers, then the
  -- commons by those of their names; and where `__start` is
  unfoldable pub program_of : ProgramView
  program_of = record {
    texts = each text_of (length objects);
    regions = joined regions_of (length objects) ++ joined common_at (length (names_of objects));
    entry = entry_by (definition_of objects start_name);
  }

-- what `resolve` answers: the objects' program, or the first cause; or memory ran out
abbrev pub Resolves : List Parts → Result ProgramView ResolveErr → Type 0
Resolves objects (Ok p) = (p ≡ program_of objects) × (first_cause objects ≡ None)
Resolves objects (Err e) = Blames (first_cause objects) e
