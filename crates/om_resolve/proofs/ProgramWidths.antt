-- The widths of the fields of the program of objects.
use Rattle.std.proofs.Common.{◌≡◌, ℕ, ◌<◌, Bool, true, false, cond, not, ◌||◌, ◌==◌, List, length, Option, Some, None, refl, ap, sym, ◌∙◌}
use Rattle.std.specs.Prelude.{is_none, slice_get}
use Rattle.std.proofs.lemmas.Bool.{eqb-false}
use Rattle.om_fields.specs.Places.{number_at}
use Rattle.om_reloc.specs.declared.reloc.Reloc.{Reloc}
use Rattle.om_reloc.specs.declared.reloc.RelocKind.TheVariants.{RefQuad}
use Rattle.om_object.specs.declared.parts.Section.{Section}
use Rattle.om_object.specs.declared.parts.Parts.{Parts}
use Rattle.om_object.specs.declared.rules.RelocRule.TheVariants.{Named}
use Rattle.om_object.specs.Words.{section_of, offset_of}
use Rattle.om_object.specs.Aims.{Number, Symbol, inside, local_aim, quad_aim}
use Rattle.om_object.specs.Rules.{reloc_at, has_target, names_no_section, names_nothing, IsObject}
use Rattle.om_value.specs.declared.value.Target.{Target}
use Rattle.om_value.specs.declared.value.Target.TheVariants.{Num, Ptr, Code}
use Rattle.om_value.specs.Lift.{value_of}
use Rattle.om_prog.specs.View.{ProgramView}
use Rattle.om_prog.specs.Valid.{is_target, width_of}
use Rattle.om_resolve.specs.Names.{object_at}
use Rattle.om_resolve.specs.Causes.{quad_target}
use Rattle.om_resolve.specs.Program.{program_of}
use Rattle.om_resolve.proofs.ObjectFacts.{or_false, and_false}
use Rattle.om_resolve.proofs.ProgramTargets.{AimsElsewhere, aim_is_target}
use Rattle.om_resolve.proofs.ProgramFields.{SoundSection, kept_by}

-- a field that holds a target's address has eight bytes
pub address_width : (p : ProgramView) (t : Target) → is_target p t ≡ true → width_of p (value_of t) ≡ Some 8
address_width p (Num n) h = refl
address_width p (Ptr r x) h = ap (λ b. cond b (Some 8) None) h
address_width p (Code q) h = ap (λ b. cond b (Some 8) None) h

module _ (objects : List Parts) (sound : (k : ℕ) → k < length objects → IsObject (object_at objects k)) (obj : ℕ) where
  -- an address in a section that is there, or in none
  pub address_elsewhere : (p : Parts) (n address : ℕ) → names_no_section p n ≡ false → AimsElsewhere objects sound obj (local_aim p n address)
  address_elsewhere p n address h = by_number (n == 14) refl
    where
      by_section : (n == 14) ≡ false → (o : Option Section) → section_of p n ≡ o → AimsElsewhere objects sound obj (inside n address o)
      by_section z o e =
          let there = and_false (not (n == 14)) ((n == 13) || is_none (section_of p n)) h (ap not z) in
          let other : (n == 13) ≡ false = (or_false (n == 13) (is_none (section_of p n)) there).0 in
          by_found o (eqb-false n 13 other)
        where
          by_found : (o : Option Section) → (n ≡ 13 → ⊥) → AimsElsewhere objects sound obj (inside n address o)
          by_found None f = f
          by_found (Some s) f = f

      by_number : (b : Bool) → (n == 14) ≡ b → AimsElsewhere objects sound obj (cond b (Number address) (inside n address (section_of p n)))
      by_number true z = tt
      by_number false z = by_section z (section_of p n) refl

  -- a relocation of a kind that has a target names a symbol or a section
  names_section : (p : Parts) (r : Reloc) → r.external ≡ false → cond r.external (names_nothing (slice_get p.symbols r.index)) (names_no_section p r.index) ≡ false → names_no_section p r.index ≡ false
  names_section p r e h = sym (ap (λ b. cond b (names_nothing (slice_get p.symbols r.index)) (names_no_section p r.index)) e) ∙ h

  pub quad_elsewhere : (s : Section) (i : ℕ) → SoundSection (object_at objects obj) s → i < length s.relocs → (reloc_at s i).kind ≡ RefQuad → AimsElsewhere objects sound obj (quad_aim (object_at objects obj) s (reloc_at s i))
  quad_elsewhere s i fine li k = by_origin (reloc_at s i).external refl
    where
      by_origin : (b : Bool) → (reloc_at s i).external ≡ b → AimsElsewhere objects sound obj (cond b (Symbol (reloc_at s i).index (number_at s.bytes (offset_of s (reloc_at s i)) 8)) (local_aim (object_at objects obj) (reloc_at s i).index (number_at s.bytes (offset_of s (reloc_at s i)) 8)))
      by_origin true e = tt
      by_origin false e =
          let broken = kept_by (object_at objects obj) s fine Named i li RefQuad k refl in
          let named = and_false (has_target (reloc_at s i).kind) (cond (reloc_at s i).external (names_nothing (slice_get (object_at objects obj).symbols (reloc_at s i).index)) (names_no_section (object_at objects obj) (reloc_at s i).index)) broken (ap has_target k) in
          address_elsewhere (object_at objects obj) (reloc_at s i).index (number_at s.bytes (offset_of s (reloc_at s i)) 8) (names_section (object_at objects obj) (reloc_at s i) e named)

  -- what a field of 64 bits holds is in the program
  pub quad_is_target : (s : Section) (i : ℕ) (t : Target) → obj < length objects → SoundSection (object_at objects obj) s → i < length s.relocs → (reloc_at s i).kind ≡ RefQuad → quad_target objects obj s (reloc_at s i) ≡ Some t → is_target (program_of objects) t ≡ true
  quad_is_target s i t ho fine li k h = aim_is_target objects sound obj (quad_aim (object_at objects obj) s (reloc_at s i)) t ho (quad_elsewhere s i fine li k) h
