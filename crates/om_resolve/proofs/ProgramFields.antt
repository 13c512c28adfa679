-- The initial fields of the program of objects.
use Rattle.std.proofs.Common.{◌≡◌, ℕ, ◌+◌, ◌%◌, ◌<◌, ◌≤◌, false, not, ◌==◌, nat_lt, List, length, Option, Some, None, refl, ap, sym, subst, ◌∙◌, arith}
use Rattle.std.specs.Prelude.{is_none, option_map}
use Rattle.std.specs.Option.{option_to_list}
use Rattle.std.proofs.lemmas.Bool.{eqb-true}
use Rattle.std.proofs.lemmas.Bool.Decides.{nat_tests}
use Rattle.om_fields.specs.Sections.{name_of_number}
use Rattle.om_reloc.specs.declared.reloc.RelocKind.{RelocKind}
use Rattle.om_reloc.specs.declared.reloc.RelocKind.TheVariants.{Ignore, RefLong, RefQuad, GpRel32, Literal, LitUse, GpDisp, BrAddr, Hint, Other}
use Rattle.om_object.specs.declared.parts.Section.{Section}
use Rattle.om_object.specs.declared.parts.Parts.{Parts}
use Rattle.om_object.specs.declared.rules.RelocRule.{RelocRule}
use Rattle.om_object.specs.declared.rules.RelocRule.TheVariants.{Inside as StaysInside, Natural}
use Rattle.om_object.specs.Words.{section_of, offset_of}
use Rattle.om_object.specs.Rules.{reloc_at, is_ignore, is_unnatural, field_width, bytes_wanted, breaks, breaks_at, is_shared, IsObject}
use Rattle.om_value.specs.declared.value.Target.{Target}
use Rattle.om_value.specs.declared.value.Value.TheVariants.{GpOff}
use Rattle.om_value.specs.Lift.{value_of}
use Rattle.om_prog.specs.declared.item.Field.{Field}
use Rattle.om_resolve.specs.Names.{object_at}
use Rattle.om_resolve.specs.Causes.{quad_target, gp_target}
use Rattle.om_resolve.specs.Program.{field_by, fields_of}
use Rattle.om_resolve.proofs.Members.{In, in_joined, in_given}
use Rattle.om_resolve.proofs.ObjectFacts.{and_false, not_true, keeps_rule, is_unshared, is_named}
use Rattle.om_resolve.proofs.ProgramWords.{found_at, filled_is}

-- ---- a section of an object that breaks no rule

pub record SoundSection (p : Parts) (s : Section) : Type 0 where
  pub rules : (rule : RelocRule) (i : ℕ) → i < length s.relocs → breaks_at p rule s i ≡ false
  pub unshared : (i : ℕ) → i < length s.relocs → is_shared s i ≡ false
  pub filled : length s.bytes ≡ bytes_wanted s
  pub named : is_none (name_of_number s.number) ≡ false

pub sound_section : (p : Parts) → IsObject p → (n : ℕ) (s : Section) → section_of p n ≡ Some s → SoundSection p s
sound_section p o n s h =
    let f = found_at p n s h in
    subst (λ t. SoundSection p t) f.here
    (record {
      rules = λ rule i. keeps_rule p o rule f.index i f.below;
      unshared = λ i. is_unshared p o f.index i f.below;
      filled = filled_is p o f.index f.below;
      named = is_named p o f.index f.below;
    })

-- a relocation of a kind keeps a rule
pub kept_by : (p : Parts) (s : Section) → SoundSection p s → (rule : RelocRule) (i : ℕ) → i < length s.relocs → (kind : RelocKind) → (reloc_at s i).kind ≡ kind → is_ignore kind ≡ false → breaks p rule s (reloc_at s i) ≡ false
kept_by p s fine rule i li kind e plain =
    and_false (not (is_ignore (reloc_at s i).kind)) (breaks p rule s (reloc_at s i)) (fine.rules rule i li)
    (ap (λ k. not (is_ignore k)) e ∙ ap not plain)

-- ---- which fields there are

pub data IsFieldOf (objects : List Parts) (obj : ℕ) (s : Section) (i : ℕ) (f : Field) : Type 0 where
  quad :
      (t : Target) → (reloc_at s i).kind ≡ RefQuad → quad_target objects obj s (reloc_at s i) ≡ Some t →
      f ≡ record { off = offset_of s (reloc_at s i); width = 8; value = value_of t } → IsFieldOf objects obj s i f
  distance :
      (t : Target) → (reloc_at s i).kind ≡ GpRel32 → gp_target objects obj s (reloc_at s i) ≡ Some t →
      f ≡ record { off = offset_of s (reloc_at s i); width = 4; value = GpOff obj t } → IsFieldOf objects obj s i f

module _ (objects : List Parts) (obj : ℕ) (s : Section) where
  pub field_is : (i : ℕ) (f : Field) → field_by objects obj s (reloc_at s i) (reloc_at s i).kind ≡ Some f → IsFieldOf objects obj s i f
  field_is i f h = by_kind (reloc_at s i).kind refl h
    where
      of_quad : (reloc_at s i).kind ≡ RefQuad → (o : Option Target) → quad_target objects obj s (reloc_at s i) ≡ o → option_map (λ t. record { off = offset_of s (reloc_at s i); width = 8; value = value_of t }) o ≡ Some f → IsFieldOf objects obj s i f
      of_quad k None e h = cc
      of_quad k (Some t) e h = let same : record { off = offset_of s (reloc_at s i); width = 8; value = value_of t } ≡ f = cc in quad t k e (sym same)

      of_gp : (reloc_at s i).kind ≡ GpRel32 → (o : Option Target) → gp_target objects obj s (reloc_at s i) ≡ o → option_map (λ t. record { off = offset_of s (reloc_at s i); width = 4; value = GpOff obj t }) o ≡ Some f → IsFieldOf objects obj s i f
      of_gp k None e h = cc
      of_gp k (Some t) e h = let same : record { off = offset_of s (reloc_at s i); width = 4; value = GpOff obj t } ≡ f = cc in distance t k e (sym same)

      by_kind : (k : RelocKind) → (reloc_at s i).kind ≡ k → field_by objects obj s (reloc_at s i) k ≡ Some f → IsFieldOf objects obj s i f
      by_kind RefQuad e h = of_quad e (quad_target objects obj s (reloc_at s i)) refl h
      by_kind GpRel32 e h = of_gp e (gp_target objects obj s (reloc_at s i)) refl h
      by_kind Ignore e h = cc
      by_kind RefLong e h = cc
      by_kind Literal e h = cc
      by_kind LitUse e h = cc
      by_kind GpDisp e h = cc
      by_kind BrAddr e h = cc
      by_kind Hint e h = cc
      by_kind (Other n) e h = cc

  pub field_in : (f : Field) → In (fields_of objects obj s) f → (i : ℕ) × (i < length s.relocs) × IsFieldOf objects obj s i f
  unfolding fields_of
  field_in f h =
      let a = in_joined (λ k. option_to_list (field_by objects obj s (reloc_at s k) (reloc_at s k).kind)) (length s.relocs) f h in
      (a.index, a.below, field_is a.index f (in_given (field_by objects obj s (reloc_at s a.index) (reloc_at s a.index).kind) f a.here))

  -- ---- what every field has

  pub field_natural : (i : ℕ) (f : Field) → SoundSection (object_at objects obj) s → i < length s.relocs → IsFieldOf objects obj s i f → f.off % f.width ≡ 0
  field_natural i f fine li (quad t k e same) =
      let n = kept_by (object_at objects obj) s fine Natural i li RefQuad k refl in
      let m : not (offset_of s (reloc_at s i) % 8 == 0) ≡ false = by_kind (reloc_at s i).kind k n in
      let z : offset_of s (reloc_at s i) % 8 ≡ 0 = eqb-true (offset_of s (reloc_at s i) % 8) 0 (not_true (offset_of s (reloc_at s i) % 8 == 0) m) in
      subst (λ (g : Field). g.off % g.width ≡ 0) (sym same) z
    where
      by_kind : (k : RelocKind) → k ≡ RefQuad → is_unnatural k (offset_of s (reloc_at s i)) ≡ false → not (offset_of s (reloc_at s i) % 8 == 0) ≡ false
      by_kind k e h = sym (ap (λ k. is_unnatural k (offset_of s (reloc_at s i))) e) ∙ h
  field_natural i f fine li (distance t k e same) =
      let n = kept_by (object_at objects obj) s fine Natural i li GpRel32 k refl in
      let m : not (offset_of s (reloc_at s i) % 4 == 0) ≡ false = sym (ap (λ k. is_unnatural k (offset_of s (reloc_at s i))) k) ∙ n in
      let z : offset_of s (reloc_at s i) % 4 ≡ 0 = eqb-true (offset_of s (reloc_at s i) % 4) 0 (not_true (offset_of s (reloc_at s i) % 4 == 0) m) in
      subst (λ (g : Field). g.off % g.width ≡ 0) (sym same) z

  pub field_inside : (i : ℕ) (f : Field) → SoundSection (object_at objects obj) s → i < length s.relocs → IsFieldOf objects obj s i f → f.off + f.width ≤ s.size
  field_inside i f fine li (quad t k e same) =
      let n = kept_by (object_at objects obj) s fine StaysInside i li RefQuad k refl in
      let m : nat_lt s.size (offset_of s (reloc_at s i) + 8) ≡ false = sym (ap (λ k. nat_lt s.size (offset_of s (reloc_at s i) + field_width k)) k) ∙ n in
      let z : offset_of s (reloc_at s i) + 8 ≤ s.size = grind (arith, nat_tests) in
      subst (λ (g : Field). g.off + g.width ≤ s.size) (sym same) z
  field_inside i f fine li (distance t k e same) =
      let n = kept_by (object_at objects obj) s fine StaysInside i li GpRel32 k refl in
      let m : nat_lt s.size (offset_of s (reloc_at s i) + 4) ≡ false = sym (ap (λ k. nat_lt s.size (offset_of s (reloc_at s i) + field_width k)) k) ∙ n in
      let z : offset_of s (reloc_at s i) + 4 ≤ s.size = grind (arith, nat_tests) in
      subst (λ (g : Field). g.off + g.width ≤ s.size) (sym same) z
