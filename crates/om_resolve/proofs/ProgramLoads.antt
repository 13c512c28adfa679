-- What the address loads of the program of objects aim at: each is there, and a text has few.
use Rattle.std.proofs.Common.{◌≡◌, inl, inr, ℕ, suc, ◌+◌, ◌%◌, ◌<◌, Bool, true, false, cond, ◌&&◌, ◌==◌, nat_le, List, [], ◌∷◌, length, Option, Some, None, refl, ap, sym, subst, ◌∙◌, arith, slice_index_or}
use Rattle.std.specs.Prelude.{ℤ, find, option_map, option_and_then, unwrap_or}
use Rattle.std.proofs.lemmas.Bool.{eqb-true}
use Rattle.om_fields.specs.Places.{minus_64, number_at}
use Rattle.om_isa.specs.declared.instr.Instr.{Instr}
use Rattle.om_isa.specs.declared.instr.Instr.TheVariants.{Mem}
use Rattle.om_isa.specs.declared.instr.MemOp.TheVariants.{Ldq}
use Rattle.om_isa.specs.Words.{instr_of}
use Rattle.om_isa.proofs.Found.{map_some, then_some}
use Rattle.om_reloc.specs.declared.reloc.Reloc.{Reloc}
use Rattle.om_reloc.specs.declared.reloc.RelocKind.{RelocKind}
use Rattle.om_reloc.specs.declared.reloc.RelocKind.TheVariants.{RefQuad}
use Rattle.om_object.specs.declared.parts.Section.{Section}
use Rattle.om_object.specs.declared.parts.Parts.{Parts}
use Rattle.om_object.specs.Words.{section_of, offset_of, instr_in, ldq_disp, moved, slot_in, slot_of}
use Rattle.om_object.specs.Aims.{Number, is_quad, quad_aim, slot_aim}
use Rattle.om_object.specs.Rules.{no_reloc, reloc_at, IsObject}
use Rattle.om_value.specs.declared.value.Target.{Target}
use Rattle.om_value.specs.declared.value.Target.TheVariants.{Num}
use Rattle.om_prog.specs.Valid.{is_target}
use Rattle.om_resolve.specs.Names.{object_at}
use Rattle.om_resolve.specs.Targets.{target_of}
use Rattle.om_resolve.specs.Program.{literal_target, program_of}
use Rattle.om_resolve.proofs.Members.{In, found_in}
use Rattle.om_resolve.proofs.ProgramFields.{SoundSection, sound_section}
use Rattle.om_resolve.proofs.ProgramTargets.{aim_is_target}
use Rattle.om_resolve.proofs.ProgramWidths.{quad_is_target}
use Rattle.om_resolve.proofs.SlotReach.{short_disp, slot_reached, slot_is_reached}

-- an item of a list has an index
pub in_at : {X : Type 0} (xs : List X) (x d : X) → In xs x → (i : ℕ) × (i < length xs) × (slice_index_or xs i d ≡ x)
in_at [] x d h = absurd h
in_at (y ∷ ys) x d (inl e) = (0, omega arith, e)
in_at (y ∷ ys) x d (inr h) = let k = in_at ys x d h in (k.0 + 1, omega (arith, k.1), let e : k.0 + 1 ≡ suc k.0 = omega arith in subst (λ i. slice_index_or (y ∷ ys) i d ≡ x) (sym e) k.2)

quad_is : (k : RelocKind) → is_quad k ≡ true → k ≡ RefQuad
quad_is RefQuad e = refl
quad_is _ e = cc

both_true : (a b : Bool) → (a && b) ≡ true → (a ≡ true) × (b ≡ true)
both_true true b e = (refl, e)
both_true false b e = cc

-- the instruction of an address load
pub ldq_is : (o : Option Instr) (disp : ℤ) → ldq_disp o ≡ Some disp → (ra : ℕ) × (rb : ℕ) × (o ≡ Some (Mem Ldq ra rb disp))
ldq_is (Some (Mem Ldq ra rb d)) disp h = let same : d ≡ disp = cc in (ra, rb, ap (λ d. Some (Mem Ldq ra rb d)) same)
ldq_is _ disp h = cc

-- ---- the slot of an address load

pub record LoadsSlot (objects : List Parts) (obj : ℕ) (s : Section) (r : Reloc) (t : Target) : Type 0 where
  pub lita : Section
  pub there : section_of (object_at objects obj) 13 ≡ Some lita
  pub disp : ℤ
  pub load : ldq_disp (instr_in s (offset_of s r)) ≡ Some disp
  pub slot : ℕ
  pub slotted : slot_in (object_at objects obj) (Some lita) disp ≡ Some slot
  pub aim : target_of objects obj (slot_aim (object_at objects obj) lita slot) ≡ Some t

pub loads_slot : (objects : List Parts) (obj : ℕ) (s : Section) (r : Reloc) (t : Target) → literal_target objects obj s r ≡ Some t → LoadsSlot objects obj s r t
loads_slot objects obj s r t h =
    let a = then_some (target_of objects obj) (option_and_then (λ lita. option_map (slot_aim (object_at objects obj) lita) (slot_of (object_at objects obj) s r)) (section_of (object_at objects obj) 13)) t h in
    let b = then_some (λ lita. option_map (slot_aim (object_at objects obj) lita) (slot_of (object_at objects obj) s r)) (section_of (object_at objects obj) 13) a.0 a.1 in
    let c = map_some (slot_aim (object_at objects obj) b.0) (slot_of (object_at objects obj) s r) a.0 b.2 in
    let d = then_some (slot_in (object_at objects obj) (section_of (object_at objects obj) 13)) (ldq_disp (instr_in s (offset_of s r))) c.0 c.1 in
    record {
      lita = b.0;
      there = b.1;
      disp = d.0;
      load = d.1;
      slot = c.0;
      slotted = sym (ap (λ o. slot_in (object_at objects obj) o d.0) b.1) ∙ d.2;
      aim = ap (target_of objects obj) c.2 ∙ a.2;
    }

-- the offset of a slot that is there
pub slot_place : (p : Parts) (lita : Section) (disp : ℤ) (slot : ℕ) → slot_in p (Some lita) disp ≡ Some slot → (minus_64 (moved p.gp disp) lita.addr ≡ slot) × (minus_64 (moved p.gp disp) lita.addr % 8 ≡ 0)
slot_place p lita disp slot h = by_test (minus_64 (moved p.gp disp) lita.addr) (minus_64 (moved p.gp disp) lita.addr % 8 == 0) (nat_le (minus_64 (moved p.gp disp) lita.addr + 8) lita.size) refl h
  where
    by_test : (x : ℕ) (a b : Bool) → (x % 8 == 0) ≡ a → cond (a && b) (Some x) None ≡ Some slot → (x ≡ slot) × (x % 8 ≡ 0)
    by_test x true true e h = let same : x ≡ slot = cc in (same, eqb-true (x % 8) 0 e)
    by_test x true false e h = cc
    by_test x false b e h = cc

module _ (objects : List Parts) (sound : (k : ℕ) → k < length objects → IsObject (object_at objects k)) where
  -- what a slot holds is in the program
  slot_is_target : (obj : ℕ) (lita : Section) (off : ℕ) (t : Target) → obj < length objects → section_of (object_at objects obj) 13 ≡ Some lita → target_of objects obj (slot_aim (object_at objects obj) lita off) ≡ Some t → is_target (program_of objects) t ≡ true
  slot_is_target obj lita off t ho hs h = by_find (find (λ r. is_quad r.kind && (offset_of lita r == off)) lita.relocs) refl
    where
      fine : SoundSection (object_at objects obj) lita
      fine = sound_section (object_at objects obj) (sound obj ho) 13 lita hs

      by_index : (r : Reloc) → is_quad r.kind ≡ true → (i : ℕ) × (i < length lita.relocs) × (reloc_at lita i ≡ r) → target_of objects obj (quad_aim (object_at objects obj) lita r) ≡ Some t → is_target (program_of objects) t ≡ true
      by_index r q k g =
          quad_is_target objects sound obj lita k.0 t ho fine k.1 (ap (λ (x : Reloc). x.kind) k.2 ∙ quad_is r.kind q)
          (ap (λ (x : Reloc). target_of objects obj (quad_aim (object_at objects obj) lita x)) k.2 ∙ g)

      by_find : (o : Option Reloc) → find (λ r. is_quad r.kind && (offset_of lita r == off)) lita.relocs ≡ o → is_target (program_of objects) t ≡ true
      by_find None e =
          let h' = rw e at h in
          aim_is_target objects sound obj (Number (number_at lita.bytes off 8)) t ho tt h'
      by_find (Some r) e =
          let h' = rw e at h in
          let f = found_in (λ (r : Reloc). is_quad r.kind && (offset_of lita r == off)) lita.relocs r e in
          by_index r (both_true (is_quad r.kind) (offset_of lita r == off) f.1).0 (in_at lita.relocs r no_reloc f.0) h'

  pub load_is_target : (obj : ℕ) (s : Section) (r : Reloc) (t : Target) → obj < length objects → literal_target objects obj s r ≡ Some t → is_target (program_of objects) t ≡ true
  load_is_target obj s r t ho h =
      let k = loads_slot objects obj s r t h in
      slot_is_target obj k.lita k.slot t ho k.there k.aim

-- ---- which targets a load may have

-- the target of the slot of a number
abbrev pub reached_target : List Parts → ℕ → Section → ℕ → Target
reached_target objects obj lita q = unwrap_or (target_of objects obj (slot_aim (object_at objects obj) lita (slot_reached (object_at objects obj).gp lita.addr q))) (Num 0)

pub load_is_reached : (objects : List Parts) (obj : ℕ) (s lita : Section) (r : Reloc) (t : Target) (w : ℕ) → instr_in s (offset_of s r) ≡ instr_of w → section_of (object_at objects obj) 13 ≡ Some lita → literal_target objects obj s r ≡ Some t → (q : ℕ) × (q < 8192) × (reached_target objects obj lita q ≡ t)
load_is_reached objects obj s lita r t w word hs h =
    let k = loads_slot objects obj s r t h in
    let e : Some k.lita ≡ Some lita = sym k.there ∙ hs in
    let same : k.lita ≡ lita = cc in
    let place = slot_place (object_at objects obj) k.lita k.disp k.slot k.slotted in
    let i = ldq_is (instr_in s (offset_of s r)) k.disp k.load in
    let short = short_disp w Ldq i.0 i.1 k.disp (sym word ∙ i.2) in
    let q = slot_is_reached (object_at objects obj).gp k.lita.addr w k.disp short place.1 in
    let at : slot_reached (object_at objects obj).gp k.lita.addr q.0 ≡ k.slot = q.2 ∙ place.0 in
    let aim : reached_target objects obj k.lita q.0 ≡ t =
    ap (λ off. unwrap_or (target_of objects obj (slot_aim (object_at objects obj) k.lita off)) (Num 0)) at ∙ ap (λ (o : Option Target). unwrap_or o (Num 0)) k.aim in
    (q.0, q.1, subst (λ (l : Section). reached_target objects obj l q.0 ≡ t) same aim)
