-- The regions of the program of objects: their form, and their fields, which lie apart.
use Rattle.std.proofs.Common.{◌≡◌, inl, ℕ, ◌+◌, ◌-◌, ◌%◌, ◌^◌, ◌<◌, ◌≤◌, Bool, true, false, cond, not, ◌&&◌, ◌||◌, ◌==◌, nat_lt, nat_le, List, [], ◌∷◌, length, Some, None, refl, ap, sym, subst, ◌∙◌, arith}
use Rattle.std.specs.Option.{option_to_list}
use Rattle.std.proofs.lemmas.Bool.{eqb-true}
use Rattle.std.proofs.lemmas.Bool.Decides.{nat_tests}
use Rattle.om_fields.specs.Places.{round_up}
use Rattle.om_fields.specs.Sections.{is_bss}
use Rattle.om_reloc.specs.declared.reloc.RelocKind.TheVariants.{RefQuad, GpRel32}
use Rattle.om_object.specs.declared.parts.Section.{Section}
use Rattle.om_object.specs.declared.parts.Parts.{Parts}
use Rattle.om_object.specs.declared.rules.RelocRule.TheVariants.{Placed}
use Rattle.om_object.specs.Words.{section_of, offset_of}
use Rattle.om_object.specs.Rules.{reloc_at, bytes_by_kind, field_bytes, holds_data, may_stand, is_shared, IsObject}
use Rattle.om_value.specs.declared.value.Region.TheVariants.{Common}
use Rattle.om_prog.specs.declared.item.Field.{Field}
use Rattle.om_prog.specs.declared.region.RegionInit.{RegionInit}
use Rattle.om_prog.specs.Valid.{are_apart, AreApart, HasForm, IsField, AreFields, IsRegionInit, AreRegions}
use Rattle.om_resolve.specs.Names.{object_at}
use Rattle.om_resolve.specs.Causes.{first_cause}
use Rattle.om_resolve.specs.Program.{field_by, fields_of, region_of, program_of}
use Rattle.om_resolve.proofs.Members.{In, in_given, got_in}
use Rattle.om_resolve.proofs.Pairwise.{Pairwise, pairwise_at, pairwise_joined, pairwise_option}
use Rattle.om_resolve.proofs.ObjectFacts.{not_true}
use Rattle.om_resolve.proofs.ProgramWords.{found_at}
use Rattle.om_resolve.proofs.ProgramBytes.{bytes_apart, byte_in_field}
use Rattle.om_resolve.proofs.ProgramRegions.{IsRegion, of_section, of_common, region_is}
use Rattle.om_resolve.proofs.ProgramFields.{SoundSection, sound_section, kept_by, IsFieldOf, quad, distance, field_is, field_in, field_natural, field_inside}
use Rattle.om_resolve.proofs.ProgramNear.{field_width_is}
use Rattle.om_resolve.proofs.Uncaused.{unbroken_in}

-- ---- fields lie apart

-- the bytes of a field are among those of its relocation
record Covers (s : Section) (i : ℕ) (f : Field) : Type 0 where
  some : 0 < f.width
  bytes : (d : ℕ) → d < f.width → In (field_bytes s (reloc_at s i)) ((f.off + d) % 2 ^ 64)

covers : (objects : List Parts) (obj : ℕ) (s : Section) (i : ℕ) (f : Field) → IsFieldOf objects obj s i f → Covers s i f
covers objects obj s i f (quad t k e same) =
    subst (λ (g : Field). Covers s i g) (sym same)
    (record {
      some = omega arith;
      bytes = subst (λ kind. (d : ℕ) → d < 8 → In (bytes_by_kind s (reloc_at s i) kind) ((offset_of s (reloc_at s i) + d) % 2 ^ 64)) (sym k) (byte_in_field s (reloc_at s i) RefQuad tt);
    })
covers objects obj s i f (distance t k e same) =
    subst (λ (g : Field). Covers s i g) (sym same)
    (record {
      some = omega arith;
      bytes = subst (λ kind. (d : ℕ) → d < 4 → In (bytes_by_kind s (reloc_at s i) kind) ((offset_of s (reloc_at s i) + d) % 2 ^ 64)) (sym k) (byte_in_field s (reloc_at s i) GpRel32 tt);
    })

-- fields of which no byte is that of both
apart_by : (s : Section) (i j : ℕ) (f g : Field) → Covers s i f → Covers s j g → ((x : ℕ) → In (field_bytes s (reloc_at s i)) x → In (field_bytes s (reloc_at s j)) x → ⊥) → are_apart f g ≡ true
apart_by s i j f g cf cg never = by_test (nat_lt f.off (g.off + g.width)) (nat_lt g.off (f.off + f.width)) refl refl
  where
    by_order : f.off < g.off + g.width → g.off < f.off + f.width → (b : Bool) → nat_le f.off g.off ≡ b → ⊥
    by_order u v true e =
        let low : f.off ≤ g.off = grind (arith, nat_tests) in
        let here = cf.bytes (g.off - f.off) (omega (arith, low, v)) in
        let there = cg.bytes 0 cg.some in
        let same : (f.off + (g.off - f.off)) % 2 ^ 64 ≡ (g.off + 0) % 2 ^ 64 = omega (arith, low) in
        never ((g.off + 0) % 2 ^ 64) (subst (In (field_bytes s (reloc_at s i))) same here) there
    by_order u v false e =
        let low : g.off < f.off = grind (arith, nat_tests) in
        let here = cf.bytes 0 cf.some in
        let there = cg.bytes (f.off - g.off) (omega (arith, low, u)) in
        let same : (g.off + (f.off - g.off)) % 2 ^ 64 ≡ (f.off + 0) % 2 ^ 64 = omega (arith, low) in
        never ((f.off + 0) % 2 ^ 64) here (subst (In (field_bytes s (reloc_at s j))) same there)

    by_test : (a b : Bool) → nat_lt f.off (g.off + g.width) ≡ a → nat_lt g.off (f.off + f.width) ≡ b → not (a && b) ≡ true
    by_test false b u v = refl
    by_test true false u v = refl
    by_test true true u v = absurd (by_order (grind (arith, nat_tests)) (grind (arith, nat_tests)) (nat_le f.off g.off) refl)

fields_apart : (objects : List Parts) (obj : ℕ) (s : Section) → ((i : ℕ) → i < length s.relocs → is_shared s i ≡ false) → AreApart (fields_of objects obj s)
unfolding fields_of
fields_apart objects obj s unshared =
    record { apart = λ j k f g. pairwise_at (λ a b. are_apart a b ≡ true) (fields_of objects obj s) j k f g all }
  where
    all : Pairwise (λ a b. are_apart a b ≡ true) (fields_of objects obj s)
    all =
        pairwise_joined (λ a b. are_apart a b ≡ true) (λ k. option_to_list (field_by objects obj s (reloc_at s k) (reloc_at s k).kind)) (length s.relocs)
        (λ i b. pairwise_option (λ a b. are_apart a b ≡ true) (field_by objects obj s (reloc_at s i) (reloc_at s i).kind))
        (λ i j f g b c h k.
        apart_by s i j f g
        (covers objects obj s i f (field_is objects obj s i f (in_given (field_by objects obj s (reloc_at s i) (reloc_at s i).kind) f h)))
        (covers objects obj s j g (field_is objects obj s j g (in_given (field_by objects obj s (reloc_at s j) (reloc_at s j).kind) g k)))
        (λ x. bytes_apart s i j x (unshared j c) b (omega (arith, b, c))))

-- ---- regions that are zero have no field

none_in : {X : Type 0} (xs : List X) → ((x : X) → In xs x → ⊥) → length xs ≡ 0
none_in [] h = refl
none_in (x ∷ xs) h = absurd (h x (inl refl))

no_data : (n : ℕ) → is_bss n ≡ true → holds_data n ≡ false
no_data n h = by_test (n == 5) refl h
  where
    by_test : (b : Bool) → (n == 5) ≡ b → (b || (n == 6)) ≡ true → holds_data n ≡ false
    by_test true e h = let five : n ≡ 5 = eqb-true n 5 e in ap holds_data five
    by_test false e h = let six : n ≡ 6 = eqb-true n 6 h in ap holds_data six

no_slots : (n : ℕ) → is_bss n ≡ true → (n == 13) ≡ false
no_slots n h = by_test (n == 5) refl h
  where
    by_test : (b : Bool) → (n == 5) ≡ b → (b || (n == 6)) ≡ true → (n == 13) ≡ false
    by_test true e h = let five : n ≡ 5 = eqb-true n 5 e in ap (λ m. m == 13) five
    by_test false e h = let six : n ≡ 6 = eqb-true n 6 h in ap (λ m. m == 13) six

no_field : (objects : List Parts) (obj : ℕ) (s : Section) (i : ℕ) (f : Field) → SoundSection (object_at objects obj) s → i < length s.relocs → is_bss s.number ≡ true → IsFieldOf objects obj s i f → ⊥
no_field objects obj s i f fine li bss (quad t k e same) =
    let p = not_true (may_stand (reloc_at s i).kind s.number) (kept_by (object_at objects obj) s fine Placed i li RefQuad k refl) in
    let q : holds_data s.number || (s.number == 13) ≡ true = sym (ap (λ k. may_stand k s.number) k) ∙ p in
    let never : false ≡ true = sym (ap (λ b. b || (s.number == 13)) (no_data s.number bss) ∙ no_slots s.number bss) ∙ q in cc
no_field objects obj s i f fine li bss (distance t k e same) =
    let p = not_true (may_stand (reloc_at s i).kind s.number) (kept_by (object_at objects obj) s fine Placed i li GpRel32 k refl) in
    let q : holds_data s.number ≡ true = sym (ap (λ k. may_stand k s.number) k) ∙ p in
    let never : false ≡ true = sym (no_data s.number bss) ∙ q in cc

-- ---- regions

rounds_up : (n : ℕ) → (round_up n 8 % 8 ≡ 0) × (n ≤ round_up n 8)
rounds_up n = (omega arith, omega arith)

module _ (objects : List Parts) (sound : (k : ℕ) → k < length objects → IsObject (object_at objects k)) (uncaused : first_cause objects ≡ None) where
  section_form : (obj n : ℕ) (s : Section) → obj < length objects → section_of (object_at objects obj) n ≡ Some s → HasForm (region_of objects obj n s)
  section_form obj n s ho hs =
      let fine = sound_section (object_at objects obj) (sound obj ho) n s hs in
      let number = (found_at (object_at objects obj) n s hs).number in
      let up = rounds_up s.size in
      record {
        given = refl;
        even = up.0;
        bytes = few fine (is_bss s.number) refl up.1;
        zero = λ bss.
            let bss' : is_bss s.number ≡ true = ap is_bss number ∙ bss in
            let none : length s.bytes ≡ 0 = fine.filled ∙ ap (λ b. cond b 0 s.size) bss' in
            (none, none_in (fields_of objects obj s) (λ f h. let a = field_in objects obj s f h in no_field objects obj s a.0 f fine a.1 bss' a.2));
      }
    where
      few : SoundSection (object_at objects obj) s → (b : Bool) → is_bss s.number ≡ b → s.size ≤ round_up s.size 8 → length s.bytes ≤ round_up s.size 8
      few fine true e up = let z : length s.bytes ≡ 0 = fine.filled ∙ ap (λ b. cond b 0 s.size) e in omega (arith, z)
      few fine false e up = let z : length s.bytes ≡ s.size = fine.filled ∙ ap (λ b. cond b 0 s.size) e in omega (arith, z, up)

  field_fits : (obj n : ℕ) (s : Section) → obj < length objects → section_of (object_at objects obj) n ≡ Some s → (f : Field) → In (fields_of objects obj s) f → IsField (program_of objects) (round_up s.size 8) f
  field_fits obj n s ho hs f h =
      let fine = sound_section (object_at objects obj) (sound obj ho) n s hs in
      let a = field_in objects obj s f h in
      let inside = field_inside objects obj s a.0 f fine a.1 a.2 in
      let up = rounds_up s.size in
      record {
        width = field_width_is objects sound uncaused obj s a.0 f ho fine (unbroken_in objects uncaused obj n s ho hs a.0 a.1) a.1 a.2;
        aligned = field_natural objects obj s a.0 f fine a.1 a.2;
        inside = omega (arith, inside, up.1);
      }

  section_fields : (obj n : ℕ) (s : Section) → obj < length objects → section_of (object_at objects obj) n ≡ Some s → AreFields (program_of objects) (round_up s.size 8) (fields_of objects obj s)
  section_fields obj n s ho hs = record {
    each = λ k f e. field_fits obj n s ho hs f (got_in (fields_of objects obj s) k f e);
    apart = fields_apart objects obj s (sound_section (object_at objects obj) (sound obj ho) n s hs).unshared;
  }

  common_region_is : (sym size : ℕ) → IsRegionInit (program_of objects) (record { region = Common sym; size = round_up size 8; zero = true; bytes = []; fields = [] })
  common_region_is sym size = record {
    form = record { given = refl; even = (rounds_up size).0; bytes = omega arith; zero = λ _. (refl, refl) };
    fields = record { each = λ k f e. absurd cc; apart = record { apart = λ j k f g b e h. absurd cc } };
  }

  region_fits : (i : RegionInit) → IsRegion objects i → IsRegionInit (program_of objects) i
  region_fits i (of_section obj k n s ho hk hn hs e) =
      subst (IsRegionInit (program_of objects)) e (record { form = section_form obj n s ho hs; fields = section_fields obj n s ho hs })
  region_fits i (of_common k c size hk hd e) = subst (IsRegionInit (program_of objects)) (sym e) (common_region_is c size)

  -- each region of the program is one
  pub regions_fit : AreRegions (program_of objects)
  regions_fit = record { each = λ k i e. region_fits i (region_is objects i (got_in (program_of objects).regions k i e)) }
