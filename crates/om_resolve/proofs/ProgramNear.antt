-- What distances from global pointers lead to in the program of objects, and the widths of its fields.
use Rattle.std.proofs.Common.{◌≡◌, ℕ, ◌<◌, ◌≤◌, Bool, true, false, cond, not, ◌&&◌, ◌||◌, ◌==◌, nat_lt, List, [], ◌∷◌, length, Option, Some, None, refl, ap, sym, subst, ◌∙◌, arith}
use Rattle.std.specs.Prelude.{is_some, is_none, slice_get}
use Rattle.std.specs.Int.{w64, cast_unsigned}
use Rattle.std.proofs.lemmas.Bool.{eqb-false}
use Rattle.std.proofs.lemmas.Bool.Decides.{nat_tests}
use Rattle.om_fields.specs.Places.{round_up, minus_64}
use Rattle.om_fields.proofs.Each.{each_from-length}
use Rattle.om_reloc.specs.declared.reloc.RelocKind.TheVariants.{GpRel32}
use Rattle.om_object.specs.declared.parts.Section.{Section}
use Rattle.om_object.specs.declared.parts.Parts.{Parts}
use Rattle.om_object.specs.declared.rules.RelocRule.TheVariants.{Named, Targeted}
use Rattle.om_object.specs.Words.{section_of, is_word, moved}
use Rattle.om_object.specs.Aims.{Number, Symbol, inside, local_aim, gp_value}
use Rattle.om_object.specs.Rules.{reloc_at, has_target, misses, names_no_section, names_nothing, is_no_place, IsObject}
use Rattle.om_value.specs.declared.value.Region.{Region}
use Rattle.om_value.specs.declared.value.Region.TheVariants.{Sec}
use Rattle.om_value.specs.declared.value.Target.{Target}
use Rattle.om_value.specs.declared.value.Target.TheVariants.{Num, Ptr, Code}
use Rattle.om_value.specs.declared.value.Value.TheVariants.{GpOff}
use Rattle.om_value.specs.Same.{region_eq}
use Rattle.om_prog.specs.declared.item.Field.{Field}
use Rattle.om_prog.specs.declared.region.RegionInit.{RegionInit}
use Rattle.om_prog.specs.View.{init_of}
use Rattle.om_prog.specs.Valid.{has_region, is_target, is_up_to, is_near_target, width_of}
use Rattle.om_resolve.specs.declared.definition.Definition.TheVariants.{AsCommon}
use Rattle.om_resolve.specs.Names.{Name, Seen, object_at, names_of, number_of, defining, common_sizes, greatest, by_symbols, placed_by, definition_of, definition_by_name, definition_at}
use Rattle.om_resolve.specs.Targets.{rounded, section_size, common_size, byte_in, place_in, target_of}
use Rattle.om_resolve.specs.Causes.{region_size, gp_target, is_no_gp_target, broken_at, first_cause}
use Rattle.om_resolve.specs.Program.{place_at, text_of, program_of}
use Rattle.om_resolve.proofs.Members.{found_in}
use Rattle.om_resolve.proofs.Naming.{names_distinct, number_there}
use Rattle.om_resolve.proofs.ObjectFacts.{or_false, and_false}
use Rattle.om_resolve.proofs.ProgramWords.{word_there}
use Rattle.om_resolve.proofs.ProgramNames.{not_place}
use Rattle.om_resolve.proofs.ProgramRegions.{IsRegion, of_section, of_common, region_is, region_same}
use Rattle.om_resolve.proofs.ProgramTargets.{aim_is_target, section_has_region}
use Rattle.om_resolve.proofs.ProgramFields.{SoundSection, kept_by, IsFieldOf, quad, distance}
use Rattle.om_resolve.proofs.ProgramWidths.{address_width, quad_is_target}
use Rattle.om_resolve.proofs.Uncaused.{gp_unbroken}

-- ---- the number of a common is that of its name

common_name : (objects : List Parts) (n : Name) (k size : ℕ) → definition_of objects n ≡ AsCommon k size → number_of objects n ≡ k
unfolding definition_of
common_name objects n k size h = by_list (defining objects n) (greatest (common_sizes objects n)) h
  where
    by_class : (s : Seen) (o : Option ℕ) → placed_by objects s o ≡ AsCommon k size → number_of objects n ≡ k
    by_class s None h = cc
    by_class s (Some m) h = cc

    by_list : (ss : List Seen) (o : Option ℕ) → by_symbols objects (number_of objects n) ss o ≡ AsCommon k size → number_of objects n ≡ k
    by_list (s ∷ ss) o h = by_class s _ h
    by_list [] (Some x) h = cc
    by_list [] None h = cc

number_at_place : (objects : List Parts) (k : ℕ) (n : Name) → slice_get (names_of objects) k ≡ Some n → number_of objects n ≡ k
unfolding number_of
number_at_place objects k n e = number_there (names_of objects) k n (names_distinct objects) e

pub common_number : (objects : List Parts) (k sym size : ℕ) → definition_at objects k ≡ AsCommon sym size → sym ≡ k
unfolding definition_at
common_number objects k c size h = by_name (slice_get (names_of objects) k) refl h
  where
    by_name : (o : Option Name) → slice_get (names_of objects) k ≡ o → definition_by_name objects o ≡ AsCommon c size → c ≡ k
    by_name None e h = cc
    by_name (Some n) e h = sym (common_name objects n c size h) ∙ number_at_place objects k n e

-- ---- sizes

region_has_size : (objects : List Parts) (i : RegionInit) → IsRegion objects i → i.size ≡ region_size objects i.region
region_has_size objects i (of_section obj k n s ho hk hn hs e) = subst (λ (j : RegionInit). j.size ≡ region_size objects j.region) e (sym (ap rounded hs))
region_has_size objects i (of_common k c size hk hd e) =
    let number = common_number objects k c size hd in
    let at : definition_at objects c ≡ AsCommon c size = subst (λ j. definition_at objects j ≡ AsCommon c size) (sym number) hd in
    subst (λ (j : RegionInit). j.size ≡ region_size objects j.region) (sym e) (sym (ap common_size at))

-- a byte of a region that is there, or its end
size_there : (objects : List Parts) (r : Region) (x : ℕ) → has_region (program_of objects) r ≡ true → nat_lt (region_size objects r) x ≡ false → is_up_to (program_of objects) x (init_of (program_of objects) r) ≡ true
size_there objects r x h z = by_found (init_of (program_of objects) r) refl h
  where
    by_found : (o : Option RegionInit) → init_of (program_of objects) r ≡ o → is_some o ≡ true → is_up_to (program_of objects) x o ≡ true
    by_found None e h = cc
    by_found (Some i) e h =
        let f = found_in (λ (j : RegionInit). region_eq j.region r) (program_of objects).regions i e in
        let size = region_has_size objects i (region_is objects i f.0) ∙ ap (region_size objects) (region_same i.region r f.1) in
        grind (arith, nat_tests, size, z)

module _ (objects : List Parts) (sound : (k : ℕ) → k < length objects → IsObject (object_at objects k)) (uncaused : first_cause objects ≡ None) where
  -- ---- near targets

  near_external : (t : Target) → is_target (program_of objects) t ≡ true → is_no_gp_target objects (Some t) ≡ false → is_near_target (program_of objects) t ≡ true
  near_external (Num n) h z = cc
  near_external (Ptr r x) h z = size_there objects r x h z
  near_external (Code q) h z = h

  near_local : (obj n off : ℕ) (s : Section) (t : Target) → obj < length objects → section_of (object_at objects obj) n ≡ Some s → (n ≡ 13 → ⊥) → nat_lt s.size off ≡ false → place_in objects obj n off ≡ Some t → is_near_target (program_of objects) t ≡ true
  near_local obj n off s t ho hs lita z h = by_text (n == 1) refl h
    where
      by_word : (b : Bool) → is_word (object_at objects obj) off ≡ b → cond b (Some (Code (place_at obj off))) None ≡ Some t → is_near_target (program_of objects) t ≡ true
      by_word true e h = let same : Code (place_at obj off) ≡ t = cc in subst (λ t. is_near_target (program_of objects) t ≡ true) same (word_there objects obj off ho (sound obj ho) e)
      by_word false e h = cc

      small : nat_lt (region_size objects (Sec obj n)) off ≡ false
      small =
          let size : section_size (object_at objects obj) n ≡ round_up s.size 8 = ap rounded hs in
          let z' : off ≤ s.size = grind (arith, nat_tests, z) in
          let up : off ≤ section_size (object_at objects obj) n = omega (arith, size, z') in
          grind (arith, nat_tests, up)

      by_section : (n == 1) ≡ false → byte_in objects obj n off (section_of (object_at objects obj) n) ≡ Some t → is_near_target (program_of objects) t ≡ true
      by_section e h =
          let same : Some (Ptr (Sec obj n) off) ≡ Some t = sym (ap (byte_in objects obj n off) hs) ∙ h in
          let same' : Ptr (Sec obj n) off ≡ t = cc in
          subst (λ t. is_near_target (program_of objects) t ≡ true) same' (size_there objects (Sec obj n) off (section_has_region objects sound obj n s ho (eqb-false n 1 e) lita hs) small)

      by_text : (b : Bool) → (n == 1) ≡ b → cond b (cond (is_word (object_at objects obj) off) (Some (Code (place_at obj off))) None) (byte_in objects obj n off (section_of (object_at objects obj) n)) ≡ Some t → is_near_target (program_of objects) t ≡ true
      by_text true e h = by_word (is_word (object_at objects obj) off) refl h
      by_text false e h = by_section e h

  -- a distance within an object leads to a place that the rules ask for
  local_is_near : (obj : ℕ) (n address : ℕ) (t : Target) → obj < length objects → (n == 14) ≡ false → names_no_section (object_at objects obj) n ≡ false → is_no_place (object_at objects obj) address (section_of (object_at objects obj) n) ≡ false → target_of objects obj (local_aim (object_at objects obj) n address) ≡ Some t → is_near_target (program_of objects) t ≡ true
  local_is_near obj n address t ho number named placed h =
      let f = not_place (object_at objects obj) address n (section_of (object_at objects obj) n) refl placed in
      let there = and_false (not (n == 14)) ((n == 13) || is_none (section_of (object_at objects obj) n)) named (ap not number) in
      let other : (n == 13) ≡ false = (or_false (n == 13) (is_none (section_of (object_at objects obj) n)) there).0 in
      near_local obj n (minus_64 address f.0.addr) f.0 t ho f.1 (eqb-false n 13 other) f.2
      (sym (ap (λ o. target_of objects obj (inside n address o)) f.1)
      ∙ sym (ap (λ b. target_of objects obj (cond b (Number address) (inside n address (section_of (object_at objects obj) n)))) number) ∙ h)

  gp_is_near : (obj : ℕ) (s : Section) (i : ℕ) (t : Target) → obj < length objects → SoundSection (object_at objects obj) s → broken_at objects obj s (reloc_at s i) ≡ None → i < length s.relocs → (reloc_at s i).kind ≡ GpRel32 → gp_target objects obj s (reloc_at s i) ≡ Some t → is_near_target (program_of objects) t ≡ true
  gp_is_near obj s i t ho fine whole li k h = by_origin (reloc_at s i).external refl
    where
      by_origin : (b : Bool) → (reloc_at s i).external ≡ b → is_near_target (program_of objects) t ≡ true
      by_origin true e =
          let aim : target_of objects obj (Symbol (reloc_at s i).index (cast_unsigned w64 (gp_value s (reloc_at s i)))) ≡ Some t =
          sym (ap (λ b. target_of objects obj (cond b (Symbol (reloc_at s i).index (cast_unsigned w64 (gp_value s (reloc_at s i)))) (local_aim (object_at objects obj) (reloc_at s i).index (moved (object_at objects obj).gp (gp_value s (reloc_at s i)))))) e) ∙ h in
          near_external t
          (aim_is_target objects sound obj (Symbol (reloc_at s i).index (cast_unsigned w64 (gp_value s (reloc_at s i)))) t ho tt aim)
          (sym (ap (is_no_gp_target objects) h) ∙ gp_unbroken objects uncaused obj s i whole e k)
      by_origin false e =
          let aim : target_of objects obj (local_aim (object_at objects obj) (reloc_at s i).index (moved (object_at objects obj).gp (gp_value s (reloc_at s i)))) ≡ Some t =
          sym (ap (λ b. target_of objects obj (cond b (Symbol (reloc_at s i).index (cast_unsigned w64 (gp_value s (reloc_at s i)))) (local_aim (object_at objects obj) (reloc_at s i).index (moved (object_at objects obj).gp (gp_value s (reloc_at s i)))))) e) ∙ h in
          let broken = kept_by (object_at objects obj) s fine Named i li GpRel32 k refl in
          let named' = and_false (has_target (reloc_at s i).kind) (cond (reloc_at s i).external (names_nothing (slice_get (object_at objects obj).symbols (reloc_at s i).index)) (names_no_section (object_at objects obj) (reloc_at s i).index)) broken (ap has_target k) in
          let named : names_no_section (object_at objects obj) (reloc_at s i).index ≡ false = sym (ap (λ b. cond b (names_nothing (slice_get (object_at objects obj).symbols (reloc_at s i).index)) (names_no_section (object_at objects obj) (reloc_at s i).index)) e) ∙ named' in
          let missed = kept_by (object_at objects obj) s fine Targeted i li GpRel32 k refl in
          let hit = and_false (not (reloc_at s i).external) (misses (object_at objects obj) (reloc_at s i).kind s (reloc_at s i)) missed (ap not e) in
          let hit' : ((reloc_at s i).index == 14) || is_no_place (object_at objects obj) (moved (object_at objects obj).gp (gp_value s (reloc_at s i))) (section_of (object_at objects obj) (reloc_at s i).index) ≡ false =
          sym (ap (λ k. misses (object_at objects obj) k s (reloc_at s i)) k) ∙ hit in
          let both = or_false ((reloc_at s i).index == 14) (is_no_place (object_at objects obj) (moved (object_at objects obj).gp (gp_value s (reloc_at s i))) (section_of (object_at objects obj) (reloc_at s i).index)) hit' in
          local_is_near obj (reloc_at s i).index (moved (object_at objects obj).gp (gp_value s (reloc_at s i))) t ho both.0 named both.1 aim

  -- ---- widths

  texts_count : length (program_of objects).texts ≡ length objects
  unfolding program_of
  texts_count = each_from-length (text_of objects) 0 (length objects)

  distance_width : (obj : ℕ) (t : Target) → obj < length objects → is_near_target (program_of objects) t ≡ true → width_of (program_of objects) (GpOff obj t) ≡ Some 4
  distance_width obj t ho h =
      let below : nat_lt obj (length (program_of objects).texts) ≡ true = grind (arith, nat_tests, texts_count, ho) in
      ap (λ b. cond (b && is_near_target (program_of objects) t) (Some 4) None) below ∙ ap (λ b. cond b (Some 4) None) h

  pub field_width_is : (obj : ℕ) (s : Section) (i : ℕ) (f : Field) → obj < length objects → SoundSection (object_at objects obj) s → broken_at objects obj s (reloc_at s i) ≡ None → i < length s.relocs → IsFieldOf objects obj s i f → width_of (program_of objects) f.value ≡ Some f.width
  field_width_is obj s i f ho fine whole li (quad t k e same) =
      subst (λ (g : Field). width_of (program_of objects) g.value ≡ Some g.width) (sym same) (address_width (program_of objects) t (quad_is_target objects sound obj s i t ho fine li k e))
  field_width_is obj s i f ho fine whole li (distance t k e same) =
      subst (λ (g : Field). width_of (program_of objects) g.value ≡ Some g.width) (sym same) (distance_width obj t ho (gp_is_near obj s i t ho fine whole li k e))
