-- What fields, loads and branches of objects aim at is in their program.
use Rattle.std.proofs.Common.{◌≡◌, inl, inr, ℕ, ◌+◌, ◌%◌, ◌^◌, ◌<◌, Bool, true, false, cond, ◌==◌, List, [], length, Option, Some, None, refl, ap, sym, subst, ◌∙◌, arith, slice_index_or}
use Rattle.std.specs.Prelude.{is_some, is_none, slice_get, find, option_map}
use Rattle.std.proofs.lemmas.Bool.{eqb-true, eqb-false}
use Rattle.std.proofs.lemmas.Option.{slice_get_within}
use Rattle.om_fields.specs.Places.{round_up}
use Rattle.om_fields.specs.Sections.{name_of_number, loaded_sections}
use Rattle.om_symtab.specs.declared.symbol.ExtSym.{ExtSym}
use Rattle.om_object.specs.declared.parts.Section.{Section}
use Rattle.om_object.specs.declared.parts.Parts.{Parts}
use Rattle.om_object.specs.Words.{section_of, is_word}
use Rattle.om_object.specs.Aims.{Aim, Number, Inside, Symbol}
use Rattle.om_object.specs.Rules.{IsObject}
use Rattle.om_value.specs.declared.value.Region.TheVariants.{Sec, Common}
use Rattle.om_value.specs.declared.value.Target.{Target}
use Rattle.om_value.specs.declared.value.Target.TheVariants.{Num, Ptr, Code}
use Rattle.om_prog.specs.Valid.{has_region, is_target}
use Rattle.om_resolve.specs.declared.definition.Definition.{Definition}
use Rattle.om_resolve.specs.declared.definition.Definition.TheVariants.{Missing, Absolute, InSection, AsCommon}
use Rattle.om_resolve.specs.Names.{Name, object_at, names_of, number_in, number_of, definition_of, definition_at, meaning_by, meaning_of}
use Rattle.om_resolve.specs.Targets.{byte_in, place_in, defined_target, target_of}
use Rattle.om_resolve.specs.Causes.{region_numbers}
use Rattle.om_resolve.specs.Program.{place_at, region_of, program_of}
use Rattle.om_resolve.proofs.Members.{In, found_in}
use Rattle.om_resolve.proofs.ObjectFacts.{is_named}
use Rattle.om_resolve.proofs.ProgramWords.{found_at, word_there}
use Rattle.om_resolve.proofs.ProgramRegions.{section_there, common_there, region_found}
use Rattle.om_resolve.proofs.ProgramNames.{definition_in_place}
use Rattle.om_resolve.proofs.Naming.{name_there, place_there}
use Rattle.om_resolve.proofs.Meanings.{definition_of_there}

-- ---- the number of a section that is a region

abbrev IsRegionNumber : ℕ → Type 0
IsRegionNumber n = (k : ℕ) × (k < 8) × (slice_index_or region_numbers k 0 ≡ n)

pub region_number : (n : ℕ) → is_none (name_of_number n) ≡ false → (n ≡ 1 → ⊥) → (n ≡ 13 → ⊥) → IsRegionNumber n
region_number n named text lita = by_found (find (λ s. s.0 == n) loaded_sections) refl named
  where
    by_entry : (e : ℕ × List ℕ) → In loaded_sections e → e.0 ≡ n → IsRegionNumber n
    by_entry e (inl h) k = absurd (text (sym k ∙ sym (ap (λ (x : ℕ × List ℕ). x.0) h)))
    by_entry e (inr (inl h)) k = (0, omega arith, ap (λ (x : ℕ × List ℕ). x.0) h ∙ k)
    by_entry e (inr (inr (inl h))) k = (1, omega arith, ap (λ (x : ℕ × List ℕ). x.0) h ∙ k)
    by_entry e (inr (inr (inr (inl h)))) k = (2, omega arith, ap (λ (x : ℕ × List ℕ). x.0) h ∙ k)
    by_entry e (inr (inr (inr (inr (inl h))))) k = (3, omega arith, ap (λ (x : ℕ × List ℕ). x.0) h ∙ k)
    by_entry e (inr (inr (inr (inr (inr (inl h)))))) k = (4, omega arith, ap (λ (x : ℕ × List ℕ). x.0) h ∙ k)
    by_entry e (inr (inr (inr (inr (inr (inr (inl h))))))) k = (5, omega arith, ap (λ (x : ℕ × List ℕ). x.0) h ∙ k)
    by_entry e (inr (inr (inr (inr (inr (inr (inr (inl h)))))))) k = (6, omega arith, ap (λ (x : ℕ × List ℕ). x.0) h ∙ k)
    by_entry e (inr (inr (inr (inr (inr (inr (inr (inr (inl h))))))))) k = absurd (lita (sym k ∙ sym (ap (λ (x : ℕ × List ℕ). x.0) h)))
    by_entry e (inr (inr (inr (inr (inr (inr (inr (inr (inr (inl h)))))))))) k = (7, omega arith, ap (λ (x : ℕ × List ℕ). x.0) h ∙ k)
    by_entry e (inr (inr (inr (inr (inr (inr (inr (inr (inr (inr h)))))))))) k = absurd h

    by_found : (o : Option (ℕ × List ℕ)) → find (λ s. s.0 == n) loaded_sections ≡ o → is_none (option_map (λ s. s.1) o) ≡ false → IsRegionNumber n
    by_found None e h = cc
    by_found (Some x) e h =
        let f = found_in (λ s. s.0 == n) loaded_sections x e in
        by_entry x f.0 (eqb-true x.0 n f.1)

number_is : (objects : List Parts) (n : Name) → slice_get (names_of objects) (number_in (names_of objects) n) ≡ Some n → slice_get (names_of objects) (number_of objects n) ≡ Some n
unfolding number_of
number_is objects n h = h

module _ (objects : List Parts) (sound : (k : ℕ) → k < length objects → IsObject (object_at objects k)) where
  -- a section other than the text and the slots is a region
  pub section_is_region : (obj n : ℕ) (s : Section) → obj < length objects → (n ≡ 1 → ⊥) → (n ≡ 13 → ⊥) → section_of (object_at objects obj) n ≡ Some s → In (program_of objects).regions (region_of objects obj n s)
  section_is_region obj n s ho text lita hs =
      let f = found_at (object_at objects obj) n s hs in
      let named = subst (λ m. is_none (name_of_number m) ≡ false) (ap (λ (t : Section). t.number) f.here ∙ f.number) (is_named (object_at objects obj) (sound obj ho) f.index f.below) in
      let k = region_number n named text lita in
      section_there objects obj k.0 n s ho k.1 k.2 hs

  pub section_has_region : (obj n : ℕ) (s : Section) → obj < length objects → (n ≡ 1 → ⊥) → (n ≡ 13 → ⊥) → section_of (object_at objects obj) n ≡ Some s → has_region (program_of objects) (Sec obj n) ≡ true
  section_has_region obj n s ho text lita hs = ap is_some (region_found objects (region_of objects obj n s) (section_is_region obj n s ho text lita hs)).1

  -- a place in a section that is there, and is not that of the slots
  pub place_is_target : (obj n off : ℕ) (t : Target) → obj < length objects → (n ≡ 13 → ⊥) → place_in objects obj n off ≡ Some t → is_target (program_of objects) t ≡ true
  place_is_target obj n off t ho lita h = by_text (n == 1) refl h
    where
      by_word : (b : Bool) → is_word (object_at objects obj) off ≡ b → cond b (Some (Code (place_at obj off))) None ≡ Some t → is_target (program_of objects) t ≡ true
      by_word true e h = let same : Code (place_at obj off) ≡ t = cc in subst (λ t. is_target (program_of objects) t ≡ true) same (word_there objects obj off ho (sound obj ho) e)
      by_word false e h = cc

      by_section : (n == 1) ≡ false → (o : Option Section) → section_of (object_at objects obj) n ≡ o → byte_in objects obj n off o ≡ Some t → is_target (program_of objects) t ≡ true
      by_section z None e h = cc
      by_section z (Some s) e h = let same : Ptr (Sec obj n) off ≡ t = cc in subst (λ t. is_target (program_of objects) t ≡ true) same (section_has_region obj n s ho (eqb-false n 1 z) lita e)

      by_text : (b : Bool) → (n == 1) ≡ b → cond b (cond (is_word (object_at objects obj) off) (Some (Code (place_at obj off))) None) (byte_in objects obj n off (section_of (object_at objects obj) n)) ≡ Some t → is_target (program_of objects) t ≡ true
      by_text true z h = by_word (is_word (object_at objects obj) off) refl h
      by_text false z h = by_section z (section_of (object_at objects obj) n) refl h

  -- what a symbol stands for
  pub symbol_is_target : (obj index addend : ℕ) (t : Target) → defined_target objects (meaning_of objects obj index) addend ≡ Some t → is_target (program_of objects) t ≡ true
  unfolding meaning_of
  symbol_is_target obj index addend t h = by_symbol (slice_get (object_at objects obj).symbols index) refl h
    where
      by_definition : (y : ExtSym) → slice_get (object_at objects obj).symbols index ≡ Some y → (d : Definition) → definition_of objects y.name ≡ d → defined_target objects d addend ≡ Some t → is_target (program_of objects) t ≡ true
      by_definition y e Missing f h = cc
      by_definition y e (Absolute v) f h = let same : Num ((v + addend) % 2 ^ 64) ≡ t = cc in subst (λ t. is_target (program_of objects) t ≡ true) same refl
      by_definition y e (InSection o n x) f h =
          let p = definition_in_place objects sound y.name o n x f in
          place_is_target o n ((x + addend) % 2 ^ 64) t p.0.below p.1 h
      by_definition y e (AsCommon k size) f h =
          let same : Ptr (Common k) addend ≡ t = cc in
          let named = name_there objects obj index y e in
          let below = slice_get_within (names_of objects) (number_of objects y.name) y.name (number_is objects y.name (place_there y.name (names_of objects) named)) in
          let at : definition_at objects (number_of objects y.name) ≡ AsCommon k size = definition_of_there objects y.name named ∙ f in
          subst (λ t. is_target (program_of objects) t ≡ true) same (ap is_some (region_found objects (record { region = Common k; size = round_up size 8; zero = true; bytes = []; fields = [] }) (common_there objects (number_of objects y.name) k size below at)).1)

      by_symbol : (o : Option ExtSym) → slice_get (object_at objects obj).symbols index ≡ o → defined_target objects (meaning_by objects o) addend ≡ Some t → is_target (program_of objects) t ≡ true
      by_symbol None e h = cc
      by_symbol (Some y) e h = by_definition y e (definition_of objects y.name) refl h

  -- an aim of an object, at a section that is not that of the slots
  abbrev pub AimsElsewhere : ℕ → Aim → Type 0
  AimsElsewhere obj (Inside n off) = n ≡ 13 → ⊥
  AimsElsewhere obj _ = Unit {0}

  pub aim_is_target : (obj : ℕ) (a : Aim) (t : Target) → obj < length objects → AimsElsewhere obj a → target_of objects obj a ≡ Some t → is_target (program_of objects) t ≡ true
  aim_is_target obj (Number n) t ho f h = let same : Num n ≡ t = cc in subst (λ t. is_target (program_of objects) t ≡ true) same refl
  aim_is_target obj (Inside n off) t ho f h = place_is_target obj n off t ho f h
  aim_is_target obj (Symbol index addend) t ho f h = symbol_is_target obj index addend t h
