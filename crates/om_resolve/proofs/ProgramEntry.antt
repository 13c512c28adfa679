-- Where the program of objects starts, and how long its texts are, where there is no cause against it.
use Rattle.std.proofs.Common.{◌≡◌, ℕ, zero, suc, ◌/◌, ◌^◌, ◌<◌, ◌≤◌, Bool, true, false, cond, nat_lt, List, [], ◌∷◌, length, Option, Some, None, refl, arith, slice_index_or}
use Rattle.std.proofs.lemmas.Bool.{eqb-true}
use Rattle.std.proofs.lemmas.Bool.Decides.{nat_tests}
use Rattle.om_fields.proofs.Each.{each_from-length}
use Rattle.om_object.specs.declared.parts.Section.{Section}
use Rattle.om_object.specs.declared.parts.Parts.{Parts}
use Rattle.om_object.specs.Words.{section_of}
use Rattle.om_object.specs.Rules.{IsObject}
use Rattle.om_prog.specs.View.{is_word as is_program_word}
use Rattle.om_resolve.specs.declared.causes.ResolveErr.{ResolveErr}
use Rattle.om_resolve.specs.declared.causes.ResolveErr.TheVariants.{Unresolved, Limit}
use Rattle.om_resolve.specs.declared.causes.Which.TheVariants.{ObjText}
use Rattle.om_resolve.specs.declared.definition.Definition.{Definition}
use Rattle.om_resolve.specs.declared.definition.Definition.TheVariants.{Missing, Absolute, InSection, AsCommon}
use Rattle.om_resolve.specs.declared.finding.Scan.TheVariants.{Names, Targets, Reach}
use Rattle.om_resolve.specs.Names.{object_at, no_parts, start_name, defining, definition_of}
use Rattle.om_resolve.specs.Causes.{first_given, size_of_text, text_size, is_in_text, first_object, duplicate, no_start, scanned, over, many_objects, long_text, long_object, much_data, many_symbols, name_causes, limit_causes, first_cause}
use Rattle.om_resolve.specs.Program.{items_of, text_of, item_of, entry_by, program_of}
use Rattle.om_resolve.proofs.ProgramWords.{word_there}
use Rattle.om_resolve.proofs.ProgramNames.{definition_in_place}

-- ---- where no cause is given, none of a list applies

pub none_first : {X Y : Type 0} (f : X → Option Y) (x : X) (xs : List X) → first_given f (x ∷ xs) ≡ None → (f x ≡ None) × (first_given f xs ≡ None)
none_first {Y = Y} f x xs h = by_case (f x) refl h
  where
    by_case : (o : Option Y) → f x ≡ o → elim o as (λ _. Option Y) [ None ↦ first_given f xs | Some y ↦ Some y ] ≡ None → (f x ≡ None) × (first_given f xs ≡ None)
    by_case None e h = (e, h)
    by_case (Some y) e h = cc

pub none_at : {X Y : Type 0} (f : X → Option Y) (xs : List X) (k : ℕ) (d : X) → first_given f xs ≡ None → k < length xs → f (slice_index_or xs k d) ≡ None
none_at f [] k d h b = absurd (omega arith)
none_at f (x ∷ xs) zero d h b = (none_first f x xs h).0
none_at f (x ∷ xs) (suc k) d h b = none_at f xs k d (none_first f x xs h).1 (omega arith)

module _ (objects : List Parts) (uncaused : first_cause objects ≡ None) where
  causes : (name_causes objects ≡ None) × (limit_causes objects ≡ None)
  unfolding first_cause
  causes =
      let a = none_first (λ (o : Option ResolveErr). o) (name_causes objects) (limit_causes objects ∷ scanned objects Reach ∷ []) uncaused in
      let b = none_first (λ (o : Option ResolveErr). o) (limit_causes objects) (scanned objects Reach ∷ []) a.1 in
      (a.0, b.0)

  names_uncaused : (no_start objects ≡ None) × (scanned objects Names ≡ None) × (scanned objects Targets ≡ None)
  unfolding name_causes
  names_uncaused =
      let a = none_first (λ (o : Option ResolveErr). o) (duplicate objects) (no_start objects ∷ scanned objects Names ∷ scanned objects Targets ∷ []) causes.0 in
      let b = none_first (λ (o : Option ResolveErr). o) (no_start objects) (scanned objects Names ∷ scanned objects Targets ∷ []) a.1 in
      let c = none_first (λ (o : Option ResolveErr). o) (scanned objects Names) (scanned objects Targets ∷ []) b.1 in
      let d = none_first (λ (o : Option ResolveErr). o) (scanned objects Targets) [] c.1 in
      (b.0, c.0, d.0)

  pub targets_unbroken : scanned objects Targets ≡ None
  targets_unbroken = names_uncaused.2

  pub names_unbroken : scanned objects Names ≡ None
  names_unbroken = names_uncaused.1

  texts_short : long_object objects ≡ None
  unfolding limit_causes
  texts_short =
      let a = none_first (λ (o : Option ResolveErr). o) (many_objects objects) (long_text objects ∷ long_object objects ∷ much_data objects ∷ many_symbols objects ∷ []) causes.1 in
      let b = none_first (λ (o : Option ResolveErr). o) (long_text objects) (long_object objects ∷ much_data objects ∷ many_symbols objects ∷ []) a.1 in
      (none_first (λ (o : Option ResolveErr). o) (long_object objects) (much_data objects ∷ many_symbols objects ∷ []) b.1).0

  not_over : (total : ℕ) → over ObjText 4194304 total ≡ None → total ≤ 4194304
  not_over total h = by_test (nat_lt 4194304 total) refl h
    where
      by_test : (b : Bool) → nat_lt 4194304 total ≡ b → cond b (Some (Limit ObjText total)) None ≡ None → total ≤ 4194304
      by_test true e h = cc
      by_test false e h = grind (arith, nat_tests)

  text_limit : (obj : ℕ) → obj < length objects → text_size (object_at objects obj) ≤ 4194304
  unfolding long_object
  text_limit obj h = not_over (text_size (object_at objects obj)) (none_at (λ p. over ObjText 4194304 (text_size p)) objects obj no_parts texts_short h)

  count_of : (obj : ℕ) (o : Option Section) → length (items_of objects obj o) ≡ size_of_text o / 4
  count_of obj None = refl
  count_of obj (Some s) = each_from-length (item_of objects obj s) 0 (s.size / 4)

  pub text_is_short : (obj : ℕ) → obj < length objects → length (text_of objects obj) < 2 ^ 30
  unfolding text_of
  text_is_short obj h =
      let c = count_of obj (section_of (object_at objects obj) 1) in
      let l = text_limit obj h in
      omega (arith, c, l)

  module _ (sound : (k : ℕ) → k < length objects → IsObject (object_at objects k)) where
    start_in_text : is_in_text (definition_of objects start_name) ≡ true
    unfolding no_start
    start_in_text = by_test (is_in_text (definition_of objects start_name)) refl names_uncaused.0
      where
        by_test : (b : Bool) → is_in_text (definition_of objects start_name) ≡ b → cond b None (Some (Unresolved start_name (first_object (defining objects start_name)))) ≡ None → is_in_text (definition_of objects start_name) ≡ true
        by_test true e h = e
        by_test false e h = cc

    pub entry_is_word : is_program_word (program_of objects) (program_of objects).entry ≡ true
    unfolding program_of
    entry_is_word = by_definition (definition_of objects start_name) refl start_in_text
      where
        by_definition : (d : Definition) → definition_of objects start_name ≡ d → is_in_text d ≡ true → is_program_word (program_of objects) (entry_by d) ≡ true
        by_definition (InSection obj n off) e h =
            let p = definition_in_place objects sound start_name obj n off e in
            let one : n ≡ 1 = eqb-true n 1 h in
            word_there objects obj off p.0.below (sound obj p.0.below) (p.0.word one)
        by_definition Missing e h = cc
        by_definition (Absolute v) e h = cc
        by_definition (AsCommon k size) e h = cc
