-- What definitions of names are, in objects that break no rule.
use Rattle.std.proofs.Common.{◌≡◌, inl, inr, ℕ, suc, ◌<◌, ◌≤◌, Bool, true, false, cond, not, ◌&&◌, ◌==◌, nat_lt, List, [], ◌∷◌, length, map, filter, Option, Some, None, refl, ap, sym, subst, ◌∙◌, arith, slice_index_or}
use Rattle.std.specs.Prelude.{find, option_map}
use Rattle.std.proofs.lemmas.Bool.Decides.{nat_tests}
use Rattle.om_fields.specs.Places.{minus_64}
use Rattle.om_symtab.specs.declared.symbol.ExtSym.{ExtSym}
use Rattle.om_symtab.specs.Classes.{section_of_class, address_classes}
use Rattle.om_object.specs.declared.parts.Section.{Section}
use Rattle.om_object.specs.declared.parts.Parts.{Parts}
use Rattle.om_object.specs.Words.{section_of, is_word}
use Rattle.om_object.specs.Rules.{symbol_at, no_symbol, symbol_breaks, is_no_place, is_misplaced_in, IsObject}
use Rattle.om_object.specs.declared.rules.SymbolRule.TheVariants.{Misvalued}
use Rattle.om_resolve.specs.declared.definition.Definition.TheVariants.{InSection}
use Rattle.om_resolve.specs.Names.{Name, Seen, object_at, number_of, symbols_seen, seen_in, is_named, defines, defining, common_sizes, greatest, offset_in, placed_by, by_symbols, definition_of}
use Rattle.om_resolve.proofs.Members.{In, in_joined, found_in}
use Rattle.om_resolve.proofs.ProgramWords.{found_at}
use Rattle.om_resolve.proofs.ObjectFacts.{or_false, is_valued}

in_filtered : {X : Type 0} (test : X → Bool) (xs : List X) (x : X) → In (filter test xs) x → In xs x
in_filtered test [] x h = absurd h
in_filtered test (y ∷ ys) x h = by_test (in_filtered test ys x) (test y) h
  where
    by_test : (In (filter test ys) x → In ys x) → (b : Bool) → In (cond b (y ∷ filter test ys) (filter test ys)) x → In (y ∷ ys) x
    by_test rest true (inl e) = inl e
    by_test rest true (inr h) = inr (rest h)
    by_test rest false h = inr (rest h)

-- a symbol that is seen is one of its object
pub record SeenAt (objects : List Parts) (s : Seen) : Type 0 where
  pub below : s.obj < length objects
  pub index : ℕ
  pub inside : index < length (object_at objects s.obj).symbols
  pub here : symbol_at (object_at objects s.obj) index ≡ s.symbol

in_mapped : (i : ℕ) (ys : List ExtSym) (s : Seen) → In (map (λ y. record { obj = i; symbol = y }) ys) s → (s.obj ≡ i) × (j : ℕ) × (j < length ys) × (slice_index_or ys j no_symbol ≡ s.symbol)
in_mapped i [] s h = absurd h
in_mapped i (y ∷ ys) s (inl e) = (sym (ap (λ (t : Seen). t.obj) e), 0, omega arith, ap (λ (t : Seen). t.symbol) e)
in_mapped i (y ∷ ys) s (inr h) = let k = in_mapped i ys s h in (k.0, suc k.1, omega (arith, k.2), k.3)

pub seen_at : (objects : List Parts) (s : Seen) → In (symbols_seen objects) s → SeenAt objects s
unfolding symbols_seen
seen_at objects s h =
    let a = in_joined (λ i. seen_in i (object_at objects i)) (length objects) s h in
    let k = in_mapped a.index (object_at objects a.index).symbols s a.here in
    let same : a.index ≡ s.obj = sym k.0 in
    record {
      below = subst (λ i. i < length objects) same a.below;
      index = k.1;
      inside = subst (λ i. k.1 < length (object_at objects i).symbols) same k.2;
      here = subst (λ i. slice_index_or (object_at objects i).symbols k.1 no_symbol ≡ s.symbol) same k.3;
    }

-- ---- a definition in a section

-- the section is there, and its text has a word at the offset
pub record InPlace (objects : List Parts) (obj n off : ℕ) : Type 0 where
  pub below : obj < length objects
  pub section : Section
  pub there : section_of (object_at objects obj) n ≡ Some section
  pub word : n ≡ 1 → is_word (object_at objects obj) off ≡ true
  pub inside : off ≤ section.size

placed_in : (objects : List Parts) (s : Seen) (o : Option ℕ) (obj n off : ℕ) → placed_by objects s o ≡ InSection obj n off → (o ≡ Some n) × (s.obj ≡ obj) × (offset_in (section_of (object_at objects s.obj) n) s.symbol.value ≡ off)
placed_in objects s None obj n off e = cc
placed_in objects s (Some m) obj n off e =
    let a : s.obj ≡ obj = cc in
    let b : m ≡ n = cc in
    let c : offset_in (section_of (object_at objects s.obj) m) s.symbol.value ≡ off = cc in
    (ap (λ k. Some k) b, a, ap (λ k. offset_in (section_of (object_at objects s.obj) k) s.symbol.value) (sym b) ∙ c)

pub not_place : (p : Parts) (value n : ℕ) (o : Option Section) → section_of p n ≡ o → is_no_place p value o ≡ false → (s : Section) × (o ≡ Some s) × (nat_lt s.size (minus_64 value s.addr) ≡ false) × ((s.number ≡ 1) → is_word p (minus_64 value s.addr) ≡ true)
not_place p value n None e h = cc
not_place p value n (Some s) e h =
    let b = or_false (nat_lt s.size (minus_64 value s.addr)) ((s.number == 1) && not (is_word p (minus_64 value s.addr))) h in
    (s, refl, b.0, λ one. by_word one (is_word p (minus_64 value s.addr)) refl b.1)
  where
    by_word : s.number ≡ 1 → (w : Bool) → is_word p (minus_64 value s.addr) ≡ w → ((s.number == 1) && not w) ≡ false → w ≡ true
    by_word one true e h = refl
    by_word one false e h = let k : ((s.number == 1) && true) ≡ true = ap (λ n. (n == 1) && true) one in cc

-- no symbol is defined in `.lita`
pub class_elsewhere : (class n : ℕ) → section_of_class class ≡ Some n → n ≡ 13 → ⊥
unfolding section_of_class
class_elsewhere class n h lita = by_found (find (λ c. c.0 == class) address_classes) refl h
  where
    by_entry : (e : ℕ × ℕ) → In address_classes e → e.1 ≡ 13 → ⊥
    by_entry e (inl h) k = let f : 1 ≡ 13 = ap (λ (x : ℕ × ℕ). x.1) h ∙ k in omega (arith, f)
    by_entry e (inr (inl h)) k = let f : 3 ≡ 13 = ap (λ (x : ℕ × ℕ). x.1) h ∙ k in omega (arith, f)
    by_entry e (inr (inr (inl h))) k = let f : 6 ≡ 13 = ap (λ (x : ℕ × ℕ). x.1) h ∙ k in omega (arith, f)
    by_entry e (inr (inr (inr (inl h)))) k = let f : 4 ≡ 13 = ap (λ (x : ℕ × ℕ). x.1) h ∙ k in omega (arith, f)
    by_entry e (inr (inr (inr (inr (inl h))))) k = let f : 5 ≡ 13 = ap (λ (x : ℕ × ℕ). x.1) h ∙ k in omega (arith, f)
    by_entry e (inr (inr (inr (inr (inr (inl h)))))) k = let f : 2 ≡ 13 = ap (λ (x : ℕ × ℕ). x.1) h ∙ k in omega (arith, f)
    by_entry e (inr (inr (inr (inr (inr (inr (inl h))))))) k = let f : 15 ≡ 13 = ap (λ (x : ℕ × ℕ). x.1) h ∙ k in omega (arith, f)
    by_entry e (inr (inr (inr (inr (inr (inr (inr h))))))) k = h

    by_found : (o : Option (ℕ × ℕ)) → find (λ c. c.0 == class) address_classes ≡ o → option_map (λ c. c.1) o ≡ Some n → ⊥
    by_found None e h = cc
    by_found (Some x) e h =
        let same : x.1 ≡ n = cc in
        by_entry x (found_in (λ c. c.0 == class) address_classes x e).0 (same ∙ lita)

module _ (objects : List Parts) (sound : (k : ℕ) → k < length objects → IsObject (object_at objects k)) where
  seen_in_place : (s : Seen) → In (symbols_seen objects) s → (obj n off : ℕ) → placed_by objects s (section_of_class s.symbol.class) ≡ InSection obj n off → InPlace objects obj n off × (n ≡ 13 → ⊥)
  seen_in_place s h obj n off e =
      let p = placed_in objects s (section_of_class s.symbol.class) obj n off e in
      let at = seen_at objects s h in
      let fine = subst (λ (y : ExtSym). symbol_breaks (object_at objects s.obj) Misvalued y ≡ false) at.here (is_valued (object_at objects s.obj) (sound s.obj at.below) at.index at.inside) in
      let valued : is_no_place (object_at objects s.obj) s.symbol.value (section_of (object_at objects s.obj) n) ≡ false = sym (ap (is_misplaced_in (object_at objects s.obj) s.symbol.value) p.0) ∙ fine in
      let found = not_place (object_at objects s.obj) s.symbol.value n (section_of (object_at objects s.obj) n) refl valued in
      let offset : minus_64 s.symbol.value found.0.addr ≡ off = sym (ap (λ (o : Option Section). offset_in o s.symbol.value) found.1) ∙ p.2 in
      let number = (found_at (object_at objects s.obj) n found.0 found.1).number in
      let inside : off ≤ found.0.size = grind (arith, nat_tests, found.2, offset) in (
        subst (λ o. InPlace objects o n off) p.1
            (record {
              below = at.below;
              section = found.0;
              there = found.1;
              word = λ one. subst (λ x. is_word (object_at objects s.obj) x ≡ true) offset (found.3 (number ∙ one));
              inside = inside;
            }),
        class_elsewhere s.symbol.class n p.0,
      )

  -- what a name stands for in a section is there
  pub definition_in_place : (name : Name) (obj n off : ℕ) → definition_of objects name ≡ InSection obj n off → InPlace objects obj n off × (n ≡ 13 → ⊥)
  unfolding definition_of
  definition_in_place name obj n off e = by_list (defining objects name) refl e
    where
      by_common : (o : Option ℕ) → by_symbols objects (number_of objects name) [] o ≡ InSection obj n off → InPlace objects obj n off × (n ≡ 13 → ⊥)
      by_common None e = cc
      by_common (Some size) e = cc

      by_list : (ss : List Seen) → defining objects name ≡ ss → by_symbols objects (number_of objects name) ss (greatest (common_sizes objects name)) ≡ InSection obj n off → InPlace objects obj n off × (n ≡ 13 → ⊥)
      by_list [] h e = by_common (greatest (common_sizes objects name)) e
      by_list (s ∷ ss) h e =
          let among : In (defining objects name) s = subst (λ (l : List Seen). In l s) (sym h) (inl refl) in
          seen_in_place s (in_filtered (is_named name) (symbols_seen objects) s (in_filtered defines (filter (is_named name) (symbols_seen objects)) s among)) obj n off e
