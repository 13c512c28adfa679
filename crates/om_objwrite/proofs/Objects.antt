-- What makes an object one that can be read back.
use Rattle.std.proofs.Common.{◌≡◌, ◌<◌, ◌≤◌, ◌+◌, ◌^◌, ℕ, zero, suc, Bool, true, false, List, [], ◌∷◌, ◌++◌, length, get_or, refl, ap, ◌∙◌, arith, subst}
use Rattle.std.specs.Prelude.{◌==◌, ◌||◌, not, is_none, nat_le, nat_lt}
use Rattle.std.specs.List.{IsDistinct}
use Rattle.std.proofs.Math.Dec.{eqb}
use Rattle.std.proofs.lemmas.Bool.{eqb-true}
use Rattle.std.proofs.lemmas.Bool.Decides.{nat_tests}
use Rattle.std.proofs.lemmas.List.Elements.{All-get_or, All-from_get_or}
use Rattle.std.proofs.lemmas.Map.Keys.{IsDistinct-from_apart}
use Rattle.std.proofs.lemmas.Map.Steps.{length-le_from_distinct_below}
use Rattle.om_fields.specs.Places.{any_of, each, each_from, picked, joined_from}
use Rattle.om_fields.specs.Sections.{name_of_number}
use Rattle.om_fields.specs.declared.extents.Extent.{Extent}
use Rattle.om_fields.specs.Extents.{is_misplaced, collides, collide, shares, ends_late}
use Rattle.om_fields.proofs.Each.{each_from-get, each_from-length}
use Rattle.om_symtab.specs.declared.symbol.ExtSym.{ExtSym}
use Rattle.om_object.specs.declared.parts.Section.{Section}
use Rattle.om_object.specs.declared.parts.Parts.{Parts}
use Rattle.om_object.specs.declared.rules.RelocRule.TheVariants.{Known}
use Rattle.om_object.specs.declared.rules.SectionRule.TheVariants.{Misfilled, Crowded}
use Rattle.om_object.specs.declared.rules.SymbolRule.TheVariants.{Unwritable}
use Rattle.om_object.specs.Rules.{AtSection, AtSymbol, AtReloc, IsObject, no_section, no_symbol, no_reloc, section_at, section_extent, bytes_wanted, is_misfilled, is_crowded, is_unwritable, section_breaks, symbol_breaks, breaks_at, sections_where, symbols_where, relocs_where, made_rule_6}
use Rattle.om_objwrite.specs.Lengths.{HasCounts}
use Rattle.om_objwrite.specs.RoundTrip.{HasRelocWidths, HasSectionWidths, HasSymbolWidths, HasWidths}
use Rattle.om_objwrite.proofs.Picks.{nothing_picked}
use Rattle.om_objwrite.proofs.RelocParts.{RelocFine}
use Rattle.om_objwrite.proofs.SectionParts.{SectionFine, name_reads}
use Rattle.om_objwrite.proofs.SymbolParts.{SymbolFine, or_false}

append_nothing : {X : Type 0} (xs ys : List X) → xs ++ ys ≡ [] → (xs ≡ []) × (ys ≡ [])
append_nothing [] ys h = (refl, h)
append_nothing (x ∷ xs) ys h = cc

nothing_joined : {X : Type 0} (f : ℕ → List X) (k n : ℕ) → joined_from f k n ≡ [] → (j : ℕ) → j < n → f (k + j) ≡ []
nothing_joined f k zero h j b = absurd (omega arith)
nothing_joined f k (suc n) h zero b =
    let e : k + 0 ≡ k = omega arith in
    ap f e ∙ (append_nothing (f k) (joined_from f (k + 1) n) h).0
nothing_joined f k (suc n) h (suc j) b =
    let e : k + suc j ≡ k + 1 + j = omega arith in
    ap f e ∙ nothing_joined f (k + 1) n (append_nothing (f k) (joined_from f (k + 1) n) h).1 j (omega arith)

not_false : (b : Bool) → not b ≡ false → b ≡ true
not_false true h = refl
not_false false h = cc

below_by : (n m : ℕ) → nat_le m n ≡ false → n < m
below_by n m h = grind (arith, nat_tests)

at_most_by : (n m : ℕ) → nat_lt m n ≡ false → n ≤ m
at_most_by n m h = grind (arith, nat_tests)

-- a test that no index below meets, at the index itself
at_index : (test : ℕ → Bool) (j : ℕ) → test (0 + j) ≡ false → test j ≡ false
at_index test j h = let e : j ≡ 0 + j = omega arith in ap test e ∙ h

any_nothing : {X : Type 0} (test : X → Bool) (f : ℕ → X) (k n : ℕ) → any_of test (each_from f k n) ≡ false → (i : ℕ) → i < n → test (f (k + i)) ≡ false
any_nothing test f k zero h i b = absurd (omega arith)
any_nothing test f k (suc n) h zero b =
    let e : k + 0 ≡ k = omega arith in
    ap (λ (j : ℕ). test (f j)) e ∙ (or_false (test (f k)) (any_of test (each_from f (k + 1) n)) h).0
any_nothing test f k (suc n) h (suc i) b =
    let e : k + suc i ≡ k + 1 + i = omega arith in
    ap (λ (j : ℕ). test (f j)) e ∙ any_nothing test f (k + 1) n (or_false (test (f k)) (any_of test (each_from f (k + 1) n)) h).1 i (omega arith)

any_below : (q most : ℕ) (f : ℕ → ℕ) (k n : ℕ) → ((j : ℕ) → j < n → f (k + j) < most) → any_of (eqb q) (each_from f k n) ≡ true → q < most
any_below q most f k zero h some = cc
any_below q most f k (suc n) h some =
    let e : k + 0 ≡ k = omega arith in
    let first : f k < most = subst (λ (j : ℕ). f j < most) e (h 0 (omega arith)) in
    any_by (eqb q (f k)) refl first
    (λ more. any_below q most f (k + 1) n (λ j b. let g : k + suc j ≡ k + 1 + j = omega arith in subst (λ (i : ℕ). f i < most) g (h (suc j) (omega arith))) more) some
  where
    any_by : (t : Bool) → eqb q (f k) ≡ t → f k < most → (any_of (eqb q) (each_from f (k + 1) n) ≡ true → q < most)
        → (t || any_of (eqb q) (each_from f (k + 1) n)) ≡ true → q < most
    any_by true e first more some = let g = eqb-true q (f k) e in omega (arith, g, first)
    any_by false e first more some = more some

module _ (p : Parts) (object : IsObject p) where
  kept_4 : sections_where p (section_breaks Misfilled) ≡ []
  kept_4 = object.kept.0

  kept_6 : made_rule_6 p ≡ []
  kept_6 = object.kept.1.0

  kept_8 : symbols_where p (symbol_breaks p Unwritable) ≡ []
  kept_8 = object.kept.1.1.0

  kept_22 : relocs_where p Known ≡ []
  kept_22 = object.kept.1.1.1.1.1.1.1.1.1.1.1.1.1.0

  kept_26 : sections_where p (section_breaks Crowded) ≡ []
  kept_26 = object.kept.1.1.1.1.1.1.1.1.1.1.1.1.1.1.1.1.0

  filled : (j : ℕ) → j < length p.sections → is_misfilled (section_at p j) ≡ false
  filled j b = at_index (λ a. is_misfilled (section_at p a)) j (nothing_picked (λ a. is_misfilled (section_at p a)) AtSection 0 (length p.sections) kept_4 j b)

  crowded : (j : ℕ) → j < length p.sections → is_crowded (section_at p j) ≡ false
  crowded j b = at_index (λ a. is_crowded (section_at p a)) j (nothing_picked (λ a. is_crowded (section_at p a)) AtSection 0 (length p.sections) kept_26 j b)

  writable : (j : ℕ) → j < length p.symbols → is_unwritable (get_or p.symbols j no_symbol) ≡ false
  writable j b =
      at_index (λ a. is_unwritable (get_or p.symbols a no_symbol)) j
      (nothing_picked (λ a. is_unwritable (get_or p.symbols a no_symbol)) AtSymbol 0 (length p.symbols) kept_8 j b)

  placed : (j : ℕ) → j < length p.sections → (is_none (name_of_number (section_at p j).number) || is_misplaced (section_extent p) j) ≡ false
  placed j b =
      at_index (λ a. is_none (name_of_number (section_at p a).number) || is_misplaced (section_extent p) a) j
      (nothing_picked (λ a. is_none (name_of_number (section_at p a).number) || is_misplaced (section_extent p) a) AtSection 0 (length p.sections) kept_6 j b)

  known_in : (a : ℕ) → a < length p.sections → picked (breaks_at p Known (section_at p a)) (AtReloc a) (length (section_at p a).relocs) ≡ []
  known_in a b =
      let e : a ≡ 0 + a = omega arith in
      ap (λ (k : ℕ). picked (breaks_at p Known (section_at p k)) (AtReloc k) (length (section_at p k).relocs)) e
      ∙ nothing_joined (λ k. picked (breaks_at p Known (section_at p k)) (AtReloc k) (length (section_at p k).relocs)) 0 (length p.sections) kept_22 a b

  known : (a i : ℕ) → a < length p.sections → i < length (section_at p a).relocs → breaks_at p Known (section_at p a) i ≡ false
  known a i b h =
      at_index (breaks_at p Known (section_at p a)) i
      (nothing_picked (breaks_at p Known (section_at p a)) (AtReloc a) 0 (length (section_at p a).relocs) (known_in a b) i h)

  pub is_named : (j : ℕ) → j < length p.sections → is_none (name_of_number (section_at p j).number) ≡ false
  is_named j b = (or_false (is_none (name_of_number (section_at p j).number)) (is_misplaced (section_extent p) j) (placed j b)).0

  pub is_placed : (j : ℕ) → j < length p.sections → is_misplaced (section_extent p) j ≡ false
  is_placed j b = (or_false (is_none (name_of_number (section_at p j).number)) (is_misplaced (section_extent p) j) (placed j b)).1

  -- ---- at most 16 sections

  abbrev number_at_index : ℕ → ℕ
  number_at_index a = (section_at p a).number

  number_small : (j : ℕ) → j < length p.sections → number_at_index j < 16
  number_small j b = (name_reads (number_at_index j) (is_named j b)).small

  apart : (i j : ℕ) → i < j → j < length p.sections → (number_at_index i == number_at_index j) ≡ false
  apart i j h b =
      let t : Extent = section_extent p j in
      let e : i ≡ 0 + i = omega arith in
      let all = (or_false (ends_late t) (collides (each (section_extent p) j) t) (is_placed j b)).1 in
      let one : collide (section_extent p (0 + i)) t ≡ false = any_nothing (λ (s : Extent). collide s t) (section_extent p) 0 j all i h in
      (or_false (number_at_index i == number_at_index j) (shares (section_at p i).addr (section_at p i).size (section_at p j).addr (section_at p j).size)
      (ap (λ (k : ℕ). collide (section_extent p k) t) e ∙ one)).0

  pub few : length p.sections ≤ 16
  few =
      let n = length p.sections in
      let ks = each number_at_index n in
      let long : length ks ≡ n = each_from-length number_at_index 0 n in
      let distinct : IsDistinct eqb ks = IsDistinct-from_apart eqb ks (λ i j d h b. each_apart i j d h (omega (arith, long, b))) in
      let most : length ks ≤ 16 = length-le_from_distinct_below ks 16 distinct
      (λ q some. any_below q 16 number_at_index 0 n (λ j b. let e : j ≡ 0 + j = omega arith in subst (λ (k : ℕ). number_at_index k < 16) e (number_small j b)) some) in
      omega (arith, long, most)
    where
      each_apart : (i j d : ℕ) → i < j → j < length p.sections
          → eqb (get_or (each number_at_index (length p.sections)) i d) (get_or (each number_at_index (length p.sections)) j d) ≡ false
      each_apart i j d h b =
          let ei : get_or (each number_at_index (length p.sections)) i d ≡ number_at_index (0 + i) = each_from-get number_at_index 0 (length p.sections) i d (omega arith) in
          let ej : get_or (each number_at_index (length p.sections)) j d ≡ number_at_index (0 + j) = each_from-get number_at_index 0 (length p.sections) j d b in
          let zi : 0 + i ≡ i = omega arith in
          let zj : 0 + j ≡ j = omega arith in
          ap (λ (k : ℕ). eqb k (get_or (each number_at_index (length p.sections)) j d)) (ei ∙ ap number_at_index zi)
          ∙ ap (λ (k : ℕ). eqb (number_at_index i) k) (ej ∙ ap number_at_index zj) ∙ apart i j h b

  -- ---- each section and each symbol

  module _ (widths : HasWidths p) where
    reloc_fine : (a i : ℕ) → a < length p.sections → i < length (section_at p a).relocs → RelocFine (get_or (section_at p a).relocs i no_reloc)
    reloc_fine a i b h =
        let wide = All-get_or HasSectionWidths p.sections a no_section b widths.sections in
        let r = All-get_or HasRelocWidths (section_at p a).relocs i no_reloc h wide.relocs in
        record { place = r.place; index = r.index; known = known a i b h }

    pub section_fine : (a : ℕ) → a < length p.sections → SectionFine (get_or p.sections a no_section)
    section_fine a b =
        let wide = All-get_or HasSectionWidths p.sections a no_section b widths.sections in
        record {
          named = is_named a b;
          addr = wide.addr;
          size = wide.size;
          bytes = eqb-true (length (section_at p a).bytes) (bytes_wanted (section_at p a)) (not_false (length (section_at p a).bytes == bytes_wanted (section_at p a)) (filled a b));
          count = below_by (length (section_at p a).relocs) 65535 (crowded a b);
          relocs = λ i h. reloc_fine a i b h;
        }

    pub symbol_fine : (j : ℕ) → j < length p.symbols → SymbolFine (get_or p.symbols j no_symbol)
    symbol_fine j b =
        let y : ExtSym = get_or p.symbols j no_symbol in
        let wide = All-get_or HasSymbolWidths p.symbols j no_symbol b widths.symbols in
        let parts = or_false (any_of (λ c. c == 0) y.name) (nat_lt 31 y.class) (writable j b) in
        let most = at_most_by y.class 31 parts.1 in
        record { value = wide.value; class = omega (arith, most); name = parts.0 }

  -- the counts of an object fit their fields
  pub counts_fit : HasCounts p
  counts_fit =
      let most = few in
      record {
        sections = omega (arith, most);
        relocs = All-from_get_or (λ (s : Section). length s.relocs < 2 ^ 16) p.sections no_section
            (λ j b. let below = below_by (length (section_at p j).relocs) 65535 (crowded j b) in omega (arith, below));
      }
