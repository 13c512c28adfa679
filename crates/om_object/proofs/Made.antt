-- The parts of a file that breaks no rule are an object.
use Rattle.std.proofs.Common.{◌≡◌, ℕ, zero, suc, ◌+◌, ◌<◌, ◌≤◌, Bool, true, false, ◌&&◌, ◌||◌, ◌==◌, List, [], ◌∷◌, ◌++◌, length, take, drop, refl, ap, sym, subst, ◌∙◌, arith, cond}
use native.Mathlib.Decide.{dec_le}
use Rattle.std.proofs.lemmas.Bool.Decides.{nat_tests}
use Rattle.std.proofs.lemmas.List.{length-drop, length-take-le}
use Rattle.std.proofs.lemmas.List.Sums.{take_while-cons}
use Rattle.std.specs.Prelude.{Option, Some, None, is_some, is_none, unwrap_or, slice_index, slice_index_or, not, nat_lt, nat_le, if◌then◌else◌, take_while, find, option_map, bytes_eq}
use Rattle.byteorder.specs.Numbers.{little_from-lt}
use Rattle.om_fields.specs.Places.{any_of, least, lesser, is_past, picked_from, put_if, each, each_from}
use Rattle.om_fields.proofs.Each.{each_from-length, each_from-get}
use Rattle.om_fields.proofs.Picked.{none-picked}
use Rattle.om_fields.specs.declared.extents.Extent.{Extent}
use Rattle.om_fields.specs.Extents.{collide, collides, ends_late, is_misplaced}
use Rattle.om_fields.specs.Sections.{is_bss, number_of_name, name_of_number, loaded_sections}
use Rattle.om_fields.specs.HeaderFields.{section_count, header_at, head_of, number_of, head_extent, rule_6, rule_24}
use Rattle.om_symtab.specs.Symbols.{symbol_count, symbol_of, name_onward}
use Rattle.om_reloc.specs.Relocs.{reloc_of, relocs_of, rule_26, is_over}
use Rattle.om_object.specs.declared.parts.Section.{Section}
use Rattle.om_object.specs.declared.parts.Parts.{Parts}
use Rattle.om_object.specs.declared.origin.Origins.{Origins}
use Rattle.om_object.specs.declared.rules.SectionRule.TheVariants.{Misfilled, Crowded}
use Rattle.om_object.specs.declared.rules.SymbolRule.TheVariants.{Unwritable}
use Rattle.om_object.specs.declared.rules.TableRule.TheVariants.{Over}
use Rattle.om_object.specs.Rules.{Spot, AtSection, AtSymbol, PartRule, section_at, symbol_at, no_section, no_symbol, is_misfilled, is_crowded, bytes_wanted, section_breaks, symbol_breaks, is_unwritable, section_extent, made_rule_6, sections_where, symbols_where, rules_9_to_23, rule_25, rule_29, made_front, made_last, AreKept, IsObject}
use Rattle.om_object.specs.Spots.{places_of, place_of, first_spot}
use Rattle.om_object.specs.File.{is_loaded, section_of_head, bytes_of_section, parts_of, sym_at, head_breaks, last_spot, HasSections}
use Rattle.om_object.proofs.HeadsAt.{section-inside}
use Rattle.om_object.proofs.Placed.{IsPairAt, pair-at, number-by, same-lengths}

-- ---- rules of which no spot is left

none-left : (o : Origins) (spots : List Spot) → least (places_of o spots) ≡ None → spots ≡ []
none-left o [] e = refl
none-left o (x ∷ xs) e = absurd (some-lesser (place_of o x) (least (places_of o xs)) e)
  where
    some-lesser : (x : ℕ) (y : Option ℕ) → lesser x y ≡ None → ⊥
    some-lesser x None e = cc
    some-lesser x (Some y) e = cc

first-none : (n : ℕ) (at : Option ℕ) (rest : Option (ℕ × ℕ)) → elim at as (λ _. Option (ℕ × ℕ)) [ None ↦ rest | Some x ↦ Some (n, x) ] ≡ None → (at ≡ None) × (rest ≡ None)
first-none n None rest e = (refl, e)
first-none n (Some x) rest e = cc

kept-by : (rs : List PartRule) (p : Parts) (o : Origins) → first_spot rs p o ≡ None → AreKept rs p
kept-by [] p o e = tt
kept-by (r ∷ rs) p o e =
    let both = first-none r.0 (least (places_of o (r.1 p))) (first_spot rs p o) e in
    (none-left o (r.1 p) both.0, kept-by rs p o both.1)

kept-append : (qs rs : List PartRule) (p : Parts) → AreKept qs p → AreKept rs p → AreKept (qs ++ rs) p
kept-append [] rs p q r = r
kept-append (x ∷ qs) rs p q r = (q.0, kept-append qs rs p q.1 r)

put-nothing : {X : Type 0} (b : Bool) (x : X) (xs : List X) → b ≡ false → xs ≡ [] → put_if b x xs ≡ []
put-nothing b x xs e f = rw e f

picked-nothing : {X : Type 0} (test : ℕ → Bool) (place : ℕ → X) (k n : ℕ) → ((j : ℕ) → k ≤ j → j < k + n → test j ≡ false) → picked_from test place k n ≡ []
picked-nothing test place k zero h = refl
picked-nothing test place k (suc n) h =
    put-nothing (test k) (place k) (picked_from test place (k + 1) n) (h k (omega arith) (omega arith))
    (picked-nothing test place (k + 1) n (λ j low high. h j (omega arith) (omega arith)))

-- ---- tests that hold of no pair, and lists by their indices

or-both : (a b : Bool) → (a || b) ≡ false → (a ≡ false) × (b ≡ false)
or-both true b e = cc
or-both false b e = (refl, e)

any-nowhere : (t : Extent → Bool) (f : ℕ → Extent) (k n : ℕ) → ((j : ℕ) → k ≤ j → j < k + n → t (f j) ≡ false) → any_of t (each_from f k n) ≡ false
any-nowhere t f k zero h = refl
any-nowhere t f k (suc n) h =
    let here = h k (omega arith) (omega arith) in
    let later = any-nowhere t f (k + 1) n (λ j low high. h j (omega arith) (omega arith)) in
    rw here later

none-by : (t : Extent → Bool) (f : ℕ → Extent) (k j : ℕ) → Dec (j ≤ k) → k ≤ j → t (f k) ≡ false → (k + 1 ≤ j → t (f j) ≡ false) → t (f j) ≡ false
none-by t f k j (yes h) low e ih = let same : j ≡ k = omega arith in ap (λ i. t (f i)) same ∙ e
none-by t f k j (no h) low e ih = ih (omega arith)

none-at : (t : Extent → Bool) (f : ℕ → Extent) (k n j : ℕ) → any_of t (each_from f k n) ≡ false → k ≤ j → j < k + n → t (f j) ≡ false
none-at t f k zero j e low high = absurd (omega arith)
none-at t f k (suc n) j e low high =
    let both = or-both (t (f k)) (any_of t (each_from f (k + 1) n)) e in
    none-by t f k j (dec_le j k) low both.0 (λ l. none-at t f (k + 1) n j both.1 l (omega arith))

-- ---- the indices that a test picks rise

above-by : (test : ℕ → Bool) (k n a : ℕ) (b : Bool) → ((c : ℕ) → c < length (picked_from test (λ i. i) (k + 1) n) → k + 1 ≤ slice_index_or (picked_from test (λ i. i) (k + 1) n) c 0)
    → a < length (put_if b k (picked_from test (λ i. i) (k + 1) n)) → k ≤ slice_index_or (put_if b k (picked_from test (λ i. i) (k + 1) n)) a 0
above-by test k n zero true ih h = omega arith
above-by test k n (suc a) true ih h = let f = ih a (omega arith) in omega (arith, f)
above-by test k n a false ih h = let f = ih a h in omega (arith, f)

picked-above : (test : ℕ → Bool) (k n a : ℕ) → a < length (picked_from test (λ i. i) k n) → k ≤ slice_index_or (picked_from test (λ i. i) k n) a 0
picked-above test k zero a h = absurd (omega arith)
picked-above test k (suc n) a h = above-by test k n a (test k) (λ c g. picked-above test (k + 1) n c g) h

rise-by : (test : ℕ → Bool) (k n a b : ℕ) (t : Bool)
    → ((c d : ℕ) → c < d → d < length (picked_from test (λ i. i) (k + 1) n) → slice_index_or (picked_from test (λ i. i) (k + 1) n) c 0 < slice_index_or (picked_from test (λ i. i) (k + 1) n) d 0)
    → a < b → b < length (put_if t k (picked_from test (λ i. i) (k + 1) n))
    → slice_index_or (put_if t k (picked_from test (λ i. i) (k + 1) n)) a 0 < slice_index_or (put_if t k (picked_from test (λ i. i) (k + 1) n)) b 0
rise-by test k n a zero true ih l h = absurd (omega arith)
rise-by test k n zero (suc b) true ih l h = let f = picked-above test (k + 1) n b (omega arith) in omega (arith, f)
rise-by test k n (suc a) (suc b) true ih l h = ih a b (omega arith) (omega arith)
rise-by test k n a b false ih l h = ih a b l h

picked-rise : (test : ℕ → Bool) (k n a b : ℕ) → a < b → b < length (picked_from test (λ i. i) k n)
    → slice_index_or (picked_from test (λ i. i) k n) a 0 < slice_index_or (picked_from test (λ i. i) k n) b 0
picked-rise test k zero a b l h = absurd (omega arith)
picked-rise test k (suc n) a b l h = rise-by test k n a b (test k) (λ c d m g. picked-rise test (k + 1) n c d m g) l h

-- ---- bytes, names, numbers

past-inside : (len at n : ℕ) → 0 < n → is_past len at n ≡ false → at + n ≤ len
past-inside len at n some e = grind (arith, nat_tests)

take-inside : (file : List ℕ) (at n : ℕ) → is_past (length file) at n ≡ false → length (take n (drop at file)) ≡ n
take-inside file at zero e = refl
take-inside file at (suc n) e =
    let inside = past-inside (length file) at (suc n) (omega arith) e in
    let rest = length-drop at file in
    length-take-le (suc n) (drop at file) (omega (arith, inside, rest))

filled-by : (b : Bool) (n at : ℕ) (file : List ℕ) → (b ≡ false → is_past (length file) at n ≡ false) → length (if b then [] else take n (drop at file)) ≡ (if b then 0 else n)
filled-by true n at file h = refl
filled-by false n at file h = take-inside file at n (h refl)

equal-test : (a b : ℕ) → a ≡ b → not (a == b) ≡ false
equal-test a b e = grind (arith, nat_tests)

not_zero : ℕ → Bool
not_zero c = not (c == 0)

kept-first : (b : ℕ) (bs : List ℕ) → (b == 0) ≡ false → cond (not (b == 0)) (b ∷ bs) [] ≡ b ∷ bs
kept-first b bs e = rw e refl

kept-none : (b : ℕ) (bs : List ℕ) → (b == 0) ≡ true → cond (not (b == 0)) (b ∷ bs) [] ≡ []
kept-none b bs e = rw e refl

zero-cons : (b : ℕ) (bs : List ℕ) (t : Bool) → (b == 0) ≡ t → any_of (λ c. c == 0) bs ≡ false
    → any_of (λ c. c == 0) (cond (not (b == 0)) (b ∷ bs) []) ≡ false
zero-cons b bs true e h = ap (λ (xs : List ℕ). any_of (λ c. c == 0) xs) (kept-none b bs e)
zero-cons b bs false e h = ap (λ (xs : List ℕ). any_of (λ c. c == 0) xs) (kept-first b bs e) ∙ ap (λ (x : Bool). x || any_of (λ c. c == 0) bs) e ∙ h

no-zero : (bs : List ℕ) → any_of (λ c. c == 0) (take_while (λ c. not (c == 0)) bs) ≡ false
no-zero [] = refl
no-zero (b ∷ bs) =
    ap (λ (xs : List ℕ). any_of (λ c. c == 0) xs) (take_while-cons (λ c. not (c == 0)) b bs) ∙ zero-cons b (take_while (λ c. not (c == 0)) bs) (b == 0) refl (no-zero bs)

writable-by : (name : List ℕ) (class : ℕ) → any_of (λ c. c == 0) name ≡ false → class < 32 → (any_of (λ c. c == 0) name || nat_lt 31 class) ≡ false
writable-by name class e h = rw e (grind (arith, nat_tests))

abbrev all_pass : {X : Type 0} → (X → Bool) → List X → Bool
all_pass t [] = true
all_pass t (x ∷ xs) = t x && all_pass t xs

and-both : (a b : Bool) → (a && b) ≡ true → (a ≡ true) × (b ≡ true)
and-both true b e = (refl, e)
and-both false b e = cc

found-passes : {X : Type 0} (t test : X → Bool) (xs : List X) (x : X) → all_pass t xs ≡ true → find test xs ≡ Some x → t x ≡ true
found-passes t test [] x a e = cc
found-passes t test (y ∷ ys) x a e = by_test (test y) refl (λ g. found-passes t test ys x (and-both (t y) (all_pass t ys) a).1 g) e
  where
    by_test : (b : Bool) → test y ≡ b → (find test ys ≡ Some x → t x ≡ true) → (if b then Some y else find test ys) ≡ Some x → t x ≡ true
    by_test true f ih e = let same : y ≡ x = cc in subst (λ z. t z ≡ true) same (and-both (t y) (all_pass t ys) a).0
    by_test false f ih e = ih e

mapped-some : (o : Option (ℕ × List ℕ)) (n : ℕ) → option_map (λ (s : ℕ × List ℕ). s.0) o ≡ Some n → (s : ℕ × List ℕ) × ((o ≡ Some s) × (s.0 ≡ n))
mapped-some None n e = cc
mapped-some (Some s) n e = (s, (refl, cc))

-- a number of a loaded section has a name
pub named : (name : List ℕ) (n : ℕ) → number_of_name name ≡ Some n → is_none (name_of_number n) ≡ false
unfolding number_of_name
named name n e =
    let found = mapped-some (find (λ s. bytes_eq s.1 name) loaded_sections) n e in
    let has : is_some (name_of_number (found.0).0) ≡ true = found-passes (λ s. is_some (name_of_number s.0)) (λ s. bytes_eq s.1 name) loaded_sections found.0 refl found.1.0 in
    ap (λ (m : ℕ). is_none (name_of_number m)) (sym found.1.1) ∙ ap not has

pub last-none : (file : List ℕ) (p : Parts) (o : Origins) → last_spot file p o ≡ None
    → (least (places_of o (rule_25.1 p)) ≡ None) × ((least (rule_26 file) ≡ None) × (least (places_of o (rule_29.1 p)) ≡ None))
last-none file p o e =
    let a = first-none 24 (least (rule_24 file)) _ e in
    let b = first-none 25 (least (places_of o (rule_25.1 p))) _ a.1 in
    let c = first-none 26 (least (rule_26 file)) _ b.1 in
    let d = first-none 29 (least (places_of o (rule_29.1 p))) None c.1 in
    (b.0, (c.0, d.0))

-- what the rules that speak of files alone say of a file that keeps them
pub record KeepsFile (file : List ℕ) : Type 0 where
  pub bytes : (k : ℕ) → slice_index file k < 256
  pub sections : HasSections file
  pub apart : least (rule_6 file) ≡ None
  pub counts : least (rule_26 file) ≡ None

module _ (file : List ℕ) (keeps : KeepsFile file) where
  abbrev p : Parts
  p = parts_of file

  abbrev header_of : (a : ℕ) → a < length p.sections → ℕ
  header_of a h = (pair-at (is_loaded file) (section_of_head file) (λ k. k) no_section 0 0 (section_count file) a h).k

  at-head : (a : ℕ) → (h : a < length p.sections) → IsPairAt (is_loaded file) (section_of_head file) (λ k. k) 0 (0 + section_count file) (section_at p a) (slice_index_or (picked_from (is_loaded file) (λ k. k) 0 (section_count file)) a 0)
  at-head a h = pair-at (is_loaded file) (section_of_head file) (λ k. k) no_section 0 0 (section_count file) a h

  filled : (k : ℕ) → k < section_count file → is_loaded file k ≡ true → is_misfilled (section_of_head file k) ≡ false
  filled k h loaded =
      let n : ℕ = unwrap_or (number_of file k) 0 in
      let number = number-by (number_of file k) loaded in
      equal-test (length (bytes_of_section file n (head_of file k))) (bytes_wanted (section_of_head file k))
      (filled-by (is_bss n) (head_of file k).size (head_of file k).bytes_at file (λ b. section-inside file k n keeps.sections h number b))

  misfilled-nowhere : sections_where p (section_breaks Misfilled) ≡ []
  misfilled-nowhere = picked-nothing (λ a. section_breaks Misfilled (section_at p a)) AtSection 0 (length p.sections) here
    where
      here : (a : ℕ) → 0 ≤ a → a < 0 + length p.sections → section_breaks Misfilled (section_at p a) ≡ false
      here a low high =
          let pair = at-head a (omega arith) in
          ap is_misfilled pair.first ∙ filled pair.k (let b = pair.below in omega (arith, b)) pair.holds

  few : (k : ℕ) → k < section_count file → is_loaded file k ≡ true → is_crowded (section_of_head file k) ≡ false
  few k h loaded =
      let count : length (relocs_of file (head_of file k)) ≡ (head_of file k).relocs = each_from-length (reloc_of file (head_of file k)) 0 (head_of file k).relocs in
      let small : (head_of file k).relocs < 65536 = little_from-lt (header_at k + 56) 2 file keeps.bytes in
      let over = last-false (is_some (number_of file k)) (is_over (head_of file k)) loaded (none-picked (λ j. head_breaks Over file (head_of file j)) header_at (section_count file) keeps.counts k h) in
      ap (λ (n : ℕ). nat_le 65535 n) count ∙ fewer (head_of file k).relocs small over
    where
      last-false : (a b : Bool) → a ≡ true → (a && b) ≡ false → b ≡ false
      last-false true b e h = h
      last-false false b e h = cc

      fewer : (n : ℕ) → n < 65536 → (n == 65535) ≡ false → nat_le 65535 n ≡ false
      fewer n h e = grind (arith, nat_tests)

  crowded-nowhere : sections_where p (section_breaks Crowded) ≡ []
  crowded-nowhere = picked-nothing (λ a. section_breaks Crowded (section_at p a)) AtSection 0 (length p.sections) here
    where
      here : (a : ℕ) → 0 ≤ a → a < 0 + length p.sections → section_breaks Crowded (section_at p a) ≡ false
      here a low high =
          let pair = at-head a (omega arith) in
          ap is_crowded pair.first ∙ few pair.k (let b = pair.below in omega (arith, b)) pair.holds

  unwritable-nowhere : symbols_where p (symbol_breaks p Unwritable) ≡ []
  unwritable-nowhere = picked-nothing (λ j. symbol_breaks p Unwritable (symbol_at p j)) AtSymbol 0 (length p.symbols) here
    where
      here : (j : ℕ) → 0 ≤ j → j < 0 + length p.symbols → symbol_breaks p Unwritable (symbol_at p j) ≡ false
      here j low high =
          let count : length p.symbols ≡ symbol_count file (sym_at file) = each_from-length (symbol_of file (sym_at file)) 0 (symbol_count file (sym_at file)) in
          let symbol : symbol_at p j ≡ symbol_of file (sym_at file) (0 + j) = each_from-get (symbol_of file (sym_at file)) 0 (symbol_count file (sym_at file)) j no_symbol (omega (arith, count, high)) in
          ap is_unwritable symbol
          ∙ writable-by (symbol_of file (sym_at file) (0 + j)).name (symbol_of file (sym_at file) (0 + j)).class (no-zero (name_onward file (sym_at file) (0 + j))) (omega arith)

  extent-by : (k : ℕ) → is_loaded file k ≡ true → (s : Section) → s ≡ section_of_head file k → record { number = Some s.number; addr = s.addr; size = s.size } ≡ head_extent file k
  extent-by k loaded s e =
      ap (λ (t : Section). record { number = Some t.number; addr = t.addr; size = t.size }) e
      ∙ ap (λ (n : Option ℕ). record { number = n; addr = (head_of file k).addr; size = (head_of file k).size }) (sym (number-by (number_of file k) loaded))

  -- two sections do not collide, since their headers do not
  apart : (a b : ℕ) → b < a → a < length p.sections → collide (section_extent p b) (section_extent p a) ≡ false
  apart a b l h =
      let far = at-head a h in
      let near = at-head b (omega arith) in
      let order = picked-rise (is_loaded file) 0 (section_count file) b a l (subst (λ (n : ℕ). a < n) (same-lengths (is_loaded file) (section_of_head file) (λ k. k) 0 (section_count file)) h) in
      let rises : near.k < far.k = let f = far.second in let g = near.second in omega (arith, order, f, g) in
      let below : far.k < section_count file = let c = far.below in omega (arith, c) in
      let misplaced = none-picked (is_misplaced (head_extent file)) header_at (section_count file) keeps.apart far.k below in
      let nowhere = (or-both (ends_late (head_extent file far.k)) (collides (each (head_extent file) far.k) (head_extent file far.k)) misplaced).1 in
      let here = none-at (λ s. collide s (head_extent file far.k)) (head_extent file) 0 far.k near.k nowhere (omega arith) (omega (arith, rises)) in
      ap (λ (s : Extent). collide s (section_extent p a)) (extent-by near.k near.holds (section_at p b) near.first)
      ∙ ap (λ (s : Extent). collide (head_extent file near.k) s) (extent-by far.k far.holds (section_at p a) far.first)
      ∙ here

  in-place : (a : ℕ) → (h : a < length p.sections) → is_misplaced (section_extent p) a ≡ false
  in-place a h =
      let far = at-head a h in
      let below : far.k < section_count file = let c = far.below in omega (arith, c) in
      let misplaced = none-picked (is_misplaced (head_extent file)) header_at (section_count file) keeps.apart far.k below in
      let early = (or-both (ends_late (head_extent file far.k)) (collides (each (head_extent file) far.k) (head_extent file far.k)) misplaced).0 in
      let ends : ends_late (section_extent p a) ≡ false = ap ends_late (extent-by far.k far.holds (section_at p a) far.first) ∙ early in
      let alone : collides (each (section_extent p) a) (section_extent p a) ≡ false =
      any-nowhere (λ s. collide s (section_extent p a)) (section_extent p) 0 a (λ b low high. apart a b (omega arith) h) in
      ap (λ (x : Bool). x || collides (each (section_extent p) a) (section_extent p a)) ends ∙ alone

  has-name : (a : ℕ) → (h : a < length p.sections) → is_none (name_of_number (section_at p a).number) ≡ false
  has-name a h =
      let here = at-head a h in
      let number = number-by (number_of file here.k) here.holds in
      ap (λ (s : Section). is_none (name_of_number s.number)) here.first
      ∙ named (head_of file here.k).name (unwrap_or (number_of file here.k) 0) number

  misplaced-nowhere : made_rule_6 p ≡ []
  misplaced-nowhere = picked-nothing (λ a. is_none (name_of_number (section_at p a).number) || is_misplaced (section_extent p) a) AtSection 0 (length p.sections) here
    where
      here : (a : ℕ) → 0 ≤ a → a < 0 + length p.sections → (is_none (name_of_number (section_at p a).number) || is_misplaced (section_extent p) a) ≡ false
      here a low high =
          ap (λ (x : Bool). x || is_misplaced (section_extent p) a) (has-name a (omega arith)) ∙ in-place a (omega arith)

  -- the parts are an object
  pub made : (o : Origins) → first_spot rules_9_to_23 p o ≡ None → least (places_of o (rule_25.1 p)) ≡ None → least (places_of o (rule_29.1 p)) ≡ None → IsObject p
  made o spots uneven unnatural = record {
    kept =
        kept-append made_front (rules_9_to_23 ++ made_last) p (misfilled-nowhere, (misplaced-nowhere, (unwritable-nowhere, tt)))
        (kept-append rules_9_to_23 made_last p (kept-by rules_9_to_23 p o spots)
        (none-left o (rule_25.1 p) uneven, (crowded-nowhere, (none-left o (rule_29.1 p) unnatural, tt))));
  }
