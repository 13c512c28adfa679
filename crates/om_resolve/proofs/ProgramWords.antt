-- Which places are words of the program of objects.
use Rattle.std.proofs.Common.{◌≡◌, ℕ, zero, suc, ◌+◌, ◌/◌, ◌%◌, ◌<◌, ◌≤◌, Bool, true, false, cond, not, ◌&&◌, ◌||◌, ◌==◌, nat_lt, List, [], ◌∷◌, length, Option, Some, None, refl, ap, sym, subst, ◌∙◌, arith, slice_index_or}
use Rattle.std.specs.Prelude.{is_some, find, slice_get, option_and_then}
use Rattle.std.proofs.lemmas.Bool.{eqb-true, ltb-true}
use Rattle.std.proofs.lemmas.Bool.Decides.{nat_tests}
use Rattle.om_fields.specs.Places.{each_from, each}
use Rattle.om_fields.specs.Sections.{is_bss}
use Rattle.om_object.specs.declared.parts.Section.{Section}
use Rattle.om_object.specs.declared.parts.Parts.{Parts}
use Rattle.om_object.specs.Words.{section_of, word_in, is_word}
use Rattle.om_object.specs.Rules.{no_section, section_at, bytes_wanted, is_uneven, IsObject}
use Rattle.om_prog.specs.View.{item_at, is_word as is_program_word}
use Rattle.om_resolve.specs.Names.{object_at}
use Rattle.om_resolve.specs.Program.{place_at, item_of, items_of, text_of, program_of}
use Rattle.om_resolve.proofs.ObjectFacts.{or_false, and_false, not_true, is_filled, is_even}

-- ---- lists by index

pub each_from_get : {X : Type 0} (f : ℕ → X) (k n i : ℕ) → i < n → slice_get (each_from f k n) i ≡ Some (f (k + i))
each_from_get f k zero i h = absurd (omega arith)
each_from_get f k (suc n) zero h = let e : k + 0 ≡ k = omega arith in ap (λ j. Some (f j)) (sym e)
each_from_get f k (suc n) (suc i) h = let e : k + 1 + i ≡ k + suc i = omega arith in each_from_get f (k + 1) n i (omega arith) ∙ ap (λ j. Some (f j)) e

pub each_get : {X : Type 0} (f : ℕ → X) (n i : ℕ) → i < n → slice_get (each f n) i ≡ Some (f i)
each_get f n i h = let e : 0 + i ≡ i = omega arith in each_from_get f 0 n i h ∙ ap (λ j. Some (f j)) e

pub each_from_past : {X : Type 0} (f : ℕ → X) (k n i : ℕ) → n ≤ i → slice_get (each_from f k n) i ≡ None
each_from_past f k zero i h = refl
each_from_past f k (suc n) zero h = absurd (omega arith)
each_from_past f k (suc n) (suc i) h = each_from_past f (k + 1) n i (omega arith)

-- an item that is there has its index below the length, and is that of the function
pub each_inside : {X : Type 0} (f : ℕ → X) (n i : ℕ) (x : X) → slice_get (each f n) i ≡ Some x → (i < n) × (f i ≡ x)
each_inside f n i x h = by_test (nat_lt i n) refl
  where
    by_test : (b : Bool) → nat_lt i n ≡ b → (i < n) × (f i ≡ x)
    by_test true e =
        let k : i < n = ltb-true i n e in
        let s : Some (f i) ≡ Some x = sym (each_get f n i k) ∙ h in
        (k, cc)
    by_test false e =
        let k : n ≤ i = grind (arith, nat_tests) in
        let s : None ≡ Some x = sym (each_from_past f 0 n i k) ∙ h in
        absurd cc

-- ---- sections by number

-- a section that is found stands at an index, and has the number
pub record FoundAt (p : Parts) (n : ℕ) (s : Section) : Type 0 where
  pub index : ℕ
  pub below : index < length p.sections
  pub here : section_at p index ≡ s
  pub number : s.number ≡ n

found_from : (n : ℕ) (xs : List Section) (s : Section) → find (λ t. t.number == n) xs ≡ Some s → (a : ℕ) × (a < length xs) × (slice_index_or xs a no_section ≡ s) × (s.number ≡ n)
found_from n [] s h = cc
found_from n (x ∷ xs) s h = by_test (found_from n xs s) (x.number == n) refl h
  where
    by_test : (find (λ t. t.number == n) xs ≡ Some s → (a : ℕ) × (a < length xs) × (slice_index_or xs a no_section ≡ s) × (s.number ≡ n)) → (b : Bool) → (x.number == n) ≡ b → cond b (Some x) (find (λ t. t.number == n) xs) ≡ Some s → (a : ℕ) × (a < length (x ∷ xs)) × (slice_index_or (x ∷ xs) a no_section ≡ s) × (s.number ≡ n)
    by_test rest true e h =
        let same : x ≡ s = cc in
        (0, omega arith, same, subst (λ (t : Section). t.number ≡ n) same (eqb-true x.number n e))
    by_test rest false e h =
        let k = rest h in
        (suc k.0, omega (arith, k.1), k.2, k.3)

pub found_at : (p : Parts) (n : ℕ) (s : Section) → section_of p n ≡ Some s → FoundAt p n s
found_at p n s h = let k = found_from n p.sections s h in record { index = k.0; below = k.1; here = k.2; number = k.3 }

-- ---- words

-- the bytes and the size of a section that has bytes are as many, and a text's size is a multiple of 4
pub filled_is : (p : Parts) → IsObject p → (a : ℕ) → a < length p.sections → length (section_at p a).bytes ≡ bytes_wanted (section_at p a)
filled_is p o a la = eqb-true (length (section_at p a).bytes) (bytes_wanted (section_at p a)) (not_true (length (section_at p a).bytes == bytes_wanted (section_at p a)) (is_filled p o a la))

pub text_is_even : (p : Parts) → IsObject p → (s : Section) → section_of p 1 ≡ Some s → (s.size % 4 ≡ 0) × (length s.bytes ≡ s.size)
text_is_even p o s h =
    let f = found_at p 1 s h in
    let even = subst (λ t. is_uneven t ≡ false) f.here (is_even p o f.index f.below) in
    let filled = subst (λ (t : Section). length t.bytes ≡ bytes_wanted t) f.here (filled_is p o f.index f.below) in
    let first = or_false ((nat_lt 0 s.size && not (s.addr % 16 == 0)) || ((s.number == 1) && not (s.size % 4 == 0))) ((s.number == 13) && not (s.size % 8 == 0)) even in
    let second = or_false (nat_lt 0 s.size && not (s.addr % 16 == 0)) ((s.number == 1) && not (s.size % 4 == 0)) first.0 in
    let four = not_true (s.size % 4 == 0) (and_false (s.number == 1) (not (s.size % 4 == 0)) second.1 (ap (λ n. n == 1) f.number)) in
    let wanted : bytes_wanted s ≡ s.size = ap (λ n. cond (is_bss n) 0 s.size) f.number in
    (eqb-true (s.size % 4) 0 four, filled ∙ wanted)

word_inside : (t : Option Section) (off : ℕ) → word_in t off ≡ true → (s : Section) × (t ≡ Some s) × (off % 4 ≡ 0) × (off < s.size)
word_inside None off h = cc
word_inside (Some s) off h = by_test (off % 4 == 0) refl h
  where
    by_test : (b : Bool) → (off % 4 == 0) ≡ b → (b && nat_lt off s.size) ≡ true → (s' : Section) × (Some s ≡ Some s') × (off % 4 ≡ 0) × (off < s'.size)
    by_test true e h = (s, refl, eqb-true (off % 4) 0 e, ltb-true off s.size h)
    by_test false e h = cc

pub word_found : (p : Parts) (off : ℕ) → is_word p off ≡ true → (s : Section) × (section_of p 1 ≡ Some s) × (off % 4 ≡ 0) × (off < s.size)
word_found p off h = word_inside (section_of p 1) off h

module _ (objects : List Parts) where
  -- the text of an object that is there
  pub text_there : (obj : ℕ) → obj < length objects → slice_get (program_of objects).texts obj ≡ Some (text_of objects obj)
  unfolding program_of
  text_there obj h = each_get (text_of objects) (length objects) obj h

  -- and each word of it
  pub item_there : (obj : ℕ) (s : Section) (off : ℕ) → obj < length objects → section_of (object_at objects obj) 1 ≡ Some s → off % 4 ≡ 0 → off / 4 < s.size / 4 → item_at (program_of objects) (place_at obj off) ≡ Some (item_of objects obj s (off / 4))
  unfolding text_of
  item_there obj s off ho hs even below =
      let test : (off % 4 == 0) ≡ true = ap (λ n. n == 0) even in
      rw test
      (ap (λ t. option_and_then (λ text. slice_get text (off / 4)) t) (text_there obj ho)
      ∙ ap (λ (o : Option Section). slice_get (items_of objects obj o) (off / 4)) hs
      ∙ each_get (item_of objects obj s) (s.size / 4) (off / 4) below)

  pub word_there : (obj off : ℕ) → obj < length objects → IsObject (object_at objects obj) → is_word (object_at objects obj) off ≡ true → is_program_word (program_of objects) (place_at obj off) ≡ true
  word_there obj off ho o h =
      let w = word_found (object_at objects obj) off h in
      let even = text_is_even (object_at objects obj) o w.0 w.1 in
      let four = even.0 in
      ap is_some (item_there obj w.0 off ho w.1 w.2 (omega (arith, w.2, w.3, four)))
