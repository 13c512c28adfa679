-- The parts of a file stand at places that fit in 64 bits.
use Rattle.std.proofs.Common.{◌≡◌, ◌≢◌, ℕ, zero, suc, ◌+◌, ◌*◌, ◌^◌, ◌<◌, ◌≤◌, Bool, true, false, ◌||◌, ◌==◌, List, [], ◌∷◌, length, take, drop, refl, ap, sym, subst, arith}
use Rattle.std.proofs.lemmas.Bool.{eqb-true}
use Rattle.std.proofs.lemmas.Bool.Decides.{nat_tests}
use Rattle.std.specs.Prelude.{Option, Some, None, is_some, unwrap_or, slice_index, slice_index_or, not, if◌then◌else◌}
use Rattle.byteorder.specs.Numbers.{little_from-lt}
use Rattle.om_fields.specs.Places.{number_at, is_past, picked_from, put_if}
use Rattle.om_fields.proofs.Each.{each_from-length}
use Rattle.om_fields.specs.Sections.{is_bss}
use Rattle.om_fields.specs.HeaderFields.{section_count, header_at, head_of, number_of}
use Rattle.om_symtab.specs.Symbols.{symbol_count, symbols_at, symbols_place, symbols_of, symbol_of, strings_at, strings_size, HasTables}
use Rattle.om_reloc.specs.Relocs.{reloc_of, relocs_of}
use Rattle.om_object.specs.declared.parts.Section.{Section}
use Rattle.om_object.specs.declared.origin.Origin.{Origin}
use Rattle.om_object.specs.Rules.{section_at, no_section}
use Rattle.om_object.specs.Spots.{origin_at, no_origin}
use Rattle.om_object.specs.Passes.{FitsAt, IsPlaced}
use Rattle.om_object.specs.File.{is_loaded, section_of_head, bytes_of_section, origin_of, parts_of, origins_of, sym_at, HasSections}
use Rattle.om_object.proofs.HeadsAt.{section-inside, table-inside}

-- a range that does not pass the end ends where 64 bits can say
past-fits : (len at size : ℕ) → len < 2 ^ 64 → at < 2 ^ 64 → is_past len at size ≡ false → at + size < 2 ^ 64
past-fits len at size h g e = grind (arith, nat_tests)

length-take : (n : ℕ) (xs : List ℕ) → length (take n xs) ≤ n
length-take zero xs = omega arith
length-take (suc n) [] = omega arith
length-take (suc n) (x ∷ xs) = let f = length-take n xs in omega arith

-- what two lists hold at one index that were picked by one test
pub record IsPairAt {X Y : Type 0} (test : ℕ → Bool) (f : ℕ → X) (g : ℕ → Y) (low high : ℕ) (x : X) (y : Y) : Type 0 where
  pub k : ℕ
  pub above : low ≤ k
  pub below : k < high
  pub holds : test k ≡ true
  pub first : x ≡ f k
  pub second : y ≡ g k

pair-later : {X Y : Type 0} {test : ℕ → Bool} {f : ℕ → X} {g : ℕ → Y} {x : X} {y : Y} (k n : ℕ) → IsPairAt test f g (k + 1) (k + 1 + n) x y → IsPairAt test f g k (k + suc n) x y
pair-later k n r = record {
  k = r.k;
  above = let h = r.above in omega (arith, h);
  below = let h = r.below in omega (arith, h);
  holds = r.holds;
  first = r.first;
  second = r.second;
}

pair-by : {X Y : Type 0} (test : ℕ → Bool) (f : ℕ → X) (g : ℕ → Y) (d : X) (e : Y) (k n a : ℕ) (b : Bool) → test k ≡ b
    → ((c : ℕ) → c < length (picked_from test f (k + 1) n) → IsPairAt test f g (k + 1) (k + 1 + n) (slice_index_or (picked_from test f (k + 1) n) c d) (slice_index_or (picked_from test g (k + 1) n) c e))
    → a < length (put_if b (f k) (picked_from test f (k + 1) n))
    → IsPairAt test f g k (k + suc n) (slice_index_or (put_if b (f k) (picked_from test f (k + 1) n)) a d) (slice_index_or (put_if b (g k) (picked_from test g (k + 1) n)) a e)
pair-by test f g d e k n zero true t ih h = record { k = k; above = omega arith; below = omega arith; holds = t; first = refl; second = refl }
pair-by test f g d e k n (suc a) true t ih h = pair-later k n (ih a (omega arith))
pair-by test f g d e k n a false t ih h = pair-later k n (ih a h)

pub pair-at : {X Y : Type 0} (test : ℕ → Bool) (f : ℕ → X) (g : ℕ → Y) (d : X) (e : Y) (k n a : ℕ) → a < length (picked_from test f k n)
    → IsPairAt test f g k (k + n) (slice_index_or (picked_from test f k n) a d) (slice_index_or (picked_from test g k n) a e)
pair-at test f g d e k zero a h = absurd (omega arith)
pair-at test f g d e k (suc n) a h = pair-by test f g d e k n a (test k) refl (λ c i. pair-at test f g d e (k + 1) n c i) h

length-by : {X Y : Type 0} (b : Bool) (x : X) (y : Y) (xs : List X) (ys : List Y) → length xs ≡ length ys → length (put_if b x xs) ≡ length (put_if b y ys)
length-by true x y xs ys e = ap (λ (n : ℕ). suc n) e
length-by false x y xs ys e = e

pub same-lengths : {X Y : Type 0} (test : ℕ → Bool) (f : ℕ → X) (g : ℕ → Y) (k n : ℕ) → length (picked_from test f k n) ≡ length (picked_from test g k n)
same-lengths test f g k zero = refl
same-lengths test f g k (suc n) = length-by (test k) (f k) (g k) (picked_from test f (k + 1) n) (picked_from test g (k + 1) n) (same-lengths test f g (k + 1) n)

-- a loaded section has a number
pub number-by : (o : Option ℕ) → is_some o ≡ true → o ≡ Some (unwrap_or o 0)
number-by None e = cc
number-by (Some n) e = refl

bytes-length : (b : Bool) (n at : ℕ) (file : List ℕ) → length (if b then [] else take n (drop at file)) ≤ n
bytes-length true n at file = omega arith
bytes-length false n at file = length-take n (drop at file)

no-bytes : (b : Bool) (n at : ℕ) (file : List ℕ) → b ≡ true → length (if b then [] else take n (drop at file)) ≡ 0
no-bytes b n at file e = rw e refl

last-of : (x d : Bool) → (x || d) ≡ false → d ≡ false
last-of true d e = cc
last-of false d e = e

symbols-named : (file : List ℕ) (at : ℕ) → (symbol_count file at == 0) ≡ false → at ≢ 0
symbols-named file at e z = let f : (symbol_count file 0 == 0) ≡ false = subst (λ (x : ℕ). (symbol_count file x == 0) ≡ false) z e in cc

-- the symbols of a file whose tables lie in it
symbols-fit : (file : List ℕ) (at : ℕ) → length file < 2 ^ 64 → ((k : ℕ) → slice_index file k < 256) → HasTables file at → (t : Bool) → (symbol_count file at == 0) ≡ t
    → (if t then 0 else symbols_at file at) + 24 * symbol_count file at < 2 ^ 64
symbols-fit file at small bytes tables true e = let none : symbol_count file at ≡ 0 = eqb-true (symbol_count file at) 0 e in omega (arith, none)
symbols-fit file at small bytes tables false e =
    let past = last-of (is_past (length file) at 144 || not (number_at file at 2 == 0x1992) || is_past (length file) (strings_at file at) (strings_size file at))
    (is_past (length file) (symbols_at file at) (24 * symbol_count file at)) (tables.kept (symbols-named file at e)) in
    past-fits (length file) (symbols_at file at) (24 * symbol_count file at) small (little_from-lt (at + 136) 8 file bytes) past

module _ (file : List ℕ) (small : length file < 2 ^ 63) (bytes : (k : ℕ) → slice_index file k < 256) (fits : HasSections file) where
  field-fits : (place : ℕ) → number_at file place 8 < 2 ^ 64
  field-fits place = little_from-lt place 8 file bytes

  words-fit : (k n : ℕ) (b : Bool) → is_bss n ≡ b → k < section_count file → number_of file k ≡ Some n
      → (head_of file k).bytes_at + length (bytes_of_section file n (head_of file k)) < 2 ^ 64
  words-fit k n true e h number =
      let none = no-bytes (is_bss n) (head_of file k).size (head_of file k).bytes_at file e in
      let f = field-fits (header_at k + 32) in
      omega (arith, none, f)
  words-fit k n false e h number =
      let inside = section-inside file k n fits h number e in
      let f = field-fits (header_at k + 32) in
      let end = past-fits (length file) (head_of file k).bytes_at (head_of file k).size (omega (arith, small)) f inside in
      let len = bytes-length (is_bss n) (head_of file k).size (head_of file k).bytes_at file in
      omega (arith, end, len)

  head-fits : (k : ℕ) → k < section_count file → is_loaded file k ≡ true → FitsAt (section_of_head file k) (origin_of file k)
  head-fits k h loaded =
      let number = number-by (number_of file k) loaded in
      let n : ℕ = unwrap_or (number_of file k) 0 in
      let table = table-inside file k n fits h number in
      let f = field-fits (header_at k + 40) in
      let end = past-fits (length file) (head_of file k).relocs_at (16 * (head_of file k).relocs) (omega (arith, small)) f table in
      let count : length (relocs_of file (head_of file k)) ≡ (head_of file k).relocs = each_from-length (reloc_of file (head_of file k)) 0 (head_of file k).relocs in
      record {
        relocs = omega (arith, end, count);
        words = words-fit k n (is_bss n) refl h number;
      }

  pub placed : HasTables file (sym_at file) → IsPlaced (parts_of file) (origins_of file)
  placed tables = record {
    sections = same-lengths (is_loaded file) (origin_of file) (section_of_head file) 0 (section_count file);
    each = λ a h. each-fits a h;
    symbols = symbols-here tables;
  }
    where
      symbols-here : HasTables file (sym_at file) → symbols_place file (sym_at file) + 24 * length (symbols_of file (sym_at file)) < 2 ^ 64
      symbols-here tables =
          subst (λ (n : ℕ). symbols_place file (sym_at file) + 24 * n < 2 ^ 64)
          (sym (each_from-length (symbol_of file (sym_at file)) 0 (symbol_count file (sym_at file))))
          (symbols-fit file (sym_at file) (omega (arith, small)) bytes tables (symbol_count file (sym_at file) == 0) refl)

      each-fits : (a : ℕ) → a < length (parts_of file).sections → FitsAt (section_at (parts_of file) a) (origin_at (origins_of file) a)
      each-fits a h =
          let pair = pair-at (is_loaded file) (section_of_head file) (origin_of file) no_section no_origin 0 (section_count file) a h in
          let below : pair.k < section_count file = let b = pair.below in omega (arith, b) in
          let here = head-fits pair.k below pair.holds in
          subst (λ (s : Section). FitsAt s (origin_at (origins_of file) a)) (sym pair.first)
          (subst (λ (o : Origin). FitsAt (section_of_head file pair.k) o) (sym pair.second) here)
