-- What is read of a file that breaks no rule is a valid image.
use Rattle.std.proofs.Common.{◌≡◌, ◌<◌, ◌≤◌, ◌+◌, ◌*◌, ◌/◌, ◌%◌, ◌^◌, ℕ, zero, suc, Bool, true, false, List, [], ◌∷◌, length, get_or, take, drop, lit<, refl, sym, ap, ◌∙◌, subst, arith}
use Rattle.std.specs.Prelude.{All, sum_by, slice_index, slice_index_or, ◌&&◌, ◌==◌, is_some, is_none, if◌then◌else◌, nat_lt, Option, Some, None}
use Rattle.std.proofs.lemmas.List.Sums.{sum_by-append}
use Rattle.std.proofs.lemmas.List.{length-take}
use Rattle.byteorder.specs.Numbers.{little_from-lt}
use Rattle.om_fields.specs.Bytes.{words_at}
use Rattle.om_fields.specs.Places.{number_at, bytes_at, each}
use Rattle.om_fields.proofs.Each.{each_from-snoc, each_from-get, each_from-length}
use Rattle.om_fields.proofs.Numbers.{length-words_at}
use Rattle.om_isa.specs.Words.{instr_of}
use Rattle.om_image.specs.declared.image.Image.{Image}
use Rattle.om_image.specs.declared.map.Map.{Map}
use Rattle.om_image.specs.declared.map.Region.TheVariants.{Sec, Common, Stack}
use Rattle.om_image.specs.declared.map.Target.{Target}
use Rattle.om_image.specs.declared.map.Target.TheVariants.{Num, Ptr, Code}
use Rattle.om_image.specs.declared.part.Part.TheVariants.{Object, Slot, Extent, Word}
use Rattle.om_image.specs.Layout.{text_base, text_limit, data_limit}
use Rattle.om_image.specs.Written.{slot_count}
use Rattle.om_image.specs.MapFields.{sum_below, objects_in, tables_in, slots_in, slots_of, slots_before, slots_at, tables_at as tables_start, regions_in, regions_at, words_in, words_at as words_start, is_map, map_of, object_at, slot_at, table_at, map_region_at, source_at, region_by, code_place, region_at, is_region, is_fine, is_fine_slot, is_fine_region}
use Rattle.om_image.specs.Rules.{section_size, section_place, section_bytes, is_uneven, is_entry, is_unreadable, image_of}
use Rattle.om_image.specs.Shapes.{IsReadable}
use Rattle.om_image.specs.Valid.{IsInMap, IsSlot, IsMap, IsValidImage}
use Rattle.om_image.proofs.Below.{all_each, sum_above}
use Rattle.om_image.proofs.Deciding.{both_of, neither_of, not_false, lt_of, not_lt_of, le_of, eq_of}
use Rattle.om_image.proofs.MapFacts.{map_facts}

-- ---- lists of what stands at each index

pub all_each_of : {X : Type 0} (P : X → Type 0) (f : ℕ → X) (n : ℕ) → ((j : ℕ) → j < n → P (f j)) → All P (each f n)
all_each_of {X} P f n h = λ k d b.
    let e = each_from-length f 0 n in
    let below : k < n = omega (arith, b, e) in
    let z : 0 + k ≡ k = omega arith in
    subst P (sym (each_from-get f 0 n k d below ∙ ap f z)) (h k below)

pub all_words : (P : ℕ → Type 0) (place n : ℕ) (b : List ℕ) → ((j : ℕ) → j < n → P (number_at b (place + 4 * j) 4))
    → (k d : ℕ) → k < length (words_at place n b) → P (slice_index_or (words_at place n b) k d)
all_words P place zero b h k d below = absurd (omega (arith, below))
all_words P place (suc n) b h zero d below =
    let e : place + 4 * 0 ≡ place = omega arith in
    subst P (ap (λ (q : ℕ). number_at b q 4) e) (h 0 (omega arith))
all_words P place (suc n) b h (suc k) d below =
    all_words P (place + 4) n b
    (λ j c. let e : place + 4 * suc j ≡ place + 4 + 4 * j = omega arith in subst P (ap (λ (q : ℕ). number_at b q 4) e) (h (suc j) (omega arith)))
    k d (omega (arith, below))

pub sum_each : {X : Type 0} (f : X → ℕ) (g : ℕ → X) (n : ℕ) → sum_by f (each g n) ≡ sum_below (λ k. f (g k)) n
sum_each f g zero = refl
sum_each {X} f g (suc n) =
    let e = sum_by-append f (each g n) (g (0 + n) ∷ []) in
    let s = sum_each f g n in
    let z : 0 + n ≡ n = omega arith in
    let last : sum_by f (g (0 + n) ∷ []) ≡ f (g n) = ap (λ (i : ℕ). sum_by f (g i ∷ [])) z ∙ omega arith in
    ap (sum_by f) (each_from-snoc g 0 n) ∙ omega (arith, e, s, last)

pub same_sum : (f g : ℕ → ℕ) (n : ℕ) → ((k : ℕ) → f k ≡ g k) → sum_below f n ≡ sum_below g n
same_sum f g zero h = refl
same_sum f g (suc n) h = let e = same_sum f g n h in let d = h n in omega (arith, e, d)

-- ---- numbers of bytes

abbrev pub IsSmall : List ℕ → Type 0
IsSmall b = (k : ℕ) → get_or b k 0 < 256

small_tail : (x : ℕ) (b : List ℕ) → IsSmall (x ∷ b) → IsSmall b
small_tail x b h = λ k. h (suc k)

small_drop : (n : ℕ) (b : List ℕ) → IsSmall b → IsSmall (drop n b)
small_drop zero b h = h
small_drop (suc n) [] h = λ k. lit< tt
small_drop (suc n) (x ∷ b) h = small_drop n b (small_tail x b h)

small_take : (n : ℕ) (b : List ℕ) → IsSmall b → (k : ℕ) → get_or (take n b) k 0 < 256
small_take zero b h k = lit< tt
small_take (suc n) [] h k = lit< tt
small_take (suc n) (x ∷ b) h zero = h 0
small_take (suc n) (x ∷ b) h (suc k) = small_take n b (small_tail x b h) k

small_part : (at n : ℕ) (file : List ℕ) → IsSmall file → IsSmall (bytes_at file at n)
small_part at n file h = small_take n (drop at file) (small_drop at file h)

below_32 : (b : List ℕ) (at : ℕ) → IsSmall b → number_at b at 4 < 2 ^ 32
below_32 b at h = little_from-lt at 4 b h

-- ---- what stands in a map

region_fine : (kind name number byte : ℕ) → is_region kind number ≡ true → IsInMap (region_by kind name byte)
region_fine kind name number byte h = by_kind (kind == 1) (kind == 2) h
  where
    by_kind : (one two : Bool) → (if one then nat_lt number 256 else two && (number == 0)) ≡ true
        → IsInMap (if one then Sec name byte else if two then Common name else Stack)
    by_kind true two h = tt
    by_kind false true h = tt
    by_kind false false h = cc

slot_kind : (a c x y z : Bool) (number code pointer : Target) → (if a then x else if c then y else z) ≡ true → IsSlot number → IsSlot code
    → (z ≡ true → IsSlot pointer) → IsSlot (if a then number else if c then code else pointer)
slot_kind true c x y z number code pointer h n k r = n
slot_kind false true x y z number code pointer h n k r = k
slot_kind false false x y z number code pointer h n k r = r h

slot_fine : (b : List ℕ) (at : ℕ) → is_fine_slot b at ≡ true → IsSlot (slot_at b at)
slot_fine b at h =
    let kind = number_at b at 4 in
    let name = number_at b (at + 4) 4 in
    let number = number_at b (at + 8) 4 in
    let off = number_at b (at + 16) 8 in
    slot_kind (kind == 0) (kind == 3) ((name == 0) && (number == 0)) ((number == 0) && nat_lt off (2 ^ 32)) (is_region kind number)
    (Num off) (Code (code_place name (number_at b (at + 16) 4))) (Ptr (region_at b at) off) (both_of _ _ h).1 tt tt
    (λ e. region_fine kind name number (slice_index b (at + 8)) e)

extent_fine : (b : List ℕ) (at : ℕ) → is_fine_region b at ≡ true → IsInMap (region_at b at)
extent_fine b at h =
    region_fine (number_at b at 4) (number_at b (at + 4) 4) (number_at b (at + 8) 4) (slice_index b (at + 8)) (both_of _ _ h).1

slots_fine : (b : List ℕ) (k : ℕ) → k < tables_in b → ((j : ℕ) → j < slots_in b → is_fine Slot b (slots_at b) 0 j ≡ true)
    → All IsSlot (table_at b k).slots
slots_fine b k below h =
    all_each_of IsSlot (λ j. slot_at b (slots_at b + 24 * slots_before b k + 24 * j)) (slots_of b k)
    (λ j c. let above = sum_above (slots_of b) (tables_in b) k below in
    let e : slots_at b + 24 * (slots_before b k + j) ≡ slots_at b + 24 * slots_before b k + 24 * j = omega arith in
    subst (λ (at : ℕ). IsSlot (slot_at b at)) e
    (slot_fine b (slots_at b + 24 * (slots_before b k + j)) (h (slots_before b k + j) (omega (arith, above, c)))))

slots_are : (b : List ℕ) → slot_count (each (table_at b) (tables_in b)) ≡ slots_in b
slots_are b = sum_each (λ t. length t.slots) (table_at b) (tables_in b) ∙ same_sum (λ k. length (table_at b k).slots) (slots_of b) (tables_in b)
    (λ k. each_from-length (λ j. slot_at b (slots_at b + 24 * slots_before b k + 24 * j)) 0 (slots_of b k))

few : (b : List ℕ) (k : ℕ) → IsSmall b → length (table_at b k).slots < 2 ^ 32
few b k small =
    let e = each_from-length (λ j. slot_at b (slots_at b + 24 * slots_before b k + 24 * j)) 0 (slots_of b k) in
    let f = below_32 b (tables_start b + 16 * k + 8) small in
    omega (arith, e, f)

pub record MapTests (count : ℕ) (m : Map) : Type 0 where
  pub total : sum_by (λ o. o.words) m.objects ≡ length m.words
  pub objects : All (λ o. o.table < length m.tables) m.objects
  pub slots : All (λ t. All IsSlot t.slots) m.tables
  pub regions : All (λ r. IsInMap r.region) m.regions
  pub words : All (λ w. w.position < (if w.kept then count else count + 1)) m.words

-- the map of bytes that are one
pub map_tests : (count : ℕ) (b : List ℕ) → is_map count b ≡ true → MapTests count (map_of b)
map_tests count b h =
    let facts = map_facts count b h in
    let tables = each_from-length (table_at b) 0 (tables_in b) in
    let words = each_from-length (λ k. source_at b (words_start b + 8 * k)) 0 (words_in b) in
    record {
      total = sum_each (λ o. o.words) (λ k. object_at b (24 + 8 * k)) (objects_in b) ∙ facts.total ∙ sym words;
      objects = all_each_of (λ o. o.table < length (each (table_at b) (tables_in b))) (λ k. object_at b (24 + 8 * k)) (objects_in b)
          (λ k c. let e = lt_of _ _ (all_each (is_fine Object b 24 (tables_in b)) (objects_in b) facts.objects k c) in omega (arith, e, tables));
      slots = all_each_of (λ t. All IsSlot t.slots) (table_at b) (tables_in b)
          (λ k c. slots_fine b k c (all_each (is_fine Slot b (slots_at b) 0) (slots_in b) facts.slots));
      regions = all_each_of (λ r. IsInMap r.region) (λ k. map_region_at b (regions_at b + 32 * k)) (regions_in b)
          (λ k c. extent_fine b (regions_at b + 32 * k) (all_each (is_fine Extent b (regions_at b) 0) (regions_in b) facts.regions k c));
      words = all_each_of (λ w. w.position < (if w.kept then count else count + 1)) (λ k. source_at b (words_start b + 8 * k)) (words_in b)
          (λ k c. lt_of _ _ (all_each (is_fine Word b (words_start b) count) (words_in b) facts.words k c));
    }

pub map_fine : (count : ℕ) (b : List ℕ) → is_map count b ≡ true → IsSmall b → length b < 2 ^ 63 → IsMap count (map_of b)
map_fine count b h small short =
    let tests = map_tests count b h in
    let objects = each_from-length (λ k. object_at b (24 + 8 * k)) 0 (objects_in b) in
    let tables = each_from-length (table_at b) 0 (tables_in b) in
    let regions = each_from-length (λ k. map_region_at b (regions_at b + 32 * k)) 0 (regions_in b) in
    let words = each_from-length (λ k. source_at b (words_start b + 8 * k)) 0 (words_in b) in
    let n_objects = below_32 b 8 small in
    let n_tables = below_32 b 12 small in
    let n_regions = below_32 b 16 small in
    let n_words = below_32 b 20 small in
    let slots : slot_count (each (table_at b) (tables_in b)) ≡ slots_in b = slots_are b in
    let ends = (map_facts count b h).ends in
    record {
      few_objects = omega (arith, objects, n_objects);
      few_tables = omega (arith, tables, n_tables);
      few_slots = all_each_of (λ t. length t.slots < 2 ^ 32) (table_at b) (tables_in b) (λ k c. few b k small);
      few_regions = omega (arith, regions, n_regions);
      few_words = omega (arith, words, n_words);
      fits = omega (arith, objects, tables, regions, words, slots, ends, short);
      total = tests.total;
      objects = tests.objects;
      slots = tests.slots;
      regions = tests.regions;
      words = tests.words;
    }

-- ---- the image

pub even : (size : ℕ) → is_uneven size ≡ false → (4 * (size / 4) ≡ size) × (size ≤ text_limit)
even size h =
    let e = neither_of _ _ h in
    let f = eq_of (size % 4) 0 (not_false (size % 4 == 0) e.0) in
    let g = not_lt_of text_limit size e.1 in
    (omega (arith, f), g)

pub some_words : (size e : ℕ) → is_entry size e ≡ true → 0 < size
some_words size e h =
    let a = both_of _ _ h in
    let b = both_of _ _ a.0 in
    let low = le_of text_base e b.1 in
    let high = lt_of e (text_base + size) a.1 in
    omega (arith, low, high)

pub readable : (text : List ℕ) (j : ℕ) → is_unreadable text j ≡ false → is_some (instr_of (number_at text (0 + 4 * j) 4)) ≡ true
readable text j h =
    let e : 0 + 4 * j ≡ 4 * j = omega arith in
    ap (λ (q : ℕ). is_some (instr_of (number_at text q 4))) e ∙ by_option (instr_of (number_at text (4 * j) 4)) h
  where
    by_option : {X : Type 0} (o : Option X) → is_none o ≡ false → is_some o ≡ true
    by_option None h = cc
    by_option (Some x) h = refl

image_fine : (file : List ℕ) → IsReadable file → length (section_bytes file 3) < 2 ^ 63 → IsSmall file → IsValidImage (image_of file)
image_fine file r short small =
    let size = section_size file 0 in
    let text = section_bytes file 0 in
    let placed0 = neither_of _ _ (r.placed 0 (omega arith)) in
    let placed1 = neither_of _ _ (r.placed 1 (omega arith)) in
    let fits = even size placed0.1 in
    let length_is = length-words_at 0 (size / 4) text in
    let bytes_are = length-take (section_size file 1) (drop (section_place file 1) file) in
    let most = not_lt_of data_limit (section_size file 1 + section_size file 2) placed1.1 in
    let four : 4 * length (words_at 0 (size / 4) text) ≡ size = let e = fits.0 in omega (arith, length_is, e) in
    record {
      text = let f = fits.1 in omega (arith, four, f);
      bytes = omega (arith, bytes_are, most);
      entry = ap (λ (n : ℕ). is_entry n (number_at file 56 8)) four ∙ r.entry;
      map = subst (λ (n : ℕ). IsMap n (map_of (section_bytes file 3))) (sym length_is)
          (map_fine (size / 4) (section_bytes file 3) r.map (small_part (section_place file 3) (section_size file 3) file small) short);
      words = all_words (λ w. is_some (instr_of w) ≡ true) 0 (size / 4) text (λ j c. readable text j (r.words j c));
    }

pub valid_image : (file : List ℕ) (i : Image) → IsReadable file → length (section_bytes file 3) < 2 ^ 63 → IsSmall file → i ≡ image_of file
    → IsValidImage i
valid_image file i r short small is = subst IsValidImage (sym is) (image_fine file r short small)
