-- A written map is read as itself.
use Rattle.std.proofs.Common.{◌≡◌, ◌<◌, ◌≤◌, ◌+◌, ◌-◌, ◌*◌, ◌^◌, ℕ, zero, suc, Bool, true, false, List, [], ◌∷◌, ◌++◌, length, get_or, refl, sym, ap, ◌∙◌, subst, length-append, arith}
use native.Mathlib.Decide.{dec_lt}
use Rattle.std.specs.Prelude.{sum_by, flat_map, ◌==◌, nat_le, bytes_eq, if◌then◌else◌, slice_index_or}
use Rattle.std.proofs.lemmas.List.Sums.{sum_by-append}
use Rattle.byteorder.specs.Endian.{little_from}
use Rattle.byteorder.specs.Numbers.{little_number-reads_back}
use Rattle.om_fields.specs.Places.{number_at, bytes_at, each}
use Rattle.om_image.specs.declared.map.Target.{Target}
use Rattle.om_image.specs.declared.map.Target.TheVariants.{Num}
use Rattle.om_image.specs.declared.map.Region.TheVariants.{Stack}
use Rattle.om_image.specs.declared.map.MapObj.{MapObj}
use Rattle.om_image.specs.declared.map.MapTable.{MapTable}
use Rattle.om_image.specs.declared.map.MapRegion.{MapRegion}
use Rattle.om_image.specs.declared.map.MapWord.{MapWord}
use Rattle.om_image.specs.declared.map.Map.{Map}
use Rattle.om_image.specs.declared.part.Part.TheVariants.{Object, Table, Slot, Extent, Word}
use Rattle.om_image.specs.Written.{u32_bytes, mark, map_head, map_bytes, map_size, slot_count, slot_bytes, slots_bytes, object_bytes, table_bytes, region_bytes, source_bytes}
use Rattle.om_image.specs.MapFields.{objects_in, tables_in, regions_in, words_in, tables_at, slots_at, slots_of, slots_before, slots_in, regions_at, words_at, map_end, object_at, slot_at, table_at, map_region_at, source_at, map_of, is_fine_slot, is_fine, are_fine, object_words, is_marked, holds_tables, is_filled, has_fine_parts, is_map}
use Rattle.om_image.specs.Valid.{IsMap, IsMapInRange}
use Rattle.om_image.specs.RoundTrip.{HasMapWidths}
use Rattle.om_image.proofs.Deciding.{both, is_eq, is_lt, is_le}
use Rattle.om_image.proofs.Below.{all_true, sum_next}
use Rattle.om_image.proofs.Valid.{sum_each}
use Rattle.om_image.proofs.Items.{same_map}
use Rattle.om_image.proofs.Standing.{IsAt, whole, first_in, second_in, as_piece, at_place, number_in, bytes_in}
use Rattle.om_image.proofs.Pieces.{six_in, length_six, flat_end, item_in, each_all}
use Rattle.om_image.proofs.Spelled.{object_length, table_read, object_back, table_length, TableReads, table_reads, slot_length, SlotReads, slot_back, extent_length, extent_back, source_length, SourceReads, source_back}

same_table : (a b : ℕ) (xs ys : List Target) → a ≡ b → xs ≡ ys
    → (let t : MapTable = record { start = a; slots = xs } in let u : MapTable = record { start = b; slots = ys } in t ≡ u)
same_table a b xs ys h g = cc

-- what stands outside of lists
no_object : MapObj
no_object = record { words = 0; table = 0 }

no_table : MapTable
no_table = record { start = 0; slots = [] }

no_extent : MapRegion
no_extent = record { region = Stack; address = 0; size = 0 }

no_source : MapWord
no_source = record { old = 0; position = 0; kept = false }

-- ---- lengths

head_length : (o t r w : ℕ) → length (map_head o t r w) ≡ 24
unfolding map_head
head_length o t r w = refl

step_8 : (a j : ℕ) → a + 8 * (j + 1) ≡ a + 8 * j + 8
step_8 a j = omega arith

step_16 : (a j : ℕ) → a + 16 * (j + 1) ≡ a + 16 * j + 16
step_16 a j = omega arith

step_24 : (a j : ℕ) → a + 24 * (j + 1) ≡ a + 24 * j + 24
step_24 a j = omega arith

step_32 : (a j : ℕ) → a + 32 * (j + 1) ≡ a + 32 * j + 32
step_32 a j = omega arith

objects_length : (os : List MapObj) → length (flat_map object_bytes os) ≡ 8 * length os
objects_length os = let e = flat_end 8 object_bytes (λ j. 0 + 8 * j) object_length (step_8 0) os 0 in omega (arith, e)

tables_length : (ts : List MapTable) → length (flat_map table_bytes ts) ≡ 16 * length ts
tables_length ts = let e = flat_end 16 table_bytes (λ j. 0 + 16 * j) table_length (step_16 0) ts 0 in omega (arith, e)

slots_length : (xs : List Target) → length (flat_map slot_bytes xs) ≡ 24 * length xs
slots_length xs = let e = flat_end 24 slot_bytes (λ j. 0 + 24 * j) slot_length (step_24 0) xs 0 in omega (arith, e)

extents_length : (rs : List MapRegion) → length (flat_map region_bytes rs) ≡ 32 * length rs
extents_length rs = let e = flat_end 32 region_bytes (λ j. 0 + 32 * j) extent_length (step_32 0) rs 0 in omega (arith, e)

sources_length : (ws : List MapWord) → length (flat_map source_bytes ws) ≡ 8 * length ws
sources_length ws = let e = flat_end 8 source_bytes (λ j. 0 + 8 * j) source_length (step_8 0) ws 0 in omega (arith, e)

count_cons : (t : MapTable) (ts : List MapTable) → slot_count (t ∷ ts) ≡ length t.slots + slot_count ts
count_cons t ts =
    let e : slot_count (t ∷ ts) ≡ slot_count (t ∷ []) + slot_count ts = sum_by-append (λ (u : MapTable). length u.slots) (t ∷ []) ts in
    let f : slot_count (t ∷ []) ≡ length t.slots = omega arith in
    omega (arith, e, f)

all_slots_length : (ts : List MapTable) → length (flat_map slots_bytes ts) ≡ 24 * slot_count ts
all_slots_length [] = refl
all_slots_length (t ∷ ts) =
    let e = all_slots_length ts in
    let f = slots_length t.slots in
    let g = length-append (slots_bytes t) (flat_map slots_bytes ts) in
    let c = count_cons t ts in
    omega (arith, e, f, g, c)

map_is : (m : Map) → map_bytes m
    ≡ map_head (length m.objects) (length m.tables) (length m.regions) (length m.words)
    ++ flat_map object_bytes m.objects ++ flat_map table_bytes m.tables ++ flat_map slots_bytes m.tables
    ++ flat_map region_bytes m.regions ++ flat_map source_bytes m.words
unfolding map_bytes
map_is m = refl

pub map_length : (m : Map) → length (map_bytes m) ≡ map_size m
map_length m =
    let head = map_head (length m.objects) (length m.tables) (length m.regions) (length m.words) in
    let e = ap length (map_is m) in
    let l = length_six head (flat_map object_bytes m.objects) (flat_map table_bytes m.tables) (flat_map slots_bytes m.tables)
    (flat_map region_bytes m.regions) (flat_map source_bytes m.words) in
    let lh = head_length (length m.objects) (length m.tables) (length m.regions) (length m.words) in
    let lo = objects_length m.objects in
    let lt = tables_length m.tables in
    let ls = all_slots_length m.tables in
    let lr = extents_length m.regions in
    let lw = sources_length m.words in
    omega (arith, e, l, lh, lo, lt, ls, lr, lw)

-- ---- where the parts stand

pub record MapStands (b : List ℕ) (m : Map) : Type 0 where
  pub head : IsAt b (map_head (length m.objects) (length m.tables) (length m.regions) (length m.words)) 0
  pub objects : IsAt b (flat_map object_bytes m.objects) 24
  pub tables : IsAt b (flat_map table_bytes m.tables) (24 + 8 * length m.objects)
  pub slots : IsAt b (flat_map slots_bytes m.tables) (24 + 8 * length m.objects + 16 * length m.tables)
  pub regions : IsAt b (flat_map region_bytes m.regions) (24 + 8 * length m.objects + 16 * length m.tables + 24 * slot_count m.tables)
  pub words : IsAt b (flat_map source_bytes m.words)
      (24 + 8 * length m.objects + 16 * length m.tables + 24 * slot_count m.tables + 32 * length m.regions)

map_stands : (m : Map) → MapStands (map_bytes m) m
map_stands m =
    let head = map_head (length m.objects) (length m.tables) (length m.regions) (length m.words) in
    let at = six_in head (flat_map object_bytes m.objects) (flat_map table_bytes m.tables) (flat_map slots_bytes m.tables)
    (flat_map region_bytes m.regions) (flat_map source_bytes m.words) 0 (as_piece (whole (map_bytes m)) (map_is m)) in
    let lh = head_length (length m.objects) (length m.tables) (length m.regions) (length m.words) in
    let lo = objects_length m.objects in
    let lt = tables_length m.tables in
    let ls = all_slots_length m.tables in
    let lr = extents_length m.regions in
    record {
      head = at.five.first;
      objects = at_place at.five.second (omega (arith, lh));
      tables = at_place at.five.third (omega (arith, lh, lo));
      slots = at_place at.five.fourth (omega (arith, lh, lo, lt));
      regions = at_place at.five.fifth (omega (arith, lh, lo, lt, ls));
      words = at_place at.sixth (omega (arith, lh, lo, lt, ls, lr));
    }

-- ---- the counts

objects_there : (o t r w : ℕ) → o < 2 ^ 32 → little_from 8 4 (map_head o t r w) ≡ o
unfolding map_head
objects_there o t r w h = little_number-reads_back 4 o [] h

tables_there : (o t r w : ℕ) → t < 2 ^ 32 → little_from 12 4 (map_head o t r w) ≡ t
unfolding map_head
tables_there o t r w h = little_number-reads_back 4 t [] h

regions_there : (o t r w : ℕ) → r < 2 ^ 32 → little_from 16 4 (map_head o t r w) ≡ r
unfolding map_head
regions_there o t r w h = little_number-reads_back 4 r [] h

words_there : (o t r w : ℕ) → w < 2 ^ 32 → little_from 20 4 (map_head o t r w) ≡ w
unfolding map_head
words_there o t r w h = little_number-reads_back 4 w [] h

mark_first : (o t r w : ℕ) → bytes_at (map_head o t r w) 0 8 ≡ mark
unfolding map_head
mark_first o t r w = refl

mark_is : (o t r w : ℕ) → map_head o t r w ≡ mark ++ (u32_bytes o ++ u32_bytes t ++ u32_bytes r ++ u32_bytes w)
unfolding map_head
mark_is o t r w = refl

pub record CountsRead (b : List ℕ) (m : Map) : Type 0 where
  pub marked : bytes_at b 0 8 ≡ mark
  pub objects : objects_in b ≡ length m.objects
  pub tables : tables_in b ≡ length m.tables
  pub regions : regions_in b ≡ length m.regions
  pub words : words_in b ≡ length m.words

counts_read : {b : List ℕ} (m : Map) → MapStands b m → IsMapInRange m → CountsRead b m
counts_read {b} m s fine =
    let o = length m.objects in
    let t = length m.tables in
    let r = length m.regions in
    let w = length m.words in
    let long = head_length o t r w in
    record {
      marked = bytes_in (first_in mark (u32_bytes o ++ u32_bytes t ++ u32_bytes r ++ u32_bytes w) (as_piece s.head (mark_is o t r w)));
      objects = number_in s.head 8 4 8 refl (omega (arith, long)) ∙ objects_there o t r w fine.few_objects;
      tables = number_in s.head 12 4 12 refl (omega (arith, long)) ∙ tables_there o t r w fine.few_tables;
      regions = number_in s.head 16 4 16 refl (omega (arith, long)) ∙ regions_there o t r w fine.few_regions;
      words = number_in s.head 20 4 20 refl (omega (arith, long)) ∙ words_there o t r w fine.few_words;
    }

position_below : (k : Bool) (p : ℕ) → p < 2 ^ 31 → p < (if k then 2 ^ 31 else 2 ^ 31 + 1)
position_below true p h = h
position_below false p h = omega (arith, h)

-- ---- the tables and their slots

module _ (b : List ℕ) (m : Map) (s : MapStands b m) (range : IsMapInRange m) (widths : HasMapWidths m) where
  counts : CountsRead b m
  counts = counts_read m s range

  tables_start : tables_at b ≡ 24 + 8 * length m.objects
  tables_start = let e = counts.objects in omega (arith, e)

  slots_start : slots_at b ≡ 24 + 8 * length m.objects + 16 * length m.tables
  slots_start = let e = counts.objects in let f = counts.tables in omega (arith, e, f)

  -- the k-th table's header
  header : (k : ℕ) → k < length m.tables → TableReads b (tables_at b + 16 * k) (get_or m.tables k no_table)
  header k below =
      let e : 24 + 8 * length m.objects + 16 * (0 + k) ≡ tables_at b + 16 * k = let f = tables_start in omega (arith, f) in
      let z : 24 + 8 * length m.objects ≡ 24 + 8 * length m.objects + 16 * 0 = omega arith in
      table_reads (get_or m.tables k no_table)
      (at_place (item_in 16 table_bytes (λ j. 24 + 8 * length m.objects + 16 * j) table_length (step_16 (24 + 8 * length m.objects)) m.tables 0
      (at_place s.tables z) k no_table below) e)
      (widths.tables k no_table below).start (range.few_slots k no_table below)

  slots_are : (k : ℕ) → k < length m.tables → slots_of b k ≡ length (get_or m.tables k no_table).slots
  slots_are k below = (header k below).count

  -- the slots of the tables from the k-th on
  at_table : (ts : List MapTable) (k : ℕ) → IsAt b (flat_map slots_bytes ts) (slots_at b + 24 * slots_before b k)
      → ((j : ℕ) → j < length ts → slots_of b (k + j) ≡ length (get_or ts j no_table).slots)
      → (j : ℕ) → j < length ts → IsAt b (slots_bytes (get_or ts j no_table)) (slots_at b + 24 * slots_before b (k + j))
  at_table [] k h counted j below = absurd (omega (arith, below))
  at_table (t ∷ ts) k h counted zero below =
      let e : k ≡ k + 0 = omega arith in
      at_place (first_in (slots_bytes t) (flat_map slots_bytes ts) h) (ap (λ (i : ℕ). slots_at b + 24 * slots_before b i) e)
  at_table (t ∷ ts) k h counted (suc j) below =
      let e : k + 1 + j ≡ k + suc j = omega arith in
      let z : k + 0 ≡ k = omega arith in
      let c : slots_of b k ≡ length t.slots = ap (slots_of b) (sym z) ∙ counted 0 (omega arith) in
      let l = slots_length t.slots in
      let n = sum_next (slots_of b) k in
      at_place
      (at_table ts (k + 1) (second_in (slots_bytes t) (flat_map slots_bytes ts) (slots_at b + 24 * slots_before b (k + 1)) h (omega (arith, c, l, n)))
      (λ i d. let q : k + 1 + i ≡ k + suc i = omega arith in ap (slots_of b) q ∙ counted (suc i) (omega (arith, d))) j (omega (arith, below)))
      (ap (λ (i : ℕ). slots_at b + 24 * slots_before b i) e)

  table_slots : (k : ℕ) → k < length m.tables → IsAt b (slots_bytes (get_or m.tables k no_table)) (slots_at b + 24 * slots_before b k)
  table_slots k below =
      let z : 0 + k ≡ k = omega arith in
      let start : 24 + 8 * length m.objects + 16 * length m.tables ≡ slots_at b + 24 * slots_before b 0 = let e = slots_start in omega (arith, e) in
      at_place (at_table m.tables 0 (at_place s.slots start) (λ j d. let q : 0 + j ≡ j = omega arith in ap (slots_of b) q ∙ slots_are j d) k below)
      (ap (λ (i : ℕ). slots_at b + 24 * slots_before b i) z)

  -- one slot
  slot_reads : (k j : ℕ) → k < length m.tables → j < length (get_or m.tables k no_table).slots
      → SlotReads b (slots_at b + 24 * slots_before b k + 24 * j) (get_or (get_or m.tables k no_table).slots j (Num 0))
  slot_reads k j below inner =
      let t = get_or m.tables k no_table in
      let p = slots_at b + 24 * slots_before b k in
      let z : p ≡ p + 24 * 0 = omega arith in
      let e : p + 24 * (0 + j) ≡ p + 24 * j = omega arith in
      slot_back (get_or t.slots j (Num 0))
      (at_place (item_in 24 slot_bytes (λ i. p + 24 * i) slot_length (step_24 p) t.slots 0 (at_place (table_slots k below) z) j (Num 0) inner) e)
      ((widths.tables k no_table below).slots j (Num 0) inner) (range.slots k no_table below j (Num 0) inner)

  -- how many slots there are before a table, and in all
  counted_from : (ts : List MapTable) (k : ℕ) → ((j : ℕ) → j < length ts → slots_of b (k + j) ≡ length (get_or ts j no_table).slots)
      → slots_before b (k + length ts) ≡ slots_before b k + slot_count ts
  counted_from [] k h = let z : k + 0 ≡ k = omega arith in ap (slots_before b) z ∙ omega arith
  counted_from (t ∷ ts) k h =
      let z : k + 0 ≡ k = omega arith in
      let c : slots_of b k ≡ length t.slots = ap (slots_of b) (sym z) ∙ h 0 (omega arith) in
      let e : k + suc (length ts) ≡ k + 1 + length ts = omega arith in
      let more = counted_from ts (k + 1) (λ j d. let q : k + 1 + j ≡ k + suc j = omega arith in ap (slots_of b) q ∙ h (suc j) (omega (arith, d))) in
      let n = sum_next (slots_of b) k in
      let all = count_cons t ts in
      ap (slots_before b) e ∙ omega (arith, c, more, n, all)

  slots_counted : slots_in b ≡ slot_count m.tables
  slots_counted =
      let e = counted_from m.tables 0 (λ j d. let q : 0 + j ≡ j = omega arith in ap (slots_of b) q ∙ slots_are j d) in
      let z : 0 + length m.tables ≡ length m.tables = omega arith in
      ap (slots_before b) (counts.tables ∙ sym z) ∙ e ∙ omega arith

  -- every slot below a table's first, for the tables so far
  slots_fine : (k : ℕ) → k ≤ length m.tables → (i : ℕ) → i < slots_before b k → is_fine Slot b (slots_at b) 0 i ≡ true
  slots_fine zero within i below = absurd (omega (arith, below))
  slots_fine (suc k) within i below = by_place (dec_lt i (slots_before b k)) (λ h. slots_fine k (omega (arith, within)) i h) below
    where
      by_place : Dec (i < slots_before b k) → (i < slots_before b k → is_fine Slot b (slots_at b) 0 i ≡ true) → i < slots_before b k + slots_of b k
          → is_fine Slot b (slots_at b) 0 i ≡ true
      by_place (yes h) ih high = ih h
      by_place (no h) ih high =
          let inner : k < length m.tables = omega (arith, within) in
          let c = slots_are k inner in
          let e : slots_at b + 24 * slots_before b k + 24 * (i - slots_before b k) ≡ slots_at b + 24 * i = omega arith in
          subst (λ (at : ℕ). is_fine_slot b at ≡ true) e (slot_reads k (i - slots_before b k) inner (omega (arith, high, c))).fits

  -- ---- the other parts

  object_in : (k : ℕ) → k < length m.objects → IsAt b (object_bytes (get_or m.objects k no_object)) (24 + 8 * k)
  object_in k below =
      let e : 24 + 8 * (0 + k) ≡ 24 + 8 * k = omega arith in
      at_place (item_in 8 object_bytes (λ j. 24 + 8 * j) object_length (step_8 24) m.objects 0 s.objects k no_object below) e

  extents_start : 24 + 8 * length m.objects + 16 * length m.tables + 24 * slot_count m.tables ≡ regions_at b
  extents_start = let e = slots_start in let f = slots_counted in omega (arith, e, f)

  extent_in : (k : ℕ) → k < length m.regions → IsAt b (region_bytes (get_or m.regions k no_extent)) (regions_at b + 32 * k)
  extent_in k below =
      let e : regions_at b + 32 * (0 + k) ≡ regions_at b + 32 * k = omega arith in
      let z : 24 + 8 * length m.objects + 16 * length m.tables + 24 * slot_count m.tables ≡ regions_at b + 32 * 0 = let f = extents_start in omega (arith, f) in
      at_place (item_in 32 region_bytes (λ j. regions_at b + 32 * j) extent_length (step_32 (regions_at b)) m.regions 0 (at_place s.regions z) k no_extent below) e

  sources_start : 24 + 8 * length m.objects + 16 * length m.tables + 24 * slot_count m.tables + 32 * length m.regions ≡ words_at b
  sources_start = let e = extents_start in let f = counts.regions in omega (arith, e, f)

  source_in : (k : ℕ) → k < length m.words → IsAt b (source_bytes (get_or m.words k no_source)) (words_at b + 8 * k)
  source_in k below =
      let e : words_at b + 8 * (0 + k) ≡ words_at b + 8 * k = omega arith in
      let z : 24 + 8 * length m.objects + 16 * length m.tables + 24 * slot_count m.tables + 32 * length m.regions ≡ words_at b + 8 * 0 =
      let f = sources_start in omega (arith, f) in
      at_place (item_in 8 source_bytes (λ j. words_at b + 8 * j) source_length (step_8 (words_at b)) m.words 0 (at_place s.words z) k no_source below) e

  objects_are : each (λ k. object_at b (24 + 8 * k)) (length m.objects) ≡ m.objects
  objects_are =
      each_all (λ k. object_at b (24 + 8 * k)) m.objects 0 no_object
      (λ j d. let z : 0 + j ≡ j = omega arith in
      ap (λ (k : ℕ). object_at b (24 + 8 * k)) z ∙ object_back (get_or m.objects j no_object) (object_in j d) (widths.objects j no_object d))

  table_back : (k : ℕ) → k < length m.tables → table_at b k ≡ get_or m.tables k no_table
  table_back k below =
      let t = get_or m.tables k no_table in
      let p = slots_at b + 24 * slots_before b k in
      let heads = header k below in
      let slots : each (λ j. slot_at b (p + 24 * j)) (slots_of b k) ≡ t.slots =
      ap (λ (n : ℕ). each (λ j. slot_at b (p + 24 * j)) n) heads.count
      ∙ each_all (λ j. slot_at b (p + 24 * j)) t.slots 0 (Num 0)
      (λ j d. let z : 0 + j ≡ j = omega arith in ap (λ (i : ℕ). slot_at b (p + 24 * i)) z ∙ (slot_reads k j below d).slot) in
      same_table (number_at b (tables_at b + 16 * k) 8) t.start (each (λ j. slot_at b (p + 24 * j)) (slots_of b k)) t.slots heads.start_at slots

  tables_are : each (table_at b) (length m.tables) ≡ m.tables
  tables_are =
      each_all (table_at b) m.tables 0 no_table
      (λ j d. let z : 0 + j ≡ j = omega arith in ap (table_at b) z ∙ table_back j d)

  extents_are : each (λ k. map_region_at b (regions_at b + 32 * k)) (length m.regions) ≡ m.regions
  extents_are =
      each_all (λ k. map_region_at b (regions_at b + 32 * k)) m.regions 0 no_extent
      (λ j d. let z : 0 + j ≡ j = omega arith in
      ap (λ (k : ℕ). map_region_at b (regions_at b + 32 * k)) z
      ∙ (extent_back (get_or m.regions j no_extent) (extent_in j d) (widths.regions j no_extent d) (range.regions j no_extent d)).extent)

  source_back_at : (k : ℕ) → k < length m.words → source_at b (words_at b + 8 * k) ≡ get_or m.words k no_source
  source_back_at k d =
      let w = get_or m.words k no_source in
      let p = range.positions k no_source d in
      (source_back (2 ^ 31) w (source_in k d) (widths.words k no_source d) p (position_below w.kept w.position p)).source

  sources_are : each (λ k. source_at b (words_at b + 8 * k)) (length m.words) ≡ m.words
  sources_are =
      each_all (λ k. source_at b (words_at b + 8 * k)) m.words 0 no_source
      (λ j d. let z : 0 + j ≡ j = omega arith in ap (λ (k : ℕ). source_at b (words_at b + 8 * k)) z ∙ source_back_at j d)

  pub map_back : map_of b ≡ m
  map_back =
      same_map (each (λ k. object_at b (24 + 8 * k)) (objects_in b)) m.objects (each (table_at b) (tables_in b)) m.tables
      (each (λ k. map_region_at b (regions_at b + 32 * k)) (regions_in b)) m.regions (each (λ k. source_at b (words_at b + 8 * k)) (words_in b)) m.words
      (ap (λ (n : ℕ). each (λ k. object_at b (24 + 8 * k)) n) counts.objects ∙ objects_are)
      (ap (λ (n : ℕ). each (table_at b) n) counts.tables ∙ tables_are)
      (ap (λ (n : ℕ). each (λ k. map_region_at b (regions_at b + 32 * k)) n) counts.regions ∙ extents_are)
      (ap (λ (n : ℕ). each (λ k. source_at b (words_at b + 8 * k)) n) counts.words ∙ sources_are)

  module _ (count : ℕ) (fine : IsMap count m) where
    source_reads : (k : ℕ) (d : k < length m.words) → SourceReads b (words_at b + 8 * k) count (get_or m.words k no_source)
    source_reads k d =
        let w = get_or m.words k no_source in
        source_back count w (source_in k d) (widths.words k no_source d) (range.positions k no_source d) (fine.words k no_source d)

    -- ---- the rule on maps

    total : object_words b ≡ words_in b
    total =
        let e : each (λ k. object_at b (24 + 8 * k)) (objects_in b) ≡ m.objects =
        ap (λ (n : ℕ). each (λ k. object_at b (24 + 8 * k)) n) counts.objects ∙ objects_are in
        sym (sum_each (λ o. o.words) (λ k. object_at b (24 + 8 * k)) (objects_in b)) ∙ ap (λ (os : List MapObj). sum_by (λ o. o.words) os) e
        ∙ fine.total ∙ sym counts.words

    fine_objects : are_fine Object b 24 (tables_in b) (objects_in b) ≡ true
    fine_objects =
        all_true (is_fine Object b 24 (tables_in b)) (objects_in b)
        (λ j d. let c = counts.objects in let t = counts.tables in
        let below : j < length m.objects = omega (arith, d, c) in
        let e = table_read (get_or m.objects j no_object) (object_in j below) (widths.objects j no_object below).table in
        let f = fine.objects j no_object below in
        is_lt (number_at b (24 + 8 * j + 4) 4) (tables_in b) (omega (arith, e, f, t)))

    fine_tables : are_fine Table b (tables_at b) 0 (tables_in b) ≡ true
    fine_tables =
        all_true (is_fine Table b (tables_at b) 0) (tables_in b)
        (λ j d. let c = counts.tables in is_eq (number_at b (tables_at b + 16 * j + 12) 4) 0 (header j (omega (arith, d, c))).nothing)

    fine_slots : are_fine Slot b (slots_at b) 0 (slots_in b) ≡ true
    fine_slots =
        all_true (is_fine Slot b (slots_at b) 0) (slots_in b) (slots_fine (tables_in b) (let c = counts.tables in omega (arith, c)))

    fine_extents : are_fine Extent b (regions_at b) 0 (regions_in b) ≡ true
    fine_extents =
        all_true (is_fine Extent b (regions_at b) 0) (regions_in b)
        (λ j d. let c = counts.regions in let below : j < length m.regions = omega (arith, d, c) in
        (extent_back (get_or m.regions j no_extent) (extent_in j below) (widths.regions j no_extent below) (fine.regions j no_extent below)).fits)

    fine_sources : are_fine Word b (words_at b) count (words_in b) ≡ true
    fine_sources =
        all_true (is_fine Word b (words_at b) count) (words_in b)
        (λ j d. let c = counts.words in (source_reads j (omega (arith, d, c))).fits)

    pub map_kept : length b ≡ map_size m → is_map count b ≡ true
    map_kept long =
        let c = counts in
        let co = c.objects in let ct = c.tables in let cr = c.regions in let cw = c.words in
        let cs = slots_counted in
        let marked : is_marked b ≡ true =
        both (nat_le 24 (length b)) (bytes_eq mark (bytes_at b 0 8)) (is_le 24 (length b) (omega (arith, long))) (ap (bytes_eq mark) c.marked) in
        let holds : holds_tables b ≡ true = is_le (slots_at b) (length b) (omega (arith, long, co, ct)) in
        let filled : is_filled b ≡ true = is_eq (map_end b) (length b) (omega (arith, long, co, ct, cr, cw, cs)) in
        let summed : (object_words b == words_in b) ≡ true = is_eq (object_words b) (words_in b) total in
        let parts : has_fine_parts count b ≡ true =
        both _ _ (both _ _ (both _ _ (both _ _ fine_objects fine_tables) fine_slots) fine_extents) fine_sources in
        both _ _ (both _ _ (both _ _ (both _ _ marked holds) filled) summed) parts

pub record MapReads (count : ℕ) (m : Map) : Type 0 where
  pub map : map_of (map_bytes m) ≡ m
  pub kept : is_map count (map_bytes m) ≡ true

pub map_read_back : (m : Map) → IsMapInRange m → HasMapWidths m → map_of (map_bytes m) ≡ m
map_read_back m range widths = map_back (map_bytes m) m (map_stands m) range widths

position_fits : (count : ℕ) → count ≤ 4194304 → (k : Bool) (p : ℕ) → p < (if k then count else count + 1) → p < 2 ^ 31
position_fits count few true p h = omega (arith, h, few)
position_fits count few false p h = omega (arith, h, few)

pub map_in_range : (count : ℕ) (m : Map) → count ≤ 4194304 → IsMap count m → IsMapInRange m
map_in_range count m few fine = record {
  few_objects = fine.few_objects;
  few_tables = fine.few_tables;
  few_slots = fine.few_slots;
  few_regions = fine.few_regions;
  few_words = fine.few_words;
  fits = fine.fits;
  slots = fine.slots;
  regions = fine.regions;
  positions = λ k d b. let w = slice_index_or m.words k d in position_fits count few w.kept w.position (fine.words k d b);
}

pub map_reads : (count : ℕ) (m : Map) → count ≤ 4194304 → IsMap count m → HasMapWidths m → MapReads count m
map_reads count m few fine widths =
    let range = map_in_range count m few fine in
    record {
      map = map_read_back m range widths;
      kept = map_kept (map_bytes m) m (map_stands m) range widths count fine (map_length m);
    }
