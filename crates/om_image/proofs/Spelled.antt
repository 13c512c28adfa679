-- What is read of the items of a written map.
use Rattle.std.proofs.Common.{◌≡◌, ◌<◌, ◌+◌, ◌/◌, ◌%◌, ◌^◌, ℕ, Bool, true, false, List, [], ◌++◌, length, refl, sym, ap, ◌∙◌, length-append, arith}
use Rattle.std.specs.Prelude.{slice_index, ◌&&◌, ◌==◌, if◌then◌else◌, nat_lt}
use Rattle.byteorder.specs.Endian.{little_from}
use Rattle.byteorder.specs.Numbers.{little_number-reads_back}
use Rattle.om_fields.specs.Places.{number_at}
use Rattle.om_image.specs.declared.map.Place.{Place}
use Rattle.om_image.specs.declared.map.Region.{Region}
use Rattle.om_image.specs.declared.map.Region.TheVariants.{Sec, Common, Stack}
use Rattle.om_image.specs.declared.map.Target.{Target}
use Rattle.om_image.specs.declared.map.Target.TheVariants.{Num, Ptr, Code}
use Rattle.om_image.specs.declared.map.MapObj.{MapObj}
use Rattle.om_image.specs.declared.map.MapTable.{MapTable}
use Rattle.om_image.specs.declared.map.MapRegion.{MapRegion}
use Rattle.om_image.specs.declared.map.MapWord.{MapWord}
use Rattle.om_image.specs.Written.{u64_bytes, key_bytes, region_key, slot_key, slot_number, slot_bytes, object_bytes, table_bytes, region_bytes, position_bits, source_bytes}
use Rattle.om_image.specs.MapFields.{object_at, region_by, region_at, target_by, code_place, slot_at, map_region_at, source_at, position_of, kept_of, is_region, is_slot, is_fine_slot, is_fine_region, is_fine_word, is_position}
use Rattle.om_image.specs.Valid.{IsInMap, IsSlot}
use Rattle.om_image.specs.RoundTrip.{HasRegionWidths, HasTargetWidths, HasObjWidths, HasExtentWidths}
use Rattle.om_image.proofs.Deciding.{is_eq, is_lt}
use Rattle.om_image.proofs.Standing.{IsAt, first_in, second_in, number_in, byte_in}

-- ---- objects and tables

pub object_length : (o : MapObj) → length (object_bytes o) ≡ 8
unfolding object_bytes
object_length o = refl

words_there : (o : MapObj) → o.words < 2 ^ 32 → little_from 0 4 (object_bytes o) ≡ o.words
unfolding object_bytes
words_there o h = little_number-reads_back 4 o.words [] h

table_there : (o : MapObj) → o.table < 2 ^ 32 → little_from 4 4 (object_bytes o) ≡ o.table
unfolding object_bytes
table_there o h = little_number-reads_back 4 o.table [] h

same_object : (a b c d : ℕ) → a ≡ b → c ≡ d
    → (let o : MapObj = record { words = a; table = c } in let p : MapObj = record { words = b; table = d } in o ≡ p)
same_object a b c d h g = cc

pub table_read : {b : List ℕ} {at : ℕ} (o : MapObj) → IsAt b (object_bytes o) at → o.table < 2 ^ 32 → number_at b (at + 4) 4 ≡ o.table
table_read {b} {at} o h fits = let long = object_length o in number_in h 4 4 (at + 4) (omega arith) (omega (arith, long)) ∙ table_there o fits

pub object_back : {b : List ℕ} {at : ℕ} (o : MapObj) → IsAt b (object_bytes o) at → HasObjWidths o → object_at b at ≡ o
object_back {b} {at} o h fine =
    let long = object_length o in
    same_object (number_at b at 4) o.words (number_at b (at + 4) 4) o.table
    (number_in h 0 4 at (omega arith) (omega (arith, long)) ∙ words_there o fine.words) (table_read o h fine.table)

pub table_length : (t : MapTable) → length (table_bytes t) ≡ 16
unfolding table_bytes
table_length t = refl

start_there : (t : MapTable) → t.start < 2 ^ 64 → little_from 0 8 (table_bytes t) ≡ t.start
unfolding table_bytes
start_there t h = little_number-reads_back 8 t.start [] h

count_there : (t : MapTable) → length t.slots < 2 ^ 32 → little_from 8 4 (table_bytes t) ≡ length t.slots
unfolding table_bytes
count_there t h = little_number-reads_back 4 (length t.slots) [] h

zero_there : (t : MapTable) → little_from 12 4 (table_bytes t) ≡ 0
unfolding table_bytes
zero_there t = refl

pub record TableReads (b : List ℕ) (at : ℕ) (t : MapTable) : Type 0 where
  pub start_at : number_at b at 8 ≡ t.start
  pub count : number_at b (at + 8) 4 ≡ length t.slots
  pub nothing : number_at b (at + 12) 4 ≡ 0

pub table_reads : {b : List ℕ} {at : ℕ} (t : MapTable) → IsAt b (table_bytes t) at → t.start < 2 ^ 64 → length t.slots < 2 ^ 32 → TableReads b at t
table_reads {b} {at} t h fs fn =
    let long = table_length t in
    record {
      start_at = number_in h 0 8 at (omega arith) (omega (arith, long)) ∙ start_there t fs;
      count = number_in h 8 4 (at + 8) (omega arith) (omega (arith, long)) ∙ count_there t fn;
      nothing = number_in h 12 4 (at + 12) (omega arith) (omega (arith, long)) ∙ zero_there t;
    }

-- ---- keys

key_length : (k n m : ℕ) → length (key_bytes k n m) ≡ 16
unfolding key_bytes
key_length k n m = refl

kind_in : (k n m : ℕ) → k < 2 ^ 32 → little_from 0 4 (key_bytes k n m) ≡ k
unfolding key_bytes
kind_in k n m h = little_number-reads_back 4 k [] h

name_in : (k n m : ℕ) → n < 2 ^ 32 → little_from 4 4 (key_bytes k n m) ≡ n
unfolding key_bytes
name_in k n m h = little_number-reads_back 4 n [] h

section_in : (k n m : ℕ) → m < 2 ^ 32 → little_from 8 4 (key_bytes k n m) ≡ m
unfolding key_bytes
section_in k n m h = little_number-reads_back 4 m [] h

byte_there : (k n m : ℕ) → m < 256 → slice_index (key_bytes k n m) 8 ≡ m
unfolding key_bytes
byte_there k n m h = low m h
  where
    low : (m : ℕ) → m < 256 → m % 256 ≡ m
    low m h = omega (arith, h)

nothing_in : (k n m : ℕ) → little_from 12 4 (key_bytes k n m) ≡ 0
unfolding key_bytes
nothing_in k n m = refl

pub record KeyReads (b : List ℕ) (at k n m : ℕ) : Type 0 where
  pub kind : number_at b at 4 ≡ k
  pub name : number_at b (at + 4) 4 ≡ n
  pub section : number_at b (at + 8) 4 ≡ m
  pub byte : slice_index b (at + 8) ≡ m
  pub nothing : number_at b (at + 12) 4 ≡ 0

key_reads : {b : List ℕ} {at : ℕ} (k n m : ℕ) → IsAt b (key_bytes k n m) at → k < 2 ^ 32 → n < 2 ^ 32 → m < 256 → KeyReads b at k n m
key_reads {b} {at} k n m h fk fn fm =
    let long = key_length k n m in
    record {
      kind = number_in h 0 4 at (omega arith) (omega (arith, long)) ∙ kind_in k n m fk;
      name = number_in h 4 4 (at + 4) (omega arith) (omega (arith, long)) ∙ name_in k n m fn;
      section = number_in h 8 4 (at + 8) (omega arith) (omega (arith, long)) ∙ section_in k n m (omega (arith, fm));
      byte = byte_in h 8 (at + 8) (omega arith) (omega (arith, long)) ∙ byte_there k n m fm;
      nothing = number_in h 12 4 (at + 12) (omega arith) (omega (arith, long)) ∙ nothing_in k n m;
    }

-- ---- regions

region_key_length : (r : Region) → length (region_key r) ≡ 16
region_key_length (Sec obj number) = key_length 1 obj number
region_key_length (Common sym) = key_length 2 sym 0
region_key_length Stack = key_length 4 0 0

sec_same : (a b c d : ℕ) → a ≡ b → c ≡ d → Sec a c ≡ Sec b d
sec_same a b c d h g = cc

pub record RegionReads (b : List ℕ) (at : ℕ) (r : Region) : Type 0 where
  pub region : region_at b at ≡ r
  pub nothing : number_at b (at + 12) 4 ≡ 0
  pub fits : is_region (number_at b at 4) (number_at b (at + 8) 4) ≡ true
  pub target : (number code pointer : Target) → target_by (number_at b at 4) number code pointer ≡ pointer
  pub slot : (name off : ℕ) → is_slot (number_at b at 4) name (number_at b (at + 8) 4) off ≡ true

pub region_back : {b : List ℕ} {at : ℕ} (r : Region) → IsAt b (region_key r) at → HasRegionWidths r → IsInMap r → RegionReads b at r
region_back {b} {at} (Sec obj number) h w i =
    let keys = key_reads 1 obj number h (omega arith) w.obj (let e = w.number in omega (arith, e)) in
    let small : nat_lt number 256 ≡ true = is_lt number 256 (let e = w.number in omega (arith, e)) in
    let fits : is_region (number_at b at 4) (number_at b (at + 8) 4) ≡ true =
    ap (λ (k : ℕ). is_region k (number_at b (at + 8) 4)) keys.kind ∙ ap (λ (m : ℕ). is_region 1 m) keys.section ∙ small in
    record {
      region = ap (λ (k : ℕ). region_by k (number_at b (at + 4) 4) (slice_index b (at + 8))) keys.kind
          ∙ sec_same (number_at b (at + 4) 4) obj (slice_index b (at + 8)) number keys.name keys.byte;
      nothing = keys.nothing;
      fits = fits;
      target = λ n c p. ap (λ (k : ℕ). target_by k n c p) keys.kind;
      slot = λ n o. ap (λ (k : ℕ). is_slot k n (number_at b (at + 8) 4) o) keys.kind ∙ ap (λ (m : ℕ). is_slot 1 n m o) keys.section ∙ small;
    }
region_back {b} {at} (Common sym) h w i =
    let keys = key_reads 2 sym 0 h (omega arith) w (omega arith) in
    let fits : is_region (number_at b at 4) (number_at b (at + 8) 4) ≡ true =
    ap (λ (k : ℕ). is_region k (number_at b (at + 8) 4)) keys.kind ∙ ap (λ (m : ℕ). is_region 2 m) keys.section in
    record {
      region = ap (λ (k : ℕ). region_by k (number_at b (at + 4) 4) (slice_index b (at + 8))) keys.kind ∙ ap Common keys.name;
      nothing = keys.nothing;
      fits = fits;
      target = λ n c p. ap (λ (k : ℕ). target_by k n c p) keys.kind;
      slot = λ n o. ap (λ (k : ℕ). is_slot k n (number_at b (at + 8) 4) o) keys.kind ∙ ap (λ (m : ℕ). is_slot 2 n m o) keys.section;
    }
region_back Stack h w i = absurd i

-- ---- slots

slot_key_length : (t : Target) → length (slot_key t) ≡ 16
slot_key_length (Num n) = key_length 0 0 0
slot_key_length (Ptr region off) = region_key_length region
slot_key_length (Code place) = key_length 3 place.obj 0

slot_is : (t : Target) → slot_bytes t ≡ slot_key t ++ u64_bytes (slot_number t)
unfolding slot_bytes
slot_is t = refl

pub slot_length : (t : Target) → length (slot_bytes t) ≡ 24
slot_length t =
    let e = ap length (slot_is t) in
    let f = length-append (slot_key t) (u64_bytes (slot_number t)) in
    let g = slot_key_length t in
    omega (arith, e, f, g)

number_back : {b : List ℕ} {at : ℕ} (n : ℕ) → IsAt b (u64_bytes n) at → n < 2 ^ 64 → number_at b at 8 ≡ n
number_back {b} {at} n h fits = number_in h 0 8 at (omega arith) (omega arith) ∙ little_number-reads_back 8 n [] fits

short_back : {b : List ℕ} {at : ℕ} (n : ℕ) → IsAt b (u64_bytes n) at → n < 2 ^ 32 → number_at b at 4 ≡ n
short_back {b} {at} n h fits = number_in h 0 4 at (omega arith) (omega arith) ∙ little_number-reads_back 4 n [] fits

pub record SlotReads (b : List ℕ) (at : ℕ) (t : Target) : Type 0 where
  pub slot : slot_at b at ≡ t
  pub fits : is_fine_slot b at ≡ true

code_same : (n m : ℕ) (p : Place) → n ≡ p.obj → m ≡ p.off → Code (code_place n m) ≡ Code p
code_same n m p h g = ap (λ (k : ℕ). Code (code_place k m)) h ∙ ap (λ (k : ℕ). Code (code_place p.obj k)) g

ptr_same : (r s : Region) (n m : ℕ) → r ≡ s → n ≡ m → Ptr r n ≡ Ptr s m
ptr_same r s n m h g = cc

is_zero : (n : ℕ) (t : Bool) → n ≡ 0 → t ≡ true → ((n == 0) && t) ≡ true
is_zero n t h g = ap (λ (k : ℕ). (k == 0) && t) h ∙ g

slot_by : {b : List ℕ} {at : ℕ} (t : Target) → IsAt b (slot_key t) at → IsAt b (u64_bytes (slot_number t)) (at + 16) → HasTargetWidths t → IsSlot t → SlotReads b at t
slot_by {b} {at} (Num n) h g w i =
    let keys = key_reads 0 0 0 h (omega arith) (omega arith) (omega arith) in
    let off = number_back n g w in
    record {
      slot = ap (λ (k : ℕ). target_by k (Num (number_at b (at + 16) 8)) (Code (code_place (number_at b (at + 4) 4) (number_at b (at + 16) 4)))
          (Ptr (region_at b at) (number_at b (at + 16) 8))) keys.kind ∙ ap Num off;
      fits = is_zero (number_at b (at + 12) 4) _ keys.nothing
          (ap (λ (k : ℕ). is_slot k (number_at b (at + 4) 4) (number_at b (at + 8) 4) (number_at b (at + 16) 8)) keys.kind
          ∙ ap (λ (k : ℕ). is_slot 0 k (number_at b (at + 8) 4) (number_at b (at + 16) 8)) keys.name
          ∙ ap (λ (k : ℕ). is_slot 0 0 k (number_at b (at + 16) 8)) keys.section);
    }
slot_by {b} {at} (Ptr region off) h g w i =
    let reads = region_back region h w.0 i in
    let there = number_back off g w.1 in
    record {
      slot = reads.target (Num (number_at b (at + 16) 8)) (Code (code_place (number_at b (at + 4) 4) (number_at b (at + 16) 4)))
          (Ptr (region_at b at) (number_at b (at + 16) 8)) ∙ ptr_same (region_at b at) region (number_at b (at + 16) 8) off reads.region there;
      fits = is_zero (number_at b (at + 12) 4) _ reads.nothing (reads.slot (number_at b (at + 4) 4) (number_at b (at + 16) 8));
    }
slot_by {b} {at} (Code place) h g w i =
    let keys = key_reads 3 place.obj 0 h (omega arith) w.obj (omega arith) in
    let there = number_back place.off g (let e = w.off in omega (arith, e)) in
    let short = short_back place.off g w.off in
    record {
      slot = ap (λ (k : ℕ). target_by k (Num (number_at b (at + 16) 8)) (Code (code_place (number_at b (at + 4) 4) (number_at b (at + 16) 4)))
          (Ptr (region_at b at) (number_at b (at + 16) 8))) keys.kind
          ∙ code_same (number_at b (at + 4) 4) (number_at b (at + 16) 4) place keys.name short;
      fits = is_zero (number_at b (at + 12) 4) _ keys.nothing
          (ap (λ (k : ℕ). is_slot k (number_at b (at + 4) 4) (number_at b (at + 8) 4) (number_at b (at + 16) 8)) keys.kind
          ∙ ap (λ (k : ℕ). is_slot 3 (number_at b (at + 4) 4) k (number_at b (at + 16) 8)) keys.section
          ∙ ap (λ (k : ℕ). is_slot 3 (number_at b (at + 4) 4) 0 k) there ∙ is_lt place.off (2 ^ 32) w.off);
    }

pub slot_back : {b : List ℕ} {at : ℕ} (t : Target) → IsAt b (slot_bytes t) at → HasTargetWidths t → IsSlot t → SlotReads b at t
unfolding slot_bytes
slot_back {b} {at} t h w i =
    let long = slot_key_length t in
    slot_by t (first_in (slot_key t) (u64_bytes (slot_number t)) h)
    (second_in (slot_key t) (u64_bytes (slot_number t)) (at + 16) h (omega (arith, long))) w i

-- ---- regions with their addresses and sizes

extent_is : (r : MapRegion) → region_bytes r ≡ region_key r.region ++ u64_bytes r.address ++ u64_bytes r.size
unfolding region_bytes
extent_is r = refl

pub extent_length : (r : MapRegion) → length (region_bytes r) ≡ 32
extent_length r =
    let e = ap length (extent_is r) in
    let f = length-append (region_key r.region ++ u64_bytes r.address) (u64_bytes r.size) in
    let d = length-append (region_key r.region) (u64_bytes r.address) in
    let g = region_key_length r.region in
    omega (arith, e, f, d, g)

same_extent : (r s : Region) (a b c d : ℕ) → r ≡ s → a ≡ b → c ≡ d
    → (let o : MapRegion = record { region = r; address = a; size = c } in let p : MapRegion = record { region = s; address = b; size = d } in o ≡ p)
same_extent r s a b c d e h g = cc

pub record ExtentReads (b : List ℕ) (at : ℕ) (r : MapRegion) : Type 0 where
  pub extent : map_region_at b at ≡ r
  pub fits : is_fine_region b at ≡ true

pub extent_back : {b : List ℕ} {at : ℕ} (r : MapRegion) → IsAt b (region_bytes r) at → HasExtentWidths r → IsInMap r.region → ExtentReads b at r
unfolding region_bytes
extent_back {b} {at} r h w i =
    let long = region_key_length r.region in
    let most = length-append (region_key r.region) (u64_bytes r.address) in
    let two = first_in (region_key r.region ++ u64_bytes r.address) (u64_bytes r.size) h in
    let keys = region_back r.region (first_in (region_key r.region) (u64_bytes r.address) two) w.region i in
    let address = number_back r.address (second_in (region_key r.region) (u64_bytes r.address) (at + 16) two (omega (arith, long))) w.address in
    let size = number_back r.size (second_in (region_key r.region ++ u64_bytes r.address) (u64_bytes r.size) (at + 24) h (omega (arith, long, most))) w.size in
    record {
      extent = same_extent (region_at b at) r.region (number_at b (at + 16) 8) r.address (number_at b (at + 24) 8) r.size keys.region address size;
      fits = is_zero (number_at b (at + 12) 4) _ keys.nothing keys.fits;
    }

-- ---- source words

pub source_length : (w : MapWord) → length (source_bytes w) ≡ 8
unfolding source_bytes
source_length w = refl

old_there : (w : MapWord) → w.old < 2 ^ 32 → little_from 0 4 (source_bytes w) ≡ w.old
unfolding source_bytes
old_there w h = little_number-reads_back 4 w.old [] h

bits_there : (w : MapWord) → position_bits w < 2 ^ 32 → little_from 4 4 (source_bytes w) ≡ position_bits w
unfolding source_bytes
bits_there w h = little_number-reads_back 4 (position_bits w) [] h

record BitsRead (p : ℕ) (kept : Bool) : Type 0 where
  small : (if kept then p + 2 ^ 31 else p) < 2 ^ 32
  position : position_of (if kept then p + 2 ^ 31 else p) ≡ p
  kept_is : kept_of (if kept then p + 2 ^ 31 else p) ≡ kept

bits_read : (p : ℕ) (kept : Bool) → p < 2 ^ 31 → BitsRead p kept
bits_read p true h = record {
  small = omega (arith, h);
  position = omega (arith, h);
  kept_is = is_eq ((p + 2 ^ 31) / 2 ^ 31) 1 (omega (arith, h));
}
bits_read p false h = record {
  small = omega (arith, h);
  position = omega (arith, h);
  kept_is = is_not_eq (p / 2 ^ 31) (omega (arith, h));
}
  where
    is_not_eq : (n : ℕ) → n ≡ 0 → (n == 1) ≡ false
    is_not_eq n e = ap (λ (k : ℕ). k == 1) e

same_source : (a b c d : ℕ) (e f : Bool) → a ≡ b → c ≡ d → e ≡ f
    → (let o : MapWord = record { old = a; position = c; kept = e } in let p : MapWord = record { old = b; position = d; kept = f } in o ≡ p)
same_source a b c d e f h g i = cc

pub record SourceReads (b : List ℕ) (at count : ℕ) (w : MapWord) : Type 0 where
  pub source : source_at b at ≡ w
  pub fits : is_fine_word b at count ≡ true

pub source_back : {b : List ℕ} {at : ℕ} (count : ℕ) (w : MapWord) → IsAt b (source_bytes w) at → w.old < 2 ^ 32 → w.position < 2 ^ 31
    → w.position < (if w.kept then count else count + 1) → SourceReads b at count w
source_back {b} {at} count w h old position below =
    let long = source_length w in
    let bits = bits_read w.position w.kept position in
    let there : number_at b (at + 4) 4 ≡ position_bits w = number_in h 4 4 (at + 4) (omega arith) (omega (arith, long)) ∙ bits_there w bits.small in
    let kept : kept_of (number_at b (at + 4) 4) ≡ w.kept = ap kept_of there ∙ bits.kept_is in
    let place : position_of (number_at b (at + 4) 4) ≡ w.position = ap position_of there ∙ bits.position in
    record {
      source = same_source (number_at b at 4) w.old (position_of (number_at b (at + 4) 4)) w.position (kept_of (number_at b (at + 4) 4)) w.kept
          (number_in h 0 4 at (omega arith) (omega (arith, long)) ∙ old_there w old) place kept;
      fits = ap (λ (k : Bool). is_position count k (position_of (number_at b (at + 4) 4))) kept ∙ ap (λ (p : ℕ). is_position count w.kept p) place
          ∙ is_lt w.position (if w.kept then count else count + 1) below;
    }
