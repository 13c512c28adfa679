-- A written image is read as itself, and breaks no rule.
use Rattle.std.proofs.Common.{◌≡◌, ◌<◌, ◌≤◌, ◌+◌, ◌-◌, ◌*◌, ◌/◌, ◌%◌, ◌^◌, inl, inr, ℕ, zero, suc, Bool, true, false, List, [], ◌∷◌, ◌++◌, length, get_or, lit<, refl, sym, ap, ◌∙◌, subst, append_assoc, append-nil, length-append, arith}
use Rattle.std.specs.Prelude.{Option, Some, None, All, is_some, is_none, ◌==◌, not, nat_lt, bytes_eq, if◌then◌else◌}
use Rattle.std.proofs.lemmas.List.{length-replicate}
use Rattle.std.proofs.Math.Dec.{eqb-suc-zero}
use Rattle.std.proofs.lemmas.Bool.Decides.{nat_tests}
use Rattle.byteorder.specs.Endian.{little_from, little_bytes}
use Rattle.byteorder.specs.Numbers.{little_number-reads_back}
use Rattle.om_fields.specs.Bytes.{zeros, word_bytes, words_at}
use Rattle.om_fields.specs.Places.{number_at, bytes_at, picked, place_if, is_past, IsAmong}
use Rattle.om_fields.specs.Rules.{Rule, Breaks, IsUnbroken}
use Rattle.om_fields.specs.Headers.{file_header, optional_header, section_header, section_place as half_header}
use Rattle.om_fields.specs.HeaderFields.{section_count, header_at, rule_1, rule_2, rule_3}
use Rattle.om_fields.proofs.Numbers.{words_back, length-word_bytes}
use Rattle.om_isa.specs.Words.{instr_of}
use Rattle.om_image.specs.declared.image.Image.{Image}
use Rattle.om_image.specs.declared.map.Map.{Map}
use Rattle.om_image.specs.declared.part.HeadRule.TheVariants.{Named, Inside, Placed}
use Rattle.om_image.specs.Layout.{text_base, data_base, text_limit, data_limit}
use Rattle.om_image.specs.Written.{text_name, data_name, bss_name, map_name, text_place, data_place, map_place, named_place, image_headers, image_body, map_bytes, map_size, file_of}
use Rattle.om_image.specs.MapFields.{map_of, is_map}
use Rattle.om_image.specs.Rules.{section_address, section_size, section_place, section_bytes, image_of, is_uneven, breaks_head, heads_where, rule_4, rule_5, rule_6, rule_7, rule_8, rule_9, is_entry, is_unreadable, image_rules}
use Rattle.om_image.specs.Valid.{IsMap, IsInRange, IsValidImage}
use Rattle.om_image.specs.RoundTrip.{HasWidths, WrittenIsRead, UnbrokenIsValid}
use Rattle.om_image.proofs.Rounding.{rounded_above, rounded_below}
use Rattle.om_image.proofs.Deciding.{neither, not_true, is_eq, is_not_lt, neither_of, not_false, not_lt_of}
use Rattle.om_image.proofs.Standing.{IsAt, whole, first_in, second_in, as_piece, at_place, number_in, bytes_in, inside}
use Rattle.om_image.proofs.Pieces.{five_in, length_five, six_in, length_six, item_in, picked_nothing, nothing_picked}
use Rattle.om_image.proofs.MapBack.{map_length, map_in_range, map_read_back, map_reads}
use Rattle.om_image.proofs.Valid.{MapTests, map_tests, all_words, even, readable}

-- ---- headers

-- what follows the name in a section header
unfoldable pub after_name : ℕ → ℕ → ℕ → List ℕ
after_name address size place =
    zeros 8 ++ little_bytes 8 address ++ little_bytes 8 size ++ little_bytes 8 place ++ little_bytes 8 0 ++ zeros 8
    ++ little_bytes 2 0 ++ zeros 6

after_length : (a s p : ℕ) → length (after_name a s p) ≡ 56
unfolding after_name
after_length a s p = refl

header_parts : (name : List ℕ) (a s p : ℕ) → section_header name a s p 0 0 ≡ name ++ after_name a s p
unfolding after_name section_header half_header
header_parts name a s p = simp append_assoc refl

address_there : (a s p : ℕ) → a < 2 ^ 64 → little_from 8 8 (after_name a s p) ≡ a
unfolding after_name
address_there a s p h = little_number-reads_back 8 a [] h

size_there : (a s p : ℕ) → s < 2 ^ 64 → little_from 16 8 (after_name a s p) ≡ s
unfolding after_name
size_there a s p h = little_number-reads_back 8 s [] h

place_there : (a s p : ℕ) → p < 2 ^ 64 → little_from 24 8 (after_name a s p) ≡ p
unfolding after_name
place_there a s p h = little_number-reads_back 8 p [] h

-- the fields of a section header
pub record HeadReads (file : List ℕ) (at : ℕ) (name : List ℕ) (a s p : ℕ) : Type 0 where
  pub name_at : bytes_at file at 8 ≡ name
  pub address : number_at file (at + 16) 8 ≡ a
  pub size : number_at file (at + 24) 8 ≡ s
  pub place : number_at file (at + 32) 8 ≡ p

head_reads : {file name : List ℕ} {at a s p : ℕ} → IsAt file (section_header name a s p 0 0) at → length name ≡ 8
    → a < 2 ^ 64 → s < 2 ^ 64 → p < 2 ^ 64 → HeadReads file at name a s p
head_reads {file} {name} {at} {a} {s} {p} h eight fa fs fp =
    let parts = as_piece h (header_parts name a s p) in
    let fields : IsAt file (after_name a s p) (at + 8) = second_in name (after_name a s p) (at + 8) parts (ap (λ (k : ℕ). at + k) eight) in
    let long = after_length a s p in
    record {
      name_at = ap (λ (k : ℕ). bytes_at file at k) (sym eight) ∙ bytes_in (first_in name (after_name a s p) parts);
      address = number_in fields 8 8 (at + 16) (omega arith) (omega (arith, long)) ∙ address_there a s p fa;
      size = number_in fields 16 8 (at + 24) (omega arith) (omega (arith, long)) ∙ size_there a s p fs;
      place = number_in fields 24 8 (at + 32) (omega arith) (omega (arith, long)) ∙ place_there a s p fp;
    }

header_length : (name : List ℕ) (a s p : ℕ) → length name ≡ 8 → length (section_header name a s p 0 0) ≡ 64
header_length name a s p h =
    let e = ap length (header_parts name a s p) in
    let f = length-append name (after_name a s p) in
    let g = after_length a s p in
    omega (arith, e, f, g, h)

front_length : length (file_header 4 0 0) ≡ 24
unfolding file_header
front_length = refl

magic_there : little_from 0 2 (file_header 4 0 0) ≡ 0x183
unfolding file_header
magic_there = refl

four_there : little_from 2 2 (file_header 4 0 0) ≡ 4
unfolding file_header
four_there = refl

eighty_there : little_from 20 2 (file_header 4 0 0) ≡ 80
unfolding file_header
eighty_there = refl

optional_length : (entry gp : ℕ) → length (optional_header entry gp) ≡ 80
unfolding optional_header
optional_length entry gp = refl

entry_there : (entry gp : ℕ) → entry < 2 ^ 64 → little_from 32 8 (optional_header entry gp) ≡ entry
unfolding optional_header
entry_there entry gp h = little_number-reads_back 8 entry [] h

gp_there : (entry gp : ℕ) → gp < 2 ^ 64 → little_from 72 8 (optional_header entry gp) ≡ gp
unfolding optional_header
gp_there entry gp h = little_number-reads_back 8 gp [] h

-- ---- where everything stands

headers_are : (entry gp text bytes bss map : ℕ) → image_headers entry gp text bytes bss map
    ≡ file_header 4 0 0 ++ optional_header entry gp
    ++ section_header text_name text_base text (named_place text text_place) 0 0
    ++ section_header data_name data_base bytes (named_place bytes (data_place text)) 0 0
    ++ section_header bss_name (data_base + bytes) bss 0 0 0
    ++ section_header map_name 0 map (map_place text bytes) 0 0
unfolding image_headers
headers_are entry gp text bytes bss map = refl

body_is : (text bytes : List ℕ) → image_body text bytes
    ≡ zeros 8 ++ word_bytes text ++ zeros (data_place (4 * length text) - (text_place + 4 * length text))
    ++ bytes ++ zeros (map_place (4 * length text) (length bytes) - (data_place (4 * length text) + length bytes))
unfolding image_body
body_is text bytes = refl

file_is : (i : Image) → file_of i
    ≡ image_headers i.entry i.gp (4 * length i.text) (length i.bytes) i.bss (map_size i.map) ++ image_body i.text i.bytes ++ map_bytes i.map
unfolding file_of
file_is i = refl

pub record ImageStands (file : List ℕ) (i : Image) : Type 0 where
  pub front : IsAt file (file_header 4 0 0) 0
  pub optional : IsAt file (optional_header i.entry i.gp) 24
  pub text_head : IsAt file (section_header text_name text_base (4 * length i.text) (named_place (4 * length i.text) text_place) 0 0) 104
  pub data_head : IsAt file (section_header data_name data_base (length i.bytes) (named_place (length i.bytes) (data_place (4 * length i.text))) 0 0) 168
  pub bss_head : IsAt file (section_header bss_name (data_base + length i.bytes) i.bss 0 0 0) 232
  pub map_head : IsAt file (section_header map_name 0 (map_size i.map) (map_place (4 * length i.text) (length i.bytes)) 0 0) 296
  pub text : IsAt file (word_bytes i.text) text_place
  pub bytes : IsAt file i.bytes (data_place (4 * length i.text))
  pub map : IsAt file (map_bytes i.map) (map_place (4 * length i.text) (length i.bytes))

image_stands : (i : Image) → ImageStands (file_of i) i
image_stands i =
    let file = file_of i in
    let text = 4 * length i.text in
    let size = length i.bytes in
    let fh = file_header 4 0 0 in
    let oh = optional_header i.entry i.gp in
    let s0 = section_header text_name text_base text (named_place text text_place) 0 0 in
    let s1 = section_header data_name data_base size (named_place size (data_place text)) 0 0 in
    let s2 = section_header bss_name (data_base + size) i.bss 0 0 0 in
    let s3 = section_header map_name 0 (map_size i.map) (map_place text size) 0 0 in
    let heads = image_headers i.entry i.gp text size i.bss (map_size i.map) in
    let body = image_body i.text i.bytes in
    let z1 = zeros (data_place text - (text_place + text)) in
    let z2 = zeros (map_place text size - (data_place text + size)) in
    let all = as_piece (whole file) (file_is i) in
    let two = first_in (heads ++ body) (map_bytes i.map) all in
    let h = as_piece (first_in heads body two) (headers_are i.entry i.gp text size i.bss (map_size i.map)) in
    let six = six_in fh oh s0 s1 s2 s3 0 h in
    let lf = front_length in
    let lo = optional_length i.entry i.gp in
    let l0 = header_length text_name text_base text (named_place text text_place) refl in
    let l1 = header_length data_name data_base size (named_place size (data_place text)) refl in
    let l2 = header_length bss_name (data_base + size) i.bss 0 refl in
    let l3 = header_length map_name 0 (map_size i.map) (map_place text size) refl in
    let lh : length heads ≡ 360 = ap length (headers_are i.entry i.gp text size i.bss (map_size i.map)) ∙ length_six fh oh s0 s1 s2 s3 ∙ omega (arith, lf, lo, l0, l1, l2, l3) in
    let b = as_piece (second_in heads body 360 two (omega (arith, lh))) (body_is i.text i.bytes) in
    let five = five_in (zeros 8) (word_bytes i.text) z1 i.bytes z2 360 b in
    let lw = length-word_bytes i.text in
    let lz1 : length z1 ≡ data_place text - (text_place + text) = length-replicate {A = ℕ} (data_place text - (text_place + text)) 0 in
    let lz2 : length z2 ≡ map_place text size - (data_place text + size) = length-replicate {A = ℕ} (map_place text size - (data_place text + size)) 0 in
    let up1 : text_place + text ≤ data_place text = rounded_above (text_place + text) 16 (omega arith) in
    let up2 : data_place text + size ≤ map_place text size = rounded_above (data_place text + size) 16 (omega arith) in
    let lb : length body ≡ 8 + text + length z1 + size + length z2 =
    ap length (body_is i.text i.bytes) ∙ length_five (zeros 8) (word_bytes i.text) z1 i.bytes z2 ∙ omega (arith, lw) in
    let both = length-append heads body in
    record {
      front = six.five.first;
      optional = at_place six.five.second (omega (arith, lf));
      text_head = at_place six.five.third (omega (arith, lf, lo));
      data_head = at_place six.five.fourth (omega (arith, lf, lo, l0));
      bss_head = at_place six.five.fifth (omega (arith, lf, lo, l0, l1));
      map_head = at_place six.sixth (omega (arith, lf, lo, l0, l1, l2));
      text = at_place five.second refl;
      bytes = at_place five.fourth (omega (arith, lw, lz1, up1));
      map = second_in (heads ++ body) (map_bytes i.map) (map_place text size) all (omega (arith, lh, lb, lz1, lz2, up1, up2, both));
    }

-- ---- a section's bytes, at the place that its header names

named : (n place : ℕ) → named_place (suc n) place ≡ place
named n place = ap (λ (b : Bool). if b then 0 else place) (eqb-suc-zero n)

piece_back : {file : List ℕ} {place : ℕ} (piece : List ℕ) → IsAt file piece place → bytes_at file (named_place (length piece) place) (length piece) ≡ piece
piece_back [] h = refl
piece_back {file} {place} (x ∷ piece) h =
    ap (λ (p : ℕ). bytes_at file p (length (x ∷ piece))) (named (length piece) place) ∙ bytes_in h

past_none : (long at n : ℕ) → (0 < n → at + n ≤ long) → is_past long at n ≡ false
past_none long at n h = grind (arith, nat_tests)

piece_inside : {file : List ℕ} {place : ℕ} (piece : List ℕ) → IsAt file piece place → is_past (length file) (named_place (length piece) place) (length piece) ≡ false
piece_inside {file} {place} [] h = refl
piece_inside {file} {place} (x ∷ piece) h =
    let in_file = inside h in
    ap (λ (p : ℕ). is_past (length file) p (length (x ∷ piece))) (named (length piece) place)
    ∙ past_none (length file) place (length (x ∷ piece)) (λ some. in_file)

named_below : (n place most : ℕ) → place < most → named_place n place < most
named_below zero place most h = omega (arith, h)
named_below (suc n) place most h = let e = named n place in omega (arith, e, h)

-- ---- tables of rules that have no place

AreEmpty : List (Rule (List ℕ)) → List ℕ → Type 0
AreEmpty [] file = Unit {0}
AreEmpty (r ∷ rs) file = (r.1 file ≡ []) × AreEmpty rs file

empty_unbroken : (rules : List (Rule (List ℕ))) (file : List ℕ) → AreEmpty rules file → (rule at : ℕ) → Breaks rules file rule at → ⊥
unfolding AreEmpty
empty_unbroken [] file h rule at b = b
empty_unbroken (r ∷ rs) file h rule at (inl b) = subst (λ (xs : List ℕ). IsAmong xs at) h.0 b.1
empty_unbroken (r ∷ rs) file h rule at (inr b) = empty_unbroken rs file h.1 rule at b

no_item : (xs : List ℕ) → ((p : ℕ) → IsAmong xs p → ⊥) → xs ≡ []
no_item [] h = refl
no_item (x ∷ xs) h = absurd (h x (inl refl))

unbroken_empty : (rules : List (Rule (List ℕ))) (file : List ℕ) → ((rule at : ℕ) → Breaks rules file rule at → ⊥) → AreEmpty rules file
unfolding AreEmpty
unbroken_empty [] file h = tt
unbroken_empty (r ∷ rs) file h = (no_item (r.1 file) (λ p a. h r.0 p (inl (refl, a))), unbroken_empty rs file (λ rule at b. h rule at (inr b)))

none_placed : (b : Bool) (at : ℕ) → place_if b at ≡ [] → b ≡ false
none_placed true at h = cc
none_placed false at h = refl

place_none : (b : Bool) (at : ℕ) → b ≡ false → place_if b at ≡ []
place_none b at h = ap (λ (t : Bool). place_if t at) h

four_none : (test : ℕ → Bool) → test 0 ≡ false → test 1 ≡ false → test 2 ≡ false → test 3 ≡ false → picked test header_at 4 ≡ []
four_none test h0 h1 h2 h3 = rw (h0, h1, h2, h3) refl

same_image : (e f g h : ℕ) (xs ys : List ℕ) (bs cs : List ℕ) (s t : ℕ) (m n : Map) → e ≡ f → g ≡ h → xs ≡ ys → bs ≡ cs → s ≡ t → m ≡ n
    → (let a : Image = record { entry = e; gp = g; text = xs; bytes = bs; bss = s; map = m } in
    let b : Image = record { entry = f; gp = h; text = ys; bytes = cs; bss = t; map = n } in a ≡ b)
same_image e f g h xs ys bs cs s t m n he hg hx hb hs hm = cc

-- ---- the words

small_all : (text : List ℕ) → All (λ w. w < 2 ^ 32) text → (k : ℕ) → get_or text k 0 < 2 ^ 32
small_all [] h k = lit< tt
small_all (w ∷ text) h zero = h 0 w (omega arith)
small_all (w ∷ text) h (suc k) = small_all text (λ j d b. h (suc j) d (omega (arith, b))) k

words_are : (text : List ℕ) → All (λ w. w < 2 ^ 32) text → words_at 0 (length text) (word_bytes text) ≡ text
words_are text small =
    ap (λ (b : List ℕ). words_at 0 (length text) b) (sym (append-nil (word_bytes text))) ∙ words_back text [] [] 0 refl (small_all text small)

word_is : (text : List ℕ) → All (λ w. w < 2 ^ 32) text → (k : ℕ) → k < length text → number_at (word_bytes text) (4 * k) 4 ≡ get_or text k 0
word_is text small k below =
    let e : 4 * (0 + k) ≡ 4 * k = omega arith in
    let h = at_place (item_in 4 (little_bytes 4) (λ j. 4 * j) (λ x. refl) (λ j. omega arith) text 0 (whole (word_bytes text)) k 0 below) e in
    number_in h 0 4 (4 * k) (omega arith) (omega arith) ∙ little_number-reads_back 4 (get_or text k 0) [] (small k 0 below)

some_none : {X : Type 0} (o : Option X) → is_some o ≡ true → is_none o ≡ false
some_none None h = cc
some_none (Some x) h = refl

-- ---- the file

module _ (i : Image) (range : IsInRange i) (widths : HasWidths i) where
  abbrev file : List ℕ
  file = file_of i

  stands : ImageStands file i
  stands = image_stands i

  abbrev text_size : ℕ
  text_size = 4 * length i.text

  data_below : data_place text_size < 2 ^ 62 + 400
  data_below = let e = rounded_below (text_place + text_size) 16 (omega arith) in let f = range.text in omega (arith, e, f)

  map_below : map_place text_size (length i.bytes) < 2 ^ 64
  map_below =
      let e = rounded_below (data_place text_size + length i.bytes) 16 (omega arith) in
      let f = range.bytes in
      let g = data_below in
      omega (arith, e, f, g)

  text_head : HeadReads file 104 text_name text_base text_size (named_place text_size text_place)
  text_head =
      let f = range.text in
      head_reads stands.text_head refl (omega arith) (omega (arith, f)) (named_below text_size text_place (2 ^ 64) (omega arith))

  data_head : HeadReads file 168 data_name data_base (length i.bytes) (named_place (length i.bytes) (data_place text_size))
  data_head =
      let f = range.bytes in
      let g = data_below in
      head_reads stands.data_head refl (omega arith) (omega (arith, f)) (named_below (length i.bytes) (data_place text_size) (2 ^ 64) (omega (arith, g)))

  bss_head : HeadReads file 232 bss_name (data_base + length i.bytes) i.bss 0
  bss_head = let f = range.bytes in head_reads stands.bss_head refl (omega (arith, f)) widths.bss (omega arith)

  map_head : HeadReads file 296 map_name 0 (map_size i.map) (map_place text_size (length i.bytes))
  map_head = let f = range.map.fits in head_reads stands.map_head refl (omega arith) (omega (arith, f)) map_below

  magic : number_at file 0 2 ≡ 0x183
  magic = let l = front_length in number_in stands.front 0 2 0 refl (omega (arith, l)) ∙ magic_there

  four : section_count file ≡ 4
  four = let l = front_length in number_in stands.front 2 2 2 refl (omega (arith, l)) ∙ four_there

  eighty : number_at file 20 2 ≡ 80
  eighty = let l = front_length in number_in stands.front 20 2 20 refl (omega (arith, l)) ∙ eighty_there

  entry_is : number_at file 56 8 ≡ i.entry
  entry_is = let l = optional_length i.entry i.gp in number_in stands.optional 32 8 56 refl (omega (arith, l)) ∙ entry_there i.entry i.gp widths.entry

  gp_is : number_at file 96 8 ≡ i.gp
  gp_is = let l = optional_length i.entry i.gp in number_in stands.optional 72 8 96 refl (omega (arith, l)) ∙ gp_there i.entry i.gp widths.gp

  text_long : length (word_bytes i.text) ≡ text_size
  text_long = length-word_bytes i.text

  text_bytes : section_bytes file 0 ≡ word_bytes i.text
  text_bytes =
      ap (λ (p : ℕ). bytes_at file p (section_size file 0)) text_head.place ∙ ap (λ (n : ℕ). bytes_at file (named_place text_size text_place) n) text_head.size
      ∙ ap (λ (n : ℕ). bytes_at file (named_place n text_place) n) (sym text_long) ∙ piece_back (word_bytes i.text) stands.text

  data_bytes : section_bytes file 1 ≡ i.bytes
  data_bytes =
      ap (λ (p : ℕ). bytes_at file p (section_size file 1)) data_head.place
      ∙ ap (λ (n : ℕ). bytes_at file (named_place (length i.bytes) (data_place text_size)) n) data_head.size ∙ piece_back i.bytes stands.bytes

  map_part : section_bytes file 3 ≡ map_bytes i.map
  map_part =
      ap (λ (p : ℕ). bytes_at file p (section_size file 3)) map_head.place
      ∙ ap (λ (n : ℕ). bytes_at file (map_place text_size (length i.bytes)) n) (map_head.size ∙ sym (map_length i.map)) ∙ bytes_in stands.map

  words : section_size file 0 / 4 ≡ length i.text
  words = let e = text_head.size in omega (arith, e)

  text_is : words_at 0 (section_size file 0 / 4) (section_bytes file 0) ≡ i.text
  text_is =
      ap (λ (n : ℕ). words_at 0 n (section_bytes file 0)) words ∙ ap (λ (b : List ℕ). words_at 0 (length i.text) b) text_bytes ∙ words_are i.text widths.text

  pub image_back : image_of file ≡ i
  image_back =
      same_image (number_at file 56 8) i.entry (number_at file 96 8) i.gp (words_at 0 (section_size file 0 / 4) (section_bytes file 0)) i.text
      (section_bytes file 1) i.bytes (section_size file 2) i.bss (map_of (section_bytes file 3)) i.map
      entry_is gp_is text_is data_bytes bss_head.size (ap map_of map_part ∙ map_read_back i.map range.map widths.map)

  -- ---- the rules

  module _ (valid : IsValidImage i) where
    few : length i.text ≤ 4194304
    few = let f = valid.text in omega (arith, f)

    long : 360 ≤ length file
    long =
        let e = inside stands.map_head in
        let l = header_length map_name 0 (map_size i.map) (map_place text_size (length i.bytes)) refl in
        omega (arith, e, l)

    kept_1 : rule_1 file ≡ []
    kept_1 =
        let l = long in
        place_none _ 0 (neither _ _ (is_not_lt (length file) 24 (omega (arith, l))) (ap (λ (k : ℕ). not (k == 0x183)) magic))

    kept_2 : rule_2 file ≡ []
    kept_2 = place_none _ 20 (ap (λ (k : ℕ). not (k == 80)) eighty)

    kept_3 : rule_3 file ≡ []
    kept_3 =
        let l = long in
        let e = four in
        place_none _ 24 (is_not_lt (length file) (104 + 64 * section_count file) (omega (arith, l, e)))

    kept_4 : rule_4 file ≡ []
    kept_4 =
        ap (λ (n : ℕ). if n == 4 then heads_where Named file else 2 ∷ []) four
        ∙ four_none (breaks_head Named file)
        (ap (λ (b : List ℕ). not (bytes_eq text_name b)) text_head.name_at)
        (ap (λ (b : List ℕ). not (bytes_eq data_name b)) data_head.name_at)
        (ap (λ (b : List ℕ). not (bytes_eq bss_name b)) bss_head.name_at)
        (ap (λ (b : List ℕ). not (bytes_eq map_name b)) map_head.name_at)

    text_inside : breaks_head Inside file 0 ≡ false
    text_inside =
        ap (λ (p : ℕ). is_past (length file) p (section_size file 0)) text_head.place
        ∙ ap (λ (n : ℕ). is_past (length file) (named_place text_size text_place) n) text_head.size
        ∙ ap (λ (n : ℕ). is_past (length file) (named_place n text_place) n) (sym text_long) ∙ piece_inside (word_bytes i.text) stands.text

    data_inside : breaks_head Inside file 1 ≡ false
    data_inside =
        ap (λ (p : ℕ). is_past (length file) p (section_size file 1)) data_head.place
        ∙ ap (λ (n : ℕ). is_past (length file) (named_place (length i.bytes) (data_place text_size)) n) data_head.size ∙ piece_inside i.bytes stands.bytes

    map_inside : breaks_head Inside file 3 ≡ false
    map_inside =
        let e = inside stands.map in
        let l = map_length i.map in
        ap (λ (p : ℕ). is_past (length file) p (section_size file 3)) map_head.place
        ∙ ap (λ (n : ℕ). is_past (length file) (map_place text_size (length i.bytes)) n) map_head.size
        ∙ past_none (length file) (map_place text_size (length i.bytes)) (map_size i.map) (λ some. omega (arith, e, l))

    kept_5 : rule_5 file ≡ []
    kept_5 = four_none (breaks_head Inside file) text_inside data_inside refl map_inside

    text_placed : breaks_head Placed file 0 ≡ false
    text_placed =
        let f = valid.text in
        let even : text_size % 4 ≡ 0 = omega arith in
        neither _ _ (ap (λ (a : ℕ). not (a == text_base)) text_head.address)
        (ap is_uneven text_head.size
        ∙ neither _ _ (ap (λ (n : ℕ). not (n == 0)) even) (is_not_lt text_limit text_size f))

    data_placed : breaks_head Placed file 1 ≡ false
    data_placed =
        let f = valid.bytes in
        neither _ _ (ap (λ (a : ℕ). not (a == data_base)) data_head.address)
        (ap (λ (n : ℕ). nat_lt data_limit (n + section_size file 2)) data_head.size
        ∙ ap (λ (n : ℕ). nat_lt data_limit (length i.bytes + n)) bss_head.size ∙ is_not_lt data_limit (length i.bytes + i.bss) f)

    bss_placed : breaks_head Placed file 2 ≡ false
    bss_placed =
        let a = bss_head.address in
        let s = data_head.size in
        neither _ _ (not_true (section_address file 2 == data_base + section_size file 1) (is_eq (section_address file 2) (data_base + section_size file 1) (omega (arith, a, s)))) refl

    map_placed : breaks_head Placed file 3 ≡ false
    map_placed = neither _ _ (ap (λ (a : ℕ). not (a == 0)) map_head.address) refl

    kept_6 : rule_6 file ≡ []
    kept_6 = four_none (breaks_head Placed file) text_placed data_placed bss_placed map_placed

    kept_7 : rule_7 file ≡ []
    kept_7 =
        place_none _ 56
        (not_true _ (ap (λ (n : ℕ). is_entry n (number_at file 56 8)) text_head.size ∙ ap (λ (e : ℕ). is_entry text_size e) entry_is ∙ valid.entry))

    kept_8 : rule_8 file ≡ []
    kept_8 =
        place_none _ (section_place file 3)
        (not_true _ (ap (λ (n : ℕ). is_map n (section_bytes file 3)) words ∙ ap (λ (b : List ℕ). is_map (length i.text) b) map_part
        ∙ (map_reads (length i.text) i.map few valid.map widths.map).kept))

    word_readable : (k : ℕ) → k < length i.text → is_unreadable (section_bytes file 0) (0 + k) ≡ false
    word_readable k below =
        let z : 0 + k ≡ k = omega arith in
        ap (λ (j : ℕ). is_unreadable (section_bytes file 0) j) z ∙ ap (λ (b : List ℕ). is_unreadable b k) text_bytes
        ∙ ap (λ (w : ℕ). is_none (instr_of w)) (word_is i.text widths.text k below)
        ∙ some_none (instr_of (get_or i.text k 0)) (valid.words k 0 below)

    kept_9 : rule_9 file ≡ []
    kept_9 =
        ap (λ (n : ℕ). picked (is_unreadable (section_bytes file 0)) (λ k. section_place file 0 + 4 * k) n) words
        ∙ picked_nothing (is_unreadable (section_bytes file 0)) (λ k. section_place file 0 + 4 * k) 0 (length i.text) word_readable

    empty : AreEmpty image_rules file
    unfolding AreEmpty
    empty = (kept_1, (kept_2, (kept_3, (kept_4, (kept_5, (kept_6, (kept_7, (kept_8, (kept_9, tt)))))))))

    pub image_kept : IsUnbroken image_rules file
    image_kept = record { nowhere = λ rule at b. empty_unbroken image_rules file empty rule at b }

  -- ---- what the rules say of the image

  module _ (unbroken : IsUnbroken image_rules file) where
    are_empty : AreEmpty image_rules file
    are_empty = unbroken_empty image_rules file unbroken.nowhere

    placed : (k : ℕ) → k < 4 → breaks_head Placed file (0 + k) ≡ false
    unfolding AreEmpty
    placed k below = nothing_picked (breaks_head Placed file) header_at 0 4 are_empty.1.1.1.1.1.0 k below

    text_fits : (4 * (text_size / 4) ≡ text_size) × (text_size ≤ text_limit)
    text_fits = even text_size (sym (ap is_uneven text_head.size) ∙ (neither_of _ _ (placed 0 (omega arith))).1)

    data_fits : length i.bytes + i.bss ≤ data_limit
    data_fits =
        let h = not_lt_of data_limit (section_size file 1 + section_size file 2) (neither_of _ _ (placed 1 (omega arith))).1 in
        let e = data_head.size in
        let f = bss_head.size in
        omega (arith, h, e, f)

    entry_fits : is_entry text_size i.entry ≡ true
    unfolding AreEmpty
    entry_fits =
        sym (ap (λ (n : ℕ). is_entry n (number_at file 56 8)) text_head.size ∙ ap (λ (e : ℕ). is_entry text_size e) entry_is)
        ∙ not_false _ (none_placed _ 56 are_empty.1.1.1.1.1.1.0)

    map_fits : is_map (length i.text) (map_bytes i.map) ≡ true
    unfolding AreEmpty
    map_fits =
        sym (ap (λ (n : ℕ). is_map n (section_bytes file 3)) words ∙ ap (λ (b : List ℕ). is_map (length i.text) b) map_part)
        ∙ not_false _ (none_placed _ (section_place file 3) are_empty.1.1.1.1.1.1.1.0)

    map_valid : IsMap (length i.text) i.map
    map_valid =
        let t : MapTests (length i.text) i.map =
        subst (MapTests (length i.text)) (map_read_back i.map range.map widths.map) (map_tests (length i.text) (map_bytes i.map) map_fits) in
        record {
          few_objects = range.map.few_objects;
          few_tables = range.map.few_tables;
          few_slots = range.map.few_slots;
          few_regions = range.map.few_regions;
          few_words = range.map.few_words;
          fits = range.map.fits;
          total = t.total;
          objects = t.objects;
          slots = t.slots;
          regions = t.regions;
          words = t.words;
        }

    words_valid : All (λ w. is_some (instr_of w) ≡ true) i.text
    unfolding AreEmpty
    words_valid =
        subst (λ (ws : List ℕ). All (λ w. is_some (instr_of w) ≡ true) ws) text_is
        (all_words (λ w. is_some (instr_of w) ≡ true) 0 (section_size file 0 / 4) (section_bytes file 0)
        (λ j c. let z : 0 + j ≡ j = omega arith in
        readable (section_bytes file 0) j (sym (ap (is_unreadable (section_bytes file 0)) z)
        ∙ nothing_picked (is_unreadable (section_bytes file 0)) (λ k. section_place file 0 + 4 * k) 0 (section_size file 0 / 4)
        are_empty.1.1.1.1.1.1.1.1.0 j c)))

    pub image_valid : IsValidImage i
    image_valid = record {
      text = text_fits.1;
      bytes = data_fits;
      entry = entry_fits;
      map = map_valid;
      words = words_valid;
    }

range_of : (i : Image) → IsValidImage i → IsInRange i
range_of i valid =
    let t = valid.text in
    let b = valid.bytes in
    record {
      text = omega (arith, t);
      bytes = omega (arith, b);
      map = map_in_range (length i.text) i.map (omega (arith, t)) valid.map;
    }

pub all_read : WrittenIsRead
all_read i widths valid =
    let range = range_of i valid in
    record { image = image_back i range widths; unbroken = image_kept i range widths valid }

pub all_valid : UnbrokenIsValid
all_valid i widths range unbroken = image_valid i range widths unbroken
