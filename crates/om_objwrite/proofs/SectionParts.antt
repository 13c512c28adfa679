-- What is read of the sections of a written file.
use Rattle.std.proofs.Common.{◌≡◌, ◌<◌, ◌+◌, ◌*◌, ◌^◌, ℕ, zero, suc, Bool, true, false, List, [], ◌∷◌, length, get_or, refl, sym, ap, ◌∙◌, arith, cond}
use Rattle.std.specs.Prelude.{Option, Some, find, option_map, unwrap_or, ◌==◌, ◌&&◌, not, is_none, if◌then◌else◌, flat_map}
use Rattle.std.proofs.lemmas.Bool.{eqb-true}
use Rattle.std.proofs.lemmas.Bool.Decides.{nat_tests}
use Rattle.om_fields.specs.Bytes.{zeros}
use Rattle.om_fields.specs.Places.{number_at, bytes_at, each, is_past}
use Rattle.om_fields.specs.Sections.{loaded_sections, name_of_number, number_of_name, is_bss}
use Rattle.om_fields.specs.Headers.{section_header}
use Rattle.om_fields.specs.HeaderFields.{header_at, head_of, number_of, runs_past, has_bytes}
use Rattle.om_reloc.specs.declared.reloc.Reloc.{Reloc}
use Rattle.om_reloc.specs.Relocs.{reloc_at, relocs_of, table_is_past, is_over}
use Rattle.om_object.specs.declared.parts.Section.{Section}
use Rattle.om_object.specs.Rules.{no_section, no_reloc, bytes_wanted}
use Rattle.om_object.specs.File.{section_of_head, bytes_of_section}
use Rattle.om_objwrite.specs.Written.{name_bytes, block_place, block_end, block, blocks, blocks_end, reloc_bytes, table_of, tables, bodies, section_headers}
use Rattle.om_objwrite.proofs.Tables.{relocs_length}
use Rattle.om_objwrite.proofs.Steps.{ends_above}
use Rattle.om_objwrite.proofs.Standing.{IsAt, first_in, second_in, at_place}
use Rattle.om_objwrite.proofs.HeaderParts.{head_reads, header_length}
use Rattle.om_objwrite.proofs.RelocParts.{RelocFine, entries_back}
use Rattle.om_objwrite.proofs.BlockParts.{block_stands, block_bytes, block_inside, block_length, place_below}

-- ---- names

pub record NameReads (n : ℕ) (name : List ℕ) : Type 0 where
  pub eight : length name ≡ 8
  pub number : number_of_name name ≡ Some n
  pub small : n < 16

AreNamed : List (ℕ × List ℕ) → Type 0
AreNamed [] = Unit {0}
AreNamed (e ∷ es) = NameReads e.0 e.1 × AreNamed es

all_named : AreNamed loaded_sections
unfolding AreNamed number_of_name
all_named = (
  record { eight = refl; number = refl; small = omega arith },
  (
    record { eight = refl; number = refl; small = omega arith },
    (
      record { eight = refl; number = refl; small = omega arith },
      (
        record { eight = refl; number = refl; small = omega arith },
        (
          record { eight = refl; number = refl; small = omega arith },
          (
            record { eight = refl; number = refl; small = omega arith },
            (
              record { eight = refl; number = refl; small = omega arith },
              (
                record { eight = refl; number = refl; small = omega arith },
                (record { eight = refl; number = refl; small = omega arith }, (record { eight = refl; number = refl; small = omega arith }, tt)),
              ),
            ),
          ),
        ),
      ),
    ),
  ),
)

named_as : (m n : ℕ) (name : List ℕ) → m ≡ n → NameReads m name → NameReads n name
named_as m n name e h = record { eight = h.eight; number = h.number ∙ ap Some e; small = let f = h.small in omega (arith, e, f) }

found_by : (n : ℕ) (e : ℕ × List ℕ) (rest : Option (ℕ × List ℕ)) (t : Bool) → (e.0 == n) ≡ t → NameReads e.0 e.1
    → (is_none (option_map (λ (s : ℕ × List ℕ). s.1) rest) ≡ false → NameReads n (unwrap_or (option_map (λ (s : ℕ × List ℕ). s.1) rest) (zeros 8)))
    → is_none (option_map (λ (s : ℕ × List ℕ). s.1) (cond t (Some e) rest)) ≡ false
    → NameReads n (unwrap_or (option_map (λ (s : ℕ × List ℕ). s.1) (cond t (Some e) rest)) (zeros 8))
found_by n e rest true q h more some = named_as e.0 n e.1 (eqb-true e.0 n q) h
found_by n e rest false q h more some = more some

found_named : (n : ℕ) (es : List (ℕ × List ℕ)) → AreNamed es → is_none (option_map (λ s. s.1) (find (λ s. s.0 == n) es)) ≡ false
    → NameReads n (unwrap_or (option_map (λ s. s.1) (find (λ s. s.0 == n) es)) (zeros 8))
unfolding AreNamed
found_named n [] h some = cc
found_named n (e ∷ es) h some = found_by n e (find (λ s. s.0 == n) es) (e.0 == n) refl h.0 (found_named n es h.1) some

pub name_reads : (n : ℕ) → is_none (name_of_number n) ≡ false → NameReads n (name_bytes n)
name_reads n h = found_named n loaded_sections all_named h

-- ---- one section

-- a section that can be read back
pub record SectionFine (s : Section) : Type 0 where
  pub named : is_none (name_of_number s.number) ≡ false
  pub addr : s.addr < 2 ^ 64
  pub size : s.size < 2 ^ 64
  pub bytes : length s.bytes ≡ bytes_wanted s
  pub count : length s.relocs < 65535
  pub relocs : (i : ℕ) → i < length s.relocs → RelocFine (get_or s.relocs i no_reloc)

-- the k-th header of a file is that of a section, which lies in the file
pub record SectionIn (file : List ℕ) (k : ℕ) (s : Section) : Type 0 where
  pub number : number_of file k ≡ Some s.number
  pub addr : number_at file (header_at k + 16) 8 ≡ s.addr
  pub size : number_at file (header_at k + 24) 8 ≡ s.size
  pub section : section_of_head file k ≡ s
  pub bytes : runs_past file k ≡ false
  pub table : table_is_past file (head_of file k) ≡ false
  pub count : is_over (head_of file k) ≡ false

no_bytes : (bs : List ℕ) → length bs ≡ 0 → [] ≡ bs
no_bytes [] h = refl
no_bytes (b ∷ bs) h = absurd (omega (arith, h))

bytes_by : {file : List ℕ} (b : ℕ) (s : Section) (t : Bool) → IsAt file (block 16 b s.bytes) b → length s.bytes ≡ cond t 0 s.size
    → cond t [] (bytes_at file (block_place 16 b (length s.bytes)) s.size) ≡ s.bytes
bytes_by b s true h e = no_bytes s.bytes e
bytes_by {file} b s false h e =
    ap (λ (n : ℕ). bytes_at file (block_place 16 b (length s.bytes)) n) (sym e) ∙ block_bytes 16 b s.bytes (omega arith) h

bytes_back : {file : List ℕ} (b : ℕ) (s : Section) (n at size : ℕ) → IsAt file (block 16 b s.bytes) b → length s.bytes ≡ bytes_wanted s
    → n ≡ s.number → at ≡ block_place 16 b (length s.bytes) → size ≡ s.size → (if is_bss n then [] else bytes_at file at size) ≡ s.bytes
bytes_back {file} b s n at size h e en ea es =
    ap (λ (m : ℕ). if is_bss m then [] else bytes_at file at size) en
    ∙ ap (λ (m : ℕ). if is_bss s.number then [] else bytes_at file m size) ea
    ∙ ap (λ (m : ℕ). if is_bss s.number then [] else bytes_at file (block_place 16 b (length s.bytes)) m) es
    ∙ bytes_by b s (is_bss s.number) h e

past_by : {file : List ℕ} (b : ℕ) (s : Section) (t : Bool) → IsAt file (block 16 b s.bytes) b → length s.bytes ≡ cond t 0 s.size
    → (not t && is_past (length file) (block_place 16 b (length s.bytes)) s.size) ≡ false
past_by b s true h e = refl
past_by {file} b s false h e =
    ap (λ (n : ℕ). is_past (length file) (block_place 16 b (length s.bytes)) n) (sym e) ∙ block_inside 16 b s.bytes (omega arith) h

past_back : {file : List ℕ} (b : ℕ) (s : Section) (n : Option ℕ) (at size : ℕ) → IsAt file (block 16 b s.bytes) b → length s.bytes ≡ bytes_wanted s
    → n ≡ Some s.number → at ≡ block_place 16 b (length s.bytes) → size ≡ s.size → (has_bytes n && is_past (length file) at size) ≡ false
past_back {file} b s n at size h e en ea es =
    ap (λ (m : Option ℕ). has_bytes m && is_past (length file) at size) en
    ∙ ap (λ (m : ℕ). not (is_bss s.number) && is_past (length file) m size) ea
    ∙ ap (λ (m : ℕ). not (is_bss s.number) && is_past (length file) (block_place 16 b (length s.bytes)) m) es
    ∙ past_by b s (is_bss s.number) h e

table_back : {file : List ℕ} (t : ℕ) (rs : List Reloc) → IsAt file (block 8 t (flat_map reloc_bytes rs)) t
    → ((i : ℕ) → i < length rs → RelocFine (get_or rs i no_reloc))
    → each (λ i. reloc_at file (block_place 8 t (length (flat_map reloc_bytes rs)) + 16 * i)) (length rs) ≡ rs
table_back t [] h fine = refl
table_back t (r ∷ rs) h fine =
    let long = relocs_length (r ∷ rs) in
    entries_back (r ∷ rs) (block_place 8 t (length (flat_map reloc_bytes (r ∷ rs)))) 0
    (at_place (block_stands 8 t (flat_map reloc_bytes (r ∷ rs)) (omega arith) (omega (arith, long)) h) (omega arith)) fine

count_small : (n : ℕ) → n < 65535 → (n == 65535) ≡ false
count_small n h = grind (arith, nat_tests)

same_section : (n m a b s t : ℕ) (xs ys : List ℕ) (rs qs : List Reloc) → n ≡ m → a ≡ b → s ≡ t → xs ≡ ys → rs ≡ qs
    → (let c : Section = record { number = n; addr = a; size = s; bytes = xs; relocs = rs } in
    let d : Section = record { number = m; addr = b; size = t; bytes = ys; relocs = qs } in c ≡ d)
same_section n m a b s t xs ys rs qs hn ha hs hx hr = cc

pub section_in : {file : List ℕ} (k b t : ℕ) (s : Section)
    → IsAt file (section_header (name_bytes s.number) s.addr s.size (block_place 16 b (length s.bytes)) (block_place 8 t (length (table_of s))) (length s.relocs)) (header_at k)
    → IsAt file (block 16 b s.bytes) b → IsAt file (block 8 t (table_of s)) t → SectionFine s
    → block_place 16 b (length s.bytes) < 2 ^ 62 → block_place 8 t (length (table_of s)) < 2 ^ 62 → SectionIn file k s
section_in {file} k b t s hh hb ht fine fb ft =
    let named = name_reads s.number fine.named in
    let few = fine.count in
    let reads = head_reads hh named.eight fine.addr fine.size (omega (arith, fb)) (omega (arith, ft)) (omega (arith, few)) in
    let is_number : number_of file k ≡ Some s.number = ap number_of_name reads.name_at ∙ named.number in
    let table_size : 16 * length s.relocs ≡ length (table_of s) = sym (relocs_length s.relocs) in
    record {
      number = is_number;
      addr = reads.addr;
      size = reads.size;
      section = same_section (unwrap_or (number_of file k) 0) s.number (number_at file (header_at k + 16) 8) s.addr (number_at file (header_at k + 24) 8) s.size
          (bytes_of_section file (unwrap_or (number_of file k) 0) (head_of file k)) s.bytes (relocs_of file (head_of file k)) s.relocs
          (ap (λ (o : Option ℕ). unwrap_or o 0) is_number) reads.addr reads.size
          (bytes_back b s (unwrap_or (number_of file k) 0) (number_at file (header_at k + 32) 8) (number_at file (header_at k + 24) 8) hb fine.bytes
          (ap (λ (o : Option ℕ). unwrap_or o 0) is_number) reads.bytes_at reads.size)
          (ap (λ (n : ℕ). each (λ i. reloc_at file (number_at file (header_at k + 40) 8 + 16 * i)) n) reads.relocs
          ∙ ap (λ (at : ℕ). each (λ i. reloc_at file (at + 16 * i)) (length s.relocs)) reads.relocs_at ∙ table_back t s.relocs ht fine.relocs);
      bytes = past_back b s (number_of file k) (number_at file (header_at k + 32) 8) (number_at file (header_at k + 24) 8) hb fine.bytes is_number reads.bytes_at reads.size;
      table = ap (λ (n : ℕ). is_past (length file) (number_at file (header_at k + 40) 8) (16 * n)) reads.relocs
          ∙ ap (λ (at : ℕ). is_past (length file) at (16 * length s.relocs)) reads.relocs_at
          ∙ ap (λ (n : ℕ). is_past (length file) (block_place 8 t (length (table_of s))) n) table_size
          ∙ block_inside 8 t (table_of s) (omega arith) ht;
      count = ap (λ (n : ℕ). n == 65535) reads.relocs ∙ count_small (length s.relocs) fine.count;
    }

-- ---- all sections

pub sections_in : {file : List ℕ} (ss : List Section) (k b t : ℕ) → IsAt file (section_headers b t ss) (header_at k)
    → IsAt file (blocks 16 b (bodies ss)) b → IsAt file (blocks 8 t (tables ss)) t
    → blocks_end 16 b (bodies ss) < 2 ^ 62 → blocks_end 8 t (tables ss) < 2 ^ 62
    → ((i : ℕ) → i < length ss → SectionFine (get_or ss i no_section))
    → (j : ℕ) → j < length ss → SectionIn file (k + j) (get_or ss j no_section)
sections_in [] k b t hh hb ht eb et fine j h = absurd (omega arith)
sections_in {file} (s ∷ ss) k b t hh hb ht eb et fine zero h =
    let e : k + 0 ≡ k = omega arith in
    let ab = ends_above 16 (block_end 16 b (length s.bytes)) (bodies ss) (omega arith) in
    let at = ends_above 8 (block_end 8 t (length (table_of s))) (tables ss) (omega arith) in
    let pb = place_below 16 b (length s.bytes) in
    let pt = place_below 8 t (length (table_of s)) in
    let cb : blocks_end 16 (block_end 16 b (length s.bytes)) (bodies ss) < 2 ^ 62 = eb in
    let ct : blocks_end 8 (block_end 8 t (length (table_of s))) (tables ss) < 2 ^ 62 = et in
    let here : SectionIn file k s = section_in k b t s
    (first_in _ (section_headers (block_end 16 b (length s.bytes)) (block_end 8 t (length (table_of s))) ss) hh)
    (first_in (block 16 b s.bytes) (blocks 16 (block_end 16 b (length s.bytes)) (bodies ss)) hb)
    (first_in (block 8 t (table_of s)) (blocks 8 (block_end 8 t (length (table_of s))) (tables ss)) ht)
    (fine 0 (omega arith)) (omega (arith, ab, pb, cb)) (omega (arith, at, pt, ct)) in
    rw e here
sections_in {file} (s ∷ ss) k b t hh hb ht eb et fine (suc j) h =
    let e : k + suc j ≡ k + 1 + j = omega arith in
    let named = name_reads s.number (fine 0 (omega arith)).named in
    let long = header_length (name_bytes s.number) s.addr s.size (block_place 16 b (length s.bytes)) (block_place 8 t (length (table_of s))) (length s.relocs) named.eight in
    let there : SectionIn file (k + 1 + j) (get_or ss j no_section) = sections_in ss (k + 1) (block_end 16 b (length s.bytes)) (block_end 8 t (length (table_of s)))
    (second_in (section_header (name_bytes s.number) s.addr s.size (block_place 16 b (length s.bytes)) (block_place 8 t (length (table_of s))) (length s.relocs))
    (section_headers (block_end 16 b (length s.bytes)) (block_end 8 t (length (table_of s))) ss) (header_at (k + 1)) hh (omega (arith, long)))
    (second_in (block 16 b s.bytes) (blocks 16 (block_end 16 b (length s.bytes)) (bodies ss)) (block_end 16 b (length s.bytes)) hb (block_length 16 b s.bytes (omega arith)))
    (second_in (block 8 t (table_of s)) (blocks 8 (block_end 8 t (length (table_of s))) (tables ss)) (block_end 8 t (length (table_of s))) ht (block_length 8 t (table_of s) (omega arith)))
    eb et (λ i below. fine (suc i) (omega arith)) j (omega arith) in
    rw e there
