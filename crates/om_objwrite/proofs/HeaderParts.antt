-- What is read of the headers of a written file.
use Rattle.std.proofs.Common.{◌≡◌, ◌<◌, ◌+◌, ◌^◌, ℕ, List, [], ◌++◌, length, refl, sym, ap, ◌∙◌, append_assoc, length-append, arith}
use Rattle.byteorder.specs.Endian.{little_from, little_bytes}
use Rattle.byteorder.specs.Numbers.{little_number-reads_back}
use Rattle.om_fields.specs.Bytes.{zeros}
use Rattle.om_fields.specs.Places.{number_at, bytes_at}
use Rattle.om_fields.specs.Headers.{file_header, optional_header, section_header, section_place}
use Rattle.om_objwrite.proofs.Standing.{IsAt, first_in, second_in, as_piece, number_in, bytes_in}

-- what follows the name in a section header
unfoldable pub after_name : ℕ → ℕ → ℕ → ℕ → ℕ → List ℕ
after_name address size bytes_at relocs_at relocs =
    zeros 8 ++ little_bytes 8 address ++ little_bytes 8 size ++ little_bytes 8 bytes_at ++ little_bytes 8 relocs_at ++ zeros 8
    ++ little_bytes 2 relocs ++ zeros 6

after_length : (a s b r n : ℕ) → length (after_name a s b r n) ≡ 56
unfolding after_name
after_length a s b r n = refl

header_parts : (name : List ℕ) (a s b r n : ℕ) → section_header name a s b r n ≡ name ++ after_name a s b r n
unfolding after_name section_header section_place
header_parts name a s b r n = simp append_assoc refl

-- the fields of a section header
pub record HeadReads (file : List ℕ) (at : ℕ) (name : List ℕ) (a s b r n : ℕ) : Type 0 where
  pub name_at : bytes_at file at 8 ≡ name
  pub addr : number_at file (at + 16) 8 ≡ a
  pub size : number_at file (at + 24) 8 ≡ s
  pub bytes_at : number_at file (at + 32) 8 ≡ b
  pub relocs_at : number_at file (at + 40) 8 ≡ r
  pub relocs : number_at file (at + 56) 2 ≡ n

addr_there : (a s b r n : ℕ) → a < 2 ^ 64 → little_from 8 8 (after_name a s b r n) ≡ a
unfolding after_name
addr_there a s b r n h = little_number-reads_back 8 a [] h

size_there : (a s b r n : ℕ) → s < 2 ^ 64 → little_from 16 8 (after_name a s b r n) ≡ s
unfolding after_name
size_there a s b r n h = little_number-reads_back 8 s [] h

bytes_there : (a s b r n : ℕ) → b < 2 ^ 64 → little_from 24 8 (after_name a s b r n) ≡ b
unfolding after_name
bytes_there a s b r n h = little_number-reads_back 8 b [] h

relocs_there : (a s b r n : ℕ) → r < 2 ^ 64 → little_from 32 8 (after_name a s b r n) ≡ r
unfolding after_name
relocs_there a s b r n h = little_number-reads_back 8 r [] h

count_there : (a s b r n : ℕ) → n < 2 ^ 16 → little_from 48 2 (after_name a s b r n) ≡ n
unfolding after_name
count_there a s b r n h = little_number-reads_back 2 n [] h

pub head_reads : {file name : List ℕ} {at a s b r n : ℕ} → IsAt file (section_header name a s b r n) at → length name ≡ 8
    → a < 2 ^ 64 → s < 2 ^ 64 → b < 2 ^ 64 → r < 2 ^ 64 → n < 2 ^ 16 → HeadReads file at name a s b r n
head_reads {file} {name} {at} {a} {s} {b} {r} {n} h eight fa fs fb fr fn =
    let parts = as_piece h (header_parts name a s b r n) in
    let fields : IsAt file (after_name a s b r n) (at + 8) =
    second_in name (after_name a s b r n) (at + 8) parts (ap (λ (k : ℕ). at + k) eight) in
    let long = after_length a s b r n in
    record {
      name_at = ap (λ (k : ℕ). bytes_at file at k) (sym eight) ∙ bytes_in (first_in name (after_name a s b r n) parts);
      addr = number_in fields 8 8 (at + 16) (omega arith) (omega (arith, long)) ∙ addr_there a s b r n fa;
      size = number_in fields 16 8 (at + 24) (omega arith) (omega (arith, long)) ∙ size_there a s b r n fs;
      bytes_at = number_in fields 24 8 (at + 32) (omega arith) (omega (arith, long)) ∙ bytes_there a s b r n fb;
      relocs_at = number_in fields 32 8 (at + 40) (omega arith) (omega (arith, long)) ∙ relocs_there a s b r n fr;
      relocs = number_in fields 48 2 (at + 56) (omega arith) (omega (arith, long)) ∙ count_there a s b r n fn;
    }

-- ---- the file header and the optional header

file_header_length : (n s : ℕ) → length (file_header n s 144) ≡ 24
unfolding file_header
file_header_length n s = refl

magic_there : (n s : ℕ) → little_from 0 2 (file_header n s 144) ≡ 0x183
unfolding file_header
magic_there n s = refl

sections_there : (n s : ℕ) → n < 2 ^ 16 → little_from 2 2 (file_header n s 144) ≡ n
unfolding file_header
sections_there n s h = little_number-reads_back 2 n [] h

symbolic_there : (n s : ℕ) → s < 2 ^ 64 → little_from 8 8 (file_header n s 144) ≡ s
unfolding file_header
symbolic_there n s h = little_number-reads_back 8 s [] h

optional_there : (n s : ℕ) → little_from 20 2 (file_header n s 144) ≡ 80
unfolding file_header
optional_there n s = refl

optional_length : (gp : ℕ) → length (optional_header 0 gp) ≡ 80
unfolding optional_header
optional_length gp = refl

gp_there : (gp : ℕ) → gp < 2 ^ 64 → little_from 72 8 (optional_header 0 gp) ≡ gp
unfolding optional_header
gp_there gp h = little_number-reads_back 8 gp [] h

pub record FrontReads (file : List ℕ) (n s gp : ℕ) : Type 0 where
  pub magic : number_at file 0 2 ≡ 0x183
  pub sections : number_at file 2 2 ≡ n
  pub symbolic : number_at file 8 8 ≡ s
  pub optional : number_at file 20 2 ≡ 80
  pub gp_at : number_at file 96 8 ≡ gp

pub front_reads : {file : List ℕ} {n s gp : ℕ} → IsAt file (file_header n s 144 ++ optional_header 0 gp) 0 → n < 2 ^ 16 → s < 2 ^ 64 → gp < 2 ^ 64
    → FrontReads file n s gp
front_reads {file} {n} {s} {gp} h fn fs fg =
    let front : IsAt file (file_header n s 144) 0 = first_in (file_header n s 144) (optional_header 0 gp) h in
    let long = file_header_length n s in
    let optional : IsAt file (optional_header 0 gp) 24 =
    second_in (file_header n s 144) (optional_header 0 gp) 24 h (omega (arith, long)) in
    let more = optional_length gp in
    record {
      magic = number_in front 0 2 0 (omega arith) (omega (arith, long)) ∙ magic_there n s;
      sections = number_in front 2 2 2 (omega arith) (omega (arith, long)) ∙ sections_there n s fn;
      symbolic = number_in front 8 8 8 (omega arith) (omega (arith, long)) ∙ symbolic_there n s fs;
      optional = number_in front 20 2 20 (omega arith) (omega (arith, long)) ∙ optional_there n s;
      gp_at = number_in optional 72 8 96 (omega arith) (omega (arith, more)) ∙ gp_there gp fg;
    }

pub front_length : (n s gp : ℕ) → length (file_header n s 144 ++ optional_header 0 gp) ≡ 104
front_length n s gp =
    let e = length-append (file_header n s 144) (optional_header 0 gp) in
    let f = file_header_length n s in
    let g = optional_length gp in
    omega (arith, e, f, g)

pub header_length : (name : List ℕ) (a s b r n : ℕ) → length name ≡ 8 → length (section_header name a s b r n) ≡ 64
header_length name a s b r n h =
    let e = ap length (header_parts name a s b r n) in
    let f = length-append name (after_name a s b r n) in
    let g = after_length a s b r n in
    omega (arith, e, f, g, h)
