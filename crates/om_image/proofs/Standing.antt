-- Pieces of a file or of a map at their places, and what is read of them.
use Rattle.std.proofs.Common.{◌≡◌, ◌≤◌, ◌+◌, ◌*◌, ℕ, List, [], ◌++◌, length, take, drop, refl, sym, ap, ◌∙◌, append_assoc, append-nil, length-append, arith}
use Rattle.std.specs.Prelude.{slice_index}
use Rattle.byteorder.specs.Endian.{little_from}
use Rattle.om_fields.specs.Places.{number_at, bytes_at}
use Rattle.om_fields.proofs.Numbers.{little_from-append, little_from-past}
use Rattle.om_fields.proofs.Slices.{bytes_at-past}

pub record IsAt (file piece : List ℕ) (place : ℕ) : Type 0 where
  pub front : List ℕ
  pub rest : List ℕ
  pub is : file ≡ front ++ (piece ++ rest)
  pub at : place ≡ length front

pub whole : (file : List ℕ) → IsAt file file 0
whole file = record { front = []; rest = []; is = sym (append-nil file); at = refl }

-- the first of two pieces, and the second
pub first_in : {file : List ℕ} {place : ℕ} (a b : List ℕ) → IsAt file (a ++ b) place → IsAt file a place
first_in a b h =
    record { front = h.front; rest = b ++ h.rest; is = h.is ∙ ap (λ (x : List ℕ). h.front ++ x) (append_assoc a b h.rest); at = h.at }

pub second_in : {file : List ℕ} {place : ℕ} (a b : List ℕ) (other : ℕ) → IsAt file (a ++ b) place → place + length a ≡ other → IsAt file b other
second_in a b other h e =
    record {
      front = h.front ++ a;
      rest = h.rest;
      is = h.is ∙ ap (λ (x : List ℕ). h.front ++ x) (append_assoc a b h.rest) ∙ sym (append_assoc h.front a (b ++ h.rest));
      at = sym e ∙ ap (λ n. n + length a) h.at ∙ sym (length-append h.front a);
    }

pub at_place : {file piece : List ℕ} {place other : ℕ} → IsAt file piece place → place ≡ other → IsAt file piece other
at_place h e = record { front = h.front; rest = h.rest; is = h.is; at = sym e ∙ h.at }

pub as_piece : {file piece other : List ℕ} {place : ℕ} → IsAt file piece place → piece ≡ other → IsAt file other place
as_piece h e = record { front = h.front; rest = h.rest; is = h.is ∙ ap (λ (x : List ℕ). h.front ++ (x ++ h.rest)) e; at = h.at }

-- a number in a piece
pub number_in : {file piece : List ℕ} {place : ℕ} → IsAt file piece place → (i n at : ℕ) → at ≡ place + i → i + n ≤ length piece
    → number_at file at n ≡ little_from i n piece
number_in {file} {piece} {place} h i n at e within =
    ap (λ (j : ℕ). little_from j n file) (e ∙ ap (λ (q : ℕ). q + i) h.at) ∙ ap (little_from (length h.front + i) n) h.is
    ∙ little_from-past h.front (piece ++ h.rest) i n ∙ little_from-append i n piece h.rest within

-- a byte in a piece
pub byte_in : {file piece : List ℕ} {place : ℕ} → IsAt file piece place → (i at : ℕ) → at ≡ place + i → i + 1 ≤ length piece
    → slice_index file at ≡ slice_index piece i
byte_in {file} {piece} {place} h i at e within =
    let f : slice_index file at + 256 * 0 ≡ slice_index piece i + 256 * 0 = number_in h i 1 at e within in
    omega (arith, f)

-- the bytes of a piece
pub bytes_in : {file piece : List ℕ} {place : ℕ} → IsAt file piece place → bytes_at file place (length piece) ≡ piece
bytes_in {file} {piece} {place} h =
    ap (λ (j : ℕ). take (length piece) (drop j file)) h.at ∙ ap (λ (x : List ℕ). take (length piece) (drop (length h.front) x)) h.is
    ∙ bytes_at-past h.front piece h.rest

pub inside : {file piece : List ℕ} {place : ℕ} → IsAt file piece place → place + length piece ≤ length file
inside {file} {piece} {place} h =
    let e : length file ≡ length (h.front ++ (piece ++ h.rest)) = ap length h.is in
    let f = length-append h.front (piece ++ h.rest) in
    let g = length-append piece h.rest in
    let k = h.at in
    omega (arith, e, f, g, k)
