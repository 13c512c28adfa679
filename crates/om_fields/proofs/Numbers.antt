-- Numbers and words at places of lists that are put together: what every reader of a written file needs.
use Rattle.std.proofs.Common.{◌≡◌, ◌<◌, ◌≤◌, ◌+◌, ◌-◌, ◌*◌, ◌^◌, ℕ, zero, suc, List, [], ◌∷◌, ◌++◌, length, get_or, lit<, refl, sym, ap, ◌∙◌, append_assoc, length-append, arith}
use Rattle.std.proofs.lemmas.List.{get_or_append_left}
use Rattle.byteorder.specs.Endian.{little_from, little_bytes}
use Rattle.byteorder.specs.Numbers.{little_from-cons, little_number-reads_back, little_from-lt}
use Rattle.om_fields.specs.Bytes.{word_bytes, words_at}

-- a number in front stays where bytes follow
pub little_from-append : (i n : ℕ) (xs ys : List ℕ) → i + n ≤ length xs → little_from i n (xs ++ ys) ≡ little_from i n xs
little_from-append i zero xs ys within = refl
little_from-append i (suc n) xs ys within =
    let first : get_or (xs ++ ys) i 0 ≡ get_or xs i 0 = get_or_append_left xs ys 0 i (omega arith) in
    let rest = little_from-append (suc i) n xs ys (omega arith) in
    rw (first, rest) refl

-- a number past the bytes in front
pub little_from-past : (front ys : List ℕ) (i n : ℕ) → little_from (length front + i) n (front ++ ys) ≡ little_from i n ys
little_from-past [] ys i n = ap (λ (k : ℕ). little_from k n ys) (omega arith)
little_from-past (x ∷ front) ys i n =
    let place : suc (length front) + i ≡ suc (length front + i) = omega arith in
    ap (λ (k : ℕ). little_from k n (x ∷ (front ++ ys))) place ∙ little_from-cons (length front + i) n x (front ++ ys)
    ∙ little_from-past front ys i n

-- a number written behind some bytes, and before others
pub number_back : (front rest : List ℕ) (n x place : ℕ) → place ≡ length front → x < 256 ^ n →
    little_from place n (front ++ (little_bytes n x ++ rest)) ≡ x
number_back front rest n x place at fits =
    let start : place ≡ length front + 0 = omega arith in
    ap (λ (k : ℕ). little_from k n (front ++ (little_bytes n x ++ rest))) start
    ∙ little_from-past front (little_bytes n x ++ rest) 0 n ∙ little_number-reads_back n x rest fits

-- the words behind some bytes
pub words_back : (words front rest : List ℕ) (place : ℕ) → place ≡ length front → ((k : ℕ) → get_or words k 0 < 2 ^ 32) →
    words_at place (length words) (front ++ (word_bytes words ++ rest)) ≡ words
words_back [] front rest place at fits = refl
words_back (word ∷ words) front rest place at fits =
    let first : little_from place 4 (front ++ (word_bytes (word ∷ words) ++ rest)) ≡ word =
    number_back front (word_bytes words ++ rest) 4 word place at (fits 0) in
    let others : words_at (place + 4) (length words) (front ++ (word_bytes (word ∷ words) ++ rest)) ≡ words =
    ap (words_at (place + 4) (length words)) (sym (append_assoc front (little_bytes 4 word) (word_bytes words ++ rest)))
    ∙ words_back words (front ++ little_bytes 4 word) rest (place + 4)
    (ap (λ (k : ℕ). k + 4) at ∙ sym (length-append front (little_bytes 4 word))) (λ k. fits (suc k)) in
    ap (λ (w : ℕ). w ∷ words_at (place + 4) (length words) (front ++ (word_bytes (word ∷ words) ++ rest))) first
    ∙ ap (λ (ws : List ℕ). word ∷ ws) others

pub length-word_bytes : (words : List ℕ) → length (word_bytes words) ≡ 4 * length words
length-word_bytes [] = refl
length-word_bytes (word ∷ words) = let more = length-word_bytes words in omega arith

pub length-words_at : (place count : ℕ) (bytes : List ℕ) → length (words_at place count bytes) ≡ count
length-words_at place zero bytes = refl
length-words_at place (suc count) bytes = ap suc (length-words_at (place + 4) count bytes)

-- one more word is read
pub words_at-next : (words : List ℕ) (at i count word : ℕ) (bytes all : List ℕ) → i < count →
    word ≡ little_from (at + 4 * i) 4 bytes → words ++ words_at (at + 4 * i) (count - i) bytes ≡ all →
    (words ++ word ∷ []) ++ words_at (at + 4 * (i + 1)) (count - (i + 1)) bytes ≡ all
words_at-next words at i count word bytes all below is so_far =
    let left : count - i ≡ suc (count - (i + 1)) = omega arith in
    let next : at + 4 * (i + 1) ≡ at + 4 * i + 4 = omega arith in
    rw (append_assoc, next, is) (rw left at so_far)

-- words that are read of bytes fit
pub words_at-fits : (place count : ℕ) (bytes : List ℕ) → ((k : ℕ) → get_or bytes k 0 < 256) → (k : ℕ) →
    get_or (words_at place count bytes) k 0 < 2 ^ 32
words_at-fits place zero bytes fits k = lit< tt
words_at-fits place (suc count) bytes fits zero = little_from-lt place 4 bytes fits
words_at-fits place (suc count) bytes fits (suc k) = words_at-fits (place + 4) count bytes fits k
