-- Bytes that are put at addresses in order stand there, with zeros between and none behind.
use Rattle.std.proofs.Common.{◌≡◌, ℕ, zero, suc, ◌+◌, ◌-◌, ◌<◌, ◌≤◌, List, [], ◌∷◌, ◌++◌, length, get_or, take, drop, inl, inr, refl, ap, sym, subst, ◌∙◌, arith, length-append, length-drop}
use Rattle.std.proofs.Math.Decide.{dec_le}
use Rattle.std.proofs.lemmas.List.{get_or_append_left, get_or-append_right, get_or-take, get_or-drop}
use Rattle.om_fields.specs.Bytes.{zeros}
use Rattle.om_graph.specs.View.{Has}
use Rattle.om_layout.specs.Layout.{data_base}
use Rattle.om_encode.specs.DataBytes.{Piece, padded_to, with_piece, with_pieces, overlay}

pub zeros_length : (n : ℕ) → length (zeros n) ≡ n
zeros_length zero = refl
zeros_length (suc n) = ap suc (zeros_length n)

pub past_all : (xs : List ℕ) (k : ℕ) → length xs ≤ k → get_or xs k 0 ≡ 0
past_all [] k h = refl
past_all (x ∷ xs) zero h = absurd (omega arith)
past_all (x ∷ xs) (suc k) h = past_all xs k (omega (arith, h))

pub zeros_at : (n k : ℕ) → get_or (zeros n) k 0 ≡ 0
zeros_at zero k = refl
zeros_at (suc n) zero = refl
zeros_at (suc n) (suc k) = zeros_at n k

-- ---- pieces in order

-- each piece begins where the one before ends, or later
abbrev pub Ascends : ℕ → List Piece → Type 0
Ascends a [] = Unit {0}
Ascends a (x ∷ xs) = (a ≤ x.at) × Ascends (x.at + length x.bytes) xs

abbrev pub pieces_end : ℕ → List Piece → ℕ
pieces_end a [] = a
pieces_end a (x ∷ xs) = pieces_end (x.at + length x.bytes) xs

padded_length : (a : ℕ) (out : List ℕ) → data_base + length out ≤ a → length (padded_to a out) ≡ a - data_base
padded_length a out h =
    let n = zeros_length (a - data_base - length out) in
    let m = length-append out (zeros (a - data_base - length out)) in
    omega (arith, n, m, h)

piece_length : (x : Piece) (out : List ℕ) → data_base + length out ≤ x.at → data_base + length (with_piece x out) ≡ x.at + length x.bytes
piece_length x out h =
    let n = padded_length x.at out h in
    let m = length-append (padded_to x.at out) x.bytes in
    omega (arith, n, m, h)

pub pieces_length : (xs : List Piece) (out : List ℕ) → Ascends (data_base + length out) xs → data_base + length (with_pieces xs out) ≡ pieces_end (data_base + length out) xs
pieces_length [] out h = refl
pieces_length (x ∷ xs) out h =
    let e = piece_length x out h.0 in
    pieces_length xs (with_piece x out) (subst (λ (a : ℕ). Ascends a xs) (sym e) h.1) ∙ ap (λ (a : ℕ). pieces_end a xs) e

-- what is there stays
piece_front : (x : Piece) (out : List ℕ) (k : ℕ) → k < length out → get_or (with_piece x out) k 0 ≡ get_or out k 0
piece_front x out k h =
    let m = length-append out (zeros (x.at - data_base - length out)) in
    get_or_append_left (padded_to x.at out) x.bytes 0 k (omega (arith, m, h))
    ∙ get_or_append_left out (zeros (x.at - data_base - length out)) 0 k h

piece_longer : (x : Piece) (out : List ℕ) → length out ≤ length (with_piece x out)
piece_longer x out =
    let m = length-append out (zeros (x.at - data_base - length out)) in
    let n = length-append (padded_to x.at out) x.bytes in
    omega (arith, m, n)

front : (xs : List Piece) (out : List ℕ) (k : ℕ) → k < length out → get_or (with_pieces xs out) k 0 ≡ get_or out k 0
front [] out k h = refl
front (x ∷ xs) out k h =
    let m = piece_longer x out in
    front xs (with_piece x out) k (omega (arith, m, h)) ∙ piece_front x out k h

-- a piece stands at its address
piece_at : (x : Piece) (out : List ℕ) (j : ℕ) → data_base + length out ≤ x.at → j < length x.bytes → get_or (with_piece x out) (x.at - data_base + j) 0 ≡ get_or x.bytes j 0
piece_at x out j h lt =
    let n = padded_length x.at out h in
    let e : x.at - data_base + j - (x.at - data_base) ≡ j = omega arith in
    get_or-append_right (padded_to x.at out) x.bytes (x.at - data_base) (x.at - data_base + j) 0 n (omega arith) ∙ ap (λ (i : ℕ). get_or x.bytes i 0) e

pub piece_stands :
    (xs : List Piece) (out : List ℕ) → Ascends (data_base + length out) xs → (x : Piece) (j : ℕ) → Has xs x → j < length x.bytes →
    get_or (with_pieces xs out) (x.at - data_base + j) 0 ≡ get_or x.bytes j 0
piece_stands [] out h x j e lt = absurd e
piece_stands (v ∷ vs) out h x j (inl s) lt =
    let n = piece_length v out h.0 in
    let a = h.0 in
    let m : length v.bytes ≡ length x.bytes = ap (λ (y : Piece). length y.bytes) s in
    subst (λ (y : Piece). get_or (with_pieces vs (with_piece v out)) (y.at - data_base + j) 0 ≡ get_or y.bytes j 0) s
    (front vs (with_piece v out) (v.at - data_base + j) (omega (arith, n, lt, a, m)) ∙ piece_at v out j h.0 (omega (arith, lt, m)))
piece_stands (v ∷ vs) out h x j (inr e) lt =
    piece_stands vs (with_piece v out) (subst (λ (a : ℕ). Ascends a vs) (sym (piece_length v out h.0)) h.1) x j e lt

-- an address is in no piece
abbrev pub IsOutside : List Piece → ℕ → Type 0
IsOutside xs a = (x : Piece) → Has xs x → x.at ≤ a → a < x.at + length x.bytes → ⊥

pub none_stands :
    (xs : List Piece) (out : List ℕ) → Ascends (data_base + length out) xs → (n : ℕ) → length out ≤ n → IsOutside xs (data_base + n) →
    get_or (with_pieces xs out) n 0 ≡ 0
none_stands [] out h n le f = past_all out n le
none_stands (v ∷ vs) out h n le f =
    by_place (dec_le (length (with_piece v out)) n)
    (λ b a. none_stands vs (with_piece v out) b n a (λ x e. f x (inr e)))
  where
    len : data_base + length (with_piece v out) ≡ v.at + length v.bytes
    len = piece_length v out h.0

    gap : n < v.at - data_base → get_or (with_piece v out) n 0 ≡ 0
    gap lt =
        let m = padded_length v.at out h.0 in
        get_or_append_left (padded_to v.at out) v.bytes 0 n (omega (arith, m, lt))
        ∙ get_or-append_right out (zeros (v.at - data_base - length out)) (length out) n 0 refl le
        ∙ zeros_at (v.at - data_base - length out) (n - length out)

    inside : Dec (v.at ≤ data_base + n) → n < length (with_piece v out) → get_or (with_piece v out) n 0 ≡ 0
    inside (yes a) lt = let e = len in absurd (f v (inl refl) a (omega (arith, lt, e)))
    inside (no a) lt = gap (omega (arith, a))

    by_place :
        Dec (length (with_piece v out) ≤ n) →
        (Ascends (data_base + length (with_piece v out)) vs → length (with_piece v out) ≤ n → get_or (with_pieces vs (with_piece v out)) n 0 ≡ 0) →
        get_or (with_pieces vs (with_piece v out)) n 0 ≡ 0
    by_place (yes a) later = later (subst (λ (b : ℕ). Ascends b vs) (sym len) h.1) a
    by_place (no a) later =
        let lt : n < length (with_piece v out) = omega (arith, a) in
        front vs (with_piece v out) n lt ∙ inside (dec_le v.at (data_base + n)) lt

-- ---- pieces behind others

pub pieces_append : (xs ys : List Piece) (out : List ℕ) → with_pieces (xs ++ ys) out ≡ with_pieces ys (with_pieces xs out)
pieces_append [] ys out = refl
pieces_append (x ∷ xs) ys out = pieces_append xs ys (with_piece x out)

pub ends_append : (a : ℕ) (xs ys : List Piece) → pieces_end a (xs ++ ys) ≡ pieces_end (pieces_end a xs) ys
ends_append a [] ys = refl
ends_append a (x ∷ xs) ys = ends_append (x.at + length x.bytes) xs ys

pub ascends_append : (a : ℕ) (xs ys : List Piece) → Ascends a xs → Ascends (pieces_end a xs) ys → Ascends a (xs ++ ys)
ascends_append a [] ys h k = k
ascends_append a (x ∷ xs) ys h k = (h.0, ascends_append (x.at + length x.bytes) xs ys h.1 k)

pub ascends_before : (a b : ℕ) (xs : List Piece) → a ≤ b → Ascends b xs → Ascends a xs
ascends_before a b [] le h = tt
ascends_before a b (x ∷ xs) le h = (let k = h.0 in omega (arith, le, k), h.1)

-- ---- bytes over others

module _ (at : ℕ) (bytes xs : List ℕ) (fits : at + length bytes ≤ length xs) where
  take_length : length (take at xs) ≡ at
  take_length = length_take at xs (omega (arith, fits))
    where
      length_take : (n : ℕ) (ys : List ℕ) → n ≤ length ys → length (take n ys) ≡ n
      length_take zero ys h = refl
      length_take (suc n) [] h = absurd (omega (arith, h))
      length_take (suc n) (y ∷ ys) h = ap suc (length_take n ys (omega (arith, h)))

  pub overlay_length : length (overlay at bytes xs) ≡ length xs
  overlay_length =
      let a = length-append (take at xs) (bytes ++ drop (at + length bytes) xs) in
      let b = length-append bytes (drop (at + length bytes) xs) in
      let c = length-drop (at + length bytes) xs in
      let d = take_length in
      omega (arith, a, b, c, d, fits)

  pub overlay_in : (k : ℕ) → at ≤ k → k < at + length bytes → get_or (overlay at bytes xs) k 0 ≡ get_or bytes (k - at) 0
  overlay_in k le lt =
      get_or-append_right (take at xs) (bytes ++ drop (at + length bytes) xs) at k 0 take_length le
      ∙ get_or_append_left bytes (drop (at + length bytes) xs) 0 (k - at) (omega (arith, le, lt))

  overlay_before : (k : ℕ) → k < at → get_or (overlay at bytes xs) k 0 ≡ get_or xs k 0
  overlay_before k lt =
      let n = take_length in
      get_or_append_left (take at xs) (bytes ++ drop (at + length bytes) xs) 0 k (omega (arith, lt, n)) ∙ get_or-take at xs k 0 lt

  overlay_behind : (k : ℕ) → at + length bytes ≤ k → get_or (overlay at bytes xs) k 0 ≡ get_or xs k 0
  overlay_behind k le =
      let e : at + length bytes + (k - at - length bytes) ≡ k = omega (arith, le) in
      get_or-append_right (take at xs) (bytes ++ drop (at + length bytes) xs) at k 0 take_length (omega (arith, le))
      ∙ get_or-append_right bytes (drop (at + length bytes) xs) (length bytes) (k - at) 0 refl (omega (arith, le))
      ∙ get_or-drop (at + length bytes) xs (k - at - length bytes) 0
      ∙ ap (λ (i : ℕ). get_or xs i 0) e

  pub overlay_out : (k : ℕ) → (at ≤ k → k < at + length bytes → ⊥) → get_or (overlay at bytes xs) k 0 ≡ get_or xs k 0
  overlay_out k f = by_place (dec_le at k) (dec_le (at + length bytes) k)
    where
      by_place : Dec (at ≤ k) → Dec (at + length bytes ≤ k) → get_or (overlay at bytes xs) k 0 ≡ get_or xs k 0
      by_place d (yes b) = overlay_behind k b
      by_place (yes a) (no b) = absurd (f a (omega (arith, b)))
      by_place (no a) (no b) = overlay_before k (omega (arith, a))

take_past : (out zone : List ℕ) (n : ℕ) → take (length out + n) (out ++ zone) ≡ out ++ take n zone
take_past [] zone n = let e : 0 + n ≡ n = omega arith in ap (λ (k : ℕ). take k zone) e
take_past (x ∷ out) zone n = let e : suc (length out) + n ≡ suc (length out + n) = omega arith in rw e (ap (λ ys. x ∷ ys) (take_past out zone n))

drop_past : (out zone : List ℕ) (n : ℕ) → drop (length out + n) (out ++ zone) ≡ drop n zone
drop_past [] zone n = let e : 0 + n ≡ n = omega arith in ap (λ (k : ℕ). drop k zone) e
drop_past (x ∷ out) zone n = let e : suc (length out) + n ≡ suc (length out + n) = omega arith in rw e (drop_past out zone n)

append_assoc_back : (xs ys zs : List ℕ) → xs ++ (ys ++ zs) ≡ (xs ++ ys) ++ zs
append_assoc_back [] ys zs = refl
append_assoc_back (x ∷ xs) ys zs = ap (λ us. x ∷ us) (append_assoc_back xs ys zs)

-- behind other bytes
pub overlay_past : (out zone bytes : List ℕ) (at : ℕ) → overlay (length out + at) bytes (out ++ zone) ≡ out ++ overlay at bytes zone
overlay_past out zone bytes at =
    let e : length out + at + length bytes ≡ length out + (at + length bytes) = omega arith in
    ap (λ (xs : List ℕ). xs ++ (bytes ++ drop (length out + at + length bytes) (out ++ zone))) (take_past out zone at)
    ∙ ap (λ (n : ℕ). (out ++ take at zone) ++ (bytes ++ drop n (out ++ zone))) e
    ∙ ap (λ (xs : List ℕ). (out ++ take at zone) ++ (bytes ++ xs)) (drop_past out zone (at + length bytes))
    ∙ sym (append_assoc_back out (take at zone) (bytes ++ drop (at + length bytes) zone))
