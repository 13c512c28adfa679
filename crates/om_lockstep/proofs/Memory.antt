-- Cells and bytes stay alike.
use Rattle.std.proofs.Common.{◌≡◌, inl, inr, ℕ, zero, suc, ◌+◌, ◌-◌, ◌*◌, ◌/◌, ◌%◌, ◌^◌, ◌<◌, ◌≤◌, Bool, true, false, cond, ◌&&◌, ◌==◌, nat_lt, nat_le, List, [], ◌∷◌, length, map, Option, Some, None, refl, ap, sym as back, subst, ◌∙◌, arith, slice_index, slice_index_or, lit<}
use Rattle.std.specs.Prelude.{option_map}
use Rattle.std.proofs.lemmas.List.{length-map}
use Rattle.std.proofs.lemmas.Bool.{eqb-true}
use Rattle.std.proofs.lemmas.Bool.Decides.{nat_tests}
use Rattle.std.proofs.Math.Nat.{pow-suc, mod-one, div-one, div-div-eq-div-mul, one-le-pow}
use Rattle.std.proofs.Math.Arith.{mod-mul}
use Rattle.om_value.specs.declared.value.Region.{Region}
use Rattle.om_value.specs.declared.value.Value.{Value}
use Rattle.om_value.specs.declared.value.Value.TheVariants.{Num}
use Rattle.om_value.specs.Same.{region_eq, value_eq}
use Rattle.om_prog.specs.Cells.{store_cells, Cell, Byte, Part, all_bytes, are_parts, whole_value, or_whole, cells_from, value_in, number_of}
use Rattle.om_image.specs.NumAccess.{written, bytes_from}
use Rattle.om_lockstep.specs.Addresses.{Addresses, IsLaidOut, IsValue, IsCell, IsLong, FitsIn, number_of_value}
use Rattle.om_lockstep.specs.Goes.{cell_byte, MemoryAlike, IsFixed}
use Rattle.om_lockstep.proofs.Small.{and_true, same_region, region_self, same_value}

-- ---- stores

-- byte k of the bytes of cells
pub mapped_at : (l : Addresses) (cs : List Cell) (k : ℕ) → slice_index (map (cell_byte l) cs) k ≡ cell_byte l (slice_index_or cs k (Byte 0))
mapped_at l [] k = refl
mapped_at l (c ∷ cs) zero = refl
mapped_at l (c ∷ cs) (suc k) = mapped_at l cs k

-- one choice, made by two tests that agree
choices : (l : Addresses) (b c : Bool) (p q : ℕ) (u v : Cell) → b ≡ c → (c ≡ true → p ≡ cell_byte l u) → q ≡ cell_byte l v → cond b p q ≡ cell_byte l (cond c u v)
choices l true true p q u v e f g = f refl
choices l false false p q u v e f g = g
choices l true false p q u v e f g = cc
choices l false true p q u v e f g = cc

range_is : (base x y n m : ℕ) → n ≡ m → (nat_le (base + x) (base + y) && nat_lt (base + y) (base + x + n)) ≡ (nat_le x y && nat_lt y (x + m))
range_is base x y n m e = grind (arith, nat_tests)

in_range : (x y n : ℕ) → (nat_le x y && nat_lt y (x + n)) ≡ true → (x ≤ y) × (y < x + n)
in_range x y n e = grind (arith, nat_tests)

-- a write at the same place of a region and of its addresses
same_write : (l : Addresses) (base x y : ℕ) (cs : List Cell) (old : ℕ → Cell) (memory : ℕ → ℕ) → memory (base + y) ≡ cell_byte l (old y) → written memory (base + x, map (cell_byte l) cs) (base + y) ≡ cell_byte l (store_cells old x cs y)
same_write l base x y cs old memory h =
    choices l _ (nat_le x y && nat_lt y (x + length cs)) _ _ (slice_index_or cs (y - x) (Byte 0)) (old y)
    (range_is base x y (length (map (cell_byte l) cs)) (length cs) (length-map cs (cell_byte l)))
    (λ t. let r = in_range x y (length cs) t in
    let k : base + y - (base + x) ≡ y - x = omega arith in
    ap (slice_index (map (cell_byte l) cs)) k ∙ mapped_at l cs (y - x))
    h

-- an address outside the write
other_write : (memory : ℕ → ℕ) (a b : ℕ) (bs : List ℕ) → ((b ≤ a) × (a < b + length bs) → ⊥) → written memory (b, bs) a ≡ memory a
other_write memory a b bs out = outside (nat_le b a && nat_lt a (b + length bs)) refl
  where
    outside : (t : Bool) → (nat_le b a && nat_lt a (b + length bs)) ≡ t → cond (nat_le b a && nat_lt a (b + length bs)) (slice_index bs (a - b)) (memory a) ≡ memory a
    outside true e = absurd (out (in_range b a (length bs) e))
    outside false e = rw e refl

abbrev pub after_write : (Region → ℕ → Cell) → Region → ℕ → List Cell → Region → ℕ → Cell
after_write cells r x cs s y = cond (region_eq s r) (store_cells (cells s) x cs y) (cells s y)

module _ (l : Addresses) (most : Region → ℕ) (ok : IsLaidOut l most) (size : Region → ℕ) (sized : (r : Region) → size r ≤ most r) where
  pub store_alike : (cells : Region → ℕ → Cell) (memory : ℕ → ℕ) (r : Region) (x : ℕ) (cs : List Cell) → MemoryAlike l size cells memory → x + length cs ≤ size r → MemoryAlike l size (after_write cells r x cs) (written memory (l.region r + x, map (cell_byte l) cs))
  store_alike cells memory r x cs alike fits = record {
    agrees = λ s y h. by_region s y h (region_eq s r) refl;
  }
    where
      by_region : (s : Region) (y : ℕ) → y < size s → (b : Bool) → region_eq s r ≡ b → written memory (l.region r + x, map (cell_byte l) cs) (l.region s + y) ≡ cell_byte l (cond b (store_cells (cells s) x cs y) (cells s y))
      by_region s y h true e =
          let same = same_region s r e in
          subst (λ q. written memory (l.region q + x, map (cell_byte l) cs) (l.region s + y) ≡ cell_byte l (store_cells (cells s) x cs y)) same
          (same_write l (l.region s) x y cs (cells s) memory (alike.agrees s y h))
      by_region s y h false e =
          other_write memory (l.region s + y) (l.region r + x) (map (cell_byte l) cs)
          (λ i. let n = length-map cs (cell_byte l) in
          let zs = sized s in
          let zr = sized r in
          let k : l.region r + (l.region s + y - l.region r) ≡ l.region s + y = omega arith in
          let inside : l.region s + y - l.region r < most r = omega (arith, n, i.0, i.1) in
          let same : s ≡ r = ok.apart s r y (l.region s + y - l.region r) (omega arith) inside (back k) in
          let t : region_eq s r ≡ true = subst (λ q. region_eq s q ≡ true) same (region_self s) in
          cc)
          ∙ alike.agrees s y h

  -- what is outside regions stays
  pub store_fixed : (memory : ℕ → ℕ) (r : Region) (x : ℕ) (bs : List ℕ) (a : ℕ) → x + length bs ≤ size r → IsFixed l most a → written memory (l.region r + x, bs) a ≡ memory a
  store_fixed memory r x bs a fits fixed =
      other_write memory a (l.region r + x) bs
      (λ i. let z = sized r in
      let k : a ≡ l.region r + (a - l.region r) = omega (arith, i.0) in
      let inside : a - l.region r < most r = omega (arith, i.0, i.1) in
      fixed.outside r (a - l.region r) inside k)

  -- ---- loads

  -- the bytes at the addresses of cells are the bytes of the cells
  pub bytes_are : (cells : Region → ℕ → Cell) (memory : ℕ → ℕ) (r : Region) (x n : ℕ) → MemoryAlike l size cells memory → x + n ≤ size r → bytes_from memory (l.region r + x) n ≡ map (cell_byte l) (cells_from (cells r) x n)
  bytes_are cells memory r x zero alike h = refl
  bytes_are cells memory r x (suc n) alike h =
      let here : memory (l.region r + x) ≡ cell_byte l (cells r x) = alike.agrees r x (omega arith) in
      let next : l.region r + x + 1 ≡ l.region r + (x + 1) = omega arith in
      let rest = bytes_are cells memory r (x + 1) n alike (omega arith) in
      rw (here, next, rest) refl

map_byte : (o : Option (List ℕ)) (b : ℕ) (bs : List ℕ) → option_map (λ bs. b ∷ bs) o ≡ Some bs → (cs : List ℕ) × (o ≡ Some cs) × (bs ≡ b ∷ cs)
map_byte None b bs e = cc
map_byte (Some cs) b bs e = (cs, refl, cc)

-- cells that are all bytes
pub all_are : (l : Addresses) (cs : List Cell) (bs : List ℕ) → all_bytes cs ≡ Some bs → map (cell_byte l) cs ≡ bs
all_are l [] bs e = cc
all_are l (Byte b ∷ cs) bs e =
    let m = map_byte (all_bytes cs) b bs e in
    let h = all_are l cs m.0 m.1 in
    rw h (back m.2)
all_are l (Part v i n ∷ cs) bs e = cc

-- one byte more of a number
pub digit : (N i k : ℕ) → N / 256 ^ i % 256 + 256 * (N / 256 ^ (i + 1) % 256 ^ k) ≡ N / 256 ^ i % 256 ^ suc k
digit N i k =
    let p : i + 1 ≡ suc i = omega arith in
    let next : N / 256 ^ (i + 1) ≡ N / 256 ^ i / 256 = ap (λ j. N / 256 ^ j) p ∙ ap (λ m. N / m) (pow-suc 256 i) ∙ back (div-div-eq-div-mul N (256 ^ i) 256) in
    let positive : 1 ≤ 256 ^ k = one-le-pow k 256 (lit< tt) in
    let whole : N / 256 ^ i % 256 ^ suc k ≡ (N / 256 ^ i / 256 % 256 ^ k) * 256 + N / 256 ^ i % 256 = ap (λ m. N / 256 ^ i % m) (pow-suc 256 k) ∙ mod-mul (N / 256 ^ i) {m = 256 ^ k} {c = 256} positive (lit< tt) in
    let low : N / 256 ^ (i + 1) % 256 ^ k ≡ N / 256 ^ i / 256 % 256 ^ k = ap (λ a. a % 256 ^ k) next in
    omega (arith, whole, low)

-- cells that are the fragments of a value from i on
parts_are : (l : Addresses) (v : Value) (i n : ℕ) (cs : List Cell) → are_parts v i n cs ≡ true → (number_of (map (cell_byte l) cs) ≡ number_of_value l v / 256 ^ i % 256 ^ length cs) × (i + length cs ≡ n)
parts_are l v i n [] e = (back (mod-one _), let f = eqb-true i n e in omega arith)
parts_are l v i n (Byte b ∷ cs) e = cc
parts_are l v i n (Part w j m ∷ cs) e =
    let a = and_true (value_eq v w && (i == j) && (n == m)) (are_parts v (i + 1) n cs) e in
    let b = and_true (value_eq v w && (i == j)) (n == m) a.0 in
    let c = and_true (value_eq v w) (i == j) b.0 in
    let vw : v ≡ w = same_value v w c.0 in
    let ij : i ≡ j = eqb-true i j c.1 in
    let rest = parts_are l v (i + 1) n cs a.1 in
    let byte : number_of_value l w / 256 ^ j % 256 ≡ number_of_value l v / 256 ^ i % 256 = ap (λ w. number_of_value l w / 256 ^ j % 256) (back vw) ∙ ap (λ j. number_of_value l v / 256 ^ j % 256) (back ij) in
    let q = rest.1 in
    (rw (byte, rest.0) (digit (number_of_value l v) i (length cs)), omega arith)

pub cells_length : (cell : ℕ → Cell) (x n : ℕ) → length (cells_from cell x n) ≡ n
cells_length cell x zero = refl
cells_length cell x (suc n) = ap suc (cells_length cell (x + 1) n)

-- each of the cells is one
abbrev pub AreCells : Addresses → List Cell → Type 0
AreCells l cs = (k : ℕ) → IsCell l (slice_index_or cs k (Byte 0))

pub cells_are : (l : Addresses) (cell : ℕ → Cell) → ((x : ℕ) → IsCell l (cell x)) → (x n : ℕ) → AreCells l (cells_from cell x n)
cells_are l cell h x zero k = omega arith
cells_are l cell h x (suc n) zero = h x
cells_are l cell h x (suc n) (suc k) = cells_are l cell h (x + 1) n k

-- the number of n bytes
bytes_below : (l : Addresses) (cs : List Cell) (bs : List ℕ) → AreCells l cs → all_bytes cs ≡ Some bs → number_of bs < 256 ^ length cs
bytes_below l [] bs h e = let z : [] ≡ bs = cc in subst (λ bs. number_of bs < 1) z (omega arith)
bytes_below l (Byte b ∷ cs) bs h e =
    let m = map_byte (all_bytes cs) b bs e in
    let rest = bytes_below l cs m.0 (λ k. h (suc k)) m.1 in
    let here : b < 256 = h zero in
    let p = pow-suc 256 (length cs) in
    let q : number_of bs ≡ b + 256 * number_of m.0 = ap number_of m.2 in
    omega (arith, rest, p, q)
bytes_below l (Part v i n ∷ cs) bs h e = cc

-- what n cells give: a number, or a value of eight fragments, or one of four that LDL gives back
pub data Loaded (l : Addresses) (n : ℕ) (bytes : List ℕ) (v : Value) : Type 0 where
  a_number : (m : ℕ) → v ≡ Num m → number_of bytes ≡ m → m < 256 ^ n → Loaded l n bytes v
  of_eight : n ≡ 8 → number_of bytes ≡ number_of_value l v % 256 ^ 8 → IsValue v → Loaded l n bytes v
  of_four : n ≡ 4 → number_of bytes ≡ number_of_value l v % 256 ^ 4 → IsLong (number_of_value l v) → IsValue v → Loaded l n bytes v

whole_loaded : (l : Addresses) (cs : List Cell) (v : Value) → AreCells l cs → whole_value cs ≡ Some v → Loaded l (length cs) (map (cell_byte l) cs) v
whole_loaded l [] v h e = cc
whole_loaded l (Byte b ∷ cs) v h e = cc
whole_loaded l (Part w i n ∷ cs) v h e = by_test (are_parts w 0 n (Part w i n ∷ cs)) refl e
  where
    by_size : FitsIn l n w → are_parts w 0 n (Part w i n ∷ cs) ≡ true → Loaded l (length (Part w i n ∷ cs)) (map (cell_byte l) (Part w i n ∷ cs)) w
    by_size f t =
        let p = parts_are l w 0 n (Part w i n ∷ cs) t in
        let z : length (Part w i n ∷ cs) ≡ n = omega (arith, p.1) in
        let number : number_of (map (cell_byte l) (Part w i n ∷ cs)) ≡ number_of_value l w % 256 ^ length (Part w i n ∷ cs) = p.0 ∙ ap (λ m. m % 256 ^ length (Part w i n ∷ cs)) (div-one _) in
        by_case f z number
      where
        by_case : FitsIn l n w → length (Part w i n ∷ cs) ≡ n → number_of (map (cell_byte l) (Part w i n ∷ cs)) ≡ number_of_value l w % 256 ^ length (Part w i n ∷ cs) → Loaded l (length (Part w i n ∷ cs)) (map (cell_byte l) (Part w i n ∷ cs)) w
        by_case (inl eight) z number = of_eight (z ∙ eight) (number ∙ ap (λ k. number_of_value l w % 256 ^ k) (z ∙ eight)) (h zero).0
        by_case (inr four) z number = of_four (z ∙ four.0) (number ∙ ap (λ k. number_of_value l w % 256 ^ k) (z ∙ four.0)) four.1 (h zero).0

    by_test : (b : Bool) → are_parts w 0 n (Part w i n ∷ cs) ≡ b → cond b (Some w) None ≡ Some v → Loaded l (length (Part w i n ∷ cs)) (map (cell_byte l) (Part w i n ∷ cs)) v
    by_test true t e =
        let same : w ≡ v = cc in
        subst (λ v. Loaded l (length (Part w i n ∷ cs)) (map (cell_byte l) (Part w i n ∷ cs)) v) same (by_size (h zero).1 t)
    by_test false t e = cc

pub loaded : (l : Addresses) (cs : List Cell) (v : Value) → AreCells l cs → value_in cs ≡ Some v → Loaded l (length cs) (map (cell_byte l) cs) v
loaded l cs v h e = by_bytes (all_bytes cs) refl e
  where
    by_bytes : (o : Option (List ℕ)) → all_bytes cs ≡ o → or_whole o cs ≡ Some v → Loaded l (length cs) (map (cell_byte l) cs) v
    by_bytes (Some bs) a e =
        let num : v ≡ Num (number_of bs) = cc in
        a_number (number_of bs) num (ap number_of (all_are l cs bs a)) (bytes_below l cs bs h a)
    by_bytes None a e = whole_loaded l cs v h e
