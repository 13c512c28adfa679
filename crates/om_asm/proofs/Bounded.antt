-- Values of digits of which all from some number on count as that number.
use Rattle.std.proofs.Common.{◌≡◌, ◌⊎◌, inl, inr, ℕ, suc, ◌+◌, ◌*◌, ◌^◌, ◌≤◌, ◌<◌, min, nat_le, ◌-◌, true, length, drop, get_or, drop-cons, List, [], ◌∷◌, ap, sym, ◌∙◌, arith}
use Rattle.std.proofs.lemmas.Bool.{cases_lt, and_parts, cond-true}
use Rattle.std.specs.List.{list_all}
use Rattle.om_asm.specs.Numerals.{is_digit, digit_of, value_behind}

-- a greater number before gives no lesser one
value_grows : (m n : ℕ) (cs : List ℕ) → m ≤ n → value_behind 10 m cs ≤ value_behind 10 n cs
value_grows m n [] h = h
value_grows m n (c ∷ cs) h = value_grows (10 * m + digit_of c) (10 * n + digit_of c) cs (grow (digit_of c)) where
  grow : (d : ℕ) → 10 * m + d ≤ 10 * n + d
  grow d = omega (arith, h)

value_most : (n : ℕ) (cs : List ℕ) → n ≤ value_behind 10 n cs
value_most n [] = omega arith
value_most n (c ∷ cs) = let r = value_most (10 * n + digit_of c) cs in omega (arith, r)

-- the value of the rest, where what is before it is bounded
pub value_bounded : (m : ℕ) (cs : List ℕ) → min (2 ^ 64) (value_behind 10 (min m (2 ^ 64)) cs) ≡ min (2 ^ 64) (value_behind 10 m cs)
value_bounded m cs = bounded_by (cases_lt m (2 ^ 64)) where
  bounded_by : (m < 2 ^ 64) ⊎ (2 ^ 64 ≤ m) → min (2 ^ 64) (value_behind 10 (min m (2 ^ 64)) cs) ≡ min (2 ^ 64) (value_behind 10 m cs)
  bounded_by (inl l) = let e : min m (2 ^ 64) ≡ m = omega (arith, l) in ap (λ n. min (2 ^ 64) (value_behind 10 n cs)) e
  bounded_by (inr l) =
      let e : min m (2 ^ 64) ≡ 2 ^ 64 = omega (arith, l) in
      let a = value_most (min m (2 ^ 64)) cs in
      let b = value_most m cs in
      omega (arith, a, b, e, l)

digit_value : (c : ℕ) → is_digit c ≡ true → digit_of c ≡ c - 48
digit_value c h = cond-true (nat_le c 57) _ _ (and_parts (nat_le 48 c) (nat_le c 57) h).1

-- one more digit of a text
pub one_more : (t : List ℕ) (i v r : ℕ) → i < length t → min (2 ^ 64) (value_behind 10 0 t) ≡ min (2 ^ 64) (value_behind 10 v (drop i t)) →
    list_all is_digit (drop i t) ≡ true → r ≡ min (10 * v + (get_or t i 0 - 48)) (2 ^ 64) →
    (min (2 ^ 64) (value_behind 10 0 t) ≡ min (2 ^ 64) (value_behind 10 r (drop (i + 1) t))) × (r ≤ 2 ^ 64) × (list_all is_digit (drop (i + 1) t) ≡ true)
one_more t i v r below e h is =
    let d : drop i t ≡ get_or t i 0 ∷ drop (suc i) t = drop-cons t i 0 below in
    let k : suc i ≡ i + 1 = omega arith in
    let d' : drop i t ≡ get_or t i 0 ∷ drop (i + 1) t = d ∙ ap (λ n. get_or t i 0 ∷ drop n t) k in
    let p = and_parts (is_digit (get_or t i 0)) (list_all is_digit (drop (i + 1) t)) (sym (ap (list_all is_digit) d') ∙ h) in
    let v' : 10 * v + digit_of (get_or t i 0) ≡ 10 * v + (get_or t i 0 - 48) = ap (λ n. 10 * v + n) (digit_value (get_or t i 0) p.0) in (
      e ∙ ap (λ q. min (2 ^ 64) (value_behind 10 v q)) d' ∙ ap (λ n. min (2 ^ 64) (value_behind 10 n (drop (i + 1) t))) v'
          ∙ sym (value_bounded (10 * v + (get_or t i 0 - 48)) (drop (i + 1) t)) ∙ ap (λ n. min (2 ^ 64) (value_behind 10 n (drop (i + 1) t))) (sym is),
      omega (arith, is),
      p.1,
    )
