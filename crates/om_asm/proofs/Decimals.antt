-- Decimal numbers: digits without leading zeros are what is printed of their value.
use Rattle.std.proofs.Common.{◌≡◌, ◌⊎◌, inl, inr, ℕ, zero, suc, ◌+◌, ◌-◌, ◌*◌, ◌^◌, ◌<◌, ◌==◌, ◌&&◌, ◌||◌, Bool, true, false, not, nat_lt, nat_le, List, [], ◌∷◌, length, get_or, Option, Some, None, refl, ap, sym, subst, ◌∙◌, arith, ℤ, pos, negsuc, lit<}
use Rattle.std.specs.Prelude.{option_and_then, decimal}
use Rattle.std.specs.Fmt.{signed_decimal}
use Rattle.std.specs.List.{list_all}
use Rattle.std.specs.Int.{IsInRange}
use Rattle.std.proofs.lemmas.Bool.{eqb-true, eq-eqb, ne_eqb, lt-ltb, ltb-true, leb-true, le-leb, and_parts, and_from, or_cases, or_left, not-true, not_from_false, cond-true}
use Rattle.std.proofs.lemmas.Str.Parse.{IsNumeralModel, IsDigitsTest, FoldsDigits, numerals_by_fold}
use Rattle.std.proofs.lemmas.Fmt.{digits_decimal, digits_value-decimal, decimal-digits_value, decimal_nonempty, first_decimal, decimal_digit}
use Rattle.om_listing.specs.Texts.{register_text}
use Rattle.om_isa.proofs.Found.{then_some, if_some}
use Rattle.om_asm.specs.Numerals.{is_digit, digit_of, value_behind, Numeral, magnitude, signed, numeral_text, are_digits, begins_zero, is_plain_digits, is_plain, is_sized}
use Rattle.om_asm.specs.Statements.{is_between}
use Rattle.om_asm.specs.Reading.{behind, register_of, register_at, decimal as plain, if_plain, decimal_by, decimal_at}
use Rattle.om_asm.proofs.Pieces.{Reads, is_clear, clear_by, behind_sound, behind_found, behind_none}

digit_range : (c : ℕ) → is_digit c ≡ true → IsInRange 48 57 c
digit_range c h = let p = and_parts (nat_le 48 c) (nat_le c 57) h in (leb-true 48 c p.0, leb-true c 57 p.1)

range_digit : (c : ℕ) → IsInRange 48 57 c → is_digit c ≡ true
range_digit c h = and_from _ _ (le-leb 48 c h.0) (le-leb c 57 h.1)

tests_digits : IsDigitsTest (λ ds. list_all is_digit ds ≡ true)
tests_digits = record {
  empty = refl;
  parts = λ c cs h. let p = and_parts (is_digit c) (list_all is_digit cs) h in (digit_range c p.0, p.1);
  more = λ c cs h k. and_from _ _ (range_digit c h) k;
}

one_more : (n c : ℕ) → IsInRange 48 57 c → 10 * n + digit_of c ≡ n * 10 + (c - 48)
one_more n c h = let e : digit_of c ≡ c - 48 = cond-true (nat_le c 57) _ _ (le-leb c 57 h.1) in omega (arith, e)

folds : FoldsDigits (value_behind 10)
folds = record { empty = λ n. refl; more = λ n c cs h. ap (λ m. value_behind 10 m cs) (one_more n c h) }

pub own : IsNumeralModel (λ ds. list_all is_digit ds ≡ true) (value_behind 10 0)
own = numerals_by_fold _ tests_digits (value_behind 10) folds

-- ---- the parts of being plain

pub record IsPlain (ds : List ℕ) : Type 0 where
  pub some : 0 < length ds
  pub digits : list_all is_digit ds ≡ true
  pub first : begins_zero ds ≡ true → length ds ≡ 1

pub plain_parts : (ds : List ℕ) → is_plain_digits ds ≡ true → IsPlain ds
plain_parts ds h =
    let p = and_parts (are_digits false ds) _ h in
    let q = and_parts (nat_lt 0 (length ds)) (list_all is_digit ds) p.0 in
    record {
      some = ltb-true 0 (length ds) q.0;
      digits = q.1;
      first = λ z. one_only (or_cases (not (begins_zero ds)) (length ds == 1) p.1) z;
    }
  where
    one_only : ((not (begins_zero ds) ≡ true) ⊎ ((length ds == 1) ≡ true)) → begins_zero ds ≡ true → length ds ≡ 1
    one_only (inl n) z = let f : begins_zero ds ≡ false = not-true (begins_zero ds) n in cc
    one_only (inr e) z = eqb-true (length ds) 1 e

pub plain_from : (ds : List ℕ) → IsPlain ds → is_plain_digits ds ≡ true
plain_from ds p =
    and_from _ _ (and_from _ _ (lt-ltb 0 (length ds) p.some) p.digits) (first_by (begins_zero ds) refl)
  where
    first_by : (b : Bool) → begins_zero ds ≡ b → (not b || (length ds == 1)) ≡ true
    first_by false e = refl
    first_by true e = eq-eqb (length ds) 1 (p.first e)

zero_first : (ds : List ℕ) → 0 < length ds → get_or ds 0 0 ≡ 48 → begins_zero ds ≡ true
zero_first [] h e = absurd (omega (arith, h))
zero_first (c ∷ cs) h e = eq-eqb c 48 e

first_zero : (ds : List ℕ) → begins_zero ds ≡ true → get_or ds 0 0 ≡ 48
first_zero [] h = cc
first_zero (c ∷ cs) h = eqb-true c 48 h

-- digits without leading zeros are printed so
pub plain_back : (ds : List ℕ) → is_plain_digits ds ≡ true → value_behind 10 0 ds < 2 ^ 64 → decimal (value_behind 10 0 ds) ≡ ds
plain_back ds h small =
    let p = plain_parts ds h in
    decimal-digits_value own ds p.digits p.some (λ e. p.first (zero_first ds p.some e)) small

-- a number is printed without leading zeros
pub decimal_plain : (n : ℕ) → n < 2 ^ 64 → IsPlain (decimal n)
decimal_plain n small = record {
  some = decimal_nonempty n small;
  digits = digits_decimal own n small;
  first = λ z. zero_only n small (first_zero (decimal n) z);
}
  where
    zero_only : (n : ℕ) → n < 2 ^ 64 → get_or (decimal n) 0 0 ≡ 48 → length (decimal n) ≡ 1
    zero_only zero small e = ap length (decimal_digit 0 (omega arith))
    zero_only (suc n) small e = let f = first_decimal (suc n) (omega arith) small in absurd (omega (arith, e, f))

pub decimal_value : (n : ℕ) → n < 2 ^ 64 → value_behind 10 0 (decimal n) ≡ n
decimal_value n small = digits_value-decimal own n small

-- only 0 is printed with a zero in front
pub decimal_first : (n : ℕ) → 0 < n → n < 2 ^ 64 → begins_zero (decimal n) ≡ false
decimal_first n some small = first_by (begins_zero (decimal n)) refl where
  first_by : (b : Bool) → begins_zero (decimal n) ≡ b → b ≡ false
  first_by false e = refl
  first_by true e =
      let z = first_zero (decimal n) e in let f = first_decimal n some small in absurd (omega (arith, z, f))

-- ---- registers

register_sound : (t : List ℕ) (r : ℕ) → register_at t ≡ Some r → (register_text r ≡ t) × (nat_lt r 32 ≡ true)
unfolding register_at register_text
register_sound t r e =
    let m = then_some register_of (behind 114 t) r e in
    register_by m.0 (behind_sound 114 t m.0 m.1) (if_some _ (Some (value_behind 10 0 m.0)) None r m.2)
  where
    register_by : (ds : List ℕ) → 114 ∷ ds ≡ t →
        (((is_plain_digits ds && nat_lt (value_behind 10 0 ds) 32) ≡ true) × (Some (value_behind 10 0 ds) ≡ Some r))
        ⊎ (((is_plain_digits ds && nat_lt (value_behind 10 0 ds) 32) ≡ false) × (None ≡ Some r)) →
        (114 ∷ decimal r ≡ t) × (nat_lt r 32 ≡ true)
    register_by ds is (inl h) =
        let k = and_parts (is_plain_digits ds) (nat_lt (value_behind 10 0 ds) 32) h.0 in
        let v : value_behind 10 0 ds ≡ r = let e = h.1 in cc in
        let small : value_behind 10 0 ds < 32 = ltb-true _ _ k.1 in
        let back : decimal (value_behind 10 0 ds) ≡ ds = plain_back ds k.0 (omega (arith, small)) in
        (ap (λ q. 114 ∷ q) (ap decimal (sym v) ∙ back) ∙ is, ap (λ n. nat_lt n 32) (sym v) ∙ k.1)
    register_by ds is (inr h) = let e = h.1 in cc

register_complete : (r : ℕ) → nat_lt r 32 ≡ true → register_at (register_text r) ≡ Some r
unfolding register_at register_text
register_complete r h =
    let small : r < 32 = ltb-true r 32 h in
    let p = plain_from (decimal r) (decimal_plain r (omega (arith, small))) in
    let v = decimal_value r (omega (arith, small)) in
    ap (option_and_then register_of) (behind_found 114 (decimal r))
    ∙ cond-true _ _ _ (and_from _ _ p (ap (λ n. nat_lt n 32) v ∙ h)) ∙ ap Some v

pub reads_register : Reads register_at register_text (λ r. nat_lt r 32)
reads_register = record { sound = register_sound; complete = register_complete }

abbrev pub in_register : ℕ → Bool
in_register c = is_digit c || (c == 114)

register_kind : (ds : List ℕ) → list_all is_digit ds ≡ true → list_all in_register ds ≡ true
register_kind [] h = refl
register_kind (c ∷ cs) h =
    let p = and_parts (is_digit c) (list_all is_digit cs) h in and_from _ _ (or_left _ _ p.0) (register_kind cs p.1)

pub register_clear : (c r : ℕ) → in_register c ≡ false → nat_lt r 32 ≡ true → is_clear c (register_text r) ≡ true
unfolding register_text
register_clear c r other h =
    let small : r < 32 = ltb-true r 32 h in
    clear_by in_register c (114 ∷ decimal r) other (register_kind (decimal r) (decimal_plain r (omega (arith, small))).digits)

-- ---- numbers

plain_known : (n m : Numeral) → if_plain n ≡ Some m → (n ≡ m) × (is_plain n ≡ true)
plain_known n m e = plain_by (if_some (is_plain n) (Some n) None m e) where
  plain_by : (((is_plain n) ≡ true) × (Some n ≡ Some m)) ⊎ (((is_plain n) ≡ false) × (None ≡ Some m)) → (n ≡ m) × (is_plain n ≡ true)
  plain_by (inl h) = let e = h.1 in (cc, h.0)
  plain_by (inr h) = let e = h.1 in cc

decimal_sound : (t : List ℕ) (n : Numeral) → decimal_at t ≡ Some n → (numeral_text n ≡ t) × (is_plain n ≡ true)
unfolding decimal_at
decimal_sound t n e = decimal_by_sign (behind 45 t) refl e where
  decimal_by_sign : (o : Option (List ℕ)) → behind 45 t ≡ o → decimal_by t o ≡ Some n → (numeral_text n ≡ t) × (is_plain n ≡ true)
  decimal_by_sign None b e =
      let k = plain_known (plain false t) n e in
      let P : Numeral → Type 0 = λ m. (numeral_text m ≡ t) × (is_plain m ≡ true) in
      subst P k.0 (refl, k.1)
  decimal_by_sign (Some ds) b e =
      let k = plain_known (plain true ds) n e in
      let P : Numeral → Type 0 = λ m. (numeral_text m ≡ t) × (is_plain m ≡ true) in
      subst P k.0 (behind_sound 45 t ds b, k.1)

no_sign : (ds : List ℕ) → list_all is_digit ds ≡ true → behind 45 ds ≡ None
no_sign [] h = refl
no_sign (c ∷ cs) h =
    let p = and_parts (is_digit c) (list_all is_digit cs) h in
    let r = digit_range c p.0 in
    behind_none 45 c cs (ne_eqb c 45 (λ e. let l = r.0 in absurd (omega (arith, e, l))))

decimal_complete : (n : Numeral) → is_plain n ≡ true → decimal_at (numeral_text n) ≡ Some n
unfolding decimal_at
decimal_complete n h = complete_by n.minus n.hex n.digits h where
  complete_by : (minus hex : Bool) (ds : List ℕ) → is_plain (record { minus = minus; hex = hex; digits = ds }) ≡ true →
      decimal_by (numeral_text (record { minus = minus; hex = hex; digits = ds })) (behind 45 (numeral_text (record { minus = minus; hex = hex; digits = ds })))
      ≡ Some (record { minus = minus; hex = hex; digits = ds })
  complete_by minus true ds h = cc
  complete_by true false ds h = cond-true _ _ _ h
  complete_by false false ds h =
      let p = and_parts (is_plain_digits ds) _ h in
      ap (decimal_by ds) (no_sign ds (plain_parts ds p.0).digits) ∙ cond-true _ _ _ h

pub reads_decimal : Reads decimal_at numeral_text is_plain
reads_decimal = record { sound = decimal_sound; complete = decimal_complete }

abbrev pub in_decimal : ℕ → Bool
in_decimal c = is_digit c || (c == 45)

decimal_kind : (ds : List ℕ) → list_all is_digit ds ≡ true → list_all in_decimal ds ≡ true
decimal_kind [] h = refl
decimal_kind (c ∷ cs) h =
    let p = and_parts (is_digit c) (list_all is_digit cs) h in and_from _ _ (or_left _ _ p.0) (decimal_kind cs p.1)

pub decimal_clear : (c : ℕ) (n : Numeral) → in_decimal c ≡ false → is_plain n ≡ true → is_clear c (numeral_text n) ≡ true
decimal_clear c n other h = clear_by_sign n.minus n.hex n.digits h where
  clear_by_sign : (minus hex : Bool) (ds : List ℕ) → is_plain (record { minus = minus; hex = hex; digits = ds }) ≡ true →
      is_clear c (numeral_text (record { minus = minus; hex = hex; digits = ds })) ≡ true
  clear_by_sign minus true ds h = cc
  clear_by_sign true false ds h =
      let p = and_parts (is_plain_digits ds) _ h in
      clear_by in_decimal c (45 ∷ ds) other (decimal_kind ds (plain_parts ds p.0).digits)
  clear_by_sign false false ds h =
      let p = and_parts (is_plain_digits ds) _ h in
      clear_by in_decimal c ds other (decimal_kind ds (plain_parts ds p.0).digits)

-- ---- the numeral of an integer

abbrev pub numeral_of : ℤ → Numeral
numeral_of (pos n) = plain false (decimal n)
numeral_of (negsuc n) = plain true (decimal (suc n))

-- where a plain number is in a field that is not larger than 32 bits, it is printed as it is spelled
pub plain_printed : (low high : ℕ) (n : Numeral) → low < 2 ^ 32 → high < 2 ^ 32 → is_plain n ≡ true →
    is_sized low high n.minus (magnitude n) ≡ true → signed_decimal (signed n.minus (magnitude n)) ≡ numeral_text n
plain_printed low high n lo hi h k = printed_by n.minus n.hex n.digits h k where
  small : (minus : Bool) (m : ℕ) → is_sized low high minus m ≡ true → m < 2 ^ 64
  small true m k = let b = leb-true m low k in omega (arith, b, lo)
  small false m k = let b = leb-true m high k in omega (arith, b, hi)

  below_by : (ds : List ℕ) (m : ℕ) → value_behind 10 0 ds ≡ m → decimal m ≡ ds → begins_zero ds ≡ false →
      signed_decimal (signed true m) ≡ 45 ∷ ds
  below_by ds zero e back some =
      let z : begins_zero (48 ∷ []) ≡ begins_zero ds = ap begins_zero (sym (decimal_digit 0 (lit< tt)) ∙ back) in cc
  below_by ds (suc m) e back some = ap (λ q. 45 ∷ q) back

  printed_by : (minus hex : Bool) (ds : List ℕ) → is_plain (record { minus = minus; hex = hex; digits = ds }) ≡ true →
      is_sized low high minus (magnitude (record { minus = minus; hex = hex; digits = ds })) ≡ true →
      signed_decimal (signed minus (magnitude (record { minus = minus; hex = hex; digits = ds })))
      ≡ numeral_text (record { minus = minus; hex = hex; digits = ds })
  printed_by minus true ds h k = cc
  printed_by false false ds h k =
      let p = and_parts (is_plain_digits ds) _ h in plain_back ds p.0 (small false (value_behind 10 0 ds) k)
  printed_by true false ds h k =
      let p = and_parts (is_plain_digits ds) _ h in
      below_by ds (value_behind 10 0 ds) refl (plain_back ds p.0 (small true (value_behind 10 0 ds) k)) (not-true (begins_zero ds) p.1)

-- one that is not negative, of which the size is printed
pub plain_size : (high : ℕ) (n : Numeral) → high < 2 ^ 32 → is_plain n ≡ true → is_sized 0 high n.minus (magnitude n) ≡ true →
    decimal (magnitude n) ≡ numeral_text n
plain_size high n hi h k = size_by n.minus n.hex n.digits h k where
  none_below : (ds : List ℕ) → is_plain_digits ds ≡ true → begins_zero ds ≡ false → nat_le (value_behind 10 0 ds) 0 ≡ true → ⊥
  none_below ds p some k =
      let b = leb-true (value_behind 10 0 ds) 0 k in
      let z : value_behind 10 0 ds ≡ 0 = omega (arith, b) in
      let back = plain_back ds p (omega (arith, b)) in
      let f : begins_zero (48 ∷ []) ≡ begins_zero ds = ap begins_zero (sym (ap decimal z ∙ decimal_digit 0 (lit< tt)) ∙ back) in
      cc

  size_by : (minus hex : Bool) (ds : List ℕ) → is_plain (record { minus = minus; hex = hex; digits = ds }) ≡ true →
      is_sized 0 high minus (magnitude (record { minus = minus; hex = hex; digits = ds })) ≡ true →
      decimal (magnitude (record { minus = minus; hex = hex; digits = ds })) ≡ numeral_text (record { minus = minus; hex = hex; digits = ds })
  size_by minus true ds h k = cc
  size_by false false ds h k =
      let p = and_parts (is_plain_digits ds) _ h in
      let b = leb-true (value_behind 10 0 ds) high k in
      plain_back ds p.0 (omega (arith, b, hi))
  size_by true false ds h k =
      let p = and_parts (is_plain_digits ds) _ h in absurd (none_below ds p.0 (not-true (begins_zero ds) p.1) k)

-- an integer is in a field as its sign and size are
pub between_sized : (low high : ℕ) (minus : Bool) (m : ℕ) → is_between low high (signed minus m) ≡ is_sized low high minus m
between_sized low high false m = refl
between_sized low high true zero = le-leb 0 high (omega arith) ∙ sym (le-leb 0 low (omega arith))
between_sized low high true (suc m) = refl

-- the numeral of an integer in a field
pub record IsNumeralOf (low high : ℕ) (z : ℤ) (n : Numeral) : Type 0 where
  pub plain : is_plain n ≡ true
  pub printed : numeral_text n ≡ signed_decimal z
  pub value : signed n.minus (magnitude n) ≡ z
  pub sized : is_sized low high n.minus (magnitude n) ≡ true

pub numeral_is : (low high : ℕ) (z : ℤ) → low < 2 ^ 32 → high < 2 ^ 32 → is_between low high z ≡ true → IsNumeralOf low high z (numeral_of z)
numeral_is low high (pos n) lo hi h =
    let b = leb-true n high h in
    let small : n < 2 ^ 64 = omega (arith, b, hi) in
    let v = decimal_value n small in
    record {
      plain = and_from _ _ (plain_from (decimal n) (decimal_plain n small)) refl;
      printed = refl;
      value = ap pos v;
      sized = ap (λ m. nat_le m high) v ∙ h;
    }
numeral_is low high (negsuc n) lo hi h =
    let b = ltb-true n low h in
    let small : suc n < 2 ^ 64 = omega (arith, b, lo) in
    let v = decimal_value (suc n) small in
    record {
      plain = and_from _ _ (plain_from (decimal (suc n)) (decimal_plain (suc n) small))
          (not_from_false _ (decimal_first (suc n) (omega arith) small));
      printed = refl;
      value = ap (signed true) v;
      sized = ap (λ m. nat_le m low) v ∙ h;
    }

-- the numeral of a literal
pub literal_is : (n : ℕ) → nat_lt n 256 ≡ true → IsNumeralOf 0 255 (pos n) (numeral_of (pos n))
literal_is n h = let b = ltb-true n 256 h in numeral_is 0 255 (pos n) (lit< tt) (lit< tt) (le-leb n 255 (omega (arith, b)))
