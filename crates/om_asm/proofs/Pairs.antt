-- Operands as they are spelled: how they are read.
use Rattle.std.proofs.Common.{◌≡◌, ℕ, ◌&&◌, Bool, true, List, [], ◌∷◌, ◌++◌, Option, Some, None, refl, ap, sym, subst, ◌∙◌, nat_lt}
use Rattle.std.specs.Prelude.{option_map}
use Rattle.om_listing.specs.Texts.{register_text}
use Rattle.om_isa.proofs.Found.{map_some}
use Rattle.om_asm.specs.declared.operands.Operand.{Operand}
use Rattle.om_asm.specs.declared.operands.Operand.TheVariants.{Register, Literal}
use Rattle.om_asm.specs.Numerals.{Numeral, numeral_text, is_plain}
use Rattle.om_asm.specs.Reading.{behind, both, register_at, decimal_at, number_of, number_at, closed_at, base_at, address_at, operand_by, operand_at, result_at}
use Rattle.om_asm.proofs.Pieces.{Reads, is_clear, reads_both, reads_ended, reads_behind, behind_sound, behind_found, both_mapped}
use Rattle.om_asm.proofs.Decimals.{reads_register, register_clear, reads_decimal, decimal_clear}

abbrev pub is_reg : ℕ → Bool
is_reg r = nat_lt r 32

abbrev pub closed_text : ℕ → List ℕ
closed_text r = register_text r ++ 41 ∷ []

pub reads_closed : Reads closed_at closed_text is_reg
reads_closed = reads_ended 41 register_at register_text is_reg reads_register (λ r h. register_clear 41 r refl h)

pub reads_base : Reads base_at (λ r. 40 ∷ closed_text r) is_reg
unfolding base_at
reads_base = reads_behind 40 closed_at closed_text is_reg reads_closed

-- ---- a number and a register in parentheses

abbrev pub place_at : List ℕ → Option (Numeral × ℕ)
place_at t = both 40 decimal_at closed_at t

abbrev pub place_text : Numeral × ℕ → List ℕ
place_text q = numeral_text q.0 ++ 40 ∷ closed_text q.1

abbrev pub is_place : Numeral × ℕ → Bool
is_place q = is_plain q.0 && is_reg q.1

pub reads_place : Reads place_at place_text is_place
reads_place = reads_both 40 decimal_at closed_at numeral_text closed_text is_plain is_reg reads_decimal reads_closed (λ n h. decimal_clear 40 n refl h)

-- ---- an operand that is a register or a literal

pub data Second : Type 0 where
  InRegister : (r : ℕ) → Second
  Literally : (n : Numeral) → Second

abbrev pub second_by : List ℕ → Option (List ℕ) → Option Second
second_by t None = option_map InRegister (register_at t)
second_by t (Some number) = option_map Literally (decimal_at number)

abbrev pub second_at : List ℕ → Option Second
second_at t = second_by t (behind 35 t)

abbrev pub second_text : Second → List ℕ
second_text (InRegister r) = register_text r
second_text (Literally n) = 35 ∷ numeral_text n

abbrev pub is_second : Second → Bool
is_second (InRegister r) = is_reg r
is_second (Literally n) = is_plain n

second_sound : (t : List ℕ) (s : Second) → second_at t ≡ Some s → (second_text s ≡ t) × (is_second s ≡ true)
second_sound t s e = by_sign (behind 35 t) refl e where
  by_sign : (o : Option (List ℕ)) → behind 35 t ≡ o → second_by t o ≡ Some s → (second_text s ≡ t) × (is_second s ≡ true)
  by_sign None b e =
      let m = map_some InRegister (register_at t) s e in
      let P : Second → Type 0 = λ s. (second_text s ≡ t) × (is_second s ≡ true) in
      subst P m.2 (reads_register.sound t m.0 m.1)
  by_sign (Some number) b e =
      let m = map_some Literally (decimal_at number) s e in
      let P : Second → Type 0 = λ s. (second_text s ≡ t) × (is_second s ≡ true) in
      let k = reads_decimal.sound number m.0 m.1 in
      subst P m.2 (ap (λ q. 35 ∷ q) k.0 ∙ behind_sound 35 t number b, k.1)

second_complete : (s : Second) → is_second s ≡ true → second_at (second_text s) ≡ Some s
unfolding register_text
second_complete (InRegister r) h = ap (option_map InRegister) (reads_register.complete r h)
second_complete (Literally n) h =
    ap (second_by (35 ∷ numeral_text n)) (behind_found 35 (numeral_text n)) ∙ ap (option_map Literally) (reads_decimal.complete n h)

pub reads_second : Reads second_at second_text is_second
reads_second = record { sound = second_sound; complete = second_complete }

second_clear : (s : Second) → is_second s ≡ true → is_clear 44 (second_text s) ≡ true
second_clear (InRegister r) h = register_clear 44 r refl h
second_clear (Literally n) h = decimal_clear 44 n refl h

abbrev pub last_at : List ℕ → Option (Second × ℕ)
last_at t = both 44 second_at register_at t

abbrev pub last_text : Second × ℕ → List ℕ
last_text q = second_text q.0 ++ 44 ∷ register_text q.1

abbrev pub is_last : Second × ℕ → Bool
is_last q = is_second q.0 && is_reg q.1

pub reads_last : Reads last_at last_text is_last
reads_last = reads_both 44 second_at register_at second_text register_text is_second is_reg reads_second reads_register second_clear

-- ---- behind a first register

abbrev pub first_at : {A : Type 0} → (List ℕ → Option A) → List ℕ → Option (ℕ × A)
first_at g t = both 44 register_at g t

abbrev pub behind_first : {A : Type 0} → (A → List ℕ) → ℕ × A → List ℕ
behind_first text q = register_text q.0 ++ 44 ∷ text q.1

pub reads_first : {A : Type 0} (g : List ℕ → Option A) (text : A → List ℕ) (formed : A → Bool) → Reads g text formed →
    Reads (first_at g) (behind_first text) (λ q. is_reg q.0 && formed q.1)
reads_first g text formed r = reads_both 44 register_at g register_text text is_reg formed reads_register r (λ r h. register_clear 44 r refl h)

-- ---- what the code keeps of them

pub map_id : {A : Type 0} (o : Option A) → o ≡ option_map (λ x. x) o
map_id None = refl
map_id (Some x) = refl

pub map_map : {A B C : Type 0} (f : A → B) (g : B → C) (o : Option A) → option_map g (option_map f o) ≡ option_map (λ x. g (f x)) o
map_map f g None = refl
map_map f g (Some x) = refl

abbrev pub operand_of : Second → Operand
operand_of (InRegister r) = Register r
operand_of (Literally n) = Literal (number_of n)

pub number_opened : (s : List ℕ) → number_at s ≡ option_map number_of (decimal_at s)
unfolding number_at
number_opened s = refl

pub address_mapped : (t : List ℕ) → address_at t ≡ option_map (λ q. (number_of q.0, q.1)) (place_at t)
unfolding address_at
address_mapped t = both_mapped 40 decimal_at closed_at number_of (λ r. r) number_at closed_at number_opened (λ s. map_id (closed_at s)) t

pub operand_mapped : (t : List ℕ) → operand_at t ≡ option_map operand_of (second_at t)
unfolding operand_at number_at
operand_mapped t = by_sign (behind 35 t) where
  by_sign : (o : Option (List ℕ)) → operand_by t o ≡ option_map operand_of (second_by t o)
  by_sign None = sym (map_map InRegister operand_of (register_at t))
  by_sign (Some number) = ap (option_map Literal) (number_opened number) ∙ map_map number_of Literal (decimal_at number) ∙ sym (map_map Literally operand_of (decimal_at number))

pub result_mapped : (t : List ℕ) → result_at t ≡ option_map (λ q. (operand_of q.0, q.1)) (last_at t)
unfolding result_at
result_mapped t = both_mapped 44 second_at register_at operand_of (λ r. r) operand_at register_at operand_mapped (λ s. map_id (register_at s)) t
