-- The rules by which operations on symbolic values have a value, and that they agree. An operation is the first of them that
-- applies, in an order that then does not matter.
use Rattle.std.specs.Prelude.{◌≡◌, ◌⊎◌, ℕ, ◌<◌, ◌^◌, List, [], ◌∷◌, Option, Some, None}
use Rattle.om_alpha.specs.declared.op.AluOp.{AluOp}
use Rattle.om_value.specs.declared.value.Value.{Value}
use Rattle.om_value.specs.declared.value.Value.TheVariants.{Num, Ptr}
use Rattle.om_value.specs.Lift.{comparison, on_numbers, moves_pointer, keeps_value, distance, compares, above_small, low_bits, named_bytes, from_gp, lifted}

-- numbers and offsets have 64 bits
abbrev pub HasWidth : Value → Type 0
HasWidth (Num n) = n < 2 ^ 64
HasWidth (Ptr r x) = x < 2 ^ 64
HasWidth _ = Unit {0}

module _ (op : AluOp) (a : Value) (size_a : ℕ) (b : Value) (size_b : ℕ) where
  -- what each rule gives: the table of numbers, then the rules 1 to 5 and 7 to 9; rule 6 is one of conditions
  abbrev pub given : List (Option Value)
  given =
      on_numbers op a b ∷ moves_pointer op a b ∷ keeps_value op a b ∷ distance op a b ∷ compares (comparison op) a size_a b size_b
      ∷ above_small (comparison op) a size_a b size_b ∷ low_bits op a b ∷ named_bytes op a b ∷ from_gp op a b ∷ []

-- one of some rules gives a value
abbrev pub Gives : List (Option Value) → Value → Type 0
Gives [] v = ⊥
Gives (o ∷ os) v = (o ≡ Some v) ⊎ Gives os v

-- what a rule gives is what the operation gives, and the operation observes just where none applies
pub record IsByAnyRule (op : AluOp) (a : Value) (size_a : ℕ) (b : Value) (size_b : ℕ) : Type 0 where
  pub gives : (v : Value) → Gives (given op a size_a b size_b) v → lifted op a size_a b size_b ≡ Some v
  pub given_by : (v : Value) → lifted op a size_a b size_b ≡ Some v → Gives (given op a size_a b size_b) v
  pub observes : lifted op a size_a b size_b ≡ None → (v : Value) → Gives (given op a size_a b size_b) v → ⊥
  pub none : ((v : Value) → Gives (given op a size_a b size_b) v → ⊥) → lifted op a size_a b size_b ≡ None

abbrev pub RulesAgree : Type 0
RulesAgree =
    (op : AluOp) (a : Value) (size_a : ℕ) (b : Value) (size_b : ℕ) → HasWidth a → HasWidth b → IsByAnyRule op a size_a b size_b
