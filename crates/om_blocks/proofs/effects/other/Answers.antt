use Rattle.std.proofs.Common.{◌≡◌, ℕ, Bool, true, false, cond, refl, ap, sym, ◌∙◌, arith}
use Rattle.std.specs.Int.{bit_at}
use Rattle.om_prog.specs.Facts.{has}
use Rattle.om_flow.specs.declared.parts.Transfer.TheVariants.{Keep, SetUnknown}
use Rattle.om_blocks.specs.Effects.{other_value}
use Rattle.om_blocks.proofs.Doing.{bit_is}
use Rattle.om_blocks.proofs.effects.other.Goals as goal

abbrev flag : Bool → ℕ
flag b = cond b 1 0

set_one : (b : Bool) → 1 ≡ flag b → SetUnknown ≡ other_value b
set_one true e = refl
set_one false e = absurd (omega (arith, e))

set_none : (b : Bool) (n : ℕ) → n ≡ flag b → (n ≡ 1 → ⊥) → Keep ≡ other_value b
set_none true n e f = absurd (f e)
set_none false n e f = refl

pub returns-then-written-eq1 : goal.returns-then-written-eq1
returns-then-written-eq1 c = λ rs e. set_one (has rs 29) (sym c.if-written-eq1.true ∙ ap (λ (x : ℕ). bit_at x 29) e ∙ bit_is rs 29 (omega arith))

pub returns-else-written-eq1 : goal.returns-else-written-eq1
returns-else-written-eq1 c = λ rs e. set_none (has rs 29) (bit_at c.args.written 29) (ap (λ (x : ℕ). bit_at x 29) e ∙ bit_is rs 29 (omega arith)) c.if-written-eq1.false
