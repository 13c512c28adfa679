use Rattle.std.proofs.Common.{◌≡◌, ℕ, Bool, true, false, cond, ◌||◌, ◌==◌, ap, ◌∙◌, arith}
use Rattle.std.specs.Int.{bit_at}
use Rattle.std.specs.Int.Bits.{bit_or}
use Rattle.std.proofs.lemmas.Bool.{eq-eqb}
use Rattle.std.proofs.lemmas.Nat.Bits.{bit_at_or, bit_at-lt}
use Rattle.om_prog.specs.Facts.{has}
use Rattle.om_blocks.specs.Effects.{kind_reads, kind_writes}
use Rattle.om_blocks.proofs.Doing.{bit_is}
use Rattle.om_blocks.proofs.Walking.{not_same}
use Rattle.om_calls.proofs.pairs.touches.Goals as goal

abbrev flag : Bool → ℕ
flag b = cond b 1 0

either_bit : (a b : Bool) (m n : ℕ) → bit_at m 29 ≡ flag a → bit_at n 29 ≡ flag b → (bit_at (bit_or m n) 29 == 1) ≡ (a || b)
either_bit true b m n e f = eq-eqb (bit_at (bit_or m n) 29) 1 (omega (arith, e, bit_at_or m n 29, bit_at-lt n 29))
either_bit false true m n e f = eq-eqb (bit_at (bit_or m n) 29) 1 (omega (arith, e, f, bit_at_or m n 29))
either_bit false false m n e f = not_same (bit_at (bit_or m n) 29) 1 (λ s. let z = bit_at_or m n 29 in omega (arith, e, f, z, s))

pub returns : goal.returns
returns c =
    either_bit (has (kind_reads c.args.kind.now) 29) (has (kind_writes c.args.kind.now) 29) c.reads_of.result c.writes_of.result
    (ap (λ (m : ℕ). bit_at m 29) c.reads_of.ensures ∙ bit_is (kind_reads c.args.kind.now) 29 (omega arith))
    (ap (λ (m : ℕ). bit_at m 29) c.writes_of.ensures ∙ bit_is (kind_writes c.args.kind.now) 29 (omega arith))
