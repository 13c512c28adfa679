use Rattle.std.proofs.Common.{ℕ, refl, ap, ◌∙◌}
use Rattle.std.specs.Int.{bit_at}
use Rattle.std.proofs.lemmas.Bool.{eqb-true, eq-eqb}
use Rattle.std.proofs.lemmas.Nat.Bits.{bit_at-zero}
use Rattle.om_blocks.proofs.Holding.{no_bits}
use Rattle.om_blocks.proofs.block_tests.passes_at_landings.Goals as goal

pub returns : goal.returns
returns g c =
    let all = c.union_at_landings.result in (
      λ t n hn h.
          (c.union_at_landings.ensures 0).0 (ap (λ (m : ℕ). bit_at m 0) (eqb-true all 0 t) ∙ bit_at-zero 0) n hn h refl,
      λ f. eq-eqb all 0 (no_bits all (λ r. (c.union_at_landings.ensures r).1 (λ n hn h q. f n hn h))),
    )
