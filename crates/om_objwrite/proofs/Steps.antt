-- Blocks one after the other: where they end, and the first of those that are left.
use Rattle.std.proofs.Common.{◌≡◌, ◌<◌, ◌≤◌, ◌+◌, ◌-◌, ◌^◌, ◌==◌, ℕ, zero, suc, Bool, true, false, List, [], ◌∷◌, ◌++◌, length, get_or, drop, map, drop-cons, add-one, cond, refl, sym, ap, ◌∙◌, arith}
use Rattle.std.proofs.Math.Dec.{eqb-suc-zero}
use Rattle.om_fields.specs.Places.{round_up}
use Rattle.om_objwrite.specs.Written.{block_place, block_end, block_gap, block, blocks, blocks_end}
use Rattle.om_objwrite.proofs.Rounding.{rounded_above}

-- a block that is not empty
pub end_suc : (to at n : ℕ) → block_end to at (suc n) ≡ round_up at to + suc n
end_suc to at n = ap (λ (b : Bool). cond b at (round_up at to + suc n)) (eqb-suc-zero n)

pub place_suc : (to at n : ℕ) → block_place to at (suc n) ≡ round_up at to
place_suc to at n = ap (λ (b : Bool). cond b 0 (round_up at to)) (eqb-suc-zero n)

pub gap_suc : (to at n : ℕ) → block_gap to at (suc n) ≡ round_up at to - at
gap_suc to at n = ap (λ (b : Bool). cond b 0 (round_up at to - at)) (eqb-suc-zero n)

pub end_above : (to at n : ℕ) → 0 < to → at ≤ block_end to at n
end_above to at n h = by_test (n == 0)
  where
    by_test : (b : Bool) → at ≤ cond b at (round_up at to + n)
    by_test true = omega arith
    by_test false = let e = rounded_above at to h in omega (arith, e)

-- blocks end no earlier than they begin
pub ends_above : (to at : ℕ) (bs : List (List ℕ)) → 0 < to → at ≤ blocks_end to at bs
ends_above to at [] h = omega arith
ends_above to at (b ∷ bs) h =
    let e = end_above to at (length b) h in
    let f = ends_above to (block_end to at (length b)) bs h in
    omega (arith, e, f)

-- the first of the blocks that are left
pub ends_step : {S : Type 0} (to at : ℕ) (f : S → List ℕ) (ss : List S) (i : ℕ) (d : S) → i < length ss
    → blocks_end to at (map f (drop i ss)) ≡ blocks_end to (block_end to at (length (f (get_or ss i d)))) (map f (drop (i + 1) ss))
ends_step to at f ss i d h = rw (add-one, drop-cons ss i d h) refl

pub blocks_step : {S : Type 0} (to at : ℕ) (f : S → List ℕ) (ss : List S) (i : ℕ) (d : S) → i < length ss
    → blocks to at (map f (drop i ss)) ≡ block to at (f (get_or ss i d)) ++ blocks to (block_end to at (length (f (get_or ss i d)))) (map f (drop (i + 1) ss))
blocks_step to at f ss i d h = rw (add-one, drop-cons ss i d h) refl

-- ---- what an iteration over blocks may presume

size_below : (to at n : ℕ) → n ≤ block_end to at n
size_below to at zero = omega arith
size_below to at (suc n) = omega (arith, end_suc to at n)

pub record StepFits (to at n : ℕ) : Type 0 where
  pub low : at < 2 ^ 62
  pub fits : block_end to at n < 2 ^ 62
  pub small : n < 2 ^ 62

pub step_fits : {S : Type 0} (to at all : ℕ) (f : S → List ℕ) (ss : List S) (i : ℕ) (s : S) → 0 < to → i < length ss → s ≡ get_or ss i s
    → blocks_end to at (map f (drop i ss)) ≡ all → all < 2 ^ 62 → StepFits to at (length (f s))
step_fits to at all f ss i s some h is e fits =
    let step : all ≡ blocks_end to (block_end to at (length (f s))) (map f (drop (i + 1) ss)) =
    sym e ∙ ends_step to at f ss i s h ∙ ap (λ t. blocks_end to (block_end to at (length (f t))) (map f (drop (i + 1) ss))) (sym is) in
    let above = ends_above to (block_end to at (length (f s))) (map f (drop (i + 1) ss)) some in
    let first = end_above to at (length (f s)) some in
    let size = size_below to at (length (f s)) in
    record {
      low = omega (arith, step, above, first, fits);
      fits = omega (arith, step, above, fits);
      small = omega (arith, step, above, size, fits);
    }
