-- The labels of the blocks of the rows of graphs, in order.
use Rattle.std.proofs.Common.{◌≡◌, ◌⊎◌, inl, inr, ◌<◌, ◌≤◌, ◌+◌, ◌*◌, ◌/◌, ◌%◌, ℕ, true, List, [], ◌∷◌, ◌++◌, subst, arith}
use Rattle.std.proofs.lemmas.Bool.{cases_lt}
use Rattle.om_value.specs.declared.value.Place.{Place}
use Rattle.om_graph.specs.View.{Has, IsAfter, place_lt}
use Rattle.om_graph.proofs.Labels.{has_append}
use Rattle.om_graph.proofs.HeldEdits.{lt_in, lt_out, lt_trans}

abbrev pub block_label : ℕ → Place
block_label n = record { obj = n / 8; off = n % 8 * 16 }

rises : (n : ℕ) → place_lt (block_label n) (block_label (n + 1)) ≡ true
rises n = by_rest (cases_lt (n % 8) 7)
  where
    by_rest : (n % 8 < 7) ⊎ (7 ≤ n % 8) → place_lt (block_label n) (block_label (n + 1)) ≡ true
    by_rest (inl h) = lt_in (block_label n) (block_label (n + 1)) (omega (arith, h)) (omega (arith, h))
    by_rest (inr h) = lt_out (block_label n) (block_label (n + 1)) (omega (arith, h))

pub after_more : (labels : List Place) (n : ℕ) → IsAfter labels (block_label n) → IsAfter (labels ++ block_label n ∷ []) (block_label (n + 1))
after_more labels n after q h = by_case (has_append labels (block_label n ∷ []) q h)
  where
    by_case : Has labels q ⊎ Has (block_label n ∷ []) q → place_lt q (block_label (n + 1)) ≡ true
    by_case (inl m) = lt_trans q (block_label n) (block_label (n + 1)) (after q m) (rises n)
    by_case (inr (inl e)) = subst (λ (p : Place). place_lt p (block_label (n + 1)) ≡ true) e (rises n)
    by_case (inr (inr m)) = absurd m
