-- The places of words and of texts' ends, numbered: each number below their count is that of one.
use Rattle.std.proofs.Common.{◌≡◌, ℕ, suc, ◌+◌, ◌-◌, ◌*◌, ◌/◌, ◌<◌, ◌≤◌, List, [], ◌∷◌, arith}
use Rattle.std.specs.Prelude.{take, min}
use Rattle.std.proofs.lemmas.List.Sums.{sum_by-cons}
use Rattle.std.proofs.Math.Decide.{dec_le}
use Rattle.om_value.specs.declared.value.Place.{Place}
use Rattle.om_layout.specs.Layout.{place_number}
use Rattle.om_layout.specs.Order.{IsPlaceOf, place_count}

min_is : (m n : ℕ) → n ≤ m → min m n ≡ n
min_is m n h = grind arith

-- the same place, one object on
further : (n : ℕ) (ns : List ℕ) (o f : ℕ) → place_number (n ∷ ns) (record { obj = suc o; off = f }) ≡ suc n + place_number ns (record { obj = o; off = f })
further n ns o f = let s = sum_by-cons (λ x. x) n (take o ns) in omega (arith, s)

pub every_number : (counts : List ℕ) (k : ℕ) → k < place_count counts → (q : Place) × IsPlaceOf counts q × (place_number counts q ≡ k)
every_number [] k h = absurd (omega arith)
every_number (n ∷ ns) k h = by_size (every_number ns (k - suc n)) (dec_le k n)
  where
    by_size :
        (k - suc n < place_count ns → (q : Place) × IsPlaceOf ns q × (place_number ns q ≡ k - suc n)) → Dec (k ≤ n) →
        (q : Place) × IsPlaceOf (n ∷ ns) q × (place_number (n ∷ ns) q ≡ k)
    by_size again (yes i) = (
      record { obj = 0; off = 4 * k },
      record { object = omega arith; aligned = omega arith; inside = omega (arith, i) },
      (let m = min_is n ((4 * k + 3) / 4) (omega (arith, i)) in omega (arith, m)),
    )
    by_size again (no i) =
        let r = again (omega (arith, h, i)) in
        let a = r.1.object in
        let e = further n ns r.0.obj r.0.off in
        let f = r.2 in (
          record { obj = suc r.0.obj; off = r.0.off },
          record { object = omega (arith, a); aligned = r.1.aligned; inside = r.1.inside },
          omega (arith, e, f, h, i),
        )
