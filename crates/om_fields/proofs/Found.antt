-- The first item of a list that a test picks.
use Rattle.std.proofs.Common.{◌≡◌, ℕ, zero, suc, ◌<◌, Bool, true, false, List, [], ◌∷◌, length, refl, arith}
use Rattle.std.specs.Prelude.{Some, None, find, slice_index_or}

pub find-first : {X : Type 0} (test : X → Bool) (xs : List X) (i : ℕ) (d : X) → i < length xs → test (slice_index_or xs i d) ≡ true → ((j : ℕ) (e : X) → j < i → test (slice_index_or xs j e) ≡ false) → find test xs ≡ Some (slice_index_or xs i d)
find-first test [] i d h t below = absurd (omega arith)
find-first test (x ∷ xs) zero d h t below = rw t refl
find-first test (x ∷ xs) (suc i) d h t below =
    let e = below 0 d (omega arith) in
    rw e (find-first test xs i d (omega arith) t (λ j f g. below (suc j) f (omega arith)))

pub find-none : {X : Type 0} (test : X → Bool) (xs : List X) → ((j : ℕ) (e : X) → j < length xs → test (slice_index_or xs j e) ≡ false) → find test xs ≡ None
find-none test [] below = refl
find-none test (x ∷ xs) below =
    let e = below 0 x (omega arith) in
    rw e (find-none test xs (λ j f g. below (suc j) f (omega arith)))

-- an item inside a list does not depend on what stands for those outside
pub item-any : {X : Type 0} (xs : List X) (i : ℕ) (d e : X) → i < length xs → slice_index_or xs i d ≡ slice_index_or xs i e
item-any [] i d e h = absurd (omega arith)
item-any (x ∷ xs) zero d e h = refl
item-any (x ∷ xs) (suc i) d e h = item-any xs i d e (omega arith)
