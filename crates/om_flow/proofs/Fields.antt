-- What stands at a number in a list made of blocks with one more item, the hub's.
use Rattle.std.proofs.Common.{◌≡◌, ◌<◌, ◌≤◌, ◌+◌, ℕ, zero, suc, List, [], ◌∷◌, ◌++◌, get_or, length, refl, arith}
use Rattle.std.specs.Prelude.{map}

pub field_at : {A B : Type 0} (f : A → B) (xs : List A) (ys : List B) (i : ℕ) (x : A) (d : B) → i < length xs → get_or (map f xs ++ ys) i d ≡ f (get_or xs i x)
field_at f [] ys i x d h = absurd (omega arith)
field_at f (y ∷ xs) ys zero x d h = refl
field_at f (y ∷ xs) ys (suc i) x d h = field_at f xs ys i x d (omega (arith, h))

pub field_last : {A B : Type 0} (f : A → B) (xs : List A) (y d : B) → get_or (map f xs ++ y ∷ []) (length xs) d ≡ y
field_last f [] y d = refl
field_last f (x ∷ xs) y d = field_last f xs y d

-- where the last item is the default
pub field_past : {A B : Type 0} (f : A → B) (xs : List A) (d : B) (i : ℕ) → length xs ≤ i → get_or (map f xs ++ d ∷ []) i d ≡ d
field_past f [] d zero h = refl
field_past f [] d (suc i) h = refl
field_past f (x ∷ xs) d zero h = absurd (omega (arith, h))
field_past f (x ∷ xs) d (suc i) h = field_past f xs d i (omega (arith, h))

pub field_count : {A B : Type 0} (f : A → B) (xs : List A) (y : B) → length (map f xs ++ y ∷ []) ≡ length xs + 1
field_count f [] y = refl
field_count f (x ∷ xs) y = let e = field_count f xs y in omega (arith, e)
