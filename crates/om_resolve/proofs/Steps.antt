-- One more item of a list.
use Rattle.std.proofs.Common.{◌≡◌, ℕ, zero, suc, ◌+◌, ◌<◌, ◌≤◌, List, [], ◌∷◌, ◌++◌, length, map, take, fold, refl, ap, ◌∙◌, arith, slice_index_or}
use Rattle.std.specs.Prelude.{sum_by, Vec, Some, None, slice_get}
use Rattle.om_fields.specs.Places.{each, joined}
use Rattle.om_fields.proofs.Each.{each-snoc}
use Rattle.om_fields.proofs.Found.{item-any}
use Rattle.om_fields.proofs.Joined.{joined-snoc, append-append}

pub append_append : {X : Type 0} (xs ys zs : List X) → (xs ++ ys) ++ zs ≡ xs ++ (ys ++ zs)
append_append xs ys zs = append-append xs ys zs

pub each_more : {X : Type 0} (f : ℕ → X) (n : ℕ) → each f (n + 1) ≡ each f n ++ f n ∷ []
each_more f n = each-snoc f n

pub joined_more : {X : Type 0} (f : ℕ → List X) (n : ℕ) → joined f (n + 1) ≡ joined f n ++ f n
joined_more f n = joined-snoc f n

pub fold_append : {A X : Type 0} (f : A → X → A) (a : A) (xs ys : List X) → fold f a (xs ++ ys) ≡ fold f (fold f a xs) ys
fold_append f a [] ys = refl
fold_append f a (x ∷ xs) ys = fold_append f (f a x) xs ys

pub take_more : {X : Type 0} (xs : List X) (i : ℕ) (d : X) → i < length xs → take (i + 1) xs ≡ take i xs ++ slice_index_or xs i d ∷ []
take_more [] i d h = absurd (omega arith)
take_more (x ∷ xs) zero d h = refl
take_more (x ∷ xs) (suc i) d h = let e : suc i + 1 ≡ suc (i + 1) = omega arith in rw e (ap (λ ys. x ∷ ys) (take_more xs i d (omega arith)))

pub take_whole : {X : Type 0} (xs : List X) (i : ℕ) → length xs ≤ i → take i xs ≡ xs
take_whole [] zero h = refl
take_whole [] (suc i) h = refl
take_whole (x ∷ xs) zero h = absurd (omega arith)
take_whole (x ∷ xs) (suc i) h = ap (λ ys. x ∷ ys) (take_whole xs i (omega arith))

pub sum_more : {X : Type 0} (f : X → ℕ) (xs : List X) (i : ℕ) (d : X) → i < length xs → sum_by f (take (i + 1) xs) ≡ sum_by f (take i xs) + f (slice_index_or xs i d)
sum_more f xs i d h = ap (sum_by f) (take_more xs i d h) ∙ fold_append (λ a x. a + f x) 0 (take i xs) (slice_index_or xs i d ∷ [])

pub get_here : {X : Type 0} (xs : List X) (i : ℕ) (d : X) → i < length xs → slice_get xs i ≡ Some (slice_index_or xs i d)
get_here [] i d h = absurd (omega arith)
get_here (x ∷ xs) zero d h = refl
get_here (x ∷ xs) (suc i) d h = get_here xs i d (omega arith)

pub get_past : {X : Type 0} (xs : List X) (i : ℕ) → length xs ≤ i → slice_get xs i ≡ None
get_past [] i h = refl
get_past (x ∷ xs) zero h = absurd (omega arith)
get_past (x ∷ xs) (suc i) h = get_past xs i (omega arith)

pub item_any : {X : Type 0} (xs : List X) (i : ℕ) (d e : X) → i < length xs → slice_index_or xs i d ≡ slice_index_or xs i e
item_any xs i d e h = item-any xs i d e h

pub lists_more : {X A : Type 0} (vs : List (Vec X A)) (v : Vec X A) → map (λ w. w.items) (vs ++ v ∷ []) ≡ map (λ w. w.items) vs ++ v.items ∷ []
lists_more [] v = refl
lists_more (w ∷ vs) v = ap (λ xs. w.items ∷ xs) (lists_more vs v)

pub map_append : {X Y : Type 0} (f : X → Y) (xs ys : List X) → map f (xs ++ ys) ≡ map f xs ++ map f ys
map_append f [] ys = refl
map_append f (x ∷ xs) ys = ap (λ zs. f x ∷ zs) (map_append f xs ys)

pub map_more : {X Y : Type 0} (f : X → Y) (xs : List X) (i : ℕ) (d : X) → i < length xs → map f (take (i + 1) xs) ≡ map f (take i xs) ++ f (slice_index_or xs i d) ∷ []
map_more f xs i d h = ap (map f) (take_more xs i d h) ∙ map_append f (take i xs) (slice_index_or xs i d ∷ [])

pub take_mapped : {X Y : Type 0} (g : X → Y) (xs : List X) (i : ℕ) (d : X) → i < length xs → take (i + 1) (map g xs) ≡ take i (map g xs) ++ g (slice_index_or xs i d) ∷ []
take_mapped g [] i d h = absurd (omega arith)
take_mapped g (x ∷ xs) zero d h = refl
take_mapped g (x ∷ xs) (suc i) d h = let e : suc i + 1 ≡ suc (i + 1) = omega arith in rw e (ap (λ ys. g x ∷ ys) (take_mapped g xs i d (omega arith)))
