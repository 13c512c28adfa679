-- Places of several lists in a row.
use Rattle.std.proofs.Common.{◌≡◌, ℕ, zero, suc, ◌+◌, ◌<◌, Bool, true, false, List, [], ◌∷◌, ◌++◌, map, min, refl, ap, sym, ◌∙◌, arith}
use native.Mathlib.Decide.{dec_lt}
use Rattle.std.specs.Prelude.{Option, Some, None}
use Rattle.om_fields.specs.Places.{least, lesser, lesser_of, put_if, picked_from, picked, place_if, joined_from, joined}

pub append-none : {X : Type 0} (xs : List X) → xs ++ [] ≡ xs
append-none [] = refl
append-none (x ∷ xs) = ap (λ ys. x ∷ ys) (append-none xs)

pub append-append : {X : Type 0} (xs ys zs : List X) → (xs ++ ys) ++ zs ≡ xs ++ (ys ++ zs)
append-append [] ys zs = refl
append-append (x ∷ xs) ys zs = ap (λ ws. x ∷ ws) (append-append xs ys zs)

pub joined_from-snoc : {X : Type 0} (f : ℕ → List X) (k n : ℕ) → joined_from f k (suc n) ≡ joined_from f k n ++ f (k + n)
joined_from-snoc f k zero = let e : k + 0 ≡ k = omega arith in rw e (append-none (f k))
joined_from-snoc f k (suc n) =
    let e : k + 1 + n ≡ k + suc n = omega arith in
    ap (λ xs. f k ++ xs) (joined_from-snoc f (k + 1) n ∙ ap (λ i. joined_from f (k + 1) n ++ f i) e)
    ∙ sym (append-append (f k) (joined_from f (k + 1) n) (f (k + suc n)))

pub joined-snoc : {X : Type 0} (f : ℕ → List X) (n : ℕ) → joined f (n + 1) ≡ joined f n ++ f n
joined-snoc f n =
    let e : n + 1 ≡ suc n = omega arith in
    let g : 0 + n ≡ n = omega arith in
    rw e (joined_from-snoc f 0 n ∙ ap (λ i. joined f n ++ f i) g)

map-put : {X Y : Type 0} (g : X → Y) (b : Bool) (x : X) (xs : List X) → map g (put_if b x xs) ≡ put_if b (g x) (map g xs)
map-put g true x xs = refl
map-put g false x xs = refl

pub map-picked : {X Y : Type 0} (g : X → Y) (test : ℕ → Bool) (f : ℕ → X) (k n : ℕ) → map g (picked_from test f k n) ≡ picked_from test (λ i. g (f i)) k n
map-picked g test f k zero = refl
map-picked g test f k (suc n) =
    map-put g (test k) (f k) (picked_from test f (k + 1) n) ∙ ap (put_if (test k) (g (f k))) (map-picked g test f (k + 1) n)

map-joining : {X Y : Type 0} (g : X → Y) (xs ys : List X) → map g (xs ++ ys) ≡ map g xs ++ map g ys
map-joining g [] ys = refl
map-joining g (x ∷ xs) ys = ap (λ zs. g x ∷ zs) (map-joining g xs ys)

pub map-joined : {X Y : Type 0} (g : X → Y) (f : ℕ → List X) (k n : ℕ) → map g (joined_from f k n) ≡ joined_from (λ a. map g (f a)) k n
map-joined g f k zero = refl
map-joined g f k (suc n) =
    map-joining g (f k) (joined_from f (k + 1) n) ∙ ap (λ zs. map g (f k) ++ zs) (map-joined g f (k + 1) n)

lesser-both : (x : ℕ) (o p : Option ℕ) → lesser x (lesser_of o p) ≡ lesser_of (lesser x o) p
lesser-both x None p = refl
lesser-both x (Some y) None = refl
lesser-both x (Some y) (Some z) = let e : min x (min y z) ≡ min (min x y) z = omega arith in ap Some e

pub least-append : (xs ys : List ℕ) → least (xs ++ ys) ≡ lesser_of (least xs) (least ys)
least-append [] ys = refl
least-append (x ∷ xs) ys = ap (lesser x) (least-append xs ys) ∙ lesser-both x (least xs) (least ys)

-- the least place of one more list
pub least-joined : (f : ℕ → List ℕ) (n : ℕ) → least (joined f (n + 1)) ≡ lesser_of (least (joined f n)) (least (f n))
least-joined f n = ap least (joined-snoc f n) ∙ least-append (joined f n) (f n)

pub picked_from-snoc : {X : Type 0} (test : ℕ → Bool) (place : ℕ → X) (k n : ℕ)
    → picked_from test place k (suc n) ≡ picked_from test place k n ++ put_if (test (k + n)) (place (k + n)) []
picked_from-snoc test place k zero = let e : k + 0 ≡ k = omega arith in rw e refl
picked_from-snoc test place k (suc n) =
    let e : k + 1 + n ≡ k + suc n = omega arith in
    ap (put_if (test k) (place k)) (picked_from-snoc test place (k + 1) n ∙ ap (λ i. picked_from test place (k + 1) n ++ put_if (test i) (place i) []) e)
    ∙ sym (put-append (test k) (place k) (picked_from test place (k + 1) n) (put_if (test (k + suc n)) (place (k + suc n)) []))
  where
    put-append : {Y : Type 0} (b : Bool) (x : Y) (xs ys : List Y) → put_if b x xs ++ ys ≡ put_if b x (xs ++ ys)
    put-append true x xs ys = refl
    put-append false x xs ys = refl

-- one more index
pub picked-snoc : {X : Type 0} (test : ℕ → Bool) (place : ℕ → X) (n : ℕ) → picked test place (n + 1) ≡ picked test place n ++ put_if (test n) (place n) []
picked-snoc test place n =
    let e : n + 1 ≡ suc n = omega arith in
    let g : 0 + n ≡ n = omega arith in
    rw e (picked_from-snoc test place 0 n ∙ ap (λ i. picked test place n ++ put_if (test i) (place i) []) g)

pub least-picked : (test : ℕ → Bool) (place : ℕ → ℕ) (n : ℕ) → least (picked test place (n + 1)) ≡ lesser_of (least (picked test place n)) (least (place_if (test n) (place n)))
least-picked test place n = ap least (picked-snoc test place n) ∙ least-append (picked test place n) (place_if (test n) (place n))

lesser_none : (o p : Option ℕ) → lesser_of o p ≡ None → (o ≡ None) × (p ≡ None)
lesser_none None p e = (refl, e)
lesser_none (Some x) None e = cc
lesser_none (Some x) (Some y) e = cc

none_at : (f : ℕ → List ℕ) (n a : ℕ) → Dec (a < n) → a < suc n → (a < n → least (f a) ≡ None) → least (f n) ≡ None → least (f a) ≡ None
none_at f n a (yes g) h ih e = ih g
none_at f n a (no g) h ih e = let same : a ≡ n = omega arith in ap (λ k. least (f k)) same ∙ e

-- where several lists have no place, none of them has one
pub none-joined : (f : ℕ → List ℕ) (n : ℕ) → least (joined f n) ≡ None → (a : ℕ) → a < n → least (f a) ≡ None
none-joined f zero e a h = absurd (omega arith)
none-joined f (suc n) e a h =
    let split : n + 1 ≡ suc n = omega arith in
    let both = lesser_none (least (joined f n)) (least (f n)) (sym (least-joined f n) ∙ ap (λ k. least (joined f k)) split ∙ e) in
    none_at f n a (dec_lt a n) h (λ g. none-joined f n both.0 a g) both.1
