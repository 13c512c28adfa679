-- Lists of what stands at each index.
use Rattle.std.proofs.Common.{◌≡◌, ◌<◌, ◌+◌, ℕ, zero, suc, Bool, true, false, List, [], ◌∷◌, length, get_or, refl, sym, ap, ◌∙◌, arith}
use Rattle.om_fields.specs.Places.{each_from, put_if, picked_from}

-- every index is picked
pub picked_all : {X : Type 0} (test : ℕ → Bool) (f : ℕ → X) (xs : List X) (k : ℕ) (d : X) → ((j : ℕ) → j < length xs → test (k + j) ≡ true)
    → ((j : ℕ) → j < length xs → f (k + j) ≡ get_or xs j d) → picked_from test f k (length xs) ≡ xs
picked_all test f [] k d h g = refl
picked_all {X} test f (x ∷ xs) k d h g =
    let e : k + 0 ≡ k = omega arith in
    let t : test k ≡ true = ap test (sym e) ∙ h 0 (omega arith) in
    let v : f k ≡ x = ap f (sym e) ∙ g 0 (omega arith) in
    let more = picked_all test f xs (k + 1) d
    (λ j b. let q : k + 1 + j ≡ k + suc j = omega arith in ap test q ∙ h (suc j) (omega arith))
    (λ j b. let q : k + 1 + j ≡ k + suc j = omega arith in ap f q ∙ g (suc j) (omega arith)) in
    ap (λ (b : Bool). put_if b (f k) (picked_from test f (k + 1) (length xs))) t
    ∙ ap (λ (y : X). y ∷ picked_from test f (k + 1) (length xs)) v ∙ ap (λ (ys : List X). x ∷ ys) more

-- none is
pub picked_nothing : {X : Type 0} (test : ℕ → Bool) (f : ℕ → X) (k n : ℕ) → ((j : ℕ) → j < n → test (k + j) ≡ false) → picked_from test f k n ≡ []
picked_nothing test f k zero h = refl
picked_nothing {X} test f k (suc n) h =
    let e : k + 0 ≡ k = omega arith in
    let t : test k ≡ false = ap test (sym e) ∙ h 0 (omega arith) in
    let more = picked_nothing test f (k + 1) n (λ j b. let q : k + 1 + j ≡ k + suc j = omega arith in ap test q ∙ h (suc j) (omega arith)) in
    ap (λ (b : Bool). put_if b (f k) (picked_from test f (k + 1) n)) t ∙ more

put_nothing : {X : Type 0} (b : Bool) (x : X) (xs : List X) → put_if b x xs ≡ [] → (b ≡ false) × (xs ≡ [])
put_nothing true x xs h = cc
put_nothing false x xs h = (refl, h)

pub nothing_picked : {X : Type 0} (test : ℕ → Bool) (f : ℕ → X) (k n : ℕ) → picked_from test f k n ≡ [] → (j : ℕ) → j < n → test (k + j) ≡ false
nothing_picked test f k zero h j b = absurd (omega arith)
nothing_picked test f k (suc n) h zero b =
    let e : k + 0 ≡ k = omega arith in
    ap test e ∙ (put_nothing (test k) (f k) (picked_from test f (k + 1) n) h).0
nothing_picked test f k (suc n) h (suc j) b =
    let e : k + suc j ≡ k + 1 + j = omega arith in
    ap test e ∙ nothing_picked test f (k + 1) n (put_nothing (test k) (f k) (picked_from test f (k + 1) n) h).1 j (omega arith)

pub each_all : {X : Type 0} (f : ℕ → X) (xs : List X) (k : ℕ) (d : X) → ((j : ℕ) → j < length xs → f (k + j) ≡ get_or xs j d)
    → each_from f k (length xs) ≡ xs
each_all f [] k d g = refl
each_all {X} f (x ∷ xs) k d g =
    let e : k + 0 ≡ k = omega arith in
    let v : f k ≡ x = ap f (sym e) ∙ g 0 (omega arith) in
    let more = each_all f xs (k + 1) d (λ j b. let q : k + 1 + j ≡ k + suc j = omega arith in ap f q ∙ g (suc j) (omega arith)) in
    ap (λ (y : X). y ∷ each_from f (k + 1) (length xs)) v ∙ ap (λ (ys : List X). x ∷ ys) more

pub each_same : {X : Type 0} (f g : ℕ → X) (k n : ℕ) → ((j : ℕ) → j < n → f (k + j) ≡ g (k + j)) → each_from f k n ≡ each_from g k n
each_same f g k zero h = refl
each_same {X} f g k (suc n) h =
    let e : k + 0 ≡ k = omega arith in
    let v : f k ≡ g k = ap f (sym e) ∙ h 0 (omega arith) ∙ ap g e in
    let more = each_same f g (k + 1) n (λ j b. let q : k + 1 + j ≡ k + suc j = omega arith in ap f q ∙ h (suc j) (omega arith) ∙ ap g (sym q)) in
    ap (λ (y : X). y ∷ each_from f (k + 1) n) v ∙ ap (λ (ys : List X). g k ∷ ys) more
