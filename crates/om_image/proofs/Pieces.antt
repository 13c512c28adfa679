-- Pieces one after the other, and lists of items that are spelled one after the other.
use Rattle.std.proofs.Common.{◌≡◌, ◌<◌, ◌+◌, ℕ, zero, suc, Bool, false, List, [], ◌∷◌, ◌++◌, length, get_or, refl, sym, ap, ◌∙◌, length-append, arith, true}
use Rattle.std.specs.Prelude.{flat_map}
use Rattle.om_fields.specs.Places.{each_from, put_if, picked_from}
use Rattle.om_image.proofs.Standing.{IsAt, first_in, second_in, at_place}

pub record FiveAt (file a b c d e : List ℕ) (p : ℕ) : Type 0 where
  pub first : IsAt file a p
  pub second : IsAt file b (p + length a)
  pub third : IsAt file c (p + length a + length b)
  pub fourth : IsAt file d (p + length a + length b + length c)
  pub fifth : IsAt file e (p + length a + length b + length c + length d)

pub five_in : {file : List ℕ} (a b c d e : List ℕ) (p : ℕ) → IsAt file (a ++ b ++ c ++ d ++ e) p → FiveAt file a b c d e p
five_in a b c d e p h =
    let h4 = first_in (a ++ b ++ c ++ d) e h in
    let h3 = first_in (a ++ b ++ c) d h4 in
    let h2 = first_in (a ++ b) c h3 in
    let l2 = length-append a b in
    let l3 = length-append (a ++ b) c in
    let l4 = length-append (a ++ b ++ c) d in
    record {
      first = first_in a b h2;
      second = second_in a b (p + length a) h2 refl;
      third = second_in (a ++ b) c (p + length a + length b) h3 (omega (arith, l2));
      fourth = second_in (a ++ b ++ c) d (p + length a + length b + length c) h4 (omega (arith, l2, l3));
      fifth = second_in (a ++ b ++ c ++ d) e (p + length a + length b + length c + length d) h (omega (arith, l2, l3, l4));
    }

pub length_five : (a b c d e : List ℕ) → length (a ++ b ++ c ++ d ++ e) ≡ length a + length b + length c + length d + length e
length_five a b c d e =
    let l2 = length-append a b in
    let l3 = length-append (a ++ b) c in
    let l4 = length-append (a ++ b ++ c) d in
    let l5 = length-append (a ++ b ++ c ++ d) e in
    omega (arith, l2, l3, l4, l5)

pub record SixAt (file a b c d e f : List ℕ) (p : ℕ) : Type 0 where
  pub five : FiveAt file a b c d e p
  pub sixth : IsAt file f (p + length a + length b + length c + length d + length e)

pub six_in : {file : List ℕ} (a b c d e f : List ℕ) (p : ℕ) → IsAt file (a ++ b ++ c ++ d ++ e ++ f) p → SixAt file a b c d e f p
six_in a b c d e f p h =
    let l = length_five a b c d e in
    record {
      five = five_in a b c d e p (first_in (a ++ b ++ c ++ d ++ e) f h);
      sixth = second_in (a ++ b ++ c ++ d ++ e) f (p + length a + length b + length c + length d + length e) h (omega (arith, l));
    }

pub length_six : (a b c d e f : List ℕ) → length (a ++ b ++ c ++ d ++ e ++ f) ≡ length a + length b + length c + length d + length e + length f
length_six a b c d e f =
    let l = length_five a b c d e in
    let m = length-append (a ++ b ++ c ++ d ++ e) f in
    omega (arith, l, m)

-- where items end that are spelled one after the other, each in so many bytes
pub flat_end : {X : Type 0} (size : ℕ) (spell : X → List ℕ) (at : ℕ → ℕ) → ((x : X) → length (spell x) ≡ size) → ((j : ℕ) → at (j + 1) ≡ at j + size)
    → (xs : List X) (k : ℕ) → at k + length (flat_map spell xs) ≡ at (k + length xs)
flat_end size spell at long step [] k = let e : k + 0 ≡ k = omega arith in omega arith ∙ ap at (sym e)
flat_end size spell at long step (x ∷ xs) k =
    let more = flat_end size spell at long step xs (k + 1) in
    let e : k + 1 + length xs ≡ k + suc (length xs) = omega arith in
    let s = step k in
    let l = long x in
    let both = length-append (spell x) (flat_map spell xs) in
    let q : at k + length (spell x ++ flat_map spell xs) ≡ at (k + 1) + length (flat_map spell xs) = omega (arith, s, l, both) in
    q ∙ more ∙ ap at e

-- one of them
pub item_in : {X : Type 0} {b : List ℕ} (size : ℕ) (spell : X → List ℕ) (at : ℕ → ℕ) → ((x : X) → length (spell x) ≡ size) → ((j : ℕ) → at (j + 1) ≡ at j + size)
    → (xs : List X) (k : ℕ) → IsAt b (flat_map spell xs) (at k) → (j : ℕ) (d : X) → j < length xs → IsAt b (spell (get_or xs j d)) (at (k + j))
item_in size spell at long step [] k h j d below = absurd (omega (arith, below))
item_in size spell at long step (x ∷ xs) k h zero d below =
    let e : k ≡ k + 0 = omega arith in
    at_place (first_in (spell x) (flat_map spell xs) h) (ap at e)
item_in size spell at long step (x ∷ xs) k h (suc j) d below =
    let s = step k in
    let l = long x in
    let e : k + 1 + j ≡ k + suc j = omega arith in
    at_place (item_in size spell at long step xs (k + 1) (second_in (spell x) (flat_map spell xs) (at (k + 1)) h (omega (arith, s, l))) j d (omega (arith, below)))
    (ap at e)

-- ---- lists of what stands at each index

pub each_all : {X : Type 0} (f : ℕ → X) (xs : List X) (k : ℕ) (d : X) → ((j : ℕ) → j < length xs → f (k + j) ≡ get_or xs j d)
    → each_from f k (length xs) ≡ xs
each_all f [] k d g = refl
each_all {X} f (x ∷ xs) k d g =
    let e : k + 0 ≡ k = omega arith in
    let v : f k ≡ x = ap f (sym e) ∙ g 0 (omega arith) in
    let more = each_all f xs (k + 1) d (λ j b. let q : k + 1 + j ≡ k + suc j = omega arith in ap f q ∙ g (suc j) (omega arith)) in
    ap (λ (y : X). y ∷ each_from f (k + 1) (length xs)) v ∙ ap (λ (ys : List X). x ∷ ys) more

pub picked_nothing : {X : Type 0} (test : ℕ → Bool) (f : ℕ → X) (k n : ℕ) → ((j : ℕ) → j < n → test (k + j) ≡ false) → picked_from test f k n ≡ []
picked_nothing test f k zero h = refl
picked_nothing {X} test f k (suc n) h =
    let e : k + 0 ≡ k = omega arith in
    let t : test k ≡ false = ap test (sym e) ∙ h 0 (omega arith) in
    let more = picked_nothing test f (k + 1) n (λ j b. let q : k + 1 + j ≡ k + suc j = omega arith in ap test q ∙ h (suc j) (omega arith)) in
    ap (λ (b : Bool). put_if b (f k) (picked_from test f (k + 1) n)) t ∙ more

put_nothing : {X : Type 0} (b : Bool) (x : X) (xs : List X) → put_if b x xs ≡ [] → (b ≡ false) × (xs ≡ [])
put_nothing true x xs h = cc
put_nothing false x xs h = (refl, h)

pub nothing_picked : {X : Type 0} (test : ℕ → Bool) (f : ℕ → X) (k n : ℕ) → picked_from test f k n ≡ [] → (j : ℕ) → j < n → test (k + j) ≡ false
nothing_picked test f k zero h j b = absurd (omega arith)
nothing_picked test f k (suc n) h zero b =
    let e : k + 0 ≡ k = omega arith in
    ap test e ∙ (put_nothing (test k) (f k) (picked_from test f (k + 1) n) h).0
nothing_picked test f k (suc n) h (suc j) b =
    let e : k + suc j ≡ k + 1 + j = omega arith in
    ap test e ∙ nothing_picked test f (k + 1) n (put_nothing (test k) (f k) (picked_from test f (k + 1) n) h).1 j (omega arith)
