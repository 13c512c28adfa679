-- The number of words before each object, as it is added up.
use Rattle.std.proofs.Common.{◌≡◌, ◌⊎◌, inl, inr, ◌<◌, ◌≤◌, ◌+◌, ◌*◌, ◌-◌, ◌^◌, ℕ, zero, suc, List, [], ◌∷◌, ◌++◌, length, get_or, take, sum, refl, sym, ap, ◌∙◌, arith}
use Rattle.std.proofs.lemmas.Bool.{cases_lt}
use Rattle.std.proofs.lemmas.List.{length_push, get_or_append_left, get_or_push, take-append-le, take_at}
use Rattle.std.proofs.lemmas.List.Sums.{sum_by_push}
use Rattle.om_graph.specs.View.{numbers_from}
use Rattle.om_graph.specs.Laid.{AreStarts}

pub sum_push : (xs : List ℕ) (x : ℕ) → sum (xs ++ x ∷ []) ≡ sum xs + x
sum_push xs x = sum_by_push (λ (n : ℕ). n) xs x

pub no_starts : AreStarts [] []
no_starts = record { as_many = refl; are = λ i h. absurd (omega (arith, h)); small = λ i h. absurd (omega (arith, h)) }

pub starts_more : (cs ss : List ℕ) (x : ℕ) → AreStarts cs ss → sum cs ≤ length cs * (2 ^ 32 - 1) → AreStarts (cs ++ x ∷ []) (ss ++ sum cs ∷ [])
starts_more cs ss x s small = record {
  as_many = length_push ss (sum cs) ∙ ap (λ (n : ℕ). n + 1) s.as_many ∙ sym (length_push cs x);
  are = λ i h. are i h (cases_lt i (length cs));
  small = λ i h. bound i h (cases_lt i (length cs));
}
  where
    are : (i : ℕ) → i < length (cs ++ x ∷ []) → (i < length cs) ⊎ (length cs ≤ i) → get_or (ss ++ sum cs ∷ []) i 0 ≡ sum (take i (cs ++ x ∷ []))
    are i h (inl l) =
        get_or_append_left ss (sum cs ∷ []) 0 i (let e = s.as_many in omega (arith, l, e)) ∙ s.are i l ∙ ap sum (sym (take-append-le i cs (x ∷ []) (omega (arith, l))))
    are i h (inr l) =
        let e = s.as_many in
        let p = length_push cs x in
        get_or_push ss (sum cs) 0 i (omega (arith, h, l, e, p)) ∙ ap sum (sym (take_at cs (x ∷ []) i (omega (arith, h, l, p))))

    bound : (i : ℕ) → i < length (cs ++ x ∷ []) → (i < length cs) ⊎ (length cs ≤ i) → sum (take i (cs ++ x ∷ [])) ≤ i * (2 ^ 32 - 1)
    bound i h (inl l) = let t = take-append-le i cs (x ∷ []) (omega (arith, l)) in rw t (s.small i l)
    bound i h (inr l) =
        let p = length_push cs x in
        let same : length cs ≡ i = omega (arith, h, l, p) in
        let t = take_at cs (x ∷ []) i same in
        rw t (rw same at small)

pub numbers_more : (k n : ℕ) → numbers_from k (suc n) ≡ numbers_from k n ++ (k + n) ∷ []
numbers_more k zero = let e : k ≡ k + 0 = omega arith in ap (λ (m : ℕ). m ∷ []) e
numbers_more k (suc n) =
    let i = numbers_more (k + 1) n in
    let e : k + 1 + n ≡ k + suc n = omega arith in
    ap (λ (l : List ℕ). k ∷ l) i ∙ ap (λ (m : ℕ). (k ∷ numbers_from (k + 1) n) ++ m ∷ []) e
