-- Words of which no two have one position have every number below how many they are.
use Rattle.std.proofs.Common.{◌≡◌, ◌⊎◌, inl, inr, ℕ, zero, suc, ◌<◌, ◌≤◌, Bool, true, false, cond, ◌==◌, List, [], ◌∷◌, length, refl, ap, sym, subst, ◌∙◌, arith}
use Rattle.std.specs.Prelude.{if◌then◌else◌, map}
use Rattle.std.proofs.lemmas.Bool.{eqb-true, eq-eqb}
use Rattle.std.proofs.lemmas.Bool.Decides.{nat_tests}
use Rattle.om_value.specs.declared.value.Place.{Place}
use Rattle.om_prog.specs.Act.{Word}
use Rattle.om_graph.specs.View.{GraphView, Has, place_lt}
use Rattle.om_graph.specs.Run.{words}
use Rattle.om_graph.proofs.OfProgram.{of_map, map_length}
use Rattle.om_layout.specs.Layout.{LayoutView, position_of}
use Rattle.om_layout.specs.Facts.{ArePositions, AreSorted, IsBeforeAll}
use Rattle.om_layout.proofs.Placing.{later_is}
use Rattle.om_layout.proofs.Sorted.{AreWordsOf}
use Rattle.om_encode.proofs.PutWords.{AreApart}

-- ---- numbers of which none stands twice

abbrev AreOnce : List ℕ → Type 0
AreOnce [] = Unit {0}
AreOnce (x ∷ xs) = (Has xs x → ⊥) × AreOnce xs

has_or_not : (xs : List ℕ) (m : ℕ) → Has xs m ⊎ (Has xs m → ⊥)
has_or_not [] m = inr (λ h. h)
has_or_not (x ∷ xs) m = by_test (x == m) refl (has_or_not xs m)
  where
    by_test : (b : Bool) → (x == m) ≡ b → Has xs m ⊎ (Has xs m → ⊥) → Has (x ∷ xs) m ⊎ (Has (x ∷ xs) m → ⊥)
    by_test true t r = inl (inl (eqb-true x m t))
    by_test false t (inl h) = inl (inr h)
    by_test false t (inr n) = inr (λ h. either h)
      where
        either : (x ≡ m) ⊎ Has xs m → ⊥
        either (inl e) = let u : (x == m) ≡ true = eq-eqb x m e in differ (sym u ∙ t)
          where
            differ : true ≡ false → ⊥
            differ e = cc
        either (inr h) = n h

-- without the first that is m
abbrev without : ℕ → List ℕ → List ℕ
without m [] = []
without m (x ∷ xs) = if x == m then xs else x ∷ without m xs

without_length : (m : ℕ) (xs : List ℕ) → Has xs m → length xs ≡ suc (length (without m xs))
without_length m [] h = absurd h
without_length m (x ∷ xs) h = by_test (x == m) refl (without_length m xs) h
  where
    differ : true ≡ false → ⊥
    differ e = cc

    by_test :
        (b : Bool) → (x == m) ≡ b → (Has xs m → length xs ≡ suc (length (without m xs))) → (x ≡ m) ⊎ Has xs m →
        suc (length xs) ≡ suc (length (cond b xs (x ∷ without m xs)))
    by_test true t again h = refl
    by_test false t again (inl e) = absurd (differ (sym (eq-eqb x m e) ∙ t))
    by_test false t again (inr h) = ap suc (again h)

without_in : (m : ℕ) (xs : List ℕ) (k : ℕ) → Has (without m xs) k → Has xs k
without_in m [] k h = absurd h
without_in m (x ∷ xs) k h = by_test (x == m) (without_in m xs k) h
  where
    by_test : (b : Bool) → (Has (without m xs) k → Has xs k) → Has (cond b xs (x ∷ without m xs)) k → Has (x ∷ xs) k
    by_test true again h = inr h
    by_test false again (inl e) = inl e
    by_test false again (inr h) = inr (again h)

without_once : (m : ℕ) (xs : List ℕ) → AreOnce xs → AreOnce (without m xs)
without_once m [] o = tt
without_once m (x ∷ xs) o = by_test (x == m) (without_once m xs o.1)
  where
    by_test : (b : Bool) → AreOnce (without m xs) → AreOnce (cond b xs (x ∷ without m xs))
    by_test true again = o.1
    by_test false again = ((λ h. o.0 (without_in m xs x h)), again)

without_not : (m : ℕ) (xs : List ℕ) (k : ℕ) → AreOnce xs → Has (without m xs) k → k ≡ m → ⊥
without_not m [] k o h e = h
without_not m (x ∷ xs) k o h e = by_test (x == m) refl (λ h. without_not m xs k o.1 h e) h
  where
    differ : true ≡ false → ⊥
    differ e = cc

    by_test : (b : Bool) → (x == m) ≡ b → (Has (without m xs) k → ⊥) → Has (cond b xs (x ∷ without m xs)) k → ⊥
    by_test true t again h = o.0 (subst (Has xs) (e ∙ sym (eqb-true x m t)) h)
    by_test false t again (inl f) = differ (sym (eq-eqb x m (f ∙ e)) ∙ t)
    by_test false t again (inr h) = again h

-- below n there are no more than n
few : (n : ℕ) (xs : List ℕ) → AreOnce xs → ((x : ℕ) → Has xs x → x < n) → length xs ≤ n
few zero [] o f = omega arith
few zero (x ∷ xs) o f = let l = f x (inl refl) in absurd (omega (arith, l))
few (suc m) xs o f = by_has (has_or_not xs m) (few m)
  where
    by_has : Has xs m ⊎ (Has xs m → ⊥) → ((ys : List ℕ) → AreOnce ys → ((x : ℕ) → Has ys x → x < m) → length ys ≤ m) → length xs ≤ suc m
    by_has (inl h) again =
        let n = without_length m xs h in
        let r = again (without m xs) (without_once m xs o)
        (λ x k. let l = f x (without_in m xs x k) in let d : x ≡ m → ⊥ = without_not m xs x o k in omega (arith, l, d)) in
        omega (arith, n, r)
    by_has (inr none) again =
        let r = again xs o (λ x k. let l = f x k in let d : x ≡ m → ⊥ = λ e. none (subst (Has xs) e k) in omega (arith, l, d)) in
        omega (arith, r)

-- and where there are n each is there
all_there : (n : ℕ) (xs : List ℕ) (k : ℕ) → AreOnce xs → ((x : ℕ) → Has xs x → x < n) → n ≤ length xs → k < n → Has xs k
all_there zero xs k o f l h = absurd (omega (arith, h))
all_there (suc m) xs k o f l h = by_has (has_or_not xs m) (λ ys. all_there m ys k)
  where
    turned : true ≡ false → ⊥
    turned e = cc

    by_last :
        (b : Bool) → (k == m) ≡ b → Has xs m →
        ((ys : List ℕ) → AreOnce ys → ((x : ℕ) → Has ys x → x < m) → m ≤ length ys → k < m → Has ys k) → Has xs k
    by_last true t there again = subst (Has xs) (sym (eqb-true k m t)) there
    by_last false t there again =
        let n = without_length m xs there in
        let other : k ≡ m → ⊥ = λ e. turned (sym (eq-eqb k m e) ∙ t) in
        without_in m xs k
        (again (without m xs) (without_once m xs o)
        (λ x j. let u = f x (without_in m xs x j) in let d : x ≡ m → ⊥ = without_not m xs x o j in omega (arith, u, d))
        (omega (arith, n, l)) (omega (arith, h, other)))

    by_has :
        Has xs m ⊎ (Has xs m → ⊥) →
        ((ys : List ℕ) → AreOnce ys → ((x : ℕ) → Has ys x → x < m) → m ≤ length ys → k < m → Has ys k) → Has xs k
    by_has (inl there) again = by_last (k == m) refl there again
    by_has (inr none) again =
        let r = few m xs o (λ x j. let u = f x j in let d : x ≡ m → ⊥ = λ e. none (subst (Has xs) e j) in omega (arith, u, d)) in
        absurd (omega (arith, r, l))

-- ---- positions

self_not : (a : Place) → place_lt a a ≡ true → ⊥
self_not a e = grind (arith, nat_tests)

module _ (position : Place → ℕ) (G : Place → Type 0) (all : List Word) (are : ArePositions G all position) where
  apart_from : (ws : List Word) → AreSorted ws → ((w : Word) → Has ws w → Has all w) → AreOnce (map (λ w. position w.at) ws)
  apart_from [] s h = tt
  apart_from (w ∷ ws) s h = (
    λ m. let v = of_map (λ (x : Word). position x.at) ws (position w.at) m in not_later w ws v.0 s.0 v.1 (are.once v.0 w (h v.0 (inr v.1)) (h w (inl refl)) v.2),
    apart_from ws s.1 (λ x m. h x (inr m)),
  )
    where
      not_later : (w : Word) (ws : List Word) (v : Word) → IsBeforeAll w ws → Has ws v → v ≡ w → ⊥
      not_later w ws v b m e = self_not w.at (subst (λ (x : Word). place_lt w.at x.at ≡ true) e (later_is w ws v b m))

  -- every number below that of all words is the position of one
  pub every_position : AreSorted all → (k : ℕ) → k < length all → (w : Word) × Has all w × (position w.at ≡ k)
  every_position s k h =
      let n = map_length (λ (w : Word). position w.at) all in
      let there = all_there (length all) (map (λ w. position w.at) all) k (apart_from all s (λ w m. m))
      (λ x m. let v = of_map (λ (w : Word). position w.at) all x m in let i = are.inside v.0 v.1 in let e = v.2 in omega (arith, i, e))
      (omega (arith, n)) h in
      of_map (λ (w : Word). position w.at) all k there

module _ (g : GraphView) (l : LayoutView) (G : Place → Type 0) (are : ArePositions G (words g) (position_of l)) where
  apart_words : (ws : List Word) → AreSorted ws → ((w : Word) → Has ws w → Has (words g) w) → AreApart l ws
  apart_words [] s h = tt
  apart_words (w ∷ ws) s h = (
    λ v m e. self_not w.at (subst (λ (x : Word). place_lt w.at x.at ≡ true) (are.once v w (h v (inr m)) (h w (inl refl)) e) (later_is w ws v s.0 m)),
    apart_words ws s.1 (λ x m. h x (inr m)),
  )

  pub all_apart : AreWordsOf g.counts (words g) → AreApart l (words g)
  all_apart ws = apart_words (words g) ws.sorted (λ w h. h)
