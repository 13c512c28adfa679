-- The address loads of a text name at most as many targets as 16 bits reach.
use Rattle.std.proofs.Common.{◌≡◌, ◌⊎◌, inl, inr, ℕ, zero, suc, ◌<◌, ◌≤◌, Bool, true, false, cond, not, ◌&&◌, ◌||◌, ◌==◌, nat_lt, List, [], ◌∷◌, ◌++◌, length, filter, Option, Some, None, refl, ap, sym, ◌∙◌, arith}
use Rattle.std.specs.List.{list_any}
use Rattle.std.proofs.lemmas.Bool.{eqb-true}
use Rattle.std.proofs.lemmas.Bool.Decides.{nat_tests}
use Rattle.om_value.specs.declared.value.Target.{Target}
use Rattle.om_value.specs.declared.value.Target.TheVariants.{Num, Ptr, Code}
use Rattle.om_value.specs.Same.{region_eq, target_eq}
use Rattle.om_prog.specs.declared.item.Item.{Item}
use Rattle.om_prog.specs.Valid.{literal_of, with_target, with_slot, slots_onto, slots}
use Rattle.om_resolve.proofs.Members.{In, in_either}
use Rattle.om_resolve.proofs.Pairwise.{Pairwise, pairwise_append}
use Rattle.om_resolve.proofs.ProgramRegions.{region_same, region_self}

-- ---- equal targets

both_true : (a b : Bool) → (a && b) ≡ true → (a ≡ true) × (b ≡ true)
both_true true b e = (refl, e)
both_true false b e = cc

self_equal : (n : ℕ) → (n == n) ≡ true
self_equal n = grind (arith, nat_tests)

target_self : (t : Target) → target_eq t t ≡ true
target_self (Num n) = self_equal n
target_self (Ptr r x) = rw (region_self r, self_equal x) refl
target_self (Code q) = rw (self_equal q.obj, self_equal q.off) refl

abbrev Unlike : Target → Target → Type 0
Unlike t u = target_eq t u ≡ false

-- ---- the slots of a text differ, and each is the target of one of its words

none_equal : (t : Target) (ts : List Target) (u : Target) → list_any (λ v. target_eq v t) ts ≡ false → In ts u → target_eq u t ≡ false
none_equal t [] u h i = absurd i
none_equal t (v ∷ ts) u h i = by_test (none_equal t ts u) (target_eq v t) refl h i
  where
    by_test : (list_any (λ v. target_eq v t) ts ≡ false → In ts u → target_eq u t ≡ false) → (b : Bool) → target_eq v t ≡ b → (b || list_any (λ v. target_eq v t) ts) ≡ false → (v ≡ u) ⊎ In ts u → target_eq u t ≡ false
    by_test rest true e h i = cc
    by_test rest false e h (inl same) = ap (λ w. target_eq w t) (sym same) ∙ e
    by_test rest false e h (inr i) = rest h i

with_differ : (ts : List Target) (t : Target) → Pairwise Unlike ts → Pairwise Unlike (with_target ts t)
with_differ ts t d = by_test (list_any (λ u. target_eq u t) ts) refl
  where
    by_test : (b : Bool) → list_any (λ u. target_eq u t) ts ≡ b → Pairwise Unlike (cond b ts (ts ++ t ∷ []))
    by_test true e = d
    by_test false e = pairwise_append Unlike ts (t ∷ []) d (λ y h. absurd h, tt) (λ x y i j. by_last x y i j)
      where
        by_last : (x y : Target) → In ts x → (t ≡ y) ⊎ ⊥ → target_eq x y ≡ false
        by_last x y i (inl same) = ap (target_eq x) (sym same) ∙ none_equal t ts x e i
        by_last x y i (inr h) = absurd h

slot_differ : (ts : List Target) (o : Option Target) → Pairwise Unlike ts → Pairwise Unlike (with_slot ts o)
slot_differ ts None d = d
slot_differ ts (Some t) d = with_differ ts t d

all_differ : (ts : List Target) (text : List Item) → Pairwise Unlike ts → Pairwise Unlike (slots_onto ts text)
all_differ ts [] d = d
all_differ ts (i ∷ text) d = all_differ (with_slot ts (literal_of i)) text (slot_differ ts (literal_of i) d)

slot_in : (ts : List Target) (o : Option Target) (u : Target) → In (with_slot ts o) u → In ts u ⊎ (o ≡ Some u)
slot_in ts None u h = inl h
slot_in ts (Some t) u h = by_test (list_any (λ u. target_eq u t) ts) h
  where
    by_side : In ts u ⊎ ((t ≡ u) ⊎ ⊥) → In ts u ⊎ (Some t ≡ Some u)
    by_side (inl i) = inl i
    by_side (inr (inl e)) = inr (ap (λ t. Some t) e)
    by_side (inr (inr h)) = absurd h

    by_test : (b : Bool) → In (cond b ts (ts ++ t ∷ [])) u → In ts u ⊎ (Some t ≡ Some u)
    by_test true h = inl h
    by_test false h = by_side (in_either ts (t ∷ []) u h)

slots_from : (ts : List Target) (text : List Item) (u : Target) → In (slots_onto ts text) u → In ts u ⊎ ((i : Item) × In text i × (literal_of i ≡ Some u))
slots_from ts [] u h = inl h
slots_from ts (i ∷ text) u h = by_side (slots_from (with_slot ts (literal_of i)) text u h)
  where
    by_slot : In ts u ⊎ (literal_of i ≡ Some u) → In ts u ⊎ ((j : Item) × In (i ∷ text) j × (literal_of j ≡ Some u))
    by_slot (inl h) = inl h
    by_slot (inr e) = inr (i, inl refl, e)

    by_side : In (with_slot ts (literal_of i)) u ⊎ ((j : Item) × In text j × (literal_of j ≡ Some u)) → In ts u ⊎ ((j : Item) × In (i ∷ text) j × (literal_of j ≡ Some u))
    by_side (inl h) = by_slot (slot_in ts (literal_of i) u h)
    by_side (inr k) = inr (k.0, inr k.1, k.2)

-- ---- targets that differ, each the value of a function below a number, are not more than that

others_in : (f : Target → Bool) (ts : List Target) (u : Target) → In (filter f ts) u → In ts u × (f u ≡ true)
others_in f [] u h = absurd h
others_in f (t ∷ ts) u h = by_test (others_in f ts u) (f t) refl h
  where
    by_rest : In ts u × (f u ≡ true) → In (t ∷ ts) u × (f u ≡ true)
    by_rest k = (inr k.0, k.1)

    by_test : (In (filter f ts) u → In ts u × (f u ≡ true)) → (b : Bool) → f t ≡ b → In (cond b (t ∷ filter f ts) (filter f ts)) u → In (t ∷ ts) u × (f u ≡ true)
    by_test rest true e (inl same) = (inl same, ap f (sym same) ∙ e)
    by_test rest true e (inr h) = by_rest (rest h)
    by_test rest false e h = by_rest (rest h)

others_differ : (f : Target → Bool) (ts : List Target) → Pairwise Unlike ts → Pairwise Unlike (filter f ts)
others_differ f [] d = tt
others_differ f (t ∷ ts) d = by_test (others_differ f ts d.1) (f t)
  where
    by_test : Pairwise Unlike (filter f ts) → (b : Bool) → Pairwise Unlike (cond b (t ∷ filter f ts) (filter f ts))
    by_test rest true = (λ y h. d.0 y (others_in f ts y h).0, rest)
    by_test rest false = rest

-- all but the targets that a target is equal to
abbrev unlike : Target → Target → Bool
unlike t u = not (target_eq u t)

none_taken : (t : Target) (ts : List Target) → ((u : Target) → In ts u → target_eq u t ≡ false) → length (filter (unlike t) ts) ≡ length ts
none_taken t [] h = refl
none_taken t (u ∷ ts) h =
    let e : unlike t u ≡ true = ap not (h u (inl refl)) in
    ap (λ b. length (cond b (u ∷ filter (unlike t) ts) (filter (unlike t) ts))) e
    ∙ ap suc (none_taken t ts (λ v i. h v (inr i)))

same_target : (t u : Target) → target_eq t u ≡ true → t ≡ u
same_target (Num m) (Num n) e = let f : m ≡ n = eqb-true m n e in cc
same_target (Ptr r x) (Ptr q y) e =
    let b = both_true (region_eq r q) (x == y) e in
    let f : r ≡ q = region_same r q b.0 in
    let g : x ≡ y = eqb-true x y b.1 in
    cc
same_target (Code p) (Code q) e =
    let b = both_true (p.obj == q.obj) (p.off == q.off) e in
    let f : p.obj ≡ q.obj = eqb-true p.obj q.obj b.0 in
    let g : p.off ≡ q.off = eqb-true p.off q.off b.1 in
    code_of p.obj p.off q.obj q.off f g
  where
    code_of : (a b c d : ℕ) → a ≡ c → b ≡ d → Code (record { obj = a; off = b }) ≡ Code (record { obj = c; off = d })
    code_of a b c d e f = rw (e, f) refl
same_target _ _ e = cc

one_taken : (t : Target) (ts : List Target) → Pairwise Unlike ts → length ts ≤ suc (length (filter (unlike t) ts))
one_taken t [] d = omega arith
one_taken t (u ∷ ts) d = by_test (one_taken t ts d.1) (target_eq u t) refl
  where
    by_turn : (v : Target) (b : Bool) → target_eq v t ≡ b → target_eq u v ≡ false → u ≡ t → b ≡ false
    by_turn v true e f same =
        let here : v ≡ u = same_target v t e ∙ sym same in
        let never : true ≡ false = sym (ap (target_eq u) here ∙ target_self u) ∙ f in cc
    by_turn v false e f same = refl

    by_test : length ts ≤ suc (length (filter (unlike t) ts)) → (b : Bool) → target_eq u t ≡ b → suc (length ts) ≤ suc (length (cond (not b) (u ∷ filter (unlike t) ts) (filter (unlike t) ts)))
    by_test rest true e =
        let all = none_taken t ts (λ v i. by_turn v (target_eq v t) refl (d.0 v i) (same_target u t e)) in
        omega (arith, all)
    by_test rest false e = omega (arith, rest)

abbrev AreValues : (ℕ → Target) → ℕ → List Target → Type 0
AreValues f n ts = (u : Target) → In ts u → (q : ℕ) × (q < n) × (f q ≡ u)

not_more : (f : ℕ → Target) (n : ℕ) (ts : List Target) → Pairwise Unlike ts → AreValues f n ts → length ts ≤ n
not_more f zero [] d h = omega arith
not_more f zero (t ∷ ts) d h = let k = h t (inl refl) in absurd (omega (arith, k.1))
not_more f (suc n) ts d h =
    let k = not_more f n (filter (unlike (f n)) ts) (others_differ (unlike (f n)) ts d) (λ u i. by_value u (others_in (unlike (f n)) ts u i)) in
    let one = one_taken (f n) ts d in
    omega (arith, k, one)
  where
    by_last : (u : Target) (q : ℕ) → q < suc n → f q ≡ u → unlike (f n) u ≡ true → (c : Bool) → nat_lt q n ≡ c → (q : ℕ) × (q < n) × (f q ≡ u)
    by_last u q b e z true t = (q, grind (arith, nat_tests), e)
    by_last u q b e z false t =
        let low : n ≤ q = grind (arith, nat_tests) in
        let last : n ≡ q = omega (arith, low, b) in
        let same : f n ≡ u = ap f last ∙ e in
        let never : false ≡ true = sym (ap (λ t. not (target_eq u t)) same ∙ ap not (target_self u)) ∙ z in
        absurd cc

    by_place : (u : Target) → unlike (f n) u ≡ true → (q : ℕ) × (q < suc n) × (f q ≡ u) → (q : ℕ) × (q < n) × (f q ≡ u)
    by_place u z k = by_last u k.0 k.1 k.2 z (nat_lt k.0 n) refl

    by_value : (u : Target) → In ts u × (unlike (f n) u ≡ true) → (q : ℕ) × (q < n) × (f q ≡ u)
    by_value u i = by_place u i.1 (h u i.0)

-- the slots of a text, where each target that it loads is one of n values
pub few_slots : (f : ℕ → Target) (n : ℕ) (text : List Item) → ((i : Item) (u : Target) → In text i → literal_of i ≡ Some u → (q : ℕ) × (q < n) × (f q ≡ u)) → length (slots text) ≤ n
few_slots f n text h = not_more f n (slots text) (all_differ [] text tt) (λ u i. by_side u (slots_from [] text u i))
  where
    by_side : (u : Target) → ⊥ ⊎ ((i : Item) × In text i × (literal_of i ≡ Some u)) → (q : ℕ) × (q < n) × (f q ≡ u)
    by_side u (inl i) = absurd i
    by_side u (inr k) = h k.0 u k.1 k.2
