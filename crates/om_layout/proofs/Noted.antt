-- Loads noted one by one give each table its slots.
use Rattle.std.proofs.Common.{◌≡◌, inl, inr, ℕ, zero, suc, ◌<◌, ◌≤◌, max, Bool, true, false, cond, ◌==◌, List, [], ◌∷◌, ◌++◌, ◌+◌, length, take, replicate, refl, ap, sym, ◌∙◌, arith}
use Rattle.std.specs.Prelude.{map, flat_map, fold, slice_index_or}
use Rattle.std.proofs.lemmas.Bool.{eqb-true}
use Rattle.std.proofs.lemmas.Bool.Decides.{nat_tests}
use Rattle.std.proofs.lemmas.List.{take_more, get_or_default, length-set, get_or-set_same, get_or-set_other}
use Rattle.om_value.specs.declared.value.Target.{Target}
use Rattle.om_prog.specs.declared.item.Item.{Item}
use Rattle.om_prog.specs.Act.{Word}
use Rattle.om_graph.specs.View.{Has}
use Rattle.om_prog.specs.Valid.{with_target}
use Rattle.om_layout.specs.declared.words.Load.{Load}
use Rattle.om_layout.specs.Order.{table_count, act_targets, word_targets, firsts_onto}
use Rattle.om_layout.specs.Placing.{slots_at, noted, load_noted}
use Rattle.om_layout.specs.Walked.{load_in, word_loads}
use Rattle.om_layout.proofs.Walking.{flat_both, map_both}

abbrev table_in : List ℕ → ℕ → ℕ
table_in tables o = slice_index_or tables o o

-- what a load gives to a table
abbrev pub load_targets : List ℕ → ℕ → Load → List Target
load_targets tables k load = cond (table_in tables load.obj == k) (load.target ∷ []) []

pub count_more : (ts : List ℕ) (t : ℕ) → table_count (ts ++ t ∷ []) ≡ max (suc t) (table_count ts)
count_more [] t = refl
count_more (u ∷ us) t = let e = count_more us t in rw e (max_swap (suc u) (suc t) (table_count us))
  where
    max_swap : (a b c : ℕ) → max a (max b c) ≡ max b (max a c)
    max_swap a b c = grind arith

one_noted : (ss : List (List Target)) (table k : ℕ) (t : Target) → k < length ss → slots_at (noted ss table t) k ≡ cond (table == k) (with_target (slots_at ss k) t) (slots_at ss k)
one_noted ss table k t h = by_test (table == k) refl
  where
    by_test : (b : Bool) → (table == k) ≡ b → slots_at (noted ss table t) k ≡ cond b (with_target (slots_at ss k) t) (slots_at ss k)
    by_test true e =
        let same = eqb-true table k e in
        ap (λ n. slots_at (noted ss n t) k) same ∙ get_or-set_same ss k (with_target (slots_at ss k) t) [] h
    by_test false e = get_or-set_other ss table k (with_target (slots_at ss table) t) [] (λ f. differ f e)
      where
        differ : k ≡ table → (table == k) ≡ false → ⊥
        differ f e = grind (arith, nat_tests, f, e)

pub as_many : (tables : List ℕ) (loads : List Load) (ss : List (List Target)) → length (fold (load_noted tables) ss loads) ≡ length ss
as_many tables [] ss = refl
as_many tables (l ∷ ls) ss = as_many tables ls (load_noted tables ss l) ∙ length-set ss (table_in tables l.obj) (with_target (slots_at ss (table_in tables l.obj)) l.target)

firsts_both : (seen ts us : List Target) → firsts_onto seen (ts ++ us) ≡ firsts_onto (firsts_onto seen ts) us
firsts_both seen [] us = refl
firsts_both seen (t ∷ ts) us = firsts_both (with_target seen t) ts us

pub all_noted : (tables : List ℕ) (loads : List Load) (ss : List (List Target)) (k : ℕ) → k < length ss → slots_at (fold (load_noted tables) ss loads) k ≡ firsts_onto (slots_at ss k) (flat_map (load_targets tables k) loads)
all_noted tables [] ss k h = refl
all_noted tables (l ∷ ls) ss k h =
    let n = length-set ss (table_in tables l.obj) (with_target (slots_at ss (table_in tables l.obj)) l.target) in
    all_noted tables ls (load_noted tables ss l) k (omega (arith, n, h))
    ∙ ap (λ s. firsts_onto s (flat_map (load_targets tables k) ls)) (one_noted ss (table_in tables l.obj) k l.target h)
    ∙ by_test (table_in tables l.obj == k)
  where
    by_test : (b : Bool) → firsts_onto (cond b (with_target (slots_at ss k) l.target) (slots_at ss k)) (flat_map (load_targets tables k) ls) ≡ firsts_onto (slots_at ss k) (cond b (l.target ∷ []) [] ++ flat_map (load_targets tables k) ls)
    by_test true = refl
    by_test false = refl

-- ---- loads of words

of_targets : (tables : List ℕ) (k obj : ℕ) (ts : List Target) → flat_map (load_targets tables k) (map (load_in obj) ts) ≡ cond (table_in tables obj == k) ts []
of_targets tables k obj [] = by_test (table_in tables obj == k)
  where
    by_test : (b : Bool) → ◌≡◌ {A = List Target} [] (cond b [] [])
    by_test true = refl
    by_test false = refl
of_targets tables k obj (t ∷ ts) = ap (λ l. cond (table_in tables obj == k) (t ∷ []) [] ++ l) (of_targets tables k obj ts) ∙ by_test (table_in tables obj == k)
  where
    by_test : (b : Bool) → cond b (t ∷ []) [] ++ cond b ts [] ≡ cond b (t ∷ ts) []
    by_test true = refl
    by_test false = refl

pub of_words : (tables : List ℕ) (k : ℕ) (ws : List Word) → flat_map (load_targets tables k) (flat_map word_loads ws) ≡ flat_map (word_targets (λ o. slice_index_or tables o o) k) ws
of_words tables k [] = refl
of_words tables k (w ∷ ws) =
    flat_both (load_targets tables k) (word_loads w) (flat_map word_loads ws)
    ∙ ap (λ l. l ++ flat_map (load_targets tables k) (flat_map word_loads ws)) (of_targets tables k w.at.obj (act_targets w.act))
    ∙ ap (λ l. word_targets (λ o. slice_index_or tables o o) k w ++ l) (of_words tables k ws)

-- no slots at first
pub none_at : (n k : ℕ) → slots_at (replicate n []) k ≡ []
none_at zero k = refl
none_at (suc n) zero = refl
none_at (suc n) (suc k) = none_at n k

pub many_none : (n : ℕ) → length (replicate {A = List Target} n []) ≡ n
many_none zero = refl
many_none (suc n) = ap suc (many_none n)

-- the slots of a table
pub slots_are : (tables : List ℕ) (ws : List Word) (loads : List Load) (n k : ℕ) → loads ≡ flat_map word_loads ws → k < n → slots_at (fold (load_noted tables) (replicate n []) loads) k ≡ firsts_onto [] (flat_map (word_targets (λ o. slice_index_or tables o o) k) ws)
slots_are tables ws loads n k e h =
    let m = many_none n in
    all_noted tables loads (replicate n []) k (omega (arith, m, h))
    ∙ ap (λ s. firsts_onto s (flat_map (load_targets tables k) loads)) (none_at n k)
    ∙ ap (λ l. firsts_onto [] (flat_map (load_targets tables k) l)) e
    ∙ ap (firsts_onto []) (of_words tables k ws)

-- ---- the steps of loops

pub count_step : (ts : List ℕ) (i n m : ℕ) → i < length ts → n ≡ table_count (take i ts) → m ≡ max (slice_index_or ts i 0 + 1) n → m ≡ table_count (take (i + 1) ts)
count_step ts i n m l e f =
    let a : slice_index_or ts i 0 + 1 ≡ suc (slice_index_or ts i 0) = omega arith in
    f ∙ ap (λ k. max k n) a ∙ ap (max (suc (slice_index_or ts i 0))) e ∙ sym (count_more (take i ts) (slice_index_or ts i 0)) ∙ ap table_count (sym (take_more ts i 0 l))

pub below_count : (ts : List ℕ) (o : ℕ) → o < length ts → slice_index_or ts o 0 < table_count ts
below_count [] o h = absurd (omega (arith, h))
below_count (t ∷ ts) zero h = max_left (suc t) (table_count ts)
  where
    max_left : (a b : ℕ) → a ≤ max a b
    max_left a b = grind arith
below_count (t ∷ ts) (suc o) h = max_right (suc t) (table_count ts) (suc (slice_index_or ts o 0)) (below_count ts o (omega (arith, h)))
  where
    max_right : (a b c : ℕ) → c ≤ b → c ≤ max a b
    max_right a b c h = grind (arith, h)

pub has_read : {A : Type 0} (xs : List A) (i : ℕ) (d : A) → i < length xs → Has xs (slice_index_or xs i d)
has_read [] i d h = absurd (omega (arith, h))
has_read (x ∷ xs) zero d h = inl refl
has_read (x ∷ xs) (suc i) d h = inr (has_read xs i d (omega (arith, h)))

fold_push : {A B : Type 0} (f : B → A → B) (a : B) (xs : List A) (x : A) → fold f a (xs ++ x ∷ []) ≡ f (fold f a xs) x
fold_push f a [] x = refl
fold_push f a (y ∷ ys) x = fold_push f (f a y) ys x

pub load_step :
    (tables : List ℕ) (loads : List Load) (i : ℕ) (d : Load) (z ss ns : List (List Target)) → i < length loads →
    (slice_index_or loads i d).obj < length tables → ss ≡ fold (load_noted tables) z (take i loads) →
    ns ≡ noted ss (slice_index_or tables (slice_index_or loads i d).obj 0) (slice_index_or loads i d).target →
    ns ≡ fold (load_noted tables) z (take (i + 1) loads)
load_step tables loads i d z ss ns l b e n =
    let x = slice_index_or loads i d in
    n ∙ ap (λ k. noted ss k x.target) (get_or_default tables x.obj 0 x.obj b)
    ∙ ap (λ (ts : List (List Target)). load_noted tables ts x) e
    ∙ sym (fold_push (load_noted tables) z (take i loads) x)
    ∙ ap (fold (load_noted tables) z) (sym (take_more loads i d l))

pub none_step : (k : ℕ) (x : List Target) (ss ns : List (List Target)) → ss ≡ replicate k [] → x ≡ [] → ns ≡ ss ++ x ∷ [] → ns ≡ replicate (k + 1) []
none_step k x ss ns e f n =
    let a : k + 1 ≡ suc k = omega arith in
    n ∙ ap (λ (y : List Target). ss ++ y ∷ []) f ∙ ap (λ (ts : List (List Target)). ts ++ [] ∷ []) e ∙ sym (more k) ∙ ap (λ m. replicate m []) (sym a)
  where
    more : (k : ℕ) → replicate {A = List Target} (suc k) [] ≡ replicate k [] ++ [] ∷ []
    more zero = refl
    more (suc k) = ap (λ (ts : List (List Target)). [] ∷ ts) (more k)

pub counts_step :
    (texts : List (List Item)) (i n : ℕ) (cs ds : List ℕ) → i < length texts → cs ≡ map (λ (t : List Item). length t) (take i texts) →
    n ≡ length (slice_index_or texts i []) → ds ≡ cs ++ n ∷ [] → ds ≡ map (λ (t : List Item). length t) (take (i + 1) texts)
counts_step texts i n cs ds l e f g =
    g ∙ ap (λ k. cs ++ k ∷ []) f ∙ ap (λ (ks : List ℕ). ks ++ length (slice_index_or texts i []) ∷ []) e
    ∙ sym (map_both (λ (t : List Item). length t) (take i texts) (slice_index_or texts i [] ∷ []))
    ∙ ap (map (λ (t : List Item). length t)) (sym (take_more texts i [] l))
