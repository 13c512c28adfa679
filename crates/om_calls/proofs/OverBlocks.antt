-- A walk over the blocks of a graph that keeps their ids while it is edited.
use Rattle.std.proofs.Common.{◌≡◌, inl, inr, ℕ, ◌<◌, Bool, true, false, cond, ◌==◌, List, [], ◌∷◌, ◌++◌, length, Option, Some, None, IfSome, IsTrue, refl, sym, ap, ◌∙◌, subst, arith}
use Rattle.std.specs.Prelude.{find, is_some}
use Rattle.std.proofs.lemmas.Bool.{eq-eqb}
use Rattle.om_graph.specs.View.{Block, GraphView, Has, is_block, first_block_id, block_id_after, is_live_block}
use Rattle.om_graph.specs.Held.{IsGraph, Apart, block_ids}
use Rattle.om_blocks.proofs.Walking.{assoc, no_more, not_same, some_is}

abbrev pub first_of : List ℕ → Option ℕ
first_of [] = None
first_of (x ∷ xs) = Some x

abbrev pub id_behind : ℕ → List ℕ → Option ℕ
id_behind id [] = None
id_behind id (x ∷ xs) = cond (x == id) (first_of xs) (id_behind id xs)

abbrev pub ids_from : Option ℕ → List ℕ → List ℕ
ids_from None xs = []
ids_from (Some id) [] = []
ids_from (Some id) (x ∷ xs) = cond (x == id) (x ∷ xs) (ids_from (Some id) xs)

-- how many blocks are left
abbrev pub ids_left : GraphView → Option ℕ → ℕ
ids_left g next = length (ids_from next (block_ids g.blocks))

pub first_ids : (bs : List Block) → first_block_id bs ≡ first_of (block_ids bs)
first_ids [] = refl
first_ids (b ∷ bs) = refl

after_ids : (bs : List Block) (id : ℕ) → block_id_after id bs ≡ id_behind id (block_ids bs)
after_ids [] id = refl
after_ids (b ∷ bs) id = by_test (b.id == id) (after_ids bs id)
  where
    by_test : (t : Bool) → block_id_after id bs ≡ id_behind id (block_ids bs) → cond t (first_block_id bs) (block_id_after id bs) ≡ cond t (first_of (block_ids bs)) (id_behind id (block_ids bs))
    by_test true i = first_ids bs
    by_test false i = i

has_here : (xs : List ℕ) (y : ℕ) (ys : List ℕ) → Has (xs ++ y ∷ ys) y
has_here [] y ys = inl refl
has_here (x ∷ xs) y ys = inr (has_here xs y ys)

other_id : (x : ℕ) (done : List ℕ) (y : ℕ) (rest : List ℕ) → Apart (x ∷ done ++ y ∷ rest) → (x == y) ≡ false
other_id x done y rest a = not_same x y (λ e. a.0 (subst (λ (k : ℕ). Has (done ++ y ∷ rest) k) (sym e) (has_here done y rest)))

behind_here : (done : List ℕ) (y : ℕ) (rest : List ℕ) → Apart (done ++ y ∷ rest) → id_behind y (done ++ y ∷ rest) ≡ first_of rest
behind_here [] y rest a = let e = eq-eqb y y refl in rw e refl
behind_here (x ∷ done) y rest a = let e = other_id x done y rest a in rw e (behind_here done y rest a.1)

from_here : (done : List ℕ) (y : ℕ) (rest : List ℕ) → Apart (done ++ y ∷ rest) → ids_from (Some y) (done ++ y ∷ rest) ≡ y ∷ rest
from_here [] y rest a = let e = eq-eqb y y refl in rw e refl
from_here (x ∷ done) y rest a = let e = other_id x done y rest a in rw e (from_here done y rest a.1)

left_count : (g : GraphView) → IsGraph g → (done left : List ℕ) → block_ids g.blocks ≡ done ++ left → ids_left g (first_of left) ≡ length left
left_count g graph done [] e = refl
left_count g graph done (x ∷ left) e =
    ap (λ (l : List ℕ). length (ids_from (Some x) l)) e ∙ ap (λ (l : List ℕ). length l) (from_here done x left (subst (λ (l : List ℕ). Apart l) e graph.block_ids))

-- a block is live by its id
has_id : ℕ → List ℕ → Bool
has_id id [] = false
has_id id (x ∷ xs) = cond (x == id) true (has_id id xs)

live_by_id : (id : ℕ) (bs : List Block) → is_some (find (is_block id) bs) ≡ has_id id (block_ids bs)
unfolding has_id
live_by_id id [] = refl
live_by_id id (b ∷ bs) = by_test (b.id == id) (live_by_id id bs)
  where
    by_test : (t : Bool) → is_some (find (is_block id) bs) ≡ has_id id (block_ids bs) → is_some (cond t (Some b) (find (is_block id) bs)) ≡ cond t true (has_id id (block_ids bs))
    by_test true i = refl
    by_test false i = i

pub live_same : (g n : GraphView) (id : ℕ) → block_ids n.blocks ≡ block_ids g.blocks → is_live_block g id ≡ true → is_live_block n id ≡ true
live_same g n id same live = live_by_id id n.blocks ∙ ap (has_id id) same ∙ sym (live_by_id id g.blocks) ∙ live

-- the walk has come to a block, and this holds of the graph and the ids so far
module _ (S : Type 0) (P : GraphView → List ℕ → S → Type 0) where
  pub record OnIds (g : GraphView) (next : Option ℕ) (s : S) : Type 0 where
    pub done : List ℕ
    pub left : List ℕ
    pub ids : block_ids g.blocks ≡ done ++ left
    pub at : next ≡ first_of left
    pub live : IfSome next (λ b. IsTrue (is_live_block g b))
    pub holds : P g done s

  pub ids_begin : (g : GraphView) (next : Option ℕ) (s : S) → next ≡ first_block_id g.blocks → IfSome next (λ b. IsTrue (is_live_block g b)) → P g [] s → OnIds g next s
  ids_begin g next s e live h = record { done = []; left = block_ids g.blocks; ids = refl; at = e ∙ first_ids g.blocks; live = live; holds = h }

  record NextId (g : GraphView) (b : ℕ) (s : S) (on : OnIds g (Some b) s) : Type 0 where
    rest : List ℕ
    left : on.left ≡ b ∷ rest

  next_id : (g : GraphView) (b : ℕ) (s : S) (on : OnIds g (Some b) s) → NextId g b s on
  next_id g b s on = by_left on.left refl on.at
    where
      by_left : (left : List ℕ) → on.left ≡ left → Some b ≡ first_of left → NextId g b s on
      by_left [] e f = cc
      by_left (x ∷ rest) e f = record { rest = rest; left = e ∙ ap (λ (y : ℕ). y ∷ rest) (sym (some_is b x f)) }

  module _ (g new : GraphView) (graph : IsGraph g) (new_graph : IsGraph new) (b : ℕ) (s : S) (on : OnIds g (Some b) s) (same : block_ids new.blocks ≡ block_ids g.blocks) (next : Option ℕ) (is : next ≡ block_id_after b new.blocks) where
    it : NextId g b s on
    it = next_id g b s on

    ids_are : block_ids g.blocks ≡ on.done ++ b ∷ it.rest
    ids_are = on.ids ∙ ap (λ (l : List ℕ). on.done ++ l) it.left

    new_ids : block_ids new.blocks ≡ on.done ++ b ∷ it.rest
    new_ids = same ∙ ids_are

    next_is : next ≡ first_of it.rest
    next_is = is ∙ after_ids new.blocks b ∙ ap (id_behind b) new_ids ∙ behind_here on.done b it.rest (subst (λ (l : List ℕ). Apart l) new_ids new_graph.block_ids)

    past_ids : block_ids new.blocks ≡ (on.done ++ b ∷ []) ++ it.rest
    past_ids = new_ids ∙ sym (assoc on.done (b ∷ []) it.rest)

    pub ids_more : (after : S) → IfSome next (λ n. IsTrue (is_live_block new n)) → ((done : List ℕ) → P g done s → P new (done ++ b ∷ []) after) → OnIds new next after
    ids_more after live more = record { done = on.done ++ b ∷ []; left = it.rest; ids = past_ids; at = next_is; live = live; holds = more on.done on.holds }

    pub ids_fewer : ids_left new next < ids_left g (Some b)
    ids_fewer =
        let a = ap (ids_left new) next_is ∙ left_count new new_graph (on.done ++ b ∷ []) it.rest past_ids in
        let c = left_count g graph on.done (b ∷ it.rest) ids_are in
        omega (arith, a, c)

  none_left : (ids : List ℕ) → None ≡ first_of ids → ids ≡ []
  none_left [] e = refl
  none_left (x ∷ ids) e = cc

  pub ids_end : (g : GraphView) (s : S) → OnIds g None s → P g (block_ids g.blocks) s
  ids_end g s on =
      subst (λ (l : List ℕ). P g l s) (sym (no_more on.done) ∙ ap (λ (l : List ℕ). on.done ++ l) (sym (none_left on.left on.at)) ∙ sym on.ids) on.holds
