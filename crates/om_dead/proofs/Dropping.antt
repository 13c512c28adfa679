-- Blocks that were not found are dropped one by one, each outside the kept set of the graph as it is then.
use Rattle.std.proofs.Common.{◌≡◌, ◌⊎◌, inl, inr, ◌<◌, ℕ, suc, Bool, true, false, List, [], ◌∷◌, ◌++◌, get_or, length, Option, Some, None, IfSome, IsTrue, refl, sym, ap, ◌∙◌, subst, arith}
use Rattle.std.specs.Prelude.{◌||◌}
use Rattle.std.proofs.lemmas.Bool.{true≢false, eqb-true, eq-eqb}
use Rattle.om_value.specs.declared.value.Place.{Place}
use Rattle.om_graph.specs.View.{Block, GraphView, Has, is_block, block_of, is_live_block, first_block_id, block_id_after, dropped}
use Rattle.om_graph.specs.Held.{IsGraph, Apart, block_ids}
use Rattle.om_graph.specs.Kept.{IsInKeptSet, root, fall, named, behind}
use Rattle.om_graph.specs.Left.{OnlyKeptSet}
use Rattle.om_graph.proofs.Labels.{has_append, append_left, append_right}
use Rattle.om_blocks.proofs.Walking.{assoc, no_more, map_both, apart_two, apart_rest, blocks_from, blocks_all, block_after, found_here, a_some, some_is}
use Rattle.om_blocks.proofs.OfFlow.{has_id}
use Rattle.om_uses.specs.Parts.{Kept, IsNearly}
use Rattle.om_passes.specs.Passed.{Passes, IsStep, IsOfAProgram, PassesGoOn}
use Rattle.om_passes.specs.Laws.{PrunesAreSteps, OpsStillFit}
use Rattle.om_passes.proofs.Parted.{is_false, Parted, filter_parted}
use Rattle.om_passes.proofs.OneBlock.{dropped_blocks, still_there}
use Rattle.om_passes.proofs.KeptEdits.{dropped_before}
use Rattle.om_dead.specs.Finding.{IsFound, AreFound, IsUnkept}

-- ---- lists of blocks

module _ (done : List Block) (x : Block) (rest : List Block) (apart : Apart (block_ids (done ++ x ∷ rest))) where
  parts_apart : Apart (block_ids done ++ x.id ∷ block_ids rest)
  parts_apart = subst (λ (l : List ℕ). Apart l) (map_both (λ (b : Block). b.id) done (x ∷ rest)) apart

  abbrev is_x : Block → Bool
  is_x = is_block x.id

  x_parted : Parted is_x (done ++ x ∷ rest) x
  x_parted = record {
    before = done;
    after = rest;
    same = refl;
    here = eq-eqb x.id x.id refl;
    left = λ c h. is_false (is_x c) (λ e. apart_two (block_ids done) (x.id ∷ block_ids rest) x.id parts_apart (subst (λ (i : ℕ). Has (block_ids done) i) (eqb-true c.id x.id e) (has_id done c h)) (inl refl));
    right = λ c h. is_false (is_x c) (λ e. (apart_rest (block_ids done) (x.id ∷ block_ids rest) parts_apart).0 (subst (λ (i : ℕ). Has (block_ids rest) i) (eqb-true c.id x.id e) (has_id rest c h)));
  }

  -- the blocks that are left
  without : (g : GraphView) → g.blocks ≡ done ++ x ∷ rest → (dropped g x.id).blocks ≡ done ++ rest
  unfolding x_parted
  without g e = ap (λ (l : List Block). (dropped (record g { blocks = l }) x.id).blocks) e ∙ filter_parted is_x (done ++ x ∷ rest) x x_parted

  apart_without : Apart (block_ids (done ++ rest))
  apart_without = subst (λ (l : List ℕ). Apart l) (sym (map_both (λ (b : Block). b.id) done rest)) (leave_out (block_ids done) parts_apart)
    where
      either : (xs ys : List ℕ) (y i : ℕ) → Has (xs ++ ys) i → Has (xs ++ y ∷ ys) i
      either [] ys y i h = inr h
      either (z ∷ xs) ys y i (inl e) = inl e
      either (z ∷ xs) ys y i (inr h) = inr (either xs ys y i h)

      leave_out : (xs : List ℕ) → Apart (xs ++ x.id ∷ block_ids rest) → Apart (xs ++ block_ids rest)
      leave_out [] a = a.1
      leave_out (z ∷ xs) a = ((λ h. a.0 (either xs (block_ids rest) x.id z h)), leave_out xs a.1)

  apart_again : Apart (block_ids ((done ++ x ∷ []) ++ rest))
  apart_again = subst (λ (l : List Block). Apart (block_ids l)) (sym (assoc done (x ∷ []) rest)) apart

  left_now : length (blocks_from (Some x.id) (done ++ x ∷ rest)) ≡ suc (length rest)
  left_now = blocks_all done (x ∷ rest) apart

  left_with : length (blocks_from (first_block_id rest) (done ++ x ∷ rest)) ≡ length rest
  left_with = ap (λ (l : List Block). length (blocks_from (first_block_id rest) l)) (sym (assoc done (x ∷ []) rest)) ∙ blocks_all (done ++ x ∷ []) rest apart_again

  left_without : length (blocks_from (first_block_id rest) (done ++ rest)) ≡ length rest
  left_without = blocks_all done rest apart_without

  in_without : (b : Block) → Has (done ++ rest) b → Has (done ++ x ∷ rest) b
  in_without b h = by_case (has_append done rest b h)
    where
      by_case : Has done b ⊎ Has rest b → Has (done ++ x ∷ rest) b
      by_case (inl k) = append_left done (x ∷ rest) b k
      by_case (inr k) = append_right done (x ∷ rest) b (inr k)

none_left : (bs : List Block) → None ≡ first_block_id bs → bs ≡ []
none_left [] e = refl
none_left (b ∷ bs) e = cc

one_more : (done : List Block) (x b : Block) → Has (done ++ x ∷ []) b → Has done b ⊎ (x ≡ b)
one_more done x b h = by_case (has_append done (x ∷ []) b h)
  where
    by_case : Has done b ⊎ Has (x ∷ []) b → Has done b ⊎ (x ≡ b)
    by_case (inl k) = inl k
    by_case (inr (inl e)) = inr e
    by_case (inr (inr k)) = absurd k

-- ---- the kept set

-- without a block outside it the kept set is as before
module _ (g : GraphView) (graph : IsGraph g) (id : ℕ) (b : Block) (under : block_of g id ≡ Some b) (out : IsInKeptSet g b.label → ⊥) where
  still_in : (c : Block) → Has g.blocks c → IsInKeptSet g c.label → Has (dropped g id).blocks c
  still_in c h k = by_case (still_there g graph id b under c h)
    where
      by_case : (b ≡ c) ⊎ Has (dropped g id).blocks c → Has (dropped g id).blocks c
      by_case (inl e) = absurd (out (subst (λ (x : Block). IsInKeptSet g x.label) (sym e) k))
      by_case (inr m) = m

  still_kept : (q : Place) → IsInKeptSet g q → IsInKeptSet (dropped g id) q
  still_kept _ (root q h) = root q h
  still_kept _ (fall c q h k f l) = fall c q (still_in c h k) (still_kept c.label k) f l
  still_kept _ (named c w q h k m n) = named c w q (still_in c h k) (still_kept c.label k) m n
  still_kept _ (behind c w h k m l) = behind c w (still_in c h k) (still_kept c.label k) m l

-- ---- the walk

-- how many blocks are left
abbrev pub blocks_to_do : Option ℕ → GraphView → ℕ
blocks_to_do next g = length (blocks_from next g.blocks)

pub record Pruned (old now : GraphView) (fs : List Bool) (changed : Bool) (next : Option ℕ) : Type 0 where
  pub passed : Passes changed old now
  pub near : (k : Kept) → IsNearly old k → IsNearly now k
  pub low : (b : Block) → Has now.blocks b → b.id < length fs
  -- what was not found is outside the kept set still
  pub out : (b : Block) → Has now.blocks b → get_or fs b.id false ≡ false → IsInKeptSet now b.label → ⊥
  pub done : List Block
  pub left : List Block
  pub split : now.blocks ≡ done ++ left
  pub at : next ≡ first_block_id left
  pub live : IfSome next (λ b. IsTrue (is_live_block now b))
  -- and what was found is in it
  pub stays : (b : Block) → Has now.blocks b → IsFound fs b.id → IsInKeptSet now b.label
  -- what is done, and was not dropped, was found
  pub found : (b : Block) → Has done b → IsFound fs b.id

live_first : (g : GraphView) → IsGraph g → (done left : List Block) → g.blocks ≡ done ++ left → IfSome (first_block_id left) (λ b. IsTrue (is_live_block g b))
live_first g graph done [] e = tt
live_first g graph done (x ∷ left) e = (found_here g graph x x.id (subst (λ (l : List Block). Has l x) (sym e) (append_right done (x ∷ left) x (inl refl))) refl).1

pub pruned_first : (law : PassesGoOn) (g : GraphView) (fs : List Bool) (next : Option ℕ) → IsGraph g → AreFound g fs → next ≡ first_block_id g.blocks → Pruned g g fs false next
pruned_first law g fs next graph are e = record {
  passed = law.none g;
  near = λ k h. h;
  low = λ b h. are.rows b.id (found_here g graph b b.id h refl).1;
  out = λ b h e k. true≢false (sym ((are.each b h).1 k) ∙ e);
  done = [];
  left = g.blocks;
  split = refl;
  at = e;
  live = subst (λ (o : Option ℕ). IfSome o (λ b. IsTrue (is_live_block g b))) (sym e) (live_first g graph [] g.blocks refl);
  stays = λ b h. (are.each b h).0;
  found = λ b h. absurd h;
}

module _ (law : PassesGoOn) (old now : GraphView) (fs : List Bool) (changed : Bool) (b : ℕ) (of : IsOfAProgram old) (from : Option ℕ) (some : from ≡ Some b) (walk : Pruned old now fs changed from) where
  abbrev on : Pruned old now fs changed (Some b)
  on = subst (λ (o : Option ℕ). Pruned old now fs changed o) some walk

  pub of_now : IsOfAProgram now
  of_now = law.stays changed old now of on.passed

  graph : IsGraph now
  graph = of_now.may_go_on.graph.graph

  -- the block that is looked at
  record Looked : Type 0 where
    block : Block
    rest : List Block
    split : now.blocks ≡ on.done ++ block ∷ rest
    is : block.id ≡ b

  looked : Looked
  looked = by_left on.left refl on.at
    where
      by_left : (left : List Block) → on.left ≡ left → Some b ≡ first_block_id left → Looked
      by_left [] e f = cc
      by_left (x ∷ rest) e f = record { block = x; rest = rest; split = on.split ∙ ap (λ (l : List Block). on.done ++ l) e; is = sym (some_is b x.id f) }

  abbrev x : Block
  x = looked.block

  apart : Apart (block_ids (on.done ++ x ∷ looked.rest))
  apart = subst (λ (l : List Block). Apart (block_ids l)) looked.split graph.block_ids

  here : Has now.blocks x
  here = subst (λ (l : List Block). Has l x) (sym looked.split) (append_right on.done (x ∷ looked.rest) x (inl refl))

  under : block_of now b ≡ Some x
  under = (found_here now graph x b here looked.is).0

  pub inside : b < length fs
  inside = subst (λ (i : ℕ). i < length fs) looked.is (on.low x here)

  pub unkept : get_or fs b false ≡ false → IsUnkept now b
  unkept e y k h =
      let same : x ≡ y = some_block x y (sym under ∙ k) in
      on.out y (subst (λ (z : Block). Has now.blocks z) same here)
      (ap (λ (i : ℕ). get_or fs i false) (ap (λ (z : Block). z.id) (sym same) ∙ looked.is) ∙ e) h
    where
      some_block : (a c : Block) → Some a ≡ Some c → a ≡ c
      some_block a c e = cc

  after : block_id_after b now.blocks ≡ first_block_id looked.rest
  after = subst (λ (i : ℕ). block_id_after i now.blocks ≡ first_block_id looked.rest) looked.is (ap (block_id_after x.id) looked.split ∙ block_after on.done x looked.rest apart)

  -- a block that was found stays
  found_kept : (next : Option ℕ) → next ≡ block_id_after b now.blocks → IsFound fs b → Pruned old now fs changed next
  found_kept next e f = record {
    passed = on.passed;
    near = on.near;
    low = on.low;
    out = on.out;
    done = on.done ++ x ∷ [];
    left = looked.rest;
    split = split;
    at = e ∙ after;
    live = subst (λ (o : Option ℕ). IfSome o (λ i. IsTrue (is_live_block now i))) (sym (e ∙ after)) (live_first now graph (on.done ++ x ∷ []) looked.rest split);
    stays = on.stays;
    found = λ y h. by_case y (one_more on.done x y h);
  }
    where
      split : now.blocks ≡ (on.done ++ x ∷ []) ++ looked.rest
      split = looked.split ∙ sym (assoc on.done (x ∷ []) looked.rest)

      by_case : (y : Block) → Has on.done y ⊎ (x ≡ y) → IsFound fs y.id
      by_case y (inl h) = on.found y h
      by_case y (inr s) = subst (λ (z : Block). IsFound fs z.id) s (subst (λ (i : ℕ). IsFound fs i) (sym looked.is) f)

  found_fewer : (next : Option ℕ) → next ≡ block_id_after b now.blocks → blocks_to_do next now < blocks_to_do (Some b) now
  found_fewer next e =
      let a : blocks_to_do (Some b) now ≡ suc (length looked.rest) = ap (λ (i : ℕ). blocks_to_do (Some i) now) (sym looked.is) ∙ ap (λ (l : List Block). length (blocks_from (Some x.id) l)) looked.split ∙ left_now on.done x looked.rest apart in
      let c : blocks_to_do next now ≡ length looked.rest = ap (λ (o : Option ℕ). blocks_to_do o now) (e ∙ after) ∙ ap (λ (l : List Block). length (blocks_from (first_block_id looked.rest) l)) looked.split ∙ left_with on.done x looked.rest apart in
      omega (arith, a, c)

  module _ (next : Option ℕ) (e : next ≡ block_id_after b now.blocks) (again : Bool) (then : GraphView) (is : again ≡ false) (step : Passes again now then) where
    pub pruned_kept : IsFound fs b → Pruned old then fs changed next
    pruned_kept f = subst (λ (g : GraphView). Pruned old g fs changed next) (sym (step.same is)) (found_kept next e f)

    pub fewer_kept : blocks_to_do next then < blocks_to_do from now
    fewer_kept = subst (λ (o : Option ℕ). blocks_to_do next then < blocks_to_do o now) (sym some) (subst (λ (g : GraphView). blocks_to_do next g < blocks_to_do (Some b) now) (sym (step.same is)) (found_fewer next e))

  -- another one is gone
  module _ (next : Option ℕ) (e : next ≡ block_id_after b now.blocks) (unfound : get_or fs b false ≡ false) (passed : Passes true now (dropped now b)) (near : (k : Kept) → IsNearly now k → IsNearly (dropped now b) k) where
    abbrev new : GraphView
    new = dropped now b

    blocks_new : new.blocks ≡ on.done ++ looked.rest
    blocks_new = subst (λ (i : ℕ). (dropped now i).blocks ≡ on.done ++ looked.rest) looked.is (without on.done x looked.rest apart now looked.split)

    before : (y : Block) → Has new.blocks y → Has now.blocks y
    before y h = dropped_blocks now graph b x under y h

    x_out : IsInKeptSet now x.label → ⊥
    x_out = unkept unfound x under

    or_true : (c : Bool) → (c || true) ≡ true
    or_true true = refl
    or_true false = refl

    all_passed : Passes true old new
    all_passed = subst (λ (c : Bool). Passes c old new) (or_true changed) (law.all changed true old now new on.passed passed)

    gone_dropped : Pruned old new fs true next
    gone_dropped = record {
      passed = all_passed;
      near = λ k h. near k (on.near k h);
      low = λ y h. on.low y (before y h);
      out = λ y h f k. on.out y (before y h) f (dropped_before now graph b x under y.label k);
      done = on.done;
      left = looked.rest;
      split = blocks_new;
      at = e ∙ after;
      live = subst (λ (o : Option ℕ). IfSome o (λ i. IsTrue (is_live_block new i))) (sym (e ∙ after))
          (live_first new (law.stays true old new of all_passed).may_go_on.graph.graph on.done looked.rest blocks_new);
      stays = λ y h f. still_kept now graph b x under x_out y.label (on.stays y (before y h) f);
      found = on.found;
    }

    gone_fewer : blocks_to_do next new < blocks_to_do (Some b) now
    gone_fewer =
        let a : blocks_to_do (Some b) now ≡ suc (length looked.rest) = ap (λ (i : ℕ). blocks_to_do (Some i) now) (sym looked.is) ∙ ap (λ (l : List Block). length (blocks_from (Some x.id) l)) looked.split ∙ left_now on.done x looked.rest apart in
        let c : blocks_to_do next new ≡ length looked.rest = ap (λ (o : Option ℕ). blocks_to_do o new) (e ∙ after) ∙ ap (λ (l : List Block). length (blocks_from (first_block_id looked.rest) l)) blocks_new ∙ left_without on.done x looked.rest apart in
        omega (arith, a, c)

  module _ (next : Option ℕ) (e : next ≡ block_id_after b now.blocks) (again : Bool) (then : GraphView) (is : again ≡ true) (unfound : get_or fs b false ≡ false) (gone : then ≡ dropped now b) (step : Passes again now then)
      (near : (k : Kept) → IsNearly now k → IsNearly then k) where
    step_gone : Passes true now (dropped now b)
    step_gone = subst (λ (g : GraphView). Passes true now g) gone (subst (λ (t : Bool). Passes t now then) is step)

    near_gone : (k : Kept) → IsNearly now k → IsNearly (dropped now b) k
    near_gone k h = subst (λ (g : GraphView). IsNearly g k) gone (near k h)

    pub pruned_dropped : Pruned old then fs true next
    pruned_dropped = subst (λ (g : GraphView). Pruned old g fs true next) (sym gone) (gone_dropped next e unfound step_gone near_gone)

    pub fewer_dropped : blocks_to_do next then < blocks_to_do from now
    fewer_dropped = subst (λ (o : Option ℕ). blocks_to_do next then < blocks_to_do o now) (sym some) (subst (λ (g : GraphView). blocks_to_do next g < blocks_to_do (Some b) now) (sym gone) (gone_fewer next e unfound step_gone near_gone))

-- at the end each block that is left is in the kept set
pub pruned_end : (old now : GraphView) (fs : List Bool) (changed : Bool) → Pruned old now fs changed None → OnlyKeptSet now
pruned_end old now fs changed on = record { blocks = λ b h. on.stays b h (on.found b (subst (λ (l : List Block). Has l b) all h)) }
  where
    all : now.blocks ≡ on.done
    all = on.split ∙ ap (λ (l : List Block). on.done ++ l) (none_left on.left on.at) ∙ no_more on.done

-- ---- one block

-- a block outside the kept set gone is a step
pub one_step : PrunesAreSteps → OpsStillFit → (g : GraphView) (id : ℕ) → is_live_block g id ≡ true → IsUnkept g id → IsStep g (dropped g id)
one_step law fits g id live out =
    let x = a_some (block_of g id) live in
    record {
      step = λ p prog m. law.block p g id x.0 prog m x.1 (out x.0 x.1);
      fits = λ p prog m gp address fit. (fits p gp address).without g id x.0 prog m.graph x.1 fit;
    }
