-- A pass over the blocks of a graph that gives some of them another end.
use Rattle.std.proofs.Common.{◌≡◌, ◌⊎◌, inl, inr, ℕ, suc, ◌<◌, Bool, true, false, ◌==◌, ◌||◌, List, [], ◌∷◌, ◌++◌, length, Option, Some, None, IfSome, IsTrue, refl, sym, ap, subst, ◌∙◌, arith}
use Rattle.std.specs.Prelude.{map, find, is_some}
use Rattle.std.proofs.lemmas.Bool.{true≢false, eq-eqb}
use Rattle.om_graph.specs.declared.op.Last.{Last}
use Rattle.om_graph.specs.View.{Block, GraphView, Has, is_block, block_of, first_block_id, block_id_after, is_live_block, last_in}
use Rattle.om_graph.specs.Held.{IsGraph, Apart, block_ids}
use Rattle.om_passes.specs.Passed.{Passes, IsOfAProgram}
use Rattle.om_passes.proofs.Passed as passed
use Rattle.om_blocks.proofs.Walking.{assoc, no_more, has_mid, not_same, blocks_from, blocks_all, find_block, block_after}
use Rattle.om_uses.specs.Parts.{Kept, IsNearly}
use Rattle.om_calls.specs.Blocks.{IsBlockPassed}

-- ---- lists of blocks

other_block : (c : Block) (done : List Block) (b : Block) (rest : List Block) → Apart (block_ids (c ∷ done ++ b ∷ rest)) → (c.id == b.id) ≡ false
other_block c done b rest a = not_same c.id b.id (λ e. a.0 (subst (λ k. Has (block_ids (done ++ b ∷ rest)) k) (sym e) (has_id done)))
  where
    has_id : (done : List Block) → Has (block_ids (done ++ b ∷ rest)) b.id
    has_id [] = inl refl
    has_id (c ∷ done) = inr (has_id done)

-- another end of one of them
none_set : (id : ℕ) (l : Last) (bs : List Block) → (Has (block_ids bs) id → ⊥) → map (last_in id l) bs ≡ bs
none_set id l [] n = refl
none_set id l (c ∷ bs) n =
    let e = not_same c.id id (λ s. n (inl s)) in
    let r = none_set id l bs (λ h. n (inr h)) in
    rw (e, r) refl

end_set : (done : List Block) (b : Block) (rest : List Block) (l : Last) → Apart (block_ids (done ++ b ∷ rest)) → map (last_in b.id l) (done ++ b ∷ rest) ≡ done ++ record b { last = l } ∷ rest
end_set [] b rest l a = let e = eq-eqb b.id b.id refl in let r = none_set b.id l rest a.0 in rw (e, r) refl
end_set (c ∷ done) b rest l a = let e = other_block c done b rest a in let r = end_set done b rest l a.1 in rw (e, r) refl

none_left : (bs : List Block) → None ≡ first_block_id bs → bs ≡ []
none_left [] e = refl
none_left (b ∷ bs) e = cc

one_more : (done : List Block) (x b : Block) → Has (done ++ x ∷ []) b → Has done b ⊎ (x ≡ b)
one_more [] x b (inl e) = inr e
one_more [] x b (inr h) = absurd h
one_more (c ∷ done) x b (inl e) = inl (inl e)
one_more (c ∷ done) x b (inr h) = elim (one_more done x b h) [ inl k ↦ inl (inr k) | inr e ↦ inr e ]

both_false : (a b : Bool) → (a || b) ≡ false → (a ≡ false) × (b ≡ false)
both_false true b e = absurd (true≢false e)
both_false false b e = (refl, e)

or_true : (a : Bool) → true ≡ (a || true)
or_true true = refl
or_true false = refl

or_false : (a : Bool) → a ≡ (a || false)
or_false true = refl
or_false false = refl

same_id : (a b : ℕ) → Some a ≡ Some b → a ≡ b
same_id a b e = cc

-- ---- the pass

-- how many blocks are left
abbrev pub left_in : GraphView → Option ℕ → ℕ
left_in g next = length (blocks_from next g.blocks)

module _ (Left : GraphView → Block → Type 0) (start : GraphView) where
  -- a pass over the blocks has come to one: those before it are done, those from it on stand as they did
  pub record OnPass (next : Option ℕ) (changed : Bool) (now : GraphView) : Type 0 where
    pub done : List Block
    pub left : List Block
    pub split : start.blocks ≡ done ++ left
    pub front : List Block
    pub stands : now.blocks ≡ front ++ left
    pub at : next ≡ first_block_id left
    pub live : IfSome next (λ b. IsTrue (is_live_block now b))
    pub passes : Passes changed start now
    pub near : (k : Kept) → IsNearly start k → IsNearly now k
    pub none : changed ≡ false → (b : Block) → Has done b → Left start b

module _ (Left : GraphView → Block → Type 0) (start : GraphView) (of : IsOfAProgram start) where
  pub pass_begins : (next : Option ℕ) → next ≡ first_block_id start.blocks → IfSome next (λ b. IsTrue (is_live_block start b)) → OnPass Left start next false start
  pass_begins next e live = record {
    done = [];
    left = start.blocks;
    split = refl;
    front = [];
    stands = refl;
    at = e;
    live = live;
    passes = passed.none start;
    near = λ k n. n;
    none = λ f b h. absurd h;
  }

  pub still_of : (next : Option ℕ) (changed : Bool) (now : GraphView) → OnPass Left start next changed now → IsOfAProgram now
  still_of next changed now on = passed.stays changed start now of on.passes

  graph_of : (g : GraphView) → IsOfAProgram g → IsGraph g
  graph_of g o = o.may_go_on.graph.graph

  -- the block that is next
  pub record NextBlock (b : ℕ) (changed : Bool) (now : GraphView) (on : OnPass Left start (Some b) changed now) : Type 0 where
    pub block : Block
    pub rest : List Block
    pub left : on.left ≡ block ∷ rest
    pub id_is : block.id ≡ b
    pub among : Has start.blocks block
    pub here : block_of now b ≡ Some block
    pub apart : Apart (block_ids (on.front ++ block ∷ rest))
    pub blocks : now.blocks ≡ on.front ++ block ∷ rest

  pub next_block : (b : ℕ) (changed : Bool) (now : GraphView) (on : OnPass Left start (Some b) changed now) → NextBlock b changed now on
  next_block b changed now on = by_left on.left refl on.at
    where
      by_left : (left : List Block) → on.left ≡ left → Some b ≡ first_block_id left → NextBlock b changed now on
      by_left [] e f = cc
      by_left (x ∷ rest) e f = record {
        block = x;
        rest = rest;
        left = e;
        id_is = same;
        among = subst (λ (l : List Block). Has l x) (sym (on.split ∙ ap (λ l. on.done ++ l) e)) (has_mid on.done x rest);
        here = subst (λ (k : ℕ). block_of now k ≡ Some x) same (ap (find (is_block x.id)) blocks ∙ find_block on.front x rest apart);
        apart = apart;
        blocks = blocks;
      }
        where
          same : x.id ≡ b
          same = sym (same_id b x.id f)

          blocks : now.blocks ≡ on.front ++ x ∷ rest
          blocks = on.stands ∙ ap (λ l. on.front ++ l) e

          apart : Apart (block_ids (on.front ++ x ∷ rest))
          apart = subst (λ l. Apart (block_ids l)) blocks (graph_of now (still_of (Some b) changed now on)).block_ids

  module _ (b : ℕ) (changed more : Bool) (now new : GraphView) (on : OnPass Left start (Some b) changed now) (one : IsBlockPassed Left b more now new) where
    abbrev it : NextBlock b changed now on
    it = next_block b changed now on

    passes_more : (m : Bool) → more ≡ m → Passes (changed || m) start new
    passes_more true e = subst (λ (c : Bool). Passes c start new) (or_true changed) (passed.more changed start now new on.passes (one.step e))
    passes_more false e = subst (λ (c : Bool). Passes c start new) (or_false changed) (subst (λ (h : GraphView). Passes changed start h) (sym (one.same e)) on.passes)

    all_passes : Passes (changed || more) start new
    all_passes = passes_more more refl

    none_more : (changed || more) ≡ false → (c : Block) → Has (on.done ++ it.block ∷ []) c → Left start c
    none_more e c h = elim (one_more on.done it.block c h) [ inl k ↦ on.none (both_false changed more e).0 c k | inr s ↦ subst (λ (y : Block). Left start y) s here ]
      where
        here : Left start it.block
        here = subst (λ (g : GraphView). Left g it.block) (on.passes.same (both_false changed more e).0) (one.none (both_false changed more e).1 it.block it.here)

    -- the block as it stands now
    record Passed : Type 0 where
      block : Block
      id_is : block.id ≡ it.block.id
      blocks : new.blocks ≡ on.front ++ block ∷ it.rest

    passed_block : (m : Bool) → more ≡ m → Passed
    passed_block false e = record { block = it.block; id_is = refl; blocks = ap (λ (g : GraphView). g.blocks) (one.same e) ∙ it.blocks }
    passed_block true e =
        let l = one.ends e in
        record {
          block = record (it.block) { last = l.0 };
          id_is = refl;
          blocks = ap (λ (g : GraphView). g.blocks) l.1 ∙ ap (λ (k : ℕ). map (last_in k l.0) now.blocks) (sym it.id_is) ∙ ap (map (last_in (it.block).id l.0)) it.blocks
              ∙ end_set on.front it.block it.rest l.0 it.apart;
        }

    now_is : Passed
    now_is = passed_block more refl

    apart_now : Apart (block_ids (on.front ++ now_is.block ∷ it.rest))
    apart_now = subst (λ l. Apart (block_ids l)) now_is.blocks (graph_of new (passed.stays (changed || more) start new of all_passes)).block_ids

    after : block_id_after b new.blocks ≡ first_block_id it.rest
    after =
        ap (λ (k : ℕ). block_id_after k new.blocks) (sym it.id_is ∙ sym now_is.id_is)
        ∙ ap (block_id_after (now_is.block).id) now_is.blocks ∙ block_after on.front now_is.block it.rest apart_now

    shifted : new.blocks ≡ (on.front ++ now_is.block ∷ []) ++ it.rest
    shifted = now_is.blocks ∙ sym (assoc on.front (now_is.block ∷ []) it.rest)

    -- the block is still there
    pub pass_lives : is_live_block new b ≡ true
    pass_lives =
        ap is_some
        (ap (λ (k : ℕ). find (is_block k) new.blocks) (sym it.id_is ∙ sym now_is.id_is) ∙ ap (find (is_block (now_is.block).id)) now_is.blocks
        ∙ find_block on.front now_is.block it.rest apart_now)

    pub pass_more :
        (next : Option ℕ) → ((k : Kept) → IsNearly now k → IsNearly new k) → next ≡ block_id_after b new.blocks → IfSome next (λ n. IsTrue (is_live_block new n)) →
        OnPass Left start next (changed || more) new
    pass_more next near e live = record {
      done = on.done ++ it.block ∷ [];
      left = it.rest;
      split = on.split ∙ ap (λ l. on.done ++ l) it.left ∙ sym (assoc on.done (it.block ∷ []) it.rest);
      front = on.front ++ now_is.block ∷ [];
      stands = shifted;
      at = e ∙ after;
      live = live;
      passes = all_passes;
      near = λ k n. near k (on.near k n);
      none = none_more;
    }

    pub pass_fewer : (next : Option ℕ) → next ≡ block_id_after b new.blocks → left_in new next < left_in now (Some b)
    pass_fewer next e =
        let was : left_in now (Some b) ≡ suc (length it.rest) =
        ap (λ (k : ℕ). length (blocks_from (Some k) now.blocks)) (sym it.id_is) ∙ ap (λ l. length (blocks_from (Some (it.block).id) l)) it.blocks
        ∙ blocks_all on.front (it.block ∷ it.rest) it.apart in
        let is : left_in new next ≡ length it.rest =
        ap (λ (o : Option ℕ). length (blocks_from o new.blocks)) (e ∙ after) ∙ ap (λ l. length (blocks_from (first_block_id it.rest) l)) shifted
        ∙ blocks_all (on.front ++ now_is.block ∷ []) it.rest (subst (λ l. Apart (block_ids l)) shifted apart_here) in
        omega (arith, was, is)
      where
        apart_here : Apart (block_ids new.blocks)
        apart_here = (graph_of new (passed.stays (changed || more) start new of all_passes)).block_ids

  -- where nothing was changed nothing is left
  pub pass_ends : (changed : Bool) (now : GraphView) → OnPass Left start None changed now → changed ≡ false → (b : Block) → Has start.blocks b → Left start b
  pass_ends changed now on e b h =
      on.none e b (subst (λ (l : List Block). Has l b) (on.split ∙ ap (λ l. on.done ++ l) (none_left on.left on.at) ∙ no_more on.done) h)
