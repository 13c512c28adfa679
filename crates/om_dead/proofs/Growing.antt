-- What is found grows, one number at a time.
use Rattle.std.proofs.Common.{◌≡◌, ◌≢◌, ◌⊎◌, inl, inr, ◌<◌, ◌+◌, ℕ, Bool, true, false, List, [], ◌∷◌, ◌++◌, get_or, length, length-append, refl, sym, ◌∙◌, subst, arith, get_or-set_same, get_or-set_other}
use Rattle.std.specs.Prelude.{sum_by}
use Rattle.std.proofs.Math.ListN.{set}
use Rattle.std.proofs.lemmas.List.{length-set}
use Rattle.std.proofs.lemmas.List.Sums.{sum_by-set}
use Rattle.om_flow.proofs.Spreading.{same_or_not}
use Rattle.om_graph.specs.View.{Has}
use Rattle.om_graph.proofs.Labels.{has_append, append_left, append_right}
use Rattle.om_dead.specs.Finding.{IsFound, unfound, Grown}

-- nothing new
pub none_grown : (P : ℕ → Type 0) (fs : List Bool) (ws : List ℕ) → ((id : ℕ) → P id → IsFound fs id) → Grown P fs ws fs ws
none_grown P fs ws had = record {
  size = refl;
  stays = λ id h. h;
  reached = had;
  only = λ id h. inl h;
  kept = λ id h. h;
  queued = λ id h. inl h;
  fresh = λ id h. inl h;
  fewer = omega arith;
}

-- one number
pub one_grown : (P : ℕ → Type 0) (k : ℕ) (fs : List Bool) (ws : List ℕ) → k < length fs → get_or fs k false ≡ false → P k → ((id : ℕ) → P id → k ≡ id) → Grown P fs ws (set fs k true) (ws ++ k ∷ [])
one_grown P k fs ws low new is only = record {
  size = length-set fs k true;
  stays = λ id h. stays id h (same_or_not id k);
  reached = λ id p. subst (λ (i : ℕ). IsFound (set fs k true) i) (only id p) here;
  only = λ id h. old id h (same_or_not id k);
  kept = λ id h. append_left ws (k ∷ []) id h;
  queued = λ id h. queued id (has_append ws (k ∷ []) id h);
  fresh = λ id h. fresh id h (same_or_not id k);
  fewer = omega (arith, fewer, length-append ws (k ∷ []));
}
  where
    here : IsFound (set fs k true) k
    here = get_or-set_same fs k true false low

    other : (id : ℕ) → id ≢ k → get_or (set fs k true) id false ≡ get_or fs id false
    other id n = get_or-set_other fs k id true false n

    stays : (id : ℕ) → IsFound fs id → (id ≡ k) ⊎ (id ≢ k) → IsFound (set fs k true) id
    stays id h (inl e) = subst (λ (i : ℕ). IsFound (set fs k true) i) (sym e) here
    stays id h (inr n) = other id n ∙ h

    old : (id : ℕ) → IsFound (set fs k true) id → (id ≡ k) ⊎ (id ≢ k) → IsFound fs id ⊎ P id
    old id h (inl e) = inr (subst P (sym e) is)
    old id h (inr n) = inl (sym (other id n) ∙ h)

    queued : (id : ℕ) → Has ws id ⊎ Has (k ∷ []) id → Has ws id ⊎ P id
    queued id (inl h) = inl h
    queued id (inr (inl e)) = inr (subst P e is)
    queued id (inr (inr h)) = absurd h

    fresh : (id : ℕ) → IsFound (set fs k true) id → (id ≡ k) ⊎ (id ≢ k) → IsFound fs id ⊎ Has (ws ++ k ∷ []) id
    fresh id h (inl e) = inr (append_right ws (k ∷ []) id (inl (sym e)))
    fresh id h (inr n) = inl (sym (other id n) ∙ h)

    fewer : sum_by unfound (set fs k true) + 1 ≡ sum_by unfound fs + 0
    fewer = subst (λ (t : Bool). sum_by unfound (set fs k true) + unfound t ≡ sum_by unfound fs + unfound true) new (sum_by-set unfound fs k true false low)

module _ (P Q : ℕ → Type 0) (fs : List Bool) (ws : List ℕ) (gs : List Bool) (vs : List ℕ) where
  -- the same numbers, said otherwise
  pub grown_as : ((id : ℕ) → P id → Q id) → ((id : ℕ) → Q id → P id) → Grown P fs ws gs vs → Grown Q fs ws gs vs
  grown_as to from g = record {
    size = g.size;
    stays = g.stays;
    reached = λ id q. g.reached id (from id q);
    only = λ id h. only id (g.only id h);
    kept = g.kept;
    queued = λ id h. queued id (g.queued id h);
    fresh = g.fresh;
    fewer = g.fewer;
  }
    where
      only : (id : ℕ) → IsFound fs id ⊎ P id → IsFound fs id ⊎ Q id
      only id (inl h) = inl h
      only id (inr p) = inr (to id p)

      queued : (id : ℕ) → Has ws id ⊎ P id → Has ws id ⊎ Q id
      queued id (inl h) = inl h
      queued id (inr p) = inr (to id p)

  -- some numbers, then others
  pub both_grown : (hs : List Bool) (us : List ℕ) → Grown P fs ws gs vs → Grown Q gs vs hs us → Grown (λ id. P id ⊎ Q id) fs ws hs us
  both_grown hs us g h = record {
    size = h.size ∙ g.size;
    stays = λ id m. h.stays id (g.stays id m);
    reached = reached;
    only = λ id m. only id (h.only id m);
    kept = λ id m. h.kept id (g.kept id m);
    queued = λ id m. queued id (h.queued id m);
    fresh = λ id m. fresh id (h.fresh id m);
    fewer = let x = g.fewer in let y = h.fewer in omega (arith, x, y);
  }
    where
      reached : (id : ℕ) → P id ⊎ Q id → IsFound hs id
      reached id (inl p) = h.stays id (g.reached id p)
      reached id (inr q) = h.reached id q

      first : (id : ℕ) → IsFound fs id ⊎ P id → IsFound fs id ⊎ (P id ⊎ Q id)
      first id (inl m) = inl m
      first id (inr p) = inr (inl p)

      only : (id : ℕ) → IsFound gs id ⊎ Q id → IsFound fs id ⊎ (P id ⊎ Q id)
      only id (inl m) = first id (g.only id m)
      only id (inr q) = inr (inr q)

      first_queued : (id : ℕ) → Has ws id ⊎ P id → Has ws id ⊎ (P id ⊎ Q id)
      first_queued id (inl m) = inl m
      first_queued id (inr p) = inr (inl p)

      queued : (id : ℕ) → Has vs id ⊎ Q id → Has ws id ⊎ (P id ⊎ Q id)
      queued id (inl m) = first_queued id (g.queued id m)
      queued id (inr q) = inr (inr q)

      then_kept : (id : ℕ) → IsFound fs id ⊎ Has vs id → IsFound fs id ⊎ Has us id
      then_kept id (inl m) = inl m
      then_kept id (inr m) = inr (h.kept id m)

      fresh : (id : ℕ) → IsFound gs id ⊎ Has us id → IsFound fs id ⊎ Has us id
      fresh id (inl m) = then_kept id (g.fresh id m)
      fresh id (inr m) = inr m
