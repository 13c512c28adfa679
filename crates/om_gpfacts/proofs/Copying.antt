-- Facts of kept blocks alone: what is copied of them, and that they stay exact.
use Rattle.std.proofs.Common.{◌≡◌, ◌≢◌, ◌⊎◌, inl, inr, ◌<◌, ℕ, zero, suc, true, false, List, [], ◌∷◌, ◌++◌, Option, Some, None, replicate, length, get_or, get_or-set_same, get_or-set_other, refl, sym, ap, ◌∙◌, subst, arith}
use Rattle.std.proofs.Math.ListN.{set}
use Rattle.std.proofs.lemmas.List.{length-set, length-replicate}
use Rattle.std.proofs.lemmas.Bool.{true≢false}
use Rattle.om_value.specs.declared.value.Place.{Place}
use Rattle.om_prog.specs.Act.{Script}
use Rattle.om_prog.specs.Facts as prog
use Rattle.om_flow.specs.declared.parts.Fact.{Fact}
use Rattle.om_flow.specs.declared.parts.Fact.TheVariants.{Unknown}
use Rattle.om_flow.proofs.Spreading.{same_or_not}
use Rattle.om_graph.specs.View.{Block, GraphView, Has, labelled, is_live_block}
use Rattle.om_graph.specs.Run.{block_words, graph_script}
use Rattle.om_graph.specs.Checks.{GpChecked, onward}
use Rattle.om_graph.specs.Held.{IsGraph}
use Rattle.om_blocks.specs.Found.{seen, fact_under, facts_in}
use Rattle.om_blocks.proofs.Entering.{labelled_block}
use Rattle.om_blocks.proofs.LastWords.{has_both, has_left, has_right}
use Rattle.om_blocks.proofs.Walking.{found_here}
use Rattle.om_gpfacts.specs.Exact.{IsExact, AreExact, AreOfKept}

-- ---- what is found for kept blocks alone

-- the values of these blocks are copied, and the others are as they were
pub record AreCopied (A : Type 0) (none : A) (g : GraphView) (found : List A) (done : List Block) (made : List A) : Type 0 where
  pub room : (id : ℕ) → is_live_block g id ≡ true → id < length made
  pub each : (b : Block) → Has done b → get_or made b.id none ≡ get_or found b.id none
  pub rest : (i : ℕ) → ((b : Block) → Has done b → b.id ≡ i → ⊥) → get_or made i none ≡ none

module _ (A : Type 0) (none : A) (g : GraphView) (graph : IsGraph g) (found : List A) where
  all_none : (n i : ℕ) → get_or (replicate n none) i none ≡ none
  all_none zero i = refl
  all_none (suc n) zero = refl
  all_none (suc n) (suc i) = all_none n i

  pub copied_first : (n : ℕ) → ((id : ℕ) → is_live_block g id ≡ true → id < n) → AreCopied A none g found [] (replicate n none)
  copied_first n low = record {
    room = λ id live. let k = low id live in omega (arith, k, length-replicate n none);
    each = λ b h. absurd h;
    rest = λ i h. all_none n i;
  }

  pub copied_more :
      (done : List Block) (x : Block) (k : ℕ) (e : A) (made : List A) → Has g.blocks x → x.id ≡ k → e ≡ get_or found k none →
      AreCopied A none g found done made → AreCopied A none g found (done ++ x ∷ []) (set made k e)
  copied_more done x k e made hx same is old = record {
    room = λ id live. let l = old.room id live in omega (arith, l, length-set made k e);
    each = λ b h. each b (same_or_not b.id k) (has_both done (x ∷ []) b h);
    rest = λ i n. rest i n (same_or_not i k);
  }
    where
      here : get_or (set made k e) k none ≡ get_or found k none
      here = get_or-set_same made k e none (old.room k (found_here g graph x k hx same).1) ∙ is

      other : (i : ℕ) → i ≢ k → get_or (set made k e) i none ≡ get_or made i none
      other i n = get_or-set_other made k i e none n

      each : (b : Block) → (b.id ≡ k) ⊎ (b.id ≢ k) → Has done b ⊎ Has (x ∷ []) b → get_or (set made k e) b.id none ≡ get_or found b.id none
      each b (inl s) h = ap (λ (i : ℕ). get_or (set made k e) i none) s ∙ here ∙ ap (λ (i : ℕ). get_or found i none) (sym s)
      each b (inr n) (inl h) = other b.id n ∙ old.each b h
      each b (inr n) (inr (inl s)) = absurd (n (ap (λ (y : Block). y.id) (sym s) ∙ same))
      each b (inr n) (inr (inr h)) = absurd h

      rest : (i : ℕ) → ((b : Block) → Has (done ++ x ∷ []) b → b.id ≡ i → ⊥) → (i ≡ k) ⊎ (i ≢ k) → get_or (set made k e) i none ≡ none
      rest i n (inl s) = absurd (n x (has_right done (x ∷ []) x (inl refl)) (same ∙ sym s))
      rest i n (inr d) = other i d ∙ old.rest i (λ b h q. n b (has_left done (x ∷ []) b h) q)

  -- no value is left where no kept block has the number
  pub none_left : (made : List A) → AreCopied A none g found g.blocks made → (id : ℕ) → is_live_block g id ≡ false → get_or made id none ≡ none
  none_left made all id e = all.rest id (λ b h q. true≢false (sym (found_here g graph b id h q).1 ∙ e))

pub are_of_kept : (g : GraphView) → IsGraph g → (found made : List Fact) → AreCopied Fact Unknown g found g.blocks made → AreOfKept g found made
are_of_kept g graph found made all = record { kept = all.each; others = record { unknown = none_left Fact Unknown g graph found made all } }

-- ---- and it is exact still

module _ (g : GraphView) (found facts : List Fact) (of : AreOfKept g found facts) where
  same : (q : Place) → facts_in g facts q ≡ facts_in g found q
  same q = by_label (labelled g q) refl
    where
      by_label : (o : Option ℕ) → labelled g q ≡ o → fact_under facts o ≡ fact_under found o
      by_label None e = refl
      by_label (Some id) e =
          let n = labelled_block g q id e in
          ap seen (ap (λ (i : ℕ). get_or facts i Unknown) (sym n.3) ∙ of.kept n.0 n.1 ∙ ap (λ (i : ℕ). get_or found i Unknown) n.3)

  still_checked : (c : Script) → GpChecked c (facts_in g found) g → GpChecked c (facts_in g facts) g
  still_checked c old = record {
    entry = subst (λ (x : prog.Fact). (x ≡ prog.Unknown) ⊎ (x ≡ prog.Table (c.table c.entry.obj))) (sym (same c.entry)) old.entry;
    enters = λ b n e.
        subst (λ (x : prog.Fact). prog.Allows (onward c x (block_words b)) (facts_in g facts n.label)) (sym (same b.label))
        (subst (λ (x : prog.Fact). prog.Allows (onward c (facts_in g found b.label) (block_words b)) x) (sym (same n.label)) (old.enters b n e));
  }

  pub exact_of_kept : AreExact g found → AreExact g facts
  exact_of_kept old = record {
    checked = λ p. still_checked (graph_script p g) (old.checked p);
    exact = λ p b h. subst (λ (x : prog.Fact). IsExact (graph_script p g) g b x) (sym (same b.label)) (old.exact p b h);
  }
