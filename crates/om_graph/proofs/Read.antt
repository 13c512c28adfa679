-- What walks over blocks read, walks over words read.
use Rattle.std.proofs.Common.{◌≡◌, inl, inr, ◌<◌, ℕ, Bool, true, false, ◌&&◌, ◌||◌, List, [], ◌∷◌, Option, Some, None, refl, sym, ap, ◌∙◌, subst}
use Rattle.std.specs.Prelude.{not}
use Rattle.std.proofs.lemmas.Bool.{true≢false}
use Rattle.om_value.specs.declared.value.Place.{Place}
use Rattle.om_prog.specs.Act.{Word, act_reads, act_writes}
use Rattle.om_prog.specs.Step.{next_place}
use Rattle.om_prog.specs.Flow.{act_jumps}
use Rattle.om_prog.specs.Facts.{has}
use Rattle.om_graph.specs.View.{Block, GraphView, Has}
use Rattle.om_graph.specs.Held.{IsGraph}
use Rattle.om_graph.specs.Run.{block_words, words, next_word, rev_onto}
use Rattle.om_graph.specs.Form.{InForm, InPlace}
use Rattle.om_graph.specs.Kept.{IsKeptLanding}
use Rattle.om_graph.specs.Checks.{Enters, falls_in, jumps_in, reads_first, written_in, live_in, ReadsBlock, reads_in, reads_next}
use Rattle.om_graph.specs.Walks.{WalksTo, MayRead, reads, goes}
use Rattle.om_graph.proofs.Blocks.{next_has}
use Rattle.om_graph.proofs.Kept.{has_split}
use Rattle.om_graph.proofs.Masks.{has_among, among_true}
use Rattle.om_graph.proofs.Reached.{inner_falls, end_falls, first_next, inner_next, last_next, empty_next}

-- ---- words one behind the other

first_live : (ws : List Word) (r : ℕ) → live_in ws (λ r. false) r ≡ reads_first ws r
first_live [] r = refl
first_live (w ∷ ws) r = ap (λ (b : Bool). has (act_reads w.act) r || (not (has (act_writes w.act) r) && b)) (first_live ws r)

out_live : (ws : List Word) (out : ℕ → Bool) (r : ℕ) → written_in ws r ≡ false → out r ≡ true → live_in ws out r ≡ true
out_live [] out r n o = o
out_live (w ∷ ws) out r n o = by_case (has (act_reads w.act) r) (has (act_writes w.act) r) n (λ n. out_live ws out r n o)
  where
    by_case : (a b : Bool) → (b || written_in ws r) ≡ false → (written_in ws r ≡ false → live_in ws out r ≡ true) → (a || (not b && live_in ws out r)) ≡ true
    by_case true b n i = refl
    by_case false true n i = absurd (true≢false n)
    by_case false false n i = i n

module _ (g : GraphView) (graph : IsGraph g) (form : InForm g) (places : InPlace g) where
  -- from places with the same next word the same is read
  same_read : (r : ℕ) (p q : Place) → next_word (words g) p ≡ next_word (words g) q → MayRead g r q → MayRead g r p
  same_read r p q e (reads x w f l m) = reads p w (e ∙ f) l m
  same_read r p q e (goes x w y f n t m) = goes p w y (e ∙ f) n t m

  -- control leaves a block for one from which the register is read
  abbrev Leaves : ℕ → Block → Type 0
  Leaves r b = (n : Block) × Enters g b n × MayRead g r n.label

  -- a word, with where a walk goes from it
  pub record Past (r : ℕ) (w : Word) : Type 0 where
    pub at : Place
    pub walks : WalksTo g w at
    pub read : MayRead g r at

  same_last : (bf bg : List Word) (w u : Word) → rev_onto bf (w ∷ []) ≡ rev_onto bg (u ∷ []) → w ≡ u
  same_last bf bg w u e = same (sym (last_or bf w []) ∙ ap (λ (l : List Word). last_of l) e ∙ last_or bg u [])
    where
      last_of : List Word → Option Word
      last_of [] = None
      last_of (x ∷ []) = Some x
      last_of (x ∷ y ∷ xs) = last_of (y ∷ xs)

      last_or : (bf : List Word) (w : Word) (ws : List Word) → last_of (rev_onto bf (w ∷ ws)) ≡ last_of (w ∷ ws)
      last_or [] w ws = refl
      last_or (x ∷ bf) w ws = last_or bf x (w ∷ ws)

      same : Some w ≡ Some u → w ≡ u
      same i = cc

  past_last : (b n : Block) (bf : List Word) (w : Word) (r : ℕ) → Has g.blocks b → rev_onto bf (w ∷ []) ≡ block_words b → Enters g b n → MayRead g r n.label → Past r w
  past_last b n bf w r hb s (falls_in k o f) m = record {
    at = next_place w.at;
    walks = inl (end_falls g graph form places b w hb f (has_split bf w [] (block_words b) s), refl);
    read = same_read r (next_place w.at) n.label (last_next g graph form places b n bf w k o s) m;
  }
  past_last b n bf w r hb s (jumps_in u hd hn l j) m =
      let same = same_last l.0 bf u w (l.1 ∙ sym s) in
      record {
        at = n.label;
        walks = inr (subst (λ (x : Word). act_jumps (IsKeptLanding g) x.act n.label) same j, inl (n, hn, refl));
        read = m;
      }

  past_inner :
      (b : Block) (bf : List Word) (w x : Word) (ws : List Word) (r : ℕ) → Has g.blocks b → rev_onto bf (w ∷ x ∷ ws) ≡ block_words b →
      MayRead g r (next_place w.at) → Past r w
  past_inner b bf w x ws r hb s m = record {
    at = next_place w.at;
    walks = inl (inner_falls g graph form places b bf w x ws hb s, refl);
    read = m;
  }

  -- a word reads the register, or a walk goes on from it
  read_or :
      (w : Word) (p : Place) (r : ℕ) (live : Bool) → r < 31 → next_word (words g) p ≡ Some w →
      (has (act_reads w.act) r || (not (has (act_writes w.act) r) && live)) ≡ true → (live ≡ true → Past r w) → MayRead g r p
  read_or w p r live l e h f = by_case (has (act_reads w.act) r) (has (act_writes w.act) r) refl refl h
    where
      by_case : (a d : Bool) → has (act_reads w.act) r ≡ a → has (act_writes w.act) r ≡ d → (a || (not d && live)) ≡ true → MayRead g r p
      by_case true d x y h = reads p w e l (has_among (act_reads w.act) r x)
      by_case false true x y h = absurd (true≢false (sym h))
      by_case false false x y h =
          let u = f h in
          goes p w u.at e (λ m. true≢false (sym (among_true (act_writes w.act) r m) ∙ y)) u.walks u.read

  -- from a place whose next word is one of a block, where the register is live before it
  from_word :
      (b : Block) (bf : List Word) (w : Word) (ws : List Word) (p : Place) (r : ℕ) (out : ℕ → Bool) → Has g.blocks b → r < 31 →
      rev_onto bf (w ∷ ws) ≡ block_words b → next_word (words g) p ≡ Some w → (out r ≡ true → Leaves r b) →
      live_in (w ∷ ws) out r ≡ true → MayRead g r p
  from_word b bf w [] p r out hb l s e o h =
      read_or w p r (out r) l e h (λ i. let n = o i in past_last b n.0 bf w r hb s n.1 n.2)
  from_word b bf w (x ∷ ws) p r out hb l s e o h =
      read_or w p r (live_in (x ∷ ws) out r) l e h
      (λ i. past_inner b bf w x ws r hb s
      (from_word b (w ∷ bf) x ws (next_place w.at) r out hb l s (inner_next g graph form places b bf w x ws hb s) o i))

  behind_word :
      (b : Block) (bf : List Word) (w : Word) (ws : List Word) (r : ℕ) (out : ℕ → Bool) → Has g.blocks b → r < 31 →
      rev_onto bf (w ∷ ws) ≡ block_words b → (out r ≡ true → Leaves r b) → live_in ws out r ≡ true → Past r w
  behind_word b bf w [] r out hb l s o h = let n = o h in past_last b n.0 bf w r hb s n.1 n.2
  behind_word b bf w (x ∷ ws) r out hb l s o h =
      past_inner b bf w x ws r hb s
      (from_word b (w ∷ bf) x ws (next_place w.at) r out hb l s (inner_next g graph form places b bf w x ws hb s) o h)

  entered : (b n : Block) → Enters g b n → Has g.blocks b
  entered b n (falls_in k o f) = (next_has g.blocks b n k).0
  entered b n (jumps_in w hb hn l j) = hb

  -- ---- from a block on

  from_block :
      (b : Block) (r : ℕ) (out : ℕ → Bool) → Has g.blocks b → r < 31 → (out r ≡ true → Leaves r b) → live_in (block_words b) out r ≡ true →
      MayRead g r b.label
  from_block b r out hb l o h = by_words (block_words b) refl h
    where
      by_empty : block_words b ≡ [] → Leaves r b → MayRead g r b.label
      by_empty e (n, falls_in k so f, m) = same_read r b.label n.label (empty_next g graph form places b n k so e) m
      by_empty e (n, jumps_in w hd hn (bf, s) j, m) = absurd (subst (λ (l : List Word). Has l w) (s ∙ e) (has_split bf w [] (rev_onto bf (w ∷ [])) refl))

      by_words : (ws : List Word) → block_words b ≡ ws → live_in ws out r ≡ true → MayRead g r b.label
      by_words [] e h = by_empty e (o h)
      by_words (w ∷ ws) e h =
          from_word b [] w ws b.label r out hb l (sym e) (first_next g graph form places b w ws hb e) o h

  pub reads_block : (r : ℕ) (b : Block) → r < 31 → ReadsBlock g r b → MayRead g r b.label
  reads_block r b l (reads_in d hb h) =
      from_block d r (λ x. false) hb l (λ e. absurd (true≢false (sym e))) (first_live (block_words d) r ∙ h)
  reads_block r b l (reads_next d n e u m) =
      let i = reads_block r n l m in
      from_block d r (λ x. true) (entered d n e) l (λ t. (n, e, i)) (out_live (block_words d) (λ x. true) r u refl)

  pub reads_behind :
      (b : Block) (bf : List Word) (w : Word) (ws : List Word) (r : ℕ) (out : ℕ → Bool) → Has g.blocks b → r < 31 →
      rev_onto bf (w ∷ ws) ≡ block_words b → (out r ≡ true → (n : Block) × Enters g b n × ReadsBlock g r n) → live_in ws out r ≡ true →
      (q : Place) × WalksTo g w q × MayRead g r q
  reads_behind b bf w ws r out hb l s o h =
      let u = behind_word b bf w ws r out hb l s (λ t. let n = o t in (n.0, n.1, reads_block r n.0 l n.2)) h in
      (u.at, u.walks, u.read)
