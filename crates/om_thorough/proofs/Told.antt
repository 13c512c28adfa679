-- Where facts are exact, the GP fact in front of a word is what they tell.
use Rattle.std.proofs.Common.{◌≡◌, ◌⊎◌, inl, inr, ℕ, Bool, true, false, cond, List, [], ◌∷◌, refl, sym, ap, ◌∙◌, subst}
use Rattle.om_value.specs.declared.value.Place.{Place}
use Rattle.om_prog.specs.Act.{Act, GpLo, To, Word, Script, act_writes}
use Rattle.om_prog.specs.Step.{next_place}
use Rattle.om_prog.specs.View.{ProgramView}
use Rattle.om_prog.specs.Valid.{IsProgram}
use Rattle.om_prog.specs.Facts.{Fact, Any, Table, Unknown, changed, changed_by, set_fact, unreached, fact_behind, Allows, IsFact, has}
use Rattle.om_isa.specs.declared.instr.BrOp.TheVariants.{Bsr}
use Rattle.om_graph.specs.View.{Block, GraphView, Has}
use Rattle.om_graph.specs.Run.{block_words, rev_onto, table_of, graph_script}
use Rattle.om_graph.specs.Form.{InForm}
use Rattle.om_graph.specs.Index.{InReach}
use Rattle.om_graph.specs.Checks.{GpChecked, ReachesBlock}
use Rattle.om_graph.specs.Walks.{Reaches, IsGpFact}
use Rattle.om_graph.specs.Uses.{IsClosedPair, IsClosedOpening}
use Rattle.om_graph.specs.OfProgram.{IsGraphOf}
use Rattle.om_graph.proofs.Kept.{has_split}
use Rattle.om_graph.proofs.Placed.{Placed}
use Rattle.om_graph.proofs.Places.{InLabels, in_labels, placed}
use Rattle.om_graph.proofs.Blocks.{found_at}
use Rattle.om_graph.proofs.GpFacts.{fact_at}
use Rattle.om_graph.proofs.GpFacts as gp
use Rattle.om_graph.proofs.OfProgram.{words_in_place}
use Rattle.om_graph.proofs.OnWalks.{same_block, same_before, own_order, Told, arrives_allows}
use Rattle.om_graph.proofs.Reached.{words_reached}
use Rattle.om_graph.specs.Left.{StandsIn, AreExactFacts, NoDrop, NoEnter, high_word}
use Rattle.om_thorough.specs.Thorough.{counts_of}

-- ---- facts behind words

abbrev pub IsTold : Fact → Type 0
IsTold Any = ⊥
IsTold f = Unit {0}

module _ (c : Script) where
  pub unwritten_fact : (w : Word) (f : Fact) → has (act_writes w.act) 29 ≡ false → changed c w f ≡ f
  unwritten_fact w Any e = refl
  unwritten_fact w (Table t) e = ap (λ (b : Bool). cond b (set_fact c w w.act) (Table t)) e
  unwritten_fact w Unknown e = ap (λ (b : Bool). cond b (set_fact c w w.act) Unknown) e

  pub written_fact : (w : Word) (f : Fact) → IsTold f → has (act_writes w.act) 29 ≡ true → changed c w f ≡ set_fact c w w.act
  written_fact w Any o e = absurd o
  written_fact w (Table t) o e = ap (λ (b : Bool). cond b (set_fact c w w.act) (Table t)) e
  written_fact w Unknown o e = ap (λ (b : Bool). cond b (set_fact c w w.act) Unknown) e

  set_told : (w : Word) (a : Act) → IsTold (set_fact c w a)
  set_told w (GpLo ra rb hi) = tt
  set_told w a = tt

  pub changed_told : (w : Word) (f : Fact) → IsTold f → IsTold (changed c w f)
  changed_told w f o = by_case (has (act_writes w.act) 29) refl
    where
      by_case : (b : Bool) → has (act_writes w.act) 29 ≡ b → IsTold (changed c w f)
      by_case true e = subst (λ (k : Fact). IsTold k) (sym (written_fact w f o e)) (set_told w w.act)
      by_case false e = subst (λ (k : Fact). IsTold k) (sym (unwritten_fact w f e)) o

  pub told_stays : (bf : List Word) (f : Fact) → IsTold f → IsTold (changed_by c f bf)
  told_stays [] f o = o
  told_stays (w ∷ bf) f o = changed_told w (changed_by c f bf) (told_stays bf f o)

  -- words leave a fact as it is, or what they leave does not depend on it
  abbrev pub KeepsOrSets : List Word → Type 0
  KeepsOrSets bf = ((f : Fact) → changed_by c f bf ≡ f) ⊎ ((h : Fact) × ((f : Fact) → IsTold f → changed_by c f bf ≡ h))

  pub keeps_or_sets : (bf : List Word) → KeepsOrSets bf
  keeps_or_sets [] = inl (λ f. refl)
  keeps_or_sets (w ∷ bf) = by_case (has (act_writes w.act) 29) refl (keeps_or_sets bf)
    where
      by_case : (b : Bool) → has (act_writes w.act) 29 ≡ b → KeepsOrSets bf → KeepsOrSets (w ∷ bf)
      by_case true e i = inr (set_fact c w w.act, λ f o. written_fact w (changed_by c f bf) (told_stays bf f o) e)
      by_case false e (inl k) = inl (λ f. unwritten_fact w (changed_by c f bf) e ∙ k f)
      by_case false e (inr s) = inr (s.0, λ f o. unwritten_fact w (changed_by c f bf) e ∙ s.1 f o)

  -- what two tables leave nothing known leaves too
  two_tables : (bf : List Word) (t u v : ℕ) → (t ≡ u → ⊥) → changed_by c (Table t) bf ≡ Table v → changed_by c (Table u) bf ≡ Table v → changed_by c Unknown bf ≡ Table v
  two_tables bf t u v n e f = by_case (keeps_or_sets bf)
    where
      by_case : KeepsOrSets bf → changed_by c Unknown bf ≡ Table v
      by_case (inl k) = let a = k (Table t) in let b = k (Table u) in absurd (n (same (sym a ∙ e ∙ sym f ∙ b)))
        where
          same : Table t ≡ Table u → t ≡ u
          same e = cc
      by_case (inr s) = s.1 Unknown tt ∙ sym (s.1 (Table t) tt) ∙ e

  any_stays : (bf : List Word) → changed_by c Any bf ≡ Any
  any_stays [] = refl
  any_stays (x ∷ bf) = ap (λ (f : Fact). changed c x f) (any_stays bf)

-- ---- a place where no walk comes

module _ (g : GraphView) (within : InLabels g) (laid : Placed g.blocks) (form : InForm g) (c : Script) (facts : Place → Fact) (checked : GpChecked c facts g) where
  told_any : (f h : Fact) → IsTold f → Allows f h → h ≡ Any → ⊥
  told_any Any h o a e = o
  told_any (Table u) (Table v) o a e = cc
  told_any (Table u) Any o a e = cc
  told_any (Table u) Unknown o a e = cc
  told_any Unknown (Table v) o a e = cc
  told_any Unknown Any o a e = cc
  told_any Unknown Unknown o a e = cc

  not_reached :
      (b : Block) (bf : List Word) (w : Word) (ws : List Word) (f : Fact) → Has g.blocks b → rev_onto bf (w ∷ ws) ≡ block_words b → facts b.label ≡ Any →
      Reaches c g w f → ⊥
  not_reached b bf w ws f hb s any (p, a, e) =
      let x = found_at Fact (gp.fact_in c facts) Unknown (gp.fact_enter c facts) (gp.fact_flow c facts) Allows (gp.laws c facts) g.blocks p w laid e in
      let in_x = has_split x.before w x.rest (block_words x.block) x.splits in
      let in_b = has_split bf w ws (block_words b) s in
      let same = same_block g.blocks b x.block w laid hb x.among in_b in_x in
      let splits = subst (λ (d : Block). rev_onto x.before (w ∷ x.rest) ≡ block_words d) (sym same) x.splits in
      let before = same_before (block_words b) bf x.before ws x.rest w (own_order g.blocks b laid hb) s splits in
      let here : fact_at c facts g.blocks p ≡ changed_by c (facts b.label) bf =
      x.here ∙ ap (λ (d : Block). changed_by c (facts d.label) x.before) (sym same) ∙ ap (λ (l : List Word). changed_by c (facts b.label) l) (sym before) in
      let i = arrives_allows g within laid form c facts checked p f a in
      told_any f (fact_at c facts g.blocks p) (is_told f i.0) i.1 (here ∙ ap (λ (k : Fact). changed_by c k bf) any ∙ any_stays c bf)
    where
      is_told : (f : Fact) → Told g within laid form f → IsTold f
      is_told Any o = o
      is_told (Table t) o = tt
      is_told Unknown o = tt

-- ---- exact facts

module _ (p : ProgramView) (prog : IsProgram p) (g : GraphView) (of : IsGraphOf p g) (facts : Place → Fact) (exact : AreExactFacts (graph_script p g) facts g) where
  within : InLabels g
  within = in_labels g of.graph of.form (words_in_place p prog g of)

  laid : Placed g.blocks
  laid = placed g of.graph of.form (words_in_place p prog g of)

  unreached_is : (bf : List Word) (t : ℕ) → unreached bf ≡ Any → IsFact (unreached bf) t
  unreached_is bf t e = subst (λ (f : Fact). IsFact f t) (sym e) tt

  is_table : (f : Fact) (t : ℕ) → f ≡ Table t → IsFact f t
  is_table f t e = subst (λ (k : Fact). IsFact k t) (sym e) refl

  pub told_fact : (b : Block) (bf : List Word) (w : Word) (ws : List Word) (t : ℕ) → StandsIn g b bf w ws → IsGpFact (graph_script p g) g t bf w → IsFact (fact_behind (graph_script p g) (facts b.label) bf) t
  told_fact b bf w ws t s gpf = by_fact (facts b.label) refl
    where
      c : Script
      c = graph_script p g

      left_by : (f : Fact) → ReachesBlock (graph_script p g) g b f → changed_by (graph_script p g) f bf ≡ Table t
      left_by f r = gpf.walks (changed_by (graph_script p g) f bf) (words_reached g of.graph of.form (words_in_place p prog g of) (graph_script p g) b f bf w ws r s.split)

      by_unknown :
          ReachesBlock (graph_script p g) g b Unknown ⊎ ((x : ℕ) × (u : ℕ) × ReachesBlock (graph_script p g) g b (Table x) × ReachesBlock (graph_script p g) g b (Table u) × (x ≡ u → ⊥)) →
          changed_by (graph_script p g) Unknown bf ≡ Table t
      by_unknown (inl r) = left_by Unknown r
      by_unknown (inr (x, u, r, k, n)) = two_tables (graph_script p g) bf x u t n (left_by (Table x) r) (left_by (Table u) k)

      by_fact : (f : Fact) → facts b.label ≡ f → IsFact (fact_behind (graph_script p g) f bf) t
      by_fact Any e = unreached_is bf t (gpf.none (λ f r. not_reached g within laid of.form (graph_script p g) facts exact.checked b bf w ws f s.among s.split e r))
      by_fact (Table u) e = is_table _ t (left_by (Table u) (exact.table b u s.among e))
      by_fact Unknown e = is_table _ t (by_unknown (exact.unknown b s.among e))

  pub no_pairs :
      NoDrop (graph_script p g) facts g → (b : Block) (bf ws : List Word) (hi lo : Place) (h : IsClosedPair g b hi lo) →
      StandsIn g b bf (high_word hi h.rb h.base) ws →
      IsGpFact (graph_script p g) g (table_of g hi.obj) bf (high_word hi h.rb h.base) → ⊥
  no_pairs left b bf ws hi lo h s f = left.pairs b bf ws hi lo h s (told_fact b bf (high_word hi h.rb h.base) ws (table_of g hi.obj) s f)

  pub no_entries :
      NoEnter (graph_script p g) facts g → (b e : Block) (bf ws : List Word) (w : Word) (ra : ℕ) → StandsIn g b bf w ws → Has g.blocks e →
      w.act ≡ To Bsr ra e.label → (ra ≡ 29 → ⊥) → IsClosedOpening g e → InReach (counts_of p) w.at (next_place (next_place e.label)) →
      IsGpFact (graph_script p g) g (table_of g e.label.obj) bf w → ⊥
  no_entries left b e bf ws w ra s he a n o reach f =
      left.calls b e bf ws w ra s he a n o (subst (λ (k : List ℕ). InReach k w.at (next_place (next_place e.label))) (sym of.counts) reach)
      (told_fact b bf w ws (table_of g e.label.obj) s f)
