-- A call past a closed opening pair that sets r29 to what it holds is a step, and facts that passed the check still do.
use Rattle.std.proofs.Common.{◌≡◌, ◌⊎◌, inl, inr, ◌<◌, ℕ, Bool, true, false, cond, ◌==◌, List, [], ◌∷◌, ◌++◌, length, Option, Some, None, refl, sym, ap, ◌∙◌, subst}
use Rattle.std.specs.Prelude.{map, find, option_map, slice_index_or}
use Rattle.om_isa.specs.declared.instr.BrOp.{BrOp}
use Rattle.om_isa.specs.declared.instr.BrOp.TheVariants.{Br as Straight, Bsr, If}
use Rattle.om_isa.specs.declared.instr.Instr.{Instr}
use Rattle.om_isa.specs.declared.instr.Instr.TheVariants.{Mem, Jump, Branch, Alu, Cmov, Misc, Fnop, Halt, Callsys}
use Rattle.om_value.specs.declared.value.Place.{Place}
use Rattle.om_value.specs.Same.{place_eq}
use Rattle.om_prog.specs.Act.{Act, Script, Plain, Lit, GpHi, GpLo, To, AddrLda, AddrHi, UseLo, UseGp, Wrong, Word}
use Rattle.om_prog.specs.Flow.{act_jumps}
use Rattle.om_prog.specs.Step.{next_place}
use Rattle.om_prog.specs.View.{ProgramView}
use Rattle.om_prog.specs.Valid.{IsProgram}
use Rattle.om_prog.specs.Facts.{Fact, Any, Table, Unknown, Allows, has, changed, fact_behind, IsFact}
use Rattle.om_flow.specs.declared.parts.Fact.{Fact as FoundFact}
use Rattle.om_graph.specs.declared.op.Last.{Last}
use Rattle.om_graph.specs.declared.op.Last.TheVariants as last
use Rattle.om_graph.specs.View.{Block, GraphView, Has, ops_of, has_label, labelled, block_of, last_of, last_in, last_set}
use Rattle.om_graph.specs.Run.{block_words, last_words, op_word, rev_onto, cond_act, table_of, graph_script}
use Rattle.om_graph.specs.Form.{InForm, LastForm, Ordered}
use Rattle.om_graph.specs.Index.{InReach}
use Rattle.om_graph.specs.Kept.{FallsOn}
use Rattle.om_graph.specs.Checks.{GpChecked, onward, end_fact}
use Rattle.om_graph.specs.OfProgram.{IsGraphOf}
use Rattle.om_graph.specs.Uses.{IsClosedOpening}
use Rattle.om_graph.proofs.Labels.{append_right, has_label as has_label_in}
use Rattle.om_graph.proofs.OfProgram.{words_in_place}
use Rattle.om_blocks.specs.Found.{fact_under, facts_in}
use Rattle.om_blocks.proofs.LastWords.{last_splits, AtLabel, at_none, at_block, at_label}
use Rattle.om_blocks.proofs.OnEffects.{table_is}
use Rattle.om_blocks.proofs.OnFilling.{found_id}
use Rattle.om_blocks.proofs.OfFlow.{labelled_is}
use Rattle.om_blocks.proofs.Walking.{found_block, found_here}
use Rattle.om_passes.specs.OneEdit.{MayGoOn}
use Rattle.om_passes.specs.Step.{Step}
use Rattle.om_passes.specs.Passed.{IsStep, IsOfAProgram}
use Rattle.om_passes.proofs.PastStep.{enter_call, enter_branch}
use Rattle.om_passes.proofs.FitsStay.{end_fits}
use Rattle.om_passes.proofs.KnownCalls.{turned, fronts_same}
use Rattle.om_passes.proofs.Leading.{behind_opening}
use Rattle.om_checks.specs.Steps.{IsEntry}
use Rattle.om_checks.proofs.Edges.{jump_word, one_last}
use Rattle.om_checks.proofs.Entries.{gp_entered}
use Rattle.om_calls.specs.declared.ends.PlaceCall.{PlaceCall}
use Rattle.om_calls.specs.Ends.{bsr_at, bsr_of, end_with}
use Rattle.om_calls.specs.Entries.{MayEnter, NoEnterIn}
use Rattle.om_calls.proofs.Known.{word_within}
use Rattle.om_calls.proofs.CallEnds.{EndsInBsr, calls, goes, ends_in_bsr, bsr_word, end_words, end_branch, end_call}

-- ---- facts of a graph, whatever its program

same_change : (p r : ProgramView) (g : GraphView) (at : Place) (a : Act) (f : Fact) → changed (graph_script p g) (record { at = at; act = a }) f ≡ changed (graph_script r g) (record { at = at; act = a }) f
same_change p r g at a Any = refl
same_change p r g at (GpLo ra rb hi) (Table t) = refl
same_change p r g at (Plain i) (Table t) = refl
same_change p r g at (Lit ra rb x) (Table t) = refl
same_change p r g at (GpHi ra rb base) (Table t) = refl
same_change p r g at (To o ra q) (Table t) = refl
same_change p r g at (AddrLda ra rb x) (Table t) = refl
same_change p r g at (AddrHi ra rb x) (Table t) = refl
same_change p r g at (UseLo i hi x) (Table t) = refl
same_change p r g at (UseGp i gp x) (Table t) = refl
same_change p r g at Wrong (Table t) = refl
same_change p r g at (GpLo ra rb hi) Unknown = refl
same_change p r g at (Plain i) Unknown = refl
same_change p r g at (Lit ra rb x) Unknown = refl
same_change p r g at (GpHi ra rb base) Unknown = refl
same_change p r g at (To o ra q) Unknown = refl
same_change p r g at (AddrLda ra rb x) Unknown = refl
same_change p r g at (AddrHi ra rb x) Unknown = refl
same_change p r g at (UseLo i hi x) Unknown = refl
same_change p r g at (UseGp i gp x) Unknown = refl
same_change p r g at Wrong Unknown = refl

same_onward : (p r : ProgramView) (g : GraphView) (f : Fact) (ws : List Word) → onward (graph_script p g) f ws ≡ onward (graph_script r g) f ws
same_onward p r g f [] = refl
same_onward p r g f (w ∷ ws) = ap (λ (x : Fact). onward (graph_script p g) x ws) (same_change p r g w.at w.act f) ∙ same_onward p r g (changed (graph_script r g) w f) ws

pub any_program : (p r : ProgramView) (g : GraphView) (facts : Place → Fact) → GpChecked (graph_script p g) facts g → GpChecked (graph_script r g) facts g
any_program p r g facts k = record {
  entry = k.entry;
  enters = λ b n e. subst (λ (f : Fact). Allows f (facts n.label)) (same_onward p r g (facts b.label) (block_words b)) (k.enters b n e);
}

-- ---- facts by number, of a graph with another end of a block

module _ (g : GraphView) (id : ℕ) (l : Last) (facts : List FoundFact) where
  abbrev id_found : Place → List Block → Option ℕ
  id_found q bs = option_map (λ (b : Block). b.id) (find (has_label q) bs)

  same_first : (q : Place) (b c : Block) (bs cs : List Block) → c.label ≡ b.label → c.id ≡ b.id → id_found q cs ≡ id_found q bs → id_found q (c ∷ cs) ≡ id_found q (b ∷ bs)
  same_first q b c bs cs e f again = by_label (has_label q b) refl
    where
      by_label : (t : Bool) → has_label q b ≡ t → id_found q (c ∷ cs) ≡ id_found q (b ∷ bs)
      by_label true h = let k : has_label q c ≡ true = ap (λ (p : Place). place_eq p q) e ∙ h in rw (h, k) (ap (λ (n : ℕ). Some n) f)
      by_label false h = let k : has_label q c ≡ false = ap (λ (p : Place). place_eq p q) e ∙ h in rw (h, k) again

  same_found : (q : Place) (bs : List Block) → id_found q (map (last_in id l) bs) ≡ id_found q bs
  same_found q [] = refl
  same_found q (b ∷ bs) = same_first q b (last_in id l b) bs (map (last_in id l) bs) (label_kept (b.id == id)) (id_kept (b.id == id)) (same_found q bs)
    where
      label_kept : (t : Bool) → (cond t (record b { last = l }) b).label ≡ b.label
      label_kept true = refl
      label_kept false = refl

      id_kept : (t : Bool) → (cond t (record b { last = l }) b).id ≡ b.id
      id_kept true = refl
      id_kept false = refl

  same_facts : (q : Place) → facts_in (last_set g id l) facts q ≡ facts_in g facts q
  same_facts q = ap (fact_under facts) (same_found q g.blocks)

  abbrev script : ProgramView → Script
  script p = graph_script p (last_set g id l)

  pub facts_after : (p : ProgramView) → GpChecked (graph_script p (last_set g id l)) (facts_in g facts) (last_set g id l) → GpChecked (graph_script p (last_set g id l)) (facts_in (last_set g id l) facts) (last_set g id l)
  facts_after p k = record {
    entry = entry k.entry;
    enters = λ b n e.
        subst (λ (f : Fact). Allows (end_fact (script p) (facts_in (last_set g id l) facts) b) f) (sym (same_facts n.label))
        (subst (λ (f : Fact). Allows (onward (script p) f (block_words b)) (facts_in g facts n.label)) (sym (same_facts b.label)) (k.enters b n e));
  }
    where
      entry : (facts_in g facts (script p).entry ≡ Unknown) ⊎ (facts_in g facts (script p).entry ≡ Table ((script p).table (script p).entry.obj)) → (facts_in (last_set g id l) facts (script p).entry ≡ Unknown) ⊎ (facts_in (last_set g id l) facts (script p).entry ≡ Table ((script p).table (script p).entry.obj))
      entry (inl e) = inl (same_facts (script p).entry ∙ e)
      entry (inr e) = inr (same_facts (script p).entry ∙ e)

-- ---- the step

end_stays : (c : PlaceCall) → FallsOn (end_with c) → ⊥
end_stays c = by_test (c.ra == 31)
  where
    by_test : (t : Bool) → FallsOn (cond t (last.Br c.at Bsr c.ra c.to) (last.Call c.at Bsr c.ra c.to)) → ⊥
    by_test true h = h
    by_test false h = h

module _ (g : GraphView) (of : IsOfAProgram g) (id : ℕ) (x : Block) (here : block_of g id ≡ Some x) (facts : List FoundFact) (checked : (p : ProgramView) → GpChecked (graph_script p g) (facts_in g facts) g) where
  hx : Has g.blocks x
  hx = found_block g.blocks id x here

  abbrev far : Block → Place
  far n = next_place (next_place n.label)

  abbrev from : Place → ℕ → Block → PlaceCall
  from at ra n = record { at = at; ra = ra; to = n.label }

  abbrev past : Place → ℕ → Block → PlaceCall
  past at ra n = record { at = at; ra = ra; to = far n }

  module _ (at : Place) (ra : ℕ) (n : Block) (hn : Has g.blocks n) (closed : IsClosedOpening g n) (link : ra ≡ 29 → ⊥) (reach : InReach g.counts at (far n))
      (fact : (p : ProgramView) (bf : List Word) → rev_onto bf (last_words x.last) ≡ block_words x → IsFact (fact_behind (graph_script p g) (facts_in g facts x.label) bf) (table_of g n.label.obj))
      (ends : EndsInBsr x.last (from at ra n)) where
    abbrev call : Word
    call = record { at = at; act = To Bsr ra n.label }

    ends_word : last_words x.last ≡ call ∷ []
    ends_word = bsr_word x.last (from at ra n) ends

    front : (bf : List Word) × (rev_onto bf (call ∷ []) ≡ map (op_word (ops_of x)) (ops_of x) ++ call ∷ [])
    front = last_splits (map (op_word (ops_of x)) (ops_of x)) call

    stands : rev_onto front.0 (call ∷ []) ≡ block_words x
    stands = front.1 ∙ ap (λ (l : List Word). map (op_word (ops_of x)) (ops_of x) ++ l) (sym ends_word)

    told : (p : ProgramView) → IsFact (fact_behind (graph_script p g) (facts_in g facts x.label) front.0) (table_of g n.label.obj)
    told p = fact p front.0 (ap (rev_onto front.0) ends_word ∙ stands)

    fits : (l : Last) → last_words l ≡ record { at = at; act = To Bsr ra (far n) } ∷ [] → ((p : ProgramView) → IsProgram p → MayGoOn p g → Step p g (last_set g id l)) → IsStep g (last_set g id l)
    fits l is step = record {
      step = step;
      fits = λ p prog m gp address fit. end_fits p gp address prog g m.graph fit id x here call (To Bsr ra (far n)) l ends_word is (step p prog m).rewrite.goes_on.graph;
    }

    by_end : EndsInBsr x.last (from at ra n) → IsStep g (last_set g id (end_with (past at ra n)))
    by_end (calls e) =
        let form : LastForm (last.Call at Bsr ra n.label) = subst (λ (l : Last). LastForm l) e (of.may_go_on.graph.form.lasts x hx) in
        subst (λ (l : Last). IsStep g (last_set g id l)) (sym (end_call (past at ra n) form.1))
        (fits (last.Call at Bsr ra (far n)) refl (λ p prog m. enter_call p prog g m id x here at ra n hn closed link reach (facts_in g facts) (checked p) front.0 [] stands (told p) e))
    by_end (goes e) =
        let form : LastForm (last.Br at Bsr ra n.label) = subst (λ (l : Last). LastForm l) e (of.may_go_on.graph.form.lasts x hx) in
        subst (λ (l : Last). IsStep g (last_set g id l)) (sym (end_branch (past at ra n) form.1))
        (fits (last.Br at Bsr ra (far n)) refl (λ p prog m. enter_branch p prog g m id x here at ra n hn closed link reach (facts_in g facts) (checked p) front.0 [] stands (told p) e))

    past_step : IsStep g (last_set g id (end_with (past at ra n)))
    past_step = by_end ends

    past_facts : (p : ProgramView) → GpChecked (graph_script p (last_set g id (end_with (past at ra n)))) (facts_in g facts) (last_set g id (end_with (past at ra n)))
    past_facts p =
        subst (λ (i : ℕ). GpChecked (graph_script p (last_set g i (end_with (past at ra n)))) (facts_in g facts) (last_set g i (end_with (past at ra n)))) (found_id g.blocks id x here)
        (gp_entered p g (facts_in g facts) x n (end_with (past at ra n)) graph.graph graph.form (words_in_place of.program of.valid g graph) new_form entry (checked p))
      where
        graph : IsGraphOf of.program g
        graph = of.may_go_on.graph

        new_form : InForm (last_set g x.id (end_with (past at ra n)))
        new_form =
            subst (λ (i : ℕ). InForm (last_set g i (end_with (past at ra n)))) (sym (found_id g.blocks id x here))
            (past_step.step of.program of.valid of.may_go_on).rewrite.goes_on.graph.form

        entry : IsEntry p g (facts_in g facts) x n (end_with (past at ra n))
        entry = record {
          among = hx;
          has = hn;
          closed = closed;
          behind = behind_opening of.program of.valid g graph n hn closed;
          bf = front.0;
          call = call;
          ra = ra;
          split = stands;
          act = refl;
          link = link;
          fact = told p;
          is = end_words (past at ra n);
          stays = end_stays (past at ra n);
        }

  -- what a call becomes that may go past a pair
  pub record Entered (l : Last) : Type 0 where
    pub step : IsStep g (last_set g id l)
    pub facts_stay : (p : ProgramView) → GpChecked (graph_script p (last_set g id l)) (facts_in (last_set g id l) facts) (last_set g id l)

  pub entered : (c : PlaceCall) (q : Place) → bsr_of x.last ≡ Some c → MayEnter g facts x c q → Entered (end_with (record { at = c.at; ra = c.ra; to = q }))
  entered c q e m =
      let is : record { at = c.at; ra = c.ra; to = (m.opening).label } ≡ c = ap (λ (p : Place). record { at = c.at; ra = c.ra; to = p }) m.label in
      let ends : EndsInBsr x.last (from c.at c.ra m.opening) = subst (λ (d : PlaceCall). EndsInBsr x.last d) (sym is) (ends_in_bsr x.last c e) in
      let q_is : q ≡ far m.opening = m.behind ∙ ap (λ (p : Place). next_place (next_place p)) (sym m.label) in
      let reach = subst (λ (p : Place). InReach g.counts c.at p) q_is m.reach in
      let fact : (p : ProgramView) (bf : List Word) → rev_onto bf (last_words x.last) ≡ block_words x → IsFact (fact_behind (graph_script p g) (facts_in g facts x.label) bf) (table_of g (m.opening).label.obj) =
      λ p bf s. subst (λ (y : Place). IsFact (fact_behind (graph_script p g) (facts_in g facts x.label) bf) (table_of g y.obj)) (sym m.label) (m.fact p bf s) in
      subst (λ (p : Place). Entered (end_with (record { at = c.at; ra = c.ra; to = p }))) (sym q_is)
      (record {
        step = past_step c.at c.ra m.opening m.among m.closed m.link reach fact ends;
        facts_stay = λ p. facts_after g id (end_with (past c.at c.ra m.opening)) facts p (past_facts c.at c.ra m.opening m.among m.closed m.link reach fact ends p);
      })

-- the call that was read is that of the block
pub bsr_read : (g : GraphView) (id : ℕ) (x : Block) → block_of g id ≡ Some x → (call : Option PlaceCall) (l : Last) → call ≡ bsr_of l → last_of g id ≡ Some l → call ≡ bsr_of x.last
bsr_read g id x here call l e f = e ∙ ap bsr_of (same l x.last (sym f ∙ ap (option_map (λ (y : Block). y.last)) here))
  where
    same : (a b : Last) → Some a ≡ Some b → a ≡ b
    same a b e = cc

-- ---- where no call is left

cond_not_to : (i : Instr) (to : Place) (ra : ℕ) (q : Place) → LastForm (last.Cond to i to) → cond_act i to ≡ To Bsr ra q → ⊥
cond_not_to (Branch (If k) ra d) to rb q f e = cc
cond_not_to (Branch Straight ra d) to rb q f e = absurd f
cond_not_to (Branch Bsr ra d) to rb q f e = absurd f
cond_not_to (Mem o ra rb d) to rc q f e = absurd f
cond_not_to (Jump k ra rb h) to rc q f e = absurd f
cond_not_to (Alu o ra rb rc) to rd q f e = absurd f
cond_not_to (Cmov k ra rb rc) to rd q f e = absurd f
cond_not_to (Misc o ra rb) to rc q f e = absurd f
cond_not_to Fnop to rc q f e = absurd f
cond_not_to Halt to rc q f e = absurd f
cond_not_to Callsys to rc q f e = absurd f

bsr_last : (l : Last) (w : Word) (ra : ℕ) (q : Place) → LastForm l → Has (last_words l) w → w.act ≡ To Bsr ra q → bsr_of l ≡ Some (record { at = w.at; ra = ra; to = q })
bsr_last last.Fall w ra q f h e = absurd h
bsr_last last.Off w ra q f h e = absurd h
bsr_last (last.Br at o r to) w ra q f (inl s) e =
    let d : To o r to ≡ To Bsr ra q = ap (λ (v : Word). v.act) s ∙ e in
    let o_is : o ≡ Bsr = cc in
    let r_is : r ≡ ra = cc in
    let to_is : to ≡ q = cc in
    let at_is = ap (λ (v : Word). v.at) s in
    ap (λ (y : BrOp). bsr_at at y r to) o_is ∙ (rw (r_is, to_is) (ap (λ (p : Place). Some (record { at = p; ra = ra; to = q })) at_is))
bsr_last (last.Br at o r to) w ra q f (inr n) e = absurd n
bsr_last (last.Cond at i to) w ra q f (inl s) e = absurd (cond_not_to i to ra q f (ap (λ (v : Word). v.act) s ∙ e))
bsr_last (last.Cond at i to) w ra q f (inr n) e = absurd n
bsr_last (last.Call at o r to) w ra q f (inl s) e =
    let d : To o r to ≡ To Bsr ra q = ap (λ (v : Word). v.act) s ∙ e in
    let o_is : o ≡ Bsr = cc in
    let r_is : r ≡ ra = cc in
    let to_is : to ≡ q = cc in
    let at_is = ap (λ (v : Word). v.at) s in
    ap (λ (y : BrOp). bsr_at at y r to) o_is ∙ (rw (r_is, to_is) (ap (λ (p : Place). Some (record { at = p; ra = ra; to = q })) at_is))
bsr_last (last.Call at o r to) w ra q f (inr n) e = absurd n
bsr_last (last.CallBy at i) w ra q f (inl s) e = let d : Plain i ≡ To Bsr ra q = ap (λ (v : Word). v.act) s ∙ e in cc
bsr_last (last.CallBy at i) w ra q f (inr n) e = absurd n
bsr_last (last.JumpBy at i) w ra q f (inl s) e = let d : Plain i ≡ To Bsr ra q = ap (λ (v : Word). v.act) s ∙ e in cc
bsr_last (last.JumpBy at i) w ra q f (inr n) e = absurd n

has_onto : (bf : List Word) (ws : List Word) (w : Word) → Has ws w → Has (rev_onto bf ws) w
has_onto [] ws w h = h
has_onto (x ∷ bf) ws w h = has_onto bf (x ∷ ws) w (inr h)

cancel : (xs us vs : List Word) → xs ++ us ≡ xs ++ vs → us ≡ vs
cancel [] us vs e = e
cancel (x ∷ xs) us vs e = let t : xs ++ us ≡ xs ++ vs = cc in cancel xs us vs t

-- words in order that end with a word have none behind it
last_alone : (bf : List Word) (w : Word) (ws xs bs : List Word) → Ordered bs → rev_onto bf (w ∷ ws) ≡ bs → bs ≡ xs ++ w ∷ [] → ws ≡ []
last_alone bf w ws xs bs o s e =
    let t = turned bf in
    let is : t.front ++ w ∷ ws ≡ bs = sym (t.same (w ∷ ws)) ∙ s in
    let fronts = fronts_same t.front xs ws [] w (subst (λ (l : List Word). Ordered l) (sym is) o) (is ∙ e) in
    let all = cancel t.front (w ∷ ws) (w ∷ []) (is ∙ e ∙ ap (λ (l : List Word). l ++ w ∷ []) (sym fronts)) in
    alone all
  where
    alone : w ∷ ws ≡ w ∷ [] → ws ≡ []
    alone e = cc

-- the block at the place of a call
pub record Opening (g : GraphView) (id : ℕ) (q : Place) : Type 0 where
  pub block : Block
  pub among : Has g.blocks block
  pub label : block.label ≡ q
  pub here : block_of g id ≡ Some block

pub opening_is : (g : GraphView) → IsOfAProgram g → (id : ℕ) (q : Place) → labelled g q ≡ Some id → Opening g id q
opening_is g of id q e = by_label (at_label g q)
  where
    same : (a b : ℕ) → Some a ≡ Some b → a ≡ b
    same a b e = cc

    no_id : None ≡ Some id → ⊥
    no_id e = cc

    by_label : AtLabel g q (labelled g q) → Opening g id q
    by_label (at_none n) = absurd (no_id (sym n ∙ e))
    by_label (at_block n h l s) = record { block = n; among = h; label = l; here = (found_here g of.may_go_on.graph.graph n id h (same n.id id (sym s ∙ e))).0 }

-- it is of one of the objects
pub label_within : (g : GraphView) → IsOfAProgram g → (n : Block) → Has g.blocks n → n.label.obj < length g.counts
label_within g of n h = ((words_in_place of.program of.valid g of.may_go_on.graph).labels n.label (of.may_go_on.graph.graph.among n.label (has_label_in g.blocks n h))).0

-- the table of its object
pub table_here : (g : GraphView) (of : IsOfAProgram g) (n : Block) → Has g.blocks n → (q : Place) (table : ℕ) → n.label ≡ q → table ≡ slice_index_or g.tables q.obj 0 → table ≡ table_of g q.obj
table_here g of n h q table l e =
    table_is g of.may_go_on.graph.graph n q table (ap (λ (p : Place). Some p) l) (subst (λ (p : Place). p.obj < length g.counts) l (label_within g of n h)) e
    ∙ ap (λ (p : Place). table_of g p.obj) l

-- and so is a call that ends a block
pub bsr_within : (g : GraphView) → IsOfAProgram g → (x : Block) → Has g.blocks x → (c : PlaceCall) → bsr_of x.last ≡ Some c → c.at.obj < length g.counts
bsr_within g of x hx c e =
    let word : Word = record { at = c.at; act = To Bsr c.ra c.to } in
    let there : Has (block_words x) word = append_right (map (op_word (ops_of x)) (ops_of x)) (last_words x.last) word (subst (λ (l : List Word). Has l word) (sym (bsr_word x.last c (ends_in_bsr x.last c e))) (inl refl)) in
    word_within g of x word hx there

-- a BSR of a block in form ends it, and nothing stands behind it
pub record BsrThere (x : Block) (bf : List Word) (w : Word) (ra : ℕ) (q : Place) : Type 0 where
  pub call : bsr_of x.last ≡ Some (record { at = w.at; ra = ra; to = q })
  pub stands : rev_onto bf (last_words x.last) ≡ block_words x

module _ (g : GraphView) (of : IsOfAProgram g) (x : Block) (hx : Has g.blocks x) where
  bsr_there : (bf ws : List Word) (w : Word) (ra : ℕ) (q : Place) → rev_onto bf (w ∷ ws) ≡ block_words x → w.act ≡ To Bsr ra q → BsrThere x bf w ra q
  bsr_there bf ws w ra q s e =
      let form = of.may_go_on.graph.form in
      let hw : Has (block_words x) w = subst (λ (l : List Word). Has l w) s (has_onto bf (w ∷ ws) w (inl refl)) in
      let m = jump_word (λ (p : Place). Unit {0}) g form x w q hx hw (subst (λ (a : Act). act_jumps (λ (p : Place). Unit {0}) a q) (sym e) refl) in
      let ends = one_last x.last w m in
      let none = last_alone bf w ws (map (op_word (ops_of x)) (ops_of x)) (block_words x) ((words_in_place of.program of.valid g of.may_go_on.graph).ordered x hx) s
      (ap (λ (l : List Word). map (op_word (ops_of x)) (ops_of x) ++ l) ends) in
      record {
        call = bsr_last x.last w ra q (form.lasts x hx) m e;
        stands = ap (rev_onto bf) (ends ∙ ap (λ (l : List Word). w ∷ l) (sym none)) ∙ s;
      }

  -- the end of the block calls no place
  pub no_bsr : (facts : List FoundFact) → bsr_of x.last ≡ None → NoEnterIn facts g x
  no_bsr facts none p e bf ws w ra s he a link closed reach fact =
      let t = bsr_there bf ws w ra e.label s a in
      absurd (no_call (record { at = w.at; ra = ra; to = e.label }) (sym none ∙ t.call))
    where
      no_call : (c : PlaceCall) → None ≡ Some c → ⊥
      no_call c e = cc

  module _ (facts : List FoundFact) (call : PlaceCall) (ends : bsr_of x.last ≡ Some call) where
    call_is : (bf ws : List Word) (w : Word) (ra : ℕ) (q : Place) → rev_onto bf (w ∷ ws) ≡ block_words x → w.act ≡ To Bsr ra q → record { at = w.at; ra = ra; to = q } ≡ call
    call_is bf ws w ra q s a = same (record { at = w.at; ra = ra; to = q }) call (sym (bsr_there bf ws w ra q s a).call ∙ ends)
      where
        same : (c d : PlaceCall) → Some c ≡ Some d → c ≡ d
        same c d e = cc

    -- it writes r29
    pub no_link : call.ra ≡ 29 → NoEnterIn facts g x
    no_link is p e bf ws w ra s he a link closed reach fact = link (ap (λ (c : PlaceCall). c.ra) (call_is bf ws w ra e.label s a) ∙ is)

    -- no kept block begins where it goes
    pub no_block : labelled g call.to ≡ None → NoEnterIn facts g x
    no_block none p e bf ws w ra s he a link closed reach fact =
        let to = ap (λ (c : PlaceCall). c.to) (call_is bf ws w ra e.label s a) in
        let there = ap (option_map (λ (b : Block). b.id)) (labelled_is g.blocks e of.may_go_on.graph.graph.blocks he) in
        let d : None ≡ Some e.id = sym none ∙ ap (λ (q : Place). labelled g q) (sym to) ∙ there in
        cc

    -- or no closed pair does
    pub no_pair : (id : ℕ) → labelled g call.to ≡ Some id → ((e : Block) → block_of g id ≡ Some e → IsClosedOpening g e → ⊥) → NoEnterIn facts g x
    no_pair id some none p e bf ws w ra s he a link closed reach fact =
        let to = ap (λ (c : PlaceCall). c.to) (call_is bf ws w ra e.label s a) in
        let there = ap (option_map (λ (b : Block). b.id)) (labelled_is g.blocks e of.may_go_on.graph.graph.blocks he) in
        let d : Some e.id ≡ Some id = sym there ∙ ap (λ (q : Place). labelled g q) to ∙ some in
        none e (found_here g of.may_go_on.graph.graph e id he (same e.id id d)).0 closed
      where
        same : (c d : ℕ) → Some c ≡ Some d → c ≡ d
        same c d e = cc

    -- it does not reach the place behind
    pub no_reach : (InReach g.counts call.at (next_place (next_place call.to)) → ⊥) → NoEnterIn facts g x
    no_reach none p e bf ws w ra s he a link closed reach fact =
        none (subst (λ (c : PlaceCall). InReach g.counts c.at (next_place (next_place c.to))) (call_is bf ws w ra e.label s a) reach)

    -- the table is no fact
    pub no_fact :
        ((p : ProgramView) (bf : List Word) → rev_onto bf (last_words x.last) ≡ block_words x → IsFact (fact_behind (graph_script p g) (facts_in g facts x.label) bf) (table_of g call.to.obj) → ⊥) →
        NoEnterIn facts g x
    no_fact none p e bf ws w ra s he a link closed reach fact =
        none p bf (bsr_there bf ws w ra e.label s a).stands
        (subst (λ (c : PlaceCall). IsFact (fact_behind (graph_script p g) (facts_in g facts x.label) bf) (table_of g c.to.obj)) (call_is bf ws w ra e.label s a) fact)
