-- The parts of the check, put together.
use Rattle.std.proofs.Common.{◌≡◌, ◌⊎◌, inl, inr, ℕ, Bool, true, false, cond, ◌==◌, List, [], ◌∷◌, ◌++◌, Some, get_or, refl, sym, ap, ◌∙◌, subst}
use Rattle.std.proofs.lemmas.Bool.{true≢false, eq-eqb}
use Rattle.std.specs.Prelude.{option_map}
use Rattle.om_prog.specs.View.{ProgramView}
use Rattle.om_prog.specs.Facts as prog
use Rattle.om_flow.specs.declared.parts.Fact.{Fact}
use Rattle.om_flow.specs.declared.parts.Fact.TheVariants.{Any, Table, Unknown}
use Rattle.om_flow.specs.Facts.{sent, Allows}
use Rattle.om_flow.specs.FactSteps.{joined}
use Rattle.om_flow.proofs.FactSolver.{joined_left, joined_right}
use Rattle.om_graph.specs.declared.op.Last.{Last}
use Rattle.om_graph.specs.View.{Block, GraphView, Has, block_of, last_of}
use Rattle.om_graph.specs.Held.{IsGraph}
use Rattle.om_graph.specs.Kept.{Named}
use Rattle.om_graph.specs.Run.{block_words, graph_script, table_of, entry_of}
use Rattle.om_graph.specs.Checks.{Enters, end_fact, onward, GpChecked}
use Rattle.om_graph.proofs.GpFacts.{allows_then}
use Rattle.om_blocks.specs.declared.effects.Effect.{Effect}
use Rattle.om_blocks.specs.declared.exits.Exit.{Exit}
use Rattle.om_blocks.specs.declared.exits.Exit.TheVariants.{Nowhere, Block as ToBlock, ByRegister}
use Rattle.om_blocks.specs.Effects.{DoAll}
use Rattle.om_blocks.specs.Exits.{last_exit, next_fallen, Leads, JumpsBy}
use Rattle.om_blocks.specs.IsFlow.{HasFlow}
use Rattle.om_blocks.specs.Found.{seen, facts_in}
use Rattle.om_blocks.specs.Laws.{entry_table}
use Rattle.om_blocks.proofs.OfFlow.{behind_seen, allows_seen, known_fact}
use Rattle.om_blocks.proofs.Entering.{exit_block, fallen_block, enters_led, enters_named, Entered, led, by_jump, entered, entering}
use Rattle.om_blocks.proofs.OnFilling.{found_id}
use Rattle.om_gpfacts.specs.Passing.{with_exit, Passes, PassesMore}

pub seen_allows : (x y : Fact) → prog.Allows (seen x) (seen y) → Allows x y
seen_allows Any y a = tt
seen_allows (Table t) Any a = cc
seen_allows (Table t) (Table u) a = cc
seen_allows (Table t) Unknown a = tt
seen_allows Unknown Any a = cc
seen_allows Unknown (Table u) a = cc
seen_allows Unknown Unknown a = tt

-- a fact that two facts allow, their least allows
joined_least : (x y : Fact) (z : prog.Fact) → prog.Allows (seen x) z → prog.Allows (seen y) z → prog.Allows (seen (joined x y)) z
joined_least Any y z a b = b
joined_least (Table t) Any z a b = a
joined_least (Table t) (Table u) z a b = by_table z a b
  where
    of_test : (s : Bool) (z : prog.Fact) → (t == u) ≡ s → prog.Allows (prog.Table t) z → prog.Allows (prog.Table u) z → prog.Allows (seen (cond s (Table t) Unknown)) z
    of_test true z e a b = a
    of_test false prog.Unknown e a b = tt
    of_test false prog.Any e a b = cc
    of_test false (prog.Table v) e a b = let k : t ≡ u = cc in absurd (true≢false (sym (eq-eqb t u k) ∙ e))

    by_table : (z : prog.Fact) → prog.Allows (prog.Table t) z → prog.Allows (prog.Table u) z → prog.Allows (seen (joined (Table t) (Table u))) z
    by_table z a b = of_test (t == u) z refl a b
joined_least (Table t) Unknown z a b = b
joined_least Unknown Any z a b = a
joined_least Unknown (Table t) z a b = a
joined_least Unknown Unknown z a b = a

one_more : (done : List Block) (x b : Block) → Has (done ++ x ∷ []) b → Has done b ⊎ (x ≡ b)
one_more [] x b (inl e) = inr e
one_more [] x b (inr h) = absurd h
one_more (c ∷ done) x b (inl e) = inl (inl e)
one_more (c ∷ done) x b (inr h) = elim (one_more done x b h) [ inl k ↦ inl (inr k) | inr e ↦ inr e ]

left_of : (done : List Block) (x b : Block) → Has done b → Has (done ++ x ∷ []) b
left_of [] x b h = absurd h
left_of (c ∷ done) x b (inl e) = inl e
left_of (c ∷ done) x b (inr h) = inr (left_of done x b h)

right_of : (done : List Block) (x : Block) → Has (done ++ x ∷ []) x
right_of [] x = inl refl
right_of (c ∷ done) x = inr (right_of done x)

pub passes_first : (g : GraphView) (facts : List Fact) → Passes g facts [] Any
passes_first g facts = record { led = λ p b n h hn l. absurd h; jumped = λ p b h j. absurd h; least = λ p x f. tt }

module _ (g : GraphView) (graph : IsGraph g) (flow : HasFlow g) (facts : List Fact) where
  -- what a block leaves at its end, by what it does
  abbrev pub Out : Block → Effect → Fact
  Out x e = sent e.transfer (get_or facts x.id Unknown)

  abbrev End : ProgramView → Block → prog.Fact
  End p x = end_fact (graph_script p g) (facts_in g facts) x

  abbrev pub IsEffect : Block → Effect → Type 0
  IsEffect x e = DoAll (table_of g x.label.obj) (block_words x) e

  -- what the check reads of a block
  pub record IsRead (x : Block) (b : ℕ) (last : Last) (e : Effect) (f : Fact) : Type 0 where
    pub id : x.id ≡ b
    pub ends : last ≡ x.last
    pub does : IsEffect x e
    pub out : sent e.transfer f ≡ Out x e

  pub read_is :
      (x : Block) (b : ℕ) (last : Last) (e : Effect) (f : Fact) → block_of g b ≡ Some x → last_of g b ≡ Some last → f ≡ get_or facts b Unknown →
      ((y : Block) → block_of g b ≡ Some y → IsEffect y e) → IsRead x b last e f
  read_is x b last e f here l known all =
      let same : x.id ≡ b = found_id g.blocks b x here in
      record {
        id = same;
        ends = some_last last x.last (sym l ∙ ap (option_map (λ (y : Block). y.last)) here);
        does = all x here;
        out = ap (sent e.transfer) (known ∙ ap (λ (i : ℕ). get_or facts i Unknown) (sym same));
      }
    where
      some_last : (a b : Last) → Some a ≡ Some b → a ≡ b
      some_last a b e = cc

  end_is : (p : ProgramView) (x : Block) (e : Effect) → Has g.blocks x → IsEffect x e → End p x ≡ seen (Out x e)
  end_is p x e h is =
      ap (λ (y : prog.Fact). onward (graph_script p g) y (block_words x)) (known_fact g graph facts x h)
      ∙ is.transfer (graph_script p g) (seen (get_or facts x.id Unknown)) (λ w hw. ap (table_of g) (flow.places.words x w h hw).object)
      ∙ behind_seen e.transfer (get_or facts x.id Unknown)

  -- what is allowed of numbers is allowed of labels, and the other way
  to_label : (p : ProgramView) (x n : Block) (e : Effect) → Has g.blocks x → Has g.blocks n → IsEffect x e → Allows (Out x e) (get_or facts n.id Unknown) → prog.Allows (End p x) (facts_in g facts n.label)
  to_label p x n e h hn is a =
      subst (λ (y : prog.Fact). prog.Allows y (facts_in g facts n.label)) (sym (end_is p x e h is))
      (subst (λ (y : prog.Fact). prog.Allows (seen (Out x e)) y) (sym (known_fact g graph facts n hn)) (allows_seen (Out x e) (get_or facts n.id Unknown) a))

  to_number : (y : Fact) (n : Block) → Has g.blocks n → prog.Allows (seen y) (facts_in g facts n.label) → Allows y (get_or facts n.id Unknown)
  to_number y n hn a = seen_allows y (get_or facts n.id Unknown) (subst (λ (z : prog.Fact). prog.Allows (seen y) z) (known_fact g graph facts n hn) a)

  of_number : (y : Fact) (n : Block) → Has g.blocks n → Allows y (get_or facts n.id Unknown) → prog.Allows (seen y) (facts_in g facts n.label)
  of_number y n hn a = subst (λ (z : prog.Fact). prog.Allows (seen y) z) (sym (known_fact g graph facts n hn)) (allows_seen y (get_or facts n.id Unknown) a)

  module _ (x : Block) (e : Effect) (hx : Has g.blocks x) (is : IsEffect x e) where
    -- where the check holds, it holds of the block
    pub led_allows : (p : ProgramView) → GpChecked (graph_script p g) (facts_in g facts) g → (id : ℕ) → Leads g x id → Allows (Out x e) (get_or facts id Unknown)
    led_allows p checked id l =
        let n = led_block l in
        subst (λ (i : ℕ). Allows (Out x e) (get_or facts i Unknown)) n.2
        (to_number (Out x e) n.0 n.1
        (subst (λ (y : prog.Fact). prog.Allows y (facts_in g facts n.0.label)) (end_is p x e hx is)
        (checked.enters x n.0 (enters_led g graph flow x n.0 hx n.1 (subst (Leads g x) (sym n.2) l)))))
      where
        led_block : Leads g x id → (n : Block) × Has g.blocks n × (n.id ≡ id)
        led_block (inl s) = exit_block g x.last id s
        led_block (inr s) = fallen_block g x.id x.last id s

    module _ (out : Fact) (first : (id : ℕ) → last_exit g x.last ≡ ToBlock id → Allows (Out x e) (get_or facts id Unknown)) (second : (id : ℕ) → next_fallen g x.id x.last ≡ Some id → Allows (Out x e) (get_or facts id Unknown)) where
      leads_here : (p : ProgramView) (n : Block) → Has g.blocks n → Leads g x n.id → prog.Allows (End p x) (facts_in g facts n.label)
      leads_here p n hn (inl s) = to_label p x n e hx hn is (first n.id s)
      leads_here p n hn (inr s) = to_label p x n e hx hn is (second n.id s)

      allows_out : (p : ProgramView) (y : prog.Fact) → prog.Allows (seen (Out x e)) y → prog.Allows (End p x) y
      allows_out p y a = subst (λ (z : prog.Fact). prog.Allows z y) (sym (end_is p x e hx is)) a

      module _ (done : List Block) (old : Passes g facts done out) where
        led_more : (p : ProgramView) (b n : Block) → Has g.blocks n → Leads g b n.id → Has done b ⊎ (x ≡ b) → prog.Allows (End p b) (facts_in g facts n.label)
        led_more p b n hn l (inl h) = old.led p b n h hn l
        led_more p b n hn l (inr s) =
            subst (λ (z : Block). prog.Allows (End p z) (facts_in g facts n.label)) s (leads_here p n hn (subst (λ (z : Block). Leads g z n.id) (sym s) l))

        stays : (exit : Exit) → last_exit g x.last ≡ exit → (exit ≡ ByRegister → ⊥) → Passes g facts (done ++ x ∷ []) out
        stays exit q none = record {
          led = λ p b n h hn l. led_more p b n hn l (one_more done x b h);
          jumped = λ p b h j. jumped p b j (one_more done x b h);
          least = λ p y f. old.least p y (λ b h j. f b (left_of done x b h) j);
        }
          where
            jumped : (p : ProgramView) (b : Block) → JumpsBy g b → Has done b ⊎ (x ≡ b) → prog.Allows (End p b) (seen out)
            jumped p b j (inl h) = old.jumped p b h j
            jumped p b j (inr s) = absurd (none (sym q ∙ subst (λ (z : Block). last_exit g z.last ≡ ByRegister) (sym s) j))

        joins : last_exit g x.last ≡ ByRegister → Passes g facts (done ++ x ∷ []) (joined out (Out x e))
        joins q = record {
          led = λ p b n h hn l. led_more p b n hn l (one_more done x b h);
          jumped = λ p b h j. jumped p b j (one_more done x b h);
          least = λ p y f. joined_least out (Out x e) y (old.least p y (λ b h j. f b (left_of done x b h) j))
              (subst (λ (z : prog.Fact). prog.Allows z y) (end_is p x e hx is) (f x (right_of done x) q));
        }
          where
            jumped : (p : ProgramView) (b : Block) → JumpsBy g b → Has done b ⊎ (x ≡ b) → prog.Allows (End p b) (seen (joined out (Out x e)))
            jumped p b j (inl h) = allows_then (End p b) (seen out) (seen (joined out (Out x e))) (old.jumped p b h j) (allows_seen out (joined out (Out x e)) (joined_left out (Out x e)))
            jumped p b j (inr s) =
                subst (λ (z : Block). prog.Allows (End p z) (seen (joined out (Out x e)))) s
                (allows_out p (seen (joined out (Out x e))) (allows_seen (Out x e) (joined out (Out x e)) (joined_right out (Out x e))))

        by_exit : (exit : Exit) → last_exit g x.last ≡ exit → Passes g facts (done ++ x ∷ []) (with_exit exit out (Out x e))
        by_exit ByRegister q = joins q
        by_exit Nowhere q = stays Nowhere q (λ s. cc)
        by_exit (ToBlock id) q = stays (ToBlock id) q (λ s. cc)

      pub passes_more : PassesMore g facts x out (with_exit (last_exit g x.last) out (Out x e))
      passes_more = record { more = λ done old. by_exit done old (last_exit g x.last) refl }

  -- what jumps by a register is allowed at landing places
  pub jump_allows :
      (p : ProgramView) (out : Fact) → GpChecked (graph_script p g) (facts_in g facts) g → Passes g facts g.blocks out →
      (n : Block) → Has g.blocks n → Named g n.label → Allows out (get_or facts n.id Unknown)
  jump_allows p out checked passes n hn named =
      to_number out n hn (passes.least p (facts_in g facts n.label) (λ b h j. checked.enters b n (enters_named g graph flow b n h hn j named)))

  pub all_checked :
      (p : ProgramView) (out : Fact) → prog.Allows (prog.Table (entry_table g)) (facts_in g facts (entry_of g.roots)) → Passes g facts g.blocks out →
      ((n : Block) → Has g.blocks n → Named g n.label → Allows out (get_or facts n.id Unknown)) → GpChecked (graph_script p g) (facts_in g facts) g
  all_checked p out entry passes lands = record { entry = start (facts_in g facts (entry_of g.roots)) entry; enters = λ b n e. by_case b n e (entered g graph flow b n e) }
    where
      start : (x : prog.Fact) → prog.Allows (prog.Table (entry_table g)) x → (x ≡ prog.Unknown) ⊎ (x ≡ prog.Table (entry_table g))
      start prog.Unknown a = inl refl
      start (prog.Table t) a = inr (sym a)
      start prog.Any a = cc

      by_case : (b n : Block) → Enters g b n → Entered g graph flow b n → prog.Allows (End p b) (facts_in g facts n.label)
      by_case b n e (led l) = let h = entering g b n e in passes.led p b n h.0 h.1 l
      by_case b n e (by_jump j k) =
          let h = entering g b n e in
          allows_then (End p b) (seen out) (facts_in g facts n.label) (passes.jumped p b h.0 j) (of_number out n h.1 (lands n h.1 k))

  -- the entry's fact
  pub entry_allows : (p : ProgramView) → GpChecked (graph_script p g) (facts_in g facts) g → prog.Allows (prog.Table (entry_table g)) (facts_in g facts (entry_of g.roots))
  entry_allows p checked = by_case (facts_in g facts (entry_of g.roots)) checked.entry
    where
      by_case : (x : prog.Fact) → (x ≡ prog.Unknown) ⊎ (x ≡ prog.Table (entry_table g)) → prog.Allows (prog.Table (entry_table g)) x
      by_case x (inl e) = subst (λ (y : prog.Fact). prog.Allows (prog.Table (entry_table g)) y) (sym e) tt
      by_case x (inr e) = subst (λ (y : prog.Fact). prog.Allows (prog.Table (entry_table g)) y) (sym e) refl
