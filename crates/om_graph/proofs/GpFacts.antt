-- Facts on r29 that a check passes flow along a graph's run.
use Rattle.std.proofs.Common.{◌≡◌, ◌⊎◌, inl, inr, ℕ, Bool, true, false, cond, List, [], ◌∷◌, Option, Some, None, refl, sym, ap, ◌∙◌, subst}
use Rattle.om_value.specs.declared.value.Place.{Place}
use Rattle.om_prog.specs.Act.{Word, Script, act_writes}
use Rattle.om_prog.specs.Step.{SymState}
use Rattle.om_prog.specs.Runs.{sym_run, sym_start}
use Rattle.om_prog.specs.Flow.{act_jumps, GoesTo}
use Rattle.om_prog.specs.Within.{ActWithin, StateWithin}
use Rattle.om_prog.specs.View.{ProgramView}
use Rattle.om_prog.specs.Facts.{Fact, Any, Table, Unknown, changed, changed_by, set_fact, fact_behind, has, Allows, GpFlows, Holds}
use Rattle.om_prog.proofs.Facts.{Known, facts_hold, behind_holds, known_word, entry_holds}
use Rattle.om_graph.specs.View.{Block, GraphView, Has}
use Rattle.om_graph.specs.Run.{block_words, words, from_place, next_word, graph_script, all_words, rev_onto}
use Rattle.om_graph.specs.Checks.{onward, end_fact, ReachesBlock, at_entry, enters_next, falls_in, jumps_in, GpChecked, told_in, told_or, told_at}
use Rattle.om_graph.specs.Kept.{IsKeptLanding}
use Rattle.om_graph.specs.Pass.{Keeping}
use Rattle.om_graph.proofs.Placed.{Placed, JumpsLast, IsLabel, Lands}
use Rattle.om_graph.proofs.Blocks.{InBlocks, value_in, or_else, value_at, EdgeTo, Edges, edges_of, Laws, land, none_at, come, flows_at}

pub allows_same : (f : Fact) → Allows f f
allows_same Any = tt
allows_same (Table t) = refl
allows_same Unknown = tt

pub allows_unknown : (f : Fact) → Allows f Unknown
allows_unknown Any = tt
allows_unknown (Table t) = tt
allows_unknown Unknown = tt

pub allows_then : (f g h : Fact) → Allows f g → Allows g h → Allows f h
allows_then Any g h a b = tt
allows_then (Table t) Unknown Unknown a b = tt
allows_then (Table t) Unknown Any a b = cc
allows_then (Table t) Unknown (Table u) a b = cc
allows_then (Table t) Any h a b = cc
allows_then (Table t) (Table u) Unknown a b = tt
allows_then (Table t) (Table u) Any a b = cc
allows_then (Table t) (Table u) (Table v) a b = a ∙ b
allows_then Unknown Unknown h a b = b
allows_then Unknown Any h a b = cc
allows_then Unknown (Table u) h a b = cc

-- a word keeps what is allowed
pub allows_changed : (c : Script) (w : Word) (f h : Fact) → Allows f h → Allows (changed c w f) (changed c w h)
allows_changed c w Any h a = tt
allows_changed c w (Table x) (Table y) a = subst (λ (k : Fact). Allows (changed c w (Table x)) (changed c w k)) a (allows_same (changed c w (Table x)))
allows_changed c w (Table x) Any a = cc
allows_changed c w (Table x) Unknown a = by_case (has (act_writes w.act) 29)
  where
    by_case : (b : Bool) → Allows (cond b (set_fact c w w.act) (Table x)) (cond b (set_fact c w w.act) Unknown)
    by_case true = allows_same (set_fact c w w.act)
    by_case false = tt
allows_changed c w Unknown Unknown a = allows_same (changed c w Unknown)
allows_changed c w Unknown Any a = cc
allows_changed c w Unknown (Table y) a = cc

-- so do words
allows_onward : (c : Script) (ws : List Word) (f h : Fact) → Allows f h → Allows (onward c f ws) (onward c h ws)
allows_onward c [] f h a = a
allows_onward c (w ∷ ws) f h a = allows_onward c ws (changed c w f) (changed c w h) (allows_changed c w f h a)

module _ (c : Script) (facts : Place → Fact) where
  -- the fact behind words, the last one first
  abbrev pub behind : Fact → List Word → Fact
  behind f bf = changed_by c f bf

  abbrev pub fact_in : Block → List Word → List Word → Fact
  fact_in b bf ws = behind (facts b.label) bf

  -- the fact at a place
  abbrev pub fact_at : List Block → Place → Fact
  fact_at bs p = value_at Fact fact_in Unknown bs p

  -- where the fact between blocks holds, the one that passes use holds
  abbrev HoldOr : SymState → Option Fact → Option Fact → Type 0
  HoldOr s None None = Unit {0}
  HoldOr s (Some f) (Some g) = Holds f s → Holds g s
  HoldOr s _ _ = ⊥

  told_within : (b : Block) (bf ws : List Word) (p : Place) (s : SymState) → HoldOr s (value_in Fact fact_in Unknown b bf ws p) (told_in c facts (facts b.label) bf ws p)
  told_within b bf [] p s = tt
  told_within b bf (w ∷ ws) p s = by_case (from_place p w) (told_within b (w ∷ bf) ws p s)
    where
      by_case :
          (t : Bool) → HoldOr s (value_in Fact fact_in Unknown b (w ∷ bf) ws p) (told_in c facts (facts b.label) (w ∷ bf) ws p) →
          HoldOr s (cond t (Some (changed_by c (facts b.label) bf)) (value_in Fact fact_in Unknown b (w ∷ bf) ws p)) (cond t (Some (fact_behind c (facts b.label) bf)) (told_in c facts (facts b.label) (w ∷ bf) ws p))
      by_case true i = behind_holds c (facts b.label) bf s
      by_case false i = i

  pub told_holds : (bs : List Block) (p : Place) (s : SymState) → Holds (fact_at bs p) s → Holds (told_at c facts bs p) s
  told_holds [] p s h = h
  told_holds (b ∷ bs) p s h = by_block _ _ (told_within b [] (block_words b) p s) (told_holds bs p s) h
    where
      by_block :
          (x y : Option Fact) → HoldOr s x y → (Holds (fact_at bs p) s → Holds (told_at c facts bs p) s) → Holds (or_else Fact fact_in Unknown x (fact_at bs p)) s →
          Holds (told_or c facts y (told_at c facts bs p)) s
      by_block None None i j h = j h
      by_block None (Some g) i j h = absurd i
      by_block (Some f) None i j h = absurd i
      by_block (Some f) (Some g) i j h = i h

  abbrev pub fact_enter : Block → Fact
  fact_enter b = facts b.label

  abbrev pub fact_flow : Word → Fact → Fact → Type 0
  fact_flow w f g = Allows (changed c w f) g

  onward_split : (f : Fact) (bf ws : List Word) → onward c f (rev_onto bf ws) ≡ onward c (behind f bf) ws
  onward_split f [] ws = refl
  onward_split f (w ∷ bf) ws = onward_split f bf (w ∷ ws)

  end_split : (b : Block) (bf : List Word) (w : Word) → rev_onto bf (w ∷ []) ≡ block_words b → end_fact c facts b ≡ changed c w (behind (facts b.label) bf)
  end_split b bf w e = ap (onward c (facts b.label)) (sym e) ∙ onward_split (facts b.label) bf (w ∷ [])

  pub laws : Laws Fact fact_in Unknown fact_enter fact_flow Allows
  laws = record {
    inner = λ b bf w x ws. allows_same (changed c w (behind (facts b.label) bf));
    le_done = allows_unknown;
    flow_done = λ w x. allows_unknown (changed c w x);
    le_trans = allows_then;
    flow_le = λ w x y z. allows_then (changed c w x) y z;
  }

  edge : (b n : Block) → Allows (end_fact c facts b) (facts n.label) → EdgeTo Fact fact_in Unknown fact_enter fact_flow Allows b n
  edge b n a = record {
    ends = λ bf w e. subst (λ (f : Fact). Allows f (facts n.label)) (end_split b bf w e) a;
    empty = λ e. subst (λ (ws : List Word). Allows (onward c (facts b.label) ws) (facts n.label)) e a;
  }

  module _ (g : GraphView) (checked : GpChecked c facts g) where
    -- a block's fact allows what each walk over blocks leaves there
    pub reaches_allows : (b : Block) (f : Fact) → ReachesBlock c g b f → Allows f (facts b.label)
    reaches_allows b f (at_entry d h e) =
        subst (λ (q : Place). Allows (Table (c.table c.entry.obj)) (facts q)) (sym e) (by_entry checked.entry)
      where
        by_entry : (facts c.entry ≡ Unknown) ⊎ (facts c.entry ≡ Table (c.table c.entry.obj)) → Allows (Table (c.table c.entry.obj)) (facts c.entry)
        by_entry (inl i) = subst (λ (f : Fact). Allows (Table (c.table c.entry.obj)) f) (sym i) tt
        by_entry (inr i) = subst (λ (f : Fact). Allows (Table (c.table c.entry.obj)) f) (sym i) refl
    reaches_allows n f (enters_next b m h r e) =
        allows_then (onward c h (block_words b)) (end_fact c facts b) (facts n.label)
        (allows_onward c (block_words b) h (facts b.label) (reaches_allows b h r)) (checked.enters b n e)

    pub gp_edges : Edges Fact fact_in Unknown fact_enter fact_flow Allows g.blocks
    gp_edges =
        edges_of Fact fact_in Unknown fact_enter fact_flow Allows g.blocks g.blocks (λ b h. h) (λ b n h. h) (λ b h w ws e. allows_same (facts b.label))
        (λ b n h o f. edge b n (checked.enters b n (falls_in h o f)))

    -- where the last word of a block goes to a kept block
    pub gp_jumps :
        (b n : Block) (bf : List Word) (w : Word) → Has g.blocks b → Has g.blocks n → rev_onto bf (w ∷ []) ≡ block_words b →
        act_jumps (IsKeptLanding g) w.act n.label → Allows (changed c w (behind (facts b.label) bf)) (facts n.label)
    gp_jumps b n bf w hb hn s j =
        subst (λ (f : Fact). Allows f (facts n.label)) (end_split b bf w s) (checked.enters b n (jumps_in w hb hn (bf, s) j))

  module _ (g : GraphView) (P : Place → Type 0) (placed : Placed g.blocks) (last : JumpsLast (IsKeptLanding g) g.blocks)
      (lands : Lands (IsKeptLanding g) P g.blocks) (checked : GpChecked c facts g) where
    abbrev K : Place → Type 0
    K = IsKeptLanding g

    abbrev bs : List Block
    bs = g.blocks

    jump_flow :
        (b : Block) (bf : List Word) (w : Word) (q : Place) → Has bs b → P b.label → rev_onto bf (w ∷ []) ≡ block_words b → act_jumps K w.act q →
        Allows (changed c w (behind (facts b.label) bf)) (fact_at bs q)
    jump_flow b bf w q hb k s j =
        come Fact fact_in Unknown fact_enter fact_flow Allows laws bs w (behind (facts b.label) bf) q placed (gp_edges g checked) (lands b bf w q hb k s j)
        (λ n hn e. gp_jumps g checked b n bf w hb hn s (subst (λ (x : Place). act_jumps K w.act x) (sym e) j))

    pub checked_flows :
        (p : Place) (w : Word) (q : Place) → InBlocks P bs p → next_word (all_words bs) p ≡ Some w → GoesTo K w q → Allows (changed c w (fact_at bs p)) (fact_at bs q)
    checked_flows p w q k e t = flows_at Fact fact_in Unknown fact_enter fact_flow Allows laws K bs placed (gp_edges g checked) last P jump_flow p w q k e t

    pub entered : IsLabel bs c.entry → (fact_at bs c.entry ≡ Unknown) ⊎ (fact_at bs c.entry ≡ Table (c.table c.entry.obj))
    entered (inr e) = inl (none_at Fact fact_in Unknown fact_enter fact_flow Allows laws bs c.entry e)
    entered (inl n) =
        by_fact checked.entry
        (subst (λ (q : Place). Allows (facts q) (fact_at bs q)) n.2 (land Fact fact_in Unknown fact_enter fact_flow Allows laws bs n.0 placed (gp_edges g checked) n.1))
      where
        allowed_table : (f g : Fact) (t : ℕ) → f ≡ Table t → Allows f g → (g ≡ Unknown) ⊎ (g ≡ Table t)
        allowed_table (Table u) Unknown t e a = inl refl
        allowed_table (Table u) Any t e a = cc
        allowed_table (Table u) (Table v) t e a = inr (sym a ∙ e)
        allowed_table Any g t e a = cc
        allowed_table Unknown g t e a = cc

        allowed_none : (f g : Fact) → f ≡ Unknown → Allows f g → g ≡ Unknown
        allowed_none Unknown Unknown e a = refl
        allowed_none Unknown Any e a = cc
        allowed_none Unknown (Table v) e a = cc
        allowed_none Any g e a = cc
        allowed_none (Table u) g e a = cc

        by_fact :
            (facts c.entry ≡ Unknown) ⊎ (facts c.entry ≡ Table (c.table c.entry.obj)) → Allows (facts c.entry) (fact_at bs c.entry) →
            (fact_at bs c.entry ≡ Unknown) ⊎ (fact_at bs c.entry ≡ Table (c.table c.entry.obj))
        by_fact (inl e) a = inl (allowed_none (facts c.entry) (fact_at bs c.entry) e a)
        by_fact (inr e) a = allowed_table (facts c.entry) (fact_at bs c.entry) (c.table c.entry.obj) e a

-- where a check passes, each fact holds at each place that the graph's run reaches
pub facts_hold_at :
    (p : ProgramView) (g : GraphView) (facts : Place → Fact) (P : Place → Type 0) → Placed g.blocks → JumpsLast (IsKeptLanding g) g.blocks → Lands (IsKeptLanding g) P g.blocks →
    GpChecked (graph_script p g) facts g → IsLabel g.blocks (graph_script p g).entry →
    (input : List ℕ) → StateWithin (IsKeptLanding g) (sym_start (graph_script p g) input) →
    ((n : ℕ) (w : Word) → next_word (words g) (sym_run (graph_script p g) input n).place ≡ Some w → ActWithin (IsKeptLanding g) w.at w.act × InBlocks P g.blocks (sym_run (graph_script p g) input n).place) → (n : ℕ) →
    Known (IsKeptLanding g) (fact_at (graph_script p g) facts g.blocks) (sym_run (graph_script p g) input n)
facts_hold_at p g facts P placed last lands checked entry input first fine n =
    let c = graph_script p g in
    facts_hold c (IsKeptLanding g) (InBlocks P g.blocks) (fact_at c facts g.blocks)
    (record { entry = entered c facts g P placed last lands checked entry; goes = checked_flows c facts g P placed last lands checked })
    input first fine n

-- facts beside what else is known of a run: what the passes that use facts take
pub known_keeping :
    (c : Script) (K At : Place → Type 0) (fact : Place → Fact) (A : SymState → Type 0) → GpFlows c K At fact → Keeping c K A →
    ((s : SymState) (w : Word) → A s → c.fetch s.place ≡ Some w → ActWithin K w.at w.act × At s.place) →
    ((input : List ℕ) → StateWithin K (sym_start c input)) → Keeping c K (λ s. Known K fact s × A s)
unfolding sym_start
known_keeping c K At fact A flows olds fine first = record {
  starts = λ input. (record { fine = first input; holds = entry_holds c K At fact flows input (fact c.entry) flows.entry }, olds.starts input);
  steps = λ s w fs k f. (known_word c K At fact flows s w (fine s w k.1 f).0 (fine s w k.1 f).1 f k.0, olds.steps s w fs k.1 f);
}
