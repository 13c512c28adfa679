-- What a graph from which nothing is missing gives the passes: a run stays in the kept set, and what was checked of
-- its blocks holds where it comes.
use Rattle.std.proofs.Common.{◌≡◌, ◌⊎◌, inl, inr, ℕ, List, [], ◌∷◌, Option, Some, refl, sym, subst}
use Rattle.std.specs.Prelude.{flat_map}
use Rattle.om_isa.specs.declared.instr.Instr.TheVariants.{Jump as Jumps}
use Rattle.om_value.specs.declared.value.Place.{Place}
use Rattle.om_value.specs.declared.value.Target.{Target}
use Rattle.om_value.specs.declared.value.Target.TheVariants as target
use Rattle.om_value.specs.declared.value.Value.{Value}
use Rattle.om_value.specs.declared.value.Value.TheVariants.{Num, Ptr, Code, Gp, Half, GpOff}
use Rattle.om_prog.specs.declared.item.Field.{Field}
use Rattle.om_prog.specs.declared.region.RegionInit.{RegionInit}
use Rattle.om_prog.specs.Cells.{Cell, Byte, Part}
use Rattle.om_prog.specs.Act.{Act, Plain, To, Word, Script}
use Rattle.om_prog.specs.Step.{SymState}
use Rattle.om_prog.specs.Runs.{sym_run, sym_start}
use Rattle.om_prog.specs.Flow.{act_jumps}
use Rattle.om_prog.specs.Within.{ActWithin, StateWithin, ValueWithin, CellWithin}
use Rattle.om_prog.specs.Facts.{Fact, GpFlows, Holds}
use Rattle.om_prog.specs.View.{ProgramView}
use Rattle.om_prog.proofs.Initial.{HasInit, HasField}
use Rattle.om_prog.proofs.Facts.{Known}
use Rattle.om_prog.proofs.Stays as stay
use Rattle.om_graph.specs.View.{Block, GraphView, Has}
use Rattle.om_graph.specs.Run.{block_words, entry_of, graph_script}
use Rattle.om_graph.specs.Kept.{IsInKeptSet, root, named, names, IsEnd, IsBlock, IsKeptLanding, IsKeptLabel, Comes}
use Rattle.om_graph.specs.Checks.{GpChecked, told_at}
use Rattle.om_graph.specs.Pass.{Keeping}
use Rattle.om_graph.specs.Whole.{IsWhole, target_places, value_places}
use Rattle.om_graph.proofs.Placed.{Placed, JumpsLast, IsLabel, Lands}
use Rattle.om_graph.proofs.Labels.{append_left, append_right}
use Rattle.om_graph.proofs.Places.{InLabels, in_labels, placed, jumps_last, none_named, no_codes, end_none}
use Rattle.om_graph.proofs.Blocks.{InBlocks}
use Rattle.om_graph.proofs.GpFacts.{fact_at, checked_flows, entered, facts_hold_at, known_keeping, told_holds}
use Rattle.om_graph.proofs.Kept.{KeptOrEnd, Stays, kept_law, word_lands, start_lands, stays_keeping, kept_label, has_split}
use Rattle.om_graph.proofs.Comes.{comes}

-- ---- places that fields name

within_target : (P : Place → Type 0) (t : Target) → ((q : Place) → Has (target_places t) q → P q) → ValueWithin P (GpOff 0 t)
within_target P (target.Num n) f = tt
within_target P (target.Ptr r x) f = tt
within_target P (target.Code q) f = f q (inl refl)

within_value : (P : Place → Type 0) (v : Value) → ((q : Place) → Has (value_places v) q → P q) → ValueWithin P v
within_value P (Num n) f = tt
within_value P (Ptr r x) f = tt
within_value P (Code q) f = f q (inl refl)
within_value P (Gp o) f = tt
within_value P (Half q) f = tt
within_value P (GpOff o t) f = within_target P t f

in_fields : (fs : List Field) (f : Field) (q : Place) → HasField fs f → Has (value_places f.value) q → Has (flat_map (λ f. value_places f.value) fs) q
unfolding HasField
in_fields [] f q h m = absurd h
in_fields (x ∷ fs) f q (inl e) m = append_left (value_places x.value) _ q (subst (λ (y : Field). Has (value_places y.value) q) (sym e) m)
in_fields (x ∷ fs) f q (inr h) m = append_right (value_places x.value) _ q (in_fields fs f q h m)

in_regions :
    (rs : List RegionInit) (i : RegionInit) (f : Field) (q : Place) → HasInit rs i → HasField i.fields f → Has (value_places f.value) q →
    Has (flat_map (λ r. flat_map (λ f. value_places f.value) r.fields) rs) q
unfolding HasInit
in_regions [] i f q h k m = absurd h
in_regions (r ∷ rs) i f q (inl e) k m =
    append_left (flat_map (λ f. value_places f.value) r.fields) _ q (in_fields r.fields f q (subst (λ (y : RegionInit). HasField y.fields f) (sym e) k) m)
in_regions (r ∷ rs) i f q (inr h) k m = append_right (flat_map (λ f. value_places f.value) r.fields) _ q (in_regions rs i f q h k m)

-- ---- codes of fewer places are codes of more

module _ (P Q : Place → Type 0) (f : (q : Place) → P q → Q q) where
  more_target : (t : Target) (o : ℕ) → ValueWithin P (GpOff o t) → ValueWithin Q (GpOff o t)
  more_target (target.Num n) o h = tt
  more_target (target.Ptr r x) o h = tt
  more_target (target.Code q) o h = f q h

  more_value : (v : Value) → ValueWithin P v → ValueWithin Q v
  more_value (Num n) h = tt
  more_value (Ptr r x) h = tt
  more_value (Code q) h = f q h
  more_value (Gp o) h = tt
  more_value (Half q) h = tt
  more_value (GpOff o t) h = more_target t o h

  more_cell : (c : Cell) → CellWithin P c → CellWithin Q c
  more_cell (Byte b) h = tt
  more_cell (Part v i n) h = more_value v h

  pub more_within : (s : SymState) → StateWithin P s → StateWithin Q s
  more_within s h = record { regs = λ r. more_value (s.regs r) (h.regs r); cells = λ r x. more_cell (s.cells r x) (h.cells r x) }

module _ (p : ProgramView) (g : GraphView) (whole : IsWhole p g) where
  abbrev pub c : Script
  c = graph_script p g

  pub within : InLabels g
  within = in_labels g whole.graph whole.form whole.places

  pub blocks_placed : Placed g.blocks
  blocks_placed = placed g whole.graph whole.form whole.places

  none : (b : Block) (w : Word) → Has g.blocks b → Has (block_words b) w → no_codes w.act
  none b w hb h = none_named g whole.codes b w hb h

  first : Has g.roots (entry_of g.roots)
  first = subst (λ (l : List Place). Has l (entry_of l)) (sym whole.roots) (inl refl)

  fields : (i : RegionInit) → HasInit p.regions i → (f : Field) → HasField i.fields f → ValueWithin (Has g.roots) f.value
  fields i h f k =
      within_value (Has g.roots) f.value
      (λ q m. subst (λ (l : List Place). Has l q) (sym whole.roots) (inr (in_regions p.regions i f q h k m)))

  abbrev pub Here : SymState → Type 0
  Here s = Stays g within whole.kept s

  pub stays_here : (input : List ℕ) (n : ℕ) → Here (sym_run c input n)
  stays_here input n =
      kept_law g within whole.kept p blocks_placed (jumps_last (IsInKeptSet g) g whole.form) none first fields input n

  -- ---- the kept set

  pub run_comes : (input : List ℕ) (n : ℕ) → Comes g (sym_run c input n).place
  run_comes input n = comes g within whole.kept blocks_placed p (jumps_last (IsInKeptSet g) g whole.form) none first fields input n

  label_is : (q : Place) → IsInKeptSet g q → IsKeptLabel g q
  label_is q k = by_place (whole.kept.label q k)
    where
      by_place : IsBlock g q ⊎ IsEnd g q → IsKeptLabel g q
      by_place (inl b) = inl (k, b)
      by_place (inr e) = inr e

  pub run_labels : (input : List ℕ) (n : ℕ) → StateWithin (IsKeptLabel g) (sym_run c input n)
  run_labels input n = more_within (IsInKeptSet g) (IsKeptLabel g) label_is (sym_run c input n) (stays_here input n).fine

  pub first_lands : (input : List ℕ) → StateWithin (IsKeptLanding g) (sym_start c input)
  first_lands = start_lands g within whole.kept p blocks_placed (jumps_last (IsInKeptSet g) g whole.form) none first fields

  pub act_lands : (s : SymState) (w : Word) → Here s → c.fetch s.place ≡ Some w → ActWithin (IsKeptLanding g) w.at w.act
  act_lands s w st f = word_lands g within whole.kept p blocks_placed (jumps_last (IsInKeptSet g) g whole.form) none s w f st

  pub run_lands : (input : List ℕ) (n : ℕ) → StateWithin (IsKeptLanding g) (sym_run c input n)
  run_lands input n =
      stay.codes_stay (IsKeptLanding g) c input (first_lands input) (λ m w f. act_lands (sym_run c input m) w (stays_here input m) f) n

  -- what a pass knows of a run
  pub here_keeps : Keeping c (IsKeptLanding g) Here
  here_keeps = stays_keeping g within whole.kept p blocks_placed (jumps_last (IsInKeptSet g) g whole.form) none first fields

  pub in_kept : (s : SymState) → Here s → InBlocks (λ l. IsInKeptSet g l) g.blocks s.place
  in_kept s st l e = subst (λ (o : Option Place). KeptOrEnd g o) e st.place

  pub known_there : (s : SymState) (w : Word) → Here s → c.fetch s.place ≡ Some w → ActWithin (IsKeptLanding g) w.at w.act × InBlocks (λ l. IsInKeptSet g l) g.blocks s.place
  known_there s w st f = (act_lands s w st f, in_kept s st)

  pub entry_label : IsLabel g.blocks c.entry
  entry_label = kept_label g within whole.kept c.entry (root c.entry first)

  lands_by : (b : Block) (w : Word) (q : Place) (a : Act) → w.act ≡ a → Has g.blocks b → IsInKeptSet g b.label → Has (block_words b) w → act_jumps (IsKeptLanding g) a q → IsLabel g.blocks q
  lands_by b w q (To op ra to) e hb k hw j = kept_label g within whole.kept q (named b w q hb k hw (subst (λ (a : Act). names a q) (sym e) j))
  lands_by b w q (Plain (Jumps kind ra rb hint)) e hb k hw j = by_place j.kept
    where
      by_place : IsBlock g q ⊎ IsEnd g q → IsLabel g.blocks q
      by_place (inl n) = inl n
      by_place (inr n) = inr (end_none g within q n)
  lands_by b w q (Plain i) e hb k hw j = absurd j
  lands_by b w q a e hb k hw j = absurd j

  -- a jump from a block of the kept set goes to a kept block, or to a text's end
  pub lands : Lands (IsKeptLanding g) (λ l. IsInKeptSet g l) g.blocks
  lands b bf w q hb k s j = lands_by b w q w.act refl hb k (has_split bf w [] (block_words b) s) j

  abbrev last : JumpsLast (IsKeptLanding g) g.blocks
  last = jumps_last (IsKeptLanding g) g whole.form

  -- ---- facts on r29

  module _ (facts : Place → Fact) (checked : GpChecked c facts g) where
    pub gp_flows : GpFlows c (IsKeptLanding g) (InBlocks (λ l. IsInKeptSet g l) g.blocks) (fact_at c facts g.blocks)
    gp_flows = record {
      entry = entered c facts g (λ l. IsInKeptSet g l) blocks_placed last lands checked entry_label;
      goes = checked_flows c facts g (λ l. IsInKeptSet g l) blocks_placed last lands checked;
    }

    -- what a pass that uses facts knows of a run
    abbrev pub KnownHere : SymState → Type 0
    KnownHere s = Known (IsKeptLanding g) (fact_at c facts g.blocks) s × Here s

    pub knowing : Keeping c (IsKeptLanding g) KnownHere
    knowing =
        known_keeping c (IsKeptLanding g) (InBlocks (λ l. IsInKeptSet g l) g.blocks) (fact_at c facts g.blocks) Here gp_flows here_keeps known_there first_lands

    pub knows : (s : SymState) → KnownHere s → StateWithin (IsKeptLanding g) s × Holds (told_at c facts g.blocks s.place) s
    knows s k = (k.0.fine, told_holds c facts g.blocks s.place s k.0.holds)

    pub told_hold : (input : List ℕ) (n : ℕ) → Holds (told_at c facts g.blocks (sym_run c input n).place) (sym_run c input n)
    told_hold input n =
        told_holds c facts g.blocks (sym_run c input n).place (sym_run c input n)
        (facts_hold_at p g facts (λ l. IsInKeptSet g l) blocks_placed last lands checked entry_label input (first_lands input)
        (λ m w f. known_there (sym_run c input m) w (stays_here input m) f) n).holds
