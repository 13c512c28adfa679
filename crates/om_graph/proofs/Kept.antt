-- A run stays in the kept set, and its codes are places of it.
use Rattle.std.proofs.Common.{◌≡◌, ◌⊎◌, ◌<◌, ◌≤◌, inl, inr, ℕ, zero, suc, Bool, true, false, cond, ◌==◌, List, [], ◌∷◌, Option, Some, None, refl, sym, ap, ◌∙◌, subst, arith}
use Rattle.std.proofs.lemmas.Bool.{true≢false, eqb-true, eq-eqb}
use Rattle.om_isa.specs.declared.instr.BrOp.TheVariants.{Br, Bsr, If}
use Rattle.om_isa.specs.declared.instr.Instr.TheVariants.{Jump as Jumps}
use Rattle.om_value.specs.declared.value.Place.{Place}
use Rattle.om_value.specs.declared.value.Target.{Target}
use Rattle.om_prog.specs.Act.{Act, Plain, Lit, To, AddrLda, UseLo, UseGp, Wrong, Word, Script}
use Rattle.om_prog.specs.Step.{SymState, SymEnd, write_reg, next_place, act_effect, after}
use Rattle.om_prog.specs.Runs.{sym_run, sym_start, sym_step, step_if, step_word, start_regs}
use Rattle.om_prog.specs.Flow.{effect_ends, effect_place, act_jumps, GoesTo}
use Rattle.om_prog.specs.Within.{ActWithin, StateWithin, LinkWithin, TargetWithin, ValueWithin}
use Rattle.om_value.specs.declared.value.Region.TheVariants.{Stack}
use Rattle.om_value.specs.declared.value.Value.{Value}
use Rattle.om_value.specs.declared.value.Value.TheVariants.{Num, Ptr, Code, Gp, Half, GpOff}
use Rattle.om_prog.specs.declared.item.Field.{Field}
use Rattle.om_prog.specs.View.{ProgramView}
use Rattle.om_prog.specs.declared.region.RegionInit.{RegionInit}
use Rattle.om_prog.proofs.Initial.{HasInit, HasField, initial_within}
use Rattle.om_prog.proofs.Codes.{act_within}
use Rattle.om_prog.proofs.Goes.{after_within, after_went, after_stays, act_leads}
use Rattle.om_graph.specs.View.{Block, GraphView, Has, InPlaceOrder}
use Rattle.om_graph.specs.Run.{block_words, next_word, entry_of, graph_script, all_words, rev_onto}
use Rattle.om_graph.specs.Kept.{IsInKeptSet, root, fall, named, behind, FallsOn, names, Links, IsEnd, IsBlock, KeptInBlocks, loads, by_root, by_load, by_link, IsKeptLanding}
use Rattle.om_graph.specs.Pass.{Keeping}
use Rattle.om_graph.specs.Checks.{Next}
use Rattle.om_graph.specs.Held.{label_list}
use Rattle.om_graph.specs.Form.{IsNoCode}
use Rattle.om_graph.proofs.Placed.{Placed, JumpsLast, IsLabel}
use Rattle.om_graph.proofs.Places.{InLabels, end_none, no_codes}
use Rattle.om_graph.proofs.Labels.{Least, least_after, is_true, true_is, has_label, lt_off, equal_places}
use Rattle.om_graph.proofs.Blocks.{value_at, EdgeTo, Edges, edges_of, next_has, Laws, flows_at, found_at, come}
use Rattle.om_value.specs.declared.value.Target.TheVariants as target

-- a place is in a block of the kept set, or no word follows it in its text
abbrev pub KeptOrEnd : GraphView → Option Place → Type 0
KeptOrEnd g None = Unit {0}
KeptOrEnd g (Some l) = IsInKeptSet g l

pub has_split : (bf : List Word) (w : Word) (ws all : List Word) → rev_onto bf (w ∷ ws) ≡ all → Has all w
has_split bf w ws all e = subst (λ (l : List Word). Has l w) e (split bf (w ∷ ws) (inl refl))
  where
    split : (bf ws : List Word) → Has ws w → Has (rev_onto bf ws) w
    split [] ws h = h
    split (x ∷ bf) ws h = split bf (x ∷ ws) (inr h)

-- ---- the next block in the lifted graph is the next kept one

next_later : (bs : List Block) (b n : Block) → InPlaceOrder (label_list bs) → Next bs b n → n.label.obj ≡ b.label.obj → b.label.off < n.label.off
next_later [] b n o h e = absurd h
next_later (c ∷ []) b n o h e = absurd h
next_later (c ∷ d ∷ bs) b n o (inl h) e =
    subst (λ (x : Block). n.label.obj ≡ x.label.obj → x.label.off < n.label.off) h.0
    (λ i. lt_off c.label n.label (o.0 n.label (inl (ap (λ (x : Block). x.label) h.1))) i) e
next_later (c ∷ d ∷ bs) b n o (inr h) e = next_later (d ∷ bs) b n o.1 h e

next_least :
    (bs : List Block) (b n x : Block) → InPlaceOrder (label_list bs) → Next bs b n → Has bs x → n.label.obj ≡ b.label.obj → x.label.obj ≡ b.label.obj → b.label.off < x.label.off →
    n.label.off ≤ x.label.off
next_least [] b n x o h m e f l = absurd h
next_least (c ∷ []) b n x o h m e f l = absurd h
next_least (c ∷ d ∷ bs) b n x o (inl h) (inl m) e f l = let i = ap (λ (y : Block). y.label.off) (sym h.0 ∙ m) in absurd (omega (arith, i, l))
next_least (c ∷ d ∷ bs) b n x o (inl h) (inr (inl m)) e f l = let i = ap (λ (y : Block). y.label.off) (sym h.1 ∙ m) in omega (arith, i)
next_least (c ∷ d ∷ bs) b n x o (inl h) (inr (inr m)) e f l =
    let i = ap (λ (y : Block). y.label.off) h.1 in
    let j = ap (λ (y : Block). y.label.obj) h.1 in
    let k = lt_off d.label x.label (o.1.0 x.label (has_label bs x m)) (f ∙ sym e ∙ sym j) in
    omega (arith, i, k)
next_least (c ∷ d ∷ bs) b n x o (inr h) (inl m) e f l =
    let i = ap (λ (y : Block). y.label.off) m in
    let j = ap (λ (y : Block). y.label.obj) m in
    let k = lt_off c.label b.label (o.0 b.label (has_label (d ∷ bs) b (next_has (d ∷ bs) b n h).0)) (sym f ∙ sym j) in
    absurd (omega (arith, i, k, l))
next_least (c ∷ d ∷ bs) b n x o (inr h) (inr m) e f l = next_least (d ∷ bs) b n x o.1 h m e f l

module _ (g : GraphView) (within : InLabels g) (kept : KeptInBlocks g) where
  falls_kept : (b n : Block) → Next g.blocks b n → n.label.obj ≡ b.label.obj → FallsOn b.last → IsInKeptSet g b.label → IsInKeptSet g n.label
  falls_kept b n h o f k =
      let has = next_has g.blocks b n h in
      let later = next_later g.blocks b n within.blocks h o in
      let l = least_after g.labels b.label n.label within.labels (within.among n has.1) (true_is b.label n.label o later) in
      let q = fall b l.at has.0 k f l.found in
      by_label l q (kept.label l.at q)
    where
      by_label : (l : Least g.labels b.label n.label) → IsInKeptSet g l.at → IsBlock g l.at ⊎ IsEnd g l.at → IsInKeptSet g n.label
      by_label l q (inr e) =
          let i = within.inside l.at l.among in
          let j = e.off in
          absurd (omega (arith, i, j))
      by_label l q (inl m) =
          let v = is_true b.label l.at l.past in
          let v1 = v.1 in
          let x = ap (λ (y : Place). y.obj) m.2 in
          let y = ap (λ (y : Place). y.off) m.2 in
          let least = l.least in
          let a = next_least g.blocks b n m.0 within.blocks h m.1 o (x ∙ v.0) (omega (arith, y, v1)) in
          subst (λ (y : Place). IsInKeptSet g y) (equal_places l.at n.label (v.0 ∙ sym o) (omega (arith, y, least, a))) q

  pub kept_label : (q : Place) → IsInKeptSet g q → IsLabel g.blocks q
  kept_label q k = by_place (kept.label q k)
    where
      by_place : IsBlock g q ⊎ IsEnd g q → IsLabel g.blocks q
      by_place (inl n) = inl n
      by_place (inr e) = inr (end_none g within q e)

module _ (g : GraphView) (within : InLabels g) (kept : KeptInBlocks g) where
  abbrev pub K : Place → Type 0
  K = IsInKeptSet g

  abbrev pub label_in : Block → List Word → List Word → Option Place
  label_in b bf ws = Some b.label

  abbrev pub label_enter : Block → Option Place
  label_enter b = Some b.label

  -- the label of the block that holds the next word from a place on
  abbrev pub label_at : Place → Option Place
  label_at p = value_at (Option Place) label_in None g.blocks p

  abbrev pub Le : Option Place → Option Place → Type 0
  Le x y = KeptOrEnd g x → KeptOrEnd g y

  abbrev pub Flow : Word → Option Place → Option Place → Type 0
  Flow w x y = Le x y

  pub laws : Laws (Option Place) label_in None label_enter Flow Le
  laws = record {
    inner = λ b bf w x ws h. h;
    le_done = λ x h. tt;
    flow_done = λ w x h. tt;
    le_trans = λ x y z a b h. b (a h);
    flow_le = λ w x y z a b h. b (a h);
  }

  edge_to : (b n : Block) → (IsInKeptSet g b.label → IsInKeptSet g n.label) → EdgeTo (Option Place) label_in None label_enter Flow Le b n
  edge_to b n f = record { ends = λ bf w e. f; empty = λ e. f }

  edges : Edges (Option Place) label_in None label_enter Flow Le g.blocks
  edges =
      edges_of (Option Place) label_in None label_enter Flow Le g.blocks g.blocks (λ b h. h) (λ b n h. h) (λ b hb w ws e h. h)
      (λ b n h o f. edge_to b n (falls_kept g within kept b n h o f))

  -- where a word of a kept block jumps is kept
  pub jumps_kept : (b : Block) (w : Word) (q : Place) (a : Act) → w.act ≡ a → Has g.blocks b → IsInKeptSet g b.label → Has (block_words b) w → act_jumps K a q → IsInKeptSet g q
  jumps_kept b w q (To op ra to) e hb k hw j = named b w q hb k hw (subst (λ (a : Act). names a q) (sym e) j)
  jumps_kept b w q (Plain (Jumps kind ra rb hint)) e hb k hw j = j
  jumps_kept b w q a e hb k hw j = absurd j

  link_within : (ra : ℕ) (at : Place) → ((ra ≡ 31 → ⊥) → K (next_place at)) → LinkWithin K ra at
  link_within ra at h = by_case (ra == 31) refl
    where
      by_case : (t : Bool) → (ra == 31) ≡ t → LinkWithin K ra at
      by_case true e = inl (eqb-true ra 31 e)
      by_case false e = inr (h (λ i. true≢false (sym (eq-eqb ra 31 i) ∙ e)))

  target_within : (t : Target) → IsNoCode t → TargetWithin K t
  target_within (target.Num n) h = tt
  target_within (target.Ptr r x) h = tt
  target_within (target.Code q) h = absurd h

  -- the words of a block of the kept set bring in places of it alone
  act_kept : (b : Block) (w : Word) (a : Act) → w.act ≡ a → Has g.blocks b → IsInKeptSet g b.label → Has (block_words b) w → no_codes a → ActWithin K w.at a
  act_kept b w (Plain (Jumps kind ra rb hint)) e hb k hw n = link_within ra w.at (λ l. behind b w hb k hw (subst (λ (a : Act). Links a) (sym e) l))
  act_kept b w (To Br ra to) e hb k hw n = link_within ra w.at (λ l. behind b w hb k hw (subst (λ (a : Act). Links a) (sym e) l))
  act_kept b w (To Bsr ra to) e hb k hw n = link_within ra w.at (λ l. behind b w hb k hw (subst (λ (a : Act). Links a) (sym e) l))
  act_kept b w (To (If c) ra to) e hb k hw n = tt
  act_kept b w (Lit ra rb (target.Code q)) e hb k hw n = named b w q hb k hw (subst (λ (a : Act). names a q) (sym e) refl)
  act_kept b w (Lit ra rb (target.Num x)) e hb k hw n = tt
  act_kept b w (Lit ra rb (target.Ptr r x)) e hb k hw n = tt
  act_kept b w (AddrLda ra rb t) e hb k hw n = target_within t n
  act_kept b w (UseLo i hi t) e hb k hw n = target_within t n
  act_kept b w (UseGp i gp t) e hb k hw n = target_within t n
  act_kept b w a e hb k hw n = tt

  -- and kept landing places
  abbrev pub Landing : Place → Type 0
  Landing = IsKeptLanding g

  link_lands : (b : Block) (w : Word) (ra : ℕ) → Has g.blocks b → IsInKeptSet g b.label → Has (block_words b) w → ((ra ≡ 31 → ⊥) → Links w.act) → LinkWithin Landing ra w.at
  link_lands b w ra hb k hw l = by_case (ra == 31) refl
    where
      at_link : Links w.act → Landing (next_place w.at)
      at_link m = record { named = by_link b w hb hw m refl; kept = kept.label (next_place w.at) (behind b w hb k hw m) }

      by_case : (t : Bool) → (ra == 31) ≡ t → LinkWithin Landing ra w.at
      by_case true e = inl (eqb-true ra 31 e)
      by_case false e = inr (at_link (l (λ i. true≢false (sym (eq-eqb ra 31 i) ∙ e))))

  target_lands : (t : Target) → IsNoCode t → TargetWithin Landing t
  target_lands (target.Num n) h = tt
  target_lands (target.Ptr r x) h = tt
  target_lands (target.Code q) h = absurd h

  act_lands : (b : Block) (w : Word) (a : Act) → w.act ≡ a → Has g.blocks b → IsInKeptSet g b.label → Has (block_words b) w → no_codes a → ActWithin Landing w.at a
  act_lands b w (Plain (Jumps kind ra rb hint)) e hb k hw n = link_lands b w ra hb k hw (λ l. subst (λ (a : Act). Links a) (sym e) l)
  act_lands b w (To Br ra to) e hb k hw n = link_lands b w ra hb k hw (λ l. subst (λ (a : Act). Links a) (sym e) l)
  act_lands b w (To Bsr ra to) e hb k hw n = link_lands b w ra hb k hw (λ l. subst (λ (a : Act). Links a) (sym e) l)
  act_lands b w (To (If c) ra to) e hb k hw n = tt
  act_lands b w (Lit ra rb (target.Code q)) e hb k hw n = record {
    named = by_load b w hb hw (subst (λ (a : Act). loads a q) (sym e) refl);
    kept = kept.label q (named b w q hb k hw (subst (λ (a : Act). names a q) (sym e) refl));
  }
  act_lands b w (Lit ra rb (target.Num x)) e hb k hw n = tt
  act_lands b w (Lit ra rb (target.Ptr r x)) e hb k hw n = tt
  act_lands b w (AddrLda ra rb t) e hb k hw n = target_lands t n
  act_lands b w (UseLo i hi t) e hb k hw n = target_lands t n
  act_lands b w (UseGp i gp t) e hb k hw n = target_lands t n
  act_lands b w a e hb k hw n = tt

  -- ---- the run

  -- the place is in a block of the kept set, or at a text's end; each code is a place of the kept set
  pub record Stays (s : SymState) : Type 0 where
    pub place : KeptOrEnd g (label_at s.place)
    pub fine : StateWithin K s

  module _ (p : ProgramView) (placed : Placed g.blocks) (last : JumpsLast K g.blocks)
      (plain : (b : Block) (w : Word) → Has g.blocks b → Has (block_words b) w → no_codes w.act) where
    abbrev c : Script
    c = graph_script p g

    flows : (q : Place) (w : Word) (r : Place) → next_word (all_words g.blocks) q ≡ Some w → GoesTo K w r → Le (label_at q) (label_at r)
    flows q w r e g' =
        flows_at (Option Place) label_in None label_enter Flow Le laws K g.blocks placed edges last (λ l. Unit {0})
        (λ b bf w q hb u s j k.
        let kq = jumps_kept b w q w.act refl hb k (has_split bf w [] (block_words b) s) j in
        come (Option Place) label_in None label_enter Flow Le laws g.blocks w (Some b.label) q placed edges (kept_label g within kept q kq)
        (λ n hn e k'. subst (λ (x : Place). IsInKeptSet g x) (sym e) kq) k)
        q w r (λ l i. tt) e g'

    word_within : (s : SymState) (w : Word) → next_word (all_words g.blocks) s.place ≡ Some w → Stays s → ActWithin K w.at w.act
    word_within s w e st =
        let f = found_at (Option Place) label_in None label_enter Flow Le laws g.blocks s.place w placed e in
        let k = subst (λ (o : Option Place). KeptOrEnd g o) f.here st.place in
        let hw = has_split f.before w f.rest (block_words f.block) f.splits in
        act_kept f.block w w.act refl f.among k hw (plain f.block w f.among hw)

    -- the words that a run reaches bring in kept landing places alone
    pub word_lands : (s : SymState) (w : Word) → next_word (all_words g.blocks) s.place ≡ Some w → Stays s → ActWithin Landing w.at w.act
    word_lands s w e st =
        let f = found_at (Option Place) label_in None label_enter Flow Le laws g.blocks s.place w placed e in
        let k = subst (λ (o : Option Place). KeptOrEnd g o) f.here st.place in
        let hw = has_split f.before w f.rest (block_words f.block) f.splits in
        act_lands f.block w w.act refl f.among k hw (plain f.block w f.among hw)

    place_after : (s : SymState) (w : Word) (b : Bool) → next_word (all_words g.blocks) s.place ≡ Some w → Stays s → effect_ends (act_effect c s w.at w.act) ≡ b →
        KeptOrEnd g (label_at (after s w.at (act_effect c s w.at w.act)).place)
    place_after s w true e st h =
        let x = act_effect c s w.at w.act in
        subst (λ (q : Place). KeptOrEnd g (label_at q)) (sym (after_stays s w.at x h)) st.place
    place_after s w false e st h =
        let x = act_effect c s w.at w.act in
        let to = act_leads w.at c s K st.fine w.act h in
        subst (λ (q : Place). KeptOrEnd g (label_at q)) (sym (after_went s w.at x h).place) (flows s.place w (effect_place w.at x) e to st.place)

    stays_word : (s : SymState) (o : Option Word) → next_word (all_words g.blocks) s.place ≡ o → Stays s → Stays (step_word c s o)
    stays_word s None e st = record { place = st.place; fine = record { regs = st.fine.regs; cells = st.fine.cells } }
    stays_word s (Some w) e st = record {
      place = place_after s w _ e st refl;
      fine = after_within K s st.fine w.at (act_effect c s w.at w.act) (act_within K c s st.fine w.at w.act (word_within s w e st));
    }

    stays_step : (s : SymState) (o : Option SymEnd) → Stays s → Stays (step_if o c s)
    stays_step s None st = stays_word s _ refl st
    stays_step s (Some e) st = st

    pub stays : (input : List ℕ) → Stays (sym_start c input) → (n : ℕ) → Stays (sym_run c input n)
    unfolding sym_run sym_step
    stays input st zero = st
    stays input st (suc n) = stays_step (sym_run c input n) (sym_run c input n).ended (stays input st n)

    -- ---- the start

    wider : (v : Value) → ValueWithin (Has g.roots) v → ValueWithin K v
    wider (Num n) f = tt
    wider (Ptr r x) f = tt
    wider (Code q) f = root q f
    wider (Gp o) f = tt
    wider (Half q) f = tt
    wider (GpOff o (target.Code q)) f = root q f
    wider (GpOff o (target.Num n)) f = tt
    wider (GpOff o (target.Ptr r x)) f = tt

    root_lands : (q : Place) → Has g.roots q → Landing q
    root_lands q f = record { named = by_root f; kept = kept.label q (root q f) }

    widely : (v : Value) → ValueWithin (Has g.roots) v → ValueWithin Landing v
    widely (Num n) f = tt
    widely (Ptr r x) f = tt
    widely (Code q) f = root_lands q f
    widely (Gp o) f = tt
    widely (Half q) f = tt
    widely (GpOff o (target.Code q)) f = root_lands q f
    widely (GpOff o (target.Num n)) f = tt
    widely (GpOff o (target.Ptr r x)) f = tt

    chosen : (P : Place → Type 0) (b : Bool) (v w : Value) → ValueWithin P v → ValueWithin P w → ValueWithin P (cond b v w)
    chosen P true v w f h = f
    chosen P false v w f h = h

    module _ (first : Has g.roots (entry_of g.roots))
        (fields : (i : RegionInit) → HasInit p.regions i → (f : Field) → HasField i.fields f → ValueWithin (Has g.roots) f.value) where
      start_regs_fine : (P : Place → Type 0) → P c.entry → (r : ℕ) → ValueWithin P (start_regs c r)
      start_regs_fine P entry r =
          chosen P _ (Ptr Stack 1048512) (write_reg (write_reg (λ r. Num 0) 27 (Code c.entry)) 29 (Gp (c.table c.entry.obj)) r) tt
          (chosen P _ (Gp (c.table c.entry.obj)) (write_reg (λ r. Num 0) 27 (Code c.entry) r) tt
          (chosen P _ (Code c.entry) (Num 0) entry tt))

      start_stays : (input : List ℕ) → Stays (sym_start c input)
      unfolding sym_start
      start_stays input = record {
        place =
            come (Option Place) label_in None label_enter Flow Le laws g.blocks (record { at = c.entry; act = Wrong }) (Some c.entry) c.entry placed edges
            (kept_label g within kept c.entry (root c.entry first)) (λ n hn e k. subst (λ (x : Place). IsInKeptSet g x) (sym e) k) (root c.entry first);
        fine = record {
          regs = start_regs_fine K (root c.entry first);
          cells = initial_within K c.table p (λ i hi f hf. wider f.value (fields i hi f hf));
        };
      }

      -- at each n the place is in a block of the kept set or at a text's end, and each code is a place of the kept set
      pub kept_law : (input : List ℕ) (n : ℕ) → Stays (sym_run c input n)
      kept_law input n = stays input (start_stays input) n

      -- the same of kept landing places, for what is known of walks
      pub start_lands : (input : List ℕ) → StateWithin Landing (sym_start c input)
      unfolding sym_start
      start_lands input = record {
        regs = start_regs_fine Landing (root_lands c.entry first);
        cells = initial_within Landing c.table p (λ i hi f hf. widely f.value (fields i hi f hf));
      }

      pub stays_keeping : Keeping c Landing Stays
      stays_keeping = record { starts = start_stays; steps = λ s w fs st f. stays_word s (Some w) f st }
