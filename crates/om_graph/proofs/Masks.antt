-- Masks that a check passes have each register that may be read.
use Rattle.std.proofs.Common.{◌≡◌, ◌<◌, ◌⊎◌, inl, inr, ℕ, Bool, true, false, ◌&&◌, ◌||◌, ◌==◌, List, [], ◌∷◌, Some, refl, sym, ap, ◌∙◌, subst, arith}
use Rattle.std.specs.Prelude.{not, nat_lt}
use Rattle.std.proofs.lemmas.Bool.{true≢false, eqb-true, eq-eqb, ltb-true, ltb-false}
use Rattle.om_value.specs.declared.value.Place.{Place}
use Rattle.om_prog.specs.Act.{Word, act_reads, act_writes}
use Rattle.om_prog.specs.Flow.{Among, act_jumps, GoesTo}
use Rattle.om_prog.specs.Facts.{has}
use Rattle.om_graph.specs.View.{Block, GraphView, Has}
use Rattle.om_graph.specs.Run.{block_words, next_word, all_words}
use Rattle.om_graph.specs.Checks.{live_in, reads_first, written_in, Enters, falls_in, jumps_in, MaskChecked, AreOuts}
use Rattle.om_graph.specs.Kept.{IsKeptLanding}
use Rattle.om_graph.proofs.Placed.{Placed, JumpsLast, Lands}
use Rattle.om_graph.proofs.Blocks.{InBlocks, value_at, EdgeTo, Edges, edges_of, next_has, Laws, come, flows_at, found_at}

pub has_among : (ws : List ℕ) (r : ℕ) → has ws r ≡ true → Among ws r
has_among [] r h = absurd (true≢false (sym h))
has_among (x ∷ ws) r h = by_case (x == r) refl h (has_among ws r)
  where
    by_case : (b : Bool) → (x == r) ≡ b → (b || has ws r) ≡ true → (has ws r ≡ true → Among ws r) → (x ≡ r) ⊎ Among ws r
    by_case true e h i = inl (eqb-true x r e)
    by_case false e h i = inr (i h)

pub among_true : (ws : List ℕ) (r : ℕ) → Among ws r → has ws r ≡ true
among_true [] r m = absurd m
among_true (x ∷ ws) r (inl e) = rw (eq-eqb x r e) refl
among_true (x ∷ ws) r (inr m) = rw (among_true ws r m) (or_true (x == r))
  where
    or_true : (b : Bool) → (b || true) ≡ true
    or_true true = refl
    or_true false = refl

-- a word before what may be read
pub read_before : (ws : List ℕ) (r : ℕ) (a d : Bool) → d ≡ true → Among ws r ⊎ ((a || (not (has ws r) && d)) ≡ true)
read_before ws r a d h = by_case (has ws r) refl
  where
    by_case : (b : Bool) → has ws r ≡ b → Among ws r ⊎ ((a || (not (has ws r) && d)) ≡ true)
    by_case true e = inl (has_among ws r e)
    by_case false e = inr (rw (e, h) (or_true a))
      where
        or_true : (b : Bool) → (b || true) ≡ true
        or_true true = refl
        or_true false = refl

module _ (masks outs : Place → ℕ → Bool) where
  abbrev pub Mask : Type 0
  Mask = ℕ → Bool

  abbrev pub mask_in : Block → List Word → List Word → Mask
  mask_in b bf ws = live_in ws (outs b.label)

  abbrev pub no_mask : Mask
  no_mask r = false

  -- the registers that may be read from a place on
  abbrev pub live_at : List Block → Place → Mask
  live_at bs p = value_at Mask mask_in no_mask bs p

  -- the registers cared for at a place: r31 always, which is never written
  abbrev pub cared_at : List Block → Place → Mask
  cared_at bs p r = not (nat_lt r 31) || live_at bs p r

  abbrev pub enter : Block → Mask
  enter b = masks b.label

  abbrev pub Flow : Word → Mask → Mask → Type 0
  Flow w x y = (r : ℕ) → r < 31 → y r ≡ true → Among (act_writes w.act) r ⊎ (x r ≡ true)

  abbrev pub Le : Mask → Mask → Type 0
  Le x y = (r : ℕ) → r < 31 → y r ≡ true → x r ≡ true

  pub laws : Laws Mask mask_in no_mask enter Flow Le
  laws = record {
    inner = λ b bf w x ws r l h. read_before (act_writes w.act) r (has (act_reads w.act) r) (live_in (x ∷ ws) (outs b.label) r) h;
    le_done = λ x r l h. absurd (true≢false (sym h));
    flow_done = λ w x r l h. absurd (true≢false (sym h));
    le_trans = λ x y z a b r l h. a r l (b r l h);
    flow_le = λ w x y z a b r l h. a r l (b r l h);
  }

  -- what is read by words that read it first, or else by what is read behind them
  live_by : (ws : List Word) (out : ℕ → Bool) (r : ℕ) → live_in ws out r ≡ true → (reads_first ws r ≡ true) ⊎ ((written_in ws r ≡ false) × (out r ≡ true))
  live_by [] out r h = inr (refl, h)
  live_by (w ∷ ws) out r h = by_case (has (act_reads w.act) r) (has (act_writes w.act) r) h (live_by ws out r)
    where
      by_case :
          (a b : Bool) → (a || (not b && live_in ws out r)) ≡ true →
          (live_in ws out r ≡ true → (reads_first ws r ≡ true) ⊎ ((written_in ws r ≡ false) × (out r ≡ true))) →
          ((a || (not b && reads_first ws r)) ≡ true) ⊎ (((b || written_in ws r) ≡ false) × (out r ≡ true))
      by_case true b h i = inl refl
      by_case false true h i = absurd (true≢false (sym h))
      by_case false false h i = i h

  module _ (g : GraphView) (checked : MaskChecked masks g) (are : AreOuts masks outs g) where
    -- a block's mask has what is read from its start on
    pub covered : (b : Block) → Has g.blocks b → (r : ℕ) → r < 31 → live_in (block_words b) (outs b.label) r ≡ true → masks b.label r ≡ true
    covered b hb r l h = by_live (live_by (block_words b) (outs b.label) r h)
      where
        by_out : written_in (block_words b) r ≡ false → (n : Block) × Enters g b n × (masks n.label r ≡ true) → masks b.label r ≡ true
        by_out u n = checked.enters b n.0 r n.1 l n.2 u

        by_live : (reads_first (block_words b) r ≡ true) ⊎ ((written_in (block_words b) r ≡ false) × (outs b.label r ≡ true)) → masks b.label r ≡ true
        by_live (inl x) = checked.reads b r hb l x
        by_live (inr x) = by_out x.0 (are.only b r hb l x.1)

    pub flow_out : (b : Block) (bf : List Word) (w : Word) (n : Block) → Enters g b n → Flow w (mask_in b bf (w ∷ [])) (enter n)
    flow_out b bf w n c r l h = read_before (act_writes w.act) r (has (act_reads w.act) r) (outs b.label r) (are.covers b n r c l h)

    edge : (b n : Block) → Has g.blocks b → Enters g b n → EdgeTo Mask mask_in no_mask enter Flow Le b n
    edge b n hb c = record {
      ends = λ bf w e. flow_out b bf w n c;
      empty = λ e r l h. covered b hb r l (subst (λ (ws : List Word). live_in ws (outs b.label) r ≡ true) (sym e) (are.covers b n r c l h));
    }

    pub edges : Edges Mask mask_in no_mask enter Flow Le g.blocks
    edges =
        edges_of Mask mask_in no_mask enter Flow Le g.blocks g.blocks (λ b h. h) (λ b n h. h)
        (λ b hb w ws e r l h. covered b hb r l (subst (λ (l : List Word). live_in l (outs b.label) r ≡ true) (sym e) h))
        (λ b n h o f. edge b n (next_has g.blocks b n h).0 (falls_in h o f))

  module _ (g : GraphView) (P : Place → Type 0) (placed : Placed g.blocks) (last : JumpsLast (IsKeptLanding g) g.blocks)
      (lands : Lands (IsKeptLanding g) P g.blocks) (checked : MaskChecked masks g) (are : AreOuts masks outs g) where
    abbrev K : Place → Type 0
    K = IsKeptLanding g

    abbrev bs : List Block
    bs = g.blocks

    pub masks_flow :
        (p : Place) (w : Word) (q : Place) (r : ℕ) → r < 31 → InBlocks P bs p → next_word (all_words bs) p ≡ Some w → GoesTo K w q → live_at bs q r ≡ true →
        Among (act_writes w.act) r ⊎ (live_at bs p r ≡ true)
    masks_flow p w q r l k e t h =
        flows_at Mask mask_in no_mask enter Flow Le laws K bs placed (edges g checked are) last P
        (λ b bf w q hb k s j.
        come Mask mask_in no_mask enter Flow Le laws bs w (mask_in b bf (w ∷ [])) q placed (edges g checked are) (lands b bf w q hb k s j)
        (λ n hn e. flow_out g checked are b bf w n (jumps_in w hb hn (bf, s) (subst (λ (x : Place). act_jumps K w.act x) (sym e) j))))
        p w q k e t r l h

    pub masks_read : (p : Place) (w : Word) (r : ℕ) → next_word (all_words bs) p ≡ Some w → Among (act_reads w.act) r → live_at bs p r ≡ true
    masks_read p w r e m =
        let f = found_at Mask mask_in no_mask enter Flow Le laws bs p w placed e in
        ap (λ (x : Mask). x r) f.here ∙ rw (among_true (act_reads w.act) r m) refl

    pub cared_flow :
        (p : Place) (w : Word) (q : Place) (r : ℕ) → InBlocks P bs p → next_word (all_words bs) p ≡ Some w → GoesTo K w q → cared_at bs q r ≡ true →
        Among (act_writes w.act) r ⊎ (cared_at bs p r ≡ true)
    cared_flow p w q r k e t h = by_low (nat_lt r 31) refl h
      where
        by_low : (b : Bool) → nat_lt r 31 ≡ b → (not b || live_at bs q r) ≡ true → Among (act_writes w.act) r ⊎ ((not b || live_at bs p r) ≡ true)
        by_low true l h = masks_flow p w q r (ltb-true r 31 l) k e t h
        by_low false l h = inr refl

    pub cared_read : (p : Place) (w : Word) (r : ℕ) → next_word (all_words bs) p ≡ Some w → Among (act_reads w.act) r → cared_at bs p r ≡ true
    cared_read p w r e m = by_low (nat_lt r 31)
      where
        by_low : (b : Bool) → (not b || live_at bs p r) ≡ true
        by_low true = masks_read p w r e m
        by_low false = refl

    -- what the masks leave out is r31, or not cared for
    pub dead_is : (p : Place) (r : ℕ) → r < 32 → live_at bs p r ≡ false → (r ≡ 31) ⊎ (cared_at bs p r ≡ false)
    dead_is p r l h = by_low (nat_lt r 31) refl
      where
        by_low : (b : Bool) → nat_lt r 31 ≡ b → (r ≡ 31) ⊎ ((not b || live_at bs p r) ≡ false)
        by_low true e = inr h
        by_low false e = let i = ltb-false r 31 e in inl (omega (arith, i, l))
