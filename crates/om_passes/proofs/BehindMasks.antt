-- What may be read where a word goes may be read behind it in its block, by masks that a check passes.
use Rattle.std.proofs.Common.{◌≡◌, ◌<◌, inl, inr, ℕ, Bool, true, false, cond, ◌&&◌, ◌||◌, List, [], ◌∷◌, ◌++◌, Option, Some, None, refl, sym, ap, ◌∙◌, subst}
use Rattle.std.specs.Prelude.{not}
use Rattle.std.proofs.lemmas.Bool.{true≢false}
use Rattle.om_value.specs.declared.value.Place.{Place}
use Rattle.om_prog.specs.Act.{Word, act_reads, act_writes}
use Rattle.om_prog.specs.Flow.{Among, act_jumps, GoesTo}
use Rattle.om_prog.specs.Facts.{has}
use Rattle.om_graph.specs.View.{Block, GraphView, Has}
use Rattle.om_graph.specs.Run.{block_words, next_word, all_words, from_place, rev_onto}
use Rattle.om_graph.specs.Form.{Ordered}
use Rattle.om_graph.specs.Checks.{live_in, Enters, falls_in, jumps_in, MaskChecked, AreOuts}
use Rattle.om_graph.specs.Kept.{IsKeptLanding}
use Rattle.om_graph.specs.Uses.{NoneWrites, IsLocalUse}
use Rattle.om_graph.proofs.Labels.{append_right}
use Rattle.om_graph.proofs.Kept.{has_split}
use Rattle.om_graph.proofs.Placed.{Placed, JumpsLast, Lands}
use Rattle.om_graph.proofs.Blocks.{InBlocks, value_in, value_at, EdgeTo, Edges, edges_of, next_has, Laws, come, flows_at, found_at}
use Rattle.om_graph.proofs.Masks.{live_at, mask_in, no_mask, covered, among_true, has_among}
use Rattle.om_graph.proofs.Ends.{after_apart}
use Rattle.om_graph.proofs.Ends.{one_block}

-- ---- a word stands once in words in order

split_once : (xs ys us vs : List Word) (d : Word) → Ordered (xs ++ d ∷ us) → xs ++ d ∷ us ≡ ys ++ d ∷ vs → us ≡ vs
split_once [] [] us vs d o e = cc
split_once [] (y ∷ ys) us vs d o e =
    let tail : us ≡ ys ++ d ∷ vs = cc in
    absurd (after_apart us d d o.0 (subst (λ (l : List Word). Has l d) (sym tail) (append_right ys (d ∷ vs) d (inl refl))) refl)
split_once (x ∷ xs) [] us vs d o e =
    let same : x ≡ d = cc in
    absurd (after_apart (xs ++ d ∷ us) x d o.0 (append_right xs (d ∷ us) d (inl refl)) (ap (λ (w : Word). w.at) (sym same)))
split_once (x ∷ xs) (y ∷ ys) us vs d o e = split_once xs ys us vs d o.1 (let tail : xs ++ d ∷ us ≡ ys ++ d ∷ vs = cc in tail)

-- words reversed onto others
record Reversed (bf : List Word) : Type 0 where
  front : List Word
  same : (vs : List Word) → rev_onto bf vs ≡ front ++ vs

reversed : (bf : List Word) → Reversed bf
reversed [] = record { front = []; same = λ vs. refl }
reversed (w ∷ bf) =
    let r = reversed bf in
    record { front = r.front ++ w ∷ []; same = λ vs. r.same (w ∷ vs) ∙ sym (assoc r.front w vs) }
  where
    assoc : (xs : List Word) (w : Word) (vs : List Word) → (xs ++ w ∷ []) ++ vs ≡ xs ++ w ∷ vs
    assoc [] w vs = refl
    assoc (x ∷ xs) w vs = ap (λ (l : List Word). x ∷ l) (assoc xs w vs)

-- what stands behind a word in its block
pub one_rest : (bs bf cf : List Word) (d : Word) (us vs : List Word) → Ordered bs → rev_onto bf (d ∷ us) ≡ bs → rev_onto cf (d ∷ vs) ≡ bs → us ≡ vs
one_rest bs bf cf d us vs o e f =
    let a = reversed bf in
    let b = reversed cf in
    let x = sym (a.same (d ∷ us)) ∙ e in
    let y = sym (b.same (d ∷ vs)) ∙ f in
    split_once a.front b.front us vs d (subst (λ (l : List Word). Ordered l) (sym x) o) (x ∙ sym y)

-- a local use reads what may be read behind its writer
use_live : (mid : List Word) (y : Word) (after : List Word) (out : ℕ → Bool) (r : ℕ) → NoneWrites r mid → Among (act_reads y.act) r → live_in (mid ++ y ∷ after) out r ≡ true
use_live [] y after out r n a = let h = among_true (act_reads y.act) r a in rw h refl
use_live (m ∷ mid) y after out r n a =
    let i = use_live mid y after out r (λ w h. n w (inr h)) a in
    by_write (has (act_reads m.act) r) (has (act_writes m.act) r) refl i
  where
    by_write : (s t : Bool) → has (act_writes m.act) r ≡ t → live_in (mid ++ y ∷ after) out r ≡ true → (s || (not t && live_in (mid ++ y ∷ after) out r)) ≡ true
    by_write true t e i = refl
    by_write false true e i = absurd (n m (inl refl) (has_among (act_writes m.act) r e))
    by_write false false e i = i

pub local_live : (bs bf : List Word) (d : Word) (ws : List Word) (y : Word) (r : ℕ) (out : ℕ → Bool) → Ordered bs → rev_onto bf (d ∷ ws) ≡ bs → IsLocalUse bs d y r → live_in ws out r ≡ true
local_live bs bf d ws y r out o e l =
    let s = l.stands in
    let a = reversed bf in
    let x = sym (a.same (d ∷ ws)) ∙ e in
    let front : bs ≡ s.0 ++ d ∷ (l.mid ++ y ∷ s.1) = s.2 ∙ regroup s.0 d l.mid (y ∷ s.1) in
    let rest = split_once a.front s.0 ws (l.mid ++ y ∷ s.1) d (subst (λ (l : List Word). Ordered l) (sym x) o) (x ∙ front) in
    subst (λ (l : List Word). live_in l out r ≡ true) (sym rest) (use_live l.mid y s.1 out r l.unwritten l.reads)
  where
    regroup : (xs : List Word) (d : Word) (mid zs : List Word) → (xs ++ d ∷ mid) ++ zs ≡ xs ++ d ∷ (mid ++ zs)
    regroup [] d mid zs = refl
    regroup (x ∷ xs) d mid zs = ap (λ (l : List Word). x ∷ l) (regroup xs d mid zs)

-- ---- masks in front of words and behind them

module _ (masks outs : Place → ℕ → Bool) where
  abbrev Both : Type 0
  Both = (ℕ → Bool) × (ℕ → Bool)

  abbrev both_in : Block → List Word → List Word → Both
  both_in b bf [] = (outs b.label, outs b.label)
  both_in b bf (w ∷ ws) = (live_in (w ∷ ws) (outs b.label), live_in ws (outs b.label))

  abbrev neither : Both
  neither = (λ r. false, λ r. false)

  abbrev enter : Block → Both
  enter b = (masks b.label, λ r. false)

  abbrev Flow : Word → Both → Both → Type 0
  Flow w x y = (r : ℕ) → r < 31 → y.0 r ≡ true → x.1 r ≡ true

  abbrev Le : Both → Both → Type 0
  Le x y = (r : ℕ) → r < 31 → y.0 r ≡ true → x.0 r ≡ true

  laws : Laws Both both_in neither enter Flow Le
  laws = record {
    inner = λ b bf w x ws r l h. h;
    le_done = λ x r l h. absurd (true≢false (sym h));
    flow_done = λ w x r l h. absurd (true≢false (sym h));
    le_trans = λ x y z a b r l h. a r l (b r l h);
    flow_le = λ w x y z a b r l h. a r l (b r l h);
  }

  abbrev first_of : Option Both → Option (ℕ → Bool)
  first_of None = None
  first_of (Some x) = Some x.0

  -- the first is the mask in front
  front_in : (b : Block) (bf ws : List Word) (p : Place) (o : Option Both) → value_in Both both_in neither b bf ws p ≡ o → value_in (ℕ → Bool) (mask_in masks outs) (no_mask masks outs) b bf ws p ≡ first_of o
  front_in b bf [] p o e = ap first_of e
  front_in b bf (w ∷ ws) p o e = by_place (from_place p w) e (front_in b (w ∷ bf) ws p)
    where
      by_place :
          (t : Bool) → cond t (Some (both_in b bf (w ∷ ws))) (value_in Both both_in neither b (w ∷ bf) ws p) ≡ o →
          ((o : Option Both) → value_in Both both_in neither b (w ∷ bf) ws p ≡ o → value_in (ℕ → Bool) (mask_in masks outs) (no_mask masks outs) b (w ∷ bf) ws p ≡ first_of o) →
          cond t (Some (mask_in masks outs b bf (w ∷ ws))) (value_in (ℕ → Bool) (mask_in masks outs) (no_mask masks outs) b (w ∷ bf) ws p) ≡ first_of o
      by_place true e i = ap first_of e
      by_place false e i = i o e

  front_at : (bs : List Block) (p : Place) → live_at masks outs bs p ≡ (value_at Both both_in neither bs p).0
  front_at [] p = refl
  front_at (b ∷ bs) p = by_in (value_in Both both_in neither b [] (block_words b) p) refl (front_at bs p)
    where
      by_in :
          (o : Option Both) → value_in Both both_in neither b [] (block_words b) p ≡ o → live_at masks outs bs p ≡ (value_at Both both_in neither bs p).0 →
          live_at masks outs (b ∷ bs) p ≡ (value_at Both both_in neither (b ∷ bs) p).0
      by_in None e i = let f = front_in b [] (block_words b) p None e in rw (f, e) i
      by_in (Some x) e i = let f = front_in b [] (block_words b) p (Some x) e in rw (f, e) refl

  module _ (g : GraphView) (checked : MaskChecked masks g) (are : AreOuts masks outs g) where
    flow_out : (b : Block) (bf : List Word) (w : Word) (n : Block) → Enters g b n → Flow w (both_in b bf (w ∷ [])) (enter n)
    flow_out b bf w n c r l h = are.covers b n r c l h

    edge : (b n : Block) → Has g.blocks b → Enters g b n → EdgeTo Both both_in neither enter Flow Le b n
    edge b n hb c = record {
      ends = λ bf w e. flow_out b bf w n c;
      empty = λ e r l h. covered masks outs g checked are b hb r l (subst (λ (ws : List Word). live_in ws (outs b.label) r ≡ true) (sym e) (are.covers b n r c l h));
    }

    edges : Edges Both both_in neither enter Flow Le g.blocks
    edges =
        edges_of Both both_in neither enter Flow Le g.blocks g.blocks (λ b h. h) (λ b n h. h)
        (λ b hb w ws e r l h. covered masks outs g checked are b hb r l (subst (λ (l : List Word). live_in l (outs b.label) r ≡ true) (sym e) h))
        (λ b n h o f. edge b n (next_has g.blocks b n h).0 (falls_in h o f))

  module _ (g : GraphView) (P : Place → Type 0) (placed : Placed g.blocks) (last : JumpsLast (IsKeptLanding g) g.blocks)
      (lands : Lands (IsKeptLanding g) P g.blocks) (checked : MaskChecked masks g) (are : AreOuts masks outs g) (ordered : Ordered (all_words g.blocks)) where
    abbrev K : Place → Type 0
    K = IsKeptLanding g

    abbrev bs : List Block
    bs = g.blocks

    -- where a word goes nothing is read that may not be read behind it
    pub behind_live :
        (p : Place) (w : Word) (q : Place) (b : Block) (bf ws : List Word) (r : ℕ) → r < 31 → InBlocks P bs p → next_word (all_words bs) p ≡ Some w → GoesTo K w q →
        Has bs b → Ordered (block_words b) → rev_onto bf (w ∷ ws) ≡ block_words b → live_at masks outs bs q r ≡ true → live_in ws (outs b.label) r ≡ true
    behind_live p w q b bf ws r l k e t hb o s h =
        let f = flows_at Both both_in neither enter Flow Le laws K bs placed (edges g checked are) last P
        (λ b bf w q hb k s j.
        come Both both_in neither enter Flow Le laws bs w (both_in b bf (w ∷ [])) q placed (edges g checked are) (lands b bf w q hb k s j)
        (λ n hn e. flow_out g checked are b bf w n (jumps_in w hb hn (bf, s) (subst (λ (x : Place). act_jumps K w.act x) (sym e) j))))
        p w q k e t r l (ap (λ (x : ℕ → Bool). x r) (sym (front_at bs q)) ∙ h) in
        let x = found_at Both both_in neither enter Flow Le laws bs p w placed e in
        let here = has_split x.before w x.rest (block_words x.block) x.splits in
        let same = one_block bs x.block b w ordered x.among hb here (has_split bf w ws (block_words b) s) in
        let rest : x.rest ≡ ws = one_rest (block_words b) x.before bf w x.rest ws o (x.splits ∙ ap block_words same) s in
        subst (λ (l : List Word). live_in l (outs b.label) r ≡ true) rest
        (subst (λ (c : Block). live_in x.rest (outs c.label) r ≡ true) same (ap (λ (y : Both). y.1 r) (sym x.here) ∙ f))
