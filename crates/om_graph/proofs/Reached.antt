-- Where a walk over blocks comes to a block, a walk over words comes to its words.
use Rattle.std.proofs.Common.{◌≡◌, ◌⊎◌, inl, inr, ◌≤◌, ◌+◌, Bool, true, false, List, [], ◌∷◌, Option, Some, None, refl, sym, ap, ◌∙◌, subst, arith}
use Rattle.std.specs.Prelude.{map}
use Rattle.std.proofs.lemmas.Bool.{true≢false}
use Rattle.om_isa.specs.declared.instr.BrOp.TheVariants.{Br as Straight, Bsr, If}
use Rattle.om_isa.specs.declared.instr.Instr.{Instr}
use Rattle.om_isa.specs.declared.instr.Instr.TheVariants.{Mem, Jump as Jumps, Branch, Alu, Cmov, Misc, Fnop, Halt, Callsys}
use Rattle.om_value.specs.declared.value.Place.{Place}
use Rattle.om_value.specs.declared.value.Target.{Target}
use Rattle.om_prog.specs.Act.{Word, Script}
use Rattle.om_prog.specs.Step.{next_place}
use Rattle.om_prog.specs.Flow.{plain_falls, act_falls, act_jumps}
use Rattle.om_prog.specs.Facts.{Fact, changed_by}
use Rattle.om_graph.specs.declared.op.Op.{Op}
use Rattle.om_graph.specs.declared.op.OpKind.{OpKind}
use Rattle.om_graph.specs.declared.op.OpKind.TheVariants as op
use Rattle.om_graph.specs.declared.op.Last.{Last}
use Rattle.om_graph.specs.declared.op.Last.TheVariants.{Fall, Off, Br, Cond, Call, CallBy, JumpBy}
use Rattle.om_graph.specs.View.{Block, GraphView, Has, InPlaceOrder, place_lt, ops_of}
use Rattle.om_graph.specs.Held.{IsGraph, label_list}
use Rattle.om_graph.specs.Run.{block_words, all_words, words, from_place, next_word, rev_onto, op_act, op_word, use_of, target_at, last_words, cond_act}
use Rattle.om_graph.specs.Form.{InForm, InPlace, OpForm, LastForm, Ordered}
use Rattle.om_graph.specs.Kept.{FallsOn, IsKeptLanding}
use Rattle.om_graph.specs.Checks.{Next, falls_in, jumps_in, onward, ReachesBlock, at_entry, enters_next}
use Rattle.om_graph.specs.Walks.{Arrives, starts, goes_on, Reaches}
use Rattle.om_graph.proofs.Placed.{FromLabel, BeforeLabel, BeforeBlocks, Placed}
use Rattle.om_graph.proofs.Labels.{lt_off, has_label, has_append, has_in, in_all}
use Rattle.om_graph.proofs.Fetching.{is_from, from_true}
use Rattle.om_graph.proofs.Itself.{from_has, before_has, before_words, all_ordered}
use Rattle.om_graph.proofs.Blocks.{next_has, from_split}
use Rattle.om_graph.proofs.Comes.{ordered_split}
use Rattle.om_graph.proofs.Kept.{has_split}
use Rattle.om_graph.proofs.OnWalks.{own_order}
use Rattle.om_graph.proofs.Behind.{after_has, own_found}
use Rattle.om_graph.proofs.Places.{Inner, inner_split, inner_append, last_inner, OfOp, of_op, placed}

-- ---- words that fall

plain_on : (i : Instr) → OpForm (op.Plain i) → plain_falls i
plain_on (Jumps kind ra rb hint) f = true≢false f
plain_on (Mem o ra rb d) f = tt
plain_on (Branch o ra d) f = tt
plain_on (Alu o ra rb rc) f = tt
plain_on (Cmov c ra rb rc) f = tt
plain_on (Misc o ra rb) f = tt
plain_on Fnop f = tt
plain_on Halt f = tt
plain_on Callsys f = tt

use_on : (i : Instr) (hi : Place) (o : Option Target) → act_falls (use_of i hi o)
use_on i hi None = tt
use_on i hi (Some t) = tt

op_on : (ops : List Op) (k : OpKind) → OpForm k → act_falls (op_act ops k)
op_on ops (op.Plain i) f = plain_on i f
op_on ops (op.UseLo i hi) f = use_on i hi (target_at ops hi)
op_on ops (op.Lit ra rb t) f = tt
op_on ops (op.AddrLda ra rb t) f = tt
op_on ops (op.AddrHi ra rb t least) f = tt
op_on ops (op.UseGp i gp t) f = tt
op_on ops (op.GpHi ra rb base) f = tt
op_on ops (op.GpLo ra rb hi) f = tt

cond_on : (at : Place) (i : Instr) (to : Place) → LastForm (Cond at i to) → act_falls (cond_act i to)
cond_on at (Branch (If c) ra d) to f = tt
cond_on at (Branch Straight ra d) to f = absurd f
cond_on at (Branch Bsr ra d) to f = absurd f
cond_on at (Jumps kind ra rb hint) to f = absurd f
cond_on at (Mem o ra rb d) to f = absurd f
cond_on at (Alu o ra rb rc) to f = absurd f
cond_on at (Cmov c ra rb rc) to f = absurd f
cond_on at (Misc o ra rb) to f = absurd f
cond_on at Fnop to f = absurd f
cond_on at Halt to f = absurd f
cond_on at Callsys to f = absurd f

last_on : (last : Last) (w : Word) → LastForm last → FallsOn last → Has (last_words last) w → act_falls w.act
last_on Fall w f o h = absurd h
last_on (Cond at i to) w f o (inl e) = subst (λ (x : Word). act_falls x.act) e (cond_on at i to f)
last_on (Cond at i to) w f o (inr h) = absurd h
last_on Off w f o h = absurd o
last_on (Br at k ra to) w f o h = absurd o
last_on (Call at k ra to) w f o h = absurd o
last_on (CallBy at i) w f o h = absurd o
last_on (JumpBy at i) w f o h = absurd o

-- ---- places from which the same words follow

same_next : (ws : List Word) (p q : Place) → ((x : Word) → Has ws x → from_place p x ≡ from_place q x) → next_word ws p ≡ next_word ws q
same_next [] p q f = refl
same_next (x ∷ ws) p q f =
    let e = f x (inl refl) in
    let r = same_next ws p q (λ y h. f y (inr h)) in
    rw (e, r) refl

from_same :
    (p q : Place) (x : Word) → p.obj ≡ q.obj → p.off ≤ q.off → (x.at.obj ≡ p.obj → p.off ≤ x.at.off → q.off ≤ x.at.off) →
    from_place p x ≡ from_place q x
from_same p q x o l f = by_case (from_place p x) (from_place q x) refl refl
  where
    by_case : (a b : Bool) → from_place p x ≡ a → from_place q x ≡ b → a ≡ b
    by_case true true e h = refl
    by_case false false e h = refl
    by_case true false e h =
        let u = is_from p x e in
        absurd (true≢false (sym (from_true q x (u.0 ∙ o) (f u.0 u.1)) ∙ h))
    by_case false true e h =
        let u = is_from q x h in
        let u1 = u.1 in
        let k : p.off ≤ x.at.off = omega (arith, l, u1) in
        absurd (true≢false (sym (from_true p x (u.0 ∙ sym o) k) ∙ e))

-- ---- where a word stands beside a block

own_from : (bs : List Block) (b : Block) → Placed bs → Has bs b → FromLabel b.label (block_words b)
own_from [] b p h = absurd h
own_from (x ∷ bs) b p (inl e) = subst (λ (y : Block). FromLabel y.label (block_words y)) e p.0
own_from (x ∷ bs) b p (inr h) = own_from bs b p.4 h

before_in : (ws : List Word) (bs : List Block) (b : Block) → BeforeBlocks ws bs → Has bs b → BeforeLabel b.label ws
before_in ws [] b f h = absurd h
before_in ws (x ∷ bs) b f (inl e) = subst (λ (y : Block). BeforeLabel y.label ws) e f.0
before_in ws (x ∷ bs) b f (inr h) = before_in ws bs b f.1 h

abbrev Side : Block → Word → Type 0
Side b x =
    (x.at.off + 4 ≤ b.label.off) ⊎ Has (block_words b) x
    ⊎ ((v : Word) → Has (block_words b) v → v.at.off + 4 ≤ x.at.off)

-- before the block, in it, or behind all its words
side : (bs : List Block) (b : Block) (x : Word) → Placed bs → Has bs b → Has (all_words bs) x → x.at.obj ≡ b.label.obj → Side b x
side [] b x p h m o = absurd h
side (c ∷ bs) b x p h m o = by_case h (has_append (block_words c) (all_words bs) x m) (λ h m. side bs b x p.4 h m o)
  where
    by_case : Has (c ∷ bs) b → Has (block_words c) x ⊎ Has (all_words bs) x → (Has bs b → Has (all_words bs) x → Side b x) → Side b x
    by_case (inl e) (inl m) k = inr (inl (subst (λ (y : Block). Has (block_words y) x) e m))
    by_case (inl e) (inr m) k =
        inr (inr (λ v hv.
        let hc = subst (λ (y : Block). Has (block_words y) v) (sym e) hv in
        let f = from_has c.label (block_words c) v p.0 hc in
        before_words (block_words c) bs v x p.2 p.4 hc m (o ∙ sym (ap (λ (y : Block). y.label.obj) e) ∙ sym f.0)))
    by_case (inr h) (inl m) k = inl (before_has b.label (block_words c) x (before_in (block_words c) bs b p.2 h) m o)
    by_case (inr h) (inr m) k = k h m

abbrev NextSide : Block → Block → Word → Type 0
NextSide b n x = (x.at.off + 4 ≤ b.label.off) ⊎ Has (block_words b) x ⊎ (n.label.off ≤ x.at.off)

-- before the block, in it, or from the label of the next one on
next_side :
    (bs : List Block) (b n : Block) (x : Word) → Placed bs → InPlaceOrder (label_list bs) → Next bs b n → n.label.obj ≡ b.label.obj →
    Has (all_words bs) x → x.at.obj ≡ b.label.obj → NextSide b n x
next_side [] b n x p o k s m e = absurd k
next_side (c ∷ []) b n x p o k s m e = absurd k
next_side (c ∷ d ∷ bs) b n x p o k s m e =
    by_case k (has_append (block_words c) (all_words (d ∷ bs)) x m) (λ k m. next_side (d ∷ bs) b n x p.4 o.1 k s m e)
  where
    from_next : (y : Block) → Has (d ∷ bs) y → (x.at.obj ≡ y.label.obj) × (y.label.off ≤ x.at.off) → d ≡ n → n.label.off ≤ x.at.off
    from_next y (inl i) f j =
        let a = ap (λ (z : Block). z.label.off) i in
        let b = ap (λ (z : Block). z.label.off) j in
        let f1 = f.1 in
        omega (arith, a, b, f1)
    from_next y (inr h) f j =
        let same : y.label.obj ≡ d.label.obj = sym f.0 ∙ e ∙ sym s ∙ sym (ap (λ (z : Block). z.label.obj) j) in
        let l = lt_off d.label y.label (o.1.0 y.label (has_label bs y h)) same in
        let b = ap (λ (z : Block). z.label.off) j in
        let f1 = f.1 in
        omega (arith, l, b, f1)

    by_case :
        ((c ≡ b) × (d ≡ n)) ⊎ Next (d ∷ bs) b n → Has (block_words c) x ⊎ Has (all_words (d ∷ bs)) x →
        (Next (d ∷ bs) b n → Has (all_words (d ∷ bs)) x → NextSide b n x) → NextSide b n x
    by_case (inl i) (inl m) f = inr (inl (subst (λ (y : Block). Has (block_words y) x) i.0 m))
    by_case (inl i) (inr m) f =
        let y = has_in (d ∷ bs) x m in
        let u = from_has y.block.label (block_words y.block) x (own_from (d ∷ bs) y.block p.4 y.among) y.word in
        inr (inr (from_next y.block y.among u i.1))
    by_case (inr k) (inl m) f =
        inl (before_has b.label (block_words c) x (before_in (block_words c) (d ∷ bs) b p.2 (next_has (d ∷ bs) b n k).0) m e)
    by_case (inr k) (inr m) f = f k m

next_before : (bs : List Block) (b n : Block) → Placed bs → Next bs b n → BeforeLabel n.label (block_words b)
next_before [] b n p k = absurd k
next_before (c ∷ []) b n p k = absurd k
next_before (c ∷ d ∷ bs) b n p (inl i) =
    subst (λ (y : Block). BeforeLabel n.label (block_words y)) i.0 (subst (λ (y : Block). BeforeLabel y.label (block_words c)) i.1 p.2.0)
next_before (c ∷ d ∷ bs) b n p (inr k) = next_before (d ∷ bs) b n p.4 k

next_lt : (bs : List Block) (b n : Block) → InPlaceOrder (label_list bs) → Next bs b n → place_lt b.label n.label ≡ true
next_lt [] b n o k = absurd k
next_lt (c ∷ []) b n o k = absurd k
next_lt (c ∷ d ∷ bs) b n o (inl i) =
    subst (λ (y : Block). place_lt y.label n.label ≡ true) i.0 (subst (λ (y : Block). place_lt c.label y.label ≡ true) i.1 (o.0 d.label (inl refl)))
next_lt (c ∷ d ∷ bs) b n o (inr k) = next_lt (d ∷ bs) b n o.1 k

-- a word of a block is not behind a word of it, or among those that follow it
in_split :
    (l : Place) (bf : List Word) (v : Word) (rest : List Word) (x : Word) → FromLabel l (rev_onto bf (v ∷ rest)) → Ordered (rev_onto bf (v ∷ rest)) →
    Has (rev_onto bf (v ∷ rest)) x → (x.at.off ≤ v.at.off) ⊎ Has rest x
in_split l [] v rest x f o (inl e) = let i = ap (λ (y : Word). y.at.off) e in inl (omega (arith, i))
in_split l [] v rest x f o (inr h) = inr h
in_split l (u ∷ bf) v rest x f o h = by_case (in_split l bf u (v ∷ rest) x f o h)
  where
    by_case : (x.at.off ≤ u.at.off) ⊎ Has (v ∷ rest) x → (x.at.off ≤ v.at.off) ⊎ Has rest x
    by_case (inl i) =
        let a = from_split l bf (u ∷ v ∷ rest) f in
        let b = (ordered_split bf (u ∷ v ∷ rest) o).0.0 (a.1.0.0 ∙ sym a.0.0) in
        inl (omega (arith, b, i))
    by_case (inr (inl e)) = let i = ap (λ (y : Word). y.at.off) e in inl (omega (arith, i))
    by_case (inr (inr m)) = inr m

-- a list that is not empty has a last word
pub record LastSplit (all : List Word) : Type 0 where
  pub before : List Word
  pub word : Word
  pub splits : rev_onto before (word ∷ []) ≡ all

pub last_split : (bf : List Word) (w : Word) (ws : List Word) → LastSplit (rev_onto bf (w ∷ ws))
last_split bf w [] = record { before = bf; word = w; splits = refl }
last_split bf w (x ∷ ws) = last_split (w ∷ bf) x ws

onward_is : (c : Script) (f : Fact) (bf ws : List Word) → onward c f (rev_onto bf ws) ≡ onward c (changed_by c f bf) ws
onward_is c f [] ws = refl
onward_is c f (w ∷ bf) ws = onward_is c f bf (w ∷ ws)

module _ (g : GraphView) (graph : IsGraph g) (form : InForm g) (places : InPlace g) where
  pl : Placed g.blocks
  pl = placed g graph form places

  ordered : Ordered (words g)
  ordered = all_ordered g.blocks pl

  abbrev own : (b : Block) → List Word
  own b = map (op_word (ops_of b)) (ops_of b)

  of_falls : (b : Block) (w : Word) → Has g.blocks b → OfOp (ops_of b) w (ops_of b) → act_falls w.act
  of_falls b w hb r =
      subst (λ (y : Word). act_falls y.act) r.word (op_on (ops_of b) r.op.kind (form.ops b r.op hb r.among))

  -- a word with another behind it in its block falls
  pub inner_falls : (b : Block) (bf : List Word) (w x : Word) (ws : List Word) → Has g.blocks b → rev_onto bf (w ∷ x ∷ ws) ≡ block_words b → act_falls w.act
  inner_falls b bf w x ws hb s =
      of_falls b w hb
      (of_op (ops_of b) (ops_of b) w
      (inner_append (own b) (last_words b.last) w (last_inner b.last w) (subst (λ (l : List Word). Inner l w) s (inner_split bf w x ws))))

  -- and so does each word of a block that control falls from
  pub end_falls : (b : Block) (w : Word) → Has g.blocks b → FallsOn b.last → Has (block_words b) w → act_falls w.act
  end_falls b w hb f h = by_case (has_append (own b) (last_words b.last) w h)
    where
      by_case : Has (own b) w ⊎ Has (last_words b.last) w → act_falls w.act
      by_case (inl m) = of_falls b w hb (of_op (ops_of b) (ops_of b) w m)
      by_case (inr m) = last_on b.last w (form.lasts b hb) f m

  -- ---- the next word

  -- a word is the next one from a place before it, where none stands between
  next_is :
      (p : Place) (w : Word) → Has (words g) w → w.at.obj ≡ p.obj → p.off ≤ w.at.off →
      ((x : Word) → Has (words g) x → x.at.obj ≡ p.obj → p.off ≤ x.at.off → w.at.off ≤ x.at.off) → next_word (words g) p ≡ Some w
  next_is p w h o l f =
      same_next (words g) p w.at (λ x m. from_same p w.at x (sym o) l (f x m)) ∙ own_found (words g) w ordered h

  pub first_next : (b : Block) (w : Word) (ws : List Word) → Has g.blocks b → block_words b ≡ w ∷ ws → next_word (words g) b.label ≡ Some w
  first_next b w ws hb e = next_is b.label w (in_all g.blocks b w hb there) at.0 at.1 (λ x m o l. by_side x o l (side g.blocks b x pl hb m o))
    where
      there : Has (block_words b) w
      there = subst (λ (l : List Word). Has l w) (sym e) (inl refl)

      at : (w.at.obj ≡ b.label.obj) × (b.label.off ≤ w.at.off)
      at = from_has b.label (block_words b) w (own_from g.blocks b pl hb) there

      after : Ordered (w ∷ ws)
      after = subst Ordered e (own_order g.blocks b pl hb)

      by_own : (x : Word) → x.at.obj ≡ b.label.obj → Has (w ∷ ws) x → w.at.off ≤ x.at.off
      by_own x o (inl i) = let j = ap (λ (y : Word). y.at.off) i in omega (arith, j)
      by_own x o (inr h) = let j = after_has ws w x after.0 h (o ∙ sym at.0) in omega (arith, j)

      by_side : (x : Word) → x.at.obj ≡ b.label.obj → b.label.off ≤ x.at.off → Side b x → w.at.off ≤ x.at.off
      by_side x o l (inl i) = absurd (omega (arith, i, l))
      by_side x o l (inr (inl h)) = by_own x o (subst (λ (l : List Word). Has l x) e h)
      by_side x o l (inr (inr f)) = let j = f w there in omega (arith, j)

  pub inner_next :
      (b : Block) (bf : List Word) (v w : Word) (ws : List Word) → Has g.blocks b → rev_onto bf (v ∷ w ∷ ws) ≡ block_words b →
      next_word (words g) (next_place v.at) ≡ Some w
  inner_next b bf v w ws hb s =
      next_is (next_place v.at) w (in_all g.blocks b w hb there) (at.1.0.0 ∙ sym at.0.0) gap
      (λ x m o l. by_side x (o ∙ at.0.0) l (side g.blocks b x pl hb m (o ∙ at.0.0)))
    where
      all : List Word
      all = rev_onto bf (v ∷ w ∷ ws)

      from : FromLabel b.label (rev_onto bf (v ∷ w ∷ ws))
      from = subst (λ (l : List Word). FromLabel b.label l) (sym s) (own_from g.blocks b pl hb)

      order : Ordered (rev_onto bf (v ∷ w ∷ ws))
      order = subst Ordered (sym s) (own_order g.blocks b pl hb)

      at : FromLabel b.label (v ∷ w ∷ ws)
      at = from_split b.label bf (v ∷ w ∷ ws) from

      after : Ordered (v ∷ w ∷ ws)
      after = ordered_split bf (v ∷ w ∷ ws) order

      there : Has (block_words b) w
      there = has_split (v ∷ bf) w ws (block_words b) s

      gap : v.at.off + 4 ≤ w.at.off
      gap = after.0.0 (at.1.0.0 ∙ sym at.0.0)

      by_own : (x : Word) → x.at.obj ≡ b.label.obj → v.at.off + 4 ≤ x.at.off → (x.at.off ≤ v.at.off) ⊎ Has (w ∷ ws) x → w.at.off ≤ x.at.off
      by_own x o l (inl i) = absurd (omega (arith, i, l))
      by_own x o l (inr (inl i)) = let j = ap (λ (y : Word). y.at.off) i in omega (arith, j)
      by_own x o l (inr (inr h)) = let j = after_has ws w x after.1.0 h (o ∙ sym at.1.0.0) in omega (arith, j)

      by_side : (x : Word) → x.at.obj ≡ b.label.obj → v.at.off + 4 ≤ x.at.off → Side b x → w.at.off ≤ x.at.off
      by_side x o l (inl i) = let k = at.0.1 in absurd (omega (arith, i, l, k))
      by_side x o l (inr (inl h)) =
          by_own x o l (in_split b.label bf v (w ∷ ws) x from order (subst (λ (l : List Word). Has l x) (sym s) h))
      by_side x o l (inr (inr f)) = let j = f w there in omega (arith, j)

  -- behind the last word of a block the words of the next one follow
  pub last_next :
      (b n : Block) (bf : List Word) (w : Word) → Next g.blocks b n → n.label.obj ≡ b.label.obj → rev_onto bf (w ∷ []) ≡ block_words b →
      next_word (words g) (next_place w.at) ≡ next_word (words g) n.label
  last_next b n bf w k o s =
      same_next (words g) (next_place w.at) n.label
      (λ x m. from_same (next_place w.at) n.label x (at.0 ∙ sym o) before
      (λ i l. by_side x l (next_side g.blocks b n x pl graph.blocks k o m (i ∙ at.0))))
    where
      hb : Has g.blocks b
      hb = (next_has g.blocks b n k).0

      there : Has (block_words b) w
      there = has_split bf w [] (block_words b) s

      from : FromLabel b.label (block_words b)
      from = own_from g.blocks b pl hb

      at : (w.at.obj ≡ b.label.obj) × (b.label.off ≤ w.at.off)
      at = from_has b.label (block_words b) w from there

      before : w.at.off + 4 ≤ n.label.off
      before = before_has n.label (block_words b) w (next_before g.blocks b n pl k) there (at.0 ∙ sym o)

      by_own : (x : Word) → w.at.off + 4 ≤ x.at.off → (x.at.off ≤ w.at.off) ⊎ Has [] x → n.label.off ≤ x.at.off
      by_own x l (inl i) = absurd (omega (arith, i, l))
      by_own x l (inr h) = absurd h

      by_side : (x : Word) → w.at.off + 4 ≤ x.at.off → NextSide b n x → n.label.off ≤ x.at.off
      by_side x l (inl i) = let a1 = at.1 in absurd (omega (arith, i, l, a1))
      by_side x l (inr (inl h)) =
          by_own x l
          (in_split b.label bf w [] x (subst (λ (l : List Word). FromLabel b.label l) (sym s) from)
          (subst Ordered (sym s) (own_order g.blocks b pl hb)) (subst (λ (l : List Word). Has l x) (sym s) h))
      by_side x l (inr (inr f)) = f

  pub empty_next :
      (b n : Block) → Next g.blocks b n → n.label.obj ≡ b.label.obj → block_words b ≡ [] →
      next_word (words g) b.label ≡ next_word (words g) n.label
  empty_next b n k o e =
      same_next (words g) b.label n.label
      (λ x m. from_same b.label n.label x (sym o) before (λ i l. by_side x l (next_side g.blocks b n x pl graph.blocks k o m i)))
    where
      before : b.label.off ≤ n.label.off
      before = let l = lt_off b.label n.label (next_lt g.blocks b n graph.blocks k) o in omega (arith, l)

      by_side : (x : Word) → b.label.off ≤ x.at.off → NextSide b n x → n.label.off ≤ x.at.off
      by_side x l (inl i) = absurd (omega (arith, i, l))
      by_side x l (inr (inl h)) = absurd (subst (λ (l : List Word). Has l x) e h)
      by_side x l (inr (inr f)) = f

  -- ---- walks

  module _ (c : Script) where
    -- a walk over words comes to a place from which the words of a block follow
    pub record ComesTo (b : Block) (f : Fact) : Type 0 where
      pub among : Has g.blocks b
      pub at : Place
      pub arrives : Arrives c g at f
      pub next : next_word (words g) at ≡ next_word (words g) b.label

    -- and then to each of the block's words
    in_block :
        (b : Block) (f : Fact) (bf : List Word) (w : Word) (ws : List Word) → ComesTo b f → rev_onto bf (w ∷ ws) ≡ block_words b →
        Reaches c g w (changed_by c f bf)
    in_block b f [] w ws a s = (a.at, a.arrives, a.next ∙ first_next b w ws a.among (sym s))
    in_block b f (v ∷ bf) w ws a s =
        let r = in_block b f bf v (w ∷ ws) a s in (
          next_place v.at,
          goes_on r.0 (changed_by c f bf) v (next_place v.at) r.1 r.2 (inl (inner_falls b bf v w ws a.among s, refl)),
          inner_next b bf v w ws a.among s,
        )

    past_block : (b n : Block) (f : Fact) → ComesTo b f → Next g.blocks b n → n.label.obj ≡ b.label.obj → FallsOn b.last → ComesTo n (onward c f (block_words b))
    past_block b n f a k o falls = by_words (block_words b) refl
      where
        hn : Has g.blocks n
        hn = (next_has g.blocks b n k).1

        by_last : LastSplit (block_words b) → ComesTo n (onward c f (block_words b))
        by_last l =
            let r = in_block b f l.before l.word [] a l.splits in
            let there = has_split l.before l.word [] (block_words b) l.splits in
            let arrives = goes_on r.0 (changed_by c f l.before) l.word (next_place l.word.at) r.1 r.2 (inl (end_falls b l.word a.among falls there, refl)) in
            let is = sym (onward_is c f l.before (l.word ∷ [])) ∙ ap (onward c f) l.splits in
            record {
              among = hn;
              at = next_place l.word.at;
              arrives = subst (λ (h : Fact). Arrives c g (next_place l.word.at) h) is arrives;
              next = last_next b n l.before l.word k o l.splits;
            }

        by_words : (ws : List Word) → block_words b ≡ ws → ComesTo n (onward c f (block_words b))
        by_words [] e = record {
          among = hn;
          at = a.at;
          arrives = subst (λ (l : List Word). Arrives c g a.at (onward c f l)) (sym e) a.arrives;
          next = a.next ∙ empty_next b n k o e;
        }
        by_words (w ∷ ws) e = by_last (subst LastSplit (sym e) (last_split [] w ws))

    jumped_to : (b n : Block) (f : Fact) (w : Word) (bf : List Word) → ComesTo b f → Has g.blocks n → rev_onto bf (w ∷ []) ≡ block_words b → act_jumps (IsKeptLanding g) w.act n.label → ComesTo n (onward c f (block_words b))
    jumped_to b n f w bf a hn s j =
        let r = in_block b f bf w [] a s in
        let arrives = goes_on r.0 (changed_by c f bf) w n.label r.1 r.2 (inr (j, inl (n, hn, refl))) in
        let is = sym (onward_is c f bf (w ∷ [])) ∙ ap (onward c f) s in
        record {
          among = hn;
          at = n.label;
          arrives = subst (λ (h : Fact). Arrives c g n.label h) is arrives;
          next = refl;
        }

    comes_to : (b : Block) (f : Fact) → ReachesBlock c g b f → ComesTo b f
    comes_to b f (at_entry d h e) = record {
      among = h;
      at = c.entry;
      arrives = starts (b, h, e);
      next = ap (next_word (words g)) (sym e);
    }
    comes_to n f (enters_next d m h r (falls_in k o falls)) = past_block d n h (comes_to d h r) k o falls
    comes_to n f (enters_next d m h r (jumps_in w hd hm l j)) = jumped_to d n h w l.0 (comes_to d h r) hm l.1 j

    pub words_reached :
        (b : Block) (f : Fact) (bf : List Word) (w : Word) (ws : List Word) → ReachesBlock c g b f → rev_onto bf (w ∷ ws) ≡ block_words b →
        Reaches c g w (changed_by c f bf)
    words_reached b f bf w ws r s = in_block b f bf w ws (comes_to b f r) s
