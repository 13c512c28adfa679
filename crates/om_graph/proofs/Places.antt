-- In a graph in form whose words stand in their blocks' places, blocks and words follow each other as control does.
use Rattle.std.proofs.Common.{◌≡◌, ◌⊎◌, ◌<◌, ◌≤◌, ◌+◌, ◌*◌, ◌%◌, inl, inr, ℕ, Bool, true, false, cond, length, List, [], ◌∷◌, ◌++◌, Option, Some, None, refl, sym, ap, ◌∙◌, subst, arith}
use Rattle.std.specs.Prelude.{map, slice_index_or}
use Rattle.std.specs.Option.{option_or}
use Rattle.std.proofs.lemmas.Bool.{true≢false}
use Rattle.om_isa.specs.declared.instr.BrOp.{BrOp}
use Rattle.om_isa.specs.declared.instr.BrOp.TheVariants.{Br as Straight, Bsr, If}
use Rattle.om_isa.specs.declared.instr.Instr.{Instr}
use Rattle.om_isa.specs.declared.instr.Instr.TheVariants.{Mem, Jump as Jumps, Branch, Alu, Cmov, Misc, Fnop, Halt, Callsys}
use Rattle.om_value.specs.declared.value.Place.{Place}
use Rattle.om_value.specs.declared.value.Target.{Target}
use Rattle.om_value.specs.Same.{place_eq}
use Rattle.om_prog.specs.Act as act
use Rattle.om_prog.specs.Act.{Act, Word}
use Rattle.om_prog.specs.Flow.{act_falls, act_jumps}
use Rattle.om_graph.specs.declared.op.Op.{Op}
use Rattle.om_graph.specs.declared.op.OpKind.{OpKind}
use Rattle.om_graph.specs.declared.op.OpKind.TheVariants as op
use Rattle.om_graph.specs.declared.op.Last.{Last}
use Rattle.om_graph.specs.declared.op.Last.TheVariants.{Fall, Off, Br, Cond, Call, CallBy, JumpBy}
use Rattle.om_graph.specs.View.{Block, GraphView, Has, InPlaceOrder, place_lt, ops_of}
use Rattle.om_graph.specs.Held.{IsGraph, label_list}
use Rattle.om_graph.specs.Run.{block_words, all_words, op_act, op_word, use_of, target_at, high_target, last_words, cond_act, rev_onto, next_word}
use Rattle.om_graph.specs.Form.{InForm, InPlace, OpForm, LastForm, HasNoCode, HasNoCodes, IsNoCode, label_after, text_size}
use Rattle.om_graph.specs.Kept.{IsEnd}
use Rattle.om_graph.proofs.Fetching.{found_from, found_has}
use Rattle.om_graph.proofs.Placed.{FromLabel, BeforeLabel, BeforeBlocks, NoBlocks, falls_to, leaves, Exits, Placed, JumpsLast}
use Rattle.om_graph.proofs.Labels.{lt_cases, lt_off, lt_obj, has_label, least_after, true_is, has_in, has_append}

-- what is used of labels and words, block by block
pub record InLabels (g : GraphView) : Type 0 where
  pub labels : InPlaceOrder g.labels
  pub blocks : InPlaceOrder (label_list g.blocks)
  pub among : (b : Block) → Has g.blocks b → Has g.labels b.label
  pub inside : (q : Place) → Has g.labels q → q.off < text_size g q.obj
  pub words : (w : Word) → Has (all_words g.blocks) w → w.at.off + 4 ≤ text_size g w.at.obj
  pub below :
      (b : Block) (w : Word) (l : Place) → Has g.blocks b → Has (block_words b) w → label_after g.labels b.label ≡ Some l →
      w.at.off + 4 ≤ l.off
  pub objects : (b : Block) → Has g.blocks b → b.label.obj < length g.counts
  pub aligned : (q : Place) → Has g.labels q → q.off % 4 ≡ 0
  pub word_aligned : (w : Word) → Has (all_words g.blocks) w → w.at.off % 4 ≡ 0
  pub off : (b : Block) → Has g.blocks b → b.last ≡ Off → label_after g.labels b.label ≡ None

pub in_labels : (g : GraphView) → IsGraph g → InForm g → InPlace g → InLabels g
in_labels g graph form places = record {
  labels = graph.labels;
  blocks = graph.blocks;
  among = λ b h. graph.among b.label (has_label g.blocks b h);
  inside = λ q h. (places.labels q h).1;
  words = λ w h. let i = has_in g.blocks w h in (places.words i.block w i.among i.word).inside;
  below = λ b w l h m e. (places.words b w h m).before l e;
  objects = λ b h. (places.labels b.label (graph.among b.label (has_label g.blocks b h))).0;
  aligned = places.aligned;
  word_aligned = λ w h. let i = has_in g.blocks w h in (places.words i.block w i.among i.word).aligned;
  off = form.ends;
}

-- no word follows a text's end
pub end_none : (g : GraphView) → InLabels g → (q : Place) → IsEnd g q → next_word (all_words g.blocks) q ≡ None
end_none g within q e = by_found (next_word (all_words g.blocks) q) refl
  where
    by_found : (o : Option Word) → next_word (all_words g.blocks) q ≡ o → next_word (all_words g.blocks) q ≡ None
    by_found None h = h
    by_found (Some w) h =
        let u = found_from (all_words g.blocks) q w h in
        let i = within.words w (found_has (all_words g.blocks) q w h) in
        let i' = subst (λ (o : ℕ). w.at.off + 4 ≤ 4 * slice_index_or g.counts o 0) u.0 i in
        let u1 = u.1 in
        let j = e.off in
        absurd (omega (arith, i', u1, j))

-- ---- the last word of a block

abbrev last_or : List Word → Option Word → Option Word
last_or [] o = o
last_or (w ∷ ws) o = last_or ws (Some w)

last_append : (xs : List Word) (x : Word) (o : Option Word) → last_or (xs ++ x ∷ []) o ≡ Some x
last_append [] x o = refl
last_append (y ∷ xs) x o = last_append xs x (Some y)

last_split : (bf : List Word) (w : Word) (ws : List Word) (o : Option Word) → last_or (rev_onto bf (w ∷ ws)) o ≡ last_or (w ∷ ws) o
last_split [] w ws o = refl
last_split (x ∷ bf) w ws o = last_split bf x (w ∷ ws) o

-- a word that stands last is the one that was put there
last_is : (bf : List Word) (w x : Word) (xs : List Word) → rev_onto bf (w ∷ []) ≡ xs ++ x ∷ [] → w ≡ x
last_is bf w x xs e = same (sym (last_split bf w [] None) ∙ ap (λ (l : List Word). last_or l None) e ∙ last_append xs x None)
  where
    same : Some w ≡ Some x → w ≡ x
    same i = cc

not_empty : (xs : List Word) (x : Word) → xs ++ x ∷ [] ≡ [] → ⊥
not_empty [] x e = cc
not_empty (y ∷ xs) x e = cc

-- a word with another one behind it
abbrev pub Inner : List Word → Word → Type 0
Inner [] w = ⊥
Inner (y ∷ l) w = ((y ≡ w) × (l ≡ [] → ⊥)) ⊎ Inner l w

pub inner_split : (bf : List Word) (w x : Word) (ws : List Word) → Inner (rev_onto bf (w ∷ x ∷ ws)) w
inner_split bf w x ws = push bf (w ∷ x ∷ ws) (inl (refl, λ e. cc))
  where
    push : (bf l : List Word) → Inner l w → Inner (rev_onto bf l) w
    push [] l i = i
    push (y ∷ bf) l i = push bf (y ∷ l) (inr i)

pub inner_append : (xs ys : List Word) (w : Word) → (Inner ys w → ⊥) → Inner (xs ++ ys) w → Has xs w
inner_append [] ys w n i = absurd (n i)
inner_append (y ∷ xs) ys w n (inl e) = inl e.0
inner_append (y ∷ xs) ys w n (inr i) = inr (inner_append xs ys w n i)

one_inner : (x w : Word) → Inner (x ∷ []) w → ⊥
one_inner x w (inl e) = e.1 refl
one_inner x w (inr i) = i

pub last_inner : (last : Last) (w : Word) → Inner (last_words last) w → ⊥
last_inner Fall w i = i
last_inner Off w i = i
last_inner (Br at op ra to) w i = one_inner _ w i
last_inner (Cond at j to) w i = one_inner _ w i
last_inner (Call at op ra to) w i = one_inner _ w i
last_inner (CallBy at j) w i = one_inner _ w i
last_inner (JumpBy at j) w i = one_inner _ w i

-- ---- words of ops

pub record OfOp (os : List Op) (w : Word) (ops : List Op) : Type 0 where
  pub op : Op
  pub among : Has os op
  pub word : op_word ops op ≡ w

pub of_op : (ops os : List Op) (w : Word) → Has (map (op_word ops) os) w → OfOp os w ops
of_op ops [] w h = absurd h
of_op ops (o ∷ os) w (inl e) = record { op = o; among = inl refl; word = e }
of_op ops (o ∷ os) w (inr h) = let r = of_op ops os w h in record { op = r.op; among = inr r.among; word = r.word }

plain_stays : (K : Place → Type 0) (i : Instr) (q : Place) → OpForm (op.Plain i) → act_jumps K (act.Plain i) q → ⊥
plain_stays K (Jumps kind ra rb hint) q f j = true≢false f
plain_stays K (Mem op ra rb d) q f j = j
plain_stays K (Branch op ra d) q f j = j
plain_stays K (Alu op ra rb rc) q f j = j
plain_stays K (Cmov c ra rb rc) q f j = j
plain_stays K (Misc op ra rb) q f j = j
plain_stays K Fnop q f j = j
plain_stays K Halt q f j = j
plain_stays K Callsys q f j = j

use_stays : (K : Place → Type 0) (i : Instr) (hi : Place) (o : Option Target) (q : Place) → act_jumps K (use_of i hi o) q → ⊥
use_stays K i hi None q j = j
use_stays K i hi (Some t) q j = j

-- no op goes elsewhere
op_stays : (K : Place → Type 0) (ops : List Op) (k : OpKind) (q : Place) → OpForm k → act_jumps K (op_act ops k) q → ⊥
op_stays K ops (op.Plain i) q f j = plain_stays K i q f j
op_stays K ops (op.UseLo i hi) q f j = use_stays K i hi (target_at ops hi) q j
op_stays K ops (op.Lit ra rb t) q f j = j
op_stays K ops (op.AddrLda ra rb t) q f j = j
op_stays K ops (op.AddrHi ra rb t least) q f j = j
op_stays K ops (op.UseGp i gp t) q f j = j
op_stays K ops (op.GpHi ra rb base) q f j = j
op_stays K ops (op.GpLo ra rb hi) q f j = j

-- a jump is its block's last word
pub jumps_last : (K : Place → Type 0) (g : GraphView) → InForm g → JumpsLast K g.blocks
jumps_last K g form b bf w [] q hb s j = refl
jumps_last K g form b bf w (x ∷ ws) q hb s j = absurd (at_op (of_op (ops_of b) (ops_of b) w in_ops))
  where
    in_ops : Has (map (op_word (ops_of b)) (ops_of b)) w
    in_ops =
        inner_append (map (op_word (ops_of b)) (ops_of b)) (last_words b.last) w (last_inner b.last w)
        (subst (λ (l : List Word). Inner l w) s (inner_split bf w x ws))

    at_op : OfOp (ops_of b) w (ops_of b) → ⊥
    at_op r = op_stays K (ops_of b) r.op.kind q (form.ops b r.op hb r.among) (subst (λ (y : Word). act_jumps K y.act q) (sym r.word) j)

-- ---- what stands at the end of a block

straight_leaves : (o : BrOp) (ra : ℕ) (to : Place) → LastForm (Br to o ra to) → act_falls (act.To o ra to) → ⊥
straight_leaves Straight ra to f a = a
straight_leaves Bsr ra to f a = a
straight_leaves (If c) ra to f a = f.0

call_leaves : (o : BrOp) (ra : ℕ) (to : Place) → LastForm (Call to o ra to) → act_falls (act.To o ra to) → ⊥
call_leaves Straight ra to f a = a
call_leaves Bsr ra to f a = a
call_leaves (If c) ra to f a = f.0

by_leaves : (at : Place) (i : Instr) → LastForm (CallBy at i) → act_falls (act.Plain i) → ⊥
by_leaves at (Jumps kind ra rb hint) f a = a
by_leaves at (Mem op ra rb d) f a = f
by_leaves at (Branch op ra d) f a = f
by_leaves at (Alu op ra rb rc) f a = f
by_leaves at (Cmov c ra rb rc) f a = f
by_leaves at (Misc op ra rb) f a = f
by_leaves at Fnop f a = f
by_leaves at Halt f a = f
by_leaves at Callsys f a = f

jump_leaves : (at : Place) (i : Instr) → LastForm (JumpBy at i) → act_falls (act.Plain i) → ⊥
jump_leaves at (Jumps kind ra rb hint) f a = a
jump_leaves at (Mem op ra rb d) f a = f
jump_leaves at (Branch op ra d) f a = f
jump_leaves at (Alu op ra rb rc) f a = f
jump_leaves at (Cmov c ra rb rc) f a = f
jump_leaves at (Misc op ra rb) f a = f
jump_leaves at Fnop f a = f
jump_leaves at Halt f a = f
jump_leaves at Callsys f a = f

-- control does not fall behind a block that ends with such a word
leaving : (b : Block) (x : Word) → last_words b.last ≡ x ∷ [] → (act_falls x.act → ⊥) → leaves b × (block_words b ≡ [] → ⊥)
leaving b x e f = (
  (λ bf w s a. f (subst (λ (y : Word). act_falls y.act) (last_is bf w x (map (op_word (ops_of b)) (ops_of b)) (s ∙ words_are)) a)),
  (λ s. not_empty (map (op_word (ops_of b)) (ops_of b)) x (sym words_are ∙ s)),
)
  where
    words_are : block_words b ≡ map (op_word (ops_of b)) (ops_of b) ++ x ∷ []
    words_are = ap (λ (l : List Word). map (op_word (ops_of b)) (ops_of b) ++ l) e

-- ---- blocks in order

no_blocks : (o : ℕ) (bs : List Block) → ((n : Block) → Has bs n → n.label.obj ≡ o → ⊥) → NoBlocks o bs
no_blocks o [] f = tt
no_blocks o (b ∷ bs) f = (f b (inl refl), no_blocks o bs (λ n h. f n (inr h)))

from_all : (l : Place) (ws : List Word) → ((w : Word) → Has ws w → (w.at.obj ≡ l.obj) × (l.off ≤ w.at.off)) → FromLabel l ws
from_all l [] f = tt
from_all l (w ∷ ws) f = (f w (inl refl), from_all l ws (λ x h. f x (inr h)))

before_all : (l : Place) (ws : List Word) → ((w : Word) → Has ws w → w.at.obj ≡ l.obj → w.at.off + 4 ≤ l.off) → BeforeLabel l ws
before_all l [] f = tt
before_all l (w ∷ ws) f = (f w (inl refl), before_all l ws (λ x h. f x (inr h)))

before_blocks : (ws : List Word) (bs : List Block) → ((n : Block) → Has bs n → BeforeLabel n.label ws) → BeforeBlocks ws bs
before_blocks ws [] f = tt
before_blocks ws (b ∷ bs) f = (f b (inl refl), before_blocks ws bs (λ n h. f n (inr h)))

falls_next : (b : Block) (bs : List Block) → InPlaceOrder (label_list (b ∷ bs)) → falls_to b bs
falls_next b [] o = tt
falls_next b (n ∷ bs) o = by_cases (lt_cases b.label n.label (o.0 n.label (inl refl)))
  where
    later : b.label.obj < n.label.obj → (m : Block) → Has (n ∷ bs) m → m.label.obj ≡ b.label.obj → ⊥
    later l m (inl e) i = let x = ap (λ (y : Block). y.label.obj) e in absurd (omega (arith, l, x, i))
    later l m (inr h) i = let x = lt_obj n.label m.label (o.1.0 m.label (has_label bs m h)) in absurd (omega (arith, l, x, i))

    by_cases : ((b.label.obj ≡ n.label.obj) × (b.label.off < n.label.off)) ⊎ (b.label.obj < n.label.obj) → falls_to b (n ∷ bs)
    by_cases (inl h) = let h1 = h.1 in inl (sym h.0, omega (arith, h1))
    by_cases (inr h) = inr (no_blocks b.label.obj (n ∷ bs) (later h))

module _ (g : GraphView) (graph : IsGraph g) (form : InForm g) (places : InPlace g) where
  -- a later block of the text stands behind the words of a block
  behind_words :
      (b n : Block) (w : Word) → Has g.blocks b → Has g.blocks n → place_lt b.label n.label ≡ true → Has (block_words b) w →
      w.at.obj ≡ n.label.obj → w.at.off + 4 ≤ n.label.off
  behind_words b n w hb hn o hw e =
      let p = places.words b w hb hw in
      let same : n.label.obj ≡ b.label.obj = sym e ∙ p.object in
      let l = least_after g.labels b.label n.label graph.labels (graph.among n.label (has_label g.blocks n hn)) (true_is b.label n.label same (lt_off b.label n.label o same)) in
      let x = p.before l.at l.found in
      let y = l.least in
      omega (arith, x, y)

  none_behind : (b n : Block) → Has g.blocks b → Has g.blocks n → place_lt b.label n.label ≡ true → b.last ≡ Off → n.label.obj ≡ b.label.obj → ⊥
  none_behind b n hb hn o e same =
      let l = least_after g.labels b.label n.label graph.labels (graph.among n.label (has_label g.blocks n hn)) (true_is b.label n.label same (lt_off b.label n.label o same)) in
      none_some (sym (form.ends b hb e) ∙ l.found)
    where
      none_some : {x : Place} → None ≡ Some x → ⊥
      none_some i = cc

  exits :
      (last : Last) (b : Block) (bs : List Block) → last ≡ b.last → Has g.blocks b → ((n : Block) → Has bs n → Has g.blocks n) →
      InPlaceOrder (label_list (b ∷ bs)) → LastForm last → Exits last b bs
  exits Fall b bs e hb hs o f = falls_next b bs o
  exits (Cond at i to) b bs e hb hs o f = falls_next b bs o
  exits Off b bs e hb hs o f =
      no_blocks b.label.obj bs (λ n h. none_behind b n hb (hs n h) (o.0 n.label (has_label bs n h)) (sym e))
  exits (Br at op ra to) b bs e hb hs o f = leaving b _ (ap last_words (sym e)) (straight_leaves op ra to f)
  exits (Call at op ra to) b bs e hb hs o f = leaving b _ (ap last_words (sym e)) (call_leaves op ra to f)
  exits (CallBy at i) b bs e hb hs o f = leaving b _ (ap last_words (sym e)) (by_leaves at i f)
  exits (JumpBy at i) b bs e hb hs o f = leaving b _ (ap last_words (sym e)) (jump_leaves at i f)

  placed_from : (bs : List Block) → ((n : Block) → Has bs n → Has g.blocks n) → InPlaceOrder (label_list bs) → Placed bs
  placed_from [] hs o = tt
  placed_from (b ∷ bs) hs o = (
    from_all b.label (block_words b) (λ w h. let p = places.words b w hb h in (p.object, p.after)),
    places.ordered b hb,
    before_blocks (block_words b) bs
        (λ n hn. before_all n.label (block_words b) (λ w hw. behind_words b n w hb (hs n (inr hn)) (o.0 n.label (has_label bs n hn)) hw)),
    exits b.last b bs refl hb (λ n h. hs n (inr h)) o (form.lasts b hb),
    placed_from bs (λ n h. hs n (inr h)) o.1,
  )
    where
      hb : Has g.blocks b
      hb = hs b (inl refl)

  pub placed : Placed g.blocks
  placed = placed_from g.blocks (λ n h. h) graph.blocks

-- ---- targets

abbrev pub no_codes : Act → Type 0
no_codes (act.AddrLda ra rb t) = IsNoCode t
no_codes (act.AddrHi ra rb t) = IsNoCode t
no_codes (act.UseLo i hi t) = IsNoCode t
no_codes (act.UseGp i gp t) = IsNoCode t
no_codes _ = Unit {0}

-- the target of a use of a high half is that of an op
target_none : (os : List Op) (hi : Place) (t : Target) → ((o : Op) → Has os o → HasNoCode o.kind) → target_at os hi ≡ Some t → IsNoCode t
target_none [] hi t f e = cc
target_none (o ∷ os) hi t f e = by_place (place_eq o.place hi) o.kind (f o (inl refl)) (target_none os hi t (λ p h. f p (inr h))) e
  where
    by_kind :
        (k : OpKind) → HasNoCode k → (target_at os hi ≡ Some t → IsNoCode t) → option_or (high_target k) (target_at os hi) ≡ Some t → IsNoCode t
    by_kind (op.AddrHi ra rb u least) n i e = let x : u ≡ t = cc in subst (λ (y : Target). IsNoCode y) x n
    by_kind (op.Plain j) n i e = i e
    by_kind (op.Lit ra rb u) n i e = i e
    by_kind (op.AddrLda ra rb u) n i e = i e
    by_kind (op.UseLo j h) n i e = i e
    by_kind (op.UseGp j gp u) n i e = i e
    by_kind (op.GpHi ra rb base) n i e = i e
    by_kind (op.GpLo ra rb h) n i e = i e

    by_place :
        (b : Bool) (k : OpKind) → HasNoCode k → (target_at os hi ≡ Some t → IsNoCode t) →
        option_or (cond b (high_target k) None) (target_at os hi) ≡ Some t → IsNoCode t
    by_place true k n i e = by_kind k n i e
    by_place false k n i e = i e

use_none : (i : Instr) (hi : Place) (o : Option Target) → ((t : Target) → o ≡ Some t → IsNoCode t) → no_codes (use_of i hi o)
use_none i hi None f = tt
use_none i hi (Some t) f = f t refl

op_none : (ops : List Op) (k : OpKind) → ((o : Op) → Has ops o → HasNoCode o.kind) → HasNoCode k → no_codes (op_act ops k)
op_none ops (op.UseLo i hi) f n = use_none i hi (target_at ops hi) (λ t e. target_none ops hi t f e)
op_none ops (op.Plain i) f n = tt
op_none ops (op.Lit ra rb t) f n = tt
op_none ops (op.AddrLda ra rb t) f n = n
op_none ops (op.AddrHi ra rb t least) f n = n
op_none ops (op.UseGp i gp t) f n = n
op_none ops (op.GpHi ra rb base) f n = tt
op_none ops (op.GpLo ra rb hi) f n = tt

cond_none : (i : Instr) (to : Place) → no_codes (cond_act i to)
cond_none (Branch op ra d) to = tt
cond_none (Jumps kind ra rb hint) to = tt
cond_none (Mem op ra rb d) to = tt
cond_none (Alu op ra rb rc) to = tt
cond_none (Cmov c ra rb rc) to = tt
cond_none (Misc op ra rb) to = tt
cond_none Fnop to = tt
cond_none Halt to = tt
cond_none Callsys to = tt

last_none : (last : Last) (w : Word) → Has (last_words last) w → no_codes w.act
last_none Fall w h = absurd h
last_none Off w h = absurd h
last_none (Br at op ra to) w (inl e) = subst (λ (y : Word). no_codes y.act) e tt
last_none (Cond at i to) w (inl e) = subst (λ (y : Word). no_codes y.act) e (cond_none i to)
last_none (Call at op ra to) w (inl e) = subst (λ (y : Word). no_codes y.act) e tt
last_none (CallBy at i) w (inl e) = subst (λ (y : Word). no_codes y.act) e tt
last_none (JumpBy at i) w (inl e) = subst (λ (y : Word). no_codes y.act) e tt
last_none (Br at op ra to) w (inr h) = absurd h
last_none (Cond at i to) w (inr h) = absurd h
last_none (Call at op ra to) w (inr h) = absurd h
last_none (CallBy at i) w (inr h) = absurd h
last_none (JumpBy at i) w (inr h) = absurd h

-- no word that came from a load of an address, or from a use of it, has a place in code as its target
pub none_named : (g : GraphView) → HasNoCodes g → (b : Block) (w : Word) → Has g.blocks b → Has (block_words b) w → no_codes w.act
none_named g none b w hb h = by_case (has_append (map (op_word (ops_of b)) (ops_of b)) (last_words b.last) w h)
  where
    at_op : OfOp (ops_of b) w (ops_of b) → no_codes w.act
    at_op r = subst (λ (y : Word). no_codes y.act) r.word (op_none (ops_of b) r.op.kind (λ o m. none.none b o hb m) (none.none b r.op hb r.among))

    by_case : Has (map (op_word (ops_of b)) (ops_of b)) w ⊎ Has (last_words b.last) w → no_codes w.act
    by_case (inl m) = at_op (of_op (ops_of b) (ops_of b) w m)
    by_case (inr m) = last_none b.last w m
