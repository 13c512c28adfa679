-- Image words that are written block by block and op by op, and what they are when all are.
use Rattle.std.proofs.Common.{◌≡◌, inl, inr, ℕ, zero, suc, ◌<◌, Bool, true, false, cond, ◌==◌, List, [], ◌∷◌, ◌++◌, length, replicate, Option, Some, None, refl, ap, sym, subst, ◌∙◌, arith, append_assoc}
use Rattle.std.specs.Prelude.{map, is_some, slice_get, slice_set, find, option_map, option_and_then, ℤ}
use Rattle.std.specs.Option.{option_or}
use Rattle.std.proofs.lemmas.Bool.{eqb-true, eq-eqb}
use Rattle.om_value.specs.declared.value.Target.{Target}
use Rattle.om_prog.specs.Act.{Word}
use Rattle.om_prog.specs.View.{ProgramView}
use Rattle.om_graph.specs.declared.op.Op.{Op}
use Rattle.om_graph.specs.declared.op.Last.{Last}
use Rattle.om_graph.specs.declared.op.OpKind.{OpKind}
use Rattle.om_graph.specs.declared.op.OpKind.TheVariants as op
use Rattle.om_graph.specs.View.{Node, Block, GraphView, Has, ops_of, block_of, is_live_block, first_op_of, next_op_of, op_of, last_of, block_id_after, first_block_id, first_id, is_live_op, is_block}
use Rattle.om_graph.specs.Run.{words, all_words, block_words, op_word, last_words}
use Rattle.om_graph.specs.Held.{IsGraph}
use Rattle.om_layout.specs.Layout.{LayoutView}
use Rattle.om_encode.specs.declared.highs.High.{High}
use Rattle.om_encode.specs.Fields.{HasForm}
use Rattle.om_encode.specs.Encoded.{IsEncodable, AreForms, Writes, WritesIf, WritesOp, op_words}
use Rattle.om_encode.specs.Written.{AreHighs, FitsOp, FitsLast, last_high, last_instr, high_in, noted}
use Rattle.om_encode.proofs.Answered.{formed, last_fits, last_formed}
use Rattle.om_encode.proofs.Fitted.{fits_op}
use Rattle.om_encode.proofs.UsesOfHighs.{map_append, last_more}
use Rattle.om_encode.proofs.Walks.{append_none, AtBlock, ThisBlock, this_block, behind_block, AtOp, ThisOp, this_op, live_here, op_here, behind_op, all_ops, all_blocks, fewer_ops, fewer_blocks, ops_left, blocks_left, start_blocks}

-- ---- forms

module _ (p : ProgramView) (g : GraphView) (l : LayoutView) where
  forms_both : (vs ws : List Word) (xs ys : List ℕ) → AreForms p g l vs xs → AreForms p g l ws ys → AreForms p g l (vs ++ ws) (xs ++ ys)
  forms_both [] ws [] ys f h = h
  forms_both [] ws (x ∷ xs) ys f h = absurd f
  forms_both (v ∷ vs) ws [] ys f h = absurd f
  forms_both (v ∷ vs) ws (x ∷ xs) ys f h = (f.0, forms_both vs ws xs ys f.1 h)

  pub forms_length : (ws : List Word) (xs : List ℕ) → AreForms p g l ws xs → length xs ≡ length ws
  forms_length [] [] f = refl
  forms_length [] (x ∷ xs) f = absurd f
  forms_length (w ∷ ws) [] f = absurd f
  forms_length (w ∷ ws) (x ∷ xs) f = ap suc (forms_length ws xs f.1)

  pub forms_at : (ws : List Word) (xs : List ℕ) (k : ℕ) (w : Word) → AreForms p g l ws xs → slice_get ws k ≡ Some w → (x : ℕ) × (slice_get xs k ≡ Some x) × HasForm p g l w.at w.act x
  forms_at [] xs k w f e = cc
  forms_at (v ∷ vs) [] k w f e = absurd f
  forms_at (v ∷ vs) (x ∷ xs) zero w f e =
      let s : v ≡ w = cc in
      (x, refl, subst (λ (y : Word). HasForm p g l y.at y.act x) s f.0)
  forms_at (v ∷ vs) (x ∷ xs) (suc k) w f e = forms_at vs xs k w f.1 e

  pub writes_both : (vs ws : List Word) (a b c : List ℕ) → Writes p g l vs a b → Writes p g l ws b c → Writes p g l (vs ++ ws) a c
  writes_both vs ws a b c f h = record {
    added = f.added ++ h.added;
    text = h.text ∙ ap (λ (xs : List ℕ). xs ++ h.added) f.text ∙ append_assoc a f.added h.added;
    forms = forms_both vs ws f.added h.added f.forms h.forms;
  }

  pub writes_none : (a : List ℕ) → Writes p g l [] a a
  writes_none a = record { added = []; text = sym (append_none a); forms = tt }

-- ---- op by op

-- the words of some ops of a block, in front of the op of an id, are behind some image words
pub record OpsSoFar (p : ProgramView) (g : GraphView) (l : LayoutView) (id : ℕ) (next : Option ℕ) (highs : List (Option High)) (old text : List ℕ) : Type 0 where
  pub block : Block
  pub found : block_of g id ≡ Some block
  pub among : Has g.blocks block
  pub done : List Node
  pub left : List Node
  pub stands : AtOp block next done left
  pub halves : AreHighs (map (λ n. n.op) done) highs
  pub written : Writes p g l (map (op_word (ops_of block)) (map (λ n. n.op) done)) old text

-- the block of an id
pub record IsBlockAt (g : GraphView) (id : ℕ) : Type 0 where
  pub block : Block
  pub found : block_of g id ≡ Some block
  pub among : Has g.blocks block

found_among : {A : Type 0} (f : A → Bool) (xs : List A) (x : A) → find f xs ≡ Some x → Has xs x
found_among f [] x e = cc
found_among f (y ∷ xs) x e = by_test (f y) e (found_among f xs x)
  where
    by_test : (b : Bool) → cond b (Some y) (find f xs) ≡ Some x → (find f xs ≡ Some x → Has xs x) → Has (y ∷ xs) x
    by_test true e i = let s : y ≡ x = cc in inl s
    by_test false e i = inr (i e)

pub block_at : (g : GraphView) (id : ℕ) → is_live_block g id ≡ true → IsBlockAt g id
block_at g id e = by_found (block_of g id) refl e
  where
    by_found : (o : Option Block) → block_of g id ≡ o → is_some o ≡ true → IsBlockAt g id
    by_found None f e = cc
    by_found (Some b) f e = record { block = b; found = f; among = found_among (is_block id) g.blocks b f }

pub no_highs : (highs : List (Option High)) → highs ≡ replicate 32 None → AreHighs [] highs
no_highs highs e = record {
  count = ap (λ (hs : List (Option High)). length hs) e ∙ length_of 32;
  each = λ r h. ap (λ (hs : List (Option High)). slice_get hs r) e ∙ none_at 32 r h;
}
  where
    length_of : (n : ℕ) → length (replicate {A = Option High} n None) ≡ n
    length_of zero = refl
    length_of (suc n) = ap suc (length_of n)

    none_at : (n k : ℕ) → k < n → slice_get (replicate {A = Option High} n None) k ≡ Some None
    none_at zero k h = absurd (omega arith)
    none_at (suc n) zero h = refl
    none_at (suc n) (suc k) h = none_at n k (omega (arith, h))

set_length : (hs : List (Option High)) (r : ℕ) (x : Option High) → length (slice_set hs r x) ≡ length hs
set_length [] r x = refl
set_length (h ∷ hs) zero x = refl
set_length (h ∷ hs) (suc r) x = ap suc (set_length hs r x)

set_same : (hs : List (Option High)) (r : ℕ) (x : Option High) → r < length hs → slice_get (slice_set hs r x) r ≡ Some x
set_same [] r x h = absurd (omega arith)
set_same (y ∷ hs) zero x h = refl
set_same (y ∷ hs) (suc r) x h = set_same hs r x (omega (arith, h))

set_other : (hs : List (Option High)) (r k : ℕ) (x : Option High) → (k ≡ r → ⊥) → slice_get (slice_set hs r x) k ≡ slice_get hs k
set_other [] r k x n = refl
set_other (y ∷ hs) zero zero x n = absurd (n refl)
set_other (y ∷ hs) zero (suc k) x n = refl
set_other (y ∷ hs) (suc r) zero x n = refl
set_other (y ∷ hs) (suc r) (suc k) x n = set_other hs r k x (λ e. n (ap suc e))

-- one op more
highs_more : (os : List Op) (o : Op) (highs : List (Option High)) → AreHighs os highs → AreHighs (os ++ o ∷ []) (noted highs o.kind)
highs_more os o highs h = by_kind o.kind refl
  where
    same : (k : OpKind) → o.kind ≡ k → ((r : ℕ) → high_in r k ≡ None) → AreHighs (os ++ o ∷ []) highs
    same k e n = record {
      count = h.count;
      each = λ r below.
          h.each r below
          ∙ ap (λ (x : Option High). Some x)
          (sym (last_more r os o ∙ ap (λ (x : Option High). option_or x (last_high r os)) (ap (high_in r) e ∙ n r)));
    }

    set : (ra rb : ℕ) (t : Target) (least : ℤ) → o.kind ≡ op.AddrHi ra rb t least → AreHighs (os ++ o ∷ []) (slice_set highs ra (Some (record { target = t; least = least })))
    set ra rb t least e = record {
      count = set_length highs ra (Some (record { target = t; least = least })) ∙ h.count;
      each = λ r below. by_test r below (ra == r) refl;
    }
      where
        by_test : (r : ℕ) → r < 32 → (b : Bool) → (ra == r) ≡ b → slice_get (slice_set highs ra (Some (record { target = t; least = least }))) r ≡ Some (last_high r (os ++ o ∷ []))
        by_test r below true s =
            let same : ra ≡ r = eqb-true ra r s in
            let n = h.count in
            ap (slice_get (slice_set highs ra (Some (record { target = t; least = least })))) (sym same)
            ∙ set_same highs ra (Some (record { target = t; least = least })) (omega (arith, same, below, n))
            ∙ ap (λ (x : Option High). Some x)
            (sym (last_more r os o ∙ ap (λ (x : Option High). option_or x (last_high r os)) (ap (high_in r) e ∙ ap (λ (b : Bool). cond {A = Option High} b (Some (record { target = t; least = least })) None) s)))
        by_test r below false s =
            set_other highs ra r (Some (record { target = t; least = least })) (λ q. differ (sym (eq-eqb ra r (sym q)) ∙ s))
            ∙ h.each r below
            ∙ ap (λ (x : Option High). Some x)
            (sym (last_more r os o ∙ ap (λ (x : Option High). option_or x (last_high r os)) (ap (high_in r) e ∙ ap (λ (b : Bool). cond {A = Option High} b (Some (record { target = t; least = least })) None) s)))
          where
            differ : true ≡ false → ⊥
            differ e = cc

    by_kind : (k : OpKind) → o.kind ≡ k → AreHighs (os ++ o ∷ []) (noted highs k)
    by_kind (op.AddrHi ra rb t least) e = set ra rb t least e
    by_kind (op.Plain i) e = same (op.Plain i) e (λ r. refl)
    by_kind (op.Lit ra rb t) e = same (op.Lit ra rb t) e (λ r. refl)
    by_kind (op.AddrLda ra rb t) e = same (op.AddrLda ra rb t) e (λ r. refl)
    by_kind (op.UseLo i hi) e = same (op.UseLo i hi) e (λ r. refl)
    by_kind (op.UseGp i gp t) e = same (op.UseGp i gp t) e (λ r. refl)
    by_kind (op.GpHi ra rb b) e = same (op.GpHi ra rb b) e (λ r. refl)
    by_kind (op.GpLo ra rb b) e = same (op.GpLo ra rb b) e (λ r. refl)

module _ (p : ProgramView) (g : GraphView) (l : LayoutView) (id : ℕ) where
  pub ops_start : (next : Option ℕ) (highs : List (Option High)) (old : List ℕ) → is_live_block g id ≡ true → next ≡ first_op_of g id → AreHighs [] highs → OpsSoFar p g l id next highs old old
  ops_start next highs old live e are =
      let b = block_at g id live in
      record {
        block = b.block;
        found = b.found;
        among = b.among;
        done = [];
        left = b.block.ops;
        stands = record { split = refl; next_is = e ∙ ap (λ (o : Option Block). option_and_then (λ (x : Block). first_id x.ops) o) b.found };
        halves = are;
        written = writes_none p g l old;
      }

  module _ (c : IsEncodable p g l) (o : ℕ) (highs : List (Option High)) (old text : List ℕ) (next : Option ℕ) (so : OpsSoFar p g l id next highs old text) (here : next ≡ Some o) where
    this : ThisOp g so.block o so.done
    this = this_op g c.graph.graph so.block so.among o next so.done so.left so.stands here

    pub op_live : is_live_op g o ≡ true
    op_live = live_here g c.graph.graph so.block so.among o so.done this

    abbrev done_ops : List Op
    done_ops = map (λ n. n.op) so.done

    ops_split : ops_of so.block ≡ done_ops ++ this.node.op ∷ map (λ n. n.op) this.rest
    ops_split = ap (λ (ns : List Node). map (λ n. n.op) ns) this.split ∙ map_append (λ (n : Node). n.op) so.done (this.node ∷ this.rest)

    same_op : (x : Op) → op_of g o ≡ Some x → x ≡ this.node.op
    same_op x e = same (sym e ∙ op_here g c.graph.graph so.block so.among o so.done this)
      where
        same : Some x ≡ Some this.node.op → x ≡ this.node.op
        same e = cc

    pub op_can : (x : Op) → op_of g o ≡ Some x → FitsOp p l highs x.place.obj x.kind
    op_can x e =
        subst (λ (y : Op). FitsOp p l highs y.place.obj y.kind) (sym (same_op x e))
        (fits_op p g l c so.block so.among done_ops this.node.op (map (λ n. n.op) this.rest) ops_split highs so.halves)

    pub ops_step :
        (x : Op) (highs2 : List (Option High)) (text2 : List ℕ) (next2 : Option ℕ) → op_of g o ≡ Some x → WritesOp p l highs x text text2 →
        highs2 ≡ noted highs x.kind → next2 ≡ next_op_of g o → OpsSoFar p g l id next2 highs2 old text2
    ops_step x highs2 text2 next2 e w h n = record {
      block = so.block;
      found = so.found;
      among = so.among;
      done = so.done ++ this.node ∷ [];
      left = this.rest;
      stands = behind_op g c.graph.graph so.block so.among o so.done this next2 n;
      halves =
          subst (λ (os : List Op). AreHighs os highs2) (sym (map_append (λ (y : Node). y.op) so.done (this.node ∷ [])))
          (subst (λ (y : Op). AreHighs (done_ops ++ y ∷ []) highs2) (same_op x e)
          (subst (λ (hs : List (Option High)). AreHighs (done_ops ++ x ∷ []) hs) (sym h) (highs_more done_ops x highs so.halves)));
      written =
          subst (λ (ws : List Word). Writes p g l ws old text2) (sym (words_more ∙ map_append (op_word (ops_of so.block)) done_ops (this.node.op ∷ [])))
          (writes_both p g l (map (op_word (ops_of so.block)) done_ops) (op_word (ops_of so.block) this.node.op ∷ []) old text text2 so.written one);
    }
      where
        words_more : map (op_word (ops_of so.block)) (map (λ n. n.op) (so.done ++ this.node ∷ [])) ≡ map (op_word (ops_of so.block)) (done_ops ++ this.node.op ∷ [])
        words_more = ap (λ (os : List Op). map (op_word (ops_of so.block)) os) (map_append (λ (y : Node). y.op) so.done (this.node ∷ []))

        w2 : WritesOp p l highs this.node.op text text2
        w2 = subst (λ (y : Op). WritesOp p l highs y text text2) (same_op x e) w

        one : Writes p g l (op_word (ops_of so.block) this.node.op ∷ []) text text2
        one = record {
          added = w2.written.word ∷ [];
          text = w2.written.text;
          forms = (
            formed p g l c so.block so.among done_ops this.node.op (map (λ n. n.op) this.rest) ops_split highs so.halves w2.instr w2.written.word w2.written.encoded w2.is,
            tt,
          );
        }

    pub ops_fewer : (next2 : Option ℕ) → next2 ≡ next_op_of g o → ops_left g id next2 < ops_left g id next
    ops_fewer next2 n = subst (λ (x : Option ℕ). ops_left g id next2 < ops_left g id x) (sym here) (fewer_ops g c.graph.graph so.block so.among o so.done this id so.found next2 n)

  pub ops_end : (highs : List (Option High)) (old text : List ℕ) (next : Option ℕ) → OpsSoFar p g l id next highs old text → next ≡ None → (b : Block) → block_of g id ≡ Some b → Writes p g l (op_words b) old text
  ops_end highs old text next so e b f =
      let s : so.block ≡ b = same (sym so.found ∙ f) in
      let d = all_ops so.block next so.done so.left so.stands e in
      subst (λ (x : Block). Writes p g l (op_words x) old text) s
      (subst (λ (ns : List Node). Writes p g l (map (op_word (ops_of so.block)) (map (λ n. n.op) ns)) old text) (sym d) so.written)
    where
      same : Some so.block ≡ Some b → so.block ≡ b
      same e = cc

-- ---- the end of a block

module _ (p : ProgramView) (g : GraphView) (l : LayoutView) (c : IsEncodable p g l) (id : ℕ) where
  last_is : (b : Block) (x : Last) → block_of g id ≡ Some b → last_of g id ≡ Some x → x ≡ b.last
  last_is b x f e = same (sym e ∙ ap (λ (o : Option Block). option_map (λ (y : Block). y.last) o) f)
    where
      same : Some x ≡ Some b.last → x ≡ b.last
      same e = cc

  pub last_can : is_live_block g id ≡ true → (x : Last) → last_of g id ≡ Some x → FitsLast l x
  last_can live x e =
      let b = block_at g id live in
      subst (λ (y : Last). FitsLast l y) (sym (last_is b.block x b.found e)) (last_fits p g l c b.block b.among)

  pub block_done : (x : Last) (old mid new : List ℕ) → last_of g id ≡ Some x → ((b : Block) → block_of g id ≡ Some b → Writes p g l (op_words b) old mid) → WritesIf (last_instr l x) mid new → (b : Block) → block_of g id ≡ Some b → Writes p g l (block_words b) old new
  block_done x old mid new e ops w b f =
      writes_both p g l (op_words b) (last_words b.last) old mid new (ops b f)
      (last_formed p g l b.last mid new (c.graph.form.lasts b (found_among (is_block id) g.blocks b f))
      (subst (λ (y : Last). WritesIf (last_instr l y) mid new) (last_is b x f e) w))

-- ---- block by block

pub all_words_more : (bs : List Block) (b : Block) → all_words (bs ++ b ∷ []) ≡ all_words bs ++ block_words b
all_words_more [] b = append_none (block_words b)
all_words_more (x ∷ bs) b = ap (λ (ws : List Word). block_words x ++ ws) (all_words_more bs b) ∙ sym (append_assoc (block_words x) (all_words bs) (block_words b))

pub record TextSoFar (p : ProgramView) (g : GraphView) (l : LayoutView) (next : Option ℕ) (text : List ℕ) : Type 0 where
  pub done : List Block
  pub left : List Block
  pub stands : AtBlock g next done left
  pub written : Writes p g l (all_words done) [] text

module _ (p : ProgramView) (g : GraphView) (l : LayoutView) where
  pub text_start : (next : Option ℕ) (text : List ℕ) → next ≡ first_block_id g.blocks → text ≡ [] → TextSoFar p g l next text
  text_start next text e t = record {
    done = [];
    left = g.blocks;
    stands = start_blocks g next e;
    written = subst (λ (xs : List ℕ). Writes p g l [] [] xs) (sym t) (writes_none p g l []);
  }

  module _ (graph : IsGraph g) (id : ℕ) (next : Option ℕ) (text : List ℕ) (so : TextSoFar p g l next text) (here : next ≡ Some id) where
    this_one : ThisBlock g id so.done
    this_one = this_block g id next so.done so.left graph so.stands here

    pub block_live : is_live_block g id ≡ true
    block_live = ap (λ (x : Option Block). is_some x) this_one.found

    pub text_step :
        (text2 : List ℕ) (next2 : Option ℕ) → ((b : Block) → block_of g id ≡ Some b → Writes p g l (block_words b) text text2) →
        next2 ≡ block_id_after id g.blocks → TextSoFar p g l next2 text2
    text_step text2 next2 w n = record {
      done = so.done ++ this_one.block ∷ [];
      left = this_one.rest;
      stands = behind_block g id so.done this_one graph next2 n;
      written =
          subst (λ (ws : List Word). Writes p g l ws [] text2) (sym (all_words_more so.done this_one.block))
          (writes_both p g l (all_words so.done) (block_words this_one.block) [] text text2 so.written (w this_one.block this_one.found));
    }

    pub text_fewer : (next2 : Option ℕ) → next2 ≡ block_id_after id g.blocks → blocks_left g next2 < blocks_left g next
    text_fewer next2 n = subst (λ (x : Option ℕ). blocks_left g next2 < blocks_left g x) (sym here) (fewer_blocks g id so.done this_one graph next2 n)

  pub text_end : (next : Option ℕ) (text : List ℕ) → TextSoFar p g l next text → next ≡ None → AreForms p g l (words g) text
  text_end next text so e =
      let d = all_blocks g next so.done so.left so.stands e in
      subst (λ (bs : List Block). AreForms p g l (all_words bs) text) (sym d)
      (subst (λ (xs : List ℕ). AreForms p g l (all_words so.done) xs) (sym so.written.text) so.written.forms)
