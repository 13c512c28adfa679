-- The landing places of words, as walks list them.
use Rattle.std.proofs.Common.{◌≡◌, ◌<◌, ◌≤◌, ◌+◌, inl, inr, ℕ, ◌^◌, Bool, true, false, cond, ◌==◌, List, [], ◌∷◌, ◌++◌, Option, Some, None, refl, sym, ap, ◌∙◌, subst, arith}
use Rattle.std.specs.Prelude.{map, flat_map, not, option_map}
use Rattle.std.proofs.lemmas.Bool.{true≢false, eqb-true}
use Rattle.om_isa.specs.declared.instr.BrOp.{BrOp}
use Rattle.om_isa.specs.declared.instr.BrOp.TheVariants.{Br, Bsr, If}
use Rattle.om_isa.specs.declared.instr.Instr.{Instr}
use Rattle.om_isa.specs.declared.instr.Instr.TheVariants.{Mem, Jump, Branch, Alu, Cmov, Misc, Fnop, Halt, Callsys}
use Rattle.om_value.specs.declared.value.Place.{Place}
use Rattle.om_value.specs.declared.value.Target.{Target}
use Rattle.om_value.specs.declared.value.Target.TheVariants as target
use Rattle.om_prog.specs.Act.{Word}
use Rattle.om_prog.specs.Act as act
use Rattle.om_prog.specs.Step.{next_place}
use Rattle.om_graph.specs.declared.op.Op.{Op}
use Rattle.om_graph.specs.declared.op.OpKind.{OpKind}
use Rattle.om_graph.specs.declared.op.OpKind.TheVariants as op
use Rattle.om_graph.specs.declared.op.Last.{Last}
use Rattle.om_graph.specs.declared.op.Last.TheVariants as last
use Rattle.om_graph.specs.View.{Block, GraphView, Has, ops_of, labelled, block_of, last_of}
use Rattle.om_graph.specs.Form.{LastForm, OpForm, IsStraight, ends_block, text_size}
use Rattle.om_graph.specs.Run.{op_act, op_word, use_of, target_at, last_words, block_words, all_words}
use Rattle.om_graph.specs.Outs.{plain_links, branch_links}
use Rattle.om_blocks.specs.IsFlow.{HasFlow}
use Rattle.om_blocks.specs.Filling.{word_lands, list_of, numbers_at, kind_code, link_place, places_of, places_behind}
use Rattle.om_blocks.proofs.Walking.{assoc, no_more, map_both, found_block}

-- ---- lists

pub flat_both : {A B : Type 0} (f : A → List B) (xs ys : List A) → flat_map f (xs ++ ys) ≡ flat_map f xs ++ flat_map f ys
flat_both f [] ys = refl
flat_both f (x ∷ xs) ys = ap (λ l. f x ++ l) (flat_both f xs ys) ∙ sym (assoc (f x) (flat_map f xs) (flat_map f ys))

pub numbers_both : (g : GraphView) (ps qs : List Place) → numbers_at g (ps ++ qs) ≡ numbers_at g ps ++ numbers_at g qs
numbers_both g ps qs = flat_both (λ q. list_of (labelled g q)) ps qs

pub one_number : (g : GraphView) (q : Place) → numbers_at g (q ∷ []) ≡ list_of (labelled g q)
one_number g q = no_more (list_of (labelled g q))

-- ---- the word of an op

no_link : (i : Instr) → ends_block i ≡ false → plain_links i ≡ false
no_link (Jump k ra rb h) e = absurd (true≢false e)
no_link (Mem op ra rb d) e = refl
no_link (Branch op ra d) e = refl
no_link (Alu op ra rb rc) e = refl
no_link (Cmov k ra rb rc) e = refl
no_link (Misc op ra rb) e = refl
no_link Fnop e = refl
no_link Halt e = refl
no_link Callsys e = refl

pub op_lands : (ops : List Op) (at : Place) (k : OpKind) → OpForm k → word_lands (record { at = at; act = op_act ops k }) ≡ places_of (kind_code k)
op_lands ops at (op.Plain i) f = rw (no_link i f) refl
op_lands ops at (op.Lit ra rb (target.Code q)) f = refl
op_lands ops at (op.Lit ra rb (target.Num n)) f = refl
op_lands ops at (op.Lit ra rb (target.Ptr r x)) f = refl
op_lands ops at (op.AddrLda ra rb t) f = refl
op_lands ops at (op.AddrHi ra rb t least) f = refl
op_lands ops at (op.UseGp i gp t) f = refl
op_lands ops at (op.GpHi ra rb base) f = refl
op_lands ops at (op.GpLo ra rb hi) f = refl
op_lands ops at (op.UseLo i hi) f = by_target (target_at ops hi)
  where
    by_target : (o : Option Target) → word_lands (record { at = at; act = use_of i hi o }) ≡ []
    by_target None = refl
    by_target (Some t) = refl

-- ---- the word that ends a block

link_of : (op : BrOp) (ra : ℕ) → IsStraight op → (ra ≡ 31 → ⊥) → branch_links op ra ≡ true
link_of Br ra s n = not_false (ra == 31) refl
  where
    not_false : (t : Bool) → (ra == 31) ≡ t → not t ≡ true
    not_false true e = absurd (n (eqb-true ra 31 e))
    not_false false e = refl
link_of Bsr ra s n = not_false (ra == 31) refl
  where
    not_false : (t : Bool) → (ra == 31) ≡ t → not t ≡ true
    not_false true e = absurd (n (eqb-true ra 31 e))
    not_false false e = refl
link_of (If k) ra s n = absurd s

no_link_of : (op : BrOp) (ra : ℕ) → IsStraight op → ra ≡ 31 → branch_links op ra ≡ false
no_link_of Br ra s e = rw e refl
no_link_of Bsr ra s e = rw e refl
no_link_of (If k) ra s e = absurd s

pub last_lands : (l : Last) → LastForm l → flat_map word_lands (last_words l) ≡ places_behind (link_place l)
last_lands last.Fall f = refl
last_lands last.Off f = refl
last_lands (last.Br at op ra to) f = rw (no_link_of op ra f.0 f.1) refl
last_lands (last.Call at op ra to) f = rw (link_of op ra f.0 f.1) refl
last_lands (last.Cond at i to) f = by_instr i f
  where
    by_instr : (i : Instr) → LastForm (last.Cond at i to) → flat_map word_lands (last_words (last.Cond at i to)) ≡ []
    by_instr (Branch (If k) ra d) f = refl
    by_instr (Branch Br ra d) f = absurd f
    by_instr (Branch Bsr ra d) f = absurd f
    by_instr (Jump k ra rb h) f = absurd f
    by_instr (Mem op ra rb d) f = absurd f
    by_instr (Alu op ra rb rc) f = absurd f
    by_instr (Cmov k ra rb rc) f = absurd f
    by_instr (Misc op ra rb) f = absurd f
    by_instr Fnop f = absurd f
    by_instr Halt f = absurd f
    by_instr Callsys f = absurd f
last_lands (last.CallBy at i) f = by_instr i f
  where
    by_test : (ra : ℕ) → (ra ≡ 31 → ⊥) → (t : Bool) → (ra == 31) ≡ t → (cond (not t) (next_place at ∷ []) []) ++ [] ≡ next_place at ∷ []
    by_test ra f true e = absurd (f (eqb-true ra 31 e))
    by_test ra f false e = refl

    by_instr : (i : Instr) → LastForm (last.CallBy at i) → flat_map word_lands (last_words (last.CallBy at i)) ≡ next_place at ∷ []
    by_instr (Jump k ra rb h) f = by_test ra f (ra == 31) refl
    by_instr (Branch op ra d) f = absurd f
    by_instr (Mem op ra rb d) f = absurd f
    by_instr (Alu op ra rb rc) f = absurd f
    by_instr (Cmov k ra rb rc) f = absurd f
    by_instr (Misc op ra rb) f = absurd f
    by_instr Fnop f = absurd f
    by_instr Halt f = absurd f
    by_instr Callsys f = absurd f
last_lands (last.JumpBy at i) f = by_instr i f
  where
    by_instr : (i : Instr) → LastForm (last.JumpBy at i) → flat_map word_lands (last_words (last.JumpBy at i)) ≡ []
    by_instr (Jump k ra rb h) f = rw f refl
    by_instr (Branch op ra d) f = absurd f
    by_instr (Mem op ra rb d) f = absurd f
    by_instr (Alu op ra rb rc) f = absurd f
    by_instr (Cmov k ra rb rc) f = absurd f
    by_instr (Misc op ra rb) f = absurd f
    by_instr Fnop f = absurd f
    by_instr Halt f = absurd f
    by_instr Callsys f = absurd f

-- ---- walks

-- what the ops of a block so far name
pub record Landed (g : GraphView) (start : List ℕ) (b : Block) (ops : List Op) (lands : List ℕ) : Type 0 where
  pub are : lands ≡ start ++ numbers_at g (flat_map word_lands (map (op_word (ops_of b)) ops))

pub record AllLanded (g : GraphView) (done : List Block) (lands : List ℕ) : Type 0 where
  pub are : lands ≡ numbers_at g (g.roots ++ flat_map word_lands (all_words done))

pub landed_first : (g : GraphView) (start : List ℕ) (b : Block) → Landed g start b [] start
landed_first g start b = record { are = sym (no_more start) }

pub landed_more :
    (g : GraphView) (flow : HasFlow g) (start : List ℕ) (b : Block) (ops : List Op) (o : Op) (mid new : List ℕ) → Has g.blocks b → Has (ops_of b) o →
    new ≡ mid ++ numbers_at g (places_of (kind_code o.kind)) → Landed g start b ops mid → Landed g start b (ops ++ o ∷ []) new
landed_more g flow start b ops o mid new hb ho e l = record {
  are =
      e ∙ ap (λ (x : List ℕ). x ++ numbers_at g (places_of (kind_code o.kind))) l.are
      ∙ assoc start (numbers_at g (flat_map word_lands (map (op_word (ops_of b)) ops))) (numbers_at g (places_of (kind_code o.kind)))
      ∙ ap (λ (x : List ℕ). start ++ x) (
      ap (λ (x : List Place). numbers_at g (flat_map word_lands (map (op_word (ops_of b)) ops)) ++ numbers_at g x) (sym (no_more (places_of (kind_code o.kind))) ∙ ap (λ (x : List Place). x ++ []) (sym (op_lands (ops_of b) o.place o.kind (flow.form.ops b o hb ho))))
      ∙ sym (numbers_both g (flat_map word_lands (map (op_word (ops_of b)) ops)) (flat_map word_lands (map (op_word (ops_of b)) (o ∷ []))))
      ∙ ap (numbers_at g) (sym (flat_both word_lands (map (op_word (ops_of b)) ops) (map (op_word (ops_of b)) (o ∷ []))) ∙ ap (flat_map word_lands) (sym (map_both (op_word (ops_of b)) ops (o ∷ []))))
      );
}

pub landed_end :
    (g : GraphView) (flow : HasFlow g) (start : List ℕ) (b : Block) (mid new : List ℕ) (last : Last) → Has g.blocks b → b.last ≡ last →
    new ≡ mid ++ numbers_at g (places_behind (link_place last)) → Landed g start b (ops_of b) mid → new ≡ start ++ numbers_at g (flat_map word_lands (block_words b))
landed_end g flow start b mid new last hb same e l =
    let ends : flat_map word_lands (last_words b.last) ≡ places_behind (link_place last) =
    last_lands b.last (flow.form.lasts b hb) ∙ ap (λ (x : Last). places_behind (link_place x)) same in
    e ∙ ap (λ (x : List ℕ). x ++ numbers_at g (places_behind (link_place last))) l.are
    ∙ assoc start (numbers_at g (flat_map word_lands (map (op_word (ops_of b)) (ops_of b)))) (numbers_at g (places_behind (link_place last)))
    ∙ ap (λ (x : List ℕ). start ++ x) (
    ap (λ (x : List Place). numbers_at g (flat_map word_lands (map (op_word (ops_of b)) (ops_of b))) ++ numbers_at g x) (sym ends)
    ∙ sym (numbers_both g (flat_map word_lands (map (op_word (ops_of b)) (ops_of b))) (flat_map word_lands (last_words b.last)))
    ∙ ap (numbers_at g) (sym (flat_both word_lands (map (op_word (ops_of b)) (ops_of b)) (last_words b.last)))
    )

pub all_first : (g : GraphView) (lands : List ℕ) → lands ≡ numbers_at g g.roots → AllLanded g [] lands
all_first g lands e = record { are = e ∙ ap (numbers_at g) (sym (no_more g.roots)) }

pub all_more :
    (g : GraphView) (done : List Block) (x : Block) (mid new : List ℕ) → new ≡ mid ++ numbers_at g (flat_map word_lands (block_words x)) → AllLanded g done mid → AllLanded g (done ++ x ∷ []) new
all_more g done x mid new e l = record {
  are =
      e ∙ ap (λ (y : List ℕ). y ++ numbers_at g (flat_map word_lands (block_words x))) l.are
      ∙ sym (numbers_both g (g.roots ++ flat_map word_lands (all_words done)) (flat_map word_lands (block_words x)))
      ∙ ap (numbers_at g) (
      assoc g.roots (flat_map word_lands (all_words done)) (flat_map word_lands (block_words x))
      ∙ ap (λ (y : List Place). g.roots ++ y) (
      sym (flat_both word_lands (all_words done) (block_words x))
      ∙ ap (flat_map word_lands) (ap (λ (y : List Word). all_words done ++ y) (sym (no_more (block_words x))) ∙ sym (flat_both block_words done (x ∷ [])))
      ));
}

-- ---- the place behind a word that links

right_has : (xs ys : List Word) (w : Word) → Has ys w → Has (xs ++ ys) w
right_has [] ys w h = h
right_has (x ∷ xs) ys w h = inr (right_has xs ys w h)

last_word_at : (l : Last) (at : Place) → link_place l ≡ Some at → (w : Word) × Has (last_words l) w × (w.at ≡ at)
last_word_at last.Fall at e = cc
last_word_at last.Off at e = cc
last_word_at (last.Br q op ra to) at e = cc
last_word_at (last.Cond q i to) at e = cc
last_word_at (last.JumpBy q i) at e = cc
last_word_at (last.Call q op ra to) at e = (record { at = q; act = act.To op ra to }, inl refl, cc)
last_word_at (last.CallBy q i) at e = (record { at = q; act = act.Plain i }, inl refl, cc)

pub link_fits : (g : GraphView) → HasFlow g → (id : ℕ) (last : Last) → last_of g id ≡ Some last → (at : Place) → link_place last ≡ Some at → at.off + 4 < 2 ^ 32
link_fits g flow id last e at l = by_block (block_of g id) refl e
  where
    by_block : (o : Option Block) → block_of g id ≡ o → option_map (λ (b : Block). b.last) o ≡ Some last → at.off + 4 < 2 ^ 32
    by_block None q e = cc
    by_block (Some b) q e =
        let s : b.last ≡ last = cc in
        let k = last_word_at last at l in
        let has : Has (block_words b) k.0 = right_has (map (op_word (ops_of b)) (ops_of b)) (last_words b.last) k.0 (subst (λ (x : Last). Has (last_words x) k.0) (sym s) k.1) in
        let p = flow.places.words b k.0 (found_block g.blocks id b q) has in
        let i : at.off + 4 ≤ text_size g at.obj = subst (λ (x : Place). x.off + 4 ≤ text_size g x.obj) k.2 p.inside in
        omega (arith, i, flow.small at.obj)
