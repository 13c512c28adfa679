-- A call made direct, or one that goes past a pair, leaves a graph of a program one.
use Rattle.std.proofs.Common.{◌≡◌, inl, inr, ◌≤◌, ℕ, ◌+◌, Bool, true, false, cond, ◌&&◌, List, [], ◌∷◌, Some, refl, sym, ap, ◌∙◌, subst, arith}
use Rattle.std.specs.Prelude.{not, nat_le, ◌-◌, find, is_some}
use Rattle.std.proofs.lemmas.Bool.{true≢false, le-leb}
use Rattle.om_isa.specs.declared.instr.BrOp.TheVariants.{Bsr}
use Rattle.om_isa.specs.declared.instr.JumpOp.TheVariants.{Jsr}
use Rattle.om_isa.specs.declared.instr.Instr.{Instr}
use Rattle.om_isa.specs.declared.instr.Instr.TheVariants.{Jump}
use Rattle.om_value.specs.declared.value.Place.{Place}
use Rattle.om_value.specs.Same.{place_eq}
use Rattle.om_value.specs.declared.value.Target.TheVariants as target
use Rattle.om_prog.specs.Act.{Act, Plain, Lit, To, Word, act_writes}
use Rattle.om_prog.specs.Flow.{Among}
use Rattle.om_prog.specs.Step.{next_place}
use Rattle.om_prog.specs.View.{ProgramView}
use Rattle.om_prog.specs.Valid.{IsProgram}
use Rattle.om_graph.specs.declared.op.Last.{Last}
use Rattle.om_graph.specs.declared.op.Last.TheVariants as last
use Rattle.om_graph.specs.View.{Block, Shape, GraphView, Has, block_of, last_set}
use Rattle.om_graph.specs.Run.{last_words, block_words, shape_words}
use Rattle.om_graph.specs.Form.{LastForm, IsJumpWith, IsLink, IsNoLink}
use Rattle.om_graph.specs.Kept.{IsInKeptSet, named, names, Links, KeptInBlocks}
use Rattle.om_graph.specs.Index.{InReach, BranchesInReach}
use Rattle.om_graph.specs.Lifted.{lifted_shapes}
use Rattle.om_graph.specs.Landing.{is_adjacent, is_opening_pair}
use Rattle.om_graph.specs.Uses.{IsKnownCall}
use Rattle.om_graph.specs.OfProgram.{MayBePassed, CallsTo, IsForm, as_was, near, number, far, by_gp, by_high, byte, called, direct, IsBlockOf, IsGraphOf}
use Rattle.om_graph.proofs.Labels.{append_right, equal_places, same_place}
use Rattle.om_graph.proofs.Forms.{opening_is}
use Rattle.om_passes.proofs.WordEdits.{WordSet}
use Rattle.om_passes.proofs.NewForms as new
use Rattle.om_graph.specs.Weight.{one_if, opens, last_weight}
use Rattle.om_passes.specs.Step.{Onward}
use Rattle.om_passes.proofs.Edits.{first_in}
use Rattle.om_passes.proofs.Parted.{is_false}
use Rattle.om_passes.proofs.BehindPairs.{past_kept}
use Rattle.om_passes.proofs.OneEdit.{here, in_order, s_order, last_set_of}

first_of_both : (a b : Bool) → (a && b) ≡ true → a ≡ true
first_of_both true b h = refl
first_of_both false b h = h

last_of_both : (a b : Bool) → (a && b) ≡ true → b ≡ true
last_of_both true b h = h
last_of_both false b h = absurd (true≢false (sym h))

-- the place behind an opening pair begins none
module _ (p : ProgramView) (q : Place) (m : is_opening_pair p q ≡ true) where
  pub not_twice : is_opening_pair p (next_place (next_place q)) ≡ true → ⊥
  not_twice n = by_front (last_of_both _ _ n)
    where
      same : record (next_place (next_place q)) { off = ((q.off + 4) + 4) - 8 } ≡ q
      same = equal_places (record (next_place (next_place q)) { off = ((q.off + 4) + 4) - 8 }) q refl (omega arith)

      front : is_adjacent p q ≡ true
      front = first_of_both _ _ (first_of_both _ _ m)

      behind : is_adjacent p (record (next_place (next_place q)) { off = ((q.off + 4) + 4) - 8 }) ≡ true
      behind = ap (λ (x : Place). is_adjacent p x) same ∙ front

      by_front : not (nat_le 8 ((q.off + 4) + 4) && is_adjacent p (record (next_place (next_place q)) { off = ((q.off + 4) + 4) - 8 })) ≡ true → ⊥
      by_front h = let l = le-leb 8 ((q.off + 4) + 4) (omega arith) in true≢false (sym h ∙ both_false _ _ l behind)
        where
          both_false : (a b : Bool) → a ≡ true → b ≡ true → not (a && b) ≡ false
          both_false true true x y = refl
          both_false true false x y = absurd (true≢false (sym y))
          both_false false b x y = absurd (true≢false (sym x))

-- a place that may be passed, to which a call goes, is where it goes in the program
same_call : (p : ProgramView) (c q : Place) → CallsTo p c q → MayBePassed p q → c ≡ q
same_call p c q (inl e) m = sym e
same_call p c q (inr e) m = absurd (not_twice p c e.1.opening (subst (λ (x : Place). is_opening_pair p x ≡ true) e.0 m.opening))

past_form : (p : ProgramView) (ss : List Word) (w : Word) (a : Act) (ra : ℕ) (q : Place) → IsForm p ss w a → a ≡ To Bsr ra q → MayBePassed p q → IsForm p ss w (To Bsr ra (next_place (next_place q)))
past_form p ss w a ra q (as_was e) k m = called ra q (next_place (next_place q)) (sym e ∙ k) (inr (refl, m)) refl
past_form p ss w a ra q (near rc rd x r e f) k m = cc
past_form p ss w a ra q (number rc rd n e f) k m = cc
past_form p ss w a ra q (far rc rd x r e f) k m = cc
past_form p ss w a ra q (by_gp load r rd x region i z l s e b f) k m = cc
past_form p ss w a ra q (by_high load r rd x region i z l s e b f) k m = cc
past_form p ss w a ra q (byte load r rd x region i l s e b f) k m = cc
past_form p ss w a ra q (called rc c to e t f) k m =
    let s : To Bsr rc to ≡ To Bsr ra q = sym f ∙ k in
    let reg : rc ≡ ra = cc in
    let goes : to ≡ q = cc in
    let from = same_call p c q (subst (λ (x : Place). CallsTo p c x) goes t) m in
    called ra q (next_place (next_place q)) (e ∙ ap (λ (x : Place). To Bsr rc x) from ∙ ap (λ (x : ℕ). To Bsr x q) reg) (inr (refl, m)) refl
past_form p ss w a ra q (direct rc c to e t f) k m =
    let s : To Bsr rc to ≡ To Bsr ra q = sym f ∙ k in
    let reg : rc ≡ ra = cc in
    let goes : to ≡ q = cc in
    let from = same_call p c q (subst (λ (x : Place). CallsTo p c x) goes t) m in
    direct ra q (next_place (next_place q)) (subst (λ (x : Place). IsKnownCall ss w ra x) from (subst (λ (x : ℕ). IsKnownCall ss w x c) reg e)) (inr (refl, m)) refl

pub past_set : (p : ProgramView) (ss bs : List Word) (x : Word) (ra : ℕ) (q : Place) → x.act ≡ To Bsr ra q → MayBePassed p q → WordSet p ss bs x (To Bsr ra (next_place (next_place q)))
past_set p ss bs x ra q e m = record {
  forms = λ w h at f. past_form p ss w x.act ra q f e m;
  more = λ r k. subst (λ (a : Act). Among (act_writes a) r) e k;
  fewer = λ r k. subst (λ (a : Act). Among (act_writes a) r) (sym e) k;
  loads = λ c. absurd c;
  plain = λ i r k. cc;
  bytes = λ i r k. cc;
  byte_loads = λ y r rc n t i l f. let other : To Bsr ra q ≡ Lit r rc (target.Ptr t n) = sym e ∙ f in cc;
}

opening_block : (bs : List Block) (q : Place) → opens bs q ≡ true → (n : Block) × Has bs n × (n.opening ≡ true) × (n.label ≡ q)
opening_block [] q h = absurd (true≢false (sym h))
opening_block (c ∷ bs) q h = by_test (c.opening && place_eq c.label q) refl h (opening_block bs q)
  where
    by_test :
        (t : Bool) → (c.opening && place_eq c.label q) ≡ t → is_some (cond t (Some c) (find (λ b. b.opening && place_eq b.label q) bs)) ≡ true →
        (opens bs q ≡ true → (n : Block) × Has bs n × (n.opening ≡ true) × (n.label ≡ q)) → (n : Block) × Has (c ∷ bs) n × (n.opening ≡ true) × (n.label ≡ q)
    by_test true e h i = (c, inl refl, first_of_both _ _ e, same_place c.label q (last_of_both _ _ e))
    by_test false e h i = let r = i h in (r.0, inr r.1, r.2, r.3)

module _ (p : ProgramView) (prog : IsProgram p) (g : GraphView) (of : IsGraphOf p g) (kept : KeptInBlocks g) (reach : BranchesInReach g) (id : ℕ) (b : Block) (block : block_of g id ≡ Some b) where
  has : Has g.blocks b
  has = here p prog g of kept reach id b block

  form : {l : Last} → b.last ≡ l → LastForm l
  form e = subst (λ (l : Last). LastForm l) e (of.form.lasts b has)

  linked : (P : ℕ → Type 0) (i : Instr) (ra rb hint : ℕ) → Plain i ≡ Plain (Jump Jsr ra rb hint) → IsJumpWith P i → P ra
  linked P i ra rb hint e j =
      let same : i ≡ Jump Jsr ra rb hint = cc in
      let k : IsJumpWith P (Jump Jsr ra rb hint) = subst (λ (x : Instr). IsJumpWith P x) same j in
      k

  at_most_one : (t : Bool) → one_if t ≤ 1
  at_most_one true = omega arith
  at_most_one false = omega arith

  module _ (at q to : Place) (i : Instr) (ra : ℕ) (k : IsKnownCall (block_words b) (record { at = at; act = Plain i }) ra q) (c : CallsTo p q to) (in_reach : InReach g.counts at to) where
    -- where the call goes is in the kept set, where the block is
    goes_kept : (x : Place) → to ≡ x → IsInKeptSet g b.label → IsInKeptSet g x
    goes_kept x e h = subst (λ (y : Place). IsInKeptSet g y) e (by_place c)
      where
        there : IsInKeptSet g q
        there =
            let loads = k.loads in
            named b k.load q has h (first_in (block_words b) k.local.mid k.load (record { at = at; act = Plain i }) k.local.stands) (subst (λ (a : Act). names a q) (sym loads) refl)

        by_place : CallsTo p q to → IsInKeptSet g to
        by_place (inl e) = subst (λ (y : Place). IsInKeptSet g y) (sym e) there
        by_place (inr e) = subst (λ (y : Place). IsInKeptSet g y) (sym e.0) (past_kept p prog g of q e.1 kept there)

    links : Links (To Bsr ra to) → Links (Plain i)
    links l = subst (λ (a : Act). Links a) (sym k.jumps) l

    set : (s : Shape) → Has (lifted_shapes p) s → IsBlockOf p s b → WordSet p (shape_words s) (block_words b) (record { at = at; act = Plain i }) (To Bsr ra to)
    set s h o = new.call_set p prog s b h o (s_order p prog g of kept reach s h) (in_order p prog g of kept reach b has) (record { at = at; act = Plain i }) ra q to k c

    -- a known call made direct
    pub call_of : b.last ≡ last.CallBy at i → Onward p g (last_set g id (last.Call at Bsr ra to))
    call_of e =
        last_set_of p prog g of kept reach id b block (record { at = at; act = Plain i }) (To Bsr ra to) (last.Call at Bsr ra to) (ap last_words e) refl
        (tt, linked IsLink i ra k.rb k.hint k.jumps (form e)) (λ f. absurd f) goes_kept links in_reach
        (let w = ap (last_weight g.blocks) e in let l = at_most_one (opens g.blocks to) in omega (arith, w, l)) set

    -- a jump without a link
    pub jump_of : b.last ≡ last.JumpBy at i → Onward p g (last_set g id (last.Br at Bsr ra to))
    jump_of e =
        last_set_of p prog g of kept reach id b block (record { at = at; act = Plain i }) (To Bsr ra to) (last.Br at Bsr ra to) (ap last_words e) refl
        (tt, linked IsNoLink i ra k.rb k.hint k.jumps (form e)) (λ f. absurd f) goes_kept links in_reach
        (let w = ap (last_weight g.blocks) e in let l = at_most_one (opens g.blocks to) in omega (arith, w, l)) set

  -- a call past the pair of a kept block
  module _ (at q : Place) (ra : ℕ) (m : MayBePassed p q) (opening : opens g.blocks q ≡ true) (in_reach : InReach g.counts at (next_place (next_place q))) where
    abbrev word : Word
    word = record { at = at; act = To Bsr ra q }

    behind_kept : {l : Last} → b.last ≡ l → Has (last_words l) word → (x : Place) → next_place (next_place q) ≡ x → IsInKeptSet g b.label → IsInKeptSet g x
    behind_kept e l x f h = subst (λ (y : Place). IsInKeptSet g y) f (past_kept p prog g of q m kept (named b word q has h (append_right _ (last_words b.last) word (subst (λ (y : Last). Has (last_words y) word) (sym e) l)) refl))

    none_opens : opens g.blocks (next_place (next_place q)) ≡ false
    none_opens = is_false _ (λ h. by_block (opening_block g.blocks (next_place (next_place q)) h))
      where
        by_block : (n : Block) × Has g.blocks n × (n.opening ≡ true) × (n.label ≡ next_place (next_place q)) → ⊥
        by_block (n, h, o, l) = not_twice p q m.opening (subst (λ (x : Place). is_opening_pair p x ≡ true) l (opening_is p prog g of n h o))

    pub past_of : b.last ≡ last.Call at Bsr ra q → Onward p g (last_set g id (last.Call at Bsr ra (next_place (next_place q))))
    past_of e =
        last_set_of p prog g of kept reach id b block word (To Bsr ra (next_place (next_place q))) (last.Call at Bsr ra (next_place (next_place q)))
        (ap last_words e) refl (form e) (λ f. absurd f) (behind_kept e (inl refl)) (λ l. l) in_reach
        (let w = ap (last_weight g.blocks) e in let x = ap one_if opening in let y = ap one_if none_opens in omega (arith, w, x, y))
        (λ s h o. past_set p (shape_words s) (block_words b) word ra q refl m)

    pub branch_past_of : b.last ≡ last.Br at Bsr ra q → Onward p g (last_set g id (last.Br at Bsr ra (next_place (next_place q))))
    branch_past_of e =
        last_set_of p prog g of kept reach id b block word (To Bsr ra (next_place (next_place q))) (last.Br at Bsr ra (next_place (next_place q)))
        (ap last_words e) refl (form e) (λ f. absurd f) (behind_kept e (inl refl)) (λ l. l) in_reach
        (let w = ap (last_weight g.blocks) e in let x = ap one_if opening in let y = ap one_if none_opens in omega (arith, w, x, y))
        (λ s h o. past_set p (shape_words s) (block_words b) word ra q refl m)
