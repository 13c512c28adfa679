-- A closed opening pair is the first two ops of its block.
use Rattle.std.proofs.Common.{◌≡◌, ◌↔◌, inl, inr, ◌<◌, ◌≤◌, ◌+◌, ◌%◌, ℕ, Bool, true, false, not, ◌&&◌, ◌==◌, List, [], ◌∷◌, ◌++◌, length, Option, Some, None, refl, sym, ap, ◌∙◌, subst, arith}
use Rattle.std.specs.Prelude.{map, ◌^◌, option_and_then}
use Rattle.std.proofs.lemmas.Bool.{true≢false, eqb-true}
use Rattle.om_isa.specs.declared.instr.Instr.{Instr}
use Rattle.om_isa.specs.declared.instr.Instr.TheVariants.{Mem, Jump, Branch, Alu, Cmov, Misc, Fnop, Halt, Callsys}
use Rattle.om_value.specs.declared.value.Place.{Place}
use Rattle.om_value.specs.declared.value.Target.{Target}
use Rattle.om_value.specs.Same.{place_eq}
use Rattle.om_prog.specs.Act as act
use Rattle.om_prog.specs.Act.{Act, Word}
use Rattle.om_prog.specs.Step.{next_place}
use Rattle.om_graph.specs.declared.op.Op.{Op}
use Rattle.om_graph.specs.declared.op.OpKind.{OpKind}
use Rattle.om_graph.specs.declared.op.OpKind.TheVariants as op
use Rattle.om_graph.specs.declared.op.Last.{Last}
use Rattle.om_graph.specs.declared.op.Last.TheVariants as last
use Rattle.om_graph.specs.View.{Node, Block, GraphView, Has, ops_of, block_of, op_of, first_op_of, next_op_of, first_id}
use Rattle.om_graph.specs.Held.{IsGraph}
use Rattle.om_graph.specs.Run.{block_words, last_words, op_word, op_act, use_of, target_at, cond_act}
use Rattle.om_graph.specs.Form.{IsPlaced, text_size}
use Rattle.om_graph.specs.Uses.{IsTextsLast, IsClosedPair, IsClosedOpening}
use Rattle.om_graph.proofs.Labels.{same_place, self_eq, has_label}
use Rattle.om_graph.proofs.OfProgram.{words_in_place}
use Rattle.om_blocks.proofs.OfPrograms.{graphs_have_flows}
use Rattle.om_blocks.proofs.Walking.{found_block}
use Rattle.om_passes.specs.Passed.{IsOfAProgram}
use Rattle.om_passes.proofs.Edits.{first_in, second_in}
use Rattle.om_passes.proofs.Leading.{behind_opening}
use Rattle.om_checks.proofs.Closed.{IsPairBlock, pair_block}
use Rattle.om_calls.proofs.Nodes.{op_here}
use Rattle.om_calls.specs.Openings.{is_gp_high, is_gp_low, is_high_at, is_low_at, two_of}

-- ---- what the tests say

both : (a b : Bool) → (a && b) ≡ true → (a ≡ true) × (b ≡ true)
both true b e = (refl, e)
both false b e = absurd (true≢false (sym e))

pub record IsHigh (at : Place) (o : Op) : Type 0 where
  pub rb : ℕ
  pub base : Place
  pub is : o ≡ record { place = at; kind = op.GpHi 29 rb base }

high_kind : (k : OpKind) → is_gp_high k ≡ true → (rb : ℕ) × (base : Place) × (k ≡ op.GpHi 29 rb base)
high_kind (op.GpHi ra rb base) e = (rb, base, ap (λ (n : ℕ). op.GpHi n rb base) (eqb-true ra 29 e))
high_kind (op.Plain i) e = absurd (true≢false (sym e))
high_kind (op.Lit ra rb t) e = absurd (true≢false (sym e))
high_kind (op.AddrLda ra rb t) e = absurd (true≢false (sym e))
high_kind (op.AddrHi ra rb t z) e = absurd (true≢false (sym e))
high_kind (op.UseLo i hi) e = absurd (true≢false (sym e))
high_kind (op.UseGp i gp t) e = absurd (true≢false (sym e))
high_kind (op.GpLo ra rb hi) e = absurd (true≢false (sym e))

low_kind : (q : Place) (k : OpKind) → is_gp_low q k ≡ true → k ≡ op.GpLo 29 29 q
low_kind q (op.GpLo ra rb hi) e =
    let x = both ((ra == 29) && (rb == 29)) (place_eq hi q) e in
    let y = both (ra == 29) (rb == 29) x.0 in
    ap (λ (n : ℕ). op.GpLo n rb hi) (eqb-true ra 29 y.0) ∙ ap (λ (n : ℕ). op.GpLo 29 n hi) (eqb-true rb 29 y.1) ∙ ap (λ (p : Place). op.GpLo 29 29 p) (same_place hi q x.1)
low_kind q (op.Plain i) e = absurd (true≢false (sym e))
low_kind q (op.Lit ra rb t) e = absurd (true≢false (sym e))
low_kind q (op.AddrLda ra rb t) e = absurd (true≢false (sym e))
low_kind q (op.AddrHi ra rb t z) e = absurd (true≢false (sym e))
low_kind q (op.UseLo i hi) e = absurd (true≢false (sym e))
low_kind q (op.UseGp i gp t) e = absurd (true≢false (sym e))
low_kind q (op.GpHi ra rb base) e = absurd (true≢false (sym e))

same_op : (o : Op) (at : Place) (k : OpKind) → o.place ≡ at → o.kind ≡ k → o ≡ record { place = at; kind = k }
same_op o at k p e = rw (p, e) refl

pub is_high : (at : Place) (o : Op) → is_high_at at o ≡ true → IsHigh at o
is_high at o e =
    let x = both (place_eq o.place at) (is_gp_high o.kind) e in
    let k = high_kind o.kind x.1 in
    record { rb = k.0; base = k.1; is = same_op o at (op.GpHi 29 k.0 k.1) (same_place o.place at x.0) k.2 }

pub is_low : (high at : Place) (o : Op) → is_low_at high at o ≡ true → o ≡ record { place = at; kind = op.GpLo 29 29 high }
is_low high at o e =
    let x = both (place_eq o.place at) (is_gp_low high o.kind) e in
    same_op o at (op.GpLo 29 29 high) (same_place o.place at x.0) (low_kind high o.kind x.1)

pub high_passes : (at : Place) (rb : ℕ) (base : Place) (o : Op) → o ≡ record { place = at; kind = op.GpHi 29 rb base } → is_high_at at o ≡ true
high_passes at rb base o e = ap (is_high_at at) e ∙ (let s = self_eq at in rw s refl)

pub low_passes : (high at : Place) (o : Op) → o ≡ record { place = at; kind = op.GpLo 29 29 high } → is_low_at high at o ≡ true
low_passes high at o e = ap (is_low_at high at) e ∙ (let s = self_eq at in let t = self_eq high in rw (s, t) refl)

pub some_flag : (a b : Bool) → Some a ≡ Some b → a ≡ b
some_flag a b e = cc

pub some_place : (a b : Place) → Some a ≡ Some b → a ≡ b
some_place a b e = cc

-- ---- the first two ops

pub record StartsWith (os : List Op) (a b : Op) : Type 0 where
  pub rest : List Op
  pub is : os ≡ a ∷ b ∷ rest

same_pair : (x y : Op × Op) → Some x ≡ Some y → (x.0 ≡ y.0) × (x.1 ≡ y.1)
same_pair x y e = let s : x ≡ y = cc in (ap (λ (z : Op × Op). z.0) s, ap (λ (z : Op × Op). z.1) s)

same_two : (a b c d : Op) → ◌≡◌ {A = Option (Op × Op)} (Some (a, b)) (Some (c, d)) → (a ≡ c) × (b ≡ d)
same_two a b c d e = same_pair (a, b) (c, d) e

pub starts_with : (os : List Op) (a b : Op) → two_of os ≡ Some (a, b) → StartsWith os a b
starts_with [] a b e = cc
starts_with (c ∷ []) a b e = cc
starts_with (c ∷ d ∷ os) a b e = let s = same_two c d a b e in record { rest = os; is = rw (s.0, s.1) refl }

module _ (g : GraphView) (graph : IsGraph g) (id : ℕ) (x : Block) (here : block_of g id ≡ Some x) where
  first_is : first_op_of g id ≡ first_id x.ops
  first_is = ap (option_and_then (λ (y : Block). first_id y.ops)) here

  some_id : (a b : ℕ) → Some a ≡ Some b → a ≡ b
  some_id a b e = cc

  some_op : (a b : Op) → Some a ≡ Some b → a ≡ b
  some_op a b e = cc

  no_id : (a : ℕ) → None ≡ Some a → ⊥
  no_id a e = cc

  pub no_first : first_op_of g id ≡ None → None ≡ two_of (ops_of x)
  no_first e = by_ops x.ops (sym first_is ∙ e)
    where
      by_ops : (ns : List Node) → first_id ns ≡ None → None ≡ two_of (map (λ n. n.op) ns)
      by_ops [] e = refl
      by_ops (n ∷ ns) e = absurd (no_id n.id (sym e))

  pub no_second : (o : ℕ) → first_op_of g id ≡ Some o → next_op_of g o ≡ None → None ≡ two_of (ops_of x)
  no_second o e f = by_ops x.ops refl (sym first_is ∙ e)
    where
      by_ops : (ns : List Node) → x.ops ≡ ns → first_id ns ≡ Some o → None ≡ two_of (map (λ n. n.op) ns)
      by_ops [] s e = absurd (no_id o e)
      by_ops (n ∷ []) s e = refl
      by_ops (n ∷ m ∷ ns) s e =
          let h = op_here g graph x (found_block g.blocks id x here) [] n (m ∷ ns) s in
          absurd (no_id m.id (sym f ∙ ap (λ (i : ℕ). next_op_of g i) (sym (some_id n.id o e)) ∙ h.1))

  pub two_there : (o q : ℕ) (a b : Op) → first_op_of g id ≡ Some o → next_op_of g o ≡ Some q → op_of g o ≡ Some a → op_of g q ≡ Some b → Some (a, b) ≡ two_of (ops_of x)
  two_there o q a b e f k l = by_ops x.ops refl (sym first_is ∙ e)
    where
      by_ops : (ns : List Node) → x.ops ≡ ns → first_id ns ≡ Some o → Some (a, b) ≡ two_of (map (λ n. n.op) ns)
      by_ops [] s e = absurd (no_id o e)
      by_ops (n ∷ []) s e =
          let h = op_here g graph x (found_block g.blocks id x here) [] n [] s in
          absurd (no_id q (sym h.1 ∙ ap (λ (i : ℕ). next_op_of g i) (some_id n.id o e) ∙ f))
      by_ops (n ∷ m ∷ ns) s e =
          let h = op_here g graph x (found_block g.blocks id x here) [] n (m ∷ ns) s in
          let i = op_here g graph x (found_block g.blocks id x here) (n ∷ []) m ns s in
          let no = some_id n.id o e in
          let mq : m.id ≡ q = some_id m.id q (sym h.1 ∙ ap (λ (i : ℕ). next_op_of g i) no ∙ f) in
          let an : a ≡ n.op = some_op a n.op (sym k ∙ ap (λ (i : ℕ). op_of g i) (sym no) ∙ h.0) in
          let bm : b ≡ m.op = some_op b m.op (sym l ∙ ap (λ (i : ℕ). op_of g i) (sym mq) ∙ i.0) in
          rw (an, bm) refl

-- ---- the ops of a pair

kind_high : (os : List Op) (k : OpKind) (rb : ℕ) (base : Place) → op_act os k ≡ act.GpHi 29 rb base → k ≡ op.GpHi 29 rb base
kind_high os (op.Plain i) rb base e = cc
kind_high os (op.Lit rc rd u) rb base e = cc
kind_high os (op.AddrLda rc rd u) rb base e = cc
kind_high os (op.AddrHi rc rd u z) rb base e = cc
kind_high os (op.UseLo i hi) rb base e = absurd (by_target (target_at os hi) e)
  where
    by_target : (o : Option Target) → use_of i hi o ≡ act.GpHi 29 rb base → ⊥
    by_target None e = cc
    by_target (Some u) e = cc
kind_high os (op.UseGp i gp u) rb base e = cc
kind_high os (op.GpHi rc rd b) rb base e = cc
kind_high os (op.GpLo rc rd hi) rb base e = cc

kind_low : (os : List Op) (k : OpKind) (q : Place) → op_act os k ≡ act.GpLo 29 29 q → k ≡ op.GpLo 29 29 q
kind_low os (op.Plain i) q e = cc
kind_low os (op.Lit rc rd u) q e = cc
kind_low os (op.AddrLda rc rd u) q e = cc
kind_low os (op.AddrHi rc rd u z) q e = cc
kind_low os (op.UseLo i hi) q e = absurd (by_target (target_at os hi) e)
  where
    by_target : (o : Option Target) → use_of i hi o ≡ act.GpLo 29 29 q → ⊥
    by_target None e = cc
    by_target (Some u) e = cc
kind_low os (op.UseGp i gp u) q e = cc
kind_low os (op.GpHi rc rd b) q e = cc
kind_low os (op.GpLo rc rd hi) q e = cc

cond_not_low : (i : Instr) (to q : Place) → cond_act i to ≡ act.GpLo 29 29 q → ⊥
cond_not_low (Branch o ra d) to q e = cc
cond_not_low (Mem o ra rb d) to q e = cc
cond_not_low (Jump k ra rb h) to q e = cc
cond_not_low (Alu o ra rb rc) to q e = cc
cond_not_low (Cmov k ra rb rc) to q e = cc
cond_not_low (Misc o ra rb) to q e = cc
cond_not_low Fnop to q e = cc
cond_not_low Halt to q e = cc
cond_not_low Callsys to q e = cc

-- the word that ends a block is no low half, and it is one
not_low : (l : Last) (w : Word) (q : Place) → last_words l ≡ w ∷ [] → w.act ≡ act.GpLo 29 29 q → ⊥
not_low last.Fall w q e a = cc
not_low last.Off w q e a = cc
not_low (last.Br at o ra to) w q e a = let s : record { at = at; act = act.To o ra to } ≡ w = cc in let d : act.To o ra to ≡ act.GpLo 29 29 q = ap (λ (v : Word). v.act) s ∙ a in cc
not_low (last.Cond at i to) w q e a = let s : record { at = at; act = cond_act i to } ≡ w = cc in cond_not_low i to q (ap (λ (v : Word). v.act) s ∙ a)
not_low (last.Call at o ra to) w q e a = let s : record { at = at; act = act.To o ra to } ≡ w = cc in let d : act.To o ra to ≡ act.GpLo 29 29 q = ap (λ (v : Word). v.act) s ∙ a in cc
not_low (last.CallBy at i) w q e a = let s : record { at = at; act = act.Plain i } ≡ w = cc in let d : act.Plain i ≡ act.GpLo 29 29 q = ap (λ (v : Word). v.act) s ∙ a in cc
not_low (last.JumpBy at i) w q e a = let s : record { at = at; act = act.Plain i } ≡ w = cc in let d : act.Plain i ≡ act.GpLo 29 29 q = ap (λ (v : Word). v.act) s ∙ a in cc

not_two : (l : Last) (v w : Word) → last_words l ≡ v ∷ w ∷ [] → ⊥
not_two last.Fall v w e = cc
not_two last.Off v w e = cc
not_two (last.Br at o ra to) v w e = cc
not_two (last.Cond at i to) v w e = cc
not_two (last.Call at o ra to) v w e = cc
not_two (last.CallBy at i) v w e = cc
not_two (last.JumpBy at i) v w e = cc

record TwoOps (os us : List Op) (v w : Word) : Type 0 where
  first : Op
  second : Op
  two : two_of us ≡ Some (first, second)
  first_is : op_word os first ≡ v
  second_is : op_word os second ≡ w

two_ops : (os us : List Op) (l : Last) (v w : Word) (q : Place) → map (op_word os) us ++ last_words l ≡ v ∷ w ∷ [] → w.act ≡ act.GpLo 29 29 q → TwoOps os us v w
two_ops os [] l v w q e a = absurd (not_two l v w e)
two_ops os (x ∷ []) l v w q e a = let t : last_words l ≡ w ∷ [] = cc in absurd (not_low l w q t a)
two_ops os (x ∷ y ∷ us) l v w q e a = record { first = x; second = y; two = refl; first_is = cc; second_is = cc }

pub record SecondFits (g : GraphView) (q : Place) : Type 0 where
  pub object : q.obj < length g.counts
  pub small : text_size g q.obj < 2 ^ 32
  pub aligned : q.off % 4 ≡ 0
  pub inside : q.off + 4 ≤ text_size g q.obj

module _ (g : GraphView) (of : IsOfAProgram g) (x : Block) (hx : Has g.blocks x) where
  -- a place of a word of the block is before the end of its text, which an offset names
  placed : (w : Word) → Has (block_words x) w → IsPlaced g x.label w.at
  placed w h = (words_in_place of.program of.valid g of.may_go_on.graph).words x w hx h

  pub small : (obj : ℕ) → text_size g obj < 2 ^ 32
  small obj = (graphs_have_flows.flow of.program g of.valid of.may_go_on.graph).small obj

  same_word : (v : Word) (at : Place) (d : Act) → v.at ≡ at → v.act ≡ d → v ≡ record { at = at; act = d }
  same_word v at d e f = rw (e, f) refl

  -- the first word of a block that is a pair is its high half
  high_of : (o : IsClosedOpening g x) (k : IsPairBlock g x) → k.high ≡ record { at = x.label; act = act.GpHi 29 o.pair.rb o.pair.base }
  high_of o k = by_case (subst (λ (l : List Word). Has l high) k.words (first_in (block_words x) o.pair.mid high (record { at = next_place x.label; act = act.GpLo 29 29 x.label }) o.pair.stands))
    where
      high : Word
      high = record { at = x.label; act = act.GpHi 29 o.pair.rb o.pair.base }

      never : act.GpLo 29 29 x.label ≡ act.GpHi 29 o.pair.rb o.pair.base → ⊥
      never e = cc

      by_case : Has (k.high ∷ k.low ∷ []) (record { at = x.label; act = act.GpHi 29 o.pair.rb o.pair.base }) → k.high ≡ record { at = x.label; act = act.GpHi 29 o.pair.rb o.pair.base }
      by_case (inl e) = e
      by_case (inr (inl e)) = absurd (never (sym k.is_low ∙ ap (λ (w : Word). w.act) e))
      by_case (inr (inr n)) = absurd n

  module _ (a b : Op) (two : two_of (ops_of x) ≡ Some (a, b)) where
    starts : StartsWith (ops_of x) a b
    starts = starts_with (ops_of x) a b two

    words : block_words x ≡ op_word (ops_of x) a ∷ op_word (ops_of x) b ∷ (map (op_word (ops_of x)) starts.rest ++ last_words x.last)
    words = ap (λ (l : List Op). map (op_word (ops_of x)) l ++ last_words x.last) starts.is

    first_placed : IsPlaced g x.label a.place
    first_placed = placed (op_word (ops_of x) a) (subst (λ (l : List Word). Has l (op_word (ops_of x) a)) (sym words) (inl refl))

    second_placed : IsPlaced g x.label b.place
    second_placed = placed (op_word (ops_of x) b) (subst (λ (l : List Word). Has l (op_word (ops_of x) b)) (sym words) (inr (inl refl)))

    -- there is room for the second half
    pub room : is_high_at x.label a ≡ true → x.label.off + 4 < 2 ^ 32
    room e =
        let h = is_high x.label a e in
        let at : a.place ≡ x.label = ap (λ (o : Op). o.place) h.is in
        let i = first_placed.inside in
        let s = small a.place.obj in
        let f = ap (λ (p : Place). p.off) at in
        omega (arith, i, s, f)

    pub second_is : is_low_at x.label (next_place x.label) b ≡ true → IsPlaced g x.label (next_place x.label)
    second_is e = subst (λ (p : Place). IsPlaced g x.label p) (ap (λ (o : Op). o.place) (is_low x.label (next_place x.label) b e)) second_placed

    pub sound : x.opening ≡ true → is_high_at x.label a ≡ true → is_low_at x.label (next_place x.label) b ≡ true → (IsTextsLast g (next_place x.label) → ⊥) → IsClosedOpening g x
    sound opening high low stays = record { opening = opening; pair = pair }
      where
        h : IsHigh x.label a
        h = is_high x.label a high

        high_is : op_word (ops_of x) a ≡ record { at = x.label; act = act.GpHi 29 h.rb h.base }
        high_is = ap (op_word (ops_of x)) h.is

        low_is : op_word (ops_of x) b ≡ record { at = next_place x.label; act = act.GpLo 29 29 x.label }
        low_is = ap (op_word (ops_of x)) (is_low x.label (next_place x.label) b low)

        pair : IsClosedPair g x x.label (next_place x.label)
        pair = record {
          rb = h.rb;
          base = h.base;
          mid = [];
          stands = (
            [],
            map (op_word (ops_of x)) starts.rest ++ last_words x.last,
            words ∙ ap (λ (w : Word). w ∷ op_word (ops_of x) b ∷ (map (op_word (ops_of x)) starts.rest ++ last_words x.last)) high_is
                ∙ ap (λ (w : Word). record { at = x.label; act = act.GpHi 29 h.rb h.base } ∷ w ∷ (map (op_word (ops_of x)) starts.rest ++ last_words x.last)) low_is,
          );
          unread = λ w m r. m;
          unwritten = λ w m r. m;
          high_stays = λ e. let i = (second_is low).inside in omega (arith, e, i);
          low_stays = stays;
        }

    -- and the other way
    pub complete : IsClosedOpening g x → (is_high_at x.label a ≡ true) × (is_low_at x.label (next_place x.label) b ≡ true) × (IsTextsLast g (next_place x.label) → ⊥)
    complete o =
        let k = pair_of o in
        let t = two_ops (ops_of x) (ops_of x) x.last k.high k.low x.label k.words k.is_low in
        let s = same_two t.first t.second a b (sym t.two ∙ two) in
        let fa : op_word (ops_of x) a ≡ record { at = x.label; act = act.GpHi 29 o.pair.rb o.pair.base } = ap (op_word (ops_of x)) (sym s.0) ∙ t.first_is ∙ high_of o k in
        let fb : op_word (ops_of x) b ≡ record { at = next_place x.label; act = act.GpLo 29 29 x.label } =
        ap (op_word (ops_of x)) (sym s.1) ∙ t.second_is ∙ same_word k.low (next_place x.label) (act.GpLo 29 29 x.label) k.low_at k.is_low in (
          high_passes x.label o.pair.rb o.pair.base a
              (same_op a x.label (op.GpHi 29 o.pair.rb o.pair.base) (ap (λ (w : Word). w.at) fa) (kind_high (ops_of x) a.kind o.pair.rb o.pair.base (ap (λ (w : Word). w.act) fa))),
          low_passes x.label (next_place x.label) b
              (same_op b (next_place x.label) (op.GpLo 29 29 x.label) (ap (λ (w : Word). w.at) fb) (kind_low (ops_of x) b.kind x.label (ap (λ (w : Word). w.act) fb))),
          o.pair.low_stays,
        )
      where
        pair_of : IsClosedOpening g x → IsPairBlock g x
        pair_of o =
            pair_block g of.may_go_on.graph.graph of.may_go_on.graph.form (words_in_place of.program of.valid g of.may_go_on.graph) x hx o
            (behind_opening of.program of.valid g of.may_go_on.graph x hx o)

    -- by what the tests told
    module _ (label second : Place) (is : x.label ≡ label) (next : second ≡ next_place label) (h : Bool) (high : h ≡ is_high_at label a) (yes : h ≡ true) where
      high_ok : is_high_at x.label a ≡ true
      high_ok = ap (λ (p : Place). is_high_at p a) is ∙ sym high ∙ yes

      second_there : next_place x.label ≡ second
      second_there = ap next_place is ∙ sym next

      module _ (t : Bool) (low : t ≡ is_low_at label second b) (told : t ≡ true) where
        low_ok : is_low_at x.label (next_place x.label) b ≡ true
        low_ok = ap (λ (p : Place). is_low_at p (next_place x.label) b) is ∙ ap (λ (p : Place). is_low_at label p b) second_there ∙ sym low ∙ told

        -- what is asked of the second place to tell whether its word is the last one of its text
        pub second_fits : SecondFits g second
        second_fits = subst (λ (p : Place). SecondFits g p) second_there here
          where
            here : SecondFits g (next_place x.label)
            here =
                let i = second_is low_ok in
                record {
                  object = ((words_in_place of.program of.valid g of.may_go_on.graph).labels x.label (of.may_go_on.graph.graph.among x.label (has_label g.blocks x hx))).0;
                  small = small x.label.obj;
                  aligned = i.aligned;
                  inside = i.inside;
                }

        pub pair_is : (r : Bool) → (r ≡ true) ↔ IsTextsLast g second → x.opening ≡ true → (not r ≡ true) ↔ IsClosedOpening g x
        pair_is r last opening = (
          λ n. sound opening high_ok low_ok (λ e. never r n (last.1 (subst (λ (p : Place). IsTextsLast g p) second_there e))),
          λ k. stays r (λ e. (complete k).2 (subst (λ (p : Place). IsTextsLast g p) (sym second_there) (last.0 e))),
        )
          where
            never : (r : Bool) → not r ≡ true → r ≡ true → ⊥
            never true n e = true≢false (sym n)
            never false n e = true≢false (sym e)

            stays : (r : Bool) → (r ≡ true → ⊥) → not r ≡ true
            stays true f = absurd (f refl)
            stays false f = refl

  -- without two ops there is none
  pub none : two_of (ops_of x) ≡ None → IsClosedOpening g x → ⊥
  none e o =
      let k = pair_block g of.may_go_on.graph.graph of.may_go_on.graph.form (words_in_place of.program of.valid g of.may_go_on.graph) x hx o
      (behind_opening of.program of.valid g of.may_go_on.graph x hx o) in
      let t = two_ops (ops_of x) (ops_of x) x.last k.high k.low x.label k.words k.is_low in
      no_two (t.first, t.second) (sym e ∙ t.two)
    where
      no_two : (p : Op × Op) → None ≡ Some p → ⊥
      no_two p e = cc

  -- behind a closed opening pair there is room in the text
  pub far_room : IsClosedOpening g x → x.label.off + 8 < 2 ^ 32
  far_room o =
      let k = (words_in_place of.program of.valid g of.may_go_on.graph).words x low hx low_there in
      let i = k.inside in
      let n = o.pair.low_stays in
      let al = k.aligned in
      let s = small x.label.obj in
      omega (arith, i, s)
    where
      low : Word
      low = record { at = next_place x.label; act = act.GpLo 29 29 x.label }

      low_there : Has (block_words x) low
      low_there = second_in (block_words x) o.pair.mid (record { at = x.label; act = act.GpHi 29 o.pair.rb o.pair.base }) low o.pair.stands
