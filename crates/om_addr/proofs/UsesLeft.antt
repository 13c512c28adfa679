-- Local uses of a load by the ops behind it.
use Rattle.std.proofs.Common.{◌≡◌, ◌⊎◌, inl, inr, ℕ, ◌<◌, Bool, true, false, List, [], ◌∷◌, ◌++◌, Option, Some, None, refl, sym, ap, ◌∙◌, subst, arith}
use Rattle.std.specs.Prelude.{map}
use Rattle.std.proofs.lemmas.Bool.{true≢false}
use Rattle.om_isa.specs.declared.instr.Instr.{Instr}
use Rattle.om_isa.specs.declared.instr.Instr.TheVariants.{Mem, Jump, Branch, Alu, Cmov, Misc, Fnop, Halt, Callsys}
use Rattle.om_value.specs.declared.value.Place.{Place}
use Rattle.om_value.specs.declared.value.Target.{Target}
use Rattle.om_prog.specs.Act as act
use Rattle.om_prog.specs.Act.{Act, Word, act_reads, act_writes}
use Rattle.om_prog.specs.Flow.{Among}
use Rattle.om_prog.specs.Facts.{has}
use Rattle.om_graph.specs.declared.op.Op.{Op}
use Rattle.om_graph.specs.declared.op.OpKind.{OpKind}
use Rattle.om_graph.specs.declared.op.OpKind.TheVariants as op
use Rattle.om_graph.specs.declared.op.Last.{Last}
use Rattle.om_graph.specs.declared.op.Last.TheVariants as last
use Rattle.om_graph.specs.View.{Node, Block, GraphView, Has, ops_of}
use Rattle.om_graph.specs.Held.{IsGraph, node_ids}
use Rattle.om_graph.specs.Run.{block_words, last_words, cond_act, op_act, use_of, target_at}
use Rattle.om_graph.specs.Form.{ends_block, LastForm, IsLink, IsNoLink, IsJumpWith}
use Rattle.om_graph.specs.Uses.{NoneWrites, IsLocalUse}
use Rattle.om_graph.proofs.Masks.{has_among}
use Rattle.om_blocks.specs.IsFlow.{HasFlow}
use Rattle.om_blocks.specs.Effects.{kind_reads, kind_writes}
use Rattle.om_blocks.proofs.Walking.{assoc, has_mid, apart_in, has_node}
use Rattle.om_blocks.proofs.LastWords.{has_left, has_right}
use Rattle.om_uses.specs.Readers.{IsResult, writes, is_kept}
use Rattle.om_uses.specs.LocalUses.{word_of, words_of, words_behind}
use Rattle.om_uses.proofs.LocalUses.{AmongNodes, BehindNodes, AreRight, act_reads_of, act_writes_of, words_append, word_in, kept_none, where_is, behind_is, right_nodes, same_node}
use Rattle.om_checks.proofs.Closed.{one_home}
use Rattle.om_addr.proofs.Walking.{At, NoneLeft, Walked}
use Rattle.om_addr.specs.declared.loads.Load.{Load}
use Rattle.om_addr.specs.Loads.{IsLoadIn}

-- ---- plain words

pub plain_kind : (os : List Op) (k : OpKind) (i : Instr) → op_act os k ≡ act.Plain i → k ≡ op.Plain i
plain_kind os (op.Plain j) i e = cc
plain_kind os (op.Lit ra rb t) i e = cc
plain_kind os (op.AddrLda ra rb t) i e = cc
plain_kind os (op.AddrHi ra rb t z) i e = cc
plain_kind os (op.UseGp j gp t) i e = cc
plain_kind os (op.GpHi ra rb q) i e = cc
plain_kind os (op.GpLo ra rb q) i e = cc
plain_kind os (op.UseLo j q) i e = by_target (target_at os q) e
  where
    by_target : (o : Option Target) → use_of j q o ≡ act.Plain i → op.UseLo j q ≡ op.Plain i
    by_target None e = cc
    by_target (Some u) e = cc

jump_ends : (P : ℕ → Type 0) (i : Instr) → IsJumpWith P i → ends_block i ≡ true
jump_ends P (Jump k ra rb h) f = refl
jump_ends P (Mem o ra rb d) f = absurd f
jump_ends P (Branch o ra d) f = absurd f
jump_ends P (Alu o ra rb rc) f = absurd f
jump_ends P (Cmov c ra rb rc) f = absurd f
jump_ends P (Misc o ra rb) f = absurd f
jump_ends P Fnop f = absurd f
jump_ends P Halt f = absurd f
jump_ends P Callsys f = absurd f

cond_plain : (j : Instr) (to : Place) (i : Instr) → cond_act j to ≡ act.Plain i → ⊥
cond_plain (Branch o ra d) to i e = cc
cond_plain (Jump k ra rb h) to i e = cc
cond_plain (Mem o ra rb d) to i e = cc
cond_plain (Alu o ra rb rc) to i e = cc
cond_plain (Cmov c ra rb rc) to i e = cc
cond_plain (Misc o ra rb) to i e = cc
cond_plain Fnop to i e = cc
cond_plain Halt to i e = cc
cond_plain Callsys to i e = cc

-- a plain word that ends a block is a jump
pub last_plain : (l : Last) → LastForm l → (w : Word) (i : Instr) → Has (last_words l) w → w.act ≡ act.Plain i → ends_block i ≡ true
last_plain last.Fall f w i h e = absurd h
last_plain last.Off f w i h e = absurd h
last_plain (last.Br at o ra to) f w i (inl h) e = let s : act.To o ra to ≡ act.Plain i = ap (λ (x : Word). x.act) h ∙ e in cc
last_plain (last.Br at o ra to) f w i (inr h) e = absurd h
last_plain (last.Call at o ra to) f w i (inl h) e = let s : act.To o ra to ≡ act.Plain i = ap (λ (x : Word). x.act) h ∙ e in cc
last_plain (last.Call at o ra to) f w i (inr h) e = absurd h
last_plain (last.Cond at j to) f w i (inl h) e = absurd (cond_plain j to i (ap (λ (x : Word). x.act) h ∙ e))
last_plain (last.Cond at j to) f w i (inr h) e = absurd h
last_plain (last.CallBy at j) f w i (inl h) e = let s : act.Plain j ≡ act.Plain i = ap (λ (x : Word). x.act) h ∙ e in let t : j ≡ i = cc in ap ends_block (sym t) ∙ jump_ends IsLink j f
last_plain (last.CallBy at j) f w i (inr h) e = absurd h
last_plain (last.JumpBy at j) f w i (inl h) e = let s : act.Plain j ≡ act.Plain i = ap (λ (x : Word). x.act) h ∙ e in let t : j ≡ i = cc in ap ends_block (sym t) ∙ jump_ends IsNoLink j f
last_plain (last.JumpBy at j) f w i (inr h) e = absurd h

-- ---- a use behind a load

-- where ops between write the register no more, an op that reads it is a local use
pub local_use :
    (g : GraphView) (flow : HasFlow g) (b : Block) (r : ℕ) (before : List Node) (n : Node) (mid : List Node) (m : Node) (rest : List Node) → Has g.blocks b →
    b.ops ≡ before ++ n ∷ (mid ++ m ∷ rest) → kind_writes n.op.kind ≡ r ∷ [] → is_kept r mid ≡ true → has (kind_reads m.op.kind) r ≡ true → (r ≡ 31 → ⊥) →
    (u : IsLocalUse (block_words b) (word_of b n) (word_of b m) r) × (u.mid ≡ words_of b mid)
local_use g flow b r before n mid m rest hb stands writes kept reads other = (
  record {
    mid = words_of b mid;
    stands = (words_of b before, words_of b rest ++ last_words b.last, words);
    writes = subst (λ (rs : List ℕ). Among rs r) (sym (act_writes_of (ops_of b) n.op.kind (right (word_of b n) load_in) ∙ writes)) (inl refl);
    unwritten = kept_none b r mid (λ w h. right w (mid_in w h)) kept;
    reads = subst (λ (rs : List ℕ). Among rs r) (sym (act_reads_of (ops_of b) m.op.kind (right (word_of b m) use_in))) (has_among (kind_reads m.op.kind) r reads);
    register = other;
  },
  refl,
)
  where
    words : block_words b ≡ words_of b before ++ word_of b n ∷ words_of b mid ++ word_of b m ∷ (words_of b rest ++ last_words b.last)
    words =
        ap (λ (ns : List Node). words_of b ns ++ last_words b.last) stands
        ∙ ap (λ (l : List Word). l ++ last_words b.last) (words_append b r before (n ∷ (mid ++ m ∷ rest)))
        ∙ ap (λ (l : List Word). (words_of b before ++ word_of b n ∷ l) ++ last_words b.last) (words_append b r mid (m ∷ rest))
        ∙ assoc (words_of b before) (word_of b n ∷ (words_of b mid ++ word_of b m ∷ words_of b rest)) (last_words b.last)
        ∙ ap (λ (l : List Word). words_of b before ++ word_of b n ∷ l) (assoc (words_of b mid) (word_of b m ∷ words_of b rest) (last_words b.last))
        ∙ sym (assoc (words_of b before) (word_of b n ∷ words_of b mid) (word_of b m ∷ (words_of b rest ++ last_words b.last)))

    right : (w : Word) → Has (block_words b) w → w.act ≡ act.Wrong → ⊥
    right w h = flow.right.none b w hb h

    in_ops : (w : Word) → Has (words_of b b.ops) w → Has (block_words b) w
    in_ops w h = has_left (words_of b b.ops) (last_words b.last) w h

    load_in : Has (block_words b) (word_of b n)
    load_in = in_ops (word_of b n) (word_in b r b.ops n (subst (λ (l : List Node). Has l n) (sym stands) (has_mid before n (mid ++ m ∷ rest))))

    use_in : Has (block_words b) (word_of b m)
    use_in = in_ops (word_of b m) (word_in b r b.ops m (subst (λ (l : List Node). Has l m) (sym stands) (has_right before (n ∷ (mid ++ m ∷ rest)) m (inr (has_mid mid m rest)))))

    mid_in : (w : Word) → Has (words_of b mid) w → Has (block_words b) w
    mid_in w h =
        in_ops w (subst (λ (l : List Node). Has (words_of b l) w) (sym stands)
        (subst (λ (l : List Word). Has l w) (sym (words_append b r before (n ∷ (mid ++ m ∷ rest))))
        (has_right (words_of b before) (words_of b (n ∷ (mid ++ m ∷ rest))) w
        (inr (subst (λ (l : List Word). Has l w) (sym (words_append b r mid (m ∷ rest))) (has_left (words_of b mid) (words_of b (m ∷ rest)) w h))))))

-- ---- no use is left

-- no op ends the walk
abbrev pub NoneEnds : (OpKind → Bool) → List Node → Type 0
NoneEnds ends [] = Unit {0}
NoneEnds ends (n ∷ ns) = (ends n.op.kind ≡ false) × NoneEnds ends ns

module _ (f : OpKind → Option OpKind) (ends : OpKind → Bool) where
  none_at : (front : List Node) (n : Node) (rest : List Node) → NoneLeft f ends (front ++ n ∷ rest) → NoneEnds ends front → f n.op.kind ≡ None
  none_at [] n rest h e = h.0
  none_at (m ∷ front) n rest h e = none_at front n rest (h.1 e.0) e.1

  -- the walk came to each local use, where none between ends it
  pub no_use_left :
      (g : GraphView) (graph : IsGraph g) (flow : HasFlow g) (l : Load) (x : Op) (r : ℕ) (b : Block) (w user : Word) (i : Instr) → r < 31 → kind_writes x.kind ≡ r ∷ [] →
      Walked f ends g l.id x → IsLoadIn g l b w → (u : IsLocalUse (block_words b) w user r) → user.act ≡ act.Plain i → ends_block i ≡ false →
      ((front : List Node) → AreRight (words_of b front) → u.mid ≡ words_of b front → NoneEnds ends front) → f (op.Plain i) ≡ None
  no_use_left g graph flow l x r b w user i small writes k in_it u a no_jump none_ends = by_use it (subst (λ (y : Word). IsLocal y) word_is (u, refl))
    where
      same_block : k.at.block ≡ b
      same_block =
          one_home g.blocks k.at.block b l.id graph.op_ids k.at.among in_it.among
          (subst (λ (j : ℕ). Has (node_ids k.at.block.ops) j) k.is_id (subst (λ (ns : List Node). Has (node_ids ns) k.node.id) (sym k.at.stands) (has_node k.at.before k.node k.at.behind)))
          (subst (λ (j : ℕ). Has (node_ids b.ops) j) in_it.is_id (id_in b.ops in_it.node in_it.inside))
        where
          id_in : (ns : List Node) (n : Node) → Has ns n → Has (node_ids ns) n.id
          id_in [] n h = absurd h
          id_in (y ∷ ns) n (inl h) = inl (ap (λ (z : Node). z.id) h)
          id_in (y ∷ ns) n (inr h) = inr (id_in ns n h)

      stands : b.ops ≡ k.at.before ++ k.node ∷ k.at.behind
      stands = ap (λ (y : Block). y.ops) (sym same_block) ∙ k.at.stands

      node_is : in_it.node ≡ k.node
      node_is =
          same_node b.ops in_it.node k.node (apart_in g.blocks b graph.op_ids in_it.among) in_it.inside
          (subst (λ (ns : List Node). Has ns k.node) (sym stands) (has_mid k.at.before k.node k.at.behind)) (in_it.is_id ∙ sym k.is_id)

      word_is : w ≡ word_of b k.node
      word_is = in_it.word ∙ ap (word_of b) node_is

      IsLocal : Word → Type 0
      IsLocal y = (v : IsLocalUse (block_words b) y user r) × (v.mid ≡ u.mid)

      it : IsResult g l.id r b k.at.behind
      it = record {
        among = in_it.among;
        before = k.at.before;
        node = k.node;
        stands = stands;
        is_id = k.is_id;
        register = small;
        writes = ap (λ (o : Op). kind_writes o.kind) k.is_op ∙ writes;
      }

      by_use : (h : IsResult g l.id r b k.at.behind) → IsLocal (word_of b h.node) → f (op.Plain i) ≡ None
      by_use h v = by_where (where_is b r k.at.behind (last_words b.last) v.0.mid user v.0.stands.1 (behind_is g l.id r b k.at.behind graph flow h user v.0))
        where
          by_where : AmongNodes b r k.at.behind v.0.mid user ⊎ BehindNodes b r k.at.behind v.0.mid user (last_words b.last) → f (op.Plain i) ≡ None
          by_where (inr p) = absurd (true≢false (sym (last_plain b.last (flow.form.lasts b h.among) user i p.among a) ∙ no_jump))
          by_where (inl p) =
              let rights : AreRight (words_of b p.front) =
              λ y q. right_nodes g l.id r b k.at.behind graph flow h y
              (subst (λ (ns : List Node). Has (words_of b ns) y) (sym p.stands) (subst (λ (z : List Word). Has z y) (sym (words_append b r p.front (p.node ∷ p.rest))) (has_left (words_of b p.front) (words_of b (p.node ∷ p.rest)) y q))) in
              let e = none_ends p.front rights (sym v.1 ∙ p.mid_is) in
              let n = none_at p.front p.node p.rest (subst (λ (ns : List Node). NoneLeft f ends ns) p.stands k.none) e in
              ap f (sym (plain_kind (ops_of b) p.node.op.kind i (ap (λ (y : Word). y.act) p.is ∙ a))) ∙ n
