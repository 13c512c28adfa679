-- What is done of all ops is done of all words.
use Rattle.std.proofs.Common.{◌≡◌, ◌⊎◌, inl, inr, ℕ, Bool, true, false, ◌==◌, List, [], ◌∷◌, ◌++◌, Option, Some, None, refl, sym, ap, ◌∙◌, subst}
use Rattle.std.specs.Prelude.{ℤ, ◌+ℤ◌, FitsSigned, map}
use Rattle.std.specs.Int.{w16}
use Rattle.std.proofs.lemmas.Bool.{eqb-true}
use Rattle.om_isa.specs.declared.instr.BrOp.{BrOp}
use Rattle.om_isa.specs.declared.instr.Instr.{Instr}
use Rattle.om_isa.specs.declared.instr.Instr.TheVariants.{Mem, Jump, Branch, Alu, Cmov, Misc, Fnop, Halt, Callsys}
use Rattle.om_value.specs.declared.value.Place.{Place}
use Rattle.om_value.specs.declared.value.Region.{Region}
use Rattle.om_value.specs.declared.value.Target.{Target}
use Rattle.om_value.specs.declared.value.Target.TheVariants as target
use Rattle.om_prog.specs.Act as act
use Rattle.om_prog.specs.Act.{Act, Word}
use Rattle.om_prog.specs.View.{ProgramView}
use Rattle.om_graph.specs.declared.op.Op.{Op}
use Rattle.om_graph.specs.declared.op.OpKind.{OpKind}
use Rattle.om_graph.specs.declared.op.OpKind.TheVariants as op
use Rattle.om_graph.specs.declared.op.Last.{Last}
use Rattle.om_graph.specs.declared.op.Last.TheVariants as last
use Rattle.om_graph.specs.View.{Node, Block, GraphView, Has, ops_of}
use Rattle.om_graph.specs.Held.{IsGraph}
use Rattle.om_graph.specs.Run.{op_act, op_word, block_words, last_words, cond_act, use_of, target_at, rev_onto}
use Rattle.om_graph.specs.Left.{StandsIn, IsNear, NoUse, NoByte}
use Rattle.om_graph.specs.Uses.{Unwritten, IsLocalUse, IsBaseUse, IsByteUse}
use Rattle.om_graph.specs.Fits.{from_gp, SumIsWithin}
use Rattle.om_blocks.proofs.Walking.{found_here}
use Rattle.om_blocks.proofs.LastWords.{has_both}
use Rattle.om_layout.specs.Layout.{LayoutView, gp_of, address_of}
use Rattle.om_passes.proofs.Edits.{first_in}
use Rattle.om_addr.specs.Passing.{HasRegionsOf}
use Rattle.om_addr.specs.declared.loads.Load.{Load}
use Rattle.om_addr.specs.Loads.{IsLoadIn}
use Rattle.om_addr.specs.Done.{IsDone, load_at, load_in, IsAllDone}
use Rattle.om_addr.specs.NearDone.{IsNearDone}
use Rattle.om_addr.proofs.Walking.{At, op_is}
use Rattle.om_addr.proofs.Bytes.{differ}
use Rattle.om_addr.proofs.HalfWords.{has_behind}

pub node_split : (ns : List Node) (n : Node) → Has ns n → (xs : List Node) × (ys : List Node) × (ns ≡ xs ++ n ∷ ys)
node_split [] n h = absurd h
node_split (y ∷ ns) n (inl e) = ([], ns, ap (λ (z : Node). z ∷ ns) e)
node_split (y ∷ ns) n (inr h) = let r = node_split ns n h in (y ∷ r.0, r.1, ap (λ (l : List Node). y ∷ l) r.2)

-- the node of a word among those of ops
pub node_of_word : (os : List Op) (ns : List Node) (w : Word) → Has (map (op_word os) (map (λ (n : Node). n.op) ns)) w → (n : Node) × Has ns n × (op_word os n.op ≡ w)
node_of_word os [] w h = absurd h
node_of_word os (n ∷ ns) w (inl e) = (n, inl refl, e)
node_of_word os (n ∷ ns) w (inr h) = let r = node_of_word os ns w h in (r.0, inr r.1, r.2)

-- a word that loads an address, from its slot or as a sum
abbrev pub word_act : Bool → ℕ → ℕ → Target → Act
word_act true ra rb t = act.Lit ra rb t
word_act false ra rb t = act.AddrLda ra rb t

no_cond : (i : Instr) (q : Place) (s : Bool) (ra rb : ℕ) (t : Target) → cond_act i q ≡ word_act s ra rb t → ⊥
no_cond (Branch o r d) q true ra rb t e = cc
no_cond (Mem o r s d) q true ra rb t e = cc
no_cond (Jump k r s h) q true ra rb t e = cc
no_cond (Alu o r s c) q true ra rb t e = cc
no_cond (Cmov k r s c) q true ra rb t e = cc
no_cond (Misc o r s) q true ra rb t e = cc
no_cond Fnop q true ra rb t e = cc
no_cond Halt q true ra rb t e = cc
no_cond Callsys q true ra rb t e = cc
no_cond (Branch o r d) q false ra rb t e = cc
no_cond (Mem o r s d) q false ra rb t e = cc
no_cond (Jump k r s h) q false ra rb t e = cc
no_cond (Alu o r s c) q false ra rb t e = cc
no_cond (Cmov k r s c) q false ra rb t e = cc
no_cond (Misc o r s) q false ra rb t e = cc
no_cond Fnop q false ra rb t e = cc
no_cond Halt q false ra rb t e = cc
no_cond Callsys q false ra rb t e = cc

no_to : (o : BrOp) (r : ℕ) (q : Place) (s : Bool) (ra rb : ℕ) (t : Target) → act.To o r q ≡ word_act s ra rb t → ⊥
no_to o r q true ra rb t e = cc
no_to o r q false ra rb t e = cc

no_plain : (i : Instr) (s : Bool) (ra rb : ℕ) (t : Target) → act.Plain i ≡ word_act s ra rb t → ⊥
no_plain i true ra rb t e = cc
no_plain i false ra rb t e = cc

pub no_last : (l : Last) (w : Word) (s : Bool) (ra rb : ℕ) (t : Target) → Has (last_words l) w → w.act ≡ word_act s ra rb t → ⊥
no_last last.Fall w s ra rb t h e = h
no_last last.Off w s ra rb t h e = h
no_last (last.Br at o r q) w s ra rb t (inl k) e = no_to o r q s ra rb t (ap (λ (x : Word). x.act) k ∙ e)
no_last (last.Br at o r q) w s ra rb t (inr k) e = k
no_last (last.Call at o r q) w s ra rb t (inl k) e = no_to o r q s ra rb t (ap (λ (x : Word). x.act) k ∙ e)
no_last (last.Call at o r q) w s ra rb t (inr k) e = k
no_last (last.Cond at i q) w s ra rb t (inl k) e = no_cond i q s ra rb t (ap (λ (x : Word). x.act) k ∙ e)
no_last (last.Cond at i q) w s ra rb t (inr k) e = k
no_last (last.CallBy at i) w s ra rb t (inl k) e = no_plain i s ra rb t (ap (λ (x : Word). x.act) k ∙ e)
no_last (last.CallBy at i) w s ra rb t (inr k) e = k
no_last (last.JumpBy at i) w s ra rb t (inl k) e = no_plain i s ra rb t (ap (λ (x : Word). x.act) k ∙ e)
no_last (last.JumpBy at i) w s ra rb t (inr k) e = k

abbrev pub load_of : ℕ → ℕ → Bool → ℕ → ℕ → Target → Load
load_of id obj s ra rb t = record { id = id; obj = obj; ra = ra; rb = rb; target = t; from_slot = s }

pub load_in_is : (os : List Op) (k : OpKind) (id obj : ℕ) (s : Bool) (ra rb : ℕ) (t : Target) → op_act os k ≡ word_act s ra rb t → load_in id obj k ≡ Some (load_of id obj s ra rb t)
load_in_is os (op.Lit rc rd u) id obj true ra rb t e = cc
load_in_is os (op.Lit rc rd u) id obj false ra rb t e = cc
load_in_is os (op.AddrLda rc rd u) id obj true ra rb t e = cc
load_in_is os (op.AddrLda rc rd u) id obj false ra rb t e = cc
load_in_is os (op.Plain i) id obj s ra rb t e = absurd (no_plain i s ra rb t e)
load_in_is os (op.AddrHi rc rd u z) id obj true ra rb t e = cc
load_in_is os (op.AddrHi rc rd u z) id obj false ra rb t e = cc
load_in_is os (op.UseGp i g u) id obj true ra rb t e = cc
load_in_is os (op.UseGp i g u) id obj false ra rb t e = cc
load_in_is os (op.GpHi rc rd q) id obj true ra rb t e = cc
load_in_is os (op.GpHi rc rd q) id obj false ra rb t e = cc
load_in_is os (op.GpLo rc rd q) id obj true ra rb t e = cc
load_in_is os (op.GpLo rc rd q) id obj false ra rb t e = cc
load_in_is os (op.UseLo i q) id obj s ra rb t e = by_target (target_at os q) s e
  where
    by_target : (o : Option Target) (s : Bool) → use_of i q o ≡ word_act s ra rb t → load_in id obj (op.UseLo i q) ≡ Some (load_of id obj s ra rb t)
    by_target None true e = cc
    by_target None false e = cc
    by_target (Some u) true e = cc
    by_target (Some u) false e = cc

-- the load of a word is done
record WordDone (l : LayoutView) (g : GraphView) (b : Block) (w : Word) (s : Bool) (ra rb : ℕ) (t : Target) : Type 0 where
  id : ℕ
  done : IsDone l g (load_of id w.at.obj s ra rb t)
  in_it : IsLoadIn g (load_of id w.at.obj s ra rb t) b w

module _ (l : LayoutView) (g : GraphView) (graph : IsGraph g) (all : IsAllDone l g) where
  word_done : (b : Block) (w : Word) (s : Bool) (ra rb : ℕ) (t : Target) → Has g.blocks b → Has (block_words b) w → w.act ≡ word_act s ra rb t → WordDone l g b w s ra rb t
  word_done b w s ra rb t hb hw e = by_part (has_both (map (op_word (ops_of b)) (ops_of b)) (last_words b.last) w hw)
    where
      by_part : Has (map (op_word (ops_of b)) (ops_of b)) w ⊎ Has (last_words b.last) w → WordDone l g b w s ra rb t
      by_part (inr h) = absurd (no_last b.last w s ra rb t h e)
      by_part (inl h) =
          let n = node_of_word (ops_of b) b.ops w h in
          let k = node_split b.ops n.0 n.1 in
          let at : At g n.0 = record { block = b; among = hb; before = k.0; behind = k.1; stands = k.2 } in
          let is = load_in_is (ops_of b) (n.0).op.kind (n.0).id (n.0).op.place.obj s ra rb t (ap (λ (x : Word). x.act) n.2 ∙ e) in
          let d = all b hb b n.0 (found_here g graph b b.id hb refl).0 n.1 (n.0).op (load_of (n.0).id (n.0).op.place.obj s ra rb t) (op_is g graph n.0 at) is in
          let o : (n.0).op.place.obj ≡ w.at.obj = ap (λ (x : Word). x.at.obj) n.2 in
          record {
            id = (n.0).id;
            done = subst (λ (j : ℕ). IsDone l g (load_of (n.0).id j s ra rb t)) o d;
            in_it = record { among = hb; node = n.0; inside = n.1; is_id = refl; word = sym n.2 };
          }

  pub near_done : IsNearDone l g
  near_done = record { bytes = record { uses = bytes }; uses = λ p regions. record { uses = bases p regions }; loads = loads }
    where
      bytes : (b : Block) (load user : Word) (r rb x : ℕ) (region : Region) (i : Instr) → Has g.blocks b → IsLocalUse (block_words b) load user r → load.act ≡ act.Lit r rb (target.Ptr region x) → user.act ≡ act.Plain i → IsByteUse r i → ⊥
      bytes b load user r rb x region i hb u e a v =
          let d = word_done b load true r rb (target.Ptr region x) hb (first_in (block_words b) u.mid load user u.stands) e in
          (d.done.slot refl).bytes.uses b load user i region x d.in_it refl u a v

      bases :
          (p : ProgramView) → HasRegionsOf p l → (b : Block) (load user : Word) (r rb x : ℕ) (region : Region) (i : Instr) (z : ℤ) → Has g.blocks b → (u : IsLocalUse (block_words b) load user r) →
          load.act ≡ act.AddrLda r rb (target.Ptr region x) → IsNear p (gp_of l) (address_of l) load.at.obj (target.Ptr region x) → user.act ≡ act.Plain i → IsBaseUse r i z → (r ≡ rb → ⊥) → Unwritten rb u.mid →
          SumIsWithin p (gp_of l) (address_of l) (target.Ptr region x) z → FitsSigned w16 (from_gp p (gp_of l) (address_of l) load.at.obj (target.Ptr region x) +ℤ z) → ⊥
      bases p regions b load user r rb x region i z hb u e near a v others unwritten within fits =
          let d = word_done b load false r rb (target.Ptr region x) hb (first_in (block_words b) u.mid load user u.stands) e in
          d.done.bases.uses p b load user i region x z regions d.in_it refl u a v others unwritten near within fits

      loads : (p : ProgramView) (b : Block) (bf : List Word) (w : Word) (ws : List Word) (ra rb : ℕ) (t : Target) → HasRegionsOf p l → StandsIn g b bf w ws → w.act ≡ act.Lit ra rb t → IsNear p (gp_of l) (address_of l) w.at.obj t → ra ≡ 31
      loads p b bf w ws ra rb t regions s e near = by_31 (ra == 31) refl
        where
          by_31 : (c : Bool) → (ra == 31) ≡ c → ra ≡ 31
          by_31 true f = eqb-true ra 31 f
          by_31 false f =
              let d = word_done b w true ra rb t s.among (subst (λ (z : List Word). Has z w) s.split (has_behind bf (w ∷ ws) w (inl refl))) e in
              absurd ((d.done.slot refl).near (differ ra 31 f) p regions near)
