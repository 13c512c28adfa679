-- A graph in which a load was made far with all of its uses.
use Rattle.std.proofs.Common.{◌≡◌, inl, inr, ◌<◌, ◌≤◌, ℕ, List, [], ◌∷◌, Some, refl, sym, ap, ◌∙◌, subst, arith}
use Rattle.std.specs.Prelude.{map}
use Rattle.om_value.specs.declared.value.Place.{Place}
use Rattle.om_prog.specs.Act.{Word}
use Rattle.om_prog.specs.View.{ProgramView}
use Rattle.om_prog.specs.Valid.{IsProgram}
use Rattle.om_graph.specs.declared.op.Op.{Op}
use Rattle.om_graph.specs.declared.op.OpKind.{OpKind}
use Rattle.om_graph.specs.declared.op.OpKind.TheVariants as op
use Rattle.om_graph.specs.declared.op.Last.{Last}
use Rattle.om_graph.specs.View.{Block, GraphView, Has, ops_of}
use Rattle.om_graph.specs.Held.{IsGraph}
use Rattle.om_graph.specs.Run.{block_words}
use Rattle.om_graph.specs.Form.{Ordered}
use Rattle.om_graph.specs.Rewritten.{each_word}
use Rattle.om_graph.specs.Kept.{IsInKeptSet, named, FallsOn, names, Links}
use Rattle.om_graph.specs.Index.{BranchInReach}
use Rattle.om_graph.proofs.Ends.{each_from}
use Rattle.om_graph.proofs.OfProgram.{is_shape, shape_ordered, words_in_place}
use Rattle.om_passes.specs.Blocks.{OneBlock, LeadsNoFurther}
use Rattle.om_passes.specs.Far.{FarLoad, far_target, use_kind, far_op, far_change, IsFarLoad, IsMadeFar}
use Rattle.om_graph.specs.Weight.{total, op_weight, last_weight, block_weight}
use Rattle.om_passes.specs.Step.{Onward}
use Rattle.om_passes.specs.OneEdit.{MayGoOn}
use Rattle.om_passes.proofs.OneBlock.{old_block}
use Rattle.om_passes.proofs.Weights.{some_weight, one_lighter}
use Rattle.om_passes.proofs.FarEdits.{IsFarOp, half_op, use_op, same_op, is_far_op, each, far_words, far_block}
use Rattle.om_passes.proofs.Going.{goes_one}

use_lighter : (l : FarLoad) (k : OpKind) → op_weight (use_kind l k) ≤ op_weight k
use_lighter l (op.Plain i) = omega arith
use_lighter l (op.Lit ra rb t) = omega arith
use_lighter l (op.AddrLda ra rb t) = omega arith
use_lighter l (op.AddrHi ra rb t least) = omega arith
use_lighter l (op.UseLo i hi) = omega arith
use_lighter l (op.UseGp i gp t) = omega arith
use_lighter l (op.GpHi ra rb base) = omega arith
use_lighter l (op.GpLo ra rb hi) = omega arith

op_lighter : (l : FarLoad) (o : Op) → op_weight (far_op l o).kind ≤ op_weight o.kind
op_lighter l o = by_case (is_far_op l o)
  where
    by_case : IsFarOp l o (far_op l o) → op_weight (far_op l o).kind ≤ op_weight o.kind
    by_case (half_op a f) = let e = ap (λ (x : Op). op_weight x.kind) f in let s = some_weight o.kind in omega (arith, e, s)
    by_case (use_op a u f) = let e = ap (λ (x : Op). op_weight x.kind) f in let s = use_lighter l o.kind in omega (arith, e, s)
    by_case (same_op a u f) = let e = ap (λ (x : Op). op_weight x.kind) f in omega (arith, e)

abbrev ops_weight : List Op → ℕ
ops_weight os = total (λ o. op_weight o.kind) os

all_lighter : (l : FarLoad) (os : List Op) → ops_weight (map (far_op l) os) ≤ ops_weight os
all_lighter l [] = omega arith
all_lighter l (o ∷ os) = let a = op_lighter l o in let i = all_lighter l os in omega (arith, a, i)

far_lighter : (l : FarLoad) (os : List Op) → Has os (record { place = l.hi; kind = op.Lit l.ra l.rb (far_target l) }) → ops_weight (map (far_op l) os) < ops_weight os
far_lighter l [] h = absurd h
far_lighter l (o ∷ os) (inl e) =
    let i = all_lighter l os in
    let w = ap (λ (x : Op). op_weight x.kind) e in
    let n = ap (λ (x : Op). op_weight (far_op l x).kind) e ∙ load_weight (is_far_op l (record { place = l.hi; kind = op.Lit l.ra l.rb (far_target l) })) in
    omega (arith, i, w, n)
  where
    load_weight : IsFarOp l (record { place = l.hi; kind = op.Lit l.ra l.rb (far_target l) }) (far_op l (record { place = l.hi; kind = op.Lit l.ra l.rb (far_target l) })) → op_weight (far_op l (record { place = l.hi; kind = op.Lit l.ra l.rb (far_target l) })).kind ≡ 1
    load_weight (half_op a f) = ap (λ (x : Op). op_weight x.kind) f
    load_weight (use_op a u f) = absurd (a refl)
    load_weight (same_op a u f) = absurd (a refl)
far_lighter l (o ∷ os) (inr h) = let a = op_lighter l o in let i = far_lighter l os h in omega (arith, a, i)

module _ (p : ProgramView) (prog : IsProgram p) (g new : GraphView) (m : MayGoOn p g) (graph : IsGraph new) (l : FarLoad) (b n : Block) (one : OneBlock g.blocks new.blocks b n)
    (counts : new.counts ≡ g.counts) (roots : new.roots ≡ g.roots) (tables : new.tables ≡ g.tables) (labels : new.labels ≡ g.labels) (is : IsFarLoad l b) (made : IsMadeFar l b n) where
  there : Has g.blocks b
  there = old_block one

  order : Ordered (block_words b)
  order = (words_in_place p prog g m.graph).ordered b there

  leads : LeadsNoFurther g b n
  leads = record {
    label = made.label;
    falls = λ f. subst (λ (e : Last). FallsOn e) made.last f;
    names = λ w q h a k. of_names w q (each_from (far_change l) (block_words b) w (subst (λ (ws : List Word). Has ws w) words h)) a k;
    links = λ w h a. of_links w (each_from (far_change l) (block_words b) w (subst (λ (ws : List Word). Has ws w) words h)) a;
  }
    where
      words : block_words n ≡ each_word (far_change l) (block_words b)
      words = far_words p prog l b n is made order

      of_names : (w : Word) (q : Place) → (x : Word) × Has (block_words b) x × (far_change l x ≡ Some w) → names w.act q → IsInKeptSet g b.label → IsInKeptSet g q
      of_names w q (x, h, e) a k =
          each p prog l b n is made order (λ v u. Has (block_words b) v → names u.act q → IsInKeptSet g q) (λ h a. absurd a) (λ v w h i a. absurd a) (λ v i a. named b v q there k i a) x w h e h a

      of_links : (w : Word) → (x : Word) × Has (block_words b) x × (far_change l x ≡ Some w) → Links w.act → (v : Word) × Has (block_words b) v × Links v.act × (v.at ≡ w.at)
      of_links w (x, h, e) a =
          each p prog l b n is made order (λ v u. Has (block_words b) v → Links u.act → (v : Word) × Has (block_words b) v × Links v.act × (v.at ≡ u.at))
          (λ h a. absurd a) (λ v w h i a. absurd a) (λ v i a. (v, i, a, refl)) x w h e h a

  pub far_goes : Onward p g new
  far_goes = record {
    goes_on =
        goes_one p prog g new b n one counts roots tables labels (far_change l) m.graph graph m.kept m.reach
        (far_block p prog l b n is made order (λ y h. (m.graph).form.ops b y there h) ((m.graph).form.lasts b there) (λ s h. shape_ordered p prog s (is_shape p s h))) leads
        (subst (λ (e : Last). BranchInReach g.counts e) (sym made.last) ((m.reach).lasts b there));
    lighter = one_lighter g new b n one made.label made.opening lighter;
  }
    where
      lighter : block_weight g.blocks n < block_weight g.blocks b
      lighter =
          let w = far_lighter l (ops_of b) is.load in
          let o = ap (λ (os : List Op). ops_weight os) made.ops in
          let e = ap (last_weight g.blocks) made.last in
          omega (arith, w, o, e)
