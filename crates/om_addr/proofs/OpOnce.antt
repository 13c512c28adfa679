-- One op given another kind, as an edit of the pass over addresses.
use Rattle.std.proofs.Common.{◌≡◌, ◌<◌, ℕ, Bool, true, false, cond, List, [], ◌∷◌, Option, Some, None, refl, sym, ap, ◌∙◌, subst}
use Rattle.std.specs.Prelude.{map, find, is_some, option_map}
use Rattle.om_value.specs.declared.value.Place.{Place}
use Rattle.om_value.specs.Same.{place_eq}
use Rattle.om_prog.specs.View.{ProgramView}
use Rattle.om_prog.specs.Valid.{IsProgram}
use Rattle.om_graph.specs.declared.op.OpKind.{OpKind}
use Rattle.om_graph.specs.View.{Node, Block, GraphView, Has, ops_of, has_label, labelled, block_with, replace_in, replaced}
use Rattle.om_graph.specs.Held.{IsGraph}
use Rattle.om_graph.specs.Numbers.{AreNumbered}
use Rattle.om_graph.specs.Run.{op_act, rev_onto}
use Rattle.om_graph.specs.Fits.{OpFits}
use Rattle.om_graph.specs.Checks.{MaskChecked}
use Rattle.om_graph.specs.Outs.{outs_of}
use Rattle.om_graph.proofs.Outs.{are_outs}
use Rattle.om_blocks.specs.Found.{mask_under, masks_in}
use Rattle.om_uses.proofs.Near.{replaced_near}
use Rattle.om_layout.specs.Layout.{LayoutView, gp_of, address_of}
use Rattle.om_passes.specs.AtPlaces.{NoHalf}
use Rattle.om_passes.specs.OneEdit.{MayGoOn}
use Rattle.om_passes.specs.Step.{Step}
use Rattle.om_passes.proofs.FitsStay.{replace_fits}
use Rattle.om_passes.proofs.OpEdits.{no_high}
use Rattle.om_checks.specs.Steps.{ChangesTo, OpAt, node_words}
use Rattle.om_checks.proofs.Single.{mask_one_replaced}
use Rattle.om_addr.specs.Passing.{HasRegionsOf, IsReducedOnce, ReducingOnce}
use Rattle.om_addr.proofs.InARow.{going}
use Rattle.om_addr.proofs.Walking.{At, is_op, op_ids_set, block_ids_set}

-- ---- masks by the numbers of blocks

labelled_set : (id : ℕ) (k : OpKind) (q : Place) (bs : List Block) → option_map (λ (b : Block). b.id) (find (has_label q) (map (replace_in id k) bs)) ≡ option_map (λ (b : Block). b.id) (find (has_label q) bs)
labelled_set id k q [] = refl
labelled_set id k q (b ∷ bs) = by_test (place_eq b.label q) (labelled_set id k q bs)
  where
    by_test :
        (t : Bool) → option_map (λ (b : Block). b.id) (find (has_label q) (map (replace_in id k) bs)) ≡ option_map (λ (b : Block). b.id) (find (has_label q) bs) →
        option_map (λ (b : Block). b.id) (cond t (Some (replace_in id k b)) (find (has_label q) (map (replace_in id k) bs))) ≡ option_map (λ (b : Block). b.id) (cond t (Some b) (find (has_label q) bs))
    by_test true e = refl
    by_test false e = e

pub masks_set : (g : GraphView) (masks : List ℕ) (id : ℕ) (k : OpKind) (q : Place) (r : ℕ) → masks_in (replaced g id k) masks q r ≡ masks_in g masks q r
masks_set g masks id k q r = ap (λ (o : Option ℕ). mask_under masks o r) (labelled_set id k q g.blocks)

pub same_masks : (m n : Place → ℕ → Bool) (g : GraphView) → ((q : Place) (r : ℕ) → m q r ≡ n q r) → MaskChecked n g → MaskChecked m g
same_masks m n g e c = record {
  reads = λ b r hb l h. e b.label r ∙ c.reads b r hb l h;
  enters = λ b x r en l h w. e b.label r ∙ c.enters b x r en l (sym (e x.label r) ∙ h) w;
}

module _ (l : LayoutView) (masks : List ℕ) (g : GraphView) (graph : IsGraph g) (numbered : AreNumbered g) (n : Node) (at : At g n) (kind : OpKind) (no_old : NoHalf n.op.kind) (no_new : NoHalf kind)
    (step : (p : ProgramView) → IsProgram p → MayGoOn p g → Step p g (replaced g n.id kind))
    (fits : (p : ProgramView) → IsProgram p → MayGoOn p g → HasRegionsOf p l → OpFits p (gp_of l) (address_of l) at.block n.op.place kind)
    (changes : (p : ProgramView) → IsProgram p → MayGoOn p g → ChangesTo (rev_onto (node_words (ops_of at.block) at.before) []) (op_act (ops_of at.block) n.op.kind) (op_act (ops_of at.block) kind)) where
  op_at : OpAt g at.block n
  op_at = record { among = at.among; before = at.before; behind = at.behind; ops = at.stands }

  there : block_with g n.id ≡ Some at.block
  there = (is_op g graph n at).block

  passed : (p : ProgramView) → IsProgram p → MayGoOn p g → MaskChecked (masks_in g masks) g → IsReducedOnce p l masks g (replaced g n.id kind)
  unfolding op_at
  passed p prog m checked =
      let s = step p prog m in
      let then = s.rewrite.goes_on.graph in
      record {
        step = s;
        fits = λ h f. replace_fits p (gp_of l) (address_of l) prog g m.graph f n.id at.block n (is_op g graph n at) kind no_old no_new then (fits p prog m h);
        checked = same_masks (masks_in (replaced g n.id kind) masks) (masks_in g masks) (replaced g n.id kind) (masks_set g masks n.id kind)
            (mask_one_replaced (masks_in g masks) (outs_of g (masks_in g masks)) g graph at.block n kind op_at then.form (are_outs g graph.blocks (masks_in g masks))
            (no_high n.op.kind no_old) (no_high kind no_new) (changes p prog m) checked);
      }

  pub op_once : ReducingOnce l masks g (replaced g n.id kind)
  op_once = record {
    ids = record {
      blocks = block_ids_set n.id kind g.blocks;
      ops = op_ids_set n.id kind g.blocks;
      near = λ k h. replaced_near g k n.id kind graph numbered (ap is_some there) h;
    };
    goes_on = λ p prog m. going (step p prog m).rewrite.goes_on;
    passed = passed;
  }
