-- No load into r31 that could go without its slot is left among the words, where none is among the ops.
use Rattle.std.proofs.Common.{◌≡◌, ◌⊎◌, inl, inr, ℕ, true, List, ◌∷◌, refl, sym, ap, ◌∙◌, subst}
use Rattle.std.specs.Prelude.{map}
use Rattle.om_value.specs.declared.value.Place.{Place}
use Rattle.om_value.specs.declared.value.Target.{Target}
use Rattle.om_prog.specs.Act as act
use Rattle.om_prog.specs.Act.{Word}
use Rattle.om_prog.specs.View.{ProgramView}
use Rattle.om_graph.specs.View.{Block, GraphView, Has, ops_of}
use Rattle.om_graph.specs.Held.{IsGraph}
use Rattle.om_graph.specs.Run.{op_word, last_words}
use Rattle.om_graph.specs.Fits.{LdaFits}
use Rattle.om_graph.specs.Left.{StandsIn, IsNear}
use Rattle.om_graph.specs.Uses.{IsTextsLast}
use Rattle.om_blocks.proofs.Walking.{found_here}
use Rattle.om_blocks.proofs.LastWords.{has_both}
use Rattle.om_layout.specs.Layout.{LayoutView, gp_of, address_of}
use Rattle.om_addr.specs.Passing.{HasRegionsOf}
use Rattle.om_addr.specs.Idle.{IsAllIdle, IsIdleDone}
use Rattle.om_addr.proofs.AllDone.{node_split, node_of_word, no_last, load_in_is, load_of}
use Rattle.om_addr.proofs.HalfWords.{has_behind}
use Rattle.om_addr.proofs.Walking.{At, op_is}

pub idle_done : (l : LayoutView) (g : GraphView) → IsGraph g → IsAllIdle l g → IsIdleDone l g
idle_done l g graph all = record { loads = loads }
  where
    loads :
        (p : ProgramView) (b : Block) (bf : List Word) (w : Word) (ws : List Word) (rb : ℕ) (t : Target) → HasRegionsOf p l → StandsIn g b bf w ws → w.act ≡ act.Lit 31 rb t →
        IsNear p (gp_of l) (address_of l) w.at.obj t → IsTextsLast g w.at → ⊥
    loads p b bf w ws rb t regions s e near last =
        by_part (has_both (map (op_word (ops_of b)) (ops_of b)) (last_words b.last) w (subst (λ (z : List Word). Has z w) s.split (has_behind bf (w ∷ ws) w (inl refl))))
      where
        by_part : Has (map (op_word (ops_of b)) (ops_of b)) w ⊎ Has (last_words b.last) w → ⊥
        by_part (inr h) = no_last b.last w true 31 rb t h e
        by_part (inl h) =
            let n = node_of_word (ops_of b) b.ops w h in
            let k = node_split b.ops n.0 n.1 in
            let at : At g n.0 = record { block = b; among = s.among; before = k.0; behind = k.1; stands = k.2 } in
            let is = load_in_is (ops_of b) (n.0).op.kind (n.0).id (n.0).op.place.obj true 31 rb t (ap (λ (x : Word). x.act) n.2 ∙ e) in
            let q : (n.0).op.place ≡ w.at = ap (λ (x : Word). x.at) n.2 in
            all b s.among b n.0 (found_here g graph b b.id s.among refl).0 n.1 (n.0).op (load_of (n.0).id (n.0).op.place.obj true 31 rb t) (op_is g graph n.0 at) is refl refl p regions
            (subst (λ (y : Place). LdaFits p (gp_of l) (address_of l) y.obj t) (sym q) near) (subst (λ (y : Place). IsTextsLast g y) (sym q) last)
