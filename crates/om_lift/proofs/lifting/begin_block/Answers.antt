use Rattle.std.proofs.Common.{◌≡◌, false, List, [], ◌∷◌, ◌++◌, Some, sym, subst}
use Rattle.om_prog.specs.View.{ProgramView}
use Rattle.om_prog.proofs.Found.{if_both}
use Rattle.om_graph.specs.View.{Shape, GraphView, block_added, is_live_block}
use Rattle.om_lift.specs.Lifting.{Holds, fallen_if, new_shape}
use Rattle.om_lift.proofs.Growing.{block_held}
use Rattle.om_lift.proofs.lifting.begin_block.Goals as goal

pub returns : goal.returns
returns c =
    let before = c.args.before in
    let at = c.args.at in
    let o = c.args.opening in
    let g = c.let_fall.new.graph in
    let n = c.add_block.new.self in
    if_both c.add_block.result (λ b. is_live_block g b ≡ false) (λ b. n ≡ block_added g b at o)
    (λ b. (p : ProgramView) (ss : List Shape) → Holds p ss before c.args.graph.now → Holds p (fallen_if before ss ++ new_shape at o ∷ []) (Some b) n)
    c.add_block.ensures.fresh c.add_block.ensures.added
    (λ b f e p ss h. subst (λ (x : GraphView). Holds p (fallen_if before ss ++ new_shape at o ∷ []) (Some b) x) (sym e) (block_held p (fallen_if before ss) g before b at o (c.let_fall.ensures.holds p ss h) f))
