use Rattle.std.proofs.Common.{◌≡◌, ℕ, Bool, true, List, [], ◌∷◌, ◌++◌, Option, Some, sym, subst, ◌∙◌, ap}
use Rattle.om_prog.specs.View.{ProgramView}
use Rattle.om_prog.proofs.Found.{if_all}
use Rattle.om_graph.specs.View.{Shape}
use Rattle.om_graph.specs.Landing.{begins}
use Rattle.om_lift.specs.Lifting.{Holds, fallen_if, new_shape, opened}
use Rattle.om_lift.proofs.Growing.{opened_is}
use Rattle.om_lift.proofs.lifting.block_of.Goals as goal
use Rattle.om_lift.proofs.lifting.block_of.Goals.{in_default-via-in-Some+else-not-begins, in_default-via-in_default}

pub returns-in_default : goal.returns-in_default
returns-in_default c =
    let p = c.args.p.now in
    let at = c.args.at in
    let o = c.in_default.before in
    let known : (begins p at ≡ true) × (o ≡ c.args.before) =
    elim c.in_default.branch [
      | in_default-via-in-Some+else-not-begins w ↦ (sym w.begins.ensures ∙ w.if-not-begins.false, w.before-is ∙ sym w.in-Some.is)
      | in_default-via-in_default w ↦ (c.requires.first w.in_default.is, w.before-is)
    ]
    in
    let shapes : (ss : List Shape) → fallen_if o ss ++ new_shape at c.is_opening_pair.result ∷ [] ≡ opened p at c.args.before ss =
    λ ss.
    ap (λ (y : Option ℕ). fallen_if y ss ++ new_shape at c.is_opening_pair.result ∷ []) known.1
    ∙ ap (λ (t : Bool). fallen_if c.args.before ss ++ new_shape at t ∷ []) c.is_opening_pair.ensures
    ∙ sym (opened_is p at c.args.before ss known.0)
    in
    if_all c.begin_block.result
    (λ b. (p : ProgramView) (ss : List Shape) → Holds p ss o c.args.graph.now → Holds p (fallen_if o ss ++ new_shape at c.is_opening_pair.result ∷ []) (Some b) c.begin_block.new.graph)
    (λ b. (ss : List Shape) → Holds p ss c.args.before c.args.graph.now → Holds p (opened p at c.args.before ss) (Some b) c.begin_block.new.graph)
    c.begin_block.ensures
    (λ b f ss h.
    subst (λ (xs : List Shape). Holds p xs (Some b) c.begin_block.new.graph) (shapes ss)
    (f p ss (subst (λ (y : Option ℕ). Holds p ss y c.args.graph.now) (sym known.1) h)))
