use Rattle.std.proofs.Common.{◌≡◌, ◌+◌, List, [], ◌∷◌, ◌++◌, sym, ◌∙◌, ap, subst}
use Rattle.std.specs.Prelude.{None}
use Rattle.om_fields.specs.declared.extents.Extent.{Extent}
use Rattle.om_fields.specs.Extents.{StandFor}
use Rattle.om_fields.proofs.ExtentLemmas.{none_is, stand_for_unloaded, stand_for_more}
use Rattle.om_fields.proofs.extents.add_loaded.Goals as goal

pub returns-then-is_unloaded-clause-stands : goal.returns-then-is_unloaded-clause-stands
returns-then-is_unloaded-clause-stands c extent k stands same =
    let unloaded : c.args.t.number ≡ None = none_is c.args.t.number (sym c.is_unloaded.ensures ∙ c.if-is_unloaded.true) in
    stand_for_unloaded extent k c.args.loaded.now.items stands (ap (λ (e : Extent). e.number) same ∙ unloaded)

pub returns-clause-stands : goal.returns-clause-stands
returns-clause-stands c extent k stands same =
    let items : c.args.loaded.now.items ++ extent k ∷ [] ≡ c.push.new.self.items =
    ap (λ (e : Extent). c.args.loaded.now.items ++ e ∷ []) same ∙ sym c.in_ok-push.ensures.items in
    subst (λ (es : List Extent). StandFor extent (k + 1) es) items (stand_for_more extent k c.args.loaded.now.items stands)
