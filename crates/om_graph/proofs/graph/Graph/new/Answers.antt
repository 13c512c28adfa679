use Rattle.std.proofs.Common.{◌<◌, ◌^◌, ◌++◌, ◌∷◌, [], ℕ, List, length, sym, ap, ◌∙◌, subst}
use Rattle.om_value.specs.declared.value.Place.{Place}
use Rattle.om_graph.specs.View.{numbers_from}
use Rattle.om_graph.specs.Laid.{AreStarts}
use Rattle.om_graph.proofs.GraphEdits.{made_laid}
use Rattle.om_graph.proofs.graph.Graph.new.Goals as goal

pub invariant_of-result : goal.invariant_of-result
invariant_of-result c =
    let texts = c.in_ok-from_slice.ensures.items in
    let roots = c.in_ok-from_slice-2.ensures.items in
    let none = c.new-kept.ensures.lists in
    made_laid c.in_ok-from_slice.field-0.items c.in_ok-starts.starts.items c.in_ok-from_slice-2.field-0.items c.in_ok-starts.tables.items c.new.result.items
    c.add_list.new.self.lists c.in-Ok.order c.new-2.result.lists
    c.new.ensures.items
    (c.in-Ok.ensures.added ∙ ap (λ (l : List (List (ℕ × ℕ))). l ++ [] ∷ []) none)
    (c.in-Ok.ensures.number ∙ ap (λ (l : List (List (ℕ × ℕ))). length l) none)
    c.new-2.ensures.lists
    (subst (λ (l : List ℕ). AreStarts l c.in_ok-starts.starts.items) (sym texts) c.in_ok-starts.ensures.starts)
    (c.in_ok-starts.ensures.tables ∙ ap (λ (l : List ℕ). numbers_from 0 (length l)) (sym texts))
    (subst (λ (l : List ℕ). length l < 2 ^ 32) (sym texts) c.requires.objects)
    (subst (λ (l : List Place). 0 < length l) (sym roots) c.requires.roots)
