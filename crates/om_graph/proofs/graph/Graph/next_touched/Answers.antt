use Rattle.std.proofs.Common.{◌≡◌, ◌-◌, List, true, take, drop, length, sym, ap, ◌∙◌}
use Rattle.std.specs.Prelude.{find}
use Rattle.std.proofs.lemmas.List.{take_rest}
use Rattle.om_graph.specs.declared.parts.Row.{Row}
use Rattle.om_graph.specs.Laid.{touched_of}
use Rattle.om_graph.proofs.RowLabels.{touched_after}
use Rattle.om_graph.proofs.graph.Graph.next_touched.Goals as goal

pub returns-in-Some : goal.returns-in-Some
returns-in-Some c =
    let rows = c.self.inside.rows.items in
    let is = touched_after c.in-Some.p rows c.count_up_to.result (rw c.as_slice-rows.ensures.value at c.count_up_to.ensures.below) (rw c.as_slice-rows.ensures.value at c.count_up_to.ensures.above) in
    let from : take (length c.as_slice-rows.result.now - c.count_up_to.result) (drop c.count_up_to.result c.as_slice-rows.result.now) ≡ drop c.count_up_to.result rows =
    take_rest c.as_slice-rows.result.now c.count_up_to.result ∙ ap (λ (l : List Row). drop c.count_up_to.result l) c.as_slice-rows.ensures.value in
    rw c.in-Some.is (rw (← c.self.view_is) (c.first_touched.ensures ∙ ap (λ (l : List Row). find (λ q. true) (touched_of l)) from ∙ sym is))
