use Rattle.std.proofs.Common.{List, subst}
use Rattle.std.specs.Prelude.{All}
use Rattle.om_layout.specs.declared.sorting.Extent.{Extent}
use Rattle.om_layout.specs.Placing.{Fits}
use Rattle.om_layout.proofs.Extents.{in_order, same_extents, stand_once}
use Rattle.om_layout.proofs.sorting.sorted_extents.Goals as goal

pub returns-clause-same : goal.returns-clause-same
returns-clause-same c = same_extents c.args.regions.now c.in_ok-extents.extents.items c.sort.new.self.items c.in_ok-extents.ensures c.in_ok-sort.ensures.permutation

pub returns-clause-once : goal.returns-clause-once
returns-clause-once c = stand_once c.args.regions.now c.in_ok-extents.extents.items c.sort.new.self.items c.requires c.in_ok-extents.ensures c.in_ok-sort.ensures.permutation

pub returns-clause-order : goal.returns-clause-order
returns-clause-order c =
    in_order c.sort.new.self.items c.in_ok-sort.ensures.sorted
    (subst (λ (es : List Extent). All (λ (e : Extent). Fits e.region) es) c.as_slice.ensures.value c.extents_fit.ensures) (returns-clause-once c)
