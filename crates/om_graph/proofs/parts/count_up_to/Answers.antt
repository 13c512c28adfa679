use Rattle.std.proofs.Common.{arith, rules, not}
use Rattle.std.proofs.lemmas.Bool.{not-true, not-false}
use Rattle.std.proofs.lemmas.List.Sorted.{IsPartitionPoint-from_clause}
use Rattle.om_graph.specs.View.{place_lt}
use Rattle.om_graph.specs.Laid.{no_row}
use Rattle.om_graph.proofs.RowSearch.{parted_up_to}
use Rattle.om_graph.proofs.parts.count_up_to.Goals as goal

pub returns-clause-below : goal.returns-clause-below
returns-clause-below c =
    let point = IsPartitionPoint-from_clause (λ r. not (place_lt c.args.p r.label)) _ _ c.partition_point.ensures.partitioned (parted_up_to c.args.p c.args.rows.now c.requires) (λ a r q k. search rules) in
    λ k h. not-true _ (point.0 k no_row (omega arith) h)

pub returns-clause-above : goal.returns-clause-above
returns-clause-above c =
    let point = IsPartitionPoint-from_clause (λ r. not (place_lt c.args.p r.label)) _ _ c.partition_point.ensures.partitioned (parted_up_to c.args.p c.args.rows.now c.requires) (λ a r q k. search rules) in
    λ k h l. not-false _ (point.1 k no_row h l)
