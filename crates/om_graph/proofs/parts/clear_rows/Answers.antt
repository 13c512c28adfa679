use Rattle.std.proofs.Common.{get_or, arith}
use Rattle.std.proofs.lemmas.List.{get_or_default}
use Rattle.std.proofs.lemmas.List.Edits.{map_over_more}
use Rattle.om_graph.specs.Laid.{cleared_row}
use Rattle.om_graph.proofs.parts.clear_rows.Goals as goal

pub loop-row-preserved : goal.loop-row-preserved
loop-row-preserved c =
    let rows = c.loop-row.rows in
    let i = c.loop-row.row-index in
    let x = get_or c.loop-row.rows c.loop-row.row-index c.row-item.result in
    map_over_more cleared_row c.args.rows.now rows i x (omega arith) c.loop-row.invariant (get_or_default rows i c.row-item.result x (omega arith))
