use Rattle.om_layout.proofs.Noted.{count_step}
use Rattle.om_layout.proofs.tabling.table_count.Goals as goal

pub loop-table-preserved : goal.loop-table-preserved
loop-table-preserved c = count_step c.args.object_tables.now c.loop-table.table-index c.loop-table.count c.max-count.result c.loop-table-test.true c.loop-table.invariant c.max-count.ensures
