use Rattle.om_layout.proofs.Noted.{none_step}
use Rattle.om_layout.proofs.tabling.empty_tables.Goals as goal

pub loop-table-preserved : goal.loop-table-preserved
loop-table-preserved c = none_step c.loop-table._table c.new.result c.loop-table.tables.items c.push.new.self.items c.loop-table.invariant c.new.ensures c.in_ok-push.ensures.items
