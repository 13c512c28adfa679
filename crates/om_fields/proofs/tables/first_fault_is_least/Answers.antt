use Rattle.om_fields.proofs.FirstFault.{tables_are_read}
use Rattle.om_fields.proofs.tables.first_fault_is_least.Goals as goal

-- src/tables.rt:6:1
pub returns : goal.returns
returns c = tables_are_read
