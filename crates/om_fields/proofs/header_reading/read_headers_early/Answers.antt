use Rattle.std.proofs.Common.{sym, ◌∙◌}
use Rattle.om_fields.proofs.Faults.{early_fault_is}
use Rattle.om_fields.proofs.header_reading.read_headers_early.Goals as goal

pub returns-in-Some : goal.returns-in-Some
returns-in-Some c =
    early_fault_is c.args.bytes.now c.in-Some.rule c.in-Some.at (sym c.in_ok-rule.ensures.gives ∙ c.in-Some.is)
