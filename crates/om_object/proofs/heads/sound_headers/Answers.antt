use Rattle.om_object.proofs.HeadsAt.{early_named}
use Rattle.om_object.proofs.heads.sound_headers.Goals as goal

pub lesser_fault-requires : goal.lesser_fault-requires
lesser_fault-requires c = early_named c.args.bytes.now c.in-Err-Rule.field-0 c.in-Err-Rule.rule c.in-Err-Rule.at c.in-Err-Rule.field-0-is c.in-Err-Rule.ensures
