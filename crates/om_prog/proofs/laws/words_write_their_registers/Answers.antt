use Rattle.om_prog.proofs.Stays.{other_kept, own_written}
use Rattle.om_prog.proofs.laws.words_write_their_registers.Goals as goal

pub returns : goal.returns
returns c = record { kept = other_kept; written = own_written }
