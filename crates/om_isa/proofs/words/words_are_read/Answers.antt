use Rattle.om_isa.proofs.Reading.{one_instr, a_word, one_word, read_exactly}
use Rattle.om_isa.proofs.words.words_are_read.Goals as goal

pub returns : goal.returns
returns c = record { one_instr = one_instr; a_word = a_word; one_word = one_word; read = read_exactly }
