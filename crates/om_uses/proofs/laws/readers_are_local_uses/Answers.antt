use Rattle.om_uses.proofs.LocalUses.{words_are, reader_is_use, use_is_reader, last_is_use, use_is_last, end_is_none, none_is_end}
use Rattle.om_uses.proofs.laws.readers_are_local_uses.Goals as goal

pub returns : goal.returns
returns c = record {
  words = words_are;
  uses = λ g id r b behind graph flow h n k. (reader_is_use g id r b behind graph flow h n k, use_is_reader g id r b behind graph flow h n k);
  used_last = λ g id r b behind graph flow h. (last_is_use g id r b behind graph flow h, use_is_last g id r b behind graph flow h);
  unwritten = λ g id r b behind graph flow h. (end_is_none g id r b behind graph flow h, none_is_end g id r b behind graph flow h);
}
