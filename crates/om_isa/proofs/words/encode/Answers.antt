use Rattle.om_isa.proofs.Reading.{complete}
use Rattle.om_isa.proofs.words.encode.Goals as goal

pub returns-clause-back : goal.returns-clause-back
returns-clause-back c = complete c.write_word.result c.args.i.now (record { fields = c.write_word.ensures.fields; word = c.write_word.ensures.value })
