use Rattle.std.proofs.Common.{sym, ap, option_map}
use Rattle.om_words.specs.Meaning.{meaning_by}
use Rattle.om_words.specs.Sentences.{texts}
use Rattle.om_words.proofs.reading.read_words.Goals as goal

pub returns-in-Err : goal.returns-in-Err
returns-in-Err c = (
  meaning_by c.in-Some.form (texts c.args.words.now),
  ap (λ o. option_map (λ f. meaning_by f (texts c.args.words.now)) o) (sym c.in-Some.ensures.gives),
)
