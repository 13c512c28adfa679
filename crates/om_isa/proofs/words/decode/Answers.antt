use Rattle.std.proofs.Common.{◌∙◌, sym}
use Rattle.om_isa.proofs.Reading.{sound, complete}
use Rattle.om_isa.proofs.words.decode.Goals as goal

pub returns-clause-exact : goal.returns-clause-exact
returns-clause-exact c i = (
  (λ e. sound c.args.w i c.ranges.w.fits (sym c.read_word.ensures ∙ e)),
  (λ s. c.read_word.ensures ∙ complete c.args.w i s),
)
