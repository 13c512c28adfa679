use Rattle.std.proofs.Common.{◌∙◌, sym, arith}
use Rattle.om_words.proofs.Texts.{count_ends, count_goes_on}
use Rattle.om_words.proofs.matching.count_fitting.Goals as goal

pub returns-then-not-fits-clause-gives : goal.returns-then-not-fits-clause-gives
returns-then-not-fits-clause-gives c =
    let ends = count_ends c.args.form c.args.words.now c.loop-place.place c.index-words-place.result c.as_str.result.now
    (c.loop-place-test.true) c.index-words-place.is c.as_str.ensures.value (sym c.fits.ensures ∙ c.if-not-fits.true) in
    omega (arith, c.loop-place.invariant, ends)

pub loop-place-preserved : goal.loop-place-preserved
loop-place-preserved c =
    let more = count_goes_on c.args.form c.args.words.now c.loop-place.place c.index-words-place.result c.as_str.result.now
    (c.loop-place-test.true) c.index-words-place.is c.as_str.ensures.value (sym c.fits.ensures ∙ c.if-not-fits.false) in
    omega (arith, c.loop-place.invariant, more)
