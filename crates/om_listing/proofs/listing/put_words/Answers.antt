use Rattle.std.proofs.Common.{false}
use Rattle.om_listing.proofs.Steps.{word_put, word_failed}
use Rattle.om_listing.proofs.listing.put_words.Goals as goal

pub returns-in_err-put_lines : goal.returns-in_err-put_lines
returns-in_err-put_lines g c =
    word_failed c.args.text.now c.args.object c.args.words.now c.loop-k.k (record { old = 0; position = 0; kept = false }) c.loop-k-test.true
    c.from_residual.ensures.0 c.loop-k.invariant c.in_err-put_lines.ensures

pub loop-k-preserved : goal.loop-k-preserved
loop-k-preserved g c =
    word_put c.args.text.now c.args.object c.args.words.now c.loop-k.k (record { old = 0; position = 0; kept = false }) c.loop-k-test.true
    c.loop-k.invariant c.in_ok-put_lines.ensures
