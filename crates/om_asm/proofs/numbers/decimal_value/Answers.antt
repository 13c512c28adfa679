use Rattle.std.proofs.Common.{ap, ◌∙◌, ◌+◌, ◌*◌, ◌^◌, min}
use Rattle.om_asm.proofs.Bounded.{one_more}
use Rattle.om_asm.proofs.numbers.decimal_value.Goals as goal

pub loop-c-preserved : goal.loop-c-preserved
loop-c-preserved c =
    let i = c.loop-c.invariant in
    one_more c.args.text.now c.loop-c.c-index c.loop-c.value c.min-value.result c.loop-c-test.true i.0 i.2
    (c.min-value.ensures ∙ ap (λ d. min (10 * c.loop-c.value + d) (2 ^ 64)) c.from.ensures)
