use Rattle.std.proofs.Common.{◌≡◌, ◌+◌, ◌-◌, ap, sym, ◌∙◌, length-append, append-nil, arith}
use Rattle.om_fields.proofs.Numbers.{words_at-next, words_at-fits}
use Rattle.om_fields.proofs.reading.read_words.Goals as goal

pub loop-i-preserved : goal.loop-i-preserved
loop-i-preserved c = (
  rw c.in_ok-push.ensures.items
      (words_at-next c.loop-i.words.items c.args.at c.loop-i.i c.args.count c.u32_at.result c.args.bytes.now _ c.loop-i-test.true
      c.u32_at.ensures c.loop-i.invariant.0),
  rw c.in_ok-push.ensures.items (length-append _ _ ∙ ap (λ n. n + 1) c.loop-i.invariant.1),
)

pub returns-clause-fits : goal.returns-clause-fits
returns-clause-fits c k =
    let left : c.args.count - c.loop-i.i ≡ 0 = omega arith in
    let all = rw left at c.loop-i.invariant.0 in
    rw (sym (append-nil c.loop-i.words.items) ∙ all)
    (words_at-fits c.args.at c.args.count c.args.bytes.now (λ j. omega (arith, c.type_inv.bytes j)) k)
