use Rattle.std.proofs.Common.{◌≡◌, true, sym, arith}
use Rattle.om_fields.proofs.Picked.{picked-first}
use Rattle.om_fields.proofs.Heads.{headers-rise}
use Rattle.om_fields.specs.HeaderFields.{header_at}
use Rattle.om_image.specs.Rules.{breaks_head}
use Rattle.om_image.proofs.head_rules.first_head.Goals as goal

pub returns-then-breaks_head-clause-gives : goal.returns-then-breaks_head-clause-gives
returns-then-breaks_head-clause-gives c =
    let holds : breaks_head c.args.rule c.args.bytes.now c.loop-k.k ≡ true = cc in
    sym (picked-first (breaks_head c.args.rule c.args.bytes.now) header_at 4 c.loop-k.k headers-rise (omega (arith, c.loop-k-test.true)) holds c.loop-k.invariant)
