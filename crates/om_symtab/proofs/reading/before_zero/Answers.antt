use Rattle.std.proofs.Common.{sym, arith}
use Rattle.om_symtab.proofs.Fronts.{before-at, before-all}
use Rattle.om_symtab.proofs.reading.before_zero.Goals as goal

pub returns-then-bytes-i-eq0 : goal.returns-then-bytes-i-eq0
returns-then-bytes-i-eq0 c = sym (before-at c.args.bytes.now c.loop-i.i c.loop-i-test.true c.loop-i.invariant c.if-bytes-i-eq0.true)

pub returns : goal.returns
returns c = sym (before-all c.args.bytes.now (λ j h. c.loop-i.invariant j (omega (arith, h, c.loop-i-test.false))))
