use Rattle.std.proofs.Common.{◌≡◌, ◌+◌, drop, ◌∙◌, arith, inr}
use Rattle.om_symrun.proofs.Taking.{taken_more, all_taken}
use Rattle.om_symrun.proofs.streams.take_all.Goals as goal

pub returns-in-Ok-eq0-clause-taken : goal.returns-in-Ok-eq0-clause-taken
returns-in-Ok-eq0-clause-taken g c = λ bytes told.
    let before = c.loop-taken.invariant.3 bytes told in
    let piece = c.in-Ok-eq0.ensures.taken (drop c.loop-taken.taken bytes) before.rest in
    let zero : c.loop-taken.taken + c.in-Ok-eq0.field-0 ≡ c.loop-taken.taken = omega (arith, c.in-Ok-eq0.field-0-test) in
    let more = taken_more _ _ _ _ _ _ _ bytes _ _ before piece.0 in
    (rw zero at more, inr (omega arith, all_taken c.loop-taken.taken bytes before.enough (piece.1 c.in-Ok-eq0.field-0-test)))

pub loop-taken-preserved : goal.loop-taken-preserved
loop-taken-preserved g c = (
  omega (arith, c.in-Ok.ensures.most),
  λ r. c.in-Ok.ensures.sizes r ∙ c.loop-taken.invariant.1 r,
  c.in-Ok.ensures.cause.kept ∙ c.loop-taken.invariant.2,
  λ bytes told.
      let before = c.loop-taken.invariant.3 bytes told in
      let piece = c.in-Ok.ensures.taken (drop c.loop-taken.taken bytes) before.rest in
      taken_more _ _ _ _ _ _ _ bytes _ _ before piece.0,
)
