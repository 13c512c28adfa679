use Rattle.om_fields.specs.Bytes.{Grows, zeros}
use Rattle.om_fields.proofs.writing.push_zeros.Given as goal

abbrev pub invariant-loop : goal.invariant-loop
invariant-loop l = Grows l.fn.out.items l.out.items (zeros l.counter)
