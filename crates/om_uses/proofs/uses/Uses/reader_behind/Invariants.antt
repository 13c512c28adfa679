use Rattle.std.proofs.Common.{List}
use Rattle.om_graph.specs.View.{Node}
use Rattle.om_uses.specs.Readers.{readers, first_of}
use Rattle.om_uses.specs.Results.{IsBehind}
use Rattle.om_uses.proofs.Standing.{OnWalk}
use Rattle.om_uses.proofs.uses.Uses.reader_behind.Given as goal

abbrev pub invariant-loop : goal.invariant-loop
invariant-loop l = (n : Node) (behind : List Node) → IsBehind l.self l.fn.o n behind → OnWalk l.self (λ ns. first_of (readers l.r ns)) behind l.at l.counter
