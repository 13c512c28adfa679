use Rattle.std.proofs.Common.{take}
use Rattle.om_resolve.specs.Maps.{HasQuads}
use Rattle.om_resolve.proofs.roles.quads_of.Given as goal

abbrev pub invariant-loop-k : goal.invariant-loop-k
invariant-loop-k l = HasQuads l.lita l.entries (take l.k l.lita.relocs)
