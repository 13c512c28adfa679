use Rattle.std.proofs.Common.{arith}
use Rattle.om_encode.proofs.Mapped.{number_step}
use Rattle.om_encode.proofs.numbering.RegionNumbers.of.Goals as goal

pub loop-k-preserved : goal.loop-k-preserved
loop-k-preserved c =
    number_step c.loop-k.numbers c.add.new.self c.args.regions.now c.loop-k.k c.index-regions-k.result (omega arith) (omega arith)
    c.index-regions-k.is c.in_ok-add.ensures c.loop-k.invariant
