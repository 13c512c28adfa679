use Rattle.om_checks.proofs.Ends.{gp_direct}
use Rattle.om_checks.proofs.Entries.{gp_entered}
use Rattle.om_checks.proofs.Closed.{gp_pair_dropped}
use Rattle.om_checks.proofs.Drops.{gp_block}
use Rattle.om_checks.proofs.laws.facts_stay.Goals as goal

pub returns : goal.returns
returns c = record {
  direct = λ p g id end facts form known stays checked. gp_direct g id end form known stays p facts checked;
  entered = λ p g facts b e end graph form places after k checked. gp_entered p g facts b e end graph form places after k checked;
  pair = λ p facts g b high low graph hb k form checked. gp_pair_dropped p facts g graph b hb high low k form checked;
  block = λ p g gone facts graph among unfallen checked. gp_block g graph gone among unfallen p facts checked;
}
