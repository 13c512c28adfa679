use Rattle.std.specs.Prelude.{◌≡◌, ◌≤◌, ◌+◌, ◌*◌, ◌^◌, sum, take}
use Rattle.om_layout.specs.Placing.{AreFirsts}
use Rattle.om_layout.proofs.positions.starts_of.Given as goal

abbrev pub invariant-loop-count : goal.invariant-loop-count
invariant-loop-count l = record {
  firsts : AreFirsts (take l.count-index l.counts) l.starts.items;
  start : l.start ≡ sum (take l.count-index l.counts) + l.count-index;
  small : l.start ≤ l.count-index * 2 ^ 32;
}
