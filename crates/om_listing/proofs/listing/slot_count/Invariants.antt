use Rattle.std.proofs.Common.{◌≡◌, ◌+◌, drop}
use Rattle.om_image.specs.Written.{slot_count}
use Rattle.om_listing.proofs.listing.slot_count.Given as goal

abbrev pub invariant-loop-t : goal.invariant-loop-t
invariant-loop-t l = l.count + slot_count (drop l.t-index l.tables) ≡ slot_count l.tables
