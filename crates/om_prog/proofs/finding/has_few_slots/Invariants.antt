use Rattle.std.specs.Prelude.{◌≡◌, ◌≤◌, length, take}
use Rattle.om_prog.specs.Valid.{slots}
use Rattle.om_prog.specs.Making.{HasSlots}
use Rattle.om_prog.proofs.finding.has_few_slots.Given as goal

abbrev pub invariant-loop-i : goal.invariant-loop-i
invariant-loop-i l =
    HasSlots l.seen (slots (take l.i l.text)) × (l.count ≡ length (slots (take l.i l.text))) × (l.count ≤ l.i)
