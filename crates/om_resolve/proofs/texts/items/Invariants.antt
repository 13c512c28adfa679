use Rattle.std.proofs.Common.{◌≡◌}
use Rattle.om_fields.specs.Places.{each}
use Rattle.om_resolve.specs.Program.{item_of}
use Rattle.om_resolve.proofs.texts.items.Given as goal

abbrev pub invariant-loop-k : goal.invariant-loop-k
invariant-loop-k l = l.words.items ≡ each (item_of l.l.objects.now l.obj l.s) l.k
