use Rattle.std.proofs.Common.{◌≡◌}
use Rattle.om_fields.specs.Places.{each}
use Rattle.om_prog.specs.View.{items_lists}
use Rattle.om_resolve.specs.Program.{text_of}
use Rattle.om_resolve.proofs.texts.texts.Given as goal

abbrev pub invariant-loop-obj : goal.invariant-loop-obj
invariant-loop-obj l = items_lists l.all.items ≡ each (text_of l.l.objects.now) l.obj
