use Rattle.std.specs.Prelude.{◌≡◌, ◌<◌, ℕ, Some}
use Rattle.std.specs.List.{slice_get}
use Rattle.om_prog.specs.declared.item.Item.{Item}
use Rattle.om_prog.specs.View.{ProgramView}
use Rattle.om_prog.specs.Valid.{IsItem}
use Rattle.om_prog.specs.Known.{IsKnown}
use Rattle.om_prog.specs.Making.{word_place}
use Rattle.om_prog.proofs.items.are_items.Given as goal

abbrev pub invariant-loop-i : goal.invariant-loop-i
invariant-loop-i l =
    (v : ProgramView) → IsKnown l.known v → (k : ℕ) (i : Item) → k < l.i → slice_get l.text k ≡ Some i → IsItem v l.text (word_place l.obj k) i
