use Rattle.std.specs.Prelude.{◌≡◌, ◌<◌, ℕ, List, Some}
use Rattle.std.specs.List.{slice_get}
use Rattle.om_prog.specs.declared.item.Item.{Item}
use Rattle.om_prog.specs.View.{ProgramView}
use Rattle.om_prog.specs.Valid.{IsText}
use Rattle.om_prog.specs.Known.{IsKnown}
use Rattle.om_prog.proofs.items.are_texts.Given as goal

abbrev pub invariant-loop-obj : goal.invariant-loop-obj
invariant-loop-obj l =
    (v : ProgramView) → IsKnown l.known v → (k : ℕ) (text : List Item) → k < l.obj → slice_get v.texts k ≡ Some text → IsText v k text
