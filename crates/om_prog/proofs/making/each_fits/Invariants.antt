use Rattle.std.specs.Prelude.{◌≡◌, ◌<◌, ℕ, Some}
use Rattle.std.specs.List.{slice_get}
use Rattle.om_prog.specs.declared.item.Field.{Field}
use Rattle.om_prog.specs.View.{ProgramView}
use Rattle.om_prog.specs.Valid.{IsField}
use Rattle.om_prog.specs.Known.{IsKnown}
use Rattle.om_prog.specs.Claims.{IsPlaced}
use Rattle.om_prog.proofs.making.each_fits.Given as goal

abbrev pub invariant-loop-i : goal.invariant-loop-i
invariant-loop-i l =
    ((v : ProgramView) → IsKnown l.known v → (k : ℕ) (f : Field) → k < l.i → slice_get l.fields k ≡ Some f → IsField v l.size f)
    × ((k : ℕ) (f : Field) → k < l.i → slice_get l.fields k ≡ Some f → IsPlaced f)
