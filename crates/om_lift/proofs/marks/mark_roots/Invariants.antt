use Rattle.std.proofs.Common.{Bool, ◌||◌, take}
use Rattle.std.specs.List.{list_any}
use Rattle.om_value.specs.declared.value.Place.{Place}
use Rattle.om_value.specs.Same.{place_eq}
use Rattle.om_prog.specs.View.{ProgramView}
use Rattle.om_lift.specs.Places.{AreMarks}
use Rattle.om_lift.proofs.marks.mark_roots.Given as goal

abbrev pub invariant-loop-root : goal.invariant-loop-root
invariant-loop-root l =
    (p : ProgramView) (named branched : Place → Bool) → AreMarks p named branched l.initial.marks →
    AreMarks p (λ q. list_any (λ r. place_eq r q) (take l.root-index l.roots) || named q) branched l.marks
