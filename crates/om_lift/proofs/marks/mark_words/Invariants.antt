use Rattle.std.proofs.Common.{Bool, ◌||◌, take}
use Rattle.std.specs.List.{list_any}
use Rattle.om_value.specs.declared.value.Place.{Place}
use Rattle.om_graph.specs.Landing.{loads_place, branches_to}
use Rattle.om_lift.specs.Places.{AreMarks}
use Rattle.om_lift.proofs.marks.mark_words.Given as goal

abbrev pub invariant-loop-obj : goal.invariant-loop-obj
invariant-loop-obj l =
    (named branched : Place → Bool) → AreMarks l.p named branched l.initial.marks →
    AreMarks l.p
    (λ q. named q || list_any (λ text. list_any (λ i. loads_place q i.role) text) (take l.obj l.p.texts))
    (λ q. branched q || list_any (λ text. list_any (λ i. branches_to q i.role) text) (take l.obj l.p.texts))
    l.marks
