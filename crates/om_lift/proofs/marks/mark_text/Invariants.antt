use Rattle.std.proofs.Common.{Bool, ◌||◌, take}
use Rattle.std.specs.List.{list_any}
use Rattle.om_value.specs.declared.value.Place.{Place}
use Rattle.om_prog.specs.View.{text_of}
use Rattle.om_graph.specs.Landing.{loads_place, branches_to}
use Rattle.om_lift.specs.Places.{AreMarks}
use Rattle.om_lift.proofs.marks.mark_text.Given as goal

abbrev pub invariant-loop-word : goal.invariant-loop-word
invariant-loop-word l =
    (named branched : Place → Bool) → AreMarks l.p named branched l.initial.marks →
    AreMarks l.p
    (λ q. named q || list_any (λ i. loads_place q i.role) (take l.word (text_of l.p l.obj)))
    (λ q. branched q || list_any (λ i. branches_to q i.role) (take l.word (text_of l.p l.obj)))
    l.marks
