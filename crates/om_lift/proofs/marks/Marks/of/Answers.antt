use Rattle.std.proofs.Common.{◌||◌, false, List, subst}
use Rattle.std.specs.List.{list_any}
use Rattle.om_value.specs.declared.value.Place.{Place}
use Rattle.om_value.specs.Same.{place_eq}
use Rattle.om_graph.specs.Landing.{some_role, loads_place, branches_to}
use Rattle.om_lift.specs.Places.{AreMarks}
use Rattle.om_lift.proofs.marks.Marks.of.Goals as goal

pub returns : goal.returns
returns c =
    let p = c.args.p.now in
    let w = c.mark_words.ensures (λ q. false) (λ q. false) (record { names = c.in_ok-new.ensures; branches = c.in_ok-new-2.ensures }) in
    let r = c.mark_roots.ensures p _ _ w in
    record {
      marks = subst (λ (rs : List Place). AreMarks p (λ q. list_any (λ r. place_eq r q) rs || some_role p (loads_place q)) (λ q. some_role p (branches_to q)) c.mark_roots.new.marks) c.requires r;
    }
