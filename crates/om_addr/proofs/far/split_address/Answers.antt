use Rattle.std.proofs.Common.{◌≡◌, ℕ, true, false, Option, Some, None, refl, sym, ap, ◌∙◌}
use Rattle.std.proofs.lemmas.Bool.{true≢false}
use Rattle.std.specs.Prelude.{ℤ}
use Rattle.std.specs.Int.{w16}
use Rattle.std.proofs.lemmas.Int.{to_z-of_z}
use Rattle.om_addr.specs.FarEdit.{one_half, IsFarEdit}
use Rattle.om_addr.proofs.InARow.{none, more}
use Rattle.om_addr.proofs.FarSplit.{small_register, far_once}
use Rattle.om_addr.proofs.FarServes.{half_is, edit_is, near_is, is_not, not_not}
use Rattle.om_addr.proofs.Splits.{same_ends, far_ends}
use Rattle.om_addr.proofs.FarLeft.{none_live, none_31, none_near, none_found, none_any, none_half}
use Rattle.om_addr.proofs.far.split_address.Goals.{then-live-via-then-live, then-live-via-else-live+then-num-eq31, then-live-via-else-live+else-num-eq31+then-is_small, then-not-all-via-then-not-all, then-not-all-via-else-not-all+then-not-serves_all}
use Rattle.om_addr.proofs.far.split_address.Goals as goal

pub returns-then-live : goal.returns-then-live
returns-then-live c = record {
  passed = λ l masks said dead. none l masks c.args.g.now;
  ends = same_ends c.args.g.now;
  nothing = λ l said e.
      elim c.then-live.branch [
        | then-live-via-then-live w ↦ none_live l c.args.g.now c.requires.program.may_go_on.graph.graph c.args.load.now c.requires.load c.args.at.now said c.args.live w.if-live.true
        | then-live-via-else-live+then-num-eq31 w ↦
            none_31 l c.args.g.now c.requires.program.may_go_on.graph.graph c.args.load.now c.requires.load c.args.at.now said c.args.live (sym w.num.ensures.value ∙ w.if-num-eq31.true)
        | then-live-via-else-live+else-num-eq31+then-is_small w ↦
            none_near l c.args.g.now c.requires.program.may_go_on.graph.graph c.args.load.now c.requires.load c.args.at.now said c.args.live (near_is c.args.at.now c.requires.tame (sym w.is_small.ensures ∙ w.if-is_small.true))
      ];
}

pub returns-in_default : goal.returns-in_default
returns-in_default c = record {
  passed = λ l masks said dead. none l masks c.args.g.now;
  ends = same_ends c.args.g.now;
  nothing = λ l said e.
      none_found l c.args.g.now c.is_graph.ensures c.args.load.now c.requires.load c.args.at.now said c.args.live
      (small_register c.num.result c.args.load.now.ra c.num.ensures.value c.num.ensures.range c.if-num-eq31.false) None c.in_default.ensures refl;
}

pub returns-then-not-all : goal.returns-then-not-all
returns-then-not-all c = record {
  passed = λ l masks said dead. none l masks c.args.g.now;
  ends = same_ends c.args.g.now;
  nothing = λ l said e.
      elim c.then-not-all.branch [
        | then-not-all-via-then-not-all w ↦
            none_any l c.args.g.now c.is_graph.ensures c.args.load.now c.requires.load c.args.at.now said c.args.live
            (small_register c.num.result c.args.load.now.ra c.num.ensures.value c.num.ensures.range c.if-num-eq31.false) (Some c.in-Some.all) c.in-Some.ensures c.in-Some.all refl (is_not c.in-Some.all.any w.if-not-all.true)
        | then-not-all-via-else-not-all+then-not-serves_all w ↦
            none_half l c.args.g.now c.is_graph.ensures c.args.load.now c.requires.load c.args.at.now said c.args.live
            (small_register c.num.result c.args.load.now.ra c.num.ensures.value c.num.ensures.range c.if-num-eq31.false) (Some c.in-Some.all) c.in-Some.ensures c.in-Some.all refl (half_is c.args.at.now c.in-Some.all c.in-Some.ensures.short false (sym w.if-not-serves_all.ensures))
      ];
}

pub returns : goal.returns
returns c = record {
  passed = λ l masks said dead.
      more l masks false c.args.g.now c.args.g.now c.make_far.new.g (none l masks c.args.g.now)
      (far_once l masks c.args.g.now c.make_far.new.g c.is_graph.ensures c.is_numbered.ensures c.args.load.now c.requires.pointer.region c.requires.pointer.off c.requires.pointer.is c.requires.slot
      (small_register c.num.result c.args.load.now.ra c.num.ensures.value c.num.ensures.range c.if-num-eq31.false) c.args.at.now said (dead c.if-live.false) c.in-Some.all c.in-Some.ensures (not_not c.in-Some.all.any c.if-not-all.false)
      (half_is c.args.at.now c.in-Some.all c.in-Some.ensures.short true (sym c.if-not-serves_all.ensures))
      (edit_is c.args.load.now c.in-Some.all c.in-Some.ensures.short c.args.g.now c.make_far.new.g c.make_far.ensures));
  ends =
      far_ends c.args.g.now c.make_far.new.g c.is_graph.ensures c.args.load.now c.in-Some.all.least c.requires.pointer
      (edit_is c.args.load.now c.in-Some.all c.in-Some.ensures.short c.args.g.now c.make_far.new.g c.make_far.ensures);
  nothing = λ l said e. absurd (true≢false e);
}
