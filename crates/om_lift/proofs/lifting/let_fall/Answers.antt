use Rattle.std.proofs.Common.{refl, sym, subst}
use Rattle.om_graph.specs.View.{GraphView}
use Rattle.om_lift.specs.Lifting.{Holds, fallen_if}
use Rattle.om_lift.proofs.Shapes.{is_live}
use Rattle.om_lift.proofs.Growing.{fell, stayed}
use Rattle.om_lift.proofs.lifting.let_fall.Goals as goal

pub last-requires : goal.last-requires
last-requires c =
    let h = c.requires in
    let e = c.in-Some.is in
    is_live c.in-Some.b c.args.graph.now.blocks (rw e at h)

pub returns-in-Off-clause-holds : goal.returns-in-Off-clause-holds
returns-in-Off-clause-holds c p ss h =
    let before = c.args.before in
    subst (λ (x : GraphView). Holds p (fallen_if before ss) before x) (sym c.set_last.ensures)
    (fell p ss c.args.graph.now before c.in-Some.b c.in-Some.is h c.in-Off.ensures)

pub returns-in_default-last : goal.returns-in_default-last
returns-in_default-last c = record {
  holds = λ p ss h. stayed p ss c.args.graph.now c.args.before c.in-Some.b c.last.result c.in-Some.is h c.last.ensures c.in_default-last.not-Off;
  labels = refl;
}
