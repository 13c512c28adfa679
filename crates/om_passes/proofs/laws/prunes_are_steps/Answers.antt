use Rattle.om_graph.specs.Outs.{outs_of}
use Rattle.om_graph.proofs.Outs.{are_outs}
use Rattle.om_passes.proofs.DeadStep.{dead_step, masks_after, outs_after}
use Rattle.om_passes.proofs.DroppedStep.{dropped_step}
use Rattle.om_passes.proofs.laws.prunes_are_steps.Goals as goal

pub returns : goal.returns
returns c = record {
  word = λ p g id b x masks bf ws prog m d checked.
      dead_step p prog g m id b x d.op d.address d.followed d.unnamed masks (outs_of g masks) checked (are_outs g m.graph.graph.blocks masks) bf ws d.stands d.dead;
  masks = λ p g id b x masks bf ws prog m d checked.
      let s = dead_step p prog g m id b x d.op d.address d.followed d.unnamed masks (outs_of g masks) checked (are_outs g m.graph.graph.blocks masks) bf ws d.stands d.dead in (
        masks_after p prog g m id b x d.op d.address d.followed d.unnamed masks (outs_of g masks) checked (are_outs g m.graph.graph.blocks masks) bf ws d.stands d.dead,
        outs_after p prog g m id b x d.op d.address d.followed d.unnamed masks (outs_of g masks) checked (are_outs g m.graph.graph.blocks masks) bf ws d.stands d.dead _ (are_outs _ s.rewrite.goes_on.graph.graph.blocks masks),
      );
  block = λ p g id b prog m o out. dropped_step p prog g m id b o out;
}
