use Rattle.om_graph.proofs.OnWalks.{may_mask}
use Rattle.om_graph.proofs.Outs.{are_outs}
use Rattle.om_graph.proofs.Behind.{inside}
use Rattle.om_graph.proofs.Read.{reads_block, reads_behind}
use Rattle.om_graph.specs.Outs.{outs_of}
use Rattle.om_graph.proofs.Places.{in_labels, placed}
use Rattle.om_graph.proofs.laws.checked_masks_hold.Goals as goal

pub returns : goal.returns
returns c = record {
  outs = λ g masks graph. are_outs g graph.blocks masks;
  walks = λ g masks graph form places checked.
      may_mask g (in_labels g graph form places) (placed g graph form places) form masks (outs_of g masks) checked (are_outs g graph.blocks masks);
  inside = λ g masks outs graph form places checked are.
      inside masks outs g checked are (in_labels g graph form places) (placed g graph form places) form;
  blocks = λ g graph form places b r. reads_block g graph form places r b;
  behind = reads_behind;
}
