use Rattle.om_checks.proofs.Ends.{mask_direct}
use Rattle.om_checks.proofs.Drops.{mask_block}
use Rattle.om_checks.proofs.Single.{mask_one_replaced, mask_one_deleted}
use Rattle.om_checks.proofs.Highs.{mask_high_deleted, fits_local, fits_home, node_there}
use Rattle.om_checks.proofs.Blocks.{mask_block_changed}
use Rattle.om_checks.proofs.laws.masks_stay.Goals as goal

pub returns : goal.returns
returns c = record {
  direct = λ g id end masks outs form known stays are checked. mask_direct g id end form known stays masks outs are checked;
  block = λ g gone masks graph among unfallen checked. mask_block g graph gone among unfallen masks checked;
  set = λ masks outs g b n kind graph at form are low none ch checked. mask_one_replaced masks outs g graph b n kind at form are low none ch checked;
  gone = λ masks outs g b n graph at form are low dead checked. mask_one_deleted masks outs g graph b n at form are low dead checked;
  high_gone = λ p gp address masks outs g b n ra rb t fit graph form places at after are is small dead checked.
      mask_high_deleted masks outs g graph b n at after are places.ordered (fits_local p gp address g fit places.ordered)
      (λ x o i hx ho k. fits_home p gp address g fit graph form places b x n.op o i at.among (node_there g b n at) hx ho k) ra rb t is small dead checked;
  words = λ masks outs g new b n graph form one are ch checked. mask_block_changed masks outs g new b n graph form one are ch checked;
}
