use Rattle.om_passes.proofs.FitsStay.{delete_fits, replace_fits, end_fits, drop_fits}
use Rattle.om_passes.proofs.FarFits.{far_fits}
use Rattle.om_passes.proofs.laws.ops_still_fit.Goals as goal

pub returns : goal.returns
returns c = λ p gp address. record {
  gone = λ g id b x prog of o word unnamed then fits. delete_fits p gp address prog g of fits id b x o word unnamed then;
  set = λ g id b x kind prog of o no_old no_new then new_fits fits. replace_fits p gp address prog g of fits id b x o kind no_old no_new then new_fits;
  ended = λ g id b call a l prog of block was is then fits. end_fits p gp address prog g of fits id b block call a l was is then;
  without = λ g id b prog of block fits. drop_fits p gp address prog g of fits id b block;
  far = λ g new l b n prog of one is made then fit fits. far_fits p gp address prog g new of then l b n one is made fit fits;
}
