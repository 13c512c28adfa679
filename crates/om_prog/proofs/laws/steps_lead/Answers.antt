use Rattle.om_prog.specs.Laws.{IsIn}
use Rattle.om_prog.proofs.Goes.{after_stays}
use Rattle.om_prog.proofs.Stays.{leads_on}
use Rattle.om_prog.proofs.laws.steps_lead.Goals as goal

pub returns : goal.returns
returns c = record {
  leads = λ among. leads_on (IsIn among);
  stays = λ c s w h. after_stays s w.at _ h;
}
