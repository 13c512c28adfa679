use Rattle.om_prog.specs.Laws.{IsIn}
use Rattle.om_prog.proofs.Stays.{codes_stay}
use Rattle.om_prog.proofs.laws.codes_stay.Goals as goal

pub returns : goal.returns
returns c = record { stay = λ among. codes_stay (IsIn among) }
