use Rattle.om_passes.proofs.InARow.{none, none_deleted, more, more_deleted, all, both, deleted}
use Rattle.om_passes.proofs.laws.steps_go_on.Goals as goal

pub returns : goal.returns
returns c = record {
  none = λ p g prog m. none p prog g m.graph m.kept m.reach;
  more = more;
  all = all;
  none_deleted = λ p g prog m. none_deleted p prog g m.graph m.kept m.reach;
  more_deleted = more_deleted;
  deleted = deleted;
  meaning = both;
}
