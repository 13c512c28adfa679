use Rattle.std.proofs.Common.{refl}
use Rattle.om_command.proofs.LinkTelling.{link_done, link_stopped}
use Rattle.om_command.proofs.linking.link_files.Goals as goal

pub returns-in-Ok : goal.returns-in-Ok
returns-in-Ok g c = λ input sink. link_done _ _ _ _ _ _ c.in-Ok.ensures.done refl refl refl refl

pub returns-in-Err : goal.returns-in-Err
returns-in-Err g c = λ input sink. link_stopped _ _ _ _ _ _ c.in-Err.stop c.in-Err.ensures.stopped c.report_link.ensures refl refl
