use Rattle.om_command.proofs.ExecTelling.{exec_answers}
use Rattle.om_command.proofs.executing.exec.Goals as goal

pub returns : goal.returns
returns g c = exec_answers _ _ _ _ _ _ _ _ c.execute-stop.ensures c.report_exec.ensures
