use Rattle.om_command.proofs.SimTelling.{sim_answers}
use Rattle.om_command.proofs.simulating.sim.Goals as goal

pub returns : goal.returns
returns g c = sim_answers _ _ _ _ _ _ _ c.simulate-stop.ensures c.report_sim.ensures
