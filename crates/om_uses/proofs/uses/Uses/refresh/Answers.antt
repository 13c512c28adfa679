use Rattle.om_uses.proofs.Fresh.{refreshed}
use Rattle.om_uses.proofs.uses.Uses.refresh.Goals as goal

pub returns-clause-uses : goal.returns-clause-uses
returns-clause-uses c =
    rw (c.clear_touched.ensures, c.install_all.ensures)
    (refreshed c.args.g.now c.is_graph.ensures c.args.self.now c.admit_touched.new.self c.in_ok-fresh.fresh.items c.requires c.admit_touched.ensures.same
    c.in_ok-fresh.ensures.covered c.in_ok-fresh.ensures.room)
