use Rattle.om_dead.proofs.OnFollowing.{some_none}
use Rattle.om_dead.proofs.following.Following.look_at.Goals as goal

pub returns-in-None-clause-deleted : goal.returns-in-None-clause-deleted
returns-in-None-clause-deleted c = some_none c.args.g.now c.requires.following.program
