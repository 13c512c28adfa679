use Rattle.om_dead.proofs.OnSweeps.{flow_of}
use Rattle.om_dead.proofs.following.Following.lower.Goals as goal

pub spread-requires-clause-flow : goal.spread-requires-clause-flow
spread-requires-clause-flow c = flow_of c.args.g.now c.requires.following.program

pub lower-requires-clause-flow : goal.lower-requires-clause-flow
lower-requires-clause-flow c = flow_of c.args.g.now c.requires.following.program
