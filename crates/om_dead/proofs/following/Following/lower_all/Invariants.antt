use Rattle.om_dead.specs.Lowering.{IsFollowing}
use Rattle.om_dead.proofs.following.Following.lower_all.Given as goal

abbrev pub invariant-loop-r : goal.invariant-loop-r
invariant-loop-r l = IsFollowing l.g l.self.masks.starts.items l.self.masks.ends.items l.self.ops.items
