use Rattle.om_dead.specs.Lowering.{IsFollowing, SomeDeleted}
use Rattle.om_dead.proofs.following.Following.go_on.Given as goal

abbrev pub invariant-loop-n : goal.invariant-loop-n
invariant-loop-n l = SomeDeleted l.initial.g l.g × IsFollowing l.g l.self.masks.starts.items l.self.masks.ends.items l.self.ops.items
