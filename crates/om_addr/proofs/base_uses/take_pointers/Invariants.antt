use Rattle.std.proofs.Common.{Some}
use Rattle.om_addr.specs.Near.{base_kind, IsSaid}
use Rattle.om_addr.proofs.Walking.{ops_left}
use Rattle.om_addr.proofs.Bases.{writes_either}
use Rattle.om_addr.proofs.Loops.{OnLoad}
use Rattle.om_addr.proofs.base_uses.take_pointers.Given as goal

abbrev pub invariant-loop-next : goal.invariant-loop-next
invariant-loop-next l = OnLoad (base_kind l.load l.at) (writes_either l.load.ra l.load.rb) (λ z. IsSaid z l.load (Some l.at)) l.load l.initial.g l.g l.changed l.next

abbrev pub decreases-loop-next : goal.decreases-loop-next
decreases-loop-next l = ops_left l.g l.next
