use Rattle.om_arena.specs.Linked.{lists_of}
use Rattle.om_arena.proofs.Laws.{stand, live}
use Rattle.om_arena.proofs.arena.Arena.live_ids_stand.Goals as goal

pub returns-clause-stands : goal.returns-clause-stands
returns-clause-stands g c =
    let nodes = c.self.inside.links.nodes.slots in
    let ends = c.self.inside.links.ends.items in
    rw (← c.self.view_is) (λ id present. stand (lists_of nodes ends) _ nodes ends c.self.invariant id present)

pub returns-clause-lives : goal.returns-clause-lives
returns-clause-lives g c =
    let nodes = c.self.inside.links.nodes.slots in
    let ends = c.self.inside.links.ends.items in
    rw (← c.self.view_is) (λ id list place s. live (lists_of nodes ends) _ nodes ends c.self.invariant id list place s)
