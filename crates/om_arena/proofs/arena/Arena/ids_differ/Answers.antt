use Rattle.om_arena.specs.Linked.{lists_of}
use Rattle.om_arena.proofs.Laws.{differ, homes}
use Rattle.om_arena.proofs.arena.Arena.ids_differ.Goals as goal

pub returns-clause-differ : goal.returns-clause-differ
returns-clause-differ g c =
    let nodes = c.self.inside.links.nodes.slots in
    let ends = c.self.inside.links.ends.items in
    rw (← c.self.view_is) (λ id list place other_list other_place a b. differ (lists_of nodes ends) _ nodes ends c.self.invariant id list place other_list other_place a b)

pub returns-clause-apart : goal.returns-clause-apart
returns-clause-apart g c = rw (← c.self.view_is) c.self.invariant.agrees.apart

pub returns-clause-homes : goal.returns-clause-homes
returns-clause-homes g c =
    let nodes = c.self.inside.links.nodes.slots in
    let ends = c.self.inside.links.ends.items in
    rw (← c.self.view_is) (λ id list present. homes (lists_of nodes ends) 0 nodes ends c.self.invariant id list present)
