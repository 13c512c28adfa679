use Rattle.std.proofs.Common.{◌≡◌, ◌++◌, ◌∷◌, [], is_ok}
use Rattle.om_arena.specs.Linked.{no_ends}
use Rattle.om_arena.proofs.Calls.{list_added, linked_either}
use Rattle.om_arena.proofs.arena.Arena.add_list.Goals as goal
use Rattle.om_arena.proofs.arena.Arena.add_list.Goals.{in-Ok, in-Err}

pub invariant_of-self : goal.invariant_of-self
invariant_of-self g c =
    linked_either c.self.inside.links.nodes.slots c.self.inside.links.ends.items c.push.new.self.items (is_ok c.push.result) c.self.invariant c.push.ensures.items

pub returns-clause-added : goal.returns-clause-added
returns-clause-added g c = elim c.match-push.branch [
  | in-Ok w ↦
      let pushed : c.push.new.self.items ≡ c.self.inside.links.ends.items ++ no_ends ∷ [] = w.in-Ok.ensures.items in
      let b = list_added c.self.inside.links.nodes.slots c.self.inside.links.ends.items c.self.invariant in
      rw w.result-is (rw (pushed, ← c.self.view_is) b.are)
  | in-Err w ↦ rw w.result-is tt
]
