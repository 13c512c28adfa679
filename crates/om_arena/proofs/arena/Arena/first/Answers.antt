use Rattle.std.proofs.Common.{◌≡◌, ◌<◌, ℕ, length, get_or, ap, ◌∙◌}
use Rattle.om_arena.specs.Linked.{lists_of}
use Rattle.om_arena.specs.Lists.{first_id, items}
use Rattle.om_arena.proofs.Laws.{first_live}
use Rattle.om_arena.proofs.Calls.{first_at}
use Rattle.om_arena.proofs.arena.Arena.first.Goals as goal

read : (g : _) (c : goal.After-of_key g) → c.of_key.result ≡ first_id (items c.args.self.now c.args.list)
read g c =
    let nodes = c.self.inside.links.nodes.slots in
    let ends = c.self.inside.links.ends.items in
    let within : c.args.list < length (lists_of nodes ends) = rw (← c.self.view_is) at c.requires in
    let read : c.index.result.now ≡ get_or ends c.args.list c.index.result.now =
    c.index.ensures ∙ ap (λ (n : ℕ). get_or ends n c.index.result.now) c.number.ensures in
    c.of_key.ensures ∙ rw (← c.self.view_is) (first_at (lists_of nodes ends) nodes ends c.self.invariant c.args.list c.index.result.now within read)

pub returns-clause-first : goal.returns-clause-first
returns-clause-first g c = read g c

pub returns-clause-live : goal.returns-clause-live
returns-clause-live g c = first_live c.args.self.now c.args.list c.of_key.result (read g c)
