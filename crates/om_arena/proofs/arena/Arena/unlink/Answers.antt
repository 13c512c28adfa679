use Rattle.std.proofs.Common.{[], Some, IsSome, eqb, get_or, set}
use Rattle.std.specs.Map.{lookup}
use Rattle.om_arena.specs.Linked.{lists_of}
use Rattle.om_arena.specs.Lists.{home, without}
use Rattle.om_arena.proofs.Walks.{Becomes}
use Rattle.om_arena.proofs.Calls.{can_after, can_before, unlinks}
use Rattle.om_arena.proofs.arena.Arena.unlink.Goals as goal

pub set_after-requires : goal.set_after-requires
set_after-requires g c =
    let nodes = c.self.inside.links.nodes.slots in
    let ends = c.self.inside.links.ends.items in
    let lists = lists_of nodes ends in
    let live : IsSome (lookup (eqb c.args.id) (get_or lists (home c.args.id lists) [])) = rw (← c.self.view_is) at c.requires in
    let u = unlinks lists nodes c.remove-value.new.self.slots ends c.args.id c.key.result c.remove-value.result c.self.invariant live c.key.ensures c.remove-value.ensures.value c.remove-value.ensures.slots in
    can_after c.remove-value.new.self ends c.remove-value.result.link.list c.remove-value.result.link.before (Some c.args.id) u.fits u.can_after

pub set_before-requires : goal.set_before-requires
set_before-requires g c =
    let nodes = c.self.inside.links.nodes.slots in
    let ends = c.self.inside.links.ends.items in
    let lists = lists_of nodes ends in
    let live : IsSome (lookup (eqb c.args.id) (get_or lists (home c.args.id lists) [])) = rw (← c.self.view_is) at c.requires in
    let u = unlinks lists nodes c.remove-value.new.self.slots ends c.args.id c.key.result c.remove-value.result c.self.invariant live c.key.ensures c.remove-value.ensures.value c.remove-value.ensures.slots in
    let s = u.second c.set_after.new.self.nodes.slots c.set_after.new.self.ends.items c.set_after.ensures.slots c.set_after.ensures.ends in
    can_before c.set_after.new.self.nodes c.set_after.new.self.ends.items c.remove-value.result.link.list c.remove-value.result.link.after (Some c.args.id) s.0 s.1

becomes : (g : _) (c : goal.After-set_before g) → Becomes (set (lists_of c.self.inside.links.nodes.slots c.self.inside.links.ends.items) (home c.args.id (lists_of c.self.inside.links.nodes.slots c.self.inside.links.ends.items)) (without c.args.id (get_or (lists_of c.self.inside.links.nodes.slots c.self.inside.links.ends.items) (home c.args.id (lists_of c.self.inside.links.nodes.slots c.self.inside.links.ends.items)) []))) c.set_before.new.self.nodes.slots c.set_before.new.self.ends.items
becomes g c =
    let nodes = c.self.inside.links.nodes.slots in
    let ends = c.self.inside.links.ends.items in
    let lists = lists_of nodes ends in
    let live : IsSome (lookup (eqb c.args.id) (get_or lists (home c.args.id lists) [])) = rw (← c.self.view_is) at c.requires in
    let u = unlinks lists nodes c.remove-value.new.self.slots ends c.args.id c.key.result c.remove-value.result c.self.invariant live c.key.ensures c.remove-value.ensures.value c.remove-value.ensures.slots in
    u.done c.set_after.new.self.nodes.slots c.set_before.new.self.nodes.slots c.set_after.new.self.ends.items c.set_before.new.self.ends.items c.set_after.ensures.slots c.set_after.ensures.ends c.set_before.ensures.slots c.set_before.ensures.ends

pub invariant_of-self : goal.invariant_of-self
invariant_of-self g c = (becomes g c).linked

pub returns-clause-unlinked : goal.returns-clause-unlinked
returns-clause-unlinked g c = rw (← c.self.view_is) (becomes g c).are
