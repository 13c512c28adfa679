use Rattle.std.proofs.Common.{◌≡◌, ℕ, [], Some, None, IsSome, eqb, get_or, sym, ap, ◌∙◌}
use Rattle.std.specs.Map.{lookup}
use Rattle.om_arena.specs.Linked.{lists_of}
use Rattle.om_arena.specs.Lists.{home, next_of}
use Rattle.om_arena.proofs.Laws.{next_live}
use Rattle.om_arena.proofs.Calls.{reads, next_is}
use Rattle.om_arena.proofs.arena.Arena.next.Goals as goal

read : (g : _) (c : goal.After-of_key g) → c.of_key.result ≡ next_of c.args.self.now c.args.id
read g c =
    let nodes = c.self.inside.links.nodes.slots in
    let ends = c.self.inside.links.ends.items in
    let lists = lists_of nodes ends in
    let live : IsSome (lookup (eqb c.args.id) (get_or lists (home c.args.id lists) [])) = rw (← c.self.view_is) at c.requires in
    let node : get_or nodes c.args.id None ≡ Some c.get.result.now = ap (λ (n : ℕ). get_or nodes n None) (sym c.key.ensures) ∙ c.get.ensures.value in
    c.of_key.ensures ∙ rw (← c.self.view_is) (next_is lists nodes ends c.args.id c.get.result.now (reads lists nodes ends c.args.id c.get.result.now c.self.invariant live node))

pub returns-clause-next : goal.returns-clause-next
returns-clause-next g c = read g c

pub returns-clause-live : goal.returns-clause-live
returns-clause-live g c = next_live c.args.self.now c.args.id c.of_key.result (read g c)
