use Rattle.std.proofs.Common.{◌≡◌, ℕ, [], Some, None, IsSome, eqb, get_or, set, sym, ap, subst, ◌∙◌, refl}
use Rattle.std.specs.Map.{lookup}
use Rattle.om_arena.specs.Linked.{lists_of}
use Rattle.om_arena.specs.Lists.{home, with_value}
use Rattle.om_arena.proofs.Walks.{Becomes}
use Rattle.om_arena.proofs.Calls.{reads, writes, seen_written}
use Rattle.om_arena.proofs.arena.Arena.get_mut.Goals as goal

becomes : (g : _) (c : goal.After-node-1 g) (w : g.row.T.Denot) → Becomes (set (lists_of c.self.inside.links.nodes.slots c.self.inside.links.ends.items) (home c.args.id (lists_of c.self.inside.links.nodes.slots c.self.inside.links.ends.items)) (with_value c.args.id w (get_or (lists_of c.self.inside.links.nodes.slots c.self.inside.links.ends.items) (home c.args.id (lists_of c.self.inside.links.nodes.slots c.self.inside.links.ends.items)) []))) (set c.self.inside.links.nodes.slots c.key.result (Some (record { value = w; link = c.get_mut-node.result.now.link }))) c.self.inside.links.ends.items
becomes g c w =
    let nodes = c.self.inside.links.nodes.slots in
    let ends = c.self.inside.links.ends.items in
    let lists = lists_of nodes ends in
    let n = c.get_mut-node.result.now in
    let live : IsSome (lookup (eqb c.args.id) (get_or lists (home c.args.id lists) [])) = rw (← c.self.view_is) at c.requires in
    let node : get_or nodes c.args.id None ≡ Some n = ap (λ (k : ℕ). get_or nodes k None) (sym c.key.ensures) ∙ c.get_mut-node.ensures.value in
    let l = reads lists nodes ends c.args.id n c.self.invariant live node in
    subst (λ (k : ℕ). Becomes (set lists (home c.args.id lists) (with_value c.args.id w (get_or lists (home c.args.id lists) []))) (set nodes k (Some (record { value = w; link = n.link }))) ends) (sym c.key.ensures)
    (writes lists nodes ends c.args.id n w c.self.invariant l node)

pub invariant_of-self-lent : goal.invariant_of-self-lent
invariant_of-self-lent g c w = (becomes g c w).linked

pub returns : goal.returns
returns g c =
    let nodes = c.self.inside.links.nodes.slots in
    let ends = c.self.inside.links.ends.items in
    let lists = lists_of nodes ends in
    let n = c.get_mut-node.result.now in
    let live : IsSome (lookup (eqb c.args.id) (get_or lists (home c.args.id lists) [])) = rw (← c.self.view_is) at c.requires in
    let node : get_or nodes c.args.id None ≡ Some n = ap (λ (k : ℕ). get_or nodes k None) (sym c.key.ensures) ∙ c.get_mut-node.ensures.value in
    let l = reads lists nodes ends c.args.id n c.self.invariant live node in (
      (refl, λ w. rw (← c.self.view_is) (seen_written c.self.inside.links.nodes ends c.args.id c.key.result n (record { value = w; link = n.link }) w c.get_mut-node.ensures.value c.key.ensures (writes lists nodes ends c.args.id n w c.self.invariant l node))),
      record { writes_back = tt; value = rw (← c.self.view_is) (l.place.found ∙ ap (λ (x : _). Some x) (sym l.has)) },
    )
