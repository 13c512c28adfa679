use Rattle.std.proofs.Common.{◌≡◌, ◌<◌, ℕ, [], Option, Some, None, IsSome, eqb, length, get_or, set, arith, sym, ap, subst, ◌∙◌}
use Rattle.std.specs.Map.{lookup}
use Rattle.om_arena.specs.Linked.{lists_of}
use Rattle.om_arena.specs.Lists.{home, with_after}
use Rattle.om_arena.proofs.Walks.{Becomes}
use Rattle.om_arena.proofs.Calls.{reads, can_before, inserts, before_next}
use Rattle.om_arena.proofs.arena.Arena.insert_after.Goals as goal

pub insert-requires-clause-after : goal.insert-requires-clause-after
insert-requires-clause-after g c =
    let nodes = c.self.inside.links.nodes.slots in
    let ends = c.self.inside.links.ends.items in
    let lists = lists_of nodes ends in
    let live : IsSome (lookup (eqb c.args.at) (get_or lists (home c.args.at lists) [])) = rw (← c.self.view_is) at c.requires.live in
    let node : get_or nodes c.args.at None ≡ Some c.get.result.now = ap (λ (n : ℕ). get_or nodes n None) (sym c.key-key.ensures) ∙ c.get.ensures.value in
    let l = reads lists nodes ends c.args.at c.get.result.now c.self.invariant live node in
    can_before c.self.inside.links.nodes ends c.get.result.now.link.list c.get.result.now.link.after (Some c.args.at)
    (subst (λ (n : ℕ). n < length ends) (sym l.own) (omega (arith, l.within, c.self.invariant.as_many)))
    (before_next lists nodes ends c.args.at c.get.result.now c.self.invariant l)

becomes : (g : _) (c : goal.After-new g) → Becomes (set (lists_of c.self.inside.links.nodes.slots c.self.inside.links.ends.items) (home c.args.at (lists_of c.self.inside.links.nodes.slots c.self.inside.links.ends.items)) (with_after c.args.at (c.new.result, c.args.value) (get_or (lists_of c.self.inside.links.nodes.slots c.self.inside.links.ends.items) (home c.args.at (lists_of c.self.inside.links.nodes.slots c.self.inside.links.ends.items)) []))) c.insert.new.self.nodes.slots c.insert.new.self.ends.items
becomes g c =
    let nodes = c.self.inside.links.nodes.slots in
    let ends = c.self.inside.links.ends.items in
    let lists = lists_of nodes ends in
    let live : IsSome (lookup (eqb c.args.at) (get_or lists (home c.args.at lists) [])) = rw (← c.self.view_is) at c.requires.live in
    let node : get_or nodes c.args.at None ≡ Some c.get.result.now = ap (λ (n : ℕ). get_or nodes n None) (sym c.key-key.ensures) ∙ c.get.ensures.value in
    let n = c.get.result.now in
    let l = reads lists nodes ends c.args.at n c.self.invariant live node in
    let b = inserts lists c.self.inside.links c.insert.new.self (record { list = n.link.list; before = c.of-neighbour.result; after = n.link.after }) c.args.value c.insert.result c.args.at n c.self.invariant l (ap (λ (k : Option ℕ). record { list = n.link.list; before = k; after = n.link.after }) (c.of-neighbour.ensures ∙ ap Some c.key-key.ensures)) c.insert.ensures.inserted c.insert.ensures.was_vacant in
    subst (λ (i : ℕ). Becomes (set lists (home c.args.at lists) (with_after c.args.at (i, c.args.value) (get_or lists (home c.args.at lists) []))) c.insert.new.self.nodes.slots c.insert.new.self.ends.items) (sym c.new.ensures) b

pub invariant_of-self : goal.invariant_of-self
invariant_of-self g c = (becomes g c).linked

pub returns-clause-inserted : goal.returns-clause-inserted
returns-clause-inserted g c = rw (← c.self.view_is) (becomes g c).are
