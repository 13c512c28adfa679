use Rattle.std.proofs.Common.{◌≡◌, ◌<◌, ℕ, [], ◌∷◌, ◌++◌, None, length, get_or, set, arith, sym, ap, subst, ◌∙◌, refl}
use Rattle.std.proofs.lemmas.List.{append-nil}
use Rattle.om_arena.specs.Linked.{lists_of, next_at}
use Rattle.om_arena.proofs.Walks.{Becomes}
use Rattle.om_arena.proofs.Changes.{next_between}
use Rattle.om_arena.proofs.Calls.{can_after, last_at, pushes}
use Rattle.om_arena.proofs.arena.Arena.push_back.Goals as goal

pub insert-requires-clause-before : goal.insert-requires-clause-before
insert-requires-clause-before g c =
    let nodes = c.self.inside.links.nodes.slots in
    let ends = c.self.inside.links.ends.items in
    let lists = lists_of nodes ends in
    let list = c.as_u32.result in
    let same : c.args.list ≡ list = sym c.as_u32.ensures in
    let asked : c.args.list < length lists = rw (← c.self.view_is) at c.requires.list in
    let within : list < length lists = subst (λ (n : ℕ). n < length lists) same asked in
    let read : c.index.result.now ≡ get_or ends list c.index.result.now =
    c.index.ensures ∙ ap (λ (n : ℕ). get_or ends n c.index.result.now) (c.number.ensures ∙ same) in
    let items = get_or lists list [] in
    can_after c.self.inside.links.nodes ends list c.index.result.now.last None (omega (arith, c.self.invariant.as_many))
    (ap (next_at nodes ends list) (last_at lists nodes ends c.self.invariant list c.index.result.now within read) ∙ next_between lists nodes ends c.self.invariant list items [] (sym (append-nil items)))

becomes : (g : _) (c : goal.After-new g) → Becomes (set (lists_of c.self.inside.links.nodes.slots c.self.inside.links.ends.items) c.args.list (get_or (lists_of c.self.inside.links.nodes.slots c.self.inside.links.ends.items) c.args.list [] ++ (c.new.result, c.args.value) ∷ [])) c.insert.new.self.nodes.slots c.insert.new.self.ends.items
becomes g c =
    let nodes = c.self.inside.links.nodes.slots in
    let ends = c.self.inside.links.ends.items in
    let lists = lists_of nodes ends in
    let list = c.as_u32.result in
    let same : list ≡ c.args.list = c.as_u32.ensures in
    let asked : c.args.list < length lists = rw (← c.self.view_is) at c.requires.list in
    let within : list < length lists = subst (λ (n : ℕ). n < length lists) (sym same) asked in
    let read : c.index.result.now ≡ get_or ends list c.index.result.now =
    c.index.ensures ∙ ap (λ (n : ℕ). get_or ends n c.index.result.now) (c.number.ensures ∙ sym same) in
    let b = pushes lists c.self.inside.links c.insert.new.self (record { list = list; before = c.index.result.now.last; after = None }) c.args.value c.insert.result c.index.result.now c.self.invariant within read refl refl c.insert.ensures.inserted c.insert.ensures.was_vacant in
    subst (λ (l : ℕ). Becomes (set lists l (get_or lists l [] ++ (c.new.result, c.args.value) ∷ [])) c.insert.new.self.nodes.slots c.insert.new.self.ends.items) same
    (subst (λ (i : ℕ). Becomes (set lists list (get_or lists list [] ++ (i, c.args.value) ∷ [])) c.insert.new.self.nodes.slots c.insert.new.self.ends.items) (sym c.new.ensures) b)

pub invariant_of-self : goal.invariant_of-self
invariant_of-self g c = (becomes g c).linked

pub returns-clause-pushed : goal.returns-clause-pushed
returns-clause-pushed g c = rw (← c.self.view_is) (becomes g c).are
