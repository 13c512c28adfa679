use Rattle.std.proofs.Common.{Some, refl, ap, ◌∙◌, arith, rules}
use Rattle.std.proofs.lemmas.List.{map-set}
use Rattle.slab.proofs.SlabLemmas.{Updates-with_value}
use Rattle.slab.specs.Slab.{with_value}
use Rattle.om_arena.specs.Narrow.{found}
use Rattle.om_arena.specs.declared.slots.Slot.TheVariants.{Held}
use Rattle.om_arena.proofs.Narrow.{found_at, key_below, narrow_updated}
use Rattle.om_arena.proofs.slots.Slots.get_mut.Goals as goal

pub invariant_of-self-lent : goal.invariant_of-self-lent
invariant_of-self-lent g c w =
    let old = c.self.inside.slab in
    let below = key_below old.slots c.args.key c.self.invariant (rw (← c.self.view_is) at c.requires) in
    narrow_updated old (with_value old c.args.key (Held w)) c.args.key (Some (Held w)) (Updates-with_value old c.args.key (Held w) (search rules)) (λ _. refl) (λ beyond. absurd (omega (arith, beyond, below))) c.self.invariant

pub returns : goal.returns
returns g c =
    let slots = c.self.inside.slab.slots in (
      (refl, λ w. rw (← c.self.view_is, map-set)),
      record { writes_back = tt; value = rw (← c.self.view_is) (found_at slots c.args.key ∙ ap found c.index_mut.ensures.value ∙ c.value_mut.ensures.value) },
    )
