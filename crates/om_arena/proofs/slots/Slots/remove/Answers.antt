use Rattle.std.proofs.Common.{Some, refl, sym, ap, ◌∙◌, arith}
use Rattle.std.proofs.lemmas.List.{map-set}
use Rattle.om_arena.specs.Narrow.{found}
use Rattle.om_arena.proofs.Narrow.{live_more}
use Rattle.om_arena.proofs.slots.Slots.remove.Goals as goal

pub returns-clause-slots : goal.returns-clause-slots
returns-clause-slots g c = rw (← c.self.view_is, c.remove.ensures.slots, map-set) refl

pub returns-clause-count : goal.returns-clause-count
returns-clause-count g c =
    let more = live_more c.remove.new.self c.self.inside.slab c.args.key c.in-Held.value (ap found c.remove.ensures.updates.changed) (ap found (c.remove.ensures.value ∙ ap Some c.in-Held.is)) (λ k differs. sym (ap found (c.remove.ensures.updates.others k differs))) in
    rw (← c.self.view_is) (omega (arith, more))
