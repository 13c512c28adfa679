use Rattle.std.proofs.Common.{◌≤◌, Some, refl, ◌∙◌, arith}
use Rattle.om_arena.specs.Keyed.{key_count}
use Rattle.om_arena.specs.declared.slots.Slot.TheVariants.{Barred}
use Rattle.om_arena.proofs.Narrow.{narrow_updated, barred_same, live_same}
use Rattle.om_arena.proofs.slots.bar_wide_keys.Goals as goal

pub loop-slab-preserved : goal.loop-slab-preserved
loop-slab-preserved g c =
    let old = c.loop-slab.slab in
    let new = c.insert_reserved.new.self in
    let key = c.insert_reserved.result in
    let kept = c.loop-slab.invariant in
    let made = c.insert_reserved.ensures in
    let wide : key_count ≤ key = omega (arith, made.key, c.is_next_wide.ensures.wide c.loop-slab-test.true) in (
      narrow_updated old new key (Some Barred) made.updates (λ below. absurd (omega (arith, below, wide))) (λ _. refl) kept.0,
      omega (arith, kept.1, made.capacity, live_same old.slots new.slots (barred_same old.slots old new key (λ _. refl) made.was_vacant made.updates)),
      made.capacity ∙ kept.2,
      barred_same _ old new key kept.3 made.was_vacant made.updates,
    )
