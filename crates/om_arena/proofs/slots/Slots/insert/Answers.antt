use Rattle.om_arena.proofs.Narrow.{found_updated, live_inserted}
use Rattle.om_arena.proofs.slots.Slots.insert.Goals as goal

pub returns-clause-updates : goal.returns-clause-updates
returns-clause-updates g c =
    rw (← c.self.view_is) (found_updated c.self.inside.slab.slots c.bar_wide_keys.new.slab c.insert_reserved.new.self c.insert_reserved.result c.args.value _ _ c.bar_wide_keys.ensures.same c.insert_reserved.ensures.updates)

pub returns-clause-count : goal.returns-clause-count
returns-clause-count g c =
    rw (← c.self.view_is) (live_inserted c.self.inside.slab.slots c.bar_wide_keys.new.slab c.insert_reserved.new.self c.insert_reserved.result c.args.value c.bar_wide_keys.ensures.same c.insert_reserved.ensures.was_vacant c.insert_reserved.ensures.updates)
