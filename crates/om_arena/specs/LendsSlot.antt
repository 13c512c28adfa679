-- What `Slots` end as, where a `&mut` to one of the values is returned.
use Rattle.std.specs.Prelude.{ℕ}
use Rattle.std.specs.Borrow.{Lends, Fml, RattleType, MutBor}
use Rattle.om_arena.specs.Keyed.{Keyed, with_slot}
use Rattle.om_arena.specs.contracts.slots.Slots.{the_row}

module _ (X : RattleType) (s : MutBor (Keyed X.Denot)) (key : ℕ) where
  -- once the borrow r ends, the last value written through r stands under the key
  abbrev pub lends_slot : MutBor X.Denot → Fml
  lends_slot r = Lends (the_row X) X s r (with_slot s.now key)
