-- What an arena ends as, where a `&mut` to one of its values is returned.
use Rattle.std.specs.Prelude.{ℕ}
use Rattle.std.specs.Borrow.{Lends, Fml, RattleType, MutBor}
use Rattle.om_arena.specs.Lists.{Arena, written}
use Rattle.om_arena.specs.contracts.arena.Arena.{the_row}

module _ (T : RattleType) (s : MutBor (Arena T.Denot)) (id : ℕ) where
  -- once the borrow r ends, the last value written through r stands under the id
  abbrev pub lends_value : MutBor T.Denot → Fml
  lends_value r = Lends (the_row T) T s r (written s.now id)
