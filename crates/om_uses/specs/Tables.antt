-- What is written to the tables, and room in them. No public clause cites this module.
use Rattle.std.specs.Prelude.{◌≡◌, ℕ, ◌+◌, ◌<◌, ◌≤◌, List, [], ◌∷◌, length, get_or, set}
use Rattle.om_value.specs.declared.value.Target.{Target}
use Rattle.om_graph.specs.View.{Node, first_id}
use Rattle.om_uses.specs.declared.tables.OpUses.{OpUses}
use Rattle.om_uses.specs.declared.tables.Load.{Load}
use Rattle.om_uses.specs.Parts.{AreWithin, loads_of, next_or, uses_of}

-- a table that is as long at least, and has the same under each number that it had
pub record IsLonger {X : Type 0} (old new : List X) : Type 0 where
  pub same : (i : ℕ) (d : X) → i < length old → get_or new i d ≡ get_or old i d
  pub long : length old ≤ length new

-- the same, where all that is new is this
pub record IsPadded {X : Type 0} (d : X) (old new : List X) : Type 0 where
  pub same : (i : ℕ) → get_or new i d ≡ get_or old i d
  pub long : length old ≤ length new

-- so many places from one on are there, and belong to a block
pub record AreOwned (loads : List Load) (start count i : ℕ) : Type 0 where
  pub within : start + count ≤ length loads
  pub own : (k : ℕ) (d : Load) → start ≤ k → k < start + count → (get_or loads k d).block ≡ i

-- ops have numbers below this, and so many loads are among them
pub record AreCounted (m count : ℕ) (ns : List Node) : Type 0 where
  pub within : AreWithin m ns
  pub loads : count ≡ length (loads_of ns)

-- the last ops of a block are noted
abbrev pub linked : ℕ → List Node → List OpUses → List OpUses
linked i [] ops = ops
linked i (n ∷ ns) ops = linked i ns (set ops n.id (uses_of n.op.kind (next_or n.id (first_id ns)) i))

-- from a place on targets are noted, of a block
abbrev pub stored : ℕ → ℕ → List Target → List Load → List Load
stored at i [] loads = loads
stored at i (t ∷ ts) loads = stored (at + 1) i ts (set loads at (record { target = t; block = i }))
