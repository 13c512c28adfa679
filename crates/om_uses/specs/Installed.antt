-- Touched blocks, and the uses with them. But for IsRoomier no public clause cites this module.
use Rattle.std.specs.Prelude.{◌≡◌, ◌<◌, ◌+◌, ◌^◌, ℕ, true, if◌then◌else◌, List, [], ◌∷◌, map, length, set, take, drop, Option, Some, None}
use Rattle.om_value.specs.declared.value.Place.{Place}
use Rattle.om_value.specs.declared.value.Target.{Target}
use Rattle.om_value.specs.Same.{target_eq}
use Rattle.om_graph.specs.View.{Block, GraphView, Has, block_of, is_live_block}
use Rattle.om_graph.specs.Numbers.{number_of}
use Rattle.om_uses.specs.declared.tables.BlockUses.{BlockUses}
use Rattle.om_uses.specs.declared.tables.Load.{Load}
use Rattle.om_uses.specs.declared.uses.Fresh.{Fresh}
use Rattle.om_uses.specs.declared.uses.Fresh.TheVariants.{Stays, Gone}
use Rattle.om_uses.specs.Parts.{Kept, AreWithin, block_uses, loads_of, no_block}
use Rattle.om_uses.specs.Tables.{AreOwned, IsLonger, IsPadded, linked, stored}

-- the same, with room for more
pub record IsRoomier (old new : Kept) : Type 0 where
  pub ops : IsLonger old.ops new.ops
  pub blocks : IsPadded no_block old.blocks new.blocks
  pub loads : IsLonger old.loads new.loads

-- ---- a block

-- a block is noted, with its loads from a place on
abbrev pub with_block : Kept → ℕ → Block → ℕ → Kept
with_block u i b start = record {
  ops = linked i b.ops u.ops;
  blocks = set u.blocks i (block_uses b start);
  loads = stored start i (loads_of b.ops) u.loads;
}

abbrev pub with_none : Kept → ℕ → Kept
with_none u i = record u { blocks = set u.blocks i no_block }

-- there is room for a block of a number, with its loads from a place on
pub record RoomFor (u : Kept) (i : ℕ) (b : Block) (start : ℕ) : Type 0 where
  pub number : i < length u.blocks
  pub small : i < 2 ^ 32
  pub ops : AreWithin (length u.ops) b.ops
  pub loads : AreOwned u.loads start (length (loads_of b.ops)) i
  pub few : length (loads_of b.ops) < 2 ^ 32

pub record HasRoom (g : GraphView) (u : Kept) (i start : ℕ) : Type 0 where
  pub of : (b : Block) → block_of g i ≡ Some b → RoomFor u i b start

-- ---- touched blocks

abbrev pub with_found : Option Block → ℕ → ℕ → Kept → Kept
with_found None i start u = u
with_found (Some b) i start u = with_block u i b start

abbrev pub with_fresh : GraphView → Fresh → Kept → Kept
with_fresh g (Stays i start) u = with_found (block_of g i) i start u
with_fresh g (Gone i) u = with_none u i

abbrev pub installed : GraphView → List Fresh → Kept → Kept
installed g [] u = u
installed g (f ∷ fs) u = installed g fs (with_fresh g f u)

abbrev pub HasRoomFor : GraphView → Kept → Fresh → Type 0
HasRoomFor g u (Stays i start) = (is_live_block g i ≡ true) × HasRoom g u i start
HasRoomFor g u (Gone i) = (i < length u.blocks) × ((b : Block) → Has g.blocks b → b.id ≡ i → ⊥)

abbrev pub HaveRoom : GraphView → Kept → List Fresh → Type 0
HaveRoom g u [] = Unit {0}
HaveRoom g u (f ∷ fs) = HasRoomFor g u f × HaveRoom g u fs

abbrev pub number_in : Fresh → ℕ
number_in (Stays i start) = i
number_in (Gone i) = i

abbrev pub numbers : List Fresh → List ℕ
numbers fs = map number_in fs

abbrev pub HasNumber : List Fresh → ℕ → Type 0
HasNumber fs i = Has (numbers fs) i

-- the labels of these have theirs
abbrev pub AreCovered : GraphView → List Place → List Fresh → Type 0
AreCovered g qs fs = (q : Place) (i : ℕ) → Has qs q → number_of g q ≡ Some i → HasNumber fs i

-- ---- loads

-- how often a target stands among loads
abbrev pub count_loads : Target → List Load → ℕ
count_loads t [] = 0
count_loads t (l ∷ ls) = (if target_eq l.target t then 1 else 0) + count_loads t ls

-- how often it stands among those of blocks
abbrev pub loads_kept : Target → List Load → List BlockUses → ℕ
loads_kept t loads [] = 0
loads_kept t loads (b ∷ bs) = count_loads t (take b.count (drop b.start loads)) + loads_kept t loads bs
