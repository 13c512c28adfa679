-- A graph to which the words of a program are added one by one.
use Rattle.std.specs.Prelude.{◌≡◌, ℕ, Bool, true, false, if◌then◌else◌, List, [], ◌∷◌, ◌++◌, map, take, length, Option, Some, None, IfSome}
use Rattle.om_value.specs.declared.value.Place.{Place}
use Rattle.om_prog.specs.View.{ProgramView}
use Rattle.om_graph.specs.declared.op.Last.TheVariants.{Off}
use Rattle.om_graph.specs.View.{Block, Shape, GraphView, shape_of, is_block, numbers_from, IsAfter}
use Rattle.om_graph.specs.Held.{label_list}
use Rattle.om_graph.specs.Whole.{program_roots}
use Rattle.om_graph.specs.Landing.{begins, is_opening_pair}
use Rattle.om_graph.specs.Lifted.{fallen, shapes_from}

-- the last of some blocks, and no other, has the id
abbrev pub IsLast : ℕ → List Block → Type 0
IsLast id [] = ⊥
IsLast id (b ∷ []) = is_block id b ≡ true
IsLast id (b ∷ c ∷ bs) = (is_block id b ≡ false) × IsLast id (c ∷ bs)

-- the last of some blocks, if there is one, ends its text
abbrev pub EndsOff : List Shape → Type 0
EndsOff [] = Unit {0}
EndsOff (s ∷ []) = s.last ≡ Off
EndsOff (s ∷ t ∷ ss) = EndsOff (t ∷ ss)

-- a graph of a program's objects with such blocks; the words go on behind the block of an id, which is the last
pub record Holds (p : ProgramView) (ss : List Shape) (before : Option ℕ) (g : GraphView) : Type 0 where
  pub counts : g.counts ≡ map (λ text. length text) p.texts
  pub roots : g.roots ≡ program_roots p
  pub tables : g.tables ≡ numbers_from 0 (length p.texts)
  pub shapes : map shape_of g.blocks ≡ ss
  pub labels : g.labels ≡ label_list g.blocks
  pub last : IfSome before (λ b. IsLast b g.blocks)

-- the block that the words go on behind falls into the next one
abbrev pub fallen_if : Option ℕ → List Shape → List Shape
fallen_if None ss = ss
fallen_if (Some b) ss = fallen ss

-- a block that begins at a place
abbrev pub new_shape : Place → Bool → Shape
new_shape at opening = record { label = at; opening = opening; ops = []; last = Off }

-- a block more, where one begins at a place
abbrev pub opened : ProgramView → Place → Option ℕ → List Shape → List Shape
opened p at before ss = if begins p at then fallen_if before ss ++ new_shape at (is_opening_pair p at) ∷ [] else ss

-- the texts of the objects before one are lifted
pub record HasLifted (p : ProgramView) (obj : ℕ) (g : GraphView) : Type 0 where
  pub holds : Holds p (shapes_from p 0 (take obj p.texts)) None g
  pub after : IsAfter g.labels (record { obj = obj; off = 0 })
