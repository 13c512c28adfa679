-- What the calls of `Uses` find on the way. No public clause cites this module.
use Rattle.std.specs.Prelude.{◌≡◌, ◌≤◌, ℕ, List, [], ◌∷◌, ◌++◌, length, Option, Some, None}
use Rattle.om_value.specs.declared.value.Place.{Place}
use Rattle.om_graph.specs.View.{Node, GraphView}
use Rattle.om_graph.specs.Held.{Apart, node_ids}
use Rattle.om_graph.specs.Numbers.{number_of}
use Rattle.om_uses.specs.declared.uses.Fresh.{Fresh}
use Rattle.om_uses.specs.Parts.{Kept, AreLinked}
use Rattle.om_uses.specs.Installed.{HasRoomFor, number_in}

-- these ops stand behind one in its block
pub record IsBehind (u : Kept) (id : ℕ) (node : Node) (behind : List Node) : Type 0 where
  pub is : node.id ≡ id
  pub number : ℕ
  pub linked : AreLinked u.ops number (node ∷ behind)
  pub apart : Apart (node_ids (node ∷ behind))
  pub few : length behind ≤ length u.ops

-- there is room for the block of a label, and there is none only where the graph has no such label
abbrev pub IsFreshOf : GraphView → Kept → Place → Option Fresh → Type 0
IsFreshOf g u q None = number_of g q ≡ None
IsFreshOf g u q (Some f) = (number_of g q ≡ Some (number_in f)) × HasRoomFor g u f

abbrev pub with_one : Option Fresh → List Fresh → List Fresh
with_one None fs = fs
with_one (Some f) fs = fs ++ f ∷ []

-- the block of a label is added, if the graph has such a label
pub record IsAddedFor (g : GraphView) (u : Kept) (q : Place) (old new : List Fresh) : Type 0 where
  pub fresh : Option Fresh
  pub is : IsFreshOf g u q fresh
  pub added : new ≡ with_one fresh old
