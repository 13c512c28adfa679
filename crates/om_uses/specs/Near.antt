-- Edits leave the uses of a graph nearly right: all but those of touched blocks.
use Rattle.std.specs.Prelude.{◌≡◌, ℕ, true}
use Rattle.om_graph.specs.declared.op.OpKind.{OpKind}
use Rattle.om_graph.specs.declared.op.Last.{Last}
use Rattle.om_graph.specs.View.{GraphView, is_live_block, is_live_op, replaced, deleted, last_set, dropped, table_set}
use Rattle.om_graph.specs.Held.{IsGraph}
use Rattle.om_graph.specs.Numbers.{AreNumbered}
use Rattle.om_uses.specs.Parts.{Kept, IsUsesOf, IsNearly}
use Rattle.om_uses.specs.Installed.{IsRoomier}

pub record EditsStayNear : Type 0 where
  pub start : (g : GraphView) (u : Kept) → IsUsesOf g u → IsNearly g u
  pub replaced :
      (g : GraphView) (u : Kept) (id : ℕ) (kind : OpKind) → IsGraph g → AreNumbered g → is_live_op g id ≡ true →
      IsNearly g u → IsNearly (replaced g id kind) u
  pub deleted :
      (g : GraphView) (u : Kept) (id : ℕ) → IsGraph g → AreNumbered g → is_live_op g id ≡ true →
      IsNearly g u → IsNearly (deleted g id) u
  pub last_set :
      (g : GraphView) (u : Kept) (id : ℕ) (last : Last) → IsGraph g → AreNumbered g → is_live_block g id ≡ true →
      IsNearly g u → IsNearly (last_set g id last) u
  pub dropped :
      (g : GraphView) (u : Kept) (id : ℕ) → IsGraph g → AreNumbered g → is_live_block g id ≡ true →
      IsNearly g u → IsNearly (dropped g id) u
  pub table_set : (g : GraphView) (u : Kept) (obj table : ℕ) → IsNearly g u → IsNearly (table_set g obj table) u
  -- room for more changes nothing, as where `refresh` found no memory
  pub room : (g : GraphView) (u v : Kept) → IsGraph g → IsRoomier u v → IsNearly g u → IsNearly g v
