-- Opening pairs of a graph stand apart from the ends of its blocks.
use Rattle.std.specs.Prelude.{◌≡◌, true, false, Option, Some, None}
use Rattle.om_value.specs.declared.value.Place.{Place}
use Rattle.om_graph.specs.declared.op.Last.{Last}
use Rattle.om_graph.specs.declared.op.Last.TheVariants.{Fall, Off, Br, Cond, Call, CallBy, JumpBy}
use Rattle.om_graph.specs.View.{Block, GraphView, Has}
use Rattle.om_graph.specs.LeftIn.{in_pair}

-- the place of the word that ends a block
abbrev pub last_place : Last → Option Place
last_place Fall = None
last_place Off = None
last_place (Br at op ra to) = Some at
last_place (Cond at i to) = Some at
last_place (Call at op ra to) = Some at
last_place (CallBy at i) = Some at
last_place (JumpBy at i) = Some at

-- no word of an opening pair ends a block
pub record PairsApart (g : GraphView) : Type 0 where
  pub apart :
      (b n : Block) (q : Place) → Has g.blocks b → Has g.blocks n → b.opening ≡ true → last_place n.last ≡ Some q →
      in_pair b.label q ≡ false
