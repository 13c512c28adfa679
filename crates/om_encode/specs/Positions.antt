-- Image words put at their positions, and kept words marked in the map. No public clause cites this module.
use Rattle.std.specs.Prelude.{ℕ, ◌+◌, ◌<◌, ◌≤◌, true, false, List, [], ◌∷◌, length, Option, Some, None, slice_set, slice_index_or}
use Rattle.om_value.specs.declared.value.Place.{Place}
use Rattle.om_prog.specs.Act.{Word}
use Rattle.om_graph.specs.declared.op.Last.{Last}
use Rattle.om_graph.specs.declared.op.Last.TheVariants.{Fall, Off, Br, Cond, Call, CallBy, JumpBy}
use Rattle.om_graph.specs.View.{GraphView, Has}
use Rattle.om_graph.specs.Index.{index_of}
use Rattle.om_image.specs.declared.map.MapWord.{MapWord}
use Rattle.om_layout.specs.Layout.{LayoutView, position_of}
use Rattle.om_encode.specs.declared.positions.Placing.{Placing}

-- image words, what a map says of the program's words, and how many kept words were met
pub record Filled : Type 0 where
  pub text : List ℕ
  pub words : List MapWord
  pub count : ℕ

abbrev pub no_word : MapWord
no_word = record { old = 0; position = 0; kept = false }

abbrev pub marked : MapWord → MapWord
marked w = record w { kept = true }

-- one kept word more, of which the image word is the next of a list: it stands at its position, and it is marked
abbrev pub with_word : GraphView → LayoutView → List ℕ → Filled → Place → Filled
with_word g l listed f at = record {
  text = slice_set f.text (position_of l at) (slice_index_or listed f.count 0);
  words = slice_set f.words (index_of g.counts at) (marked (slice_index_or f.words (index_of g.counts at) no_word));
  count = f.count + 1;
}

-- kept words more, in order
abbrev pub with_words : GraphView → LayoutView → List ℕ → Filled → List Word → Filled
with_words g l listed f [] = f
with_words g l listed f (w ∷ ws) = with_words g l listed (with_word g l listed f w.at) ws

-- there is room for kept words
pub record HasRoom (g : GraphView) (l : LayoutView) (listed : List ℕ) (f : Filled) (ws : List Word) : Type 0 where
  pub object : (w : Word) → Has ws w → w.at.obj < length g.counts
  pub text : (w : Word) → Has ws w → position_of l w.at < length f.text
  pub words : (w : Word) → Has ws w → index_of g.counts w.at < length f.words
  pub count : f.count + length ws ≤ length listed

-- what words that are put in have so far
abbrev pub filled : Placing → Filled
filled f = record { text = f.text.items; words = f.words.items; count = f.count }

-- where the word at a block's end stands, if there is one
abbrev pub last_place : Last → Option Place
last_place Fall = None
last_place Off = None
last_place (Br at op ra to) = Some at
last_place (Cond at i to) = Some at
last_place (Call at op ra to) = Some at
last_place (CallBy at i) = Some at
last_place (JumpBy at i) = Some at

abbrev pub with_last : GraphView → LayoutView → List ℕ → Filled → Option Place → Filled
with_last g l listed f None = f
with_last g l listed f (Some at) = with_word g l listed f at
