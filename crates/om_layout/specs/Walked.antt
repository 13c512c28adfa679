-- The kept words of a graph, as a walk over its blocks lists them. No public clause cites this module.
use Rattle.std.specs.Prelude.{◌≡◌, ℕ, List, [], ◌∷◌, map, flat_map, Option, Some, None}
use Rattle.om_value.specs.declared.value.Place.{Place}
use Rattle.om_value.specs.declared.value.Target.{Target}
use Rattle.om_prog.specs.Act.{Word}
use Rattle.om_graph.specs.declared.op.OpKind.{OpKind}
use Rattle.om_graph.specs.declared.op.OpKind.TheVariants.{Lit}
use Rattle.om_graph.specs.declared.op.Last.{Last}
use Rattle.om_graph.specs.declared.op.Last.TheVariants.{Fall, Off, Br, Cond, Call, CallBy, JumpBy}
use Rattle.om_graph.specs.View.{Block, GraphView, block_of}
use Rattle.om_graph.specs.Run.{block_words}
use Rattle.om_layout.specs.declared.words.Load.{Load}
use Rattle.om_layout.specs.declared.words.Words.{Words}
use Rattle.om_layout.specs.Order.{act_targets}

-- what a kept load of an address loads
abbrev pub kind_target : OpKind → Option Target
kind_target (Lit ra rb t) = Some t
kind_target _ = None

-- the place of the word that ends a block
abbrev pub last_place : Last → Option Place
last_place Fall = None
last_place Off = None
last_place (Br at op ra to) = Some at
last_place (Cond at i to) = Some at
last_place (Call at op ra to) = Some at
last_place (CallBy at i) = Some at
last_place (JumpBy at i) = Some at

abbrev pub option_list : {A : Type 0} → Option A → List A
option_list None = []
option_list (Some x) = x ∷ []

-- a word at a place, which loads the address of this target, if of one
pub record IsWordOf (at : Place) (target : Option Target) (w : Word) : Type 0 where
  pub place : w.at ≡ at
  pub loads : act_targets w.act ≡ option_list target

abbrev pub load_in : ℕ → Target → Load
load_in obj t = record { obj = obj; target = t }

abbrev pub word_loads : Word → List Load
word_loads w = map (load_in w.at.obj) (act_targets w.act)

-- the places of these words, and the loads among them, in order
pub record Lists (ws : List Word) (all : Words) : Type 0 where
  pub places : all.places.items ≡ map (λ w. w.at) ws
  pub loads : all.loads.items ≡ flat_map word_loads ws

-- the words of the block of an id
abbrev pub words_in : Option Block → List Word
words_in None = []
words_in (Some b) = block_words b

abbrev pub words_of_block : GraphView → ℕ → List Word
words_of_block g id = words_in (block_of g id)
