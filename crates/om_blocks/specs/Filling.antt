-- The blocks of a flow, as they are filled in. The number of rows is none's: what goes there goes nowhere.
use Rattle.std.specs.Prelude.{◌≡◌, ◌<◌, ◌+◌, ◌^◌, ℕ, if◌then◌else◌, List, [], ◌∷◌, ◌++◌, flat_map, length, get_or, Option, Some, None}
use Rattle.om_value.specs.declared.value.Place.{Place}
use Rattle.om_prog.specs.Act.{Act, Lit, Word}
use Rattle.om_prog.specs.Step.{next_place}
use Rattle.om_value.specs.declared.value.Target.{Target}
use Rattle.om_value.specs.declared.value.Target.TheVariants as target
use Rattle.om_flow.specs.declared.parts.FlowBlock.{FlowBlock}
use Rattle.om_flow.specs.declared.parts.Transfer.TheVariants.{Keep}
use Rattle.om_graph.specs.declared.op.OpKind.{OpKind}
use Rattle.om_graph.specs.declared.op.OpKind.TheVariants as op
use Rattle.om_graph.specs.declared.op.Last.{Last}
use Rattle.om_graph.specs.declared.op.Last.TheVariants as last
use Rattle.om_graph.specs.View.{Block, GraphView, Has, labelled}
use Rattle.om_graph.specs.Run.{block_words, table_of}
use Rattle.om_graph.specs.Outs.{act_links}
use Rattle.om_blocks.specs.declared.effects.Effect.{Effect}
use Rattle.om_blocks.specs.declared.exits.Exit.{Exit}
use Rattle.om_blocks.specs.declared.exits.Exit.TheVariants as exit
use Rattle.om_blocks.specs.Effects.{DoAll}
use Rattle.om_blocks.specs.Exits.{last_exit, next_fallen}

-- ---- edges

abbrev pub or_none : ℕ → Option ℕ → ℕ
or_none outside None = outside
or_none outside (Some id) = id

abbrev pub number_at_label : GraphView → ℕ → Place → ℕ
number_at_label g outside q = or_none outside (labelled g q)

-- outside + 1 is the hub
abbrev pub exit_number : ℕ → Exit → ℕ
exit_number outside exit.Nowhere = outside
exit_number outside (exit.Block id) = id
exit_number outside exit.ByRegister = outside + 1

-- where the word that ends a block goes
abbrev pub first_number : GraphView → ℕ → Last → ℕ
first_number g outside last = exit_number outside (last_exit g last)

-- the block that a block falls into
abbrev pub second_number : GraphView → ℕ → ℕ → Last → ℕ
second_number g outside id last = or_none outside (next_fallen g id last)

abbrev pub no_block : ℕ → FlowBlock
no_block outside = record { first = outside; second = outside; transfer = Keep; reads = 0; writes = 0 }

abbrev pub effect_in : FlowBlock → Effect
effect_in e = record { reads = e.reads; writes = e.writes; transfer = e.transfer }

pub record IsBlockFlow (g : GraphView) (outside : ℕ) (b : Block) (e : FlowBlock) : Type 0 where
  pub first : e.first ≡ first_number g outside b.last
  pub second : e.second ≡ second_number g outside b.id b.last
  pub effect : DoAll (table_of g b.label.obj) (block_words b) (effect_in e)
  pub fits : e.writes < 2 ^ 32

-- each of these blocks has its entry, and other numbers have none
pub record AreFilled (g : GraphView) (outside : ℕ) (done : List Block) (entries : List FlowBlock) : Type 0 where
  pub among : (b : Block) → Has done b → Has g.blocks b
  pub size : length entries ≡ outside + 1
  pub each : (b : Block) → Has done b → IsBlockFlow g outside b (get_or entries b.id (no_block outside))
  pub rest : (i : ℕ) → ((b : Block) → Has done b → b.id ≡ i → ⊥) → get_or entries i (no_block outside) ≡ no_block outside

-- ---- landing places

abbrev pub code_of : Target → List Place
code_of (target.Code q) = q ∷ []
code_of _ = []

-- the place in code of which a word loads the address
abbrev pub act_codes : Act → List Place
act_codes (Lit ra rb t) = code_of t
act_codes _ = []

-- and the place behind it, where it writes a link register
abbrev pub word_lands : Word → List Place
word_lands w = act_codes w.act ++ (if act_links w.act then next_place w.at ∷ [] else [])

abbrev pub list_of : Option ℕ → List ℕ
list_of None = []
list_of (Some id) = id ∷ []

-- the numbers of the kept blocks at these places
abbrev pub numbers_at : GraphView → List Place → List ℕ
numbers_at g qs = flat_map (λ q. list_of (labelled g q)) qs

-- the place of which an op loads the address
abbrev pub kind_code : OpKind → Option Place
kind_code (op.Lit ra rb (target.Code q)) = Some q
kind_code _ = None

-- the word that ends a block, where that writes a link register
abbrev pub link_place : Last → Option Place
link_place (last.Call at op ra to) = Some at
link_place (last.CallBy at i) = Some at
link_place _ = None

abbrev pub places_of : Option Place → List Place
places_of None = []
places_of (Some q) = q ∷ []

abbrev pub places_behind : Option Place → List Place
places_behind None = []
places_behind (Some q) = next_place q ∷ []
