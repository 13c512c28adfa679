-- Places counted in words, over all texts in order of object; and what a branch reaches.
use Rattle.std.specs.Prelude.{ℕ, ◌+◌, ◌/◌, min, ℤ, pos, ◌-ℤ◌, List, take, sum, slice_index_or}
use Rattle.om_isa.specs.Fields.{IsDisp}
use Rattle.om_value.specs.declared.value.Place.{Place}
use Rattle.om_graph.specs.declared.op.Last.{Last}
use Rattle.om_graph.specs.declared.op.Last.TheVariants.{Br, Cond, Call}
use Rattle.om_graph.specs.View.{Block, GraphView, Has}

-- the words of a text that stand before an offset
abbrev pub words_before : ℕ → ℕ → ℕ
words_before count off = min count ((off + 3) / 4)

-- the words before a place, of texts with so many words
abbrev pub index_of : List ℕ → Place → ℕ
index_of counts p = sum (take p.obj counts) + words_before (slice_index_or counts p.obj 0) p.off

-- a branch at a place reaches another: the words between them fit its displacement, which counts from the word behind the
-- branch (Alpha Architecture Handbook, chapter 4, "Control Instructions"). All words count, deleted ones too, so what is
-- in reach stays in reach when words are deleted
abbrev pub distance : List ℕ → Place → Place → ℤ
distance counts at q = pos (index_of counts q) -ℤ pos (index_of counts at) -ℤ pos 1

abbrev pub InReach : List ℕ → Place → Place → Type 0
InReach counts at q = IsDisp (distance counts at q)

-- a branch that ends a block, with where it goes
abbrev pub BranchInReach : List ℕ → Last → Type 0
BranchInReach counts (Br at op ra to) = InReach counts at to
BranchInReach counts (Cond at i to) = InReach counts at to
BranchInReach counts (Call at op ra to) = InReach counts at to
BranchInReach counts _ = Unit {0}

-- every branch of a graph reaches its place
pub record BranchesInReach (g : GraphView) : Type 0 where
  pub lasts : (b : Block) → Has g.blocks b → BranchInReach g.counts b.last
