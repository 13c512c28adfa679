-- What readers are among the words of a block: the local uses of a result.
use Rattle.std.specs.Prelude.{◌≡◌, ◌↔◌, ℕ, true, List, [], ◌∷◌, ◌++◌, map}
use Rattle.om_prog.specs.Act.{Word}
use Rattle.om_graph.specs.View.{Node, Block, GraphView, Has, ops_of}
use Rattle.om_graph.specs.Held.{IsGraph}
use Rattle.om_graph.specs.Run.{op_word, block_words, last_words}
use Rattle.om_graph.specs.Uses.{NoneWrites, IsLocalUse}
use Rattle.om_blocks.specs.IsFlow.{HasFlow}
use Rattle.om_uses.specs.Readers.{IsResult, readers, is_read_last, is_at_end}

-- the word of an op of a block
abbrev pub word_of : Block → Node → Word
word_of b n = op_word (ops_of b) n.op

-- the words of some of its ops
abbrev pub words_of : Block → List Node → List Word
words_of b ns = map (op_word (ops_of b)) (map (λ n. n.op) ns)

-- the words of a block behind one, where these are the ops behind it
abbrev pub words_behind : Block → List Node → List Word
words_behind b behind = words_of b behind ++ last_words b.last

-- the word that ends a block reads in a register what an earlier one wrote there
abbrev pub IsUsedLast : Block → Word → ℕ → Type 0
IsUsedLast b def r = (w : Word) × (last_words b.last ≡ w ∷ []) × IsLocalUse (block_words b) def w r

-- in a graph that has a flow, as each graph of a program does
pub record ReadersAreLocalUses : Type 0 where
  -- the words of the block are those before the result's, that word and those behind it
  pub words :
      (g : GraphView) (id r : ℕ) (b : Block) (behind : List Node) → IsGraph g → HasFlow g →
      (result : IsResult g id r b behind) →
      block_words b ≡ words_of b result.before ++ word_of b result.node ∷ words_behind b behind
  -- an op of the block is a reader exactly where its word is a local use
  pub uses :
      (g : GraphView) (id r : ℕ) (b : Block) (behind : List Node) → IsGraph g → HasFlow g →
      (result : IsResult g id r b behind) → (n : Node) → Has b.ops n →
      Has (readers r behind) n.id ↔ IsLocalUse (block_words b) (word_of b result.node) (word_of b n) r
  -- the end reads it exactly where its word is one
  pub used_last :
      (g : GraphView) (id r : ℕ) (b : Block) (behind : List Node) → IsGraph g → HasFlow g →
      (result : IsResult g id r b behind) →
      (is_read_last r b behind ≡ true) ↔ IsUsedLast b (word_of b result.node) r
  -- it is there at the end exactly where no later word writes its register
  pub unwritten :
      (g : GraphView) (id r : ℕ) (b : Block) (behind : List Node) → IsGraph g → HasFlow g →
      IsResult g id r b behind → (is_at_end r b behind ≡ true) ↔ NoneWrites r (words_behind b behind)
