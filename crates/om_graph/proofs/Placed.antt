-- Blocks in order: their words, and how control goes from one to the next.
use Rattle.std.specs.Prelude.{◌≡◌, ◌⊎◌, ◌≤◌, ℕ, ◌+◌, List, [], ◌∷◌, None}
use Rattle.om_value.specs.declared.value.Place.{Place}
use Rattle.om_prog.specs.Act.{Word}
use Rattle.om_prog.specs.Flow.{act_falls, act_jumps}
use Rattle.om_graph.specs.declared.op.Last.{Last}
use Rattle.om_graph.specs.declared.op.Last.TheVariants.{Fall, Off, Cond}
use Rattle.om_graph.specs.View.{Block, Has}
use Rattle.om_graph.specs.Form.{Ordered}
use Rattle.om_graph.specs.Run.{block_words, all_words, next_word, rev_onto}

-- words at a label or after it in its text
abbrev pub FromLabel : Place → List Word → Type 0
FromLabel l [] = Unit {0}
FromLabel l (w ∷ ws) = ((w.at.obj ≡ l.obj) × (l.off ≤ w.at.off)) × FromLabel l ws

-- words before a label
abbrev pub BeforeLabel : Place → List Word → Type 0
BeforeLabel l [] = Unit {0}
BeforeLabel l (w ∷ ws) = (w.at.obj ≡ l.obj → w.at.off + 4 ≤ l.off) × BeforeLabel l ws

abbrev pub BeforeBlocks : List Word → List Block → Type 0
BeforeBlocks ws [] = Unit {0}
BeforeBlocks ws (b ∷ bs) = BeforeLabel b.label ws × BeforeBlocks ws bs

-- no block of an object
abbrev pub NoBlocks : ℕ → List Block → Type 0
NoBlocks o [] = Unit {0}
NoBlocks o (b ∷ bs) = (b.label.obj ≡ o → ⊥) × NoBlocks o bs

-- control falls into the first of the blocks that follow, where it is of the same text; else no later block is
abbrev pub falls_to : Block → List Block → Type 0
falls_to b [] = Unit {0}
falls_to b (n ∷ bs) = ((n.label.obj ≡ b.label.obj) × (b.label.off ≤ n.label.off)) ⊎ NoBlocks b.label.obj (n ∷ bs)

abbrev pub leaves : Block → Type 0
leaves b = (bf : List Word) (w : Word) → rev_onto bf (w ∷ []) ≡ block_words b → act_falls w.act → ⊥

abbrev pub Exits : Last → Block → List Block → Type 0
Exits Fall b bs = falls_to b bs
Exits (Cond at i to) b bs = falls_to b bs
Exits Off b bs = NoBlocks b.label.obj bs
Exits _ b bs = leaves b × (block_words b ≡ [] → ⊥)

abbrev pub Placed : List Block → Type 0
Placed [] = Unit {0}
Placed (b ∷ bs) = FromLabel b.label (block_words b) × Ordered (block_words b) × BeforeBlocks (block_words b) bs × Exits b.last b bs × Placed bs

-- a jump is its block's last word
abbrev pub JumpsLast : (Place → Type 0) → List Block → Type 0
JumpsLast K bs =
    (b : Block) (bf : List Word) (w : Word) (ws : List Word) (q : Place) → Has bs b → rev_onto bf (w ∷ ws) ≡ block_words b →
    act_jumps K w.act q → ws ≡ []

-- a place is the label of a block, or no word follows it in its text
abbrev pub IsLabel : List Block → Place → Type 0
IsLabel bs q = ((n : Block) × Has bs n × (n.label ≡ q)) ⊎ (next_word (all_words bs) q ≡ None)

-- a jump from a block whose label is one of P goes to a label or a text's end
abbrev pub Lands : (Place → Type 0) → (Place → Type 0) → List Block → Type 0
Lands K P bs =
    (b : Block) (bf : List Word) (w : Word) (q : Place) → Has bs b → P b.label → rev_onto bf (w ∷ []) ≡ block_words b → act_jumps K w.act q → IsLabel bs q
