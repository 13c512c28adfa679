-- The readers of a result: the ops behind it in its block that read its register before it is written again.
use Rattle.std.specs.Prelude.{◌≡◌, ℕ, ◌+◌, ◌<◌, Bool, true, false, not, ◌&&◌, ◌==◌, if◌then◌else◌, List, [], ◌∷◌, ◌++◌, Option, Some, None}
use Rattle.om_value.specs.declared.value.Target.{Target}
use Rattle.om_value.specs.Same.{target_eq}
use Rattle.om_prog.specs.Facts.{has}
use Rattle.om_graph.specs.View.{Node, Block, GraphView, Has}
use Rattle.om_blocks.specs.Effects.{kind_reads, kind_writes, last_reads, last_writes}
use Rattle.om_graph.specs.Held.{IsGraph}
use Rattle.om_uses.specs.Parts.{Kept, IsUsesOf, loads_of}

abbrev pub reads : ℕ → Node → Bool
reads r n = has (kind_reads n.op.kind) r

abbrev pub writes : ℕ → Node → Bool
writes r n = has (kind_writes n.op.kind) r

abbrev pub with_id : Bool → ℕ → List ℕ → List ℕ
with_id b id ids = if b then id ∷ ids else ids

-- the ids of the readers of what was written in a register in front of these ops
abbrev pub readers : ℕ → List Node → List ℕ
readers r [] = []
readers r (n ∷ ns) = with_id (reads r n) n.id (if writes r n then [] else readers r ns)

-- no op writes the register
abbrev pub is_kept : ℕ → List Node → Bool
is_kept r [] = true
is_kept r (n ∷ ns) = if writes r n then false else is_kept r ns

-- the word that ends a block reads what was written in a register in front of these last ops of it
abbrev pub is_read_last : ℕ → Block → List Node → Bool
is_read_last r b ns = is_kept r ns && has (last_reads b.last) r

-- no later word of the block writes it
abbrev pub is_at_end : ℕ → Block → List Node → Bool
is_at_end r b ns = is_kept r ns && not (has (last_writes b.last) r)

-- an op of a kept block that writes one register, not r31, with the ops behind it
pub record IsResult (g : GraphView) (id r : ℕ) (b : Block) (behind : List Node) : Type 0 where
  pub among : Has g.blocks b
  pub before : List Node
  pub node : Node
  pub stands : b.ops ≡ before ++ node ∷ behind
  pub is_id : node.id ≡ id
  pub register : r < 31
  pub writes : kind_writes node.op.kind ≡ r ∷ []

abbrev pub first_of : List ℕ → Option ℕ
first_of [] = None
first_of (id ∷ ids) = Some id

abbrev pub behind_id : ℕ → List ℕ → Option ℕ
behind_id id [] = None
behind_id id (x ∷ ids) = if x == id then first_of ids else behind_id id ids

-- the first id of a list, or the one behind another
abbrev pub next_of : Option ℕ → List ℕ → Option ℕ
next_of None ids = first_of ids
next_of (Some id) ids = behind_id id ids

-- the id is one of a list, if there is one
abbrev pub IsAmong : Option ℕ → List ℕ → Type 0
IsAmong None ids = Unit {0}
IsAmong (Some id) ids = Has ids id

-- ---- loads

-- how often a target stands in a list
abbrev pub count_in : Target → List Target → ℕ
count_in t [] = 0
count_in t (x ∷ xs) = (if target_eq x t then 1 else 0) + count_in t xs

-- how many kept ops load the address of a target from its slot
abbrev pub loads_in : Target → List Block → ℕ
loads_in t [] = 0
loads_in t (b ∷ bs) = count_in t (loads_of b.ops) + loads_in t bs

-- ---- what is told of an op's result

-- the answer on a reader of an op's result, behind another one if there is one
abbrev pub TellsNext : Kept → ℕ → Option ℕ → Option ℕ → Type 0
TellsNext u def after answer =
    (g : GraphView) (r : ℕ) (b : Block) (behind : List Node) →
    IsGraph g → IsUsesOf g u → IsResult g def r b behind → IsAmong after (readers r behind) →
    answer ≡ next_of after (readers r behind)

-- whether the end of the block reads it
abbrev pub TellsReadLast : Kept → ℕ → Bool → Type 0
TellsReadLast u def answer =
    (g : GraphView) (r : ℕ) (b : Block) (behind : List Node) →
    IsGraph g → IsUsesOf g u → IsResult g def r b behind → answer ≡ is_read_last r b behind

-- whether no later word of the block writes its register
abbrev pub TellsAtEnd : Kept → ℕ → Bool → Type 0
TellsAtEnd u def answer =
    (g : GraphView) (r : ℕ) (b : Block) (behind : List Node) →
    IsGraph g → IsUsesOf g u → IsResult g def r b behind → answer ≡ is_at_end r b behind
