-- How a `Graph` lays out its blocks: a row for each block that was added, at the number of its list of ops; and the kept
-- blocks' numbers in one list of another arena. No public clause cites this module.
use Rattle.std.specs.Prelude.{◌≡◌, ℕ, suc, ◌<◌, ◌≤◌, ◌*◌, ◌-◌, ◌^◌, true, false, if◌then◌else◌, List, [], ◌∷◌, map, length, take, sum, Option, Some, None, slice_index_or}
use Rattle.om_value.specs.declared.value.Place.{Place}
use Rattle.om_graph.specs.declared.op.Op.{Op}
use Rattle.om_graph.specs.declared.op.Last.{Last}
use Rattle.om_graph.specs.declared.op.Last.TheVariants.{Off}
use Rattle.om_graph.specs.declared.parts.Row.{Row}
use Rattle.om_graph.specs.View.{Node, Block, GraphView}
use Rattle.om_graph.specs.Held.{IsGraph}

-- ---- a row

abbrev pub no_row : Row
no_row = record { label = record { obj = 0; off = 0 }; opening = false; touched = false; last = Off; kept = None }

-- the row at a number, where there is one
abbrev pub row_at : List Row → ℕ → Row
row_at rows n = slice_index_or rows n no_row

abbrev pub touched_row : Row → Row
touched_row r = record r { touched = true }

abbrev pub ended_row : Last → Row → Row
ended_row last r = record r { last = last; touched = true }

abbrev pub dropped_row : Row → Row
dropped_row r = record r { touched = true; kept = None }

abbrev pub cleared_row : Row → Row
cleared_row r = record r { touched = false }

-- ---- what is seen of rows and lists

abbrev pub labels_of : List Row → List Place
labels_of rows = map (λ r. r.label) rows

abbrev pub touched_of : List Row → List Place
touched_of [] = []
touched_of (r ∷ rows) = if r.touched then r.label ∷ touched_of rows else touched_of rows

abbrev pub nodes_of : List (ℕ × Op) → List Node
nodes_of items = map (λ i. record { id = i.0; op = i.1 }) items

abbrev pub shown : ℕ → Row → List (ℕ × Op) → Block
shown n r items = record { id = n; label = r.label; opening = r.opening; ops = nodes_of items; last = r.last }

abbrev pub kept_block : Option ℕ → Block → List Block → List Block
kept_block None b bs = bs
kept_block (Some id) b bs = b ∷ bs

-- the kept blocks of rows that are numbered from n on
abbrev pub blocks_from : List (List (ℕ × Op)) → ℕ → List Row → List Block
blocks_from lists n [] = []
blocks_from lists n (r ∷ rows) = kept_block r.kept (shown n r (slice_index_or lists n [])) (blocks_from lists (suc n) rows)

abbrev pub seen_graph : List ℕ → List Place → List ℕ → List Row → List (List (ℕ × Op)) → GraphView
seen_graph counts roots tables rows lists = record {
  counts = counts;
  roots = roots;
  tables = tables;
  labels = labels_of rows;
  blocks = blocks_from lists 0 rows;
  touched = touched_of rows;
}

-- ---- what they keep

abbrev pub kept_item : Option ℕ → ℕ → List (ℕ × ℕ) → List (ℕ × ℕ)
kept_item None n items = items
kept_item (Some id) n items = (id, n) ∷ items

-- the numbers of the kept ones of rows that are numbered from n on, each under its id
abbrev pub kept_from : ℕ → List Row → List (ℕ × ℕ)
kept_from n [] = []
kept_from n (r ∷ rows) = kept_item r.kept n (kept_from (suc n) rows)

-- the sums of the numbers before each; a number has 32 bits
pub record AreStarts (counts starts : List ℕ) : Type 0 where
  pub as_many : length starts ≡ length counts
  pub are : (i : ℕ) → i < length counts → slice_index_or starts i 0 ≡ sum (take i counts)
  pub small : (i : ℕ) → i < length counts → sum (take i counts) ≤ i * (2 ^ 32 - 1)

module _ (counts starts : List ℕ) (roots : List Place) (tables : List ℕ) (rows : List Row) (kept : List (List (ℕ × ℕ))) (order : ℕ) (lists : List (List (ℕ × Op))) where
  pub record IsLaid : Type 0 where
    pub graph : IsGraph (seen_graph counts roots tables rows lists)
    pub sums : AreStarts counts starts
    -- each row has a list
    pub listed : length lists ≡ length rows
    pub first : order ≡ 0
    pub numbers : kept ≡ kept_from 0 rows ∷ []
