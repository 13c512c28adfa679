-- The totals of a program that a link takes; they are this project's own. Within them every layout stays below the next part
-- of memory: a table has at most 8192 slots, and each table and region is at most 15 bytes behind what stands before it.
use Rattle.std.specs.Prelude.{◌≡◌, ℕ, ◌+◌, ◌≤◌, length, map, sum, sum_by, Some, slice_get}
use Rattle.om_prog.specs.View.{ProgramView}
use Rattle.om_prog.specs.Valid.{IsProgram}
use Rattle.om_graph.specs.View.{GraphView}
use Rattle.om_graph.specs.Run.{words}
use Rattle.om_graph.specs.OfProgram.{IsGraphOf}
use Rattle.om_layout.specs.Layout.{LayoutView, TableAt, data_base}
use Rattle.om_layout.specs.Order.{tables_end, regions_end, IsDataLayout}

pub record IsWithinLimits (p : ProgramView) : Type 0 where
  pub objects : length p.texts ≤ 256
  pub words : sum (map (λ text. length text) p.texts) ≤ 4194304
  -- in bytes
  pub sizes : sum_by (λ r. r.size) p.regions ≤ 33554432
  -- 8 sections of each object, and 1,000,000 commons
  pub regions : length p.regions ≤ 1002048

-- a layout of a graph within the limits: its slots are few, so that each is reached from the global pointer, and the text
-- and the data end before the next part of memory
pub record StaysInLimits (g : GraphView) (l : LayoutView) : Type 0 where
  pub slots : (k : ℕ) (t : TableAt) → slice_get l.tables k ≡ Some t → length t.slots ≤ 8192
  pub words : length (words g) ≤ 4194304
  pub data_part : regions_end (tables_end data_base l.tables) l.regions ≤ data_base + 67108864

abbrev pub LayoutsStayInLimits : Type 0
LayoutsStayInLimits =
    (p : ProgramView) (g : GraphView) (l : LayoutView) → IsProgram p → IsGraphOf p g → IsWithinLimits p →
    IsDataLayout p g l → StaysInLimits g l
