-- What fits in a layout fits where the tables have fewer slots.
use Rattle.std.specs.Prelude.{◌≡◌}
use Rattle.om_prog.specs.View.{ProgramView}
use Rattle.om_prog.specs.Valid.{IsProgram}
use Rattle.om_graph.specs.View.{GraphView}
use Rattle.om_graph.specs.Fits.{OpsFit}
use Rattle.om_graph.specs.OfProgram.{IsGraphOf}
use Rattle.om_layout.specs.Layout.{LayoutView, gp_of, address_of}
use Rattle.om_layout.specs.Limits.{StaysInLimits}
use Rattle.om_layout.specs.Order.{IsDataLayout}
use Rattle.om_passes.specs.Step.{FewerTargets}

-- the graph h has the tables of g and names no new target, so its tables have no more slots: what
-- fits in the numbers of a layout of g fits in those of a layout of h. Regions come nearer to each
-- global pointer by multiples of 16
pub record LayoutsShrink : Type 0 where
  pub fits :
      (p : ProgramView) (g h : GraphView) (l m : LayoutView) → IsProgram p → IsGraphOf p g →
      IsGraphOf p h → h.tables ≡ g.tables → FewerTargets g h → IsDataLayout p g l →
      IsDataLayout p h m → StaysInLimits g l → OpsFit p (gp_of l) (address_of l) h →
      OpsFit p (gp_of m) (address_of m) h
