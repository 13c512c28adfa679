-- What holds of an image in which no rule of rewriting applies any more.
use Rattle.std.specs.Prelude.{ℕ, Bool}
use Rattle.om_value.specs.declared.value.Place.{Place}
use Rattle.om_value.specs.declared.value.Target.{Target}
use Rattle.om_prog.specs.Facts.{Fact}
use Rattle.om_prog.specs.View.{ProgramView}
use Rattle.om_prog.specs.Valid.{IsProgram}
use Rattle.om_graph.specs.View.{GraphView}
use Rattle.om_graph.specs.Run.{graph_script}
use Rattle.om_graph.specs.Kept.{KeptInBlocks}
use Rattle.om_graph.specs.Fits.{OpsFit}
use Rattle.om_graph.specs.OfProgram.{IsGraphOf}
use Rattle.om_image.specs.declared.image.Image.{Image}
use Rattle.om_layout.specs.Layout.{LayoutView, gp_of, address_of}
use Rattle.om_layout.specs.Limits.{IsWithinLimits}
use Rattle.om_layout.specs.Order.{IsDataLayout}
use Rattle.om_encode.specs.TrueMap.{IsMapIn}
use Rattle.om_graph.specs.Left.{NothingApplies, AreExactMasks, NoDeadWord}
use Rattle.om_graph.specs.Stands.{BasesStand, PairsWhole}
use Rattle.om_thorough.specs.Thorough.{IsThorough}
use Rattle.om_thorough.specs.LoneHalf.{ALoneHalf}
use Rattle.om_thorough.specs.Rows.{NearRows, CallIsDirect, CallIsLeft, PlainIsRefused}
use Rattle.om_thorough.specs.UseRows.{WrongOnesAreRefused}
use Rattle.om_thorough.specs.Worked.{WorkedIsThorough}

-- where no rule applies to the graph of an image in the image's layout, nothing is left to rewrite in the image, in whatever
-- order its words stand
abbrev pub RestIsThorough : Type 0
RestIsThorough =
    (p : ProgramView) (g : GraphView) (l : LayoutView) (i : Image) → IsProgram p → IsGraphOf p g → KeptInBlocks g →
    IsWithinLimits p → IsDataLayout p g l → IsMapIn p g l i →
    OpsFit p (gp_of l) (address_of l) g → BasesStand p g → PairsWhole p g →
    (facts : Place → Fact) (masks outs : Place → ℕ → Bool) →
    NothingApplies p (graph_script p g) (gp_of l) (address_of l) facts masks outs g → IsThorough p g l i

-- two passes may have solved for masks of one graph by themselves: what is dead by the one's is dead by the other's
abbrev pub ExactMasksAgree : Type 0
ExactMasksAgree =
    (g : GraphView) (masks outs others ends : Place → ℕ → Bool) → AreExactMasks masks outs g → AreExactMasks others ends g →
    NoDeadWord outs g → NoDeadWord ends g

-- that no rule applies to a graph of a program does not say that its pairs are whole
abbrev pub PairsHaveToBeWhole : Type 0
PairsHaveToBeWhole = (gp : ℕ → ℕ) (address : Target → ℕ) → ALoneHalf gp address

-- worked rows: what is near, calls that are direct or left, and the images of wrong optimisers
pub record RowsHold : Type 0 where
  pub near : NearRows
  pub direct : CallIsDirect
  pub left : CallIsLeft
  pub plain : PlainIsRefused
  pub wrong : WrongOnesAreRefused
  -- and an image of which all premises of the law hold
  pub thorough : WorkedIsThorough
