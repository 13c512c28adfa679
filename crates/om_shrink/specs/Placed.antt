-- The targets and displacements of address ops, as a layout has them.
use Rattle.std.specs.Prelude.{◌≡◌, ℤ, pos, ◌+ℤ◌, ◌≤ℤ◌, true, Some}
use Rattle.om_value.specs.declared.value.Region.{Region}
use Rattle.om_value.specs.declared.value.Region.TheVariants.{Stack, Heap}
use Rattle.om_value.specs.declared.value.Target.{Target}
use Rattle.om_value.specs.declared.value.Target.TheVariants as target
use Rattle.om_prog.specs.View.{ProgramView}
use Rattle.om_prog.specs.Valid.{is_target}
use Rattle.om_graph.specs.declared.op.Op.{Op}
use Rattle.om_graph.specs.declared.op.OpKind.{OpKind}
use Rattle.om_graph.specs.declared.op.OpKind.TheVariants as op
use Rattle.om_graph.specs.View.{Block, GraphView, Has, ops_of}
use Rattle.om_layout.specs.Layout.{LayoutView, RegionAt, region_there}

-- neither the stack nor the heap
abbrev pub IsData : Region → Type 0
IsData Stack = ⊥
IsData Heap = ⊥
IsData r = Unit {0}

-- the layout has the region of a pointer
abbrev pub IsThere : LayoutView → Target → Type 0
IsThere l (target.Ptr r x) = IsData r × ((e : RegionAt) × (region_there l r ≡ Some e))
IsThere l _ = Unit {0}

-- the targets of the address ops of a graph are such as a program may have, and least displacements
-- are of 16 bits
abbrev pub OpPlaced : ProgramView → OpKind → Type 0
OpPlaced p (op.AddrLda ra rb t) = is_target p t ≡ true
OpPlaced p (op.AddrHi ra rb t least) = (is_target p t ≡ true) × (pos 0 ≤ℤ (least +ℤ pos 32768))
OpPlaced p (op.UseGp i gp t) = is_target p t ≡ true
OpPlaced p _ = Unit {0}

pub record ArePlaced (p : ProgramView) (g : GraphView) : Type 0 where
  pub ops : (b : Block) (o : Op) → Has g.blocks b → Has (ops_of b) o → OpPlaced p o.kind
