-- Loads of near targets as LDA.
use Rattle.std.specs.Prelude.{ℕ, Bool, true, false, Option, Some, None}
use Rattle.std.specs.Int.{w64, cast_signed}
use Rattle.om_value.specs.declared.value.Target.{Target}
use Rattle.om_value.specs.declared.value.Target.TheVariants as target
use Rattle.om_prog.specs.View.{ProgramView}
use Rattle.om_graph.specs.declared.op.OpKind.{OpKind}
use Rattle.om_graph.specs.declared.op.OpKind.TheVariants as op
use Rattle.om_graph.specs.Fits.{LdaFits}
use Rattle.om_layout.specs.Layout.{LayoutView, gp_of, address_of}
use Rattle.om_addr.specs.declared.loads.Load.{Load}
use Rattle.om_addr.specs.declared.near.Pointer.{Pointer}
use Rattle.om_addr.specs.Near.{is_small}
use Rattle.om_addr.specs.Passing.{HasRegionsOf}

-- 16 signed bits reach a target, where its pointer lies there
abbrev pub near_by : Target → Option Pointer → Bool
near_by (target.Num n) at = is_small (cast_signed w64 n)
near_by (target.Ptr r x) (Some at) = is_small at.distance
near_by (target.Ptr r x) None = false
near_by (target.Code q) at = false

-- the base of the LDA that gives a target; a number needs none
abbrev pub lda_base : Target → ℕ → ℕ
lda_base (target.Num n) rb = 31
lda_base _ rb = rb

abbrev pub lda_kind : Load → OpKind
lda_kind l = op.AddrLda l.ra (lda_base l.target l.rb) l.target

-- the target of a load is near in a layout
abbrev pub IsNearIn : LayoutView → Load → Type 0
IsNearIn l load =
    (p : ProgramView) → HasRegionsOf p l → LdaFits p (gp_of l) (address_of l) load.obj load.target
