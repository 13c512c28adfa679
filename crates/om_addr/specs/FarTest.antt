-- When a load becomes LDAH with all of its uses.
use Rattle.std.specs.Prelude.{◌≡◌, ◌⊎◌, ◌<◌, ◌≤◌, ℕ, ℤ, pos, ◌+ℤ◌, ◌-ℤ◌, ◌*ℤ◌, ◌≤ℤ◌, Bool, true, false, not, ◌&&◌, ◌==◌, is_some, if◌then◌else◌, List, [], ◌∷◌, Option, Some, None, FitsSigned}
use Rattle.om_isa.specs.declared.instr.Instr.{Instr}
use Rattle.om_value.specs.declared.value.Place.{Place}
use Rattle.om_prog.specs.Facts.{has}
use Rattle.om_graph.specs.declared.op.OpKind.{OpKind}
use Rattle.om_graph.specs.declared.op.OpKind.TheVariants as op
use Rattle.om_graph.specs.declared.op.Last.{Last}
use Rattle.om_graph.specs.View.{Node, Block, GraphView, Has}
use Rattle.om_blocks.specs.Effects.{kind_writes, last_reads}
use Rattle.om_uses.specs.Readers.{reads, writes, readers}
use Rattle.om_addr.specs.Near.{is_base_use, disp_in}

-- ---- base uses

-- the displacement of a load or store over a register that it reads as base alone
abbrev pub base_disp_of : ℕ → Instr → Option ℤ
base_disp_of r i = if is_base_use r i then Some (disp_in i) else None

abbrev pub base_of_kind : ℕ → OpKind → Option ℤ
base_of_kind r (op.Plain i) = base_disp_of r i
base_of_kind r _ = None

-- a base use becomes one of the half that the load at a place gives
abbrev pub half_kind : ℕ → Place → OpKind → Option OpKind
half_kind r hi (op.Plain i) = if is_base_use r i then Some (op.UseLo i hi) else None
half_kind r hi _ = None

abbrev pub writes_it : ℕ → OpKind → Bool
writes_it r k = has (kind_writes k) r

-- ---- all of the uses

module _ (r : ℕ) (last : Last) (least most : ℤ) where
  -- an op that reads the register is a base use, with a displacement of these
  abbrev pub IsBaseReader : Node → Type 0
  IsBaseReader n =
      reads r n ≡ true →
      (z : ℤ) × (base_of_kind r n.op.kind ≡ Some z) × (least ≤ℤ z) × (z ≤ℤ most)

  -- up to the word that writes it again, which may be the block's last, or behind it
  abbrev pub AllBase : List Node → Type 0
  AllBase [] = has (last_reads last) r ≡ false
  AllBase (n ∷ ns) = IsBaseReader n × (writes r n ≡ false → AllBase ns)

-- a reader of this displacement
pub record IsReaderOf (r : ℕ) (behind : List Node) (z : ℤ) : Type 0 where
  pub node : Node
  pub among : Has behind node
  pub reader : Has (readers r behind) node.id
  pub disp : base_of_kind r node.op.kind ≡ Some z
