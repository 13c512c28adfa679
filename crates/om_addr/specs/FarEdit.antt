-- A load made LDAH with all of its uses: the test, and what is edited.
use Rattle.std.specs.Prelude.{◌≡◌, ◌<◌, ℕ, ℤ, pos, negsuc, ◌+ℤ◌, ◌-ℤ◌, ◌*ℤ◌, int_le, FitsSigned, Bool, true, false, ◌&&◌, if◌then◌else◌, List, [], ◌∷◌, ◌++◌, Option, Some, None}
use Rattle.std.specs.Int.{w16, int_div_euclid}
use Rattle.om_value.specs.declared.value.Place.{Place}
use Rattle.om_value.specs.declared.value.Region.{Region}
use Rattle.om_value.specs.declared.value.Target.{Target}
use Rattle.om_value.specs.declared.value.Target.TheVariants as target
use Rattle.om_prog.specs.Act.{Word}
use Rattle.om_prog.specs.Facts.{has}
use Rattle.om_prog.specs.View.{ProgramView}
use Rattle.om_prog.specs.Valid.{IsProgram}
use Rattle.om_graph.specs.declared.op.Op.{Op}
use Rattle.om_graph.specs.declared.op.OpKind.{OpKind}
use Rattle.om_graph.specs.declared.op.OpKind.TheVariants as op
use Rattle.om_graph.specs.declared.op.Last.{Last}
use Rattle.om_graph.specs.View.{Node, Block, GraphView, Has}
use Rattle.om_graph.specs.Run.{block_words}
use Rattle.om_graph.specs.Outs.{outs_of}
use Rattle.om_graph.specs.Left.{IsFarLoad}
use Rattle.om_blocks.specs.Effects.{last_reads}
use Rattle.om_blocks.specs.Found.{masks_in}
use Rattle.om_layout.specs.Layout.{LayoutView, gp_of, address_of}
use Rattle.om_passes.specs.OneEdit.{MayGoOn}
use Rattle.om_passes.specs.Replaces.{OpEdit, all_replaced}
use Rattle.om_uses.specs.Readers.{reads, writes}
use Rattle.om_addr.specs.declared.loads.Load.{Load}
use Rattle.om_addr.specs.declared.near.Pointer.{Pointer}
use Rattle.om_addr.specs.declared.far.Bases.{Bases}
use Rattle.om_addr.specs.Passing.{HasRegionsOf}
use Rattle.om_addr.specs.Loads.{load_kind, IsLoadIn}
use Rattle.om_addr.specs.Near.{is_small}
use Rattle.om_addr.specs.FarRow.{edits_of}
use Rattle.om_addr.specs.FarTest.{base_of_kind, half_kind, writes_it}

-- ---- the displacements of the uses

-- no use so far
abbrev pub no_bases : Bases
no_bases = record { any = false; least = pos 0; most = pos 0 }

-- with a base use more
abbrev pub with_disp : Bases → ℤ → Bases
with_disp a z = record {
  any = true;
  least = if a.any && int_le a.least z then a.least else z;
  most = if a.any && int_le z a.most then a.most else z;
}

abbrev pub unless : Bool → Bases → Option Bases
unless b a = if b then None else Some a

-- with one op more: None, where it reads the register and is no base use
abbrev pub with_op : Option ℤ → Bool → Bases → Option Bases
with_op None is_read a = unless is_read a
with_op (Some z) is_read a = Some (with_disp a z)

abbrev pub followed : Option Bases → (Bases → Option Bases) → Option Bases
followed None f = None
followed (Some a) f = f a

-- with these ops, the last ones of a block, up to a word that writes the register
abbrev pub bases_from : ℕ → Last → List Node → Bases → Option Bases
bases_from r last [] a = unless (has (last_reads last) r) a
bases_from r last (n ∷ ns) a =
    followed (with_op (base_of_kind r n.op.kind) (reads r n) a)
    (λ b. if writes r n then Some b else bases_from r last ns b)

-- the displacements have 16 signed bits
pub record AreShort (a : Bases) : Type 0 where
  pub least : FitsSigned w16 a.least
  pub most : FitsSigned w16 a.most

abbrev pub AllShort : Option Bases → Type 0
AllShort None = Unit {0}
AllShort (Some a) = AreShort a

-- the bases of the op of an id
pub record AreBasesOf (g : GraphView) (id r : ℕ) (o : Option Bases) : Type 0 where
  pub block : Block
  pub among : Has g.blocks block
  pub before : List Node
  pub node : Node
  pub behind : List Node
  pub stands : block.ops ≡ before ++ node ∷ behind
  pub is_id : node.id ≡ id
  pub are : o ≡ bases_from r block.last behind no_bases
  pub short : AllShort o

-- ---- one half for all of them

abbrev pub high_part : ℤ → ℤ
high_part z = int_div_euclid (z +ℤ pos 32768) (pos 65536)

abbrev pub quotient_at : Pointer → ℤ → ℤ
quotient_at at z = int_div_euclid (at.off +ℤ z) (pos 16)

-- the half by the least displacement fits, the use of the greatest one fits behind it, and all have one quotient by 16
abbrev pub one_half : Pointer → ℤ → ℤ → Bool
one_half at least most =
    is_small (high_part (at.distance +ℤ least))
    && is_small ((at.distance +ℤ most) -ℤ (pos 65536 *ℤ high_part (at.distance +ℤ least)))
    && int_le (quotient_at at most) (quotient_at at least)

-- ---- the edit

abbrev pub half_of : Load → ℤ → OpKind
half_of l least = op.AddrHi l.ra l.rb l.target least

-- each base use up to the word that writes the register again became one of the half, and then the load gives it
pub record IsFarEdit (l : Load) (least : ℤ) (old new : GraphView) : Type 0 where
  pub place : Place
  pub object : place.obj ≡ l.obj
  pub block : Block
  pub among : Has old.blocks block
  pub before : List Node
  pub node : Node
  pub behind : List Node
  pub stands : block.ops ≡ before ++ node ∷ behind
  pub is_id : node.id ≡ l.id
  pub is : node.op ≡ record { place = place; kind = load_kind l }
  pub set :
      new ≡ all_replaced old (edits_of (half_kind l.ra place) (writes_it l.ra)
      behind ++ record { id = l.id; kind = half_of l least } ∷ [])

-- the register of a load is not read from the end of its block on, by masks of blocks
pub record IsDeadAtEnd (masks : List ℕ) (g : GraphView) (l : Load) : Type 0 where
  pub unread :
      (b : Block) (n : Node) → Has g.blocks b → Has b.ops n → n.id ≡ l.id →
      outs_of g (masks_in g masks) b.label l.ra ≡ false

-- ---- nothing left

-- the load could not become LDAH: its register may be read from the block's end on (live), or not all of its uses fit
-- over one high part
pub record NoFarOf (l : LayoutView) (g : GraphView) (load : Load) (live : Bool) : Type 0 where
  pub loads :
      (p : ProgramView) (b : Block) (w : Word) (region : Region) (x : ℕ) → IsProgram p → MayGoOn p g →
      HasRegionsOf p l → IsLoadIn g load b w → load.target ≡ target.Ptr region x →
      (f : IsFarLoad p (gp_of l) (address_of l) (block_words b) w load.ra load.rb x region) →
      FitsSigned w16 f.hi → live ≡ false → ⊥
