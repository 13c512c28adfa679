-- The map is true of the fields: the image word of each kept word has one of the forms of what became of it, with every
-- displacement exact and in its field. LDA and LDAH in place of loads from a table are those of WRL Research Report 94/1.
use Rattle.std.specs.Prelude.{◌≡◌, ℕ, ◌+◌, ◌*◌, ℤ, pos, ◌+ℤ◌, ◌-ℤ◌, ◌*ℤ◌, Some, slice_get, FitsSigned}
use Rattle.std.specs.Int.{w16, w64, cast_unsigned}
use Rattle.om_isa.specs.declared.instr.MemOp.TheVariants.{Lda, Ldah, Ldq}
use Rattle.om_isa.specs.declared.instr.Access.TheVariants.{Address}
use Rattle.om_isa.specs.declared.instr.Instr.{Instr}
use Rattle.om_isa.specs.declared.instr.Instr.TheVariants.{Mem, Branch}
use Rattle.om_isa.specs.Registers.{access_of}
use Rattle.om_isa.specs.Words.{Encodes}
use Rattle.om_value.specs.declared.value.Place.{Place}
use Rattle.om_value.specs.declared.value.Target.{Target}
use Rattle.om_value.specs.declared.value.Target.TheVariants as target
use Rattle.om_prog.specs.Act.{Act, Plain, Lit, GpHi, GpLo, To, AddrLda, AddrHi, UseLo, UseGp, Wrong, Word, base_of}
use Rattle.om_prog.specs.View.{ProgramView}
use Rattle.om_prog.specs.Script.{program_fetch}
use Rattle.om_graph.specs.declared.op.Op.{Op}
use Rattle.om_graph.specs.declared.op.OpKind.TheVariants as kind
use Rattle.om_graph.specs.View.{Block, GraphView, Has, ops_of}
use Rattle.om_graph.specs.Run.{words}
use Rattle.om_image.specs.declared.image.Image.{Image}
use Rattle.om_layout.specs.Layout.{LayoutView, TableAt, position_of, code_at, table_at, start_at, gp_of}
use Rattle.om_encode.specs.Halves.{high_part, from_gp, from_base}

-- a distance as a high and a low part, each of 16 signed bits
pub record Splits (distance hi lo : ℤ) : Type 0 where
  pub sum : distance ≡ (pos 65536 *ℤ hi) +ℤ lo
  pub low : FitsSigned w16 lo
  pub high : FitsSigned w16 hi

-- the load at a place became LDAH, and the least displacement of its uses is this
pub record IsFar (g : GraphView) (at : Place) (t : Target) (least : ℤ) : Type 0 where
  pub block : Block
  pub op : Op
  pub ra : ℕ
  pub rb : ℕ
  pub among : Has g.blocks block
  pub has : Has (ops_of block) op
  pub place : op.place ≡ at
  pub kind : op.kind ≡ kind.AddrHi ra rb t least

-- the base place of the pair whose first half stands at a place of the program, kept or not
pub record IsBaseOf (p : ProgramView) (at base : Place) : Type 0 where
  pub ra : ℕ
  pub rb : ℕ
  pub first : program_fetch p at ≡ Some (record { at = at; act = GpHi ra rb base })

module _ (p : ProgramView) (g : GraphView) (l : LayoutView) (at : Place) where
  -- slot j of the table of the word's object is that of a target
  abbrev pub HasSlot : ℕ → Target → Type 0
  HasSlot j t =
      (table : TableAt) × (slice_get l.tables (table_at l at.obj) ≡ Some table) × (slice_get table.slots j ≡ Some t)

  -- LDA of a pointer over the global pointer, or of a number over r31
  abbrev pub HasLda : ℕ → ℕ → ℕ → Target → Type 0
  HasLda word ra rb (target.Num n) =
      (d : ℤ) × Encodes word (Mem Lda ra 31 d) × (n ≡ cast_unsigned w64 d) × (rb ≡ 31)
  HasLda word ra rb (target.Ptr r x) =
      (d : ℤ) × Encodes word (Mem Lda ra rb d) × (d ≡ from_gp l at.obj (target.Ptr r x))
  HasLda word ra rb (target.Code q) = ⊥

  -- a load or store over another base: the same operation and register, and the displacement from that base
  abbrev pub HasUse : ℕ → Instr → ℕ → ℤ → Type 0
  HasUse word (Mem op ra rb disp) base start =
      (d : ℤ) × Encodes word (Mem op ra base d) × (d ≡ start +ℤ disp) × FitsSigned w16 disp
      × (access_of op ≡ Address → ⊥)
  HasUse word _ base start = ⊥

  -- what is left of the distance of a target behind the high part
  abbrev pub behind_high : Target → ℤ → ℤ
  behind_high t least = from_gp l at.obj t -ℤ (pos 65536 *ℤ high_part (from_gp l at.obj t +ℤ least))

  -- the image words of a kept word
  abbrev pub HasForm : Act → ℕ → Type 0
  HasForm (Plain instr) word = Encodes word instr
  HasForm (Lit ra rb t) word =
      (d : ℤ) × (j : ℕ) × Encodes word (Mem Ldq ra rb d) × HasSlot j t
      × (pos (gp_of l at.obj) +ℤ d ≡ pos (start_at l (table_at l at.obj) + 8 * j))
  HasForm (GpHi ra rb base) word =
      (hi : ℤ) × (lo : ℤ) × Encodes word (Mem Ldah ra rb hi) × Splits (from_base l at.obj base) hi lo
  HasForm (GpLo ra rb first) word =
      (base : Place) × (hi : ℤ) × (lo : ℤ) × Encodes word (Mem Lda ra rb lo) × Splits (from_base l at.obj base) hi lo
      × IsBaseOf p first base
  HasForm (To op ra q) word =
      (d : ℤ) × Encodes word (Branch op ra d) × (pos (code_at l at + 4) +ℤ (pos 4 *ℤ d) ≡ pos (code_at l q))
  HasForm (AddrLda ra rb t) word = HasLda word ra rb t
  HasForm (AddrHi ra rb t) word =
      (least : ℤ) × IsFar g at t least × Encodes word (Mem Ldah ra rb (high_part (from_gp l at.obj t +ℤ least)))
  HasForm (UseLo instr hi t) word =
      (least : ℤ) × IsFar g hi t least × HasUse word instr (base_of instr) (behind_high t least)
  HasForm (UseGp instr gp t) word = HasUse word instr gp (from_gp l at.obj t)
  HasForm Wrong word = ⊥

-- the image word at a word's position has one of its forms
pub record IsTrueWord (p : ProgramView) (g : GraphView) (l : LayoutView) (i : Image) (w : Word) : Type 0 where
  pub word : ℕ
  pub found : slice_get i.text (position_of l w.at) ≡ Some word
  pub form : HasForm p g l w.at w.act word

pub record FieldsAreTrue (p : ProgramView) (g : GraphView) (l : LayoutView) (i : Image) : Type 0 where
  pub forms : (w : Word) → Has (words g) w → IsTrueWord p g l i w
