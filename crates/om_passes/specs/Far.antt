-- A load of the address of a pointer made the high half of it, and all of its uses ones of the
-- half.
use Rattle.std.specs.Prelude.{◌≡◌, ℕ, ℤ, pos, ◌+ℤ◌, ◌-ℤ◌, ◌*ℤ◌, ◌≤ℤ◌, Bool, true, false, if◌then◌else◌, map, Option, Some, FitsSigned}
use Rattle.std.specs.Int.{w16}
use Rattle.om_isa.specs.declared.instr.Instr.{Instr}
use Rattle.om_value.specs.declared.value.Place.{Place}
use Rattle.om_value.specs.declared.value.Region.{Region}
use Rattle.om_value.specs.declared.value.Target.{Target}
use Rattle.om_value.specs.declared.value.Target.TheVariants as target
use Rattle.om_value.specs.Same.{place_eq}
use Rattle.om_prog.specs.Act as act
use Rattle.om_prog.specs.Act.{Act, Word}
use Rattle.om_graph.specs.declared.op.Op.{Op}
use Rattle.om_graph.specs.declared.op.OpKind.{OpKind}
use Rattle.om_graph.specs.declared.op.OpKind.TheVariants as op
use Rattle.om_graph.specs.View.{Block, Has, ops_of}
use Rattle.om_graph.specs.Run.{last_words, block_words}
use Rattle.om_prog.specs.View.{ProgramView}
use Rattle.om_graph.specs.Uses.{IsLocalUse, IsBaseUse, IsByteUse}
use Rattle.om_graph.specs.Fits.{from_gp, IsWithin, IsHighPart}

-- what a far load is, and which places its uses have
pub record FarLoad : Type 0 where
  -- its place, its result and its base
  pub hi : Place
  pub ra : ℕ
  pub rb : ℕ
  -- the pointer that it loads
  pub region : Region
  pub offset : ℕ
  -- the least displacement of its uses, and where they stand
  pub least : ℤ
  pub use_at : Place → Bool

module _ (l : FarLoad) where
  abbrev pub far_target : Target
  far_target = target.Ptr l.region l.offset

  abbrev pub use_kind : OpKind → OpKind
  use_kind (op.Plain i) = op.UseLo i l.hi
  use_kind k = k

  abbrev pub far_op : Op → Op
  far_op o =
      if place_eq o.place l.hi then record {
        place = o.place;
        kind = op.AddrHi l.ra l.rb far_target l.least;
      }
      else if l.use_at o.place then record { place = o.place; kind = use_kind o.kind } else o

  abbrev pub use_act : Act → Act
  use_act (act.Plain i) = act.UseLo i l.hi far_target
  use_act a = a

  abbrev pub far_word : Word → Word
  far_word w =
      if place_eq w.at l.hi then record { at = w.at; act = act.AddrHi l.ra l.rb far_target }
      else if l.use_at w.at then record { at = w.at; act = use_act w.act } else w

  abbrev pub far_change : Word → Option Word
  far_change w = Some (far_word w)

  -- a use of the load, by its displacement
  pub record IsFarUse (b : Block) (o : Op) : Type 0 where
    -- a load or store as it stands, over the result of the load
    pub instr : Instr
    pub disp : ℤ
    pub plain : o.kind ≡ op.Plain instr
    pub local :
        IsLocalUse (block_words b) (record { at = l.hi; act = act.Lit l.ra l.rb far_target })
        (record { at = o.place; act = act.Plain instr }) l.ra
    pub base : IsBaseUse l.ra instr disp
    pub no_less : l.least ≤ℤ disp

  -- the load stands in the block, with its uses, of which one has the least displacement; none is a
  -- byte use, and no use of a half names the load's place yet
  pub record IsFarLoad (b : Block) : Type 0 where
    pub load : Has (ops_of b) (record { place = l.hi; kind = op.Lit l.ra l.rb far_target })
    pub uses : (o : Op) → Has (ops_of b) o → l.use_at o.place ≡ true → IsFarUse b o
    pub first : Op
    pub among : Has (ops_of b) first
    pub used : l.use_at first.place ≡ true
    pub takes : (i : Instr) (z : ℤ) → first.kind ≡ op.Plain i → IsBaseUse l.ra i z → z ≡ l.least
    pub bytes :
        (y : Word) (r : ℕ) (i : Instr) →
        IsLocalUse (block_words b) (record { at = l.hi; act = act.Lit l.ra l.rb far_target }) y r →
        y.act ≡ act.Plain i → IsByteUse r i → ⊥
    -- the block's Last is no use
    pub ends : (w : Word) → Has (last_words b.last) w → l.use_at w.at ≡ false
    pub unnamed : (o : Op) (i : Instr) → Has (ops_of b) o → o.kind ≡ op.UseLo i l.hi → ⊥

  -- the block with that done
  pub record IsMadeFar (b n : Block) : Type 0 where
    pub label : n.label ≡ b.label
    pub opening : n.opening ≡ b.opening
    pub last : n.last ≡ b.last
    pub ops : ops_of n ≡ map far_op (ops_of b)

-- in the numbers of a layout the half fits, and each use fits behind it
module _ (p : ProgramView) (gp : ℕ → ℕ) (address : Target → ℕ) (l : FarLoad) where
  -- a displacement from the pointer fits behind a high part, and the sum has this quotient by 16
  pub record FitsBehind (high quotient disp : ℤ) : Type 0 where
    pub above : (pos 16 *ℤ quotient) ≤ℤ (pos l.offset +ℤ disp)
    pub below : (pos l.offset +ℤ disp) ≤ℤ ((pos 16 *ℤ quotient) +ℤ pos 15)
    pub fits :
        FitsSigned w16 ((from_gp p gp address l.hi.obj (far_target l) +ℤ disp) -ℤ (pos 65536 *ℤ high))

  pub record FitsFar (b : Block) : Type 0 where
    pub within : IsWithin p gp address (far_target l)
    -- the high part, by the least displacement
    pub high : ℤ
    pub is_high : IsHighPart p gp address l.hi.obj (far_target l) l.least high
    pub high_fits : FitsSigned w16 high
    pub quotient : ℤ
    pub uses :
        (o : Op) (i : Instr) (z : ℤ) → Has (ops_of b) o → l.use_at o.place ≡ true →
        o.kind ≡ op.Plain i → IsBaseUse l.ra i z → FitsBehind high quotient z
