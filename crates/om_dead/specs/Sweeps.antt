-- How dead words are found: the words of each block from its last one on, by the registers that may be read behind each.
use Rattle.std.specs.Prelude.{◌≡◌, ◌⊎◌, ◌<◌, ◌^◌, ◌+◌, ◌≤◌, ◌%◌, ℕ, Bool, true, false, not, ◌&&◌, ◌||◌, List, [], ◌∷◌, ◌++◌, map, length, Some}
use Rattle.om_value.specs.declared.value.Place.{Place}
use Rattle.om_prog.specs.Flow.{Among}
use Rattle.om_prog.specs.Facts.{has}
use Rattle.om_prog.specs.View.{ProgramView}
use Rattle.om_prog.specs.Valid.{IsProgram}
use Rattle.om_graph.specs.declared.op.Op.{Op}
use Rattle.om_graph.specs.declared.op.OpKind.{OpKind}
use Rattle.om_graph.specs.declared.op.OpKind.TheVariants as op
use Rattle.om_graph.specs.declared.op.Last.{Last}
use Rattle.om_graph.specs.View.{Node, Block, GraphView, Has, block_of, deleted}
use Rattle.om_graph.specs.Held.{node_ids}
use Rattle.om_graph.specs.Form.{text_size}
use Rattle.om_graph.specs.Uses.{IsTextsLast}
use Rattle.om_graph.specs.Checks.{MaskChecked}
use Rattle.om_graph.specs.Outs.{outs_of}
use Rattle.om_graph.specs.Numbers.{AreNumbered}
use Rattle.om_graph.specs.Weight.{weight}
use Rattle.om_blocks.specs.Effects.{kind_reads, kind_writes, last_reads, last_writes}
use Rattle.om_passes.specs.OneEdit.{MayGoOn}
use Rattle.om_passes.specs.Passed.{FitsStill, IsOfAProgram}
use Rattle.om_passes.specs.Step.{Deletions}
use Rattle.om_uses.specs.Parts.{Kept, IsNearly}
use Rattle.om_dead.specs.declared.words.SweptOp.{SweptOp}
use Rattle.om_live.specs.Outs.{HasBits}

-- ---- what may be read in front of ops

-- an op that came from a LITERAL load or a GPDISP
abbrev pub kind_address : OpKind → Bool
kind_address (op.Lit ra rb t) = true
kind_address (op.GpHi ra rb base) = true
kind_address (op.GpLo ra rb hi) = true
kind_address (op.AddrLda ra rb t) = true
kind_address (op.AddrHi ra rb t least) = true
kind_address _ = false

-- in front of an op, where out may be read behind it
abbrev pub live_over : OpKind → (ℕ → Bool) → ℕ → Bool
live_over k out r = has (kind_reads k) r || (not (has (kind_writes k) r) && out r)

abbrev pub live_over_last : Last → (ℕ → Bool) → ℕ → Bool
live_over_last l out r = has (last_reads l) r || (not (has (last_writes l) r) && out r)

abbrev pub live_over_ops : List Node → (ℕ → Bool) → ℕ → Bool
live_over_ops [] out r = out r
live_over_ops (n ∷ ns) out r = has (kind_reads n.op.kind) r || (not (has (kind_writes n.op.kind) r) && live_over_ops ns out r)

-- ---- one op

-- the place of a word of a text
pub record InText (g : GraphView) (q : Place) : Type 0 where
  pub object : q.obj < length g.counts
  pub inside : q.off + 4 ≤ text_size g q.obj
  pub aligned : q.off % 4 ≡ 0
  pub small : text_size g q.obj < 2 ^ 32

-- where out may be read behind it, what it writes is dead, and it is not the last of its text
pub record MayGo (g : GraphView) (o : Op) (out : ℕ → Bool) : Type 0 where
  pub address : kind_address o.kind ≡ true
  pub dead : (r : ℕ) → Among (kind_writes o.kind) r → (r ≡ 31) ⊎ ((r < 31) × (out r ≡ false))
  pub stays : IsTextsLast g o.place → ⊥

pub record HasToStay (g : GraphView) (o : Op) (out : ℕ → Bool) : Type 0 where
  pub last :
      (r : ℕ) → kind_address o.kind ≡ true → Among (kind_writes o.kind) r → (r < 31 → out r ≡ false) →
      IsTextsLast g o.place

-- it went, or stays and is what may be read in front of it told
pub record IsSweptOp (old new : GraphView) (id : ℕ) (o : Op) (live : ℕ) (s : SweptOp) : Type 0 where
  pub gone : s.deleted ≡ true → new ≡ deleted old id
  pub same : s.deleted ≡ true → s.live ≡ live
  pub may : s.deleted ≡ true → (out : ℕ → Bool) → HasBits live out → MayGo old o out
  pub kept : s.deleted ≡ false → new ≡ old
  pub told : s.deleted ≡ false → (out : ℕ → Bool) → HasBits live out → HasBits s.live (live_over o.kind out)
  pub stays : s.deleted ≡ false → (out : ℕ → Bool) → HasBits live out → HasToStay old o out
  pub numbered : AreNumbered old

-- ---- so far

-- a block without its ops
abbrev pub stripped : Block → Block
stripped b = record b { ops = [] }

-- what deletion made of the old graph by masks and by what may be read from the ends of blocks on, for a program of which
-- that is a graph
pub record IsSweptFor (p : ProgramView) (masks outs : Place → ℕ → Bool) (old now : GraphView) : Type 0 where
  pub deletions : Deletions p old now
  pub fits : FitsStill p old now
  -- the masks pass the check still, and no more may be read from the end of any block on
  pub checked : MaskChecked masks now
  pub fewer :
      (c : Block) (r : ℕ) → Has now.blocks c → r < 31 → outs_of now masks c.label r ≡ true → outs c.label r ≡ true

pub record IsSwept (masks outs : Place → ℕ → Bool) (old now : GraphView) (changed : Bool) : Type 0 where
  pub program : IsOfAProgram old
  pub each : (p : ProgramView) → IsProgram p → MayGoOn p old → IsSweptFor p masks outs old now
  pub same : changed ≡ false → now ≡ old
  pub lighter : changed ≡ true → weight now < weight old
  pub near : (k : Kept) → IsNearly old k → IsNearly now k
  pub blocks : map stripped now.blocks ≡ map stripped old.blocks

-- ---- a block

-- these registers may be read from its end on
abbrev pub IsOutOf : (Place → ℕ → Bool) → GraphView → ℕ → ℕ → Type 0
IsOutOf outs g id out = (x : Block) → block_of g id ≡ Some x → HasBits out (outs x.label)

-- what may be read in front of the word that ends it
abbrev pub end_live : (Place → ℕ → Bool) → Block → ℕ → Bool
end_live outs x = live_over_last x.last (outs x.label)

-- of these, which end it, each has to stay
abbrev pub HaveToStay : GraphView → (Place → ℕ → Bool) → Block → List Node → Type 0
HaveToStay g outs x ops =
    (before : List Node) (n : Node) (behind : List Node) → ops ≡ before ++ n ∷ behind →
    HasToStay g n.op (live_over_ops behind (end_live outs x))

-- some deletion has begun that this block is to be a part of
pub record IsSweeping (g : GraphView) (id out : ℕ) : Type 0 where
  pub masks : Place → ℕ → Bool
  pub outs : Place → ℕ → Bool
  pub old : GraphView
  pub changed : Bool
  pub swept : IsSwept masks outs old g changed
  pub is_out : IsOutOf outs g id out

pub record IsSweptBlock (from new : GraphView) (id out : ℕ) (deleted : Bool) : Type 0 where
  pub same : deleted ≡ false → new ≡ from
  pub swept :
      (masks outs : Place → ℕ → Bool) (old : GraphView) (changed : Bool) → IsSwept masks outs old from changed →
      IsOutOf outs from id out → IsSwept masks outs old new (deleted || changed)
  pub stays :
      deleted ≡ false → (masks outs : Place → ℕ → Bool) (old : GraphView) (changed : Bool) →
      IsSwept masks outs old from changed → IsOutOf outs from id out → (x : Block) → block_of from id ≡ Some x →
      HaveToStay from outs x x.ops

-- the ops of a block
abbrev pub AreOpsOf : GraphView → ℕ → List ℕ → Type 0
AreOpsOf g id ids = (x : Block) → block_of g id ≡ Some x → ids ≡ node_ids x.ops
