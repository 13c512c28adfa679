-- What holds of the edits of addresses: each is a whole step, meaning too.
use Rattle.std.specs.Prelude.{◌≡◌, ◌⊎◌, ◌<◌, ◌%◌, ℕ, ℤ, Bool, true, false, List, ◌∷◌}
use Rattle.om_isa.specs.declared.instr.Instr.{Instr}
use Rattle.om_value.specs.declared.value.Place.{Place}
use Rattle.om_value.specs.declared.value.Region.{Region}
use Rattle.om_value.specs.declared.value.Target.TheVariants as target
use Rattle.om_prog.specs.Act as act
use Rattle.om_prog.specs.Act.{Word}
use Rattle.om_prog.specs.View.{ProgramView}
use Rattle.om_prog.specs.Valid.{IsProgram}
use Rattle.om_graph.specs.declared.op.OpKind.TheVariants as op
use Rattle.om_graph.specs.View.{Node, Block, GraphView, Has, replaced}
use Rattle.om_graph.specs.Held.{IsGraph}
use Rattle.om_graph.specs.Run.{block_words, rev_onto}
use Rattle.om_graph.specs.Rewritten.{SameFrame}
use Rattle.om_graph.specs.Checks.{MaskChecked, written_in}
use Rattle.om_graph.specs.Outs.{outs_of}
use Rattle.om_graph.specs.Uses.{IsTextsLast, Unwritten, IsLocalUse, IsBaseUse, IsByteUse, with_literal}
use Rattle.om_passes.specs.Blocks.{OneBlock}
use Rattle.om_passes.specs.Far.{FarLoad, far_target, IsFarLoad, IsMadeFar}
use Rattle.om_passes.specs.Step.{Step}
use Rattle.om_passes.specs.OneEdit.{MayGoOn, IsOp, word_of, HasNoByteUse, LoadsPointer}

-- the load of a far one, as a word
abbrev pub far_load : FarLoad → Word
far_load l = record { at = l.hi; act = act.Lit l.ra l.rb (far_target l) }

-- a far load may be made: all that reads it in its block is a use, and behind the block nothing
-- reads it: ws stand behind it in the block
pub record IsWhollyFar (g : GraphView) (masks : Place → ℕ →
    Bool) (l : FarLoad) (b : Block) (bf ws : List Word) : Type 0 where
  pub stands : rev_onto bf (far_load l ∷ ws) ≡ block_words b
  pub all_uses : (y : Word) → IsLocalUse (block_words b) (far_load l) y l.ra → l.use_at y.at ≡ true
  pub register : l.ra < 31
  pub unread : (written_in ws l.ra ≡ true) ⊎ (outs_of g masks b.label l.ra ≡ false)

pub record AddressesAreSteps : Type 0 where
  -- a load of the address of a pointer, without byte uses, as a sum; LDA reads its base where a
  -- load into r31 read nothing, so one into r31 ends its text
  pub near :
      (p : ProgramView) (g : GraphView) (id : ℕ) (b : Block) (x : Node) (ra rb n : ℕ)
      (region : Region) → IsProgram p → MayGoOn p g → IsOp g id b x →
      (x.op).kind ≡ op.Lit ra rb (target.Ptr region n) → HasNoByteUse b (word_of b x) → (ra ≡ 31 →
      IsTextsLast g (x.op).place) →
      Step p g (replaced g id (op.AddrLda ra rb (target.Ptr region n)))
  -- of a number
  pub number :
      (p : ProgramView) (g : GraphView) (id : ℕ) (b : Block) (x : Node) (ra rb n : ℕ) →
      IsProgram p → MayGoOn p g → IsOp g id b x → (x.op).kind ≡ op.Lit ra rb (target.Num n) →
      (ra ≡ 31 → IsTextsLast g (x.op).place) →
      Step p g (replaced g id (op.AddrLda ra 31 (target.Num n)))
  -- a base use of a load, over what the load was over, where that stands until the use
  pub by_gp :
      (p : ProgramView) (g : GraphView) (id : ℕ) (b : Block) (x : Node) (load : Word) (i : Instr)
      (r rb n : ℕ)
      (region : Region) (z : ℤ) → IsProgram p → MayGoOn p g → IsOp g id b x →
      (x.op).kind ≡ op.Plain i → (local : IsLocalUse (block_words b) load (word_of b x) r) →
      LoadsPointer load r rb region n → IsBaseUse r i z → (r ≡ rb → ⊥) → Unwritten rb local.mid →
      Step p g (replaced g id (op.UseGp i rb (target.Ptr region n)))
  -- a byte use of a load, with a literal
  pub byte :
      (p : ProgramView) (g : GraphView) (id : ℕ) (b : Block) (x : Node) (load : Word) (i : Instr)
      (r rb n : ℕ)
      (region : Region) → IsProgram p → MayGoOn p g → IsOp g id b x → (x.op).kind ≡ op.Plain i →
      IsLocalUse (block_words b) load (word_of b x) r → LoadsPointer load r rb region n →
      IsByteUse r i → Step p g (replaced g id (op.Plain (with_literal (n % 8) i)))
  -- a load with all of its uses, over its high half, which nothing else reads
  pub far :
      (p : ProgramView) (g new : GraphView) (l : FarLoad) (b n : Block) (masks : Place → ℕ →
      Bool) (bf ws : List Word) → IsProgram p → MayGoOn p g → IsGraph new → SameFrame g new →
      new.labels ≡ g.labels → OneBlock g.blocks new.blocks b n → IsFarLoad l b → IsMadeFar l b n →
      MaskChecked masks g → IsWhollyFar g masks l b bf ws → Step p g new
