-- What holds of edits and of steps in a row.
use Rattle.std.specs.Prelude.{◌≡◌, ◌<◌, ◌%◌, ℕ, ℤ, Bool, true, List, [], ◌∷◌, Some}
use Rattle.om_isa.specs.declared.instr.Instr.{Instr}
use Rattle.om_isa.specs.declared.instr.BrOp.TheVariants.{Bsr}
use Rattle.om_value.specs.declared.value.Place.{Place}
use Rattle.om_value.specs.declared.value.Region.{Region}
use Rattle.om_value.specs.declared.value.Target.{Target}
use Rattle.om_value.specs.declared.value.Target.TheVariants as target
use Rattle.om_prog.specs.Act as act
use Rattle.om_prog.specs.Act.{Act, Word}
use Rattle.om_prog.specs.Facts.{Fact, IsFact, fact_behind}
use Rattle.om_prog.specs.View.{ProgramView}
use Rattle.om_prog.specs.Valid.{IsProgram}
use Rattle.om_prog.specs.Step.{next_place}
use Rattle.om_graph.specs.declared.op.OpKind.{OpKind}
use Rattle.om_graph.specs.declared.op.OpKind.TheVariants as op
use Rattle.om_graph.specs.declared.op.Last.{Last}
use Rattle.om_graph.specs.declared.op.Last.TheVariants as last
use Rattle.om_graph.specs.View.{Node, Block, GraphView, Has, block_of, replaced, deleted, last_set, dropped}
use Rattle.om_graph.specs.Held.{IsGraph}
use Rattle.om_graph.specs.Fits.{OpFits, OpsFit}
use Rattle.om_graph.specs.Run.{last_words, block_words, rev_onto, table_of, graph_script}
use Rattle.om_graph.specs.Rewritten.{SameFrame}
use Rattle.om_graph.specs.Form.{is_address}
use Rattle.om_graph.specs.Kept.{IsInKeptSet}
use Rattle.om_graph.specs.Checks.{MaskChecked, GpChecked}
use Rattle.om_graph.specs.Outs.{outs_of}
use Rattle.om_graph.specs.Left.{AreExactMasks, NoDeadWord}
use Rattle.om_graph.specs.Stands.{BasesStand}
use Rattle.om_graph.specs.Index.{InReach}
use Rattle.om_graph.specs.Uses.{IsLocalUse, IsBaseUse, IsByteUse, IsKnownCall, IsClosedPair, IsClosedOpening, with_literal}
use Rattle.om_graph.specs.OfProgram.{IsFollowed, CallsTo, MayBePassed, IsLastWriter, CameFromLoad, IsGraphOf}
use Rattle.om_passes.specs.AtPlaces.{NoHalf}
use Rattle.om_passes.specs.Blocks.{OneBlock}
use Rattle.om_passes.specs.Far.{FarLoad, IsFarLoad, IsMadeFar, FitsFar}
use Rattle.om_graph.specs.Weight.{opens}
use Rattle.om_passes.specs.Step.{Onward, Rewrites, Step, Steps, Deletion, Deletions}
use Rattle.om_passes.specs.OneEdit.{MayGoOn, IsOp, IsDead, word_of, IsUnused, NamesNoHalf, HasNoByteUse, LoadsPointer}

-- one edit of a graph of a program leaves a lighter one, with no more in its kept set and no new
-- target of a load
pub record EditsGoOn : Type 0 where
  -- an address word, not the last of its text, whose result no word of its block reads
  pub dead :
      (p : ProgramView) (g : GraphView) (id : ℕ) (b : Block) (x : Node) → IsProgram p →
      MayGoOn p g → IsOp g id b x → is_address (word_of b x).act ≡ true →
      IsFollowed p (x.op).place → IsUnused b (word_of b x) → NamesNoHalf b x →
      Onward p g (deleted g id)
  -- a load of the address of a pointer, without byte uses, as a sum
  pub near :
      (p : ProgramView) (g : GraphView) (id : ℕ) (b : Block) (x : Node) (ra rb n : ℕ)
      (region : Region) → IsProgram p → MayGoOn p g → IsOp g id b x →
      (x.op).kind ≡ op.Lit ra rb (target.Ptr region n) → HasNoByteUse b (word_of b x) →
      Onward p g (replaced g id (op.AddrLda ra rb (target.Ptr region n)))
  -- of a number
  pub number :
      (p : ProgramView) (g : GraphView) (id : ℕ) (b : Block) (x : Node) (ra rb n : ℕ) →
      IsProgram p → MayGoOn p g → IsOp g id b x → (x.op).kind ≡ op.Lit ra rb (target.Num n) →
      Onward p g (replaced g id (op.AddrLda ra 31 (target.Num n)))
  -- a base use of a load, over what the load was over
  pub by_gp :
      (p : ProgramView) (g : GraphView) (id : ℕ) (b : Block) (x : Node) (load : Word) (i : Instr)
      (r rb n : ℕ)
      (region : Region) (z : ℤ) → IsProgram p → MayGoOn p g → IsOp g id b x →
      (x.op).kind ≡ op.Plain i → IsLocalUse (block_words b) load (word_of b x) r →
      LoadsPointer load r rb region n → IsBaseUse r i z →
      Onward p g (replaced g id (op.UseGp i rb (target.Ptr region n)))
  -- a byte use of a load, with a literal
  pub byte :
      (p : ProgramView) (g : GraphView) (id : ℕ) (b : Block) (x : Node) (load : Word) (i : Instr)
      (r rb n : ℕ)
      (region : Region) → IsProgram p → MayGoOn p g → IsOp g id b x → (x.op).kind ≡ op.Plain i →
      IsLocalUse (block_words b) load (word_of b x) r → LoadsPointer load r rb region n →
      IsByteUse r i → Onward p g (replaced g id (op.Plain (with_literal (n % 8) i)))
  -- a known call, direct
  pub call :
      (p : ProgramView) (g : GraphView) (id : ℕ) (b : Block) (at q to : Place) (i : Instr)
      (ra : ℕ) → IsProgram p → MayGoOn p g → block_of g id ≡ Some b →
      IsKnownCall (block_words b) (record { at = at; act = act.Plain i }) ra q → CallsTo p q to →
      InReach g.counts at to → b.last ≡ last.CallBy at i →
      Onward p g (last_set g id (last.Call at Bsr ra to))
  pub jump :
      (p : ProgramView) (g : GraphView) (id : ℕ) (b : Block) (at q to : Place) (i : Instr)
      (ra : ℕ) → IsProgram p → MayGoOn p g → block_of g id ≡ Some b →
      IsKnownCall (block_words b) (record { at = at; act = act.Plain i }) ra q → CallsTo p q to →
      InReach g.counts at to → b.last ≡ last.JumpBy at i →
      Onward p g (last_set g id (last.Br at Bsr ra to))
  -- a call past the opening pair of a kept block
  pub past :
      (p : ProgramView) (g : GraphView) (id : ℕ) (b : Block) (at q : Place) (ra : ℕ) →
      IsProgram p → MayGoOn p g → block_of g id ≡ Some b → MayBePassed p q →
      opens g.blocks q ≡ true → InReach g.counts at (next_place (next_place q)) →
      b.last ≡ last.Call at Bsr ra q →
      Onward p g (last_set g id (last.Call at Bsr ra (next_place (next_place q))))
  pub branch_past :
      (p : ProgramView) (g : GraphView) (id : ℕ) (b : Block) (at q : Place) (ra : ℕ) →
      IsProgram p → MayGoOn p g → block_of g id ≡ Some b → MayBePassed p q →
      opens g.blocks q ≡ true → InReach g.counts at (next_place (next_place q)) →
      b.last ≡ last.Br at Bsr ra q →
      Onward p g (last_set g id (last.Br at Bsr ra (next_place (next_place q))))
  -- a block outside the kept set, gone
  pub dropped :
      (p : ProgramView) (g : GraphView) (id : ℕ) (b : Block) → IsProgram p → MayGoOn p g →
      block_of g id ≡ Some b → (IsInKeptSet g b.label → ⊥) → Onward p g (dropped g id)
  -- a closed pair of r29, in front of whose high half no load wrote r29 last in the block
  pub pair :
      (p : ProgramView) (g : GraphView) (hi lo : ℕ) (b : Block) (xh xl : Node) (rb : ℕ)
      (base : Place) → IsProgram p → MayGoOn p g → IsOp g hi b xh → IsOp g lo b xl →
      (xh.op).kind ≡ op.GpHi 29 rb base → (xl.op).kind ≡ op.GpLo 29 29 (xh.op).place →
      IsClosedPair g b (xh.op).place (xl.op).place → ((u : Word) →
      IsLastWriter (block_words b) (xh.op).place 29 u → CameFromLoad u.act → ⊥) →
      Onward p g (deleted (deleted g lo) hi)
  -- a load with all of its uses, over its high half
  pub far :
      (p : ProgramView) (g new : GraphView) (l : FarLoad) (b n : Block) → IsProgram p →
      MayGoOn p g → IsGraph new → SameFrame g new → new.labels ≡ g.labels →
      OneBlock g.blocks new.blocks b n → IsFarLoad l b → IsMadeFar l b n → Onward p g new

-- what needs no facts on values is a step: a dead address word gone, by masks that a check passes,
-- and a block outside the kept set gone
pub record PrunesAreSteps : Type 0 where
  pub word :
      (p : ProgramView) (g : GraphView) (id : ℕ) (b : Block) (x : Node) (masks : Place → ℕ →
      Bool) (bf ws : List Word) → IsProgram p → MayGoOn p g →
      IsDead p g (outs_of g masks) id b x bf ws → MaskChecked masks g → Deletion p g (deleted g id)
  -- the masks still pass the check, and no more may be read behind any block: so the masks of the
  -- start serve a whole sweep
  pub masks :
      (p : ProgramView) (g : GraphView) (id : ℕ) (b : Block) (x : Node) (masks : Place → ℕ →
      Bool) (bf ws : List Word) → IsProgram p → MayGoOn p g →
      IsDead p g (outs_of g masks) id b x bf ws → MaskChecked masks g →
      MaskChecked masks (deleted g id)
      × ((c : Block) (r : ℕ) → Has (deleted g id).blocks c → r < 31 →
      outs_of (deleted g id) masks c.label r ≡ true → outs_of g masks c.label r ≡ true)
  pub block :
      (p : ProgramView) (g : GraphView) (id : ℕ) (b : Block) → IsProgram p → MayGoOn p g →
      block_of g id ≡ Some b → (IsInKeptSet g b.label → ⊥) → Step p g (dropped g id)

-- a known call made direct, to where the program goes, is a step
pub record CallsAreSteps : Type 0 where
  pub call :
      (p : ProgramView) (g : GraphView) (id : ℕ) (b : Block) (at q : Place) (i : Instr) (ra : ℕ) →
      IsProgram p → MayGoOn p g → block_of g id ≡ Some b →
      IsKnownCall (block_words b) (record { at = at; act = act.Plain i }) ra q →
      InReach g.counts at q → b.last ≡ last.CallBy at i →
      Step p g (last_set g id (last.Call at Bsr ra q))
  pub jump :
      (p : ProgramView) (g : GraphView) (id : ℕ) (b : Block) (at q : Place) (i : Instr) (ra : ℕ) →
      IsProgram p → MayGoOn p g → block_of g id ≡ Some b →
      IsKnownCall (block_words b) (record { at = at; act = act.Plain i }) ra q →
      InReach g.counts at q → b.last ≡ last.JumpBy at i →
      Step p g (last_set g id (last.Br at Bsr ra q))

-- a closed pair of r29 gone is a step where the fact in front of its high half is the table of its
-- object: bf stand before it in its block, the last one first
pub record PairsAreSteps : Type 0 where
  pub pair :
      (p : ProgramView) (g : GraphView) (hi lo : ℕ) (b : Block) (xh xl : Node) (rb : ℕ)
      (base : Place)
      (facts : Place → Fact) (bf ws : List Word) → IsProgram p → MayGoOn p g → IsOp g hi b xh →
      IsOp g lo b xl → (xh.op).kind ≡ op.GpHi 29 rb base →
      (xl.op).kind ≡ op.GpLo 29 29 (xh.op).place → IsClosedPair g b (xh.op).place (xl.op).place →
      GpChecked (graph_script p g) facts g → rev_onto bf (word_of b xh ∷ ws) ≡ block_words b →
      IsFact (fact_behind (graph_script p g) (facts b.label) bf) (table_of g (xh.op).place.obj) →
      Step p g (deleted (deleted g lo) hi)

-- a call past the closed opening pair of a kept block is a step where the fact in front of it is
-- the table of the pair's object, and its link register is not r29
pub record EntriesAreSteps : Type 0 where
  pub call :
      (p : ProgramView) (g : GraphView) (id : ℕ) (b n : Block) (at : Place) (ra : ℕ)
      (facts : Place → Fact)
      (bf ws : List Word) → IsProgram p → MayGoOn p g → block_of g id ≡ Some b → Has g.blocks n →
      IsClosedOpening g n → (ra ≡ 29 → ⊥) → InReach g.counts at (next_place (next_place n.label)) →
      GpChecked (graph_script p g) facts g →
      rev_onto bf (record { at = at; act = act.To Bsr ra n.label } ∷ ws) ≡ block_words b →
      IsFact (fact_behind (graph_script p g) (facts b.label) bf) (table_of g n.label.obj) →
      b.last ≡ last.Call at Bsr ra n.label →
      Step p g (last_set g id (last.Call at Bsr ra (next_place (next_place n.label))))
  pub branch :
      (p : ProgramView) (g : GraphView) (id : ℕ) (b n : Block) (at : Place) (ra : ℕ)
      (facts : Place → Fact)
      (bf ws : List Word) → IsProgram p → MayGoOn p g → block_of g id ≡ Some b → Has g.blocks n →
      IsClosedOpening g n → (ra ≡ 29 → ⊥) → InReach g.counts at (next_place (next_place n.label)) →
      GpChecked (graph_script p g) facts g →
      rev_onto bf (record { at = at; act = act.To Bsr ra n.label } ∷ ws) ≡ block_words b →
      IsFact (fact_behind (graph_script p g) (facts b.label) bf) (table_of g n.label.obj) →
      b.last ≡ last.Br at Bsr ra n.label →
      Step p g (last_set g id (last.Br at Bsr ra (next_place (next_place n.label))))

-- a pair that is closed in the kept block that begins with it may be passed, and goes before another block
pub record OpeningsMayBePassed : Type 0 where
  pub closed :
      (p : ProgramView) (g : GraphView) (b : Block) → IsProgram p → IsGraphOf p g → Has g.blocks b →
      IsClosedOpening g b → MayBePassed p b.label
  -- a block of the program begins behind it
  pub behind :
      (p : ProgramView) (g : GraphView) (b : Block) → IsProgram p → IsGraphOf p g → Has g.blocks b →
      IsClosedOpening g b → Has g.labels (next_place (next_place b.label))

-- steps in a row, and deletions in a row
pub record StepsGoOn : Type 0 where
  pub none : (p : ProgramView) (g : GraphView) → IsProgram p → MayGoOn p g → Steps p g g
  pub more : (p : ProgramView) (a b c : GraphView) → Steps p a b → Step p b c → Steps p a c
  pub all : (p : ProgramView) (a b c : GraphView) → Steps p a b → Steps p b c → Steps p a c
  pub none_deleted : (p : ProgramView) (g : GraphView) → IsProgram p → MayGoOn p g → Deletions p g g
  pub more_deleted :
      (p : ProgramView) (a b c : GraphView) → Deletions p a b → Deletion p b c → Deletions p a c
  -- with no dead word left, by exact masks, deletions are steps: no high half stands alone any more
  pub deleted :
      (p : ProgramView) (a b : GraphView) (masks outs : Place → ℕ → Bool) → IsProgram p →
      Deletions p a b → BasesStand p a → AreExactMasks masks outs b → NoDeadWord outs b →
      Steps p a b
  -- and where a pass stops before, meaning is kept all the same
  pub meaning :
      (p : ProgramView) (a b c : GraphView) → Rewrites p a b → Rewrites p b c → Rewrites p a c

-- address ops that fitted fit after an edit, in the same numbers; of a new op it is asked
pub record FitsStay (p : ProgramView) (gp : ℕ → ℕ) (address : Target → ℕ) : Type 0 where
  -- an address word that gives no half, or one that no use names
  pub gone :
      (g : GraphView) (id : ℕ) (b : Block) (x : Node) → IsProgram p → IsGraphOf p g →
      IsOp g id b x → is_address (word_of b x).act ≡ true → NamesNoHalf b x →
      IsGraphOf p (deleted g id) → OpsFit p gp address g → OpsFit p gp address (deleted g id)
  pub set :
      (g : GraphView) (id : ℕ) (b : Block) (x : Node) (kind : OpKind) → IsProgram p →
      IsGraphOf p g → IsOp g id b x → NoHalf (x.op).kind → NoHalf kind →
      IsGraphOf p (replaced g id kind) → OpFits p gp address b (x.op).place kind →
      OpsFit p gp address g → OpsFit p gp address (replaced g id kind)
  pub ended :
      (g : GraphView) (id : ℕ) (b : Block) (call : Word) (a : Act) (l : Last) → IsProgram p →
      IsGraphOf p g → block_of g id ≡ Some b → last_words b.last ≡ call ∷ [] →
      last_words l ≡ record { at = call.at; act = a } ∷ [] → IsGraphOf p (last_set g id l) →
      OpsFit p gp address g → OpsFit p gp address (last_set g id l)
  pub without :
      (g : GraphView) (id : ℕ) (b : Block) → IsProgram p → IsGraphOf p g → block_of g id ≡ Some b →
      OpsFit p gp address g → OpsFit p gp address (dropped g id)
  -- a load with all of its uses, over its high half
  pub far :
      (g new : GraphView) (l : FarLoad) (b n : Block) → IsProgram p → IsGraphOf p g →
      OneBlock g.blocks new.blocks b n → IsFarLoad l b → IsMadeFar l b n → IsGraphOf p new →
      FitsFar p gp address l b → OpsFit p gp address g → OpsFit p gp address new

abbrev pub OpsStillFit : Type 0
OpsStillFit = (p : ProgramView) (gp : ℕ → ℕ) (address : Target → ℕ) → FitsStay p gp address
