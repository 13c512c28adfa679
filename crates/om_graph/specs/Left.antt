-- What it is that a rule of rewriting applies nowhere in a graph: said by the kept words and by
-- what the pass of the rule was given, facts on r29, masks or a layout's numbers.
use Rattle.std.specs.Prelude.{◌≡◌, ◌⊎◌, ◌<◌, ◌≤◌, ℕ, ℤ, pos, ◌+ℤ◌, ◌-ℤ◌, ◌*ℤ◌, ◌≤ℤ◌, Bool, true, false, List, ◌∷◌, FitsSigned}
use Rattle.std.specs.Int.{w16}
use Rattle.om_isa.specs.declared.instr.BrOp.TheVariants.{Bsr}
use Rattle.om_isa.specs.declared.instr.Instr.{Instr}
use Rattle.om_value.specs.declared.value.Place.{Place}
use Rattle.om_value.specs.declared.value.Region.{Region}
use Rattle.om_value.specs.declared.value.Target.{Target}
use Rattle.om_value.specs.declared.value.Target.TheVariants as target
use Rattle.om_prog.specs.Act.{Plain, Lit, GpHi, To, AddrLda, Word, Script, act_writes}
use Rattle.om_prog.specs.Step.{next_place}
use Rattle.om_prog.specs.Flow.{Among}
use Rattle.om_prog.specs.Facts.{Fact, Table, Unknown, fact_behind, IsFact}
use Rattle.om_prog.specs.View.{ProgramView, size_of}
use Rattle.om_graph.specs.View.{Block, GraphView, Has}
use Rattle.om_graph.specs.Run.{block_words, rev_onto, table_of}
use Rattle.om_graph.specs.Form.{is_address}
use Rattle.om_graph.specs.Kept.{IsInKeptSet}
use Rattle.om_graph.specs.Index.{InReach}
use Rattle.om_graph.specs.Uses.{IsLocalUse, IsBaseUse, IsByteUse, IsKnownCall, IsClosedPair, IsClosedOpening, IsTextsLast, Unwritten}
use Rattle.om_graph.specs.Checks.{GpChecked, MaskChecked, AreOuts, ReachesBlock, ReadsBlock, live_in}
use Rattle.om_graph.specs.Fits.{from_gp, LdaFits, SumIsWithin, IsHighPart}
use Rattle.om_graph.specs.Grouping.{grouped_tables}

-- a word of a kept block, with those before it, the last one first, and those behind it
pub record StandsIn (g : GraphView) (b : Block) (bf : List Word) (w : Word)
    (ws : List Word) : Type 0 where
  pub among : Has g.blocks b
  pub split : rev_onto bf (w ∷ ws) ≡ block_words b

-- ---- exact facts and masks

-- facts that a check passes, and no better ones would: a table is what some walk over blocks
-- leaves, and nothing is known only where a walk leaves that, or two leave different tables
pub record AreExactFacts (c : Script) (facts : Place → Fact) (g : GraphView) : Type 0 where
  pub checked : GpChecked c facts g
  pub table :
      (b : Block) (t : ℕ) → Has g.blocks b → facts b.label ≡ Table t → ReachesBlock c g b (Table t)
  pub unknown :
      (b : Block) → Has g.blocks b → facts b.label ≡ Unknown →
      ReachesBlock c g b Unknown
      ⊎ ((t : ℕ) × (u : ℕ) × ReachesBlock c g b (Table t) × ReachesBlock c g b (Table u)
      × (t ≡ u → ⊥))

-- masks that a check passes, of which no register is one too many; outs are those of the blocks'
-- ends
pub record AreExactMasks (masks outs : Place → ℕ → Bool) (g : GraphView) : Type 0 where
  pub checked : MaskChecked masks g
  pub ends : AreOuts masks outs g
  pub only :
      (b : Block) (r : ℕ) → Has g.blocks b → r < 31 → masks b.label r ≡ true → ReadsBlock g r b

-- ---- calls

-- a known call whose place is in reach could be direct
pub record NoDirect (g : GraphView) : Type 0 where
  pub calls :
      (b : Block) (call : Word) (ra : ℕ) (q : Place) → Has g.blocks b → Has (block_words b) call →
      IsKnownCall (block_words b) call ra q → InReach g.counts call.at q → ⊥

-- ---- settings of r29

abbrev pub high_word : (hi : Place) (rb : ℕ) (base : Place) → Word
high_word hi rb base = record { at = hi; act = GpHi 29 rb base }

-- a closed pair in front of which its object's table is a fact could be dropped
pub record NoDrop (c : Script) (facts : Place → Fact) (g : GraphView) : Type 0 where
  pub pairs :
      (b : Block) (bf ws : List Word) (hi lo : Place) (h : IsClosedPair g b hi lo) →
      StandsIn g b bf (high_word hi h.rb h.base) ws →
      IsFact (fact_behind c (facts b.label) bf) (table_of g hi.obj) → ⊥

-- a BSR to a closed opening pair, in front of which the table of the pair's object is a fact, could
-- go past it
pub record NoEnter (c : Script) (facts : Place → Fact) (g : GraphView) : Type 0 where
  pub calls :
      (b e : Block) (bf ws : List Word) (w : Word) (ra : ℕ) → StandsIn g b bf w ws →
      Has g.blocks e → w.act ≡ To Bsr ra e.label → (ra ≡ 29 → ⊥) → IsClosedOpening g e →
      InReach g.counts w.at (next_place (next_place e.label)) →
      IsFact (fact_behind c (facts b.label) bf) (table_of g e.label.obj) → ⊥

-- ---- dead words and blocks

-- by masks no walk reads a register behind words with which a block ends before it writes it
abbrev pub IsDeadBy : (Place → ℕ → Bool) → Block → List Word → ℕ → Type 0
IsDeadBy outs b ws r = r < 31 → live_in ws (outs b.label) r ≡ false

-- a word of a LITERAL load or a GPDISP whose result is dead could go, unless it is the last one of
-- its text
pub record NoDeadWord (outs : Place → ℕ → Bool) (g : GraphView) : Type 0 where
  pub words :
      (b : Block) (bf : List Word) (w : Word) (ws : List Word) (r : ℕ) → StandsIn g b bf w ws →
      is_address w.act ≡ true → Among (act_writes w.act) r → IsDeadBy outs b ws r →
      IsTextsLast g w.at

-- a block outside the kept set could go
pub record OnlyKeptSet (g : GraphView) : Type 0 where
  pub blocks : (b : Block) → Has g.blocks b → IsInKeptSet g b.label

-- ---- addresses, over a layout: the global pointer of each object, and the address of each target

-- a byte use of a load of a pointer could take a literal
pub record NoByte (g : GraphView) : Type 0 where
  pub uses :
      (b : Block) (load user : Word) (r rb x : ℕ) (region : Region) (i : Instr) → Has g.blocks b →
      IsLocalUse (block_words b) load user r → load.act ≡ Lit r rb (target.Ptr region x) →
      user.act ≡ Plain i → IsByteUse r i → ⊥

module _ (p : ProgramView) (gp : ℕ → ℕ) (address : Target → ℕ) where
  -- a target is near an object's global pointer: a number, or an address in a region or at its end,
  -- of 16 signed bits; LDA reaches it
  abbrev pub IsNear : ℕ → Target → Type 0
  IsNear o t = LdaFits p gp address o t

  -- a base use of a load of a near pointer that became LDA could take the load's own base
  pub record NoUse (g : GraphView) : Type 0 where
    pub uses :
        (b : Block) (load user : Word) (r rb x : ℕ) (region : Region) (i : Instr) (z : ℤ) →
        Has g.blocks b → (u : IsLocalUse (block_words b) load user r) →
        load.act ≡ AddrLda r rb (target.Ptr region x) → IsNear load.at.obj (target.Ptr region x) →
        user.act ≡ Plain i → IsBaseUse r i z → (r ≡ rb → ⊥) → Unwritten rb u.mid →
        SumIsWithin p gp address (target.Ptr region x) z →
        FitsSigned w16 (from_gp p gp address load.at.obj (target.Ptr region x) +ℤ z) → ⊥

  -- a load of a near target could become LDA, unless it is dead and not the last word of its text:
  -- then it could go
  pub record NoNear (outs : Place → ℕ → Bool) (g : GraphView) : Type 0 where
    pub loads :
        (b : Block) (bf : List Word) (w : Word) (ws : List Word) (ra rb : ℕ) (t : Target) →
        StandsIn g b bf w ws → w.act ≡ Lit ra rb t → IsNear w.at.obj t →
        IsDeadBy outs b ws ra × (IsTextsLast g w.at → ⊥)

  -- a base use of a load at some displacement fits over the high part hi, and its sum has this
  -- quotient by 16
  pub record IsFarUse (o : ℕ) (region : Region) (x : ℕ) (r : ℕ) (least quotient hi : ℤ)
      (user : Word) : Type 0 where
    pub instr : Instr
    pub disp : ℤ
    pub act : user.act ≡ Plain instr
    pub base : IsBaseUse r instr disp
    pub no_less : least ≤ℤ disp
    pub above : (pos 16 *ℤ quotient) ≤ℤ (pos x +ℤ disp)
    pub below : (pos x +ℤ disp) ≤ℤ ((pos 16 *ℤ quotient) +ℤ pos 15)
    pub fits :
        FitsSigned w16 ((from_gp p gp address o (target.Ptr region x) +ℤ disp) -ℤ (pos 65536 *ℤ hi))

  -- a load of a pointer that is not near, with its uses among these words: it is read, and only as
  -- base, and each use fits over the high part of the least one
  pub record IsFarLoad (ws : List Word) (load : Word) (r rb x : ℕ) (region : Region) : Type 0 where
    pub loads : load.act ≡ Lit r rb (target.Ptr region x)
    pub far : IsNear load.at.obj (target.Ptr region x) → ⊥
    pub inside : x ≤ size_of p region
    pub least : ℤ
    pub quotient : ℤ
    pub hi : ℤ
    pub high : IsHighPart p gp address load.at.obj (target.Ptr region x) least hi
    pub least_use :
        (user : Word) × (i : Instr) × IsLocalUse ws load user r × (user.act ≡ Plain i)
        × IsBaseUse r i least
    pub uses :
        (user : Word) → IsLocalUse ws load user r →
        IsFarUse load.at.obj region x r least quotient hi user

  -- a load all of whose uses fit over one high part could become LDAH, where its register is not
  -- read from the block's end on
  pub record NoFar (outs : Place → ℕ → Bool) (g : GraphView) : Type 0 where
    pub loads :
        (b : Block) (load : Word) (r rb x : ℕ) (region : Region) → Has g.blocks b →
        Has (block_words b) load → (f : IsFarLoad (block_words b) load r rb x region) →
        FitsSigned w16 f.hi → (r < 31 → outs b.label r ≡ false) → ⊥

-- ---- all of it

-- no rule of rewriting applies to a graph in a layout of its own, by exact facts and masks of it
pub record NothingApplies (p : ProgramView) (c : Script) (gp : ℕ → ℕ) (address : Target →
    ℕ) (facts : Place → Fact) (masks outs : Place → ℕ → Bool) (g : GraphView) : Type 0 where
  pub exact_facts : AreExactFacts c facts g
  pub exact_masks : AreExactMasks masks outs g
  pub tables : g.tables ≡ grouped_tables p
  pub direct : NoDirect g
  pub drop_pairs : NoDrop c facts g
  pub enter : NoEnter c facts g
  pub near : NoNear p gp address outs g
  pub uses : NoUse p gp address g
  pub bytes : NoByte g
  pub far : NoFar p gp address outs g
  pub words : NoDeadWord outs g
  pub blocks : OnlyKeptSet g
