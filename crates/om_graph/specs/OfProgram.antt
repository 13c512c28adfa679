-- When a graph is of a program: what rewriting may have made of the graph that the program is lifted to.
use Rattle.std.specs.Prelude.{◌≡◌, ◌⊎◌, ℕ, ◌%◌, ◌<◌, ◌≤◌, ℤ, ◌≤ℤ◌, true, false, List, [], ◌∷◌, length, map, Some, slice_get}
use Rattle.om_isa.specs.declared.instr.BrOp.TheVariants.{Bsr}
use Rattle.om_isa.specs.declared.instr.Instr.{Instr}
use Rattle.om_value.specs.declared.value.Place.{Place}
use Rattle.om_value.specs.declared.value.Region.{Region}
use Rattle.om_value.specs.declared.value.Target.{Target}
use Rattle.om_value.specs.declared.value.Target.TheVariants as target
use Rattle.om_prog.specs.Act.{Act, Plain, Lit, GpHi, GpLo, To, AddrLda, AddrHi, UseLo, UseGp, Word, act_reads, act_writes}
use Rattle.om_prog.specs.Step.{next_place}
use Rattle.om_prog.specs.Flow.{Among}
use Rattle.om_prog.specs.View.{ProgramView, is_word}
use Rattle.om_prog.specs.Script.{program_fetch}
use Rattle.om_prog.specs.Valid.{slot_limit}
use Rattle.om_graph.specs.declared.op.Op.{Op}
use Rattle.om_graph.specs.declared.op.OpKind.TheVariants as op
use Rattle.om_graph.specs.declared.op.Last.TheVariants as last
use Rattle.om_graph.specs.View.{Block, Shape, GraphView, Has, ops_of}
use Rattle.om_graph.specs.Held.{IsGraph}
use Rattle.om_graph.specs.Run.{block_words, shape_words, table_of}
use Rattle.om_graph.specs.Form.{InForm, is_address}
use Rattle.om_graph.specs.Whole.{program_roots}
use Rattle.om_graph.specs.Landing.{begins, is_opening_pair}
use Rattle.om_graph.specs.Lifted.{lifted_shapes}
use Rattle.om_graph.specs.Uses.{Between, NoneWrites, IsLocalUse, IsBaseUse, IsByteUse, IsKnownCall, with_literal}

-- ---- the forms of a word

-- an opening pair whose halves are in order and in one block of the program, both of r29, and not at its text's end: a
-- call may go past it
pub record MayBePassed (p : ProgramView) (q : Place) : Type 0 where
  pub opening : is_opening_pair p q ≡ true
  pub rb : ℕ
  pub base : Place
  pub high : program_fetch p q ≡ Some (record { at = q; act = GpHi 29 rb base })
  pub low : program_fetch p (next_place q) ≡ Some (record { at = next_place q; act = GpLo 29 29 q })
  pub one_block : begins p (next_place q) ≡ false
  pub more : is_word p (next_place (next_place q)) ≡ true

-- where a BSR to a place may go
abbrev pub CallsTo : ProgramView → Place → Place → Type 0
CallsTo p q to = (to ≡ q) ⊎ ((to ≡ next_place (next_place q)) × MayBePassed p q)

-- what may have become of a word that stands among these in its block
pub data IsForm (p : ProgramView) (ws : List Word) (w : Word) (a : Act) : Type 0 where
  as_was : a ≡ w.act → IsForm p ws w a
  -- a load of the address of a pointer, near or far, and of a number
  near :
      (ra rb x : ℕ) (r : Region) → w.act ≡ Lit ra rb (target.Ptr r x) → a ≡ AddrLda ra rb (target.Ptr r x) →
      IsForm p ws w a
  number :
      (ra rb n : ℕ) → w.act ≡ Lit ra rb (target.Num n) → a ≡ AddrLda ra 31 (target.Num n) → IsForm p ws w a
  far :
      (ra rb x : ℕ) (r : Region) → w.act ≡ Lit ra rb (target.Ptr r x) → a ≡ AddrHi ra rb (target.Ptr r x) →
      IsForm p ws w a
  -- a base use of such a load, over its global pointer or its high half
  by_gp :
      (load : Word) (r rb x : ℕ) (region : Region) (i : Instr) (z : ℤ) → IsLocalUse ws load w r →
      load.act ≡ Lit r rb (target.Ptr region x) → w.act ≡ Plain i → IsBaseUse r i z →
      a ≡ UseGp i rb (target.Ptr region x) → IsForm p ws w a
  by_high :
      (load : Word) (r rb x : ℕ) (region : Region) (i : Instr) (z : ℤ) → IsLocalUse ws load w r →
      load.act ≡ Lit r rb (target.Ptr region x) → w.act ≡ Plain i → IsBaseUse r i z →
      a ≡ UseLo i load.at (target.Ptr region x) → IsForm p ws w a
  -- a byte use: regions begin at multiples of 16, so the byte's number is that of the offset
  byte :
      (load : Word) (r rb x : ℕ) (region : Region) (i : Instr) → IsLocalUse ws load w r →
      load.act ≡ Lit r rb (target.Ptr region x) → w.act ≡ Plain i → IsByteUse r i →
      a ≡ Plain (with_literal (x % 8) i) → IsForm p ws w a
  -- a BSR, and a known call that became one
  called :
      (ra : ℕ) (q to : Place) → w.act ≡ To Bsr ra q → CallsTo p q to → a ≡ To Bsr ra to → IsForm p ws w a
  direct : (ra : ℕ) (q to : Place) → IsKnownCall ws w ra q → CallsTo p q to → a ≡ To Bsr ra to → IsForm p ws w a

-- ---- the words of a block

-- the word at a place is not the last one of its text
abbrev pub IsFollowed : ProgramView → Place → Type 0
IsFollowed p q = is_word p (next_place q) ≡ true

-- of these words, which stand among ws, each is in one of its forms, or gone; only words of LITERAL loads and GPDISP
-- halves are gone, and never the last word of a text
pub data AreKept (p : ProgramView) (ws : List Word) : List Word → List Word → Type 0 where
  no_more : AreKept p ws [] []
  kept :
      {vs us : List Word} (w u : Word) → u.at ≡ w.at → IsForm p ws w u.act → AreKept p ws vs us →
      AreKept p ws (w ∷ vs) (u ∷ us)
  gone :
      {vs us : List Word} (w : Word) → is_address w.act ≡ true → IsFollowed p w.at → AreKept p ws vs us →
      AreKept p ws (w ∷ vs) us

-- the last word before a place in a list that writes a register
abbrev pub IsLastWriter : List Word → Place → ℕ → Word → Type 0
IsLastWriter ws q r w =
    (mid : List Word) × (user : Word) × (user.at ≡ q) × Between ws w mid user × NoneWrites r mid
    × Among (act_writes w.act) r

-- a word that came from a LITERAL load
abbrev pub CameFromLoad : Act → Type 0
CameFromLoad (Lit ra rb t) = Unit {0}
CameFromLoad (AddrLda ra rb t) = Unit {0}
CameFromLoad (AddrHi ra rb t) = Unit {0}
CameFromLoad _ = ⊥

-- where the last word of one list before a place that writes a register came from a load, it is that of the other too
abbrev pub SameLoad : List Word → List Word → Place → ℕ → Type 0
SameLoad ws vs q r =
    (w : Word) → IsLastWriter ws q r w → CameFromLoad w.act →
    (u : Word) × IsLastWriter vs q r u × (u.at ≡ w.at)

-- an op of a block takes its base from the high half at a place, with this displacement
abbrev pub TakesHigh : Block → Place → ℤ → Type 0
TakesHigh b hi z =
    (o : Op) × (i : Instr) × (r : ℕ) × Has (ops_of b) o × (o.kind ≡ op.UseLo i hi) × IsBaseUse r i z

-- the kept block b of the block s of the lifted graph
pub record IsBlockOf (p : ProgramView) (s : Shape) (b : Block) : Type 0 where
  pub label : b.label ≡ s.label
  pub opening : b.opening ≡ s.opening
  pub words : AreKept p (shape_words s) (shape_words s) (block_words b)
  pub falls : s.last ≡ last.Fall → b.last ≡ last.Fall
  pub off : s.last ≡ last.Off → b.last ≡ last.Off
  -- what a word as it stands reads comes from the same load among the words of the program and among the kept ones
  pub same_load :
      (user : Word) (i : Instr) (r : ℕ) → Has (block_words b) user → user.act ≡ Plain i →
      Among (act_reads user.act) r → (r ≡ 31 → ⊥) →
      SameLoad (shape_words s) (block_words b) user.at r × SameLoad (block_words b) (shape_words s) user.at r
  -- the load of a byte use as it stands is kept as it stands
  pub byte_load :
      (load user : Word) (r rb x : ℕ) (region : Region) (i : Instr) → IsLocalUse (shape_words s) load user r →
      load.act ≡ Lit r rb (target.Ptr region x) → user.act ≡ Plain i → IsByteUse r i → Has (block_words b) user →
      Has (block_words b) load
  -- a load that became LDAH has the least displacement of its uses
  pub least :
      (o : Op) (ra rb : ℕ) (t : Target) (z : ℤ) → Has (ops_of b) o → o.kind ≡ op.AddrHi ra rb t z →
      TakesHigh b o.place z × ((y : ℤ) → TakesHigh b o.place y → z ≤ℤ y)

-- ---- the graph

-- the kept loads of the objects of a table have few targets
abbrev pub HasFewTargets : GraphView → ℕ → Type 0
HasFewTargets g t =
    (ts : List Target) × (length ts ≤ slot_limit)
    × ((b : Block) (o : Op) (ra rb : ℕ) (x : Target) → Has g.blocks b → Has (ops_of b) o →
    table_of g b.label.obj ≡ t → o.kind ≡ op.Lit ra rb x → Has ts x)

pub record IsGraphOf (p : ProgramView) (g : GraphView) : Type 0 where
  pub graph : IsGraph g
  pub counts : g.counts ≡ map (λ text. length text) p.texts
  pub roots : g.roots ≡ program_roots p
  pub labels : g.labels ≡ map (λ s. s.label) (lifted_shapes p)
  pub blocks : (b : Block) → Has g.blocks b → (s : Shape) × Has (lifted_shapes p) s × IsBlockOf p s b
  pub form : InForm g
  pub tables : (o t : ℕ) → slice_get g.tables o ≡ Some t → t < length g.counts
  pub slots : (t : ℕ) → HasFewTargets g t
