-- Steps of rewriting, by what they leave of the words of a graph, and what they keep beside that
-- the graph is of the program.
use Rattle.std.specs.Prelude.{◌≡◌, ◌⊎◌, ℕ, Bool, true, if◌then◌else◌, Option, Some, None}
use Rattle.om_isa.specs.declared.instr.Instr.{Instr}
use Rattle.om_value.specs.declared.value.Place.{Place}
use Rattle.om_value.specs.declared.value.Region.{Region}
use Rattle.om_value.specs.declared.value.Target.{Target}
use Rattle.om_value.specs.declared.value.Target.TheVariants as target
use Rattle.om_prog.specs.Act.{Plain, Lit, AddrLda, UseGp, Word, act_writes}
use Rattle.om_prog.specs.Flow.{Among}
use Rattle.om_prog.specs.View.{ProgramView}
use Rattle.om_prog.specs.Valid.{IsProgram}
use Rattle.om_graph.specs.View.{Block, Shape, GraphView, Has}
use Rattle.om_graph.specs.Run.{words, block_words}
use Rattle.om_graph.specs.Form.{is_address}
use Rattle.om_graph.specs.Kept.{IsBlock, IsEnd, IsKeptLanding}
use Rattle.om_graph.specs.LeftIn.{is_kept}
use Rattle.om_graph.specs.Lifted.{lifted_shapes, IsLifted}
use Rattle.om_graph.specs.OfProgram.{IsGraphOf}
use Rattle.om_graph.specs.Rewritten.{each_word}
use Rattle.om_graph.specs.Uses.{IsTextsLast, IsClosedPair, IsLocalUse, Unwritten}
use Rattle.om_graph.specs.Walks.{IsDeadAfter}
use Rattle.om_passes.specs.AtPlaces.{gone_at}
use Rattle.om_graph.specs.Left.{NoDeadWord, AreExactMasks}
use Rattle.om_graph.specs.Stands.{HasStandingBase, IsIdle, BasesStand, PairsWhole, PairsStand}

-- ---- any step

-- no word comes back; a word that comes to use a global pointer has a standing base in the old
-- graph, and one that comes to do nothing but read its base ends its text
pub record GainsStand (p : ProgramView) (old new : GraphView) : Type 0 where
  pub fewer : (q : Place) → is_kept new q ≡ true → is_kept old q ≡ true
  -- a word that uses a global pointer was there, or its base stands
  pub uses :
      (n : Block) (v : Word) (i : Instr) (gp : ℕ) (t : Target) → Has new.blocks n →
      Has (block_words n) v → v.act ≡ UseGp i gp t → Has (words old) v
      ⊎ ((b : Block) (s : Shape) → Has old.blocks b → Has (lifted_shapes p) s →
      b.label ≡ s.label → n.label ≡ s.label → HasStandingBase s b v.at gp)
  -- a load into r31 that is LDA or LDAH was there, or ends its text
  pub idle :
      (n : Block) (v : Word) → Has new.blocks n → Has (block_words n) v → IsIdle v.act →
      Has (words old) v ⊎ IsTextsLast old v.at

-- ---- words that are gone

abbrev pub IsLess : GraphView → GraphView → (Place → Type 0) → Type 0
IsLess old new Gone =
    ((q : Place) → is_kept new q ≡ true → (is_kept old q ≡ true) × (Gone q → ⊥))
    × ((q : Place) → is_kept old q ≡ true → (is_kept new q ≡ true) ⊎ Gone q)

-- the two halves of a closed pair
abbrev pub IsOneOf : Place → Place → Place → Type 0
IsOneOf hi lo q = (q ≡ hi) ⊎ (q ≡ lo)

-- the words of a block
abbrev pub IsIn : Block → Place → Type 0
IsIn b q = (w : Word) × Has (block_words b) w × (w.at ≡ q)

-- a dead word of a LITERAL load or a GPDISP is deleted
pub record DeletesDead (old new : GraphView) (x : Word) : Type 0 where
  -- an address word of the old graph, whose result no walk reads
  pub among : Has (words old) x
  pub address : is_address x.act ≡ true
  pub dead : (r : ℕ) → Among (act_writes x.act) r → IsDeadAfter old r x
  -- it alone is gone
  pub words : words new ≡ each_word (gone_at x.at) (words old)
  -- and no place, block or text's end comes in
  pub landings : (q : Place) → IsKeptLanding new q → IsKeptLanding old q
  pub blocks : (q : Place) → IsBlock new q → IsBlock old q
  pub ends : (q : Place) → IsEnd new q → IsEnd old q

-- what edits keep beside that the graph is of the program
pub record StepsKeep : Type 0 where
  -- what a pass tests of a base use gives the standing base
  pub gained :
      (p : ProgramView) (g : GraphView) (b : Block) (s : Shape) (load user : Word) (r gp x : ℕ)
      (region : Region) (i : Instr) → IsProgram p → IsGraphOf p g → Has g.blocks b →
      Has (lifted_shapes p) s → b.label ≡ s.label → (u : IsLocalUse (block_words b) load user r) →
      (load.act ≡ Lit r gp (target.Ptr region x))
      ⊎ (load.act ≡ AddrLda r gp (target.Ptr region x)) → user.act ≡ Plain i →
      Unwritten gp u.mid → HasStandingBase s b user.at gp
  pub bases :
      (p : ProgramView) (old new : GraphView) → IsProgram p → IsGraphOf p old → IsGraphOf p new →
      GainsStand p old new → BasesStand p old → BasesStand p new
  -- words that are changed in place
  pub same_places :
      (p : ProgramView) (old new : GraphView) → ((q : Place) → is_kept new q ≡ is_kept old q) →
      PairsWhole p old → PairsWhole p new
  -- a pair that is dropped, and a block
  pub dropped_pair :
      (p : ProgramView) (old new : GraphView) (b : Block) (hi lo : Place) → IsProgram p →
      IsGraphOf p old → Has old.blocks b → IsClosedPair old b hi lo →
      IsLess old new (IsOneOf hi lo) → PairsWhole p old → PairsWhole p new
  pub dropped_block :
      (p : ProgramView) (old new : GraphView) (b : Block) → IsProgram p → IsGraphOf p old →
      Has old.blocks b → IsLess old new (IsIn b) → PairsWhole p old → PairsWhole p new
  -- while dead words are deleted
  pub begun : (p : ProgramView) (g : GraphView) → PairsWhole p g → PairsStand p g
  pub deleted :
      (p : ProgramView) (old new : GraphView) (x : Word) → IsProgram p → IsGraphOf p old →
      BasesStand p old → DeletesDead old new x → PairsStand p old → PairsStand p new
  pub done :
      (p : ProgramView) (g : GraphView) (masks outs : Place → ℕ → Bool) → IsProgram p →
      IsGraphOf p g → AreExactMasks masks outs g → NoDeadWord outs g → PairsStand p g →
      PairsWhole p g

-- what rewriting keeps beside that the graph is of the program holds of the graph that a program is
-- lifted to
pub record LiftedStands : Type 0 where
  pub bases : (p : ProgramView) (g : GraphView) → IsProgram p → IsLifted p g → BasesStand p g
  pub pairs : (p : ProgramView) (g : GraphView) → IsProgram p → IsLifted p g → PairsWhole p g
