-- What rewriting keeps beside that the graph is of the program: the base of a use over a global
-- pointer is still that of its load, and no half of a closed pair stands alone.
use Rattle.std.specs.Prelude.{◌≡◌, ◌⊎◌, ℕ, true, List}
use Rattle.om_isa.specs.declared.instr.Instr.{Instr}
use Rattle.om_value.specs.declared.value.Place.{Place}
use Rattle.om_value.specs.declared.value.Target.{Target}
use Rattle.om_prog.specs.Act.{Act, Lit, GpHi, GpLo, AddrLda, AddrHi, UseGp, Word, act_writes}
use Rattle.om_prog.specs.Flow.{Among}
use Rattle.om_prog.specs.View.{ProgramView}
use Rattle.om_graph.specs.View.{Block, Shape, GraphView, Has, place_lt}
use Rattle.om_graph.specs.Run.{words, block_words, shape_words}
use Rattle.om_graph.specs.LeftIn.{is_kept}
use Rattle.om_graph.specs.Lifted.{lifted_shapes}
use Rattle.om_graph.specs.OfProgram.{IsFollowed}
use Rattle.om_graph.specs.Uses.{Between, NoneReads, NoneWrites, IsLocalUse, IsTextsLast}
use Rattle.om_graph.specs.Walks.{IsDeadAfter}

-- the two halves of a pair of r29 in a block of the program, the high half first, with no other
-- word of the program between that reads or writes r29, and neither the last word of its text
pub record IsClosedIn (p : ProgramView) (s : Shape) (hi lo : Place) : Type 0 where
  pub rb : ℕ
  pub base : Place
  pub mid : List Word
  pub stands :
      Between (shape_words s)
      (record { at = hi; act = GpHi 29 rb base }) mid (record { at = lo; act = GpLo 29 29 hi })
  pub unread : NoneReads 29 mid
  pub unwritten : NoneWrites 29 mid
  pub high_stays : IsFollowed p hi
  pub low_stays : IsFollowed p lo

-- a word that uses a global pointer came from a use of a load over that register, and no word that
-- is kept between the load's place and its own writes it; r31 is never written
pub record HasStandingBase (s : Shape) (b : Block) (at : Place) (gp : ℕ) : Type 0 where
  pub load : Word
  pub user : Word
  pub reg : ℕ
  pub target : Target
  pub local : IsLocalUse (shape_words s) load user reg
  pub place : user.at ≡ at
  pub loads : load.act ≡ Lit reg gp target
  pub unwritten :
      (gp ≡ 31 → ⊥) → (v : Word) → Has (block_words b) v → place_lt load.at v.at ≡ true →
      place_lt v.at at ≡ true → Among (act_writes v.act) gp → ⊥

-- a load into r31 that became LDA or LDAH: it gives nothing, but it reads its base
abbrev pub IsIdle : Act → Type 0
IsIdle (AddrLda ra rb t) = ra ≡ 31
IsIdle (AddrHi ra rb t) = ra ≡ 31
IsIdle _ = ⊥

pub record BasesStand (p : ProgramView) (g : GraphView) : Type 0 where
  pub uses :
      (b : Block) (s : Shape) (w : Word) (i : Instr) (gp : ℕ) (t : Target) → Has g.blocks b →
      Has (lifted_shapes p) s → b.label ≡ s.label → Has (block_words b) w → w.act ≡ UseGp i gp t →
      HasStandingBase s b w.at gp
  -- only at the end of a text does a load into r31 become such
  pub idle :
      (b : Block) (w : Word) → Has g.blocks b → Has (block_words b) w → IsIdle w.act →
      IsTextsLast g w.at

-- of a closed pair of the program both halves are kept, or none
pub record PairsWhole (p : ProgramView) (g : GraphView) : Type 0 where
  pub low :
      (s : Shape) (hi lo : Place) → Has (lifted_shapes p) s → IsClosedIn p s hi lo →
      is_kept g lo ≡ true → is_kept g hi ≡ true
  pub high :
      (s : Shape) (hi lo : Place) → Has (lifted_shapes p) s → IsClosedIn p s hi lo →
      is_kept g hi ≡ true → is_kept g lo ≡ true

-- while dead words are deleted a high half may stand alone where it is dead, a low half never
pub record PairsStand (p : ProgramView) (g : GraphView) : Type 0 where
  pub low :
      (s : Shape) (hi lo : Place) → Has (lifted_shapes p) s → IsClosedIn p s hi lo →
      is_kept g lo ≡ true → is_kept g hi ≡ true
  pub high :
      (s : Shape) (hi lo : Place) (w : Word) → Has (lifted_shapes p) s → IsClosedIn p s hi lo →
      Has (words g) w → w.at ≡ hi → (is_kept g lo ≡ true) ⊎ IsDeadAfter g 29 w
