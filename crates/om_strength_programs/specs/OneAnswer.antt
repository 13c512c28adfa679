-- Contracts that allow one answer.
use Rattle.std.specs.Prelude.{◌≡◌, ◌⊎◌, ℕ, Option, List, map, Result, Err}
use Rattle.om_prog.specs.declared.errors.ProgErr.{ProgErr}
use Rattle.om_prog.specs.declared.errors.ProgErr.TheVariants as prog
use Rattle.om_prog.specs.Act.{Script}
use Rattle.om_prog.specs.Made.{MakesProgram}
use Rattle.om_prog.specs.Step.{SymState}
use Rattle.om_prog.specs.View.{ProgramView}
use Rattle.om_graph.specs.Lifted.{IsLifted}
use Rattle.om_graph.specs.View.{GraphView, shape_of}
use Rattle.om_object.specs.declared.parts.Parts.{Parts}
use Rattle.om_resolve.specs.declared.causes.ResolveErr.{ResolveErr}
use Rattle.om_resolve.specs.declared.causes.ResolveErr.TheVariants as resolving
use Rattle.om_resolve.specs.Program.{Resolves}
use Rattle.om_symrun.specs.Steps.{RunsTo, sym_steps}
use Rattle.om_symrun.specs.Streams.{Told}
use Rattle.om_symrun.specs.View.{View, state_of}
use Rattle.om_symrun.specs.declared.machine.SymStep.{SymStep}
use Rattle.om_symrun.specs.declared.machine.SymStep.TheVariants as step

-- two results are the same, or memory ran out in one of them
abbrev pub IsSame : {A E : Type 0} → E → Result A E → Result A E → Type 0
IsSame wants r q = (r ≡ q) ⊎ ((r ≡ Err wants) ⊎ (q ≡ Err wants))

pub record OneProgram : Type 0 where
  pub same : (v : ProgramView) (r q : Result ProgramView ProgErr) → MakesProgram v r →
      MakesProgram v q → IsSame prog.NoMemory r q

pub record OneResolution : Type 0 where
  pub same : (objects : List Parts) (r q : Result ProgramView ResolveErr) → Resolves objects r →
      Resolves objects q → IsSame resolving.NoMemory r q

-- two graphs of the same words, but for the numbers of blocks and ops
pub record IsLike (g h : GraphView) : Type 0 where
  pub counts : g.counts ≡ h.counts
  pub roots : g.roots ≡ h.roots
  pub tables : g.tables ≡ h.tables
  pub blocks : map shape_of g.blocks ≡ map shape_of h.blocks
  pub touched : g.touched ≡ h.touched

pub record OneLift : Type 0 where
  pub same : (p : ProgramView) (g h : GraphView) → IsLifted p g → IsLifted p h → IsLike g h

-- an answer that tells of no fault and no want of memory
abbrev pub IsDone : SymStep → Type 0
IsDone step.ReadFault = ⊥
IsDone step.WriteFault = ⊥
IsDone step.NoMemory = ⊥
IsDone _ = Unit {0}

-- two answers are equal, and two machines are in one state
pub record AreOneRun (a b : SymStep) (t : SymState) (v w : View) : Type 0 where
  pub answer : a ≡ b
  pub machine : state_of v t.input t.out t.err ≡ state_of w t.input t.out t.err

-- what a run from a state answers after n steps is the same, and so is the machine's state, whatever the streams are
pub record OneRun : Type 0 where
  pub same : (c : Script) (n : ℕ) (s : SymState) (a b : SymStep) (v w : View) (left rest : Option (List ℕ))
      (out err other_out other_err : Told) → IsDone a → IsDone b → RunsTo c n a s v left out err →
      RunsTo c n b s w rest other_out other_err → AreOneRun a b (sym_steps c s n) v w
