-- Laws of runs: from the start they are steps, and they only ever add to what was written.
use Rattle.std.specs.Prelude.{◌≡◌, ◌≤◌, ℕ, List}
use Rattle.om_io.specs.Outside.{IsFrontOf}
use Rattle.om_prog.specs.Act.{Script}
use Rattle.om_prog.specs.Runs.{sym_run, sym_start}
use Rattle.om_prog.specs.Step.{SymState}
use Rattle.om_symrun.specs.Steps.{sym_steps}

-- a run is the steps that follow its start
pub record RunsAreSteps : Type 0 where
  pub same : (c : Script) (input : List ℕ) (n : ℕ) → sym_run c input n ≡ sym_steps c (sym_start c input) n

-- what was written at a state is a front of what is written at a later one
pub record OnlyWrites (s t : SymState) : Type 0 where
  pub out : IsFrontOf s.out t.out
  pub err : IsFrontOf s.err t.err

-- from every state over every script
pub record RunsOnlyWrite : Type 0 where
  pub later : (c : Script) (s : SymState) (k n : ℕ) → k ≤ n → OnlyWrites (sym_steps c s k) (sym_steps c s n)
