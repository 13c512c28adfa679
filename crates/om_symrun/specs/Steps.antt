-- What a step, and what a run of steps, leaves of the machine and of the streams.
use Rattle.std.specs.Prelude.{◌≡◌, ◌<◌, ℕ, zero, suc, Option, Some, None, option_map, List}
use Rattle.om_isa.specs.SystemCall.{Call}
use Rattle.om_isa.specs.Effect.{Calls}
use Rattle.om_isa.specs.declared.instr.Instr.TheVariants as instr
use Rattle.om_value.specs.declared.value.Value.{Value}
use Rattle.om_prog.specs.Act.{Word, Script, Plain}
use Rattle.om_prog.specs.Runs.{sym_step}
use Rattle.om_prog.specs.Step.{SymState, SymEnd, ExitedWith, TrappedAt, ObservedAt, SymEffect, act_effect}
use Rattle.om_symrun.specs.View.{View, view_script}
use Rattle.om_symrun.specs.Streams.{Told}
use Rattle.om_symrun.specs.Calls.{IsState, FailsToTake, FailsToPut}
use Rattle.om_symrun.specs.declared.machine.SymStep.{SymStep}
use Rattle.om_symrun.specs.declared.machine.SymStep.TheVariants as step

-- the state n steps after a state
unfoldable pub sym_steps : Script → SymState → ℕ → SymState
sym_steps c s zero = s
sym_steps c s (suc n) = sym_step c (sym_steps c s n)

-- what a word does in a state
abbrev pub word_effect : Script → SymState → Word → SymEffect
word_effect c s w = act_effect c s w.at w.act

-- the next step of a state is this system call, whose buffer is at a1
pub record IsAtCall (c : Script) (s : SymState) (call : Call) (a1 : Value) : Type 0 where
  pub running : s.ended ≡ None
  pub effect : option_map (word_effect c s) (c.fetch s.place) ≡ Some (Calls call a1)

-- the next word of the machine is a system call
pub record IsCallNext (v : View) : Type 0 where
  pub running : v.end ≡ None
  pub callsys :
      (view_script v).fetch v.place ≡ Some (record { at = v.place; act = Plain instr.Callsys })

-- a read failed in the step of this state
pub record FailsAtRead (c : Script) (s : SymState) (v : View) (left : Option (List ℕ)) (out err : Told) : Type 0 where
  pub call : Call
  pub a1 : Value
  pub at : IsAtCall c s call a1
  pub fails : FailsToTake call a1 s v left out err

-- a put failed in the step of this state
pub record FailsAtWrite (c : Script) (s : SymState) (v : View) (left : Option (List ℕ)) (out err : Told) : Type 0 where
  pub call : Call
  pub a1 : Value
  pub at : IsAtCall c s call a1
  pub fails : FailsToPut call s v left out err

-- what is answered of a state that has ended like this
abbrev pub IsAnswerOf : SymStep → Option SymEnd → Type 0
IsAnswerOf (step.Exit status) end = end ≡ Some (ExitedWith status)
IsAnswerOf (step.Trap kind at) end = end ≡ Some (TrappedAt kind at)
IsAnswerOf (step.Observes at) end = end ≡ Some (ObservedAt at)
IsAnswerOf _ end = end ≡ None

-- the machine is in a state, which is the one answered
pub record Arrives (answer : SymStep) (t : SymState) (v : View) (left : Option (List ℕ)) (out err : Told) : Type 0 where
  pub answer_is : IsAnswerOf answer t.ended
  pub state : IsState v left out err t

-- a step from a state: to the definition's next state, or a fault, or, where memory ran out, nowhere
abbrev pub StepsTo : Script → SymStep → SymState → View → Option (List ℕ) → Told → Told → Type 0
StepsTo c step.ReadFault s v left out err = FailsAtRead c s v left out err
StepsTo c step.WriteFault s v left out err = FailsAtWrite c s v left out err
StepsTo c step.NoMemory s v left out err = Arrives step.NoMemory s v left out err
StepsTo c answer s v left out err = Arrives answer (sym_step c s) v left out err

-- one of n steps from a state failed, and those before it did not
pub record FailsReading (c : Script) (n : ℕ) (s : SymState) (v : View) (left : Option (List ℕ)) (out err : Told) : Type 0 where
  pub taken : ℕ
  pub before : taken < n
  pub fails : FailsAtRead c (sym_steps c s taken) v left out err

pub record FailsWriting (c : Script) (n : ℕ) (s : SymState) (v : View) (left : Option (List ℕ)) (out err : Told) : Type 0 where
  pub taken : ℕ
  pub before : taken < n
  pub fails : FailsAtWrite c (sym_steps c s taken) v left out err

-- memory ran out in one of n steps from a state, and the machine is where the steps before it led
pub record WantsMemory (c : Script) (n : ℕ) (s : SymState) (v : View) (left : Option (List ℕ)) (out err : Told) : Type 0 where
  pub taken : ℕ
  pub before : taken < n
  pub arrives : Arrives step.NoMemory (sym_steps c s taken) v left out err

-- n steps from a state: to the definition's state after n steps, or a fault or want of memory in one of them
abbrev pub RunsTo : Script → ℕ → SymStep → SymState → View → Option (List ℕ) → Told → Told → Type 0
RunsTo c n step.ReadFault s v left out err = FailsReading c n s v left out err
RunsTo c n step.WriteFault s v left out err = FailsWriting c n s v left out err
RunsTo c n step.NoMemory s v left out err = WantsMemory c n s v left out err
RunsTo c n answer s v left out err = Arrives answer (sym_steps c s n) v left out err
