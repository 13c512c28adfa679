-- What a step, and what a run of steps, leaves of the machine and of the streams.
use Rattle.std.specs.Prelude.{◌≡◌, ◌<◌, ℕ, Option, Some, None, option_map, List}
use Rattle.om_isa.specs.SystemCall.{Call}
use Rattle.om_isa.specs.Effect.{Calls}
use Rattle.om_isa.specs.declared.instr.Instr.TheVariants as instr
use Rattle.om_image.specs.declared.image.Image.{Image}
use Rattle.om_image.specs.NumState.{NumState, NumEnd, Exited, Trapped}
use Rattle.om_image.specs.NumStep.{num_step, fetched, effect_at}
use Rattle.om_image.specs.NumRun.{num_steps}
use Rattle.om_machine.specs.View.{View, instr_at}
use Rattle.om_machine.specs.Streams.{Told}
use Rattle.om_machine.specs.Calls.{IsState, FailsToTake, FailsToPut}
use Rattle.om_machine.specs.declared.machine.Step.{Step}
use Rattle.om_machine.specs.declared.machine.Step.TheVariants as step

-- the next step of a state is this system call, whose buffer is at a1
pub record IsAtCall (i : Image) (s : NumState) (call : Call) (a1 : ℕ) : Type 0 where
  pub running : s.end ≡ None
  pub effect : option_map (effect_at i s) (fetched i s) ≡ Some (Calls call a1)

-- the next instruction of the machine is a system call
pub record IsCallNext (v : View) : Type 0 where
  pub running : v.end ≡ None
  pub callsys : instr_at v.code v.pc ≡ Some instr.Callsys

-- a read failed in the step of this state
pub record FailsAtRead (i : Image) (s : NumState) (v : View) (left : Option (List ℕ)) (out err : Told) : Type 0 where
  pub call : Call
  pub a1 : ℕ
  pub at : IsAtCall i s call a1
  pub fails : FailsToTake call a1 s v left out err

-- a put failed in the step of this state
pub record FailsAtWrite (i : Image) (s : NumState) (v : View) (left : Option (List ℕ)) (out err : Told) : Type 0 where
  pub call : Call
  pub a1 : ℕ
  pub at : IsAtCall i s call a1
  pub fails : FailsToPut call s v left out err

-- what is answered of a state that has ended like this
abbrev pub IsAnswerOf : Step → Option NumEnd → Type 0
IsAnswerOf step.Went end = end ≡ None
IsAnswerOf (step.Exit status) end = end ≡ Some (Exited status)
IsAnswerOf (step.Trap kind at) end = end ≡ Some (Trapped kind at)
IsAnswerOf step.ReadFault end = end ≡ None
IsAnswerOf step.WriteFault end = end ≡ None

-- the machine is in a state, which is the one answered
pub record Arrives (answer : Step) (t : NumState) (v : View) (left : Option (List ℕ)) (out err : Told) : Type 0 where
  pub answer_is : IsAnswerOf answer t.end
  pub state : IsState v left out err t

-- a step from a state: to the definition's next state, or a fault
abbrev pub StepsTo : Image → Step → NumState → View → Option (List ℕ) → Told → Told → Type 0
StepsTo i step.ReadFault s v left out err = FailsAtRead i s v left out err
StepsTo i step.WriteFault s v left out err = FailsAtWrite i s v left out err
StepsTo i step.Went s v left out err = Arrives step.Went (num_step i s) v left out err
StepsTo i (step.Exit status) s v left out err = Arrives (step.Exit status) (num_step i s) v left out err
StepsTo i (step.Trap kind at) s v left out err = Arrives (step.Trap kind at) (num_step i s) v left out err

-- one of n steps from a state failed, and those before it did not
pub record FailsReading (i : Image) (n : ℕ) (s : NumState) (v : View) (left : Option (List ℕ)) (out err : Told) : Type 0 where
  pub taken : ℕ
  pub before : taken < n
  pub fails : FailsAtRead i (num_steps i s taken) v left out err

pub record FailsWriting (i : Image) (n : ℕ) (s : NumState) (v : View) (left : Option (List ℕ)) (out err : Told) : Type 0 where
  pub taken : ℕ
  pub before : taken < n
  pub fails : FailsAtWrite i (num_steps i s taken) v left out err

-- n steps from a state: to the definition's state after n steps, or a fault in one of them
abbrev pub RunsTo : Image → ℕ → Step → NumState → View → Option (List ℕ) → Told → Told → Type 0
RunsTo i n step.ReadFault s v left out err = FailsReading i n s v left out err
RunsTo i n step.WriteFault s v left out err = FailsWriting i n s v left out err
RunsTo i n step.Went s v left out err = Arrives step.Went (num_steps i s n) v left out err
RunsTo i n (step.Exit status) s v left out err =
    Arrives (step.Exit status) (num_steps i s n) v left out err
RunsTo i n (step.Trap kind at) s v left out err =
    Arrives (step.Trap kind at) (num_steps i s n) v left out err
