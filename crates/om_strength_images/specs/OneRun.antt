-- What a run answers is one thing, but for faults.
use Rattle.std.specs.Prelude.{◌≡◌, ℕ, List, Option}
use Rattle.om_image.specs.declared.image.Image.{Image}
use Rattle.om_image.specs.NumState.{NumState}
use Rattle.om_image.specs.NumRun.{num_steps}
use Rattle.om_machine.specs.Steps.{RunsTo}
use Rattle.om_machine.specs.Streams.{Told}
use Rattle.om_machine.specs.View.{View, state_of}
use Rattle.om_machine.specs.declared.machine.Step.{Step}
use Rattle.om_machine.specs.declared.machine.Step.TheVariants as step

abbrev pub IsNoFault : Step → Type 0
IsNoFault step.Went = Unit {0}
IsNoFault (step.Exit status) = Unit {0}
IsNoFault (step.Trap kind at) = Unit {0}
IsNoFault step.ReadFault = ⊥
IsNoFault step.WriteFault = ⊥

-- two answers are equal, and two machines are in one state
pub record AreOneRun (a b : Step) (t : NumState) (v w : View) : Type 0 where
  pub answer : a ≡ b
  pub machine : state_of v t.input t.out t.err ≡ state_of w t.input t.out t.err

abbrev pub RunsAreOne : Type 0
RunsAreOne =
    (i : Image) (n : ℕ) (s : NumState) (a b : Step) (v w : View) (left more : Option (List ℕ)) (out err out_too err_too : Told) →
    IsNoFault a → IsNoFault b → RunsTo i n a s v left out err → RunsTo i n b s w more out_too err_too →
    AreOneRun a b (num_steps i s n) v w
