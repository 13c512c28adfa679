-- The run of an image is alike with the run of a script, step by step.
use Rattle.std.specs.Prelude.{◌≡◌, ℕ, ◌<◌, Bool, IsTrue, List, Option, Some, None, slice_index}
use Rattle.om_value.specs.declared.value.Place.{Place}
use Rattle.om_value.specs.declared.value.Region.{Region}
use Rattle.om_value.specs.declared.value.Region.TheVariants.{Stack}
use Rattle.om_value.specs.declared.value.Value.TheVariants.{Code}
use Rattle.om_prog.specs.Act.{Script, Word}
use Rattle.om_prog.specs.Within.{CellWithin, ActWithin}
use Rattle.om_prog.specs.Flow.{GoesTo}
use Rattle.om_prog.specs.Step.{SymState, SymEnd, ExitedWith, TrappedAt, read_reg, sized}
use Rattle.om_prog.specs.Runs.{sym_run, is_clean}
use Rattle.om_image.specs.declared.image.Image.{Image}
use Rattle.om_image.specs.NumState.{stack_base, NumState, NumEnd, Exited, Trapped}
use Rattle.om_image.specs.NumRun.{num_run}
use Rattle.om_image.specs.NumStep.{start_memory}
use Rattle.om_lockstep.specs.Addresses.{Addresses, IsCell}
use Rattle.om_lockstep.specs.Goes.{MemoryAlike}
use Rattle.om_lockstep.specs.Forms.{IsEncoded}

-- both have not ended, or both have, in the same way and place
abbrev pub EndAlike : Addresses → Option SymEnd → Option NumEnd → Type 0
EndAlike l None None = Unit {0}
EndAlike l (Some (ExitedWith a)) (Some (Exited b)) = a ≡ b
EndAlike l (Some (TrappedAt k p)) (Some (Trapped m a)) = (k ≡ m) × (a ≡ l.code p)
EndAlike l _ _ = ⊥

pub record Alike (l : Addresses) (s : SymState) (t : NumState) : Type 0 where
  pub input : t.input ≡ s.input
  pub out : t.out ≡ s.out
  pub err : t.err ≡ s.err
  pub ended : EndAlike l s.ended t.end

-- the image's start is that of the script
pub record StartsAlike (c : Script) (l : Addresses) (i : Image) : Type 0 where
  pub entry : i.entry ≡ l.code c.entry
  pub gp : i.gp ≡ l.gp (c.table c.entry.obj)
  pub stack : l.region Stack ≡ stack_base
  pub cells : (r : Region) (x : ℕ) → IsCell l (c.cells r x)
  pub memory : MemoryAlike l (sized c.sizes 0) c.cells (start_memory i)

-- codes in registers are places of K, and the place is one of G, all along
pub record KeepsCodes (c : Script) (K G : Place → Type 0) (input : List ℕ) : Type 0 where
  pub places : (n : ℕ) → (sym_run c input n).ended ≡ None → G (sym_run c input n).place
  pub holds : (n r : ℕ) (q : Place) → read_reg (sym_run c input n).regs r ≡ Code q → K q

abbrev pub AreBytes : List ℕ → Type 0
AreBytes xs = (k : ℕ) → slice_index xs k < 256

abbrev pub InLockstep : Script → Addresses → Image → List ℕ → Type 0
InLockstep c l i input =
    (n : ℕ) → IsTrue (is_clean c input n) → Alike l (sym_run c input n) (num_run i input n)

-- what the encoder's checks are for
abbrev pub EncodedScriptsRunInLockstep : Type 0
EncodedScriptsRunInLockstep =
    (c : Script) (l : Addresses) (i : Image) (lands comes : Place → Bool) → IsEncoded c l i (λ q. IsTrue (lands q)) (λ q. IsTrue (comes q)) → StartsAlike c l i
    → (input : List ℕ) → AreBytes input → KeepsCodes c (λ q. IsTrue (lands q)) (λ q. IsTrue (comes q)) input → InLockstep c l i input

-- what a script has so that codes stay places of K and runs stay in G
pub record HasCodes (c : Script) (K G : Place → Type 0) : Type 0 where
  pub entry : K c.entry
  pub begins : G c.entry
  pub cells : (r : Region) (x : ℕ) → CellWithin K (c.cells r x)
  pub words : (q : Place) (w : Word) → G q → c.fetch q ≡ Some w → ActWithin K w.at w.act
  pub goes : (q : Place) (w : Word) (n : Place) → G q → c.fetch q ≡ Some w → GoesTo K w n → G n

-- and then they do
abbrev pub CodesAreKept : Type 0
CodesAreKept =
    (c : Script) (lands comes : Place → Bool) → HasCodes c (λ q. IsTrue (lands q)) (λ q. IsTrue (comes q)) → (input : List ℕ) →
    KeepsCodes c (λ q. IsTrue (lands q)) (λ q. IsTrue (comes q)) input
