-- What an image writes and how it ends, against the run of a program. The image may run fewer steps: those of words that
-- were left out are not counted.
use Rattle.std.specs.Prelude.{◌≡◌, ℕ, suc, ◌+◌, ◌*◌, ◌<◌, ◌≤◌, IsTrue, List, ◌++◌, length, sum, None}
use Rattle.om_prog.specs.Act.{Script}
use Rattle.om_prog.specs.View.{ProgramView}
use Rattle.om_prog.specs.Script.{program_script}
use Rattle.om_prog.specs.Runs.{sym_run, is_clean, Alike as SymAlike}
use Rattle.om_prog.specs.Valid.{IsProgram}
use Rattle.om_graph.specs.View.{GraphView}
use Rattle.om_graph.specs.Run.{graph_script}
use Rattle.om_graph.specs.Kept.{KeptInBlocks}
use Rattle.om_graph.specs.LeftIn.{left_in, Keeps}
use Rattle.om_graph.specs.Lifted.{IsLifted}
use Rattle.om_graph.specs.OfProgram.{IsGraphOf}
use Rattle.om_image.specs.declared.image.Image.{Image}
use Rattle.om_image.specs.NumRun.{num_run}
use Rattle.om_image.specs.Valid.{IsValidImage}
use Rattle.om_lockstep.specs.Addresses.{Addresses}
use Rattle.om_lockstep.specs.Lockstep.{Alike, AreBytes, InLockstep}
use Rattle.om_layout.specs.Layout.{LayoutView}
use Rattle.om_encode.specs.Halves.{addresses_of}
use Rattle.om_encode.specs.TrueMap.{IsTrueMap}

-- some bytes begin with others
abbrev pub IsPrefix : List ℕ → List ℕ → Type 0
IsPrefix xs ys = (rest : List ℕ) × (ys ≡ xs ++ rest)

-- after the counted ones of the script's steps the image's run is alike; and of `words` + 1 steps in a row of a run that
-- has not ended at least one is counted
pub record AlikeAtCounted (c : Script) (l : Addresses) (i : Image) (input : List ℕ) (words : ℕ) (counted : ℕ → ℕ) : Type 0 where
  pub fewer : (n : ℕ) → counted n ≤ n
  pub alike : (n : ℕ) → IsTrue (is_clean c input n) → Alike l (sym_run c input n) (num_run i input (counted n))
  pub one_of : (n : ℕ) → (sym_run c input (n + suc words)).ended ≡ None → counted n < counted (n + suc words)

-- what is promised of an image against a script
pub record Headline (c : Script) (l : Addresses) (i : Image) (input : List ℕ) (words : ℕ) : Type 0 where
  -- the image's n steps write at least what the script writes in n steps without observing an address
  pub out : (n : ℕ) → IsTrue (is_clean c input n) → IsPrefix (sym_run c input n).out (num_run i input n).out
  pub err : (n : ℕ) → IsTrue (is_clean c input n) → IsPrefix (sym_run c input n).err (num_run i input n).err
  -- they end as it ends if it has ended
  pub ends :
      (n : ℕ) → IsTrue (is_clean c input n) → ((sym_run c input n).ended ≡ None → ⊥) →
      Alike l (sym_run c input n) (num_run i input n)
  -- and where they have ended, the script has ended or observed so many steps on
  pub only :
      (m : ℕ) → ((num_run i input m).end ≡ None → ⊥) → (sym_run c input (suc m * suc words)).ended ≡ None → ⊥

-- ---- the laws

abbrev pub CountedGivesHeadline : Type 0
CountedGivesHeadline =
    (c : Script) (l : Addresses) (i : Image) (input : List ℕ) (words : ℕ) (counted : ℕ → ℕ) →
    AlikeAtCounted c l i input words counted → Headline c l i input words

-- where the image runs in lockstep each step is counted
abbrev pub LockstepGivesHeadline : Type 0
LockstepGivesHeadline =
    (c : Script) (l : Addresses) (i : Image) (input : List ℕ) (words : ℕ) → InLockstep c l i input →
    Headline c l i input words

-- a script's run follows another's at counted steps
pub record Follows (c d : Script) (input : List ℕ) (words : ℕ) (counted : ℕ → ℕ) : Type 0 where
  pub fewer : (n : ℕ) → counted n ≤ n
  pub alike : (n : ℕ) → IsTrue (is_clean c input n) → SymAlike (sym_run c input n) (sym_run d input (counted n))
  pub one_of : (n : ℕ) → (sym_run c input (n + suc words)).ended ≡ None → counted n < counted (n + suc words)

-- what rewriting gives and what the encoder gives, together
abbrev pub FollowsAndRuns : Type 0
FollowsAndRuns =
    (c d : Script) (l : Addresses) (i : Image) (input : List ℕ) (words : ℕ) (counted : ℕ → ℕ) →
    Follows c d input words counted → InLockstep d l i input → AlikeAtCounted c l i input words counted

-- ---- programs and their images

-- an image whose map is true of a graph that keeps the meaning of the lifted one
pub record IsRewritten (p : ProgramView) (lifted g : GraphView) (l : LayoutView) (i : Image) : Type 0 where
  pub program : IsProgram p
  pub origin : IsLifted p lifted
  pub keeps : Keeps p lifted g
  pub graph : IsGraphOf p g
  pub kept : KeptInBlocks g
  pub map : IsTrueMap p g l i
  pub valid : IsValidImage i

-- its run and the program's are alike at the steps that the graph leaves in, and so keep the promise
pub record RunsAsLeftIn (p : ProgramView) (lifted g : GraphView) (l : LayoutView) (i : Image) (input : List ℕ) : Type 0 where
  pub counted :
      AlikeAtCounted (program_script p) (addresses_of p g l) i input (sum lifted.counts)
      (λ n. length (left_in g (graph_script p lifted) input n))
  pub headline : Headline (program_script p) (addresses_of p g l) i input (sum lifted.counts)

abbrev pub LinkedImagesRun : Type 0
LinkedImagesRun =
    (p : ProgramView) (lifted g : GraphView) (l : LayoutView) (i : Image) → IsRewritten p lifted g l i →
    (input : List ℕ) → AreBytes input → RunsAsLeftIn p lifted g l i input
