-- What each sentence is answered with.
use Rattle.std.specs.Prelude.{◌⊎◌, ℕ, List, Option, Some, None, codes}
use Rattle.om_words.specs.Meaning.{Meaning, Link, Exec, Run, Sim, Listing, meaning}
use Rattle.om_words.specs.Sentences.{wrong_place}
use Rattle.om_command.specs.ExecAnswers.{ExecAnswers}
use Rattle.om_command.specs.LinkAnswers.{LinkAnswers}
use Rattle.om_command.specs.ListAnswers.{ListAnswers}
use Rattle.om_command.specs.RunAnswers.{RunAnswers}
use Rattle.om_command.specs.SimAnswers.{SimAnswers}
use Rattle.om_command.specs.Telling.{IsSaid, usage_line}
use Rattle.om_command.specs.World.{World, IsUntouched}

-- a line is told, and nothing else is done
pub record OnlySays (code : ℕ) (line : List ℕ) (old new : World) (status : ℕ) : Type 0 where
  pub said : IsSaid code line status old.err new.err
  pub untouched : IsUntouched old new

-- a command that is not built yet
abbrev pub NotYet : World → World → ℕ → Type 0
NotYet old new status = OnlySays 2 (codes "not yet\n") old new status

abbrev pub MeaningAnswers : Meaning → World → World → ℕ → Type 0
MeaningAnswers (Link at out files) old new status = LinkAnswers at out files old new status
MeaningAnswers (Exec at steps files) old new status = ExecAnswers at steps files old new status
MeaningAnswers (Run steps image) old new status = RunAnswers steps image old new status
MeaningAnswers (Sim steps files) old new status = SimAnswers steps files old new status
MeaningAnswers (Listing image) old new status = ListAnswers image old new status
MeaningAnswers _ old new status = NotYet old new status

-- words that ask for something: it is done, or memory runs out before anything is
-- words that ask for nothing: their first wrong place is told
abbrev pub AnswersTo : Option Meaning → ℕ → World → World → ℕ → Type 0
AnswersTo None place old new status = OnlySays 2 (usage_line place) old new status
AnswersTo (Some asked) place old new status = OnlySays 8 (codes "no memory\n") old new status ⊎ MeaningAnswers asked old new status

abbrev pub Answers : List (List ℕ) → World → World → ℕ → Type 0
Answers words old new status = AnswersTo (meaning words) (wrong_place words) old new status
