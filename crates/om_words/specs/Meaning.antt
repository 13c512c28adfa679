-- What sentences ask for, by the texts of their words.
use Rattle.std.specs.Prelude.{◌≡◌, ℕ, List, drop, get_or, [], Option, Some, None, option_map, Result, Ok, Err, string_bytes}
use Rattle.om_alpha.specs.declared.op.Level.{Level}
use Rattle.om_alpha.specs.declared.op.Level.TheVariants.{Plain, Full}
use Rattle.om_words.specs.Numerals.{number_said}
use Rattle.om_words.specs.Sentences.{form_of, wrong_place, texts}
use Rattle.om_words.specs.declared.form.Form.{Form}
use Rattle.om_words.specs.declared.form.Form.TheVariants as form
use Rattle.om_words.specs.declared.errors.WordsErr.{WordsErr}
use Rattle.om_words.specs.declared.errors.WordsErr.TheVariants.{Usage, NoMemory}
use Rattle.om_words.specs.declared.command.Command.{Command}
use Rattle.om_words.specs.declared.command.Command.TheVariants as command

-- a command with the texts of its names, a number of steps being the most that a run may take
pub data Meaning : Type 0 where
  Link : (level : Level) (out : List ℕ) (files : List (List ℕ)) → Meaning
  Exec : (level : Level) (steps : ℕ) (files : List (List ℕ)) → Meaning
  Run : (steps : ℕ) (image : List ℕ) → Meaning
  Sim : (steps : ℕ) (files : List (List ℕ)) → Meaning
  Listing : (image : List ℕ) → Meaning
  Gen : (seed : ℕ) → Meaning
  Asm : (out : List ℕ) (file : List ℕ) → Meaning
  Count : (steps : ℕ) (out : List ℕ) (image : List ℕ) → Meaning
  Place : (counts : List ℕ) (out : List ℕ) (files : List (List ℕ)) → Meaning

-- the steps of a run where the words name none
abbrev pub usual_steps : ℕ
usual_steps = 1000000000

-- the word at a place, counted from 0
abbrev pub word_at : List (List ℕ) → ℕ → List ℕ
word_at words k = get_or words k []

abbrev pub number_at : List (List ℕ) → ℕ → ℕ
number_at words k = number_said (word_at words k)

-- what words of a form ask for. Without `-O0` the level is the full one
abbrev pub meaning_by : Form → List (List ℕ) → Meaning
meaning_by form.LinkOut w = Link Full (word_at w 2) (drop 3 w)
meaning_by form.LinkPlainOut w = Link Plain (word_at w 3) (drop 4 w)
meaning_by form.LinkOutPlain w = Link Plain (word_at w 2) (drop 4 w)
meaning_by form.Exec w = Exec Full usual_steps (drop 1 w)
meaning_by form.ExecPlain w = Exec Plain usual_steps (drop 2 w)
meaning_by form.ExecSteps w = Exec Full (number_at w 2) (drop 3 w)
meaning_by form.ExecPlainSteps w = Exec Plain (number_at w 3) (drop 4 w)
meaning_by form.ExecStepsPlain w = Exec Plain (number_at w 2) (drop 4 w)
meaning_by form.Run w = Run usual_steps (word_at w 1)
meaning_by form.RunSteps w = Run (number_at w 2) (word_at w 3)
meaning_by form.Sim w = Sim usual_steps (drop 1 w)
meaning_by form.SimSteps w = Sim (number_at w 2) (drop 3 w)
meaning_by form.List w = Listing (word_at w 1)
meaning_by form.Gen w = Gen (number_at w 1)
meaning_by form.Asm w = Asm (word_at w 2) (word_at w 3)
meaning_by form.CountOut w = Count usual_steps (word_at w 2) (word_at w 3)
meaning_by form.CountStepsOut w = Count (number_at w 2) (word_at w 4) (word_at w 5)
meaning_by form.CountOutSteps w = Count (number_at w 4) (word_at w 2) (word_at w 5)
meaning_by form.PlaceCountsOut w = Place (word_at w 2) (word_at w 4) (drop 5 w)
meaning_by form.PlaceOutCounts w = Place (word_at w 4) (word_at w 2) (drop 5 w)

-- what words ask for; none where they are no sentence
abbrev pub meaning : List (List ℕ) → Option Meaning
meaning words = option_map (λ f. meaning_by f words) (form_of words)

-- what a command asks for
abbrev pub told : Command → Meaning
told (command.Link level out files) = Link level (string_bytes out) (texts files)
told (command.Exec level steps files) = Exec level steps (texts files)
told (command.Run steps image) = Run steps (string_bytes image)
told (command.Sim steps files) = Sim steps (texts files)
told (command.List image) = Listing (string_bytes image)
told (command.Gen seed) = Gen seed
told (command.Asm out file) = Asm (string_bytes out) (string_bytes file)
told (command.Count steps out image) = Count steps (string_bytes out) (string_bytes image)
told (command.Place counts out files) = Place (string_bytes counts) (string_bytes out) (texts files)

-- the answer to words: the command that they ask for, or the place where they are wrong. Memory runs out only at a sentence
abbrev pub IsAnswer : List (List ℕ) → Result Command WordsErr → Type 0
IsAnswer words (Ok c) = meaning words ≡ Some (told c)
IsAnswer words (Err (Usage at)) = (meaning words ≡ None) × (at ≡ wrong_place words)
IsAnswer words (Err NoMemory) = (asked : Meaning) × (meaning words ≡ Some asked)
