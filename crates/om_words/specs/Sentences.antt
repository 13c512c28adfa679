-- The sentences of the command line (this project's own grammar), as a table: for each form, what may stand at each place.
-- Options stand before the files, in any order, each at most once.
use Rattle.std.specs.Prelude.{ℕ, suc, ◌==◌, ◌&&◌, nat_le, nat_eq, max, not, Bool, true, false, List, [], ◌∷◌, map, length, slice_get, find, Option, Some, None, codes, if◌then◌else◌, String, string_bytes}
use Rattle.std.specs.declared.alloc.Global.{Global}
use Rattle.std.specs.Cmp.Lexicographic.{pointwise}
use Rattle.om_words.specs.Numerals.{is_number}
use Rattle.om_words.specs.declared.form.Keyword.{Keyword}
use Rattle.om_words.specs.declared.form.Keyword.TheVariants as word
use Rattle.om_words.specs.declared.form.Slot.{Slot}
use Rattle.om_words.specs.declared.form.Slot.TheVariants.{Says, Name, Number}
use Rattle.om_words.specs.declared.form.Form.{Form}
use Rattle.om_words.specs.declared.form.Form.TheVariants.{LinkOut, LinkPlainOut, LinkOutPlain, Exec, ExecPlain, ExecSteps, ExecPlainSteps, ExecStepsPlain, Run, RunSteps, Sim, SimSteps, List as Listing, Gen, Asm, CountOut, CountStepsOut, CountOutSteps, PlaceCountsOut, PlaceOutCounts}

-- the texts of words
abbrev pub texts : List (String Global) → List (List ℕ)
texts words = map string_bytes words

-- how a keyword is spelled
abbrev pub text_of : Keyword → List ℕ
text_of word.Link = codes "link"
text_of word.Exec = codes "exec"
text_of word.Run = codes "run"
text_of word.Sim = codes "sim"
text_of word.List = codes "list"
text_of word.Gen = codes "gen"
text_of word.Asm = codes "asm"
text_of word.Count = codes "count"
text_of word.Place = codes "place"
text_of word.Plain = codes "-O0"
text_of word.Steps = codes "-n"
text_of word.Out = codes "-o"
text_of word.Counts = codes "-c"

abbrev pub slots_of : Form → List Slot
slots_of LinkOut = Says word.Link ∷ Says word.Out ∷ Name ∷ Name ∷ []
slots_of LinkPlainOut = Says word.Link ∷ Says word.Plain ∷ Says word.Out ∷ Name ∷ Name ∷ []
slots_of LinkOutPlain = Says word.Link ∷ Says word.Out ∷ Name ∷ Says word.Plain ∷ Name ∷ []
slots_of Exec = Says word.Exec ∷ Name ∷ []
slots_of ExecPlain = Says word.Exec ∷ Says word.Plain ∷ Name ∷ []
slots_of ExecSteps = Says word.Exec ∷ Says word.Steps ∷ Number ∷ Name ∷ []
slots_of ExecPlainSteps = Says word.Exec ∷ Says word.Plain ∷ Says word.Steps ∷ Number ∷ Name ∷ []
slots_of ExecStepsPlain = Says word.Exec ∷ Says word.Steps ∷ Number ∷ Says word.Plain ∷ Name ∷ []
slots_of Run = Says word.Run ∷ Name ∷ []
slots_of RunSteps = Says word.Run ∷ Says word.Steps ∷ Number ∷ Name ∷ []
slots_of Sim = Says word.Sim ∷ Name ∷ []
slots_of SimSteps = Says word.Sim ∷ Says word.Steps ∷ Number ∷ Name ∷ []
slots_of Listing = Says word.List ∷ Name ∷ []
slots_of Gen = Says word.Gen ∷ Number ∷ []
slots_of Asm = Says word.Asm ∷ Says word.Out ∷ Name ∷ Name ∷ []
slots_of CountOut = Says word.Count ∷ Says word.Out ∷ Name ∷ Name ∷ []
slots_of CountStepsOut = Says word.Count ∷ Says word.Steps ∷ Number ∷ Says word.Out ∷ Name ∷ Name ∷ []
slots_of CountOutSteps = Says word.Count ∷ Says word.Out ∷ Name ∷ Says word.Steps ∷ Number ∷ Name ∷ []
slots_of PlaceCountsOut = Says word.Place ∷ Says word.Counts ∷ Name ∷ Says word.Out ∷ Name ∷ Name ∷ []
slots_of PlaceOutCounts = Says word.Place ∷ Says word.Out ∷ Name ∷ Says word.Counts ∷ Name ∷ Name ∷ []

-- whether any number of further names may stand behind the last slot: the commands that take one file or more
abbrev pub goes_on : Form → Bool
goes_on LinkOut = true
goes_on LinkPlainOut = true
goes_on LinkOutPlain = true
goes_on Exec = true
goes_on ExecPlain = true
goes_on ExecSteps = true
goes_on ExecPlainSteps = true
goes_on ExecStepsPlain = true
goes_on Run = false
goes_on RunSteps = false
goes_on Sim = true
goes_on SimSteps = true
goes_on Listing = false
goes_on Gen = false
goes_on Asm = false
goes_on CountOut = false
goes_on CountStepsOut = false
goes_on CountOutSteps = false
goes_on PlaceCountsOut = true
goes_on PlaceOutCounts = true

abbrev pub forms : List Form
forms = LinkOut ∷ LinkPlainOut ∷ LinkOutPlain ∷ Exec ∷ ExecPlain ∷ ExecSteps ∷ ExecPlainSteps ∷ ExecStepsPlain ∷ Run ∷ RunSteps
    ∷ Sim ∷ SimSteps ∷ Listing ∷ Gen ∷ Asm ∷ CountOut ∷ CountStepsOut ∷ CountOutSteps ∷ PlaceCountsOut ∷ PlaceOutCounts ∷ []

-- ---- words at places

-- a name of a file: not empty, and not begun by `-`
abbrev pub is_name : List ℕ → Bool
is_name [] = false
is_name (c ∷ cs) = not (c == 45)

abbrev pub takes : Slot → List ℕ → Bool
takes (Says keyword) text = pointwise nat_eq text (text_of keyword)
takes Name text = is_name text
takes Number text = is_number text

-- a word fits at a place of a form, counted from 0
abbrev pub fits : Form → ℕ → List ℕ → Bool
fits form place text =
    elim (slice_get (slots_of form) place) as (λ _. Bool) [
      | None ↦ goes_on form && is_name text
      | Some slot ↦ takes slot text
    ]

-- how many words in a row fit, from a place on
abbrev pub fitting : Form → ℕ → List (List ℕ) → ℕ
fitting form place [] = 0
fitting form place (w ∷ ws) = if fits form place w then suc (fitting form (suc place) ws) else 0

-- the words are a sentence of a form
abbrev pub is_whole : Form → List (List ℕ) → Bool
is_whole form words = (fitting form 0 words == length words) && nat_le (length (slots_of form)) (length words)

-- the form of which the words are a sentence
abbrev pub form_of : List (List ℕ) → Option Form
form_of words = find (λ form. is_whole form words) forms

-- the most words, from the first on, that begin a sentence of some of these forms
abbrev pub most_fitting : List Form → List (List ℕ) → ℕ
most_fitting [] words = 0
most_fitting (form ∷ rest) words = max (fitting form 0 words) (most_fitting rest words)

-- of words that are no sentence: the place, from 1, of the first with which no sentence goes on, or the one behind them
-- where they begin a sentence and stop
abbrev pub wrong_place : List (List ℕ) → ℕ
wrong_place words = suc (most_fitting forms words)
