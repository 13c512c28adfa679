-- A text that goes to a sink in pages: a part of it is put, and the rest waits.
use Rattle.std.specs.Prelude.{◌≡◌, ◌++◌, ℕ, List, Option, Some, Result, Ok, Err}
use Rattle.om_io.specs.Causes.{HasCause}

-- of what waited and the text behind it, a front is put behind what was written, and the rest is left
pub record IsSent (old waiting text : List ℕ) (now : Option (List ℕ)) (left : List ℕ) : Type 0 where
  pub put : List ℕ
  pub written : now ≡ Some (old ++ put)
  pub rest : put ++ left ≡ waiting ++ text

-- what is left waits, or is lost where a put failed
abbrev pub SentBy : {T E : Type 0} → List ℕ → List ℕ → List ℕ → Option (List ℕ) → List ℕ → Result T E → Type 0
SentBy old waiting text now left (Ok _) = IsSent old waiting text now left
SentBy old waiting text now left (Err _) = (lost : List ℕ) × IsSent old waiting text now lost

-- what sending a text does to what was written, to the count of faults, and to what waits
pub record Sends {T E : Type 0} (text : List ℕ) (written_before : Option (List ℕ)) (faults_before : ℕ) (waiting : List ℕ)
    (written_after : Option (List ℕ)) (faults_after : ℕ) (left : List ℕ) (result : Result T E) : Type 0 where
  pub sends : (old : List ℕ) → written_before ≡ Some old → SentBy old waiting text written_after left result
  pub cause : HasCause faults_before faults_after result
