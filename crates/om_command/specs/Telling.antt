-- What is put on a sink: a line or another text, whole or in part; and lines on the error stream with their statuses.
use Rattle.std.specs.Prelude.{◌≡◌, ◌++◌, ◌⊎◌, ℕ, List, [], ◌∷◌, Option, Some, Result, codes, decimal}
use Rattle.om_io.specs.Causes.{Rose, HasCause}
use Rattle.om_io.specs.Outside.{Appends, IsFrontOf}
use Rattle.om_io.specs.Digits.{hex}
use Rattle.om_command.specs.World.{Stream}
use Rattle.om_command.specs.declared.lines.Piece.{Piece}
use Rattle.om_command.specs.declared.lines.Piece.TheVariants.{Text, Number, Total, Address, Offset}

-- what puts of a line, piece by piece, do to what was written and to the count of faults
pub record Adds {T E : Type 0} (line : List ℕ) (written_before : Option (List ℕ)) (faults_before : ℕ)
    (written_after : Option (List ℕ)) (faults_after : ℕ) (result : Result T E) : Type 0 where
  pub appends : (old : List ℕ) → written_before ≡ Some old → Appends old written_after line result
  pub cause : HasCause faults_before faults_after result

-- the whole line was put, and nothing failed
pub record HasLine (line : List ℕ) (written_before : Option (List ℕ)) (faults_before : ℕ)
    (written_after : Option (List ℕ)) (faults_after : ℕ) : Type 0 where
  pub appended : (old : List ℕ) → written_before ≡ Some old → written_after ≡ Some (old ++ line)
  pub no_fault : faults_after ≡ faults_before

-- the put failed, after a front of the line
pub record HasFront (line : List ℕ) (written_before : Option (List ℕ)) (faults_before : ℕ)
    (written_after : Option (List ℕ)) (faults_after : ℕ) : Type 0 where
  pub appended : (old : List ℕ) → written_before ≡ Some old → (front : List ℕ) × IsFrontOf front line × (written_after ≡ Some (old ++ front))
  pub fault : Rose faults_before faults_after

-- the status stands with its whole line, or is 7 because a put failed
abbrev pub IsTold : ℕ → List ℕ → ℕ → Option (List ℕ) → ℕ → Option (List ℕ) → ℕ → Type 0
IsTold status line result written_before faults_before written_after faults_after =
    ((result ≡ status) × HasLine line written_before faults_before written_after faults_after)
    ⊎ ((result ≡ 7) × HasFront line written_before faults_before written_after faults_after)

-- the text of a piece of a line, and of pieces
abbrev pub text_of : Piece → List ℕ
text_of (Text text) = text.now
text_of (Number n) = decimal n
text_of (Total n) = decimal n
text_of (Address n) = hex 16 n
text_of (Offset n) = hex 8 n

abbrev pub texts_of : List Piece → List ℕ
texts_of [] = []
texts_of (p ∷ ps) = text_of p ++ texts_of ps

-- the line of words that are no sentence
abbrev pub usage_line : ℕ → List ℕ
usage_line place = codes "usage " ++ decimal place ++ codes "\n"

-- a status with its line, and a text or a front of it, over what a stream tells before and after
abbrev pub IsSaid : ℕ → List ℕ → ℕ → Stream → Stream → Type 0
IsSaid status line result old new = IsTold status line result old.told old.faults new.told new.faults

abbrev pub SaysLine : List ℕ → Stream → Stream → Type 0
SaysLine line old new = HasLine line old.told old.faults new.told new.faults

abbrev pub SaysFront : List ℕ → Stream → Stream → Type 0
SaysFront line old new = HasFront line old.told old.faults new.told new.faults

-- a status with its line, or in their place those of a failed load or of want of memory
abbrev pub IsSaidOrWanting : ℕ → List ℕ → ℕ → Stream → Stream → Type 0
IsSaidOrWanting said line status old new =
    IsSaid said line status old new
    ⊎ (IsSaid 6 (codes "read fault\n") status old new ⊎ IsSaid 8 (codes "no memory\n") status old new)
