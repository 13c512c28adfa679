-- Clauses that leave one answer, but for want of memory.
use Rattle.std.specs.Prelude.{◌≡◌, ◌⊎◌, ℕ, List, Result, Err}
use Rattle.om_image.specs.declared.image.Image.{Image}
use Rattle.om_image.specs.declared.errors.ImageErr.{ImageErr}
use Rattle.om_image.specs.declared.errors.ImageErr.TheVariants as image
use Rattle.om_image.specs.Answers.{ReadsImage}

-- one of two answers is want of memory, or they are equal
abbrev pub AreOne : {T E : Type 0} → E → Result T E → Result T E → Type 0
AreOne want a b = (a ≡ Err want) ⊎ ((b ≡ Err want) ⊎ (a ≡ b))

abbrev pub ReadsOneImage : Type 0
ReadsOneImage =
    (file : List ℕ) (a b : Result Image ImageErr) →
    ReadsImage file a → ReadsImage file b → AreOne image.NoMemory a b
