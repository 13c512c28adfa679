-- Worked rows of what no caller of `src/` shows.
use Rattle.std.specs.Prelude.{◌≡◌, false, [], ◌∷◌, None, codes, refl}
use Rattle.om_alpha.specs.declared.op.Cond.TheVariants.{Lt}
use Rattle.om_alpha.specs.Arithmetic.{holds}
use Rattle.om_words.specs.Meaning.{meaning}

pub below_zero : holds Lt 0 ≡ false
below_zero = refl

-- a sentence that stops before its files, an option where a name should stand, and a keyword that is none
pub cut : meaning (codes "link" ∷ codes "-o" ∷ codes "p" ∷ []) ≡ None
cut = refl

pub option_for_name : meaning (codes "link" ∷ codes "-o" ∷ codes "-x" ∷ codes "a.o" ∷ []) ≡ None
option_for_name = refl

pub no_keyword : meaning (codes "lint" ∷ codes "-o" ∷ codes "p" ∷ codes "a.o" ∷ []) ≡ None
no_keyword = refl
