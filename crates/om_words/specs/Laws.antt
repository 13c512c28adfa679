-- What the place of wrong words means.
use Rattle.std.specs.Prelude.{◌≡◌, ◌<◌, ◌≤◌, ◌++◌, ℕ, suc, List, length, take, is_some, true}
use Rattle.om_words.specs.Meaning.{meaning}
use Rattle.om_words.specs.Sentences.{wrong_place}

-- some sentence begins with these words
pub record BeginsSentence (words : List (List ℕ)) : Type 0 where
  pub more : List (List ℕ)
  pub sentence : is_some (meaning (words ++ more)) ≡ true

-- a sentence begins with the words before the place, counted from 1, and none with those up to it; where the place is that
-- behind the words, a sentence begins with all of them
pub record IsFirstWrong (words : List (List ℕ)) (place : ℕ) : Type 0 where
  pub before : ℕ
  pub place_is : place ≡ suc before
  pub within : before ≤ length words
  pub begins : BeginsSentence (take before words)
  pub wrong : before < length words → BeginsSentence (take (suc before) words) → ⊥

abbrev pub WrongPlacesAreFirst : Type 0
WrongPlacesAreFirst = (words : List (List ℕ)) → IsFirstWrong words (wrong_place words)
