-- How a key that may be absent is held in one number. No public clause cites this module.
use Rattle.std.specs.Prelude.{◌≡◌, ℕ, zero, suc, Option, Some, None, refl}

-- one more than the key, or 0 for none
abbrev pub key_of : ℕ → Option ℕ
key_of zero = None
key_of (suc key) = Some key

abbrev pub code_of : Option ℕ → ℕ
code_of None = zero
code_of (Some key) = suc key

pub code_back : (code : ℕ) → code_of (key_of code) ≡ code
code_back zero = refl
code_back (suc key) = refl
