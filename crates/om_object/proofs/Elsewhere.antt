-- Passes over words look at the text alone.
use Rattle.std.proofs.Common.{◌≡◌, ◌≢◌, ℕ, Bool, false, ◌==◌, ◌&&◌, refl}
use Rattle.std.proofs.lemmas.Bool.{ne_eqb}
use Rattle.std.specs.Prelude.{None}
use Rattle.om_fields.specs.Places.{least, picked}
use Rattle.om_fields.proofs.Picked.{picked-none}

-- nothing is found in a section of another number
pub none-elsewhere : (number : ℕ) (test : ℕ → Bool) (place : ℕ → ℕ) (n : ℕ) → number ≢ 1 → least (picked (λ k. (number == 1) && test k) place n) ≡ None
none-elsewhere number test place n other =
    let e : (number == 1) ≡ false = ne_eqb number 1 other in
    picked-none (λ k. (number == 1) && test k) place n (λ j h. rw e refl)

-- in the text the test decides
pub found-here : (number : ℕ) (b c : Bool) → number ≡ 1 → b ≡ c → ((number == 1) && b) ≡ c
found-here number b c one h = rw one h
