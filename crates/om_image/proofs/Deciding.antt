-- What tests of numbers tell.
use Rattle.std.proofs.Common.{◌≡◌, ◌<◌, ◌≤◌, ℕ, Bool, true, false, refl, arith}
use Rattle.std.specs.Prelude.{◌&&◌, ◌||◌, ◌==◌, not, nat_lt, nat_le}
use Rattle.std.proofs.lemmas.Bool.Decides.{nat_tests}

pub both_of : (a b : Bool) → (a && b) ≡ true → (a ≡ true) × (b ≡ true)
both_of true b h = (refl, h)
both_of false b h = cc

pub neither_of : (a b : Bool) → (a || b) ≡ false → (a ≡ false) × (b ≡ false)
neither_of true b h = cc
neither_of false b h = (refl, h)

pub both : (a b : Bool) → a ≡ true → b ≡ true → (a && b) ≡ true
both true b h g = g
both false b h g = cc

pub neither : (a b : Bool) → a ≡ false → b ≡ false → (a || b) ≡ false
neither true b h g = cc
neither false b h g = g

pub not_false : (a : Bool) → not a ≡ false → a ≡ true
not_false true h = refl
not_false false h = cc

pub not_true : (a : Bool) → a ≡ true → not a ≡ false
not_true true h = refl
not_true false h = cc

pub lt_of : (n m : ℕ) → nat_lt n m ≡ true → n < m
lt_of n m h = grind (arith, nat_tests)

pub not_lt_of : (n m : ℕ) → nat_lt n m ≡ false → m ≤ n
not_lt_of n m h = grind (arith, nat_tests)

pub le_of : (n m : ℕ) → nat_le n m ≡ true → n ≤ m
le_of n m h = grind (arith, nat_tests)

pub eq_of : (n m : ℕ) → (n == m) ≡ true → n ≡ m
eq_of n m h = grind (arith, nat_tests)

pub is_lt : (n m : ℕ) → n < m → nat_lt n m ≡ true
is_lt n m h = grind (arith, nat_tests)

pub is_not_lt : (n m : ℕ) → m ≤ n → nat_lt n m ≡ false
is_not_lt n m h = grind (arith, nat_tests)

pub is_le : (n m : ℕ) → n ≤ m → nat_le n m ≡ true
is_le n m h = grind (arith, nat_tests)

pub is_eq : (n m : ℕ) → n ≡ m → (n == m) ≡ true
is_eq n m h = grind (arith, nat_tests)
