-- A zero stands from an index on just where the zeros end behind it.
use Rattle.std.proofs.Common.{◌≡◌, ℕ, zero, suc, ◌+◌, Bool, true, false, List, [], ◌∷◌, refl, sym, ◌∙◌, arith}
use Rattle.std.proofs.Math.Dec.{leb, leb-zero, leb-suc-zero}
use Rattle.std.proofs.lemmas.Bool.{le-leb}
use Rattle.std.proofs.lemmas.Bool.Decides.{nat_tests}
use Rattle.std.specs.Prelude.{find, is_none, drop, nat_le, ◌==◌, if◌then◌else◌}
use Rattle.om_fields.specs.Places.{number_at}
use Rattle.om_symtab.specs.Symbols.{is_unended, strings, symbol_at}
use Rattle.om_symtab.specs.Zeros.{zero_end, end_behind}

abbrev pub has_no_zero : List ℕ → Bool
has_no_zero bs = is_none (find (λ c. c == 0) bs)

head_by : (b : ℕ) (bs : List ℕ) (rest : ℕ) (t : Bool) → (b == 0) ≡ t → has_no_zero bs ≡ leb rest 0 → has_no_zero (b ∷ bs) ≡ leb (end_behind b rest) 0
head_by b bs zero true e h = rw e refl
head_by b bs zero false e h = rw e h
head_by b bs (suc n) true e h = rw e (sym (leb-suc-zero (suc n)))
head_by b bs (suc n) false e h = rw e (h ∙ leb-suc-zero n ∙ sym (leb-suc-zero (suc n)))

tail_zero : (i : ℕ) (t : Bool) → leb 0 i ≡ leb (if t then 1 else 0) (suc i)
tail_zero i true = leb-zero i ∙ sym (le-leb 1 (suc i) (omega arith))
tail_zero i false = leb-zero i ∙ sym (leb-zero (suc i))

tail_by : (b i rest : ℕ) → leb rest i ≡ leb (end_behind b rest) (suc i)
tail_by b i zero = tail_zero i (b == 0)
tail_by b i (suc n) = grind (arith, nat_tests)

pub none-from : (bs : List ℕ) (i : ℕ) → has_no_zero (drop i bs) ≡ leb (zero_end bs) i
none-from [] zero = refl
none-from [] (suc i) = sym (leb-zero (suc i))
none-from (b ∷ bs) zero = head_by b bs (zero_end bs) (b == 0) refl (none-from bs zero)
none-from (b ∷ bs) (suc i) = none-from bs i ∙ tail_by b i (zero_end bs)

-- a name is not ended just where its index is not below the zeros' end
pub unended_from : (file : List ℕ) (at end j : ℕ) → end ≡ zero_end (strings file at) → is_unended file at j ≡ nat_le end (number_at file (symbol_at file at j + 8) 4)
unended_from file at end j e = rw e (none-from (strings file at) (number_at file (symbol_at file at j + 8) 4))
