use Rattle.std.proofs.Common.{◌≡◌, drop}
use Rattle.om_words.specs.Numerals.{are_digits}
use Rattle.om_words.proofs.numeral.are_digits.Given as goal

abbrev pub invariant-loop-c : goal.invariant-loop-c
invariant-loop-c l = are_digits l.text ≡ are_digits (drop l.c-index l.text)
