use Rattle.std.proofs.Common.{◌≡◌, ◌<◌, ◌^◌, true, drop}
use Rattle.om_words.specs.Numerals.{are_digits, value_of, value_behind}
use Rattle.om_words.proofs.numeral.value.Given as goal

abbrev pub invariant-loop-c : goal.invariant-loop-c
invariant-loop-c l =
    (value_of l.text ≡ value_behind l.value (drop l.c-index l.text))
    × (l.value < 10 ^ l.c-index)
    × (are_digits (drop l.c-index l.text) ≡ true)
