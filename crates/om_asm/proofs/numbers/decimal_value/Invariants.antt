use Rattle.std.proofs.Common.{◌≡◌, ◌^◌, ◌≤◌, min, true, drop}
use Rattle.std.specs.List.{list_all}
use Rattle.om_asm.specs.Numerals.{is_digit, value_behind}
use Rattle.om_asm.proofs.numbers.decimal_value.Given as goal

abbrev pub invariant-loop-c : goal.invariant-loop-c
invariant-loop-c l =
    (min (2 ^ 64) (value_behind 10 0 l.text) ≡ min (2 ^ 64) (value_behind 10 l.value (drop l.c-index l.text)))
    × (l.value ≤ 2 ^ 64)
    × (list_all is_digit (drop l.c-index l.text) ≡ true)
