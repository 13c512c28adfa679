use Rattle.std.proofs.Common.{◌≡◌, ◌+◌, ◌-◌, ◌*◌, ◌++◌, length}
use Rattle.om_fields.specs.Bytes.{words_at}
use Rattle.om_fields.proofs.reading.read_words.Given as goal

abbrev pub invariant-loop-i : goal.invariant-loop-i
invariant-loop-i l =
    (l.words.items ++ words_at (l.at + 4 * l.i) (l.count - l.i) l.bytes ≡ words_at l.at l.count l.bytes)
    × (length l.words.items ≡ l.i)
