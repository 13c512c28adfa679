use Rattle.std.proofs.Common.{take}
use Rattle.om_fields.specs.Bytes.{Grows, word_bytes}
use Rattle.om_fields.proofs.writing.push_words.Given as goal

abbrev pub invariant-loop-word : goal.invariant-loop-word
invariant-loop-word l = Grows l.fn.out.items l.out.items (word_bytes (take l.word-index l.words))
