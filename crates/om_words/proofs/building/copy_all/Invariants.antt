use Rattle.std.proofs.Common.{◌≡◌, ◌++◌, drop}
use Rattle.om_words.specs.Sentences.{texts}
use Rattle.om_words.proofs.building.copy_all.Given as goal

abbrev pub invariant-loop-word : goal.invariant-loop-word
invariant-loop-word l = texts l.files.items ++ texts (drop l.word-index l.words) ≡ texts l.words
