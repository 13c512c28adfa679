use Rattle.std.proofs.Common.{◌≡◌, ◌++◌, take}
use Rattle.om_prog.specs.View.{text_of}
use Rattle.om_encode.specs.Encoded.{told_words}
use Rattle.om_encode.proofs.map_walk.add_text.Given as goal

abbrev pub invariant-loop-word : goal.invariant-loop-word
invariant-loop-word l = l.words.items ≡ l.initial.words.items ++ told_words l.layout l.obj 0 (take l.word (text_of l.program l.obj))
