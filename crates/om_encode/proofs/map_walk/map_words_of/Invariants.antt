use Rattle.std.proofs.Common.{◌≡◌, take}
use Rattle.om_encode.specs.Encoded.{told_texts}
use Rattle.om_encode.proofs.map_walk.map_words_of.Given as goal

abbrev pub invariant-loop-obj : goal.invariant-loop-obj
invariant-loop-obj l = l.words.items ≡ told_texts l.layout 0 (take l.obj l.program.texts)
