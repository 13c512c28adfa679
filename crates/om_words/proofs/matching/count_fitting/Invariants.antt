use Rattle.std.proofs.Common.{◌≡◌, ◌+◌, drop}
use Rattle.om_words.specs.Sentences.{fitting, texts}
use Rattle.om_words.proofs.matching.count_fitting.Given as goal

abbrev pub invariant-loop-place : goal.invariant-loop-place
invariant-loop-place l = fitting l.form 0 (texts l.words) ≡ l.place + fitting l.form l.place (drop l.place (texts l.words))
