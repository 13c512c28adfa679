use Rattle.std.proofs.Common.{◌≡◌, ◌≤◌, drop, length, max}
use Rattle.om_words.specs.Sentences.{most_fitting, texts}
use Rattle.om_words.proofs.matching.most_fitting.Given as goal

abbrev pub invariant-loop-form : goal.invariant-loop-form
invariant-loop-form l =
    (most_fitting l.forms (texts l.words) ≡ max l.most (most_fitting (drop l.form-index l.forms) (texts l.words)))
    × (l.most ≤ length l.words)
