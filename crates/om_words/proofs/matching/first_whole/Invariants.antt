use Rattle.std.proofs.Common.{◌≡◌, drop, find}
use Rattle.om_words.specs.Sentences.{is_whole, texts}
use Rattle.om_words.proofs.matching.first_whole.Given as goal

abbrev pub invariant-loop-form : goal.invariant-loop-form
invariant-loop-form l =
    find (λ form. is_whole form (texts l.words)) l.forms ≡ find (λ form. is_whole form (texts l.words)) (drop l.form-index l.forms)
