use Rattle.std.proofs.Common.{◌≡◌, List, ℕ, subst, IfOk}
use Rattle.om_words.specs.Sentences.{texts}
use Rattle.om_words.proofs.Texts.{rest_of}
use Rattle.om_words.proofs.building.copy_from.Goals as goal

pub returns : goal.returns
returns c = subst (λ (l : List (List ℕ)). IfOk c.copy_all.result (λ files. texts files ≡ l)) (rest_of c.args.words.now c.args.place) c.copy_all.ensures
