use Rattle.om_prog.proofs.SameRun.{same_run}
use Rattle.om_prog.proofs.laws.same_words_same_run.Goals as goal

pub returns : goal.returns
returns c = record { same = λ c fetch agree input n. (same_run c fetch agree input n).is }
