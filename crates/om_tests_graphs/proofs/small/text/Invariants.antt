use Rattle.std.proofs.Common.{◌≡◌, ◌*◌}
use Rattle.om_tests_graphs.proofs.small.text.Given as goal

abbrev pub invariant-loop-word : goal.invariant-loop-word
invariant-loop-word l = l.off ≡ 4 * l.word-index
