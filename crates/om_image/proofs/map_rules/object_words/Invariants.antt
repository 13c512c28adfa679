use Rattle.std.proofs.Common.{◌≡◌, ◌≤◌, ◌*◌}
use Rattle.om_image.specs.MapFields.{object_words_below}
use Rattle.om_image.proofs.map_rules.object_words.Given as goal

abbrev pub invariant-loop-k : goal.invariant-loop-k
invariant-loop-k l = (l.total ≡ object_words_below l.b l.k) × (l.total ≤ 4294967295 * l.k)
