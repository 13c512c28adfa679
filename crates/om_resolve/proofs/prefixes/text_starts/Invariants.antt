use Rattle.std.proofs.Common.{◌≡◌, ℕ, ◌<◌}
use Rattle.om_fields.specs.Places.{each}
use Rattle.om_object.specs.Rules.{IsObject}
use Rattle.om_resolve.specs.Names.{object_at}
use Rattle.om_resolve.specs.Linked.{words_before}
use Rattle.om_resolve.proofs.prefixes.text_starts.Given as goal

abbrev pub invariant-loop-i : goal.invariant-loop-i
invariant-loop-i l =
    (l.starts.items ≡ each (words_before l.objects) l.i) × (l.words ≡ words_before l.objects l.i)
    × ((k : ℕ) → k < l.i → IsObject (object_at l.objects k))
