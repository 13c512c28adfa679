use Rattle.std.proofs.Common.{◌≡◌, ◌<◌, ℕ, false, length, replicate}
use Rattle.om_prog.specs.View.{word_count}
use Rattle.om_lift.specs.Places.{row_in}
use Rattle.om_lift.proofs.places.PlaceSet.new.Given as goal

abbrev pub invariant-loop-obj : goal.invariant-loop-obj
invariant-loop-obj l = record {
  many : length l.rows.items ≡ l.obj;
  empty : (k : ℕ) → k < l.obj → row_in l.rows.items k ≡ replicate (word_count l.p k) false;
}
