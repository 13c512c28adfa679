use Rattle.std.proofs.Common.{List, ℕ, sym, subst, arith}
use Rattle.std.specs.Prelude.{slice_index_or}
use Rattle.std.proofs.lemmas.Option.{slice_get-get_or}
use Rattle.om_layout.specs.Placing.{HasPositions}
use Rattle.om_layout.proofs.Steps.{at_first, none_placed}
use Rattle.om_layout.proofs.positions.positions_of.Goals as goal

pub loop-i-init : goal.loop-i-init
loop-i-init c = record {
  bound = omega arith;
  next = λ ws are at. sym (at_first ws);
  placed = λ ws are at. subst (λ (ps : List ℕ). HasPositions c.args.counts.now ws 0 0 ps) (sym c.new-positions.ensures.items) (none_placed c.args.counts.now ws);
}

pub add_text-requires-clause-count : goal.add_text-requires-clause-count
add_text-requires-clause-count c = c.requires.counts c.loop-i.i (slice_index_or c.args.counts.now c.loop-i.i 0) (slice_get-get_or c.args.counts.now c.loop-i.i 0 c.loop-i-test.true)

pub loop-i-preserved : goal.loop-i-preserved
loop-i-preserved c =
    let counts = c.args.counts.now in
    let is = slice_get-get_or counts c.loop-i.i 0 c.loop-i-test.true in
    record {
      bound = c.in_ok-next.ensures.bound;
      next = λ ws are at. c.in_ok-next.ensures.next counts ws are at is (c.loop-i.invariant.next ws are at);
      placed = λ ws are at. c.in_ok-next.ensures.placed counts ws are at is (c.loop-i.invariant.next ws are at) (c.loop-i.invariant.placed ws are at);
    }
