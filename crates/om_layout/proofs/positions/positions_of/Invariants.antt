use Rattle.std.specs.Prelude.{◌≡◌, ◌≤◌, List, length, map}
use Rattle.om_prog.specs.Act.{Word}
use Rattle.om_layout.specs.Order.{words_before}
use Rattle.om_layout.specs.Placing.{AreTextWords, HasPositions}
use Rattle.om_layout.proofs.positions.positions_of.Given as goal

abbrev pub invariant-loop-i : goal.invariant-loop-i
invariant-loop-i l = record {
  bound : l.next ≤ length l.places;
  next :
      (ws : List Word) → AreTextWords l.counts ws → l.places ≡ map (λ w. w.at) ws →
      l.next ≡ words_before ws (record { obj = l.i; off = 0 });
  placed : (ws : List Word) → AreTextWords l.counts ws → l.places ≡ map (λ w. w.at) ws → HasPositions l.counts ws l.i 0 l.positions.items;
}
