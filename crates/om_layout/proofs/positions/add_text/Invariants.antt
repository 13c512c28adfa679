use Rattle.std.specs.Prelude.{◌≡◌, ◌≤◌, ◌*◌, ℕ, List, Some, length, map, slice_get}
use Rattle.om_prog.specs.Act.{Word}
use Rattle.om_layout.specs.Order.{words_before}
use Rattle.om_layout.specs.Placing.{AreTextWords, HasPositions}
use Rattle.om_layout.proofs.positions.add_text.Given as goal

abbrev pub invariant-loop-word : goal.invariant-loop-word
invariant-loop-word l = record {
  bound : l.next ≤ length l.places;
  next :
      (counts : List ℕ) (ws : List Word) → AreTextWords counts ws → l.places ≡ map (λ w. w.at) ws →
      slice_get counts l.obj ≡ Some l.count → l.before ≡ words_before ws (record { obj = l.obj; off = 0 }) →
      l.next ≡ words_before ws (record { obj = l.obj; off = 4 * l.word });
  placed :
      (counts : List ℕ) (ws : List Word) → AreTextWords counts ws → l.places ≡ map (λ w. w.at) ws →
      slice_get counts l.obj ≡ Some l.count → l.before ≡ words_before ws (record { obj = l.obj; off = 0 }) →
      HasPositions counts ws l.obj 0 l.initial.positions.items → HasPositions counts ws l.obj l.word l.positions.items;
}
