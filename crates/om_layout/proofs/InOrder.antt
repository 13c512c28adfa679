-- A layout in any order of runs places its words.
use Rattle.std.proofs.Common.{◌≡◌, inl, inr, ℕ, ◌+◌, ◌*◌, ◌/◌, ◌%◌, ◌≤◌, Bool, true, false, cond, length, Some, refl, ap, sym, ◌∙◌, arith}
use Rattle.om_value.specs.declared.value.Place.{Place}
use Rattle.om_prog.specs.Act.{Word}
use Rattle.om_prog.specs.View.{ProgramView}
use Rattle.om_prog.specs.Valid.{IsProgram}
use Rattle.om_graph.specs.View.{GraphView, Has}
use Rattle.om_graph.specs.Run.{words, next_word}
use Rattle.om_graph.specs.Kept.{Comes}
use Rattle.om_graph.specs.OfProgram.{IsGraphOf}
use Rattle.om_layout.specs.Layout.{LayoutView}
use Rattle.om_layout.specs.Facts.{ArePositions, LaysOut, run_position}
use Rattle.om_layout.specs.InOrder.{Order, position_in, IsOrderOf, IsLayoutIn}
use Rattle.om_layout.proofs.Natural.{rounded_up, in_positions}
use Rattle.om_layout.proofs.Placing.{found_has}
use Rattle.om_layout.proofs.Runs.{by_runs}
use Rattle.om_layout.proofs.Sorted.{words_of}

-- a place to which a run may come is aligned
aligned : (g : GraphView) (q : Place) → Comes g q → q.off % 4 ≡ 0
aligned g q (inl h) = h.1.aligned
aligned g q (inr h) = let e = h.off in omega (arith, e)

itself : (q : Place) → q.off % 4 ≡ 0 → rounded_up q ≡ q
itself q a = let e : (q.off + 3) / 4 * 4 ≡ q.off = omega (arith, a) in ap (λ k. record { obj = q.obj; off = k }) e

module _ (g : GraphView) (o : Order) (is : IsOrderOf g o) where
  by : ArePositions (Comes g) (words g) (run_position o.runs o.run_of)
  by = by_runs (Comes g) (words g) o.runs o.run_of is.runs

  placed : (q : Place) → o.is_placed q ≡ true → position_in o q ≡ run_position o.runs o.run_of q
  placed q e = ap (λ b. cond b (run_position o.runs o.run_of q) 0) e

  at : (w : Word) → Has (words g) w → position_in o w.at ≡ run_position o.runs o.run_of w.at
  at w h = placed w.at (is.stands w h)

  most : (q : Place) → position_in o q ≤ length (words g)
  most q = by_test (o.is_placed q) (by.most q)
    where
      by_test : (b : Bool) → run_position o.runs o.run_of q ≤ length (words g) → cond b (run_position o.runs o.run_of q) 0 ≤ length (words g)
      by_test true m = m
      by_test false m = omega arith

  pub ordered : ArePositions (Comes g) (words g) (position_in o)
  ordered = record {
    inside = λ w h. let e = at w h in let i = by.inside w h in omega (arith, e, i);
    once = λ v w hv hw e. by.once v w hv hw (sym (at v hv) ∙ e ∙ at w hw);
    follows = λ w h n. placed _ (is.goes_on w h n) ∙ by.follows w h n ∙ ap (λ k. k + 1) (sym (at w h));
    found = λ q w good e. placed q (is.comes q good) ∙ by.found q w good e ∙ sym (at w (found_has (words g) q w e).0);
    most = most;
  }

pub placed_in_order : (o : Order) (p : ProgramView) (g : GraphView) (l : LayoutView) → IsProgram p → IsGraphOf p g → IsLayoutIn o p g l → LaysOut p g l (Comes g)
placed_in_order o p g l prog of lay = record {
  data_part = lay.data_part;
  words =
      in_positions g l (words_of p prog g of) (Comes g) (position_in o) lay.data_part.counts lay.places lay.positions (ordered g o lay.order)
      (λ q w good e. ap (position_in o) (itself q (aligned g q good)) ∙ (ordered g o lay.order).found q w good e);
}
