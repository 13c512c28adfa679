-- The layout of a graph of a program places its words: in order of object and offset.
use Rattle.std.proofs.Common.{◌≡◌, inl, inr, ℕ, zero, suc, ◌+◌, ◌*◌, ◌/◌, ◌%◌, ◌<◌, ◌≤◌, cond, ◌&&◌, ◌==◌, nat_le, List, [], ◌∷◌, length, Some, refl, ap, sym, subst, ◌∙◌, arith}
use Rattle.std.specs.Prelude.{slice_index_or, sum, take, min}
use Rattle.std.proofs.Math.Decide.{dec_le}
use Rattle.std.proofs.lemmas.Bool.{eqb-true, leb-true}
use Rattle.std.proofs.lemmas.Bool.Decides.{nat_tests}
use Rattle.om_value.specs.declared.value.Place.{Place}
use Rattle.om_prog.specs.Act.{Word}
use Rattle.om_prog.specs.Step.{next_place}
use Rattle.om_prog.specs.View.{ProgramView}
use Rattle.om_prog.specs.Valid.{IsProgram}
use Rattle.om_graph.specs.View.{GraphView, Has}
use Rattle.om_graph.specs.Run.{words, next_word, from_place}
use Rattle.om_graph.specs.OfProgram.{IsGraphOf}
use Rattle.om_layout.specs.Layout.{LayoutView, position_of, place_number}
use Rattle.om_layout.specs.Order.{words_before, place_count, IsPlaceOf, IsLayoutOf}
use Rattle.om_layout.specs.Facts.{ArePositions, LaysOut}
use Rattle.om_layout.proofs.Sorted.{AreWordsOf, words_of}
use Rattle.om_layout.proofs.Placing.{and_true, in_order, found_has, most_before}
use Rattle.om_layout.proofs.Numbers.{every_number}

-- the first word's place at a place or after it
abbrev pub rounded_up : Place → Place
rounded_up q = record q { off = (q.off + 3) / 4 * 4 }

some_below : (xs : List ℕ) (k : ℕ) → 0 < slice_index_or xs k 0 → k < length xs
some_below [] k h = absurd (omega arith)
some_below (x ∷ xs) zero h = omega arith
some_below (x ∷ xs) (suc k) h = let i = some_below xs k h in omega (arith, i)

past_end : (xs : List ℕ) (k : ℕ) → length xs ≤ k → slice_index_or xs k 0 ≡ 0
past_end [] k h = refl
past_end (x ∷ xs) zero h = absurd (omega arith)
past_end (x ∷ xs) (suc k) h = past_end xs k (omega arith)

same_test : (q : Place) (w : Word) → w.at.off % 4 ≡ 0 → from_place (rounded_up q) w ≡ from_place q w
same_test q w a = ap (λ b. (w.at.obj == q.obj) && b) (same_le (q.off) (w.at.off) a)
  where
    same_le : (m n : ℕ) → n % 4 ≡ 0 → nat_le ((m + 3) / 4 * 4) n ≡ nat_le m n
    same_le m n a =
        let k : (m + 3) / 4 * 4 ≤ n → m ≤ n = λ h. omega arith in
        let j : m ≤ n → (m + 3) / 4 * 4 ≤ n = λ h. omega arith in
        grind (arith, nat_tests, k, j)

same_found : (q : Place) (vs : List Word) → ((w : Word) → Has vs w → w.at.off % 4 ≡ 0) → next_word vs (rounded_up q) ≡ next_word vs q
same_found q [] h = refl
same_found q (v ∷ vs) h =
    ap (λ b. cond b (Some v) (next_word vs (rounded_up q))) (same_test q v (h v (inl refl)))
    ∙ ap (λ o. cond (from_place q v) (Some v) o) (same_found q vs (λ w k. h w (inr k)))

same_next : (g : GraphView) (q : Place) → ((w : Word) → Has (words g) w → w.at.off % 4 ≡ 0) → next_word (words g) (rounded_up q) ≡ next_word (words g) q
same_next g q aligned = same_found q (words g) aligned

-- a layout whose positions are those of an order, by which words are placed one to one
module _
    (g : GraphView) (l : LayoutView) (ws : AreWordsOf g.counts (words g)) (G : Place → Type 0) (position : Place → ℕ) (counts : l.counts ≡ g.counts)
    (places : length l.positions ≡ place_count g.counts) (positions : (q : Place) → IsPlaceOf g.counts q → position_of l q ≡ position q)
    (order : ArePositions G (words g) position)
    (rounded : (q : Place) (w : Word) → G q → next_word (words g) q ≡ Some w → position (rounded_up q) ≡ position w.at) where
  object_is : (w : Word) → Has (words g) w → w.at.obj < length g.counts
  object_is w h = let k = ws.inside w h in some_below g.counts w.at.obj (omega (arith, k))

  word_place : (w : Word) → Has (words g) w → IsPlaceOf g.counts w.at
  word_place w h = record { object = object_is w h; aligned = ws.aligned w h; inside = let k = ws.inside w h in omega (arith, k) }

  next_is_place : (w : Word) → Has (words g) w → IsPlaceOf g.counts (next_place w.at)
  next_is_place w h =
      let a = ws.aligned w h in
      let k = ws.inside w h in
      record { object = object_is w h; aligned = omega (arith, a); inside = omega (arith, a, k) }

  at_word : (w : Word) → Has (words g) w → position_of l w.at ≡ position w.at
  at_word w h = positions w.at (word_place w h)

  -- a place and the one that it is rounded up to
  same_rounded : (q : Place) → position_of l (rounded_up q) ≡ position_of l q
  same_rounded q =
      let e : ((q.off + 3) / 4 * 4 + 3) / 4 ≡ (q.off + 3) / 4 = omega arith in
      ap (λ k. slice_index_or l.positions (sum (take q.obj l.counts) + min (slice_index_or l.counts q.obj 0) k + q.obj) 0) e

  rounded_place : (q : Place) (w : Word) → next_word (words g) q ≡ Some w → IsPlaceOf g.counts (rounded_up q)
  rounded_place q w e =
      let f = found_has (words g) q w e in
      let t = and_true (w.at.obj == q.obj) (nat_le q.off w.at.off) f.1 in
      let obj : w.at.obj ≡ q.obj = eqb-true w.at.obj q.obj t.0 in
      let off : q.off ≤ w.at.off = leb-true q.off w.at.off t.1 in
      let a = ws.aligned w f.0 in
      let k : w.at.off / 4 < slice_index_or g.counts q.obj 0 = subst (λ o. w.at.off / 4 < slice_index_or g.counts o 0) obj (ws.inside w f.0) in
      record { object = subst (λ o. o < length g.counts) obj (object_is w f.0); aligned = omega arith; inside = omega (arith, off, a, k) }

  -- every position is at most the number of words
  most_at : (k : ℕ) → slice_index_or l.positions k 0 ≤ length (words g)
  most_at k = by_size (dec_le (place_count g.counts) k)
    where
      by_size : Dec (place_count g.counts ≤ k) → slice_index_or l.positions k 0 ≤ length (words g)
      by_size (yes h) =
          let n = places in
          let z = past_end l.positions k (omega (arith, n, h)) in
          omega (arith, z)
      by_size (no h) =
          let r = every_number g.counts k (omega (arith, h)) in
          let e : place_number l.counts r.0 ≡ k = ap (λ c. place_number c r.0) counts ∙ r.2 in
          let same : slice_index_or l.positions k 0 ≡ position r.0 =
          ap (λ j. slice_index_or l.positions j 0) (sym e) ∙ positions r.0 r.1 in
          let m = order.most r.0 in
          omega (arith, same, m)

  pub in_positions : ArePositions G (words g) (position_of l)
  in_positions = record {
    inside = λ w h. let e = at_word w h in let k = order.inside w h in omega (arith, e, k);
    once = λ v w hv hw e. order.once v w hv hw (sym (at_word v hv) ∙ e ∙ at_word w hw);
    follows = λ w h n. positions (next_place w.at) (next_is_place w h) ∙ order.follows w h n ∙ ap (λ k. k + 1) (sym (at_word w h));
    found =
        λ q w good e.
        sym (same_rounded q) ∙ positions (rounded_up q) (rounded_place q w e) ∙ rounded q w good e ∙ sym (at_word w (found_has (words g) q w e).0);
    most = λ q. most_at (place_number l.counts q);
  }

-- the natural order
module _ (p : ProgramView) (g : GraphView) (l : LayoutView) (lay : IsLayoutOf p g l) (ws : AreWordsOf g.counts (words g)) (G : Place → Type 0) where
  pub natural : ArePositions G (words g) (position_of l)
  natural =
      in_positions g l ws G (words_before (words g)) lay.data_part.counts lay.places lay.positions (in_order G (words g) ws.sorted ws.aligned)
      (λ q w good e. found_any (rounded_up q) w (same_next g q ws.aligned ∙ e))
    where
      found_any : (q : Place) (w : Word) → next_word (words g) q ≡ Some w → words_before (words g) q ≡ words_before (words g) w.at
      found_any q w e = (in_order (λ q. Unit {0}) (words g) ws.sorted ws.aligned).found q w tt e

pub lays_out : (p : ProgramView) → IsProgram p → (g : GraphView) → IsGraphOf p g → (l : LayoutView) → IsLayoutOf p g l → (G : Place → Type 0) → LaysOut p g l G
lays_out p prog g of l lay G = record { data_part = lay.data_part; words = natural p g l lay (words_of p prog g of) G }
