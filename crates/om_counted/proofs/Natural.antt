-- In the natural order a pair of which a word is kept and the word behind it have different addresses.
use Rattle.std.proofs.Common.{◌≡◌, ◌⊎◌, inl, inr, ℕ, suc, ◌+◌, ◌/◌, ◌≤◌, ◌<◌, Bool, true, false, cond, List, [], ◌∷◌, length, refl, sym, ap, ◌∙◌, subst, arith}
use Rattle.std.specs.Prelude.{slice_index_or}
use Rattle.std.proofs.lemmas.Bool.{true≢false}
use Rattle.om_value.specs.declared.value.Place.{Place}
use Rattle.om_prog.specs.Act.{Word}
use Rattle.om_prog.specs.Valid.{IsProgram}
use Rattle.om_prog.specs.View.{ProgramView, is_word}
use Rattle.om_prog.specs.Step.{next_place}
use Rattle.om_graph.specs.View.{GraphView, Has, place_lt}
use Rattle.om_graph.specs.Run.{words}
use Rattle.om_graph.specs.OfProgram.{IsGraphOf}
use Rattle.om_graph.proofs.Labels.{equal_places}
use Rattle.om_graph.proofs.OfProgram.{index_below, count_is, map_length}
use Rattle.om_layout.specs.Layout.{LayoutView, position_of, code_at}
use Rattle.om_layout.specs.Order.{IsPlaceOf, IsLayoutOf, words_before}
use Rattle.om_layout.proofs.Natural.{lays_out}
use Rattle.om_layout.proofs.Sorted.{lt_same}
use Rattle.om_counted.proofs.Held.{PairsHaveAddresses}
use Rattle.om_counted.proofs.Openings.{in_text}

-- ---- positions

-- a word at a place or behind it, and before another, stands between their positions
more_before :
    (ws : List Word) (x : Word) (q r : Place) → Has ws x → place_lt x.at q ≡ false → place_lt x.at r ≡ true →
    ((w : Word) → place_lt w.at q ≡ true → place_lt w.at r ≡ true) → words_before ws q < words_before ws r
more_before ws x q r h n l f = grows ws h
  where
    least : (ws : List Word) → words_before ws q ≤ words_before ws r
    least [] = omega arith
    least (w ∷ ws) = by_test (place_lt w.at q) (place_lt w.at r) refl refl (least ws)
      where
        by_test :
            (a b : Bool) → place_lt w.at q ≡ a → place_lt w.at r ≡ b → words_before ws q ≤ words_before ws r →
            cond (place_lt w.at q) (suc (words_before ws q)) (words_before ws q) ≤ cond (place_lt w.at r) (suc (words_before ws r)) (words_before ws r)
        by_test true true e g i = rw (e, g) (omega (arith, i))
        by_test true false e g i = absurd (true≢false (sym (f w e) ∙ g))
        by_test false true e g i = rw (e, g) (omega (arith, i))
        by_test false false e g i = rw (e, g) i

    grows : (ws : List Word) → Has ws x → words_before ws q < words_before ws r
    grows [] h = absurd h
    grows (w ∷ ws) (inl e) =
        let a : place_lt w.at q ≡ false = subst (λ (y : Word). place_lt y.at q ≡ false) (sym e) n in
        let b : place_lt w.at r ≡ true = subst (λ (y : Word). place_lt y.at r ≡ true) (sym e) l in
        let i = least ws in
        rw (a, b) (omega (arith, i))
    grows (w ∷ ws) (inr h) = by_test (place_lt w.at q) (place_lt w.at r) refl refl (grows ws h)
      where
        by_test :
            (a b : Bool) → place_lt w.at q ≡ a → place_lt w.at r ≡ b → words_before ws q < words_before ws r →
            cond (place_lt w.at q) (suc (words_before ws q)) (words_before ws q) < cond (place_lt w.at r) (suc (words_before ws r)) (words_before ws r)
        by_test true true e g i = rw (e, g) (omega (arith, i))
        by_test true false e g i = absurd (true≢false (sym (f w e) ∙ g))
        by_test false true e g i = rw (e, g) (omega (arith, i))
        by_test false false e g i = rw (e, g) i

not_less : (p q : Place) → p.obj ≡ q.obj → q.off ≤ p.off → place_lt p q ≡ false
not_less p q o l = by_test (place_lt p q) refl
  where
    by_test : (b : Bool) → place_lt p q ≡ b → place_lt p q ≡ false
    by_test false e = e
    by_test true e = let k = Rattle.om_graph.proofs.Labels.lt_off p q e (sym o) in absurd (omega (arith, k, l))

less_behind : (w q : Place) (k : ℕ) → place_lt w q ≡ true → place_lt w (record { obj = q.obj; off = q.off + k }) ≡ true
less_behind w q k e = by_cases (Rattle.om_graph.proofs.Labels.lt_cases w q e)
  where
    by_cases : ((w.obj ≡ q.obj) × (w.off < q.off)) ⊎ (w.obj < q.obj) → place_lt w (record { obj = q.obj; off = q.off + k }) ≡ true
    by_cases (inl h) = let l = h.1 in lt_same w (record { obj = q.obj; off = q.off + k }) h.0 (omega (arith, l))
    by_cases (inr h) = Rattle.om_layout.proofs.Sorted.lt_less w (record { obj = q.obj; off = q.off + k }) h

module _ (p : ProgramView) (prog : IsProgram p) (g : GraphView) (of : IsGraphOf p g) (l : LayoutView) (lay : IsLayoutOf p g l) where
  place_is : (q : Place) → is_word p q ≡ true → IsPlaceOf g.counts q
  place_is q h =
      let t = in_text p q h in
      let b = index_below p.texts q.obj t.text t.found in
      let n = ap (λ (c : List ℕ). length c) of.counts ∙ map_length (λ t. length t) p.texts in
      let s = ap (λ (c : List ℕ). slice_index_or c q.obj 0) of.counts ∙ count_is p.texts q.obj t.text t.found in
      let a = index_below t.text (q.off / 4) t.item t.there in
      record { object = omega (arith, b, n); aligned = t.even; inside = omega (arith, s, a) }

  -- where a word of a pair is kept, the place behind the pair has another address
  pub natural_apart : (q : Place) (y : Word) → is_word p q ≡ true → is_word p (next_place (next_place q)) ≡ true → Has (words g) y → y.at.obj ≡ q.obj → q.off ≤ y.at.off → y.at.off < q.off + 8 → code_at l q ≡ code_at l (next_place (next_place q)) → ⊥
  natural_apart q y hq hr hy o a b e =
      let r : Place = record { obj = q.obj; off = q.off + 8 } in
      let same : next_place (next_place q) ≡ r = equal_places (next_place (next_place q)) r refl (omega arith) in
      let x = lay.positions q (place_is q hq) in
      let z = lay.positions r (place_is r (subst (λ (x : Place). is_word p x ≡ true) same hr)) in
      let m = more_before (words g) y q r hy (not_less y.at q o a) (lt_same y.at r o b) (λ w h. less_behind w.at q 8 h) in
      let e' : code_at l q ≡ code_at l r = e ∙ ap (code_at l) same in
      omega (arith, x, z, m, e')

  pub pairs_natural : PairsHaveAddresses p g l
  pairs_natural = record { apart = λ q y b call ra hq hr o hb hc e hy x a z same. natural_apart q y hq hr hy x a z same }

  pub most_natural : (q : Place) → position_of l q ≤ length (words g)
  most_natural q = (lays_out p prog g of l lay (λ q. Unit {0})).words.most q
