-- The words of a graph of a program stand in order of object and offset, at multiples of 4 within their texts.
use Rattle.std.proofs.Common.{◌≡◌, ◌⊎◌, inl, inr, ℕ, ◌+◌, ◌/◌, ◌%◌, ◌<◌, ◌≤◌, Bool, true, false, cond, ◌==◌, List, [], ◌∷◌, ◌++◌, Some, None, refl, ap, sym, subst, ◌∙◌, arith}
use Rattle.std.specs.Prelude.{slice_get, slice_index_or, option_and_then}
use Rattle.std.proofs.lemmas.Bool.{eqb-true}
use Rattle.std.proofs.lemmas.Bool.Decides.{nat_tests}
use Rattle.om_value.specs.declared.value.Place.{Place}
use Rattle.om_prog.specs.declared.item.Item.{Item}
use Rattle.om_prog.specs.Act.{Word}
use Rattle.om_prog.specs.View.{ProgramView, item_at}
use Rattle.om_prog.specs.Valid.{IsProgram}
use Rattle.om_graph.specs.View.{Block, GraphView, Has, InPlaceOrder, place_lt}
use Rattle.om_graph.specs.Held.{label_list}
use Rattle.om_graph.specs.Run.{block_words, all_words, words}
use Rattle.om_graph.specs.Form.{Ordered, After}
use Rattle.om_graph.specs.OfProgram.{IsGraphOf}
use Rattle.om_graph.proofs.Labels.{HasIn, has_append, has_in, has_label, lt_cases}
use Rattle.om_graph.proofs.Placed.{Placed, FromLabel, BeforeLabel, BeforeBlocks}
use Rattle.om_graph.proofs.Places.{placed}
use Rattle.om_graph.proofs.OfProgram.{words_in_place, word_from, shape_word, shape_at, block_shape}
use Rattle.om_layout.specs.Facts.{IsBeforeAll, AreSorted}

-- ---- tests of places

pub lt_same : (p q : Place) → p.obj ≡ q.obj → p.off < q.off → place_lt p q ≡ true
lt_same p q e h = grind (arith, nat_tests)

pub lt_less : (p q : Place) → p.obj < q.obj → place_lt p q ≡ true
lt_less p q h = grind (arith, nat_tests)

-- ---- lists

before_each : (w : Word) (ws : List Word) → ((x : Word) → Has ws x → place_lt w.at x.at ≡ true) → IsBeforeAll w ws
before_each w [] f = tt
before_each w (x ∷ xs) f = (f x (inl refl), before_each w xs (λ y h. f y (inr h)))

from_label : (l : Place) (ws : List Word) (w : Word) → FromLabel l ws → Has ws w → (w.at.obj ≡ l.obj) × (l.off ≤ w.at.off)
from_label l [] w f h = absurd h
from_label l (x ∷ xs) w f (inl e) = subst (λ (y : Word). (y.at.obj ≡ l.obj) × (l.off ≤ y.at.off)) e f.0
from_label l (x ∷ xs) w f (inr h) = from_label l xs w f.1 h

before_label : (l : Place) (ws : List Word) (w : Word) → BeforeLabel l ws → Has ws w → w.at.obj ≡ l.obj → w.at.off + 4 ≤ l.off
before_label l [] w f h = absurd h
before_label l (x ∷ xs) w f (inl e) = subst (λ (y : Word). y.at.obj ≡ l.obj → y.at.off + 4 ≤ l.off) e f.0
before_label l (x ∷ xs) w f (inr h) = before_label l xs w f.1 h

of_blocks : (ws : List Word) (bs : List Block) (b : Block) → BeforeBlocks ws bs → Has bs b → BeforeLabel b.label ws
of_blocks ws [] b f h = absurd h
of_blocks ws (c ∷ cs) b f (inl e) = subst (λ (y : Block). BeforeLabel y.label ws) e f.0
of_blocks ws (c ∷ cs) b f (inr h) = of_blocks ws cs b f.1 h

after_is : (w : Word) (ws : List Word) (x : Word) → After w ws → Has ws x → x.at.obj ≡ w.at.obj → w.at.off + 4 ≤ x.at.off
after_is w [] x a h = absurd h
after_is w (y ∷ ys) x a (inl e) = subst (λ (z : Word). z.at.obj ≡ w.at.obj → w.at.off + 4 ≤ z.at.off) e a.0
after_is w (y ∷ ys) x a (inr h) = after_is w ys x a.1 h

placed_in : (bs : List Block) (b : Block) → Placed bs → Has bs b → FromLabel b.label (block_words b)
placed_in [] b p h = absurd h
placed_in (c ∷ cs) b p (inl e) = subst (λ (y : Block). FromLabel y.label (block_words y)) e p.0
placed_in (c ∷ cs) b p (inr h) = placed_in cs b p.4 h

-- the words of a block behind each other, in front of sorted ones that they are all before
block_sorted :
    (l : Place) (ws rest : List Word) → FromLabel l ws → Ordered ws →
    ((w x : Word) → Has ws w → Has rest x → place_lt w.at x.at ≡ true) → AreSorted rest → AreSorted (ws ++ rest)
block_sorted l [] rest f o h s = s
block_sorted l (w ∷ ws) rest f o h s = (
  before_each w (ws ++ rest) (λ x k. by_case x (has_append ws rest x k)),
  block_sorted l ws rest f.1 o.1 (λ v x j k. h v x (inr j) k) s,
)
  where
    by_case : (x : Word) → Has ws x ⊎ Has rest x → place_lt w.at x.at ≡ true
    by_case x (inl k) =
        let same : x.at.obj ≡ w.at.obj = (from_label l ws x f.1 k).0 ∙ sym f.0.0 in
        let a = after_is w ws x o.0 k same in
        lt_same w.at x.at (sym same) (omega (arith, a))
    by_case x (inr k) = h w x (inl refl) k

sorted_blocks : (bs : List Block) → InPlaceOrder (label_list bs) → Placed bs → AreSorted (all_words bs)
sorted_blocks [] o p = tt
sorted_blocks (b ∷ bs) o p = block_sorted b.label (block_words b) (all_words bs) p.0 p.1 across (sorted_blocks bs o.1 p.4)
  where
    across : (w x : Word) → Has (block_words b) w → Has (all_words bs) x → place_lt w.at x.at ≡ true
    across w x hw hx = by_case (lt_cases b.label i.block.label (o.0 i.block.label (has_label bs i.block i.among)))
      where
        i : HasIn bs x
        i = has_in bs x hx

        here : (w.at.obj ≡ b.label.obj) × (b.label.off ≤ w.at.off)
        here = from_label b.label (block_words b) w p.0 hw

        there : (x.at.obj ≡ i.block.label.obj) × (i.block.label.off ≤ x.at.off)
        there = from_label i.block.label (block_words i.block) x (placed_in bs i.block p.4 i.among) i.word

        by_case : ((b.label.obj ≡ i.block.label.obj) × (b.label.off < i.block.label.off)) ⊎ (b.label.obj < i.block.label.obj) → place_lt w.at x.at ≡ true
        by_case (inl h) =
            let a = before_label i.block.label (block_words b) w (of_blocks (block_words b) bs i.block p.2 i.among) hw (here.0 ∙ h.0) in
            let c = there.1 in
            lt_same w.at x.at (here.0 ∙ h.0 ∙ sym there.0) (omega (arith, a, c))
        by_case (inr h) =
            let a = here.0 in
            let c = there.0 in
            lt_less w.at x.at (omega (arith, a, c, h))

-- ---- a graph of a program

pub item_aligned : (p : ProgramView) (q : Place) (item : Item) → item_at p q ≡ Some item → q.off % 4 ≡ 0
item_aligned p q item e = by_test (q.off % 4 == 0) refl e
  where
    by_test : (b : Bool) → (q.off % 4 == 0) ≡ b → cond b (option_and_then (λ (text : List Item). slice_get text (q.off / 4)) (slice_get p.texts q.obj)) None ≡ Some item → q.off % 4 ≡ 0
    by_test true t e = eqb-true (q.off % 4) 0 t
    by_test false t e = cc

pub record AreWordsOf (counts : List ℕ) (ws : List Word) : Type 0 where
  pub sorted : AreSorted ws
  pub aligned : (w : Word) → Has ws w → w.at.off % 4 ≡ 0
  pub inside : (w : Word) → Has ws w → w.at.off / 4 < slice_index_or counts w.at.obj 0

pub words_of : (p : ProgramView) → IsProgram p → (g : GraphView) → IsGraphOf p g → AreWordsOf g.counts (words g)
words_of p prog g of = record {
  sorted = sorted_blocks g.blocks of.graph.blocks (placed g of.graph of.form (words_in_place p prog g of));
  aligned =
      λ w h.
      let i = has_in g.blocks w h in
      let r = word_from p prog g of i.block i.among w i.word in
      let s = shape_word p prog (shape_at p prog g of i.block i.among) (block_shape p prog g of i.block i.among) r.word r.among in
      let a = item_aligned p r.word.at s.item s.there in
      let e = ap (λ (q : Place). q.off) r.place in
      omega (arith, a, e);
  inside =
      λ w h.
      let i = has_in g.blocks w h in
      let a = ((words_in_place p prog g of).words i.block w i.among i.word).inside in
      omega (arith, a);
}
