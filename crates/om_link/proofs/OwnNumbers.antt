-- In the graph that a program is lifted to as many words stand before a place as in the program.
use Rattle.std.proofs.Common.{◌≡◌, ℕ, zero, suc, ◌+◌, ◌*◌, ◌/◌, ◌<◌, ◌≤◌, min, Bool, true, false, cond, List, [], ◌∷◌, ◌++◌, length, take, Some, refl, ap, ◌∙◌, arith}
use Rattle.std.specs.Prelude.{map, sum, slice_get, slice_index_or}
use Rattle.std.proofs.lemmas.Bool.Decides.{nat_tests}
use Rattle.std.proofs.lemmas.List.Sums.{sum_by-cons}
use Rattle.om_value.specs.declared.value.Place.{Place}
use Rattle.om_prog.specs.declared.item.Item.{Item}
use Rattle.om_prog.specs.Act.{Word}
use Rattle.om_prog.specs.Step.{next_place}
use Rattle.om_prog.specs.View.{ProgramView}
use Rattle.om_prog.specs.Valid.{IsProgram}
use Rattle.om_graph.specs.View.{GraphView, place_lt}
use Rattle.om_graph.specs.Run.{words}
use Rattle.om_graph.specs.Index.{index_of}
use Rattle.om_graph.specs.Lifted.{IsLifted}
use Rattle.om_graph.proofs.LiftedRun.{lifted_words}
use Rattle.om_graph.proofs.LiftedWords.{text_words, text_start, texts_words}
use Rattle.om_graph.proofs.OfProgram.{map_length, count_is, index_below}
use Rattle.om_layout.specs.Order.{IsPlaceOf, words_before}
use Rattle.om_encode.proofs.Slotted.{got_some}
use Rattle.om_counted.specs.Levels.{counts_of}
use Rattle.om_link.proofs.Reach.{StandsIn}

-- ---- the words of texts

before_both : (xs ys : List Word) (q : Place) → words_before (xs ++ ys) q ≡ words_before xs q + words_before ys q
before_both [] ys q = omega arith
before_both (x ∷ xs) ys q = by_test (place_lt x.at q) (before_both xs ys q)
  where
    by_test :
        (b : Bool) → words_before (xs ++ ys) q ≡ words_before xs q + words_before ys q →
        cond b (suc (words_before (xs ++ ys) q)) (words_before (xs ++ ys) q) ≡ cond b (suc (words_before xs q)) (words_before xs q) + words_before ys q
    by_test true e = omega (arith, e)
    by_test false e = e

is_before : (a q : Place) → a.obj < q.obj → place_lt a q ≡ true
is_before a q h = grind (arith, nat_tests)

is_in_front : (a q : Place) → a.obj ≡ q.obj → a.off < q.off → place_lt a q ≡ true
is_in_front a q o h = grind (arith, nat_tests)

not_before : (a q : Place) → q.obj < a.obj → place_lt a q ≡ false
not_before a q h = grind (arith, nat_tests)

not_in_front : (a q : Place) → a.obj ≡ q.obj → q.off ≤ a.off → place_lt a q ≡ false
not_in_front a q o h = grind (arith, nat_tests)

all_before : (at q : Place) (items : List Item) → at.obj < q.obj → words_before (text_words at items) q ≡ length items
all_before at q [] h = refl
all_before at q (i ∷ is) h =
    let t = is_before at q h in
    let r = all_before (next_place at) q is h in
    rw t (ap suc r)

none_before : (at q : Place) (items : List Item) → q.obj < at.obj → words_before (text_words at items) q ≡ 0
none_before at q [] h = refl
none_before at q (i ∷ is) h =
    let t = not_before at q h in
    let r = none_before (next_place at) q is h in
    rw t r

own_before : (at q : Place) (items : List Item) (j : ℕ) → at.obj ≡ q.obj → q.off ≡ at.off + 4 * j → j ≤ length items → words_before (text_words at items) q ≡ j
own_before at q [] j o e h = omega (arith, h)
own_before at q (i ∷ is) zero o e h =
    let t = not_in_front at q o (omega (arith, e)) in
    rw t (behind (next_place at) is o (omega (arith, e)))
  where
    behind : (b : Place) (xs : List Item) → b.obj ≡ q.obj → q.off ≤ b.off → words_before (text_words b xs) q ≡ 0
    behind b [] s l = refl
    behind b (x ∷ xs) s l =
        let u = not_in_front b q s l in
        rw u (behind (next_place b) xs s (omega (arith, l)))
own_before at q (i ∷ is) (suc j) o e h =
    let t = is_in_front at q o (omega (arith, e)) in
    rw t (ap suc (own_before (next_place at) q is j o (omega (arith, e)) (omega (arith, h))))

none_later : (k : ℕ) (texts : List (List Item)) (q : Place) → q.obj < k → words_before (texts_words k texts) q ≡ 0
none_later k [] q h = refl
none_later k (t ∷ ts) q h =
    let a = none_before (text_start k) q t h in
    let b = none_later (suc k) ts q (omega (arith, h)) in
    before_both (text_words (text_start k) t) (texts_words (suc k) ts) q ∙ omega (arith, a, b)

texts_before :
    (k : ℕ) (texts : List (List Item)) (o : ℕ) (t : List Item) (j : ℕ) (q : Place) → slice_get texts o ≡ Some t → q.obj ≡ k + o → q.off ≡ 4 * j →
    j ≤ length t → words_before (texts_words k texts) q ≡ sum (take o (map (λ t. length t) texts)) + j
texts_before k [] o t j q e a b h = cc
texts_before k (u ∷ us) zero t j q e a b h =
    let s : u ≡ t = cc in
    let n = ap (λ (x : List Item). length x) s in
    let x = own_before (text_start k) q u j (omega (arith, a)) (omega (arith, b)) (omega (arith, h, n)) in
    let y = none_later (suc k) us q (omega (arith, a)) in
    before_both (text_words (text_start k) u) (texts_words (suc k) us) q ∙ omega (arith, x, y)
texts_before k (u ∷ us) (suc o) t j q e a b h =
    let x = all_before (text_start k) q u (omega (arith, a)) in
    let y = texts_before (suc k) us o t j q e (omega (arith, a)) b h in
    let s = sum_by-cons (λ x. x) (length u) (take o (map (λ t. length t) us)) in
    before_both (text_words (text_start k) u) (texts_words (suc k) us) q ∙ omega (arith, x, y, s)

-- ---- places

min_is : (m n : ℕ) → n ≤ m → min m n ≡ n
min_is m n h = grind arith

pub own_number :
    (p : ProgramView) (prog : IsProgram p) (g : GraphView) → IsLifted p g → (q : Place) → IsPlaceOf (counts_of p) q →
    words_before (words g) q ≡ index_of (counts_of p) q
own_number p prog g lifted q h =
    let n = map_length (λ (t : List Item). length t) p.texts in
    let o = h.object in
    let t = got_some p.texts q.obj (omega (arith, n, o)) in
    let c = count_is p.texts q.obj t.0 t.1 in
    let al = h.aligned in
    let i = h.inside in
    let m = min_is (slice_index_or (counts_of p) q.obj 0) ((q.off + 3) / 4) (omega (arith, al, i)) in
    let x = texts_before 0 p.texts q.obj t.0 (q.off / 4) q t.1 (omega arith) (omega (arith, al)) (omega (arith, c, i)) in
    ap (λ (ws : List Word). words_before ws q) (lifted_words p prog g lifted) ∙ x ∙ omega (arith, m, al)

-- the place of a word
pub place_is : (p : ProgramView) (q : Place) (item : Item) → StandsIn p q item → IsPlaceOf (counts_of p) q
place_is p q item s =
    let n = map_length (λ (t : List Item). length t) p.texts in
    let b = index_below p.texts q.obj s.text s.there in
    let c = count_is p.texts q.obj s.text s.there in
    let j = index_below s.text (q.off / 4) item s.here in
    record { object = omega (arith, n, b); aligned = s.aligned; inside = omega (arith, c, j) }
