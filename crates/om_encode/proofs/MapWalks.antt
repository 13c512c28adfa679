-- The words of a map that are written text by text, and that they are what a true map has.
use Rattle.std.proofs.Common.{◌≡◌, inl, inr, ℕ, zero, suc, ◌+◌, ◌*◌, ◌/◌, ◌%◌, ◌<◌, ◌≤◌, min, Bool, true, false, cond, ◌||◌, ◌==◌, List, [], ◌∷◌, ◌++◌, length, take, Option, Some, None, refl, ap, sym, ◌∙◌, arith, lit<, ◌^◌, append_assoc}
use Rattle.std.specs.Prelude.{map, sum, find, is_some, slice_get, slice_index_or, unwrap_or, option_and_then}
use Rattle.std.proofs.Math.Decide.{dec_le}
use Rattle.std.proofs.lemmas.Bool.{eq-eqb, eqb-true}
use Rattle.std.proofs.lemmas.List.{take_all}
use Rattle.std.proofs.lemmas.List.Sums.{sum_by-cons}
use Rattle.om_value.specs.declared.value.Place.{Place}
use Rattle.om_value.specs.Same.{place_eq}
use Rattle.om_prog.specs.declared.item.Item.{Item}
use Rattle.om_prog.specs.Act.{Word}
use Rattle.om_prog.specs.View.{ProgramView, item_at, text_of, word_count}
use Rattle.om_prog.specs.Valid.{IsProgram}
use Rattle.om_prog.proofs.Found.{take_step}
use Rattle.om_graph.specs.View.{GraphView, Has}
use Rattle.om_graph.specs.Run.{words}
use Rattle.om_graph.specs.Kept.{Comes}
use Rattle.om_graph.specs.LeftIn.{is_kept}
use Rattle.om_graph.specs.Index.{index_of}
use Rattle.om_graph.proofs.Labels.{same_place, equal_places, self_eq}
use Rattle.om_graph.proofs.LiftedOf.{item_get}
use Rattle.om_graph.proofs.OfProgram.{index_below, count_is}
use Rattle.om_image.specs.declared.map.MapWord.{MapWord}
use Rattle.om_layout.specs.Layout.{LayoutView, position_of}
use Rattle.om_layout.proofs.Sorted.{AreWordsOf, words_of}
use Rattle.om_encode.specs.Text.{map_word}
use Rattle.om_encode.specs.Encoded.{IsEncodable, AreForms, HasTrueWord, IsTextOf, AreMapWords, told_word, told_words, told_texts}
use Rattle.om_encode.specs.Positions.{Filled, with_words, HasRoom}
use Rattle.om_encode.proofs.Apart.{all_apart}
use Rattle.om_encode.proofs.Answered.{word_object}
use Rattle.om_encode.proofs.PutWords.{is_among, marked_if, text_count, marks_count, text_put, marks_put}
use Rattle.om_encode.proofs.Slotted.{got_some}
use Rattle.om_encode.proofs.TextWalks.{forms_length, forms_at}

-- ---- items of texts

pub item_is : (p : ProgramView) (obj k : ℕ) → item_at p (record { obj = obj; off = 4 * k }) ≡ slice_get (text_of p obj) k
item_is p obj k =
    let whole : (4 * k % 4 == 0) ≡ true = eq-eqb (4 * k % 4) 0 (omega arith) in
    let part : 4 * k / 4 ≡ k = omega arith in
    rw (whole, part) (by_text (slice_get p.texts obj))
  where
    by_text : (o : Option (List Item)) → option_and_then (λ (t : List Item). slice_get t k) o ≡ slice_get (unwrap_or o []) k
    by_text None = refl
    by_text (Some t) = refl

-- each word of a text is there
pub item_there : (p : ProgramView) (obj k : ℕ) (o : Option Item) → o ≡ item_at p (record { obj = obj; off = 4 * k }) → o ≡ None → k < word_count p obj → ⊥
item_there p obj k o e n h = by_item (got_some (text_of p obj) k h)
  where
    by_item : (i : Item) × (slice_get (text_of p obj) k ≡ Some i) → ⊥
    by_item (i, f) = none_some (sym n ∙ e ∙ item_is p obj k ∙ f)
      where
        none_some : None ≡ Some i → ⊥
        none_some e = cc

text_some : (p : ProgramView) (obj : ℕ) (t : List Item) → slice_get p.texts obj ≡ Some t → text_of p obj ≡ t
text_some p obj t e = ap (λ (o : Option (List Item)). unwrap_or o []) e

-- texts have few words
pub few_words : (p : ProgramView) → IsProgram p → (obj : ℕ) → word_count p obj < 2 ^ 30
few_words p prog obj = by_text (slice_get p.texts obj) refl
  where
    by_text : (o : Option (List Item)) → slice_get p.texts obj ≡ o → length (unwrap_or o []) < 2 ^ 30
    by_text None e = lit< tt
    by_text (Some t) e = (prog.texts.each obj t e).words

-- ---- words that are put behind others

module _ (l : LayoutView) where
  told_more : (obj k : ℕ) (xs : List Item) (x : Item) → told_words l obj k (xs ++ x ∷ []) ≡ told_words l obj k xs ++ told_word l (record { obj = obj; off = 4 * (k + length xs) }) x ∷ []
  told_more obj k [] x = ap (λ (n : ℕ). told_word l (record { obj = obj; off = n }) x ∷ []) (omega arith)
  told_more obj k (y ∷ ys) x =
      ap (λ (ws : List MapWord). told_word l (record { obj = obj; off = 4 * k }) y ∷ ws)
      (told_more obj (suc k) ys x
      ∙ ap (λ (n : ℕ). told_words l obj (suc k) ys ++ told_word l (record { obj = obj; off = n }) x ∷ []) (omega arith))

  texts_more : (obj : ℕ) (ts : List (List Item)) (t : List Item) → told_texts l obj (ts ++ t ∷ []) ≡ told_texts l obj ts ++ told_words l (obj + length ts) 0 t
  texts_more obj [] t = nothing (told_words l obj 0 t) ∙ ap (λ (o : ℕ). told_words l o 0 t) (omega arith)
    where
      nothing : (xs : List MapWord) → xs ++ [] ≡ xs
      nothing [] = refl
      nothing (x ∷ xs) = ap (λ (ys : List MapWord). x ∷ ys) (nothing xs)
  texts_more obj (u ∷ us) t =
      ap (λ (ws : List MapWord). told_words l obj 0 u ++ ws)
      (texts_more (suc obj) us t ∙ ap (λ (o : ℕ). told_texts l (suc obj) us ++ told_words l o 0 t) (omega arith))
      ∙ sym (append_assoc (told_words l obj 0 u) (told_texts l (suc obj) us) (told_words l (obj + length (u ∷ us)) 0 t))

  length_take : {A : Type 0} (xs : List A) (k : ℕ) → k ≤ length xs → length (take k xs) ≡ k
  length_take xs zero h = refl
  length_take [] (suc k) h = absurd (omega arith)
  length_take (x ∷ xs) (suc k) h = ap suc (length_take xs k (omega (arith, h)))

  -- a word more of a text
  pub words_step :
      (p : ProgramView) (obj k : ℕ) (item : Item) (old now new : List MapWord) → item_at p (record { obj = obj; off = 4 * k }) ≡ Some item →
      now ≡ old ++ told_words l obj 0 (take k (text_of p obj)) → new ≡ now ++ told_word l (record { obj = obj; off = 4 * k }) item ∷ [] →
      new ≡ old ++ told_words l obj 0 (take (k + 1) (text_of p obj))
  words_step p obj k item old now new e h n =
      let s : slice_get (text_of p obj) k ≡ Some item = sym (item_is p obj k) ∙ e in
      let b = index_below (text_of p obj) k item s in
      let m = length_take (text_of p obj) k (omega (arith, b)) in
      let t = told_more obj 0 (take k (text_of p obj)) item in
      n ∙ ap (λ (ws : List MapWord). ws ++ told_word l (record { obj = obj; off = 4 * k }) item ∷ []) h
      ∙ append_assoc old (told_words l obj 0 (take k (text_of p obj))) (told_word l (record { obj = obj; off = 4 * k }) item ∷ [])
      ∙ ap (λ (ws : List MapWord). old ++ ws)
      (ap (λ (o : ℕ). told_words l obj 0 (take k (text_of p obj)) ++ told_word l (record { obj = obj; off = 4 * o }) item ∷ []) (omega (arith, m))
      ∙ sym t
      ∙ ap (told_words l obj 0) (sym (take_step k (text_of p obj) item s)))

  pub words_end : (p : ProgramView) (obj k : ℕ) (old now : List MapWord) → now ≡ old ++ told_words l obj 0 (take k (text_of p obj)) → word_count p obj ≤ k → now ≡ old ++ told_words l obj 0 (text_of p obj)
  words_end p obj k old now h le = h ∙ ap (λ (xs : List Item). old ++ told_words l obj 0 xs) (take_all k (text_of p obj) le)

  -- a text more
  pub texts_step :
      (p : ProgramView) (obj : ℕ) (now new : List MapWord) → obj < length p.texts → now ≡ told_texts l 0 (take obj p.texts) →
      new ≡ now ++ told_words l obj 0 (text_of p obj) → new ≡ told_texts l 0 (take (obj + 1) p.texts)
  texts_step p obj now new below h n =
      let s = got_some p.texts obj below in
      let m = length_take p.texts obj (omega (arith, below)) in
      n ∙ ap (λ (ws : List MapWord). ws ++ told_words l obj 0 (text_of p obj)) h
      ∙ ap (λ (t : List Item). told_texts l 0 (take obj p.texts) ++ told_words l obj 0 t) (text_some p obj s.0 s.1)
      ∙ ap (λ (o : ℕ). told_texts l 0 (take obj p.texts) ++ told_words l o 0 s.0) (omega (arith, m))
      ∙ sym (texts_more 0 (take obj p.texts) s.0)
      ∙ ap (told_texts l 0) (sym (take_step obj p.texts s.0 s.1))

  pub texts_end : (p : ProgramView) (obj : ℕ) (now : List MapWord) → now ≡ told_texts l 0 (take obj p.texts) → length p.texts ≤ obj → now ≡ told_texts l 0 p.texts
  texts_end p obj now h le = h ∙ ap (told_texts l 0) (take_all obj p.texts le)

  -- ---- where a word of the program stands

  told_length : (obj k : ℕ) (xs : List Item) → length (told_words l obj k xs) ≡ length xs
  told_length obj k [] = refl
  told_length obj k (x ∷ xs) = ap suc (told_length obj (suc k) xs)

  texts_length : (obj : ℕ) (ts : List (List Item)) → length (told_texts l obj ts) ≡ sum (map (λ t. length t) ts)
  texts_length obj [] = refl
  texts_length obj (t ∷ ts) =
      length_both (told_words l obj 0 t) (told_texts l (suc obj) ts)
      ∙ ap (λ (n : ℕ). n + length (told_texts l (suc obj) ts)) (told_length obj 0 t)
      ∙ ap (λ (n : ℕ). length t + n) (texts_length (suc obj) ts)
      ∙ sym (sum_by-cons (λ x. x) (length t) (map (λ t. length t) ts))
    where
      length_both : (xs ys : List MapWord) → length (xs ++ ys) ≡ length xs + length ys
      length_both [] ys = omega arith
      length_both (x ∷ xs) ys = let i = length_both xs ys in omega (arith, i)

  told_at : (obj k : ℕ) (xs : List Item) (j : ℕ) (i : Item) → slice_get xs j ≡ Some i → slice_get (told_words l obj k xs) j ≡ Some (told_word l (record { obj = obj; off = 4 * (k + j) }) i)
  told_at obj k [] j i e = cc
  told_at obj k (x ∷ xs) zero i e =
      let s : x ≡ i = cc in
      ap (λ (y : Item). Some (told_word l (record { obj = obj; off = 4 * k }) y)) s
      ∙ ap (λ (n : ℕ). Some (told_word l (record { obj = obj; off = n }) i)) (omega arith)
  told_at obj k (x ∷ xs) (suc j) i e = told_at obj (suc k) xs j i e ∙ ap (λ (n : ℕ). Some (told_word l (record { obj = obj; off = n }) i)) (omega arith)

  get_left : (xs ys : List MapWord) (k : ℕ) (x : MapWord) → slice_get xs k ≡ Some x → slice_get (xs ++ ys) k ≡ Some x
  get_left [] ys k x e = cc
  get_left (z ∷ zs) ys zero x e = e
  get_left (z ∷ zs) ys (suc k) x e = get_left zs ys k x e

  get_right : (xs ys : List MapWord) (k n : ℕ) → n ≡ length xs + k → slice_get (xs ++ ys) n ≡ slice_get ys k
  get_right [] ys k n e = ap (slice_get ys) (omega (arith, e))
  get_right (x ∷ xs) ys k zero e = absurd (omega (arith, e))
  get_right (x ∷ xs) ys k (suc n) e = get_right xs ys k n (omega (arith, e))

  texts_at :
      (obj : ℕ) (ts : List (List Item)) (o : ℕ) (t : List Item) (j : ℕ) (i : Item) → slice_get ts o ≡ Some t → slice_get t j ≡ Some i →
      slice_get (told_texts l obj ts) (sum (take o (map (λ t. length t) ts)) + j) ≡ Some (told_word l (record { obj = obj + o; off = 4 * j }) i)
  texts_at obj [] o t j i e f = cc
  texts_at obj (u ∷ us) zero t j i e f =
      let s : u ≡ t = cc in
      ap (slice_get (told_words l obj 0 u ++ told_texts l (suc obj) us)) (omega arith)
      ∙ get_left (told_words l obj 0 u) (told_texts l (suc obj) us) j _ (told_at obj 0 u j i (ap (λ (x : List Item). slice_get x j) s ∙ f))
      ∙ ap (λ (n : ℕ). Some (told_word l (record { obj = n; off = 4 * (0 + j) }) i)) (omega arith)
      ∙ ap (λ (n : ℕ). Some (told_word l (record { obj = obj + 0; off = n }) i)) (omega arith)
  texts_at obj (u ∷ us) (suc o) t j i e f =
      let s = sum_by-cons (λ x. x) (length u) (take o (map (λ t. length t) us)) in
      let n = told_length obj 0 u in
      get_right (told_words l obj 0 u) (told_texts l (suc obj) us) (sum (take o (map (λ t. length t) us)) + j) (sum (take (suc o) (length u ∷ map (λ t. length t) us)) + j) (omega (arith, s, n))
      ∙ texts_at (suc obj) us o t j i e f
      ∙ ap (λ (m : ℕ). Some (told_word l (record { obj = m; off = 4 * j }) i)) (omega arith)

-- ---- the number of a word

sums_step : (xs : List ℕ) (i j : ℕ) → i < j → sum (take i xs) + slice_index_or xs i 0 ≤ sum (take j xs)
sums_step [] i zero h = absurd (omega arith)
sums_step [] zero (suc j) h = omega arith
sums_step [] (suc i) (suc j) h = omega arith
sums_step (x ∷ xs) i zero h = absurd (omega arith)
sums_step (x ∷ xs) zero (suc j) h = let s = sum_by-cons (λ x. x) x (take j xs) in omega (arith, s)
sums_step (x ∷ xs) (suc i) (suc j) h =
    let s = sum_by-cons (λ x. x) x (take j xs) in
    let t = sum_by-cons (λ x. x) x (take i xs) in
    let r = sums_step xs i j (omega (arith, h)) in
    omega (arith, s, t, r)

-- the place of a word of texts with so many words
pub record IsWordPlace (counts : List ℕ) (q : Place) : Type 0 where
  pub aligned : q.off % 4 ≡ 0
  pub inside : q.off / 4 < slice_index_or counts q.obj 0

min_is : (a b n : ℕ) → b ≡ n → n ≤ a → min a b ≡ n
min_is a b n e h = grind arith

pub index_is : (counts : List ℕ) (q : Place) → IsWordPlace counts q → index_of counts q ≡ sum (take q.obj counts) + q.off / 4
index_is counts q h =
    let al = h.aligned in
    let j = h.inside in
    ap (λ (n : ℕ). sum (take q.obj counts) + n) (min_is (slice_index_or counts q.obj 0) ((q.off + 3) / 4) (q.off / 4) (omega (arith, al)) (omega (arith, j)))

-- no two words have one number
one_index : (counts : List ℕ) (a b : Place) → IsWordPlace counts a → IsWordPlace counts b → index_of counts a ≡ index_of counts b → a ≡ b
one_index counts a b ha hb e = by_object (dec_le (suc a.obj) b.obj) (dec_le (suc b.obj) a.obj)
  where
    x : index_of counts a ≡ sum (take a.obj counts) + a.off / 4
    x = index_is counts a ha

    y : index_of counts b ≡ sum (take b.obj counts) + b.off / 4
    y = index_is counts b hb

    by_object : Dec (suc a.obj ≤ b.obj) → Dec (suc b.obj ≤ a.obj) → a ≡ b
    by_object (yes l) d =
        let s = sums_step counts a.obj b.obj (omega (arith, l)) in
        let i = ha.inside in
        absurd (omega (arith, x, y, e, s, i))
    by_object (no n) (yes l) =
        let s = sums_step counts b.obj a.obj (omega (arith, l)) in
        let i = hb.inside in
        absurd (omega (arith, x, y, e, s, i))
    by_object (no n) (no m) =
        let o : a.obj ≡ b.obj = omega (arith, n, m) in
        let t : sum (take a.obj counts) ≡ sum (take b.obj counts) = ap (λ (k : ℕ). sum (take k counts)) o in
        let u = ha.aligned in
        let v = hb.aligned in
        equal_places a b o (omega (arith, x, y, e, t, u, v))

-- ---- kept words

module _ (g : GraphView) where
  same_test : (a b : Place) → IsWordPlace g.counts a → IsWordPlace g.counts b → (index_of g.counts a == index_of g.counts b) ≡ place_eq a b
  same_test a b ha hb = by_test (place_eq a b) refl
    where
      by_test : (t : Bool) → place_eq a b ≡ t → (index_of g.counts a == index_of g.counts b) ≡ t
      by_test true t = eq-eqb (index_of g.counts a) (index_of g.counts b) (ap (index_of g.counts) (same_place a b t))
      by_test false t = by_index (index_of g.counts a == index_of g.counts b) refl
        where
          apart : true ≡ false → ⊥
          apart e = cc

          by_index : (u : Bool) → (index_of g.counts a == index_of g.counts b) ≡ u → (index_of g.counts a == index_of g.counts b) ≡ false
          by_index false u = u
          by_index true u =
              let s = one_index g.counts a b ha hb (eqb-true (index_of g.counts a) (index_of g.counts b) u) in
              absurd (apart (sym (self_eq b) ∙ ap (λ (x : Place). place_eq x b) (sym s) ∙ t))

  among_kept : (ws : List Word) (q : Place) → ((w : Word) → Has ws w → IsWordPlace g.counts w.at) → IsWordPlace g.counts q → is_among g ws (index_of g.counts q) ≡ is_some (find (λ w. place_eq w.at q) ws)
  among_kept [] q h b = refl
  among_kept (w ∷ ws) q h b =
      ap (λ (t : Bool). t || is_among g ws (index_of g.counts q)) (same_test w.at q (h w (inl refl)) b)
      ∙ by_test (place_eq w.at q) (among_kept ws q (λ x m. h x (inr m)) b)
    where
      by_test : (t : Bool) → is_among g ws (index_of g.counts q) ≡ is_some (find (λ w. place_eq w.at q) ws) → (t || is_among g ws (index_of g.counts q)) ≡ is_some (cond t (Some w) (find (λ w. place_eq w.at q) ws))
      by_test true i = refl
      by_test false i = i

  marked_is : (l : LayoutView) (q : Place) (item : Item) (b : Bool) → is_kept g q ≡ b → marked_if b (told_word l q item) ≡ map_word g l q item
  marked_is l q item true e = ap (λ (k : Bool). let w : MapWord = record { old = item.word; position = position_of l q; kept = k } in w) (sym e)
  marked_is l q item false e = ap (λ (k : Bool). let w : MapWord = record { old = item.word; position = position_of l q; kept = k } in w) (sym e)

-- what is there when all words of a graph are put in
module _ (p : ProgramView) (g : GraphView) (l : LayoutView) (c : IsEncodable p g l) where
  words_are : AreWordsOf g.counts (words g)
  words_are = words_of p c.program g c.graph

  word_place : (w : Word) → Has (words g) w → IsWordPlace g.counts w.at
  word_place w h = record { aligned = words_are.aligned w h; inside = words_are.inside w h }

  -- a word of the program
  record IsItem (q : Place) (item : Item) : Type 0 where
    text : List Item
    there : slice_get p.texts q.obj ≡ Some text
    here : slice_get text (q.off / 4) ≡ Some item
    place : IsWordPlace g.counts q

  is_item : (q : Place) (item : Item) → item_at p q ≡ Some item → IsItem q item
  is_item q item e = by_text (slice_get p.texts q.obj) refl
    where
      by_text : (o : Option (List Item)) → slice_get p.texts q.obj ≡ o → IsItem q item
      by_text None f = absurd (none_there (q.off % 4 == 0) (sym (ap (λ (o : Option (List Item)). cond (q.off % 4 == 0) (option_and_then (λ t. slice_get t (q.off / 4)) o) None) f) ∙ e))
        where
          none_there : (b : Bool) → cond b None None ≡ Some item → ⊥
          none_there true e = cc
          none_there false e = cc
      by_text (Some t) f =
          let i = item_get p q t item f e in
          let k = ap (λ (xs : List ℕ). slice_index_or xs q.obj 0) c.graph.counts ∙ count_is p.texts q.obj t f in
          let j = index_below t (q.off / 4) item i.0 in
          record { text = t; there = f; here = i.0; place = record { aligned = i.1; inside = omega (arith, k, j) } }

  told_here : (q : Place) (item : Item) → item_at p q ≡ Some item → slice_get (told_texts l 0 p.texts) (index_of g.counts q) ≡ Some (told_word l q item)
  told_here q item e =
      let i = is_item q item e in
      let al = i.place.aligned in
      ap (slice_get (told_texts l 0 p.texts))
      (index_is g.counts q i.place ∙ ap (λ (xs : List ℕ). sum (take q.obj xs) + q.off / 4) c.graph.counts)
      ∙ texts_at l 0 p.texts q.obj i.text (q.off / 4) item i.there i.here
      ∙ ap (λ (n : ℕ). Some (told_word l (record { obj = 0 + q.obj; off = n }) item)) (omega (arith, al))
      ∙ ap (λ (n : ℕ). Some (told_word l (record { obj = n; off = q.off }) item)) (omega arith)

  -- the words of the map, of which none is marked yet
  pub told_total : (list : List MapWord) → list ≡ told_texts l 0 p.texts → length list ≡ sum g.counts
  told_total list e = ap (λ (ws : List MapWord). length ws) e ∙ texts_length l 0 p.texts ∙ ap sum (sym c.graph.counts)

  index_small : (q : Place) → IsWordPlace g.counts q → index_of g.counts q < sum g.counts
  index_small q h =
      let x = index_is g.counts q h in
      let i = h.inside in
      let s = sums_step g.counts q.obj (suc (max_of q.obj (length g.counts))) (more q.obj (length g.counts)) in
      let t = ap sum (take_all (suc (max_of q.obj (length g.counts))) g.counts (most q.obj (length g.counts))) in
      omega (arith, x, i, s, t)
    where
      max_of : ℕ → ℕ → ℕ
      max_of a b = a + b

      more : (a b : ℕ) → a < suc (max_of a b)
      more a b = omega arith

      most : (a b : ℕ) → b ≤ suc (max_of a b)
      most a b = omega arith

  module _ (listed : List ℕ) (forms : AreForms p g l (words g) listed) (first : Filled) (count : first.count ≡ 0) (size : length first.text ≡ length listed) (told : first.words ≡ told_texts l 0 p.texts) where
    pub room : HasRoom g l listed first (words g)
    room = record {
      object = λ w h. word_object p g l c w h;
      text = λ w h. let a = c.layout.words.inside w h in let n = forms_length p g l (words g) listed forms in omega (arith, a, n, size);
      words = λ w h. let a = index_small w.at (word_place w h) in let n = told_total first.words told in omega (arith, a, n);
      count = let n = forms_length p g l (words g) listed forms in omega (arith, n, count);
    }

    abbrev last : Filled
    last = with_words g l listed first (words g)

    pub text_is : (text : List ℕ) → text ≡ last.text → IsTextOf p g l text
    text_is text e = record {
      count = ap (λ (xs : List ℕ). length xs) e ∙ text_count g l listed first (words g) ∙ size ∙ forms_length p g l (words g) listed forms;
      forms = λ w h. at_number w (number_of (words g) w h);
    }
      where
        number_of : (ws : List Word) (w : Word) → Has ws w → (k : ℕ) × (slice_get ws k ≡ Some w)
        number_of [] w h = absurd h
        number_of (v ∷ vs) w (inl e) = (0, ap (λ (x : Word). Some x) e)
        number_of (v ∷ vs) w (inr h) = let r = number_of vs w h in (suc r.0, r.1)

        at_number : (w : Word) → (k : ℕ) × (slice_get (words g) k ≡ Some w) → HasTrueWord p g l text w
        at_number w (k, f) =
            let x = forms_at p g l (words g) listed k w forms f in
            let put = text_put g l listed first (words g) k w (all_apart g l (Comes g) c.layout.words words_are) room f in
            let here : slice_index_or listed (first.count + k) 0 ≡ x.0 =
            ap (λ (n : ℕ). slice_index_or listed n 0) (omega (arith, count)) ∙ got_value listed k x.0 x.1 in
            record {
              word = x.0;
              found = ap (λ (xs : List ℕ). slice_get xs (position_of l w.at)) e ∙ put ∙ ap (λ (n : ℕ). Some n) here;
              form = x.2;
            }
          where
            got_value : (xs : List ℕ) (k x : ℕ) → slice_get xs k ≡ Some x → slice_index_or xs k 0 ≡ x
            got_value [] k x e = cc
            got_value (y ∷ ys) zero x e = cc
            got_value (y ∷ ys) (suc k) x e = got_value ys k x e

    pub map_words_are : (list : List MapWord) → list ≡ last.words → AreMapWords p g l list
    map_words_are list e = record {
      total = ap (λ (ws : List MapWord). length ws) e ∙ marks_count g l listed first (words g) ∙ told_total first.words told;
      each = λ q item h.
          ap (λ (ws : List MapWord). slice_get ws (index_of g.counts q)) e
          ∙ marks_put g l listed first (words g) (index_of g.counts q) (told_word l q item) room
          (ap (λ (ws : List MapWord). slice_get ws (index_of g.counts q)) told ∙ told_here q item h)
          ∙ ap (λ (b : Bool). Some (marked_if b (told_word l q item))) (among_kept g (words g) q word_place (is_item q item h).place)
          ∙ ap (λ (m : MapWord). Some m) (marked_is g l q item (is_kept g q) refl);
    }
