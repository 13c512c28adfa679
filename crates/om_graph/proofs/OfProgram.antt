-- In a graph of a program words stand in their blocks' places, no target that came from a load is a place in code, and
-- opening pairs stand apart from the ends of blocks.
use Rattle.std.proofs.Common.{◌%◌, ◌/◌, ◌==◌, Bool, true, false, cond, None, ◌≡◌, ◌⊎◌, inl, inr, ◌<◌, ◌≤◌, ◌+◌, ◌*◌, ℕ, zero, suc, List, [], ◌∷◌, length, Some, refl, sym, ap, ◌∙◌, subst, arith}
use Rattle.std.specs.Prelude.{option_and_then, map, slice_get, slice_index_or}
use Rattle.om_value.specs.declared.value.Place.{Place}
use Rattle.std.proofs.lemmas.Bool.{eqb-true}
use Rattle.om_prog.specs.declared.item.Item.{Item}
use Rattle.om_prog.specs.Act.{Word}
use Rattle.om_prog.specs.View.{ProgramView, item_at}
use Rattle.om_prog.specs.Step.{next_place}
use Rattle.om_prog.specs.Valid.{IsProgram}
use Rattle.om_graph.specs.View.{Block, Shape, GraphView, Has}
use Rattle.om_graph.specs.Run.{block_words, shape_words}
use Rattle.om_graph.specs.Form.{After, Ordered, IsPlaced, InPlace, label_after, text_size}
use Rattle.om_graph.specs.Landing.{begins}
use Rattle.om_graph.specs.Lifted.{Piece, cut, shape_of_piece, text_shapes, shapes_from, lifted_shapes, piece_ops}
use Rattle.om_graph.specs.OfProgram.{IsForm, AreKept, no_more, kept, gone, IsGraphOf}
use Rattle.om_graph.proofs.Labels.{has_append, is_true, found_behind}
use Rattle.om_graph.proofs.LiftedWords.{item_word, text_words, text_start, Stands, Known, is_cut, piece_words}
use Rattle.om_graph.proofs.LiftedRun.{known}
use Rattle.om_graph.proofs.Pieces.{piece_end, chain_obj, chain_some, chain_in, chain_apart, some_length, Cut, cut_is}

-- ---- words of a text from a place on

pub record Within (p : ProgramView) (at : Place) (items : List Item) (w : Word) : Type 0 where
  pub object : w.at.obj ≡ at.obj
  pub after : at.off ≤ w.at.off
  pub below : w.at.off + 4 ≤ at.off + 4 * length items
  pub item : Item
  pub there : item_at p w.at ≡ Some item
  pub stands : Stands p w.at item
  pub word : item_word w.at item ≡ w

words_within : (p : ProgramView) (at : Place) (items : List Item) (w : Word) → Known p at items → Has (text_words at items) w → Within p at items w
words_within p at [] w k h = absurd h
words_within p at (i ∷ is) w k (inl e) =
    subst (λ (x : Word). Within p at (i ∷ is) x) e
    (record { object = refl; after = omega arith; below = omega arith; item = i; there = k.0; stands = k.1; word = refl })
words_within p at (i ∷ is) w k (inr h) =
    let r = words_within p (next_place at) is w k.2 h in
    let a = r.after in
    let b = r.below in
    record { object = r.object; after = omega (arith, a); below = omega (arith, b); item = r.item; there = r.there; stands = r.stands; word = r.word }

-- a word of a text stands at a multiple of 4
pub item_aligned : (p : ProgramView) (q : Place) (item : Item) → item_at p q ≡ Some item → q.off % 4 ≡ 0
item_aligned p q item e = by_test (q.off % 4 == 0) refl e
  where
    by_test : (b : Bool) → (q.off % 4 == 0) ≡ b → cond b (option_and_then (λ (text : List Item). slice_get text (q.off / 4)) (slice_get p.texts q.obj)) None ≡ Some item → q.off % 4 ≡ 0
    by_test true t e = eqb-true (q.off % 4) 0 t
    by_test false t e = cc

first_aligned : (p : ProgramView) (at : Place) (items : List Item) → Known p at items → 0 < length items → at.off % 4 ≡ 0
first_aligned p at [] k h = absurd (omega arith)
first_aligned p at (i ∷ is) k h = item_aligned p at i k.0

words_after : (p : ProgramView) (at : Place) (items : List Item) (v : Word) → Known p at items → v.at.off + 4 ≤ at.off → After v (text_words at items)
words_after p at [] v k l = tt
words_after p at (i ∷ is) v k l = (λ e. l, words_after p (next_place at) is v k.2 (omega (arith, l)))

words_ordered : (p : ProgramView) (at : Place) (items : List Item) → Known p at items → Ordered (text_words at items)
words_ordered p at [] k = tt
words_ordered p at (i ∷ is) k = (words_after p (next_place at) is (item_word at i) k.2 (omega arith), words_ordered p (next_place at) is k.2)

-- ---- the blocks of the lifted graph

pub record IsShape (p : ProgramView) (s : Shape) : Type 0 where
  pub obj : ℕ
  pub text : List Item
  pub piece : Piece
  pub found : slice_get p.texts obj ≡ Some text
  pub among : Has (cut (begins p) (text_start obj) text) piece
  pub shape : shape_of_piece p (4 * length text) piece ≡ s

pub of_map : {A B : Type 0} (f : A → B) (xs : List A) (y : B) → Has (map f xs) y → (x : A) × Has xs x × (f x ≡ y)
of_map f [] y h = absurd h
of_map f (x ∷ xs) y (inl e) = (x, inl refl, e)
of_map f (x ∷ xs) y (inr h) = let r = of_map f xs y h in (r.0, inr r.1, r.2)

pub to_map : {A B : Type 0} (f : A → B) (xs : List A) (x : A) → Has xs x → Has (map f xs) (f x)
to_map f [] x h = absurd h
to_map f (y ∷ xs) x (inl e) = inl (ap f e)
to_map f (y ∷ xs) x (inr h) = inr (to_map f xs x h)

shape_from :
    (p : ProgramView) (o : ℕ) (texts : List (List Item)) (s : Shape) → ((j : ℕ) (t : List Item) → slice_get texts j ≡ Some t → slice_get p.texts (o + j) ≡ Some t) →
    Has (shapes_from p o texts) s → IsShape p s
shape_from p o [] s f h = absurd h
shape_from p o (t ∷ ts) s f h = by_case (has_append (text_shapes p o t) (shapes_from p (suc o) ts) s h) (shape_from p (suc o) ts s (λ j u g. subst (λ (x : ℕ). slice_get p.texts x ≡ Some u) (omega arith) (f (suc j) u g)))
  where
    by_case : Has (text_shapes p o t) s ⊎ Has (shapes_from p (suc o) ts) s → (Has (shapes_from p (suc o) ts) s → IsShape p s) → IsShape p s
    by_case (inl m) i =
        let r = of_map (shape_of_piece p (4 * length t)) (cut (begins p) (text_start o) t) s m in
        record { obj = o; text = t; piece = r.0; found = subst (λ (x : ℕ). slice_get p.texts x ≡ Some t) (omega arith) (f 0 t refl); among = r.1; shape = r.2 }
    by_case (inr m) i = i m

pub is_shape : (p : ProgramView) (s : Shape) → Has (lifted_shapes p) s → IsShape p s
is_shape p s h = shape_from p 0 p.texts s (λ j t g. subst (λ (x : ℕ). slice_get p.texts x ≡ Some t) (omega arith) g) h

pub index_below : {A : Type 0} (xs : List A) (k : ℕ) (x : A) → slice_get xs k ≡ Some x → k < length xs
index_below [] k x e = cc
index_below (y ∷ xs) zero x e = omega arith
index_below (y ∷ xs) (suc k) x e = let i = index_below xs k x e in omega (arith, i)

pub count_is : (texts : List (List Item)) (k : ℕ) (t : List Item) → slice_get texts k ≡ Some t → slice_index_or (map (λ t. length t) texts) k 0 ≡ length t
count_is [] k t e = cc
count_is (x ∷ texts) zero t e = let same : x ≡ t = cc in ap (λ (l : List Item). length l) same
count_is (x ∷ texts) (suc k) t e = count_is texts k t e

pub map_length : {A B : Type 0} (f : A → B) (xs : List A) → length (map f xs) ≡ length xs
map_length f [] = refl
map_length f (x ∷ xs) = ap (λ (n : ℕ). suc n) (map_length f xs)

pub same_some : {A : Type 0} {x y : A} → Some x ≡ Some y → x ≡ y
same_some e = cc

module _ (p : ProgramView) (prog : IsProgram p) where
  pub cut_of : (obj : ℕ) (text : List Item) → slice_get p.texts obj ≡ Some text → Cut p obj (4 * length text) (text_start obj) text (cut (begins p) (text_start obj) text)
  cut_of obj text f = cut_is p obj (4 * length text) (text_start obj) text refl (omega arith) (known p prog obj text f)

  module _ (s : Shape) (i : IsShape p s) where
    abbrev x : Piece
    x = i.piece

    abbrev is : Cut p i.obj (4 * length i.text) (text_start i.obj) i.text (cut (begins p) (text_start i.obj) i.text)
    is = cut_of i.obj i.text i.found

    pub label_is : s.label ≡ i.piece.from
    label_is = sym (ap (λ (y : Shape). y.label) i.shape)

    pub shape_obj : i.piece.from.obj ≡ i.obj
    shape_obj = chain_obj i.obj (4 * length i.text) 0 _ i.piece is.chain i.among

    pub shape_upto : piece_end i.piece ≤ 4 * length i.text
    shape_upto = (chain_in i.obj (4 * length i.text) 0 _ i.piece is.chain i.among).1

    pub shape_some : 0 < length i.piece.items
    shape_some = some_length i.obj (4 * length i.text) i.piece (chain_some i.obj (4 * length i.text) 0 _ i.piece is.chain i.among)

    pub shape_words_are : shape_words s ≡ text_words i.piece.from i.piece.items
    shape_words_are =
        let c = is_cut p (text_start i.obj) i.text (known p prog i.obj i.text i.found) in
        ap (λ (y : Shape). shape_words y) (sym i.shape)
        ∙ piece_words p (piece_ops i.piece.from i.piece.items) (4 * length i.text) i.piece.from i.piece.items (c.inside i.piece i.among)

    pub shape_known : Known p i.piece.from i.piece.items
    shape_known = is.known i.piece i.among

    pub label_aligned : i.piece.from.off % 4 ≡ 0
    label_aligned = first_aligned p i.piece.from i.piece.items shape_known shape_some

    pub shape_word : (w : Word) → Has (shape_words s) w → Within p i.piece.from i.piece.items w
    shape_word w h = words_within p i.piece.from i.piece.items w shape_known (subst (λ (l : List Word). Has l w) shape_words_are h)

    pub shape_ordered : Ordered (shape_words s)
    shape_ordered = subst (λ (l : List Word). Ordered l) (sym shape_words_are) (words_ordered p i.piece.from i.piece.items shape_known)

  -- a label behind another is behind the end of its piece
  pub behind_end :
      (s t : Shape) (i : IsShape p s) (j : IsShape p t) → t.label.obj ≡ s.label.obj → s.label.off < t.label.off → piece_end i.piece ≤ t.label.off
  behind_end s t i j o l =
      let ls = label_is s i in
      let lt = label_is t j in
      let same : j.obj ≡ i.obj = sym (shape_obj t j) ∙ sym (ap (λ (q : Place). q.obj) lt) ∙ o ∙ ap (λ (q : Place). q.obj) ls ∙ shape_obj s i in
      let text : j.text ≡ i.text = same_some (sym j.found ∙ ap (λ (k : ℕ). slice_get p.texts k) same ∙ i.found) in
      let c = cut_of i.obj i.text i.found in
      let there : Has (cut (begins p) (text_start i.obj) i.text) j.piece =
      subst (λ (k : ℕ). Has (cut (begins p) (text_start k) i.text) j.piece) same
      (subst (λ (u : List Item). Has (cut (begins p) (text_start j.obj) u) j.piece) text j.among) in
      let fs = ap (λ (q : Place). q.off) ls in
      let ft = ap (λ (q : Place). q.off) lt in
      let a = chain_apart i.obj (4 * length i.text) 0 _ i.piece j.piece c.chain i.among there (omega (arith, fs, ft, l)) in
      omega (arith, ft, a)

-- ---- the words that are kept

pub record Origin (p : ProgramView) (ws vs : List Word) (u : Word) : Type 0 where
  pub word : Word
  pub among : Has vs word
  pub place : u.at ≡ word.at
  pub form : IsForm p ws word u.act

origin : (p : ProgramView) (ws vs us : List Word) (u : Word) → AreKept p ws vs us → Has us u → Origin p ws vs u
origin p ws _ _ u no_more h = absurd h
origin p ws _ _ u (kept {vs} {us} w x e f k) (inl m) =
    subst (λ (y : Word). Origin p ws (w ∷ vs) y) m (record { word = w; among = inl refl; place = e; form = f })
origin p ws _ _ u (kept {vs} {us} w x e f k) (inr h) =
    let r = origin p ws vs us u k h in
    record { word = r.word; among = inr r.among; place = r.place; form = r.form }
origin p ws _ us u (gone {vs} w a l k) h =
    let r = origin p ws vs us u k h in
    record { word = r.word; among = inr r.among; place = r.place; form = r.form }

kept_after : (p : ProgramView) (ws vs us : List Word) (w u : Word) → AreKept p ws vs us → u.at ≡ w.at → After w vs → After u us
kept_after p ws _ _ w u no_more e a = tt
kept_after p ws _ _ w u (kept {vs} {us} x y f i k) e a = (
  (λ o.
      let g = a.0 (ap (λ (q : Place). q.obj) (sym f) ∙ o ∙ ap (λ (q : Place). q.obj) e) in
      let fo = ap (λ (q : Place). q.off) f in
      let eo = ap (λ (q : Place). q.off) e in
      omega (arith, g, fo, eo)),
  kept_after p ws vs us w u k e a.1,
)
kept_after p ws _ us w u (gone {vs} x i l k) e a = kept_after p ws vs us w u k e a.1

kept_ordered : (p : ProgramView) (ws vs us : List Word) → AreKept p ws vs us → Ordered vs → Ordered us
kept_ordered p ws _ _ no_more o = tt
kept_ordered p ws _ _ (kept {vs} {us} x y f i k) o = (kept_after p ws vs us x y k f o.0, kept_ordered p ws vs us k o.1)
kept_ordered p ws _ us (gone {vs} x i l k) o = kept_ordered p ws vs us k o.1

-- ---- a graph of a program

module _ (p : ProgramView) (prog : IsProgram p) (g : GraphView) (of : IsGraphOf p g) where
  abbrev pub shape_at : (b : Block) → Has g.blocks b → Shape
  shape_at b h = (of.blocks b h).0

  pub block_shape : (b : Block) (h : Has g.blocks b) → IsShape p (shape_at b h)
  block_shape b h = is_shape p (shape_at b h) (of.blocks b h).1

  label_shape : (q : Place) → Has g.labels q → (s : Shape) × Has (lifted_shapes p) s × (s.label ≡ q)
  label_shape q h = of_map (λ s. s.label) (lifted_shapes p) q (subst (λ (l : List Place). Has l q) of.labels h)

  pub size_is : (obj : ℕ) (text : List Item) → slice_get p.texts obj ≡ Some text → text_size g obj ≡ 4 * length text
  size_is obj text f = ap (λ (c : List ℕ). 4 * slice_index_or c obj 0) of.counts ∙ ap (λ (n : ℕ). 4 * n) (count_is p.texts obj text f)

  pub word_from : (b : Block) (h : Has g.blocks b) (u : Word) → Has (block_words b) u → Origin p (shape_words (shape_at b h)) (shape_words (shape_at b h)) u
  word_from b h u m = origin p _ _ _ u (of.blocks b h).2.words m

  labels_in : (q : Place) → Has g.labels q → (q.obj < length g.counts) × (q.off < text_size g q.obj)
  labels_in q h =
      let r = label_shape q h in
      let i = is_shape p r.0 r.1 in
      let l = sym r.2 ∙ label_is p prog r.0 i in
      let o = ap (λ (x : Place). x.obj) l ∙ shape_obj p prog r.0 i in
      let f = ap (λ (x : Place). x.off) l in
      let b = index_below p.texts i.obj i.text i.found in
      let n = ap (λ (c : List ℕ). length c) of.counts ∙ map_length (λ t. length t) p.texts in
      let s = ap (λ (k : ℕ). text_size g k) o ∙ size_is i.obj i.text i.found in
      let u = shape_upto p prog r.0 i in
      let e = shape_some p prog r.0 i in
      (omega (arith, o, b, n), omega (arith, f, s, u, e))

  labels_aligned : (q : Place) → Has g.labels q → q.off % 4 ≡ 0
  labels_aligned q h =
      let r = label_shape q h in
      let i = is_shape p r.0 r.1 in
      subst (λ (x : Place). x.off % 4 ≡ 0) (sym (label_is p prog r.0 i) ∙ r.2) (label_aligned p prog r.0 i)

  words_in : (b : Block) (u : Word) → Has g.blocks b → Has (block_words b) u → IsPlaced g b.label u.at
  words_in b u h m = placed_by
    where
      s : Shape
      s = shape_at b h

      i : IsShape p s
      i = block_shape b h

      r : Origin p (shape_words s) (shape_words s) u
      r = word_from b h u m

      w : Within p i.piece.from i.piece.items r.word
      w = shape_word p prog s i r.word r.among

      l : b.label ≡ i.piece.from
      l = (of.blocks b h).2.label ∙ label_is p prog s i

      object : u.at.obj ≡ b.label.obj
      object = ap (λ (x : Place). x.obj) r.place ∙ w.object ∙ sym (ap (λ (x : Place). x.obj) l)

      of_text : u.at.obj ≡ i.obj
      of_text = ap (λ (x : Place). x.obj) r.place ∙ w.object ∙ shape_obj p prog s i

      upto : piece_end i.piece ≤ 4 * length i.text
      upto = shape_upto p prog s i

      size : text_size g u.at.obj ≡ 4 * length i.text
      size = ap (λ (k : ℕ). text_size g k) of_text ∙ size_is i.obj i.text i.found

      before_next : (q : Place) → label_after g.labels b.label ≡ Some q → u.at.off + 4 ≤ q.off
      before_next q e =
          let v = found_behind g.labels b.label q e in
          let d = is_true b.label q v.0 in
          let t = label_shape q v.1 in
          let j = is_shape p t.0 t.1 in
          let ls = (of.blocks b h).2.label in
          let a = behind_end p prog s t.0 i j (ap (λ (x : Place). x.obj) t.2 ∙ d.0 ∙ ap (λ (x : Place). x.obj) ls)
          (subst (λ (x : Place). x.off < t.0.label.off) ls (subst (λ (x : Place). b.label.off < x.off) (sym t.2) d.1)) in
          let f = ap (λ (x : Place). x.off) t.2 in
          let y = w.below in
          let z = ap (λ (x : Place). x.off) r.place in
          omega (arith, a, f, y, z)

      placed_by : IsPlaced g b.label u.at
      placed_by =
          let z = ap (λ (x : Place). x.off) r.place in
          let lo = ap (λ (x : Place). x.off) l in
          let a = w.after in
          let y = w.below in
          let up = upto in
          let sz = size in
          record { object = object; after = omega (arith, z, lo, a); before = before_next; inside = omega (arith, z, y, up, sz); aligned = subst (λ (x : Place). x.off % 4 ≡ 0) (sym r.place) (item_aligned p r.word.at w.item w.there) }

  pub words_in_place : InPlace g
  words_in_place = record {
    labels = labels_in;
    aligned = labels_aligned;
    words = words_in;
    ordered = λ b h. kept_ordered p _ _ _ (of.blocks b h).2.words (shape_ordered p prog (shape_at b h) (block_shape b h));
  }
