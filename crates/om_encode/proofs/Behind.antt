-- Behind a label of the kept set a word stands in its text: the last word of a text is never gone.
use Rattle.std.proofs.Common.{◌≡◌, ◌⊎◌, inl, inr, ℕ, zero, suc, ◌+◌, ◌*◌, ◌/◌, ◌<◌, ◌≤◌, Bool, true, false, cond, List, [], ◌∷◌, ◌++◌, length, Some, None, refl, ap, sym, subst, ◌∙◌, arith}
use Rattle.std.specs.Prelude.{map, slice_get, option_and_then, is_some, ◌==◌, ◌%◌}
use Rattle.om_value.specs.declared.value.Place.{Place}
use Rattle.om_prog.specs.declared.item.Item.{Item}
use Rattle.om_prog.specs.Act.{Word}
use Rattle.om_prog.specs.View.{ProgramView, is_word}
use Rattle.om_prog.specs.Step.{next_place}
use Rattle.om_prog.specs.Valid.{IsProgram}
use Rattle.om_graph.specs.declared.op.Op.{Op}
use Rattle.om_graph.specs.declared.op.Last.{Last}
use Rattle.om_graph.specs.declared.op.Last.TheVariants.{Fall, Off, Br, Cond, Call, CallBy, JumpBy}
use Rattle.om_graph.specs.View.{Block, Shape, GraphView, Has, ops_of}
use Rattle.om_graph.specs.Run.{block_words, words, shape_words, next_word, from_place, op_word, last_words}
use Rattle.om_graph.specs.Form.{label_after, text_size}
use Rattle.om_graph.specs.Kept.{IsInKeptSet, IsBlock, IsEnd, KeptInBlocks, FallsOn, fall}
use Rattle.om_graph.specs.Lifted.{Piece, cut, shape_of_piece, text_shapes, shapes_from, lifted_shapes}
use Rattle.om_graph.specs.Landing.{begins}
use Rattle.om_graph.specs.OfProgram.{IsGraphOf, AreKept, gone}
use Rattle.om_graph.proofs.Labels.{least_after, found_behind, is_true, true_is, in_all, append_left, append_right, has_label}
use Rattle.om_graph.proofs.Fetching.{from_true, found_from, found_has}
use Rattle.om_graph.proofs.Pieces.{Chain, piece_end, chain_obj}
use Rattle.om_graph.proofs.LiftedWords.{text_words, text_start}
use Rattle.om_graph.proofs.OfProgram.{IsShape, words_in_place, shape_at, block_shape, cut_of, label_is, shape_obj, shape_some, shape_words_are, to_map}

-- ---- lists

-- a word from a place on is found, or one before it
pub some_found : (ws : List Word) (q : Place) (w : Word) → Has ws w → from_place q w ≡ true → (v : Word) × (next_word ws q ≡ Some v)
some_found [] q w h t = absurd h
some_found (x ∷ xs) q w h t = by_test (λ k. some_found xs q w k t) (from_place q x) refl h
  where
    by_test :
        (Has xs w → (v : Word) × (next_word xs q ≡ Some v)) → (b : Bool) → from_place q x ≡ b → Has (x ∷ xs) w →
        (v : Word) × (cond b (Some x) (next_word xs q) ≡ Some v)
    by_test again true e h = (x, refl)
    by_test again false e (inl s) = absurd (differ (sym (subst (λ (y : Word). from_place q y ≡ true) (sym s) t) ∙ e))
      where
        differ : true ≡ false → ⊥
        differ e = cc
    by_test again false e (inr k) = again k

-- the last of some words, if there is one
last_gone : (p : ProgramView) (ws : List Word) (items : List Item) (at : Place) → AreKept p ws (text_words at items) [] → 0 < length items → is_word p (record at { off = at.off + 4 * length items }) ≡ true
last_gone p ws [] at k h = absurd (omega arith)
last_gone p ws (i ∷ []) at (gone w a f k) h = subst (λ (n : ℕ). is_word p (record at { off = n }) ≡ true) (omega arith) f
last_gone p ws (i ∷ j ∷ is) at (gone w a f k) h =
    subst (λ (n : ℕ). is_word p (record at { off = n }) ≡ true) (omega arith) (last_gone p ws (j ∷ is) (next_place at) k (omega arith))

-- behind a piece the text ends, or another begins
chain_next : (obj size k : ℕ) (xs : List Piece) (x : Piece) → Chain obj size k xs → Has xs x → (piece_end x ≡ size) ⊎ ((y : Piece) × Has xs y × (y.from.off ≡ piece_end x))
chain_next obj size k [] x c h = absurd h
chain_next obj size k (y ∷ []) x c (inl e) =
    let a = ap piece_end e in
    let b = c.1 in
    let d = c.3 in
    inl (omega (arith, a, b, d))
chain_next obj size k (y ∷ z ∷ xs) x c (inl e) =
    let a = ap piece_end e in
    let b = c.1 in
    let d = c.3.1 in
    inr (z, inr (inl refl), omega (arith, a, b, d))
chain_next obj size k (y ∷ xs) x c (inr h) = by_case (chain_next obj size (k + 4 * length y.items) xs x c.3 h)
  where
    by_case : (piece_end x ≡ size) ⊎ ((y : Piece) × Has xs y × (y.from.off ≡ piece_end x)) → (piece_end x ≡ size) ⊎ ((z : Piece) × Has (y ∷ xs) z × (z.from.off ≡ piece_end x))
    by_case (inl e) = inl e
    by_case (inr z) = inr (z.0, inr z.1, z.2)

-- no word stands at a text's end
none_at_end : (p : ProgramView) (q : Place) (text : List Item) → slice_get p.texts q.obj ≡ Some text → q.off ≡ 4 * length text → is_word p q ≡ true → ⊥
none_at_end p q text f e h = by_off (q.off % 4 == 0) h
  where
    past : (xs : List Item) (k : ℕ) → length xs ≤ k → slice_get xs k ≡ None
    past [] k h = refl
    past (x ∷ xs) zero h = absurd (omega arith)
    past (x ∷ xs) (suc k) h = past xs k (omega arith)

    by_off : (b : Bool) → is_some (cond b (option_and_then (λ (t : List Item). slice_get t (q.off / 4)) (slice_get p.texts q.obj)) None) ≡ true → ⊥
    by_off false h = cc
    by_off true h =
        let n : slice_get text (q.off / 4) ≡ None = past text (q.off / 4) (omega (arith, e)) in
        let g : option_and_then (λ (t : List Item). slice_get t (q.off / 4)) (slice_get p.texts q.obj) ≡ None =
        ap (option_and_then (λ (t : List Item). slice_get t (q.off / 4))) f ∙ n in
        differ (sym h ∙ ap is_some g)
      where
        differ : true ≡ false → ⊥
        differ e = cc

-- a block without words has no word at its end
no_last : (os : List Op) (ops : List Op) (last : Last) → map (op_word ops) os ++ last_words last ≡ [] → (last ≡ Fall) ⊎ (last ≡ Off)
no_last (o ∷ os) ops last e = cc
no_last [] ops Fall e = inl refl
no_last [] ops Off e = inr refl
no_last [] ops (Br at op ra to) e = cc
no_last [] ops (Cond at i to) e = cc
no_last [] ops (Call at op ra to) e = cc
no_last [] ops (CallBy at i) e = cc
no_last [] ops (JumpBy at i) e = cc

to_shapes : (p : ProgramView) (o : ℕ) (texts : List (List Item)) (j : ℕ) (t : List Item) (s : Shape) → slice_get texts j ≡ Some t → Has (text_shapes p (o + j) t) s → Has (shapes_from p o texts) s
to_shapes p o [] j t s e h = cc
to_shapes p o (u ∷ texts) zero t s e h =
    let same : t ≡ u = back e in
    append_left (text_shapes p o u) (shapes_from p (suc o) texts) s
    (subst (λ (x : List Item). Has (text_shapes p o x) s) same (subst (λ (k : ℕ). Has (text_shapes p k t) s) (omega arith) h))
  where
    back : Some u ≡ Some t → t ≡ u
    back e = cc
to_shapes p o (u ∷ texts) (suc j) t s e h =
    append_right (text_shapes p o u) (shapes_from p (suc o) texts) s
    (to_shapes p (suc o) texts j t s e (subst (λ (k : ℕ). Has (text_shapes p k t) s) (omega arith) h))

module _ (p : ProgramView) (prog : IsProgram p) (g : GraphView) (of : IsGraphOf p g) (in_blocks : KeptInBlocks g) where
  -- the label behind a block that has lost all its words, and that it is in the kept set
  record Onward (q : Place) : Type 0 where
    place : Place
    object : place.obj ≡ q.obj
    behind : q.off < place.off
    below : place.off < text_size g place.obj
    kept : IsInKeptSet g place
    block : IsBlock g place

  onward : (b : Block) (h : Has g.blocks b) → IsInKeptSet g b.label → block_words b ≡ [] → Onward b.label
  onward b h k none = by_next (chain_next i.obj (4 * length i.text) 0 _ i.piece (cut_of p prog i.obj i.text i.found).chain i.among)
    where
      s : Shape
      s = shape_at p prog g of b h

      i : IsShape p s
      i = block_shape p prog g of b h

      all_gone : AreKept p (shape_words s) (text_words i.piece.from i.piece.items) []
      all_gone =
          subst (λ (l : List Word). AreKept p (shape_words s) l []) (shape_words_are p prog s i)
          (subst (λ (l : List Word). AreKept p (shape_words s) (shape_words s) l) none (of.blocks b h).2.words)

      word_behind : is_word p (record (i.piece.from) { off = i.piece.from.off + 4 * length i.piece.items }) ≡ true
      word_behind = last_gone p (shape_words s) i.piece.items i.piece.from all_gone (shape_some p prog s i)

      label : b.label ≡ i.piece.from
      label = (of.blocks b h).2.label ∙ label_is p prog s i

      from_obj : i.piece.from.obj ≡ i.obj
      from_obj = shape_obj p prog s i

      -- the label of a piece of the text
      labelled : (y : Piece) → Has (cut (begins p) (text_start i.obj) i.text) y → Has g.labels y.from
      labelled y m =
          let in_shapes : Has (lifted_shapes p) (shape_of_piece p (4 * length i.text) y) =
          to_shapes p 0 p.texts i.obj i.text (shape_of_piece p (4 * length i.text) y) i.found
          (subst (λ (k : ℕ). Has (text_shapes p k i.text) (shape_of_piece p (4 * length i.text) y)) (omega arith)
          (to_map (shape_of_piece p (4 * length i.text)) (cut (begins p) (text_start i.obj) i.text) y m)) in
          subst (λ (l : List Place). Has l y.from) (sym of.labels) (to_map (λ s. s.label) (lifted_shapes p) (shape_of_piece p (4 * length i.text) y) in_shapes)

      by_last : (n : Place) → label_after g.labels b.label ≡ Some n → (b.last ≡ Fall) ⊎ (b.last ≡ Off) → Onward b.label
      by_last n e (inr o) = absurd (none_some (sym (of.form.ends b h o) ∙ e))
        where
          none_some : None ≡ Some n → ⊥
          none_some e = cc
      by_last n e (inl f) = by_kept (in_blocks.label n inside)
        where
          falls : FallsOn b.last
          falls = subst FallsOn (sym f) tt

          inside : IsInKeptSet g n
          inside = fall b n h k falls e

          d : (n.obj ≡ b.label.obj) × (b.label.off < n.off)
          d = is_true b.label n (found_behind g.labels b.label n e).0

          low : n.off < text_size g n.obj
          low = ((words_in_place p prog g of).labels n (found_behind g.labels b.label n e).1).1

          by_kept : IsBlock g n ⊎ IsEnd g n → Onward b.label
          by_kept (inl m) = record { place = n; object = d.0; behind = d.1; below = low; kept = inside; block = m }
          by_kept (inr m) = let a = m.off in absurd (omega (arith, a, low))

      by_next : (piece_end i.piece ≡ 4 * length i.text) ⊎ ((y : Piece) × Has (cut (begins p) (text_start i.obj) i.text) y × (y.from.off ≡ piece_end i.piece)) → Onward b.label
      by_next (inl e) =
          let f : slice_get p.texts i.piece.from.obj ≡ Some i.text = ap (slice_get p.texts) from_obj ∙ i.found in
          absurd (none_at_end p (record (i.piece.from) { off = i.piece.from.off + 4 * length i.piece.items }) i.text f e word_behind)
      by_next (inr y) =
          let yo : y.0.from.obj ≡ i.obj = chain_obj i.obj (4 * length i.text) 0 _ y.0 (cut_of p prog i.obj i.text i.found).chain y.1 in
          let lo = ap (λ (q : Place). q.off) label in
          let yf = y.2 in
          let some = shape_some p prog s i in
          let same : y.0.from.obj ≡ b.label.obj = yo ∙ sym from_obj ∙ sym (ap (λ (q : Place). q.obj) label) in
          let least = least_after g.labels b.label y.0.from of.graph.labels (labelled y.0 y.1) (true_is b.label y.0.from same (omega (arith, lo, yf, some))) in
          by_last least.at least.found (no_last (ops_of b) (ops_of b) b.last none)

  -- ---- the word

  abbrev Found : Place → Type 0
  Found n = IsInKeptSet g n → IsBlock g n → n.off < text_size g n.obj → (w : Word) × (next_word (words g) n ≡ Some w)

  behind_by : (fuel : ℕ) (q : Place) → text_size g q.obj ≤ q.off + fuel → IsInKeptSet g q → IsBlock g q → q.off < text_size g q.obj → (w : Word) × (next_word (words g) q ≡ Some w)
  behind_by zero q f k m low = absurd (omega (arith, f, low))
  behind_by (suc fuel) q f k m low = by_words (block_words m.0) refl (λ n far e. behind_by fuel n far e)
    where
      by_words : (ws : List Word) → block_words m.0 ≡ ws → ((n : Place) → text_size g n.obj ≤ n.off + fuel → Found n) → (w : Word) × (next_word (words g) q ≡ Some w)
      by_words (w ∷ ws) e again =
          let has : Has (block_words m.0) w = subst (λ (l : List Word). Has l w) (sym e) (inl refl) in
          let at = (words_in_place p prog g of).words m.0 w m.1 has in
          let o : w.at.obj ≡ q.obj = at.object ∙ ap (λ (x : Place). x.obj) m.2 in
          let a : q.off ≤ w.at.off = (let b = at.after in let c = ap (λ (x : Place). x.off) m.2 in omega (arith, b, c)) in
          some_found (words g) q w (in_all g.blocks m.0 w m.1 has) (from_true q w o a)
      by_words [] e again =
          let n = onward m.0 m.1 (subst (IsInKeptSet g) (sym m.2) k) e in
          let no = n.object ∙ ap (λ (x : Place). x.obj) m.2 in
          let nb = n.behind in
          let mo = ap (λ (x : Place). x.off) m.2 in
          let size : text_size g n.place.obj ≡ text_size g q.obj = ap (text_size g) no in
          let r = again n.place (omega (arith, f, nb, mo, size)) n.kept n.block n.below in
          let u = found_from (words g) n.place r.0 r.1 in
          let u1 = u.1 in
          some_found (words g) q r.0 (found_has (words g) n.place r.0 r.1) (from_true q r.0 (u.0 ∙ no) (omega (arith, u1, nb, mo)))

  pub word_behind_label : (q : Place) → IsInKeptSet g q → IsBlock g q → (w : Word) × (next_word (words g) q ≡ Some w)
  word_behind_label q k m =
      let among = subst (Has g.labels) m.2 (of.graph.among m.0.label (has_label g.blocks m.0 m.1)) in
      behind_by (text_size g q.obj) q (omega arith) k m ((words_in_place p prog g of).labels q among).1
