-- Opening pairs of a program, the blocks of a graph that begin with them, and the calls that go past them.
use Rattle.std.proofs.Common.{◌≡◌, ◌⊎◌, inl, inr, ℕ, zero, suc, ◌+◌, ◌*◌, ◌/◌, ◌%◌, ◌≤◌, ◌<◌, Bool, true, false, cond, ◌&&◌, ◌||◌, ◌==◌, List, [], ◌∷◌, length, Option, Some, None, refl, sym, ap, ◌∙◌, subst, arith}
use Rattle.std.specs.Prelude.{map, find, is_some, slice_get, option_and_then}
use Rattle.std.proofs.lemmas.Bool.{true≢false, eq-eqb}
use Rattle.om_isa.specs.declared.instr.BrOp.{BrOp}
use Rattle.om_isa.specs.declared.instr.BrOp.TheVariants.{Br as Straight, Bsr, If}
use Rattle.om_isa.specs.declared.instr.Instr.TheVariants.{Branch}
use Rattle.om_value.specs.declared.value.Place.{Place}
use Rattle.om_value.specs.declared.value.Target.{Target}
use Rattle.om_value.specs.Same.{place_eq}
use Rattle.om_prog.specs.declared.item.Item.{Item}
use Rattle.om_prog.specs.Act.{To, Word}
use Rattle.om_prog.specs.View.{ProgramView, item_at, is_word}
use Rattle.om_prog.specs.Valid.{IsProgram}
use Rattle.om_prog.specs.Step.{next_place}
use Rattle.om_graph.specs.declared.op.Op.{Op}
use Rattle.om_graph.specs.declared.op.OpKind.{OpKind}
use Rattle.om_graph.specs.declared.op.OpKind.TheVariants as kind
use Rattle.om_graph.specs.declared.op.Last.{Last}
use Rattle.om_graph.specs.declared.op.Last.TheVariants as last
use Rattle.om_graph.specs.View.{Block, Shape, GraphView, Has, ops_of}
use Rattle.om_graph.specs.Run.{block_words, last_words, op_act, op_word, use_of, target_at}
use Rattle.om_graph.specs.Form.{LastForm}
use Rattle.om_graph.specs.LeftIn.{ends_past, in_pair, goes_past, holds_word, passes}
use Rattle.om_graph.specs.Landing.{begins, is_landing, is_adjacent, is_opening_pair}
use Rattle.om_graph.specs.Lifted.{Piece, cut, shape_of_piece, text_shapes, shapes_from, lifted_shapes}
use Rattle.om_graph.specs.OfProgram.{IsGraphOf}
use Rattle.om_graph.proofs.Labels.{has_append, append_left, append_right, has_label, equal_places, self_eq}
use Rattle.om_graph.proofs.Places.{of_op}
use Rattle.om_graph.proofs.LiftedOf.{item_get}
use Rattle.om_graph.proofs.LiftedWords.{text_start}
use Rattle.om_graph.proofs.Pieces.{Chain, Rest}
use Rattle.om_graph.proofs.OfProgram.{is_shape, of_map, to_map, cut_of, label_is, shape_at, block_shape, words_in_place}
use Rattle.om_counted.proofs.Lists.{both, find_some}
use Rattle.om_counted.proofs.Calls.{not_between}

or_left : (a b : Bool) → a ≡ true → (a || b) ≡ true
or_left true b h = refl
or_left false b h = absurd (true≢false (sym h))

or_right : (a b : Bool) → b ≡ true → (a || b) ≡ true
or_right true b h = refl
or_right false b h = h

module _ (p : ProgramView) where
  pub record InText (q : Place) : Type 0 where
    pub text : List Item
    pub item : Item
    pub found : slice_get p.texts q.obj ≡ Some text
    pub there : slice_get text (q.off / 4) ≡ Some item
    pub even : q.off % 4 ≡ 0

  pub in_text : (q : Place) → is_word p q ≡ true → InText q
  in_text q h = by_text (slice_get p.texts q.obj) refl
    where
      by_item : (o : Option Item) → item_at p q ≡ o → is_some o ≡ true → (text : List Item) → slice_get p.texts q.obj ≡ Some text → InText q
      by_item (Some i) e t text f = let g = item_get p q text i f e in record { text = text; item = i; found = f; there = g.0; even = g.1 }
      by_item None e t text f = absurd (true≢false (sym t))

      found : Bool → Option (List Item) → Option Item
      found b o = cond b (option_and_then (λ t. slice_get t (q.off / 4)) o) None

      none : (b : Bool) → is_some (found b None) ≡ true → ⊥
      none true t = true≢false (sym t)
      none false t = true≢false (sym t)

      by_text : (o : Option (List Item)) → slice_get p.texts q.obj ≡ o → InText q
      by_text (Some text) f = by_item (item_at p q) refl h text f
      by_text None f =
          absurd (none (q.off % 4 == 0) (sym (ap (λ (x : Option (List Item)). is_some (found (q.off % 4 == 0) x)) f) ∙ h))

  pub opening_begins : (q : Place) → is_opening_pair p q ≡ true → begins p q ≡ true
  opening_begins q h =
      let l = (both _ _ (both (is_adjacent p q && is_landing p q) _ h).0).1 in
      or_left _ _ (or_left _ _ (or_left _ _ (or_right (q.off == 0) (is_landing p q) l)))

  from_texts : (o : ℕ) (texts : List (List Item)) (j : ℕ) (t : List Item) (s : Shape) → slice_get texts j ≡ Some t → Has (text_shapes p (o + j) t) s → Has (shapes_from p o texts) s
  from_texts o [] j t s e h = cc
  from_texts o (x ∷ texts) zero t s e h =
      let same : x ≡ t = cc in
      append_left (text_shapes p o x) (shapes_from p (suc o) texts) s (subst (λ (y : List Item). Has (text_shapes p o y) s) (sym same) (subst (λ (k : ℕ). Has (text_shapes p k t) s) (omega arith) h))
  from_texts o (x ∷ texts) (suc j) t s e h =
      append_right (text_shapes p o x) (shapes_from p (suc o) texts) s
      (from_texts (suc o) texts j t s e (subst (λ (k : ℕ). Has (text_shapes p k t) s) (omega arith) h))

module _ (p : ProgramView) (prog : IsProgram p) (g : GraphView) (of : IsGraphOf p g) where
  -- where a block of the program begins is a label
  pub label_there : (q : Place) → is_word p q ≡ true → begins p q ≡ true → Has g.labels q
  label_there q h b =
      let t = in_text p q h in
      let ev = t.even in
      let r = (cut_of p prog q.obj t.text t.found).each (q.off / 4) t.item q t.there refl (omega (arith, ev)) b in
      let s : Shape = shape_of_piece p (4 * length t.text) r.0 in
      let m : Has (text_shapes p q.obj t.text) s = to_map (shape_of_piece p (4 * length t.text)) (cut (begins p) (text_start q.obj) t.text) r.0 r.1 in
      let l : Has (lifted_shapes p) s = from_texts p 0 p.texts q.obj t.text s t.found (subst (λ (k : ℕ). Has (text_shapes p k t.text) s) (omega arith) m) in
      subst (λ (x : Place). Has g.labels x) r.2
      (subst (λ (xs : List Place). Has xs s.label) (sym of.labels) (to_map (λ s. s.label) (lifted_shapes p) s l))

  first_or : (obj size : ℕ) (xs : List Piece) (x : Piece) → Rest p (λ x. begins p x.from ≡ true) xs → Chain obj size 0 xs → Has xs x → (x.from.off ≡ 0) ⊎ (begins p x.from ≡ true)
  first_or obj size [] x r c h = absurd h
  first_or obj size (y ∷ xs) x r c (inl e) = inl (subst (λ (z : Piece). z.from.off ≡ 0) e c.1)
  first_or obj size (y ∷ xs) x r c (inr h) = inr (r x h)

  label_shape : (q : Place) → Has g.labels q → (s : Shape) × Has (lifted_shapes p) s × (s.label ≡ q)
  label_shape q h = of_map (λ s. s.label) (lifted_shapes p) q (subst (λ (l : List Place). Has l q) of.labels h)

  -- and a label that is not at its text's start is where a block begins
  pub label_begins : (q : Place) → Has g.labels q → 0 < q.off → begins p q ≡ true
  label_begins q h k =
      let r = label_shape q h in
      let i = is_shape p r.0 r.1 in
      let l = sym (label_is p prog r.0 i) ∙ r.2 in
      let c = cut_of p prog i.obj i.text i.found in
      by_first i.piece l (first_or i.obj (4 * length i.text) (cut (begins p) (text_start i.obj) i.text) i.piece c.begin c.chain i.among)
    where
      by_first : (x : Piece) → x.from ≡ q → (x.from.off ≡ 0) ⊎ (begins p x.from ≡ true) → begins p q ≡ true
      by_first x l (inr b) = ap (λ (y : Place). begins p y) (sym l) ∙ b
      by_first x l (inl z) = let f = ap (λ (y : Place). y.off) l in absurd (omega (arith, f, z, k))

  -- a label that is behind another in its text is a word behind it
  pub word_behind : (q t : Place) → Has g.labels q → Has g.labels t → t.obj ≡ q.obj → q.off < t.off → q.off + 4 ≤ t.off
  word_behind q t hq ht o l =
      let r = label_shape q hq in
      let v = label_shape t ht in
      let i = is_shape p r.0 r.1 in
      let j = is_shape p v.0 v.1 in
      let a = Rattle.om_graph.proofs.OfProgram.behind_end p prog r.0 v.0 i j (ap (λ (x : Place). x.obj) v.2 ∙ o ∙ sym (ap (λ (x : Place). x.obj) r.2))
      (let f = ap (λ (x : Place). x.off) r.2 in let u = ap (λ (x : Place). x.off) v.2 in omega (arith, f, u, l)) in
      let n = Rattle.om_graph.proofs.OfProgram.shape_some p prog r.0 i in
      let f = ap (λ (x : Place). x.off) (label_is p prog r.0 i) in
      let e = ap (λ (x : Place). x.off) r.2 in
      let u = ap (λ (x : Place). x.off) v.2 in
      omega (arith, a, n, f, e, u)

  pub opening_same : (b : Block) (h : Has g.blocks b) → b.opening ≡ is_opening_pair p b.label
  opening_same b h =
      let s = shape_at p prog g of b h in
      let i = block_shape p prog g of b h in
      let k = (of.blocks b h).2 in
      let l = k.label ∙ sym (ap (λ (y : Shape). y.label) i.shape) in
      k.opening ∙ sym (ap (λ (y : Shape). y.opening) i.shape) ∙ sym (ap (λ (x : Place). is_opening_pair p x) l)

  abbrev within : (b : Block) (w : Word) (q : Place) → Has g.blocks b → Has (block_words b) w → Has g.labels q → q.obj ≡ w.at.obj → b.label.off < q.off → q.off ≤ w.at.off → ⊥
  within = not_between g of.graph.labels of.graph.blocks of.graph.among (words_in_place p prog g of)

  -- the block of a word at a label
  pub at_label : (b : Block) (w : Word) → Has g.blocks b → Has (block_words b) w → Has g.labels w.at → b.label ≡ w.at
  at_label b w hb hw hl =
      let x = (words_in_place p prog g of).words b w hb hw in
      by_less x (Rattle.std.proofs.lemmas.Bool.cases_lt b.label.off w.at.off)
    where
      by_less : Rattle.om_graph.specs.Form.IsPlaced g b.label w.at → (b.label.off < w.at.off) ⊎ (w.at.off ≤ b.label.off) → b.label ≡ w.at
      by_less x (inl l) = absurd (within b w w.at hb hw hl refl l (omega arith))
      by_less x (inr l) = let a = x.after in equal_places b.label w.at (sym x.object) (omega (arith, a, l))

  -- the block of the second word of a pair that may be passed
  pub at_second : (b : Block) (w : Word) (q : Place) → Has g.blocks b → Has (block_words b) w → Has g.labels q → w.at ≡ next_place q → begins p (next_place q) ≡ false → b.label ≡ q
  at_second b w q hb hw hl e n =
      let x = (words_in_place p prog g of).words b w hb hw in
      let f = ap (λ (y : Place). y.off) e in
      let o = ap (λ (y : Place). y.obj) e in
      by_less x f o (Rattle.std.proofs.lemmas.Bool.cases_lt b.label.off q.off)
    where
      among : Has g.labels b.label
      among = of.graph.among b.label (has_label g.blocks b hb)

      by_more : Rattle.om_graph.specs.Form.IsPlaced g b.label w.at → w.at.off ≡ q.off + 4 → w.at.obj ≡ q.obj → q.off ≤ b.label.off → (q.off < b.label.off) ⊎ (b.label.off ≤ q.off) → b.label ≡ q
      by_more x f o l (inr m) = equal_places b.label q (sym x.object ∙ o) (omega (arith, l, m))
      by_more x f o l (inl m) =
          let a = word_behind q b.label hl among (sym x.object ∙ o) m in
          let af = x.after in
          let same : b.label ≡ next_place q = equal_places b.label (next_place q) (sym x.object ∙ o) (omega (arith, a, af, f)) in
          let t = label_begins b.label among (omega (arith, m)) in
          absurd (true≢false (sym t ∙ ap (λ (y : Place). begins p y) same ∙ n))

      by_less : Rattle.om_graph.specs.Form.IsPlaced g b.label w.at → w.at.off ≡ q.off + 4 → w.at.obj ≡ q.obj → (b.label.off < q.off) ⊎ (q.off ≤ b.label.off) → b.label ≡ q
      by_less x f o (inl l) = absurd (within b w q hb hw hl (sym o) l (omega (arith, f)))
      by_less x f o (inr l) = by_more x f o l (Rattle.std.proofs.lemmas.Bool.cases_lt q.off b.label.off)

  -- ---- calls

  not_op : (os : List Op) (k : OpKind) (op : BrOp) (ra : ℕ) (to : Place) → op_act os k ≡ To op ra to → ⊥
  not_op os (kind.Plain j) op ra to e = cc
  not_op os (kind.Lit rb rc t) op ra to e = cc
  not_op os (kind.AddrLda rb rc t) op ra to e = cc
  not_op os (kind.AddrHi rb rc t z) op ra to e = cc
  not_op os (kind.UseGp j gp t) op ra to e = cc
  not_op os (kind.GpHi rb rc b) op ra to e = cc
  not_op os (kind.GpLo rb rc h) op ra to e = cc
  not_op os (kind.UseLo j hi) op ra to e = by_target (target_at os hi) e
    where
      by_target : (o : Option Target) → use_of j hi o ≡ To op ra to → ⊥
      by_target None e = cc
      by_target (Some t) e = cc

  past_by_last : (l : Last) (u : Word) (ra : ℕ) (to q : Place) → LastForm l → Has (last_words l) u → u.act ≡ To Bsr ra to → to ≡ next_place (next_place q) → ends_past u.at q l ≡ true
  past_by_last last.Fall u ra to q f h e s = absurd h
  past_by_last last.Off u ra to q f h e s = absurd h
  past_by_last (last.Br at Bsr r t) u ra to q f (inl h) e s =
      let same : at ≡ u.at = ap (λ (x : Word). x.at) h in
      let here : t ≡ to = cc in
      let a = ap (λ (x : Place). x.obj) (here ∙ s) in
      let b = ap (λ (x : Place). x.off) (here ∙ s) in
      let c : place_eq at u.at ≡ true = subst (λ (x : Place). place_eq at x ≡ true) same (self_eq at) in
      let b' : t.off ≡ q.off + 8 = omega (arith, b) in
      rw (c, eq-eqb t.obj q.obj a, eq-eqb t.off (q.off + 8) b') refl
  past_by_last (last.Call at Bsr r t) u ra to q f (inl h) e s =
      let same : at ≡ u.at = ap (λ (x : Word). x.at) h in
      let here : t ≡ to = cc in
      let a = ap (λ (x : Place). x.obj) (here ∙ s) in
      let b = ap (λ (x : Place). x.off) (here ∙ s) in
      let c : place_eq at u.at ≡ true = subst (λ (x : Place). place_eq at x ≡ true) same (self_eq at) in
      let b' : t.off ≡ q.off + 8 = omega (arith, b) in
      rw (c, eq-eqb t.obj q.obj a, eq-eqb t.off (q.off + 8) b') refl
  past_by_last (last.Br at Straight r t) u ra to q f (inl h) e s = cc
  past_by_last (last.Br at (If k) r t) u ra to q f (inl h) e s = cc
  past_by_last (last.Call at Straight r t) u ra to q f (inl h) e s = cc
  past_by_last (last.Call at (If k) r t) u ra to q f (inl h) e s = cc
  past_by_last (last.Cond at (Branch (If k) r z) t) u ra to q f (inl h) e s = cc
  past_by_last (last.Cond at i t) u ra to q f (inl h) e s = absurd f
  past_by_last (last.CallBy at i) u ra to q f (inl h) e s = cc
  past_by_last (last.JumpBy at i) u ra to q f (inl h) e s = cc
  past_by_last (last.Br at op r t) u ra to q f (inr h) e s = absurd h
  past_by_last (last.Call at op r t) u ra to q f (inr h) e s = absurd h
  past_by_last (last.Cond at i t) u ra to q f (inr h) e s = absurd h
  past_by_last (last.CallBy at i) u ra to q f (inr h) e s = absurd h
  past_by_last (last.JumpBy at i) u ra to q f (inr h) e s = absurd h

  pub ends_there : (b : Block) (u : Word) (ra : ℕ) (to q : Place) → Has g.blocks b → Has (block_words b) u → u.act ≡ To Bsr ra to → to ≡ next_place (next_place q) → ends_past u.at q b.last ≡ true
  ends_there b u ra to q hb hu e s = by_part (has_append _ (last_words b.last) u hu)
    where
      by_part : Has (map (op_word (ops_of b)) (ops_of b)) u ⊎ Has (last_words b.last) u → ends_past u.at q b.last ≡ true
      by_part (inl m) = let r = of_op (ops_of b) (ops_of b) u m in absurd (not_op (ops_of b) r.op.kind Bsr ra to (ap (λ (x : Word). x.act) r.word ∙ e))
      by_part (inr m) = past_by_last b.last u ra to q (of.form.lasts b hb) m e s

  -- a call goes past a word of the block that begins with a pair
  pub does_pass : (b n : Block) (u y : Word) (ra : ℕ) (to : Place) → Has g.blocks b → Has (block_words b) y → b.opening ≡ true → in_pair b.label y.at ≡ true → Has g.blocks n → Has (block_words n) u → u.act ≡ To Bsr ra to → to ≡ next_place (next_place b.label) → passes g u.at y.at ≡ true
  does_pass b n u y ra to hb hy o i hn hu e s =
      let holds : holds_word y.at b ≡ true = find_some (λ w. place_eq w.at y.at) (block_words b) y hy (self_eq y.at) in
      let past : is_some (find (λ n. ends_past u.at b.label n.last) g.blocks) ≡ true = find_some (λ n. ends_past u.at b.label n.last) g.blocks n hn (ends_there n u ra to b.label hn hu e s) in
      find_some (λ b. b.opening && holds_word y.at b && goes_past g u.at b.label y.at) g.blocks b hb (rw (o, holds, i, past) refl)
