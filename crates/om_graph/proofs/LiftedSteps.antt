-- The blocks of a text that is lifted word by word: a word begins a block, and control falls there from the one before;
-- or it goes behind the last block's words.
use Rattle.std.proofs.Common.{◌≡◌, inl, inr, ◌<◌, ◌+◌, ◌*◌, ◌==◌, ℕ, ℤ, Bool, true, false, cond, List, [], ◌∷◌, ◌++◌, length, refl, sym, ap, ◌∙◌, arith}
use Rattle.std.specs.Prelude.{map}
use Rattle.std.proofs.lemmas.Bool.{true≢false, eqb-true, eq-eqb}
use Rattle.om_isa.specs.declared.instr.BrOp.{BrOp}
use Rattle.om_isa.specs.declared.instr.BrOp.TheVariants.{Br as Straight, Bsr, If}
use Rattle.om_isa.specs.declared.instr.JumpOp.{JumpOp}
use Rattle.om_isa.specs.declared.instr.Instr.{Instr}
use Rattle.om_isa.specs.declared.instr.Instr.TheVariants.{Mem, Jump, Branch, Alu, Cmov, Misc, Fnop, Halt, Callsys}
use Rattle.om_value.specs.declared.value.Place.{Place}
use Rattle.om_prog.specs.declared.item.Item.{Item}
use Rattle.om_prog.specs.declared.item.Role.{Role}
use Rattle.om_prog.specs.declared.item.Role.TheVariants as role
use Rattle.om_prog.specs.View.{ProgramView}
use Rattle.om_prog.specs.Step.{next_place}
use Rattle.om_graph.specs.declared.op.Op.{Op}
use Rattle.om_graph.specs.declared.op.Last.{Last}
use Rattle.om_graph.specs.declared.op.Last.TheVariants.{Br, Call, CallBy, JumpBy}
use Rattle.om_graph.specs.View.{Shape, Has}
use Rattle.om_graph.specs.Form.{ends_block}
use Rattle.om_graph.specs.Landing.{begins, is_opening_pair}
use Rattle.om_graph.specs.Lifted.{op_of_item, branch_last, jump_last, last_of_word, Piece, in_front, cut, piece_ops, piece_last, shape_of_piece, text_shapes, ended, begun, grown}
use Rattle.om_graph.proofs.Labels.{equal_places}
use Rattle.om_graph.proofs.LiftedWords.{text_start, Known, goes_on}
use Rattle.om_graph.proofs.Pieces.{Chain, chain_in, some_length, cut_is}

-- ---- pieces

-- the place behind some words
abbrev pub past : Place → List Item → Place
past at [] = at
past at (i ∷ is) = past (next_place at) is

abbrev piece_at : Place → List Item → Piece
piece_at q is = record { from = q; items = is }

-- a word behind pieces: in the last one, unless a block begins there
abbrev behind : (Place → Bool) → Place → Item → List Piece → List Piece
behind cuts q x [] = piece_at q (x ∷ []) ∷ []
behind cuts q x (y ∷ []) = cond (cuts q) (y ∷ piece_at q (x ∷ []) ∷ []) (piece_at y.from (y.items ++ x ∷ []) ∷ [])
behind cuts q x (y ∷ z ∷ zs) = y ∷ behind cuts q x (z ∷ zs)

front_behind :
    (cuts : Place → Bool) (at : Place) (i : Item) (q : Place) (x : Item) (xs : List Piece) → (xs ≡ [] → q ≡ next_place at) →
    in_front cuts at i (behind cuts q x xs) ≡ behind cuts q x (in_front cuts at i xs)
front_behind cuts at i q x [] e = by_cut (cuts q)
  where
    by_cut :
        (b : Bool) →
        cond b (piece_at at (i ∷ []) ∷ piece_at q (x ∷ []) ∷ []) (piece_at at (i ∷ x ∷ []) ∷ [])
        ≡ cond b (piece_at at (i ∷ []) ∷ piece_at q (x ∷ []) ∷ []) (piece_at at (i ∷ x ∷ []) ∷ [])
    by_cut true = refl
    by_cut false = refl
front_behind cuts at i q x (y ∷ []) e = by_cut (cuts y.from) (cuts q) refl
  where
    by_cut :
        (a b : Bool) → cuts q ≡ b →
        in_front cuts at i (cond b (y ∷ piece_at q (x ∷ []) ∷ []) (piece_at y.from (y.items ++ x ∷ []) ∷ []))
        ≡ behind cuts q x (in_front cuts at i (y ∷ []))
    by_cut a true h = by_first (cuts y.from)
      where
        by_first :
            (a : Bool) →
            cond a (piece_at at (i ∷ []) ∷ y ∷ piece_at q (x ∷ []) ∷ []) (piece_at at (i ∷ y.items) ∷ piece_at q (x ∷ []) ∷ [])
            ≡ behind cuts q x (cond a (piece_at at (i ∷ []) ∷ y ∷ []) (piece_at at (i ∷ y.items) ∷ []))
        by_first true = rw h refl
        by_first false = rw h refl
    by_cut a false h = by_first (cuts y.from)
      where
        by_first :
            (a : Bool) →
            cond a (piece_at at (i ∷ []) ∷ piece_at y.from (y.items ++ x ∷ []) ∷ []) (piece_at at (i ∷ (y.items ++ x ∷ [])) ∷ [])
            ≡ behind cuts q x (cond a (piece_at at (i ∷ []) ∷ y ∷ []) (piece_at at (i ∷ y.items) ∷ []))
        by_first true = rw h refl
        by_first false = rw h refl
front_behind cuts at i q x (y ∷ z ∷ zs) e = by_first (cuts y.from)
  where
    by_first :
        (a : Bool) →
        cond a (piece_at at (i ∷ []) ∷ y ∷ behind cuts q x (z ∷ zs)) (piece_at at (i ∷ y.items) ∷ behind cuts q x (z ∷ zs))
        ≡ behind cuts q x (cond a (piece_at at (i ∷ []) ∷ y ∷ z ∷ zs) (piece_at at (i ∷ y.items) ∷ z ∷ zs))
    by_first true = refl
    by_first false = refl

cut_none : (cuts : Place → Bool) (at : Place) (is : List Item) → cut cuts at is ≡ [] → is ≡ []
cut_none cuts at [] e = refl
cut_none cuts at (i ∷ is) e = absurd (some (cut cuts (next_place at) is) e)
  where
    some : (xs : List Piece) → in_front cuts at i xs ≡ [] → ⊥
    some [] e = cc
    some (x ∷ xs) e = by_cut (cuts x.from) e
      where
        by_cut : (b : Bool) → cond b (piece_at at (i ∷ []) ∷ x ∷ xs) (piece_at at (i ∷ x.items) ∷ xs) ≡ [] → ⊥
        by_cut true e = cc
        by_cut false e = cc

pub cut_behind : (cuts : Place → Bool) (at : Place) (is : List Item) (x : Item) → cut cuts at (is ++ x ∷ []) ≡ behind cuts (past at is) x (cut cuts at is)
cut_behind cuts at [] x = refl
cut_behind cuts at (i ∷ is) x =
    ap (λ (xs : List Piece). in_front cuts at i xs) (cut_behind cuts (next_place at) is x)
    ∙ front_behind cuts at i (past (next_place at) is) x (cut cuts (next_place at) is) (λ e. ap (past (next_place at)) (cut_none cuts (next_place at) is e))

-- ---- the end of a piece

branch_falls : (at : Place) (o : BrOp) (ra : ℕ) (d : ℤ) (q : Place) → branch_last at (Branch o ra d) o ra q ≡ ended (branch_last at (Branch o ra d) o ra q)
branch_falls at (If c) ra d q = refl
branch_falls at Straight ra d q = by_link (ra == 31)
  where
    by_link : (b : Bool) → cond b (Br at Straight ra q) (Call at Straight ra q) ≡ ended (cond b (Br at Straight ra q) (Call at Straight ra q))
    by_link true = refl
    by_link false = refl
branch_falls at Bsr ra d q = by_link (ra == 31)
  where
    by_link : (b : Bool) → cond b (Br at Bsr ra q) (Call at Bsr ra q) ≡ ended (cond b (Br at Bsr ra q) (Call at Bsr ra q))
    by_link true = refl
    by_link false = refl

jump_falls : (at : Place) (k : JumpOp) (ra rb h : ℕ) → jump_last at (Jump k ra rb h) ra ≡ ended (jump_last at (Jump k ra rb h) ra)
jump_falls at k ra rb h = by_link (ra == 31)
  where
    by_link : (b : Bool) → cond b (JumpBy at (Jump k ra rb h)) (CallBy at (Jump k ra rb h)) ≡ ended (cond b (JumpBy at (Jump k ra rb h)) (CallBy at (Jump k ra rb h)))
    by_link true = refl
    by_link false = refl

word_falls : (at : Place) (r : Role) (i : Instr) → last_of_word false at r i ≡ ended (last_of_word true at r i)
word_falls at role.Plain (Mem o ra rb d) = refl
word_falls at role.Plain (Jump k ra rb h) = jump_falls at k ra rb h
word_falls at role.Plain (Branch o ra d) = refl
word_falls at role.Plain (Alu o ra rb rc) = refl
word_falls at role.Plain (Cmov k ra rb rc) = refl
word_falls at role.Plain (Misc o ra rb) = refl
word_falls at role.Plain Fnop = refl
word_falls at role.Plain Halt = refl
word_falls at role.Plain Callsys = refl
word_falls at (role.Lit t) (Mem o ra rb d) = refl
word_falls at (role.Lit t) (Jump k ra rb h) = jump_falls at k ra rb h
word_falls at (role.Lit t) (Branch o ra d) = refl
word_falls at (role.Lit t) (Alu o ra rb rc) = refl
word_falls at (role.Lit t) (Cmov k ra rb rc) = refl
word_falls at (role.Lit t) (Misc o ra rb) = refl
word_falls at (role.Lit t) Fnop = refl
word_falls at (role.Lit t) Halt = refl
word_falls at (role.Lit t) Callsys = refl
word_falls at (role.GpHi base) (Mem o ra rb d) = refl
word_falls at (role.GpHi base) (Jump k ra rb h) = jump_falls at k ra rb h
word_falls at (role.GpHi base) (Branch o ra d) = refl
word_falls at (role.GpHi base) (Alu o ra rb rc) = refl
word_falls at (role.GpHi base) (Cmov k ra rb rc) = refl
word_falls at (role.GpHi base) (Misc o ra rb) = refl
word_falls at (role.GpHi base) Fnop = refl
word_falls at (role.GpHi base) Halt = refl
word_falls at (role.GpHi base) Callsys = refl
word_falls at (role.GpLo hi) (Mem o ra rb d) = refl
word_falls at (role.GpLo hi) (Jump k ra rb h) = jump_falls at k ra rb h
word_falls at (role.GpLo hi) (Branch o ra d) = refl
word_falls at (role.GpLo hi) (Alu o ra rb rc) = refl
word_falls at (role.GpLo hi) (Cmov k ra rb rc) = refl
word_falls at (role.GpLo hi) (Misc o ra rb) = refl
word_falls at (role.GpLo hi) Fnop = refl
word_falls at (role.GpLo hi) Halt = refl
word_falls at (role.GpLo hi) Callsys = refl
word_falls at (role.To q) (Mem o ra rb d) = refl
word_falls at (role.To q) (Jump k ra rb h) = jump_falls at k ra rb h
word_falls at (role.To q) (Branch o ra d) = branch_falls at o ra d q
word_falls at (role.To q) (Alu o ra rb rc) = refl
word_falls at (role.To q) (Cmov k ra rb rc) = refl
word_falls at (role.To q) (Misc o ra rb) = refl
word_falls at (role.To q) Fnop = refl
word_falls at (role.To q) Halt = refl
word_falls at (role.To q) Callsys = refl

not_eq : (a b : ℕ) → (a ≡ b → ⊥) → (a == b) ≡ false
not_eq a b n = by_case (a == b) refl
  where
    by_case : (t : Bool) → (a == b) ≡ t → (a == b) ≡ false
    by_case true e = absurd (n (eqb-true a b e))
    by_case false e = e

-- where the text went on behind a piece, and goes on further, its end stays
last_same : (s t : ℕ) (at : Place) (is : List Item) → (at.off + 4 * length is ≡ s → ⊥) → (at.off + 4 * length is ≡ t → ⊥) → piece_last t at is ≡ piece_last s at is
last_same s t at [] m n = refl
last_same s t at (i ∷ []) m n =
    ap (λ (b : Bool). last_of_word b at i.role i.instr) (not_eq (at.off + 4) t (λ e. n (omega (arith, e))) ∙ sym (not_eq (at.off + 4) s (λ e. m (omega (arith, e)))))
last_same s t at (i ∷ j ∷ is) m n = last_same s t (next_place at) (j ∷ is) (λ e. m (omega (arith, e))) (λ e. n (omega (arith, e)))

-- where the text ended behind it, and does no more, control falls
last_ended : (s t : ℕ) (at : Place) (is : List Item) → at.off + 4 * length is ≡ s → (s ≡ t → ⊥) → (is ≡ [] → ⊥) → piece_last t at is ≡ ended (piece_last s at is)
last_ended s t at [] e n m = absurd (m refl)
last_ended s t at (i ∷ []) e n m =
    ap (λ (b : Bool). last_of_word b at i.role i.instr) (not_eq (at.off + 4) t (λ x. n (omega (arith, e, x))))
    ∙ word_falls at i.role i.instr
    ∙ sym (ap (λ (b : Bool). ended (last_of_word b at i.role i.instr)) (eq-eqb (at.off + 4) s (omega (arith, e))))
last_ended s t at (i ∷ j ∷ is) e n m = last_ended s t (next_place at) (j ∷ is) (omega (arith, e)) n (λ x. cc)

-- ---- a word more in a piece

last_more : (t : ℕ) (at : Place) (is : List Item) (x : Item) → at.off + 4 * length is + 4 ≡ t → piece_last t at (is ++ x ∷ []) ≡ last_of_word true (past at is) x.role x.instr
last_more t at [] x e = ap (λ (b : Bool). last_of_word b at x.role x.instr) (eq-eqb (at.off + 4) t (omega (arith, e)))
last_more t at (i ∷ []) x e = last_more t (next_place at) [] x (omega (arith, e))
last_more t at (i ∷ j ∷ is) x e = last_more t (next_place at) (j ∷ is) x (omega (arith, e))

-- the last of some words ends no block
abbrev LastGoesOn : List Item → Type 0
LastGoesOn [] = Unit {0}
LastGoesOn (i ∷ []) = ends_block i.instr ≡ false
LastGoesOn (i ∷ j ∷ is) = LastGoesOn (j ∷ is)

ops_more : (at : Place) (is : List Item) (x : Item) → LastGoesOn is → piece_ops at (is ++ x ∷ []) ≡ piece_ops at is ++ cond (ends_block x.instr) [] (op_of_item (past at is) x ∷ [])
ops_more at [] x g = refl
ops_more at (i ∷ []) x g = by_end (ends_block i.instr) g
  where
    by_end : (b : Bool) → b ≡ false → op_of_item at i ∷ piece_ops (next_place at) (x ∷ []) ≡ cond b [] (op_of_item at i ∷ []) ++ cond (ends_block x.instr) [] (op_of_item (next_place at) x ∷ [])
    by_end true e = absurd (true≢false e)
    by_end false e = refl
ops_more at (i ∷ j ∷ is) x g = ap (λ (l : List Op). op_of_item at i ∷ l) (ops_more (next_place at) (j ∷ is) x g)

-- ---- the blocks of a text

chain_below : (obj s k : ℕ) (x : Piece) (xs : List Piece) → Chain obj s k (x ∷ xs) → k < s
chain_below obj s k x xs c =
    let l = some_length obj s x c.2 in
    let i = chain_in obj s k (x ∷ xs) x c (inl refl) in
    let i0 = i.0 in
    let i1 = i.1 in
    omega (arith, l, i0, i1)

module _ (p : ProgramView) where
  last_goes_on : (at : Place) (is : List Item) → Known p at is → begins p (past at is) ≡ false → LastGoesOn is
  last_goes_on at [] k b = tt
  last_goes_on at (i ∷ []) k b = goes_on p at i k.0 b
  last_goes_on at (i ∷ j ∷ is) k b = last_goes_on (next_place at) (j ∷ is) k.2 b

  past_is : (at : Place) (is : List Item) (q : Place) → q.obj ≡ at.obj → q.off ≡ at.off + 4 * length is → past at is ≡ q
  past_is at [] q o e = equal_places at q (sym o) (omega (arith, e))
  past_is at (i ∷ is) q o e = past_is (next_place at) is q o (omega (arith, e))

  -- pieces up to the text's end s, and the word that follows at q
  shapes_more :
      (obj s k : ℕ) (q : Place) (x : Item) (xs : List Piece) → Chain obj s k xs → ((y : Piece) → Has xs y → Known p y.from y.items) → q.obj ≡ obj → q.off ≡ s → (xs ≡ [] → begins p q ≡ true) →
      map (shape_of_piece p (s + 4)) (behind (begins p) q x xs) ≡ cond (begins p q) (begun p q x (map (shape_of_piece p s) xs)) (grown q x (map (shape_of_piece p s) xs))
  shapes_more obj s k q x [] c known o e first =
      let b = first refl in
      ap (λ (t : Bool). record { label = q; opening = is_opening_pair p q; ops = piece_ops q (x ∷ []); last = last_of_word t q x.role x.instr } ∷ []) (eq-eqb (q.off + 4) (s + 4) (omega (arith, e)))
      ∙ sym (ap (λ (t : Bool). cond t (begun p q x []) (grown q x [])) b)
  shapes_more obj s k q x (y ∷ []) c known o e first = by_begin (begins p q) refl
    where
      here : y.from.off + 4 * length y.items ≡ s
      here = let a = c.1 in let b = c.3 in omega (arith, a, b)

      there : past y.from y.items ≡ q
      there = past_is y.from y.items q (o ∙ sym c.0) (let h = here in omega (arith, e, h))

      new_last : (q.off + 4 == s + 4) ≡ true
      new_last = eq-eqb (q.off + 4) (s + 4) (omega (arith, e))

      by_begin :
          (b : Bool) → begins p q ≡ b →
          map (shape_of_piece p (s + 4)) (cond b (y ∷ piece_at q (x ∷ []) ∷ []) (piece_at y.from (y.items ++ x ∷ []) ∷ []))
          ≡ cond b (begun p q x (shape_of_piece p s y ∷ [])) (grown q x (shape_of_piece p s y ∷ []))
      by_begin true h =
          let l = last_ended s (s + 4) y.from y.items here (λ n. omega (arith, n)) c.2 in
          let n = new_last in
          rw (l, n) refl
      by_begin false h =
          let g = last_goes_on y.from y.items (known y (inl refl)) (ap (λ (z : Place). begins p z) there ∙ h) in
          let m = ops_more y.from y.items x g ∙ ap (λ (z : Place). piece_ops y.from y.items ++ cond (ends_block x.instr) [] (op_of_item z x ∷ [])) there in
          let l = last_more (s + 4) y.from y.items x (let w = here in omega (arith, w)) ∙ ap (λ (z : Place). last_of_word true z x.role x.instr) there in
          rw (m, l) refl
  shapes_more obj s k q x (y ∷ z ∷ zs) c known o e first =
      let a = c.1 in
      let d = c.3.1 in
      let u = chain_below obj s (k + 4 * length y.items) z zs c.3 in
      let l = last_same s (s + 4) y.from y.items (λ n. omega (arith, n, a, u)) (λ n. omega (arith, n, a, u)) in
      let r = shapes_more obj s (k + 4 * length y.items) q x (z ∷ zs) c.3 (λ w h. known w (inr h)) o e none in
      ap (λ (t : Last). record { label = y.from; opening = is_opening_pair p y.from; ops = piece_ops y.from y.items; last = t } ∷ map (shape_of_piece p (s + 4)) (behind (begins p) q x (z ∷ zs))) l
      ∙ ap (λ (ss : List Shape). shape_of_piece p s y ∷ ss) r ∙ by_begin (begins p q)
    where
      none : z ∷ zs ≡ [] → begins p q ≡ true
      none n = cc

      by_begin :
          (b : Bool) →
          shape_of_piece p s y ∷ cond b (begun p q x (map (shape_of_piece p s) (z ∷ zs))) (grown q x (map (shape_of_piece p s) (z ∷ zs)))
          ≡ cond b (begun p q x (map (shape_of_piece p s) (y ∷ z ∷ zs))) (grown q x (map (shape_of_piece p s) (y ∷ z ∷ zs)))
      by_begin true = refl
      by_begin false = refl

  -- the blocks of a text with one word more
  pub text_more :
      (obj : ℕ) (is : List Item) (x : Item) (q : Place) → Known p (text_start obj) is → q.obj ≡ obj → q.off ≡ 4 * length is →
      text_shapes p obj (is ++ x ∷ []) ≡ cond (begins p q) (begun p q x (text_shapes p obj is)) (grown q x (text_shapes p obj is))
  text_more obj is x q k o e =
      let c = cut_is p obj (4 * length is) (text_start obj) is refl (omega arith) k in
      let n = length_more is x in
      let there = past_is (text_start obj) is q o (omega (arith, e)) in
      ap (λ (s : ℕ). map (shape_of_piece p s) (cut (begins p) (text_start obj) (is ++ x ∷ []))) n
      ∙ ap (λ (xs : List Piece). map (shape_of_piece p (4 * length is + 4)) xs)
      (cut_behind (begins p) (text_start obj) is x ∙ ap (λ (z : Place). behind (begins p) z x (cut (begins p) (text_start obj) is)) there)
      ∙ shapes_more obj (4 * length is) 0 q x (cut (begins p) (text_start obj) is) c.chain c.known o e (λ h. first (cut_none (begins p) (text_start obj) is h))
    where
      length_more : (is : List Item) (x : Item) → 4 * length (is ++ x ∷ []) ≡ 4 * length is + 4
      length_more [] x = omega arith
      length_more (i ∷ is) x = let r = length_more is x in omega (arith, r)

      first : is ≡ [] → begins p q ≡ true
      first h =
          let z = ap (λ (l : List Item). length l) h in
          let off : (q.off == 0) ≡ true = eq-eqb q.off 0 (omega (arith, e, z)) in
          rw off refl
