-- The words of the graph that a program is lifted to are those of the program, in order.
use Rattle.std.proofs.Common.{◌≡◌, inl, inr, ◌+◌, ◌*◌, ℕ, ℤ, suc, Bool, true, false, cond, ◌&&◌, ◌||◌, ◌==◌, List, [], ◌∷◌, ◌++◌, length, Option, Some, refl, sym, ap, ◌∙◌, subst, arith}
use Rattle.std.specs.Prelude.{map, flat_map, ◌-◌, nat_le}
use Rattle.std.proofs.lemmas.Bool.{true≢false, le-leb}
use Rattle.om_isa.specs.declared.instr.BrOp.{BrOp}
use Rattle.om_isa.specs.declared.instr.BrOp.TheVariants.{Br as Straight, Bsr, If}
use Rattle.om_isa.specs.declared.instr.Instr.{Instr}
use Rattle.om_isa.specs.declared.instr.Instr.TheVariants.{Mem, Jump, Branch, Alu, Cmov, Misc, Fnop, Halt, Callsys}
use Rattle.om_value.specs.declared.value.Place.{Place}
use Rattle.om_prog.specs.declared.item.Item.{Item}
use Rattle.om_prog.specs.declared.item.Role.{Role}
use Rattle.om_prog.specs.declared.item.Role.TheVariants as role
use Rattle.om_prog.specs.Act as act
use Rattle.om_prog.specs.Act.{Act, Word}
use Rattle.om_prog.specs.View.{ProgramView, item_at}
use Rattle.om_prog.specs.Script.{act_of}
use Rattle.om_prog.specs.Step.{next_place}
use Rattle.om_prog.specs.Valid.{fits}
use Rattle.om_graph.specs.declared.op.Op.{Op}
use Rattle.om_graph.specs.declared.op.Last.TheVariants.{Fall, Off, Br, Call, CallBy, JumpBy}
use Rattle.om_graph.specs.View.{Has}
use Rattle.om_graph.specs.Run.{shape_words, op_act, op_word, last_words}
use Rattle.om_graph.specs.Form.{ends_block}
use Rattle.om_graph.specs.Landing.{begins, word_before, of_instr}
use Rattle.om_graph.specs.Lifted.{kind_of, op_of_item, branch_last, jump_last, last_of_word, Piece, in_front, cut, piece_ops, piece_last, shape_of_piece, text_shapes}

-- ---- the words of a text

abbrev pub item_word : Place → Item → Word
item_word at i = record { at = at; act = act_of i.role i.instr }

abbrev pub text_words : Place → List Item → List Word
text_words at [] = []
text_words at (i ∷ is) = item_word at i ∷ text_words (next_place at) is

abbrev pub text_start : ℕ → Place
text_start obj = record { obj = obj; off = 0 }

abbrev pub texts_words : ℕ → List (List Item) → List Word
texts_words obj [] = []
texts_words obj (t ∷ ts) = text_words (text_start obj) t ++ texts_words (suc obj) ts

module _ (p : ProgramView) where
  -- a word with what it may stand for
  abbrev pub Stands : Place → Item → Type 0
  Stands at i = (text : List Item) × (fits p text at i.role i.instr ≡ true)

  -- ---- ops and ends

  kind_act : (ops : List Op) (text : List Item) (at : Place) (r : Role) (i : Instr) → fits p text at r i ≡ true → ends_block i ≡ false → op_act ops (kind_of r i) ≡ act_of r i
  kind_act ops text at role.Plain i f e = refl
  kind_act ops text at (role.Lit t) (Mem o ra rb d) f e = refl
  kind_act ops text at (role.GpHi base) (Mem o ra rb d) f e = refl
  kind_act ops text at (role.GpLo hi) (Mem o ra rb d) f e = refl
  kind_act ops text at (role.To q) (Branch o ra d) f e = absurd (true≢false e)
  kind_act ops text at (role.Lit t) (Jump k ra rb h) f e = absurd (true≢false e)
  kind_act ops text at (role.Lit t) (Branch o ra d) f e = absurd (true≢false e)
  kind_act ops text at (role.Lit t) (Alu o ra rb rc) f e = absurd (true≢false (sym f))
  kind_act ops text at (role.Lit t) (Cmov k ra rb rc) f e = absurd (true≢false (sym f))
  kind_act ops text at (role.Lit t) (Misc o ra rb) f e = absurd (true≢false (sym f))
  kind_act ops text at (role.Lit t) Fnop f e = absurd (true≢false (sym f))
  kind_act ops text at (role.Lit t) Halt f e = absurd (true≢false (sym f))
  kind_act ops text at (role.Lit t) Callsys f e = absurd (true≢false (sym f))
  kind_act ops text at (role.GpHi base) (Jump k ra rb h) f e = absurd (true≢false e)
  kind_act ops text at (role.GpHi base) (Branch o ra d) f e = absurd (true≢false e)
  kind_act ops text at (role.GpHi base) (Alu o ra rb rc) f e = absurd (true≢false (sym f))
  kind_act ops text at (role.GpHi base) (Cmov k ra rb rc) f e = absurd (true≢false (sym f))
  kind_act ops text at (role.GpHi base) (Misc o ra rb) f e = absurd (true≢false (sym f))
  kind_act ops text at (role.GpHi base) Fnop f e = absurd (true≢false (sym f))
  kind_act ops text at (role.GpHi base) Halt f e = absurd (true≢false (sym f))
  kind_act ops text at (role.GpHi base) Callsys f e = absurd (true≢false (sym f))
  kind_act ops text at (role.GpLo hi) (Jump k ra rb h) f e = absurd (true≢false e)
  kind_act ops text at (role.GpLo hi) (Branch o ra d) f e = absurd (true≢false e)
  kind_act ops text at (role.GpLo hi) (Alu o ra rb rc) f e = absurd (true≢false (sym f))
  kind_act ops text at (role.GpLo hi) (Cmov k ra rb rc) f e = absurd (true≢false (sym f))
  kind_act ops text at (role.GpLo hi) (Misc o ra rb) f e = absurd (true≢false (sym f))
  kind_act ops text at (role.GpLo hi) Fnop f e = absurd (true≢false (sym f))
  kind_act ops text at (role.GpLo hi) Halt f e = absurd (true≢false (sym f))
  kind_act ops text at (role.GpLo hi) Callsys f e = absurd (true≢false (sym f))
  kind_act ops text at (role.To q) (Mem o ra rb d) f e = absurd (true≢false (sym f))
  kind_act ops text at (role.To q) (Jump k ra rb h) f e = absurd (true≢false e)
  kind_act ops text at (role.To q) (Alu o ra rb rc) f e = absurd (true≢false (sym f))
  kind_act ops text at (role.To q) (Cmov k ra rb rc) f e = absurd (true≢false (sym f))
  kind_act ops text at (role.To q) (Misc o ra rb) f e = absurd (true≢false (sym f))
  kind_act ops text at (role.To q) Fnop f e = absurd (true≢false (sym f))
  kind_act ops text at (role.To q) Halt f e = absurd (true≢false (sym f))
  kind_act ops text at (role.To q) Callsys f e = absurd (true≢false (sym f))

  -- a branch or jump that ends a block is its word
  branch_words : (at : Place) (o : BrOp) (ra : ℕ) (d : ℤ) (q : Place) → last_words (branch_last at (Branch o ra d) o ra q) ≡ record { at = at; act = act.To o ra q } ∷ []
  branch_words at (If c) ra d q = refl
  branch_words at Straight ra d q = by_link (ra == 31)
    where
      by_link : (b : Bool) → last_words (cond b (Br at Straight ra q) (Call at Straight ra q)) ≡ record { at = at; act = act.To Straight ra q } ∷ []
      by_link true = refl
      by_link false = refl
  branch_words at Bsr ra d q = by_link (ra == 31)
    where
      by_link : (b : Bool) → last_words (cond b (Br at Bsr ra q) (Call at Bsr ra q)) ≡ record { at = at; act = act.To Bsr ra q } ∷ []
      by_link true = refl
      by_link false = refl

  jump_words : (at : Place) (i : Instr) (ra : ℕ) → last_words (jump_last at i ra) ≡ record { at = at; act = act.Plain i } ∷ []
  jump_words at i ra = by_link (ra == 31)
    where
      by_link : (b : Bool) → last_words (cond b (JumpBy at i) (CallBy at i)) ≡ record { at = at; act = act.Plain i } ∷ []
      by_link true = refl
      by_link false = refl

  ending_words : (text : List Item) (e : Bool) (at : Place) (r : Role) (i : Instr) → fits p text at r i ≡ true → ends_block i ≡ true → last_words (last_of_word e at r i) ≡ record { at = at; act = act_of r i } ∷ []
  ending_words text e at (role.To q) (Branch o ra d) f h = branch_words at o ra d q
  ending_words text e at role.Plain (Jump k ra rb hint) f h = jump_words at (Jump k ra rb hint) ra
  ending_words text e at role.Plain (Branch o ra d) f h = absurd (true≢false (sym f))
  ending_words text e at (role.Lit t) (Branch o ra d) f h = absurd (true≢false (sym f))
  ending_words text e at (role.Lit t) (Jump k ra rb hint) f h = absurd (true≢false (sym f))
  ending_words text e at (role.GpHi base) (Branch o ra d) f h = absurd (true≢false (sym f))
  ending_words text e at (role.GpHi base) (Jump k ra rb hint) f h = absurd (true≢false (sym f))
  ending_words text e at (role.GpLo hi) (Branch o ra d) f h = absurd (true≢false (sym f))
  ending_words text e at (role.GpLo hi) (Jump k ra rb hint) f h = absurd (true≢false (sym f))
  ending_words text e at (role.To q) (Jump k ra rb hint) f h = absurd (true≢false (sym f))
  ending_words text e at r (Mem o ra rb d) f h = absurd (true≢false (sym h))
  ending_words text e at r (Alu o ra rb rc) f h = absurd (true≢false (sym h))
  ending_words text e at r (Cmov k ra rb rc) f h = absurd (true≢false (sym h))
  ending_words text e at r (Misc o ra rb) f h = absurd (true≢false (sym h))
  ending_words text e at r Fnop f h = absurd (true≢false (sym h))
  ending_words text e at r Halt f h = absurd (true≢false (sym h))
  ending_words text e at r Callsys f h = absurd (true≢false (sym h))

  no_words : (e : Bool) → last_words (cond e Off Fall) ≡ []
  no_words true = refl
  no_words false = refl

  -- behind any other word a block ends without one
  other_words : (e : Bool) (at : Place) (r : Role) (i : Instr) → ends_block i ≡ false → last_words (last_of_word e at r i) ≡ []
  other_words e at r (Branch o ra d) h = absurd (true≢false h)
  other_words e at r (Jump k ra rb hint) h = absurd (true≢false h)
  other_words e at (role.To q) (Mem o ra rb d) h = no_words e
  other_words e at (role.To q) (Alu o ra rb rc) h = no_words e
  other_words e at (role.To q) (Cmov k ra rb rc) h = no_words e
  other_words e at (role.To q) (Misc o ra rb) h = no_words e
  other_words e at (role.To q) Fnop h = no_words e
  other_words e at (role.To q) Halt h = no_words e
  other_words e at (role.To q) Callsys h = no_words e
  other_words e at role.Plain (Mem o ra rb d) h = no_words e
  other_words e at role.Plain (Alu o ra rb rc) h = no_words e
  other_words e at role.Plain (Cmov k ra rb rc) h = no_words e
  other_words e at role.Plain (Misc o ra rb) h = no_words e
  other_words e at role.Plain Fnop h = no_words e
  other_words e at role.Plain Halt h = no_words e
  other_words e at role.Plain Callsys h = no_words e
  other_words e at (role.Lit t) (Mem o ra rb d) h = no_words e
  other_words e at (role.Lit t) (Alu o ra rb rc) h = no_words e
  other_words e at (role.Lit t) (Cmov k ra rb rc) h = no_words e
  other_words e at (role.Lit t) (Misc o ra rb) h = no_words e
  other_words e at (role.Lit t) Fnop h = no_words e
  other_words e at (role.Lit t) Halt h = no_words e
  other_words e at (role.Lit t) Callsys h = no_words e
  other_words e at (role.GpHi b) (Mem o ra rb d) h = no_words e
  other_words e at (role.GpHi b) (Alu o ra rb rc) h = no_words e
  other_words e at (role.GpHi b) (Cmov k ra rb rc) h = no_words e
  other_words e at (role.GpHi b) (Misc o ra rb) h = no_words e
  other_words e at (role.GpHi b) Fnop h = no_words e
  other_words e at (role.GpHi b) Halt h = no_words e
  other_words e at (role.GpHi b) Callsys h = no_words e
  other_words e at (role.GpLo b) (Mem o ra rb d) h = no_words e
  other_words e at (role.GpLo b) (Alu o ra rb rc) h = no_words e
  other_words e at (role.GpLo b) (Cmov k ra rb rc) h = no_words e
  other_words e at (role.GpLo b) (Misc o ra rb) h = no_words e
  other_words e at (role.GpLo b) Fnop h = no_words e
  other_words e at (role.GpLo b) Halt h = no_words e
  other_words e at (role.GpLo b) Callsys h = no_words e

  -- ---- the words of a piece

  -- each word may stand there, and no word but the last ends a block
  abbrev pub Inside : Place → List Item → Type 0
  Inside at [] = Unit {0}
  Inside at (i ∷ []) = Stands at i
  Inside at (i ∷ j ∷ is) = Stands at i × (ends_block i.instr ≡ false) × Inside (next_place at) (j ∷ is)

  single : (ops : List Op) (size : ℕ) (at : Place) (i : Item) (b : Bool) → ends_block i.instr ≡ b → Stands at i →
      map (op_word ops) (cond b [] (op_of_item at i ∷ [])) ++ last_words (last_of_word ((next_place at).off == size) at i.role i.instr) ≡ item_word at i ∷ []
  single ops size at i true e s = ending_words s.0 ((next_place at).off == size) at i.role i.instr s.1 e
  single ops size at i false e s =
      let k = kind_act ops s.0 at i.role i.instr s.1 e in
      let n = other_words ((next_place at).off == size) at i.role i.instr e in
      rw (k, n) refl

  pub piece_words : (ops : List Op) (size : ℕ) (at : Place) (is : List Item) → Inside at is → map (op_word ops) (piece_ops at is) ++ last_words (piece_last size at is) ≡ text_words at is
  piece_words ops size at [] n = refl
  piece_words ops size at (i ∷ []) n = single ops size at i _ refl n
  piece_words ops size at (i ∷ j ∷ is) n =
      let k = kind_act ops n.0.0 at i.role i.instr n.0.1 n.1 in
      let r = piece_words ops size (next_place at) (j ∷ is) n.2 in
      rw (k, r) refl

  -- ---- the words of a text that is cut

  -- the words of a text from a place on, as the program has them there
  abbrev pub Known : Place → List Item → Type 0
  Known at [] = Unit {0}
  Known at (i ∷ is) = (item_at p at ≡ Some i) × Stands at i × Known (next_place at) is

  abbrev pub pieces_words : List Piece → List Word
  pieces_words xs = flat_map (λ x. text_words x.from x.items) xs

  -- the first piece begins where the words do
  abbrev pub StartsAt : Place → List Item → List Piece → Type 0
  StartsAt at is [] = is ≡ []
  StartsAt at is (x ∷ xs) = (x.from ≡ at) × (x.items ≡ [] → ⊥)

  pub record IsCut (at : Place) (is : List Item) (xs : List Piece) : Type 0 where
    pub words : pieces_words xs ≡ text_words at is
    pub inside : (x : Piece) → Has xs x → Inside x.from x.items
    pub starts : StartsAt at is xs

  or_left : (a b : Bool) → (a || b) ≡ false → a ≡ false
  or_left true b e = e
  or_left false b e = refl

  or_right : (a b : Bool) → (a || b) ≡ false → b ≡ false
  or_right true b e = absurd (true≢false e)
  or_right false b e = e

  -- where no block begins behind a word, the word ends none
  pub goes_on : (at : Place) (i : Item) → item_at p at ≡ Some i → begins p (next_place at) ≡ false → ends_block i.instr ≡ false
  goes_on at i e b = at_word (or_right _ _ (or_left _ _ b))
    where
      same : (at.off + 4) - 4 ≡ at.off
      same = omega arith

      at_word : word_before p ends_block (next_place at) ≡ false → ends_block i.instr ≡ false
      at_word h = by_le (nat_le 4 (at.off + 4)) (le-leb 4 (at.off + 4) (omega arith)) h
        where
          by_le : (t : Bool) → t ≡ true → (t && of_instr ends_block (item_at p (record (next_place at) { off = (at.off + 4) - 4 }))) ≡ false → ends_block i.instr ≡ false
          by_le false y h = absurd (true≢false (sym y))
          by_le true y h =
              sym (ap (λ (o : Option Item). of_instr ends_block o) e)
              ∙ sym (ap (λ (x : ℕ). of_instr ends_block (item_at p (record at { off = x }))) same) ∙ h

  joined : (at : Place) (i : Item) (x : Piece) → Stands at i → ends_block i.instr ≡ false → x.from ≡ next_place at → (x.items ≡ [] → ⊥) → Inside x.from x.items → Inside at (i ∷ x.items)
  joined at i x s e f n h = by_items x.items n (subst (λ (q : Place). Inside q x.items) f h)
    where
      by_items : (is : List Item) → (is ≡ [] → ⊥) → Inside (next_place at) is → Inside at (i ∷ is)
      by_items [] n h = absurd (n refl)
      by_items (j ∷ is) n h = (s, e, h)

  in_front_is :
      (at : Place) (i : Item) (is : List Item) (xs : List Piece) → item_at p at ≡ Some i → Stands at i → IsCut (next_place at) is xs → IsCut at (i ∷ is) (in_front (begins p) at i xs)
  in_front_is at i is [] e s c = record {
    words = ap (λ (l : List Word). item_word at i ∷ l) c.words;
    inside = only;
    starts = (refl, λ e. nothing e);
  }
    where
      nothing : i ∷ [] ≡ [] → ⊥
      nothing e = cc

      only : (x : Piece) → Has (record { from = at; items = i ∷ [] } ∷ []) x → Inside x.from x.items
      only x (inl h) = subst (λ (y : Piece). Inside y.from y.items) h s
      only x (inr h) = absurd h
  in_front_is at i is (x ∷ xs) e s c = by_cut (begins p x.from) refl
    where
      nothing : (l : List Item) → i ∷ l ≡ [] → ⊥
      nothing l e = cc

      apart : (y : Piece) → Has (record { from = at; items = i ∷ [] } ∷ x ∷ xs) y → Inside y.from y.items
      apart y (inl h) = subst (λ (z : Piece). Inside z.from z.items) h s
      apart y (inr h) = c.inside y h

      by_cut : (b : Bool) → begins p x.from ≡ b → IsCut at (i ∷ is) (cond b (record { from = at; items = i ∷ [] } ∷ x ∷ xs) (record { from = at; items = i ∷ x.items } ∷ xs))
      by_cut true h = record {
        words = ap (λ (l : List Word). item_word at i ∷ l) c.words;
        inside = apart;
        starts = (refl, nothing []);
      }
      by_cut false h = record {
        words =
            ap (λ (q : Place). item_word at i ∷ (text_words q x.items ++ pieces_words xs)) (sym c.starts.0)
            ∙ ap (λ (l : List Word). item_word at i ∷ l) c.words;
        inside = together;
        starts = (refl, nothing x.items);
      }
        where
          ends : ends_block i.instr ≡ false
          ends = goes_on at i e (subst (λ (q : Place). begins p q ≡ false) c.starts.0 h)

          together : (y : Piece) → Has (record { from = at; items = i ∷ x.items } ∷ xs) y → Inside y.from y.items
          together y (inl h) = subst (λ (z : Piece). Inside z.from z.items) h (joined at i x s ends c.starts.0 c.starts.1 (c.inside x (inl refl)))
          together y (inr h) = c.inside y (inr h)

  pub is_cut : (at : Place) (is : List Item) → Known at is → IsCut at is (cut (begins p) at is)
  is_cut at [] k = record { words = refl; inside = λ x h. absurd h; starts = refl }
  is_cut at (i ∷ is) k = in_front_is at i is (cut (begins p) (next_place at) is) k.0 k.1 (is_cut (next_place at) is k.2)

  -- ---- the words of the blocks

  shapes_words : (size : ℕ) (xs : List Piece) → ((x : Piece) → Has xs x → Inside x.from x.items) → flat_map shape_words (map (shape_of_piece p size) xs) ≡ pieces_words xs
  shapes_words size [] h = refl
  shapes_words size (x ∷ xs) h =
      let a = piece_words (piece_ops x.from x.items) size x.from x.items (h x (inl refl)) in
      let r = shapes_words size xs (λ y m. h y (inr m)) in
      rw (a, r) refl

  pub text_is : (obj : ℕ) (text : List Item) → Known (text_start obj) text → flat_map shape_words (text_shapes p obj text) ≡ text_words (text_start obj) text
  text_is obj text k =
      let c = is_cut (text_start obj) text k in
      shapes_words (4 * length text) (cut (begins p) (text_start obj) text) c.inside ∙ c.words
