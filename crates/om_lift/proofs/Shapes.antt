-- The blocks of a graph as its last one is edited, by what the graph means.
use Rattle.std.proofs.Common.{◌≡◌, ℕ, Bool, true, false, cond, ◌==◌, List, [], ◌∷◌, ◌++◌, Option, Some, None, refl, sym, ap, ◌∙◌}
use Rattle.std.specs.Prelude.{map, find, is_some, option_map}
use Rattle.std.proofs.lemmas.Bool.{true≢false, eq-eqb}
use Rattle.om_isa.specs.declared.instr.Instr.{Instr}
use Rattle.om_isa.specs.declared.instr.Instr.TheVariants.{Mem, Jump, Branch, Alu, Cmov, Misc, Fnop, Halt, Callsys}
use Rattle.om_value.specs.declared.value.Place.{Place}
use Rattle.om_prog.specs.declared.item.Item.{Item}
use Rattle.om_prog.specs.declared.item.Role.{Role}
use Rattle.om_prog.specs.declared.item.Role.TheVariants as role
use Rattle.om_graph.specs.declared.op.Op.{Op}
use Rattle.om_graph.specs.declared.op.Last.{Last}
use Rattle.om_graph.specs.declared.op.Last.TheVariants.{Fall, Off, Br, Cond, Call, CallBy, JumpBy}
use Rattle.om_graph.specs.View.{Node, Block, Shape, shape_of, is_block, last_in, op_added_in, new_block}
use Rattle.om_graph.specs.Held.{label_list}
use Rattle.om_graph.specs.Form.{ends_block}
use Rattle.om_graph.specs.Lifted.{op_of_item, last_of_word, word_ops, ended, fallen, grown}
use Rattle.om_lift.specs.Lifting.{IsLast, EndsOff}

-- ---- the last of some blocks

-- another end of the last block
abbrev pub end_set : Last → List Shape → List Shape
end_set l [] = []
end_set l (s ∷ []) = record s { last = l } ∷ []
end_set l (s ∷ t ∷ ss) = s ∷ end_set l (t ∷ ss)

-- an op more in the last block
abbrev pub end_grown : Op → List Shape → List Shape
end_grown o [] = []
end_grown o (s ∷ []) = record s { ops = s.ops ++ o ∷ [] } ∷ []
end_grown o (s ∷ t ∷ ss) = s ∷ end_grown o (t ∷ ss)

abbrev pub end_of : List Shape → Option Last
end_of [] = None
end_of (s ∷ []) = Some s.last
end_of (s ∷ t ∷ ss) = end_of (t ∷ ss)

-- ---- another end

last_same : (id : ℕ) (l : Last) (b : Block) → is_block id b ≡ false → last_in id l b ≡ b
last_same id l b e = ap (λ (t : Bool). cond t (record b { last = l }) b) e

last_this : (id : ℕ) (l : Last) (b : Block) → is_block id b ≡ true → last_in id l b ≡ record b { last = l }
last_this id l b e = ap (λ (t : Bool). cond t (record b { last = l }) b) e

pub set_shapes : (id : ℕ) (l : Last) (bs : List Block) → IsLast id bs → map shape_of (map (last_in id l) bs) ≡ end_set l (map shape_of bs)
set_shapes id l [] h = absurd h
set_shapes id l (b ∷ []) h = ap (λ (x : Block). shape_of x ∷ []) (last_this id l b h)
set_shapes id l (b ∷ c ∷ bs) h =
    ap (λ (x : Block). shape_of x ∷ map shape_of (map (last_in id l) (c ∷ bs))) (last_same id l b h.0)
    ∙ ap (λ (xs : List Shape). shape_of b ∷ xs) (set_shapes id l (c ∷ bs) h.1)

set_label : (id : ℕ) (l : Last) (b : Block) → (last_in id l b).label ≡ b.label
set_label id l b = by_case (is_block id b)
  where
    by_case : (t : Bool) → (cond t (record b { last = l }) b).label ≡ b.label
    by_case true = refl
    by_case false = refl

set_id : (id : ℕ) (l : Last) (b : Block) → (last_in id l b).id ≡ b.id
set_id id l b = by_case (is_block id b)
  where
    by_case : (t : Bool) → (cond t (record b { last = l }) b).id ≡ b.id
    by_case true = refl
    by_case false = refl

pub set_labels : (id : ℕ) (l : Last) (bs : List Block) → label_list (map (last_in id l) bs) ≡ label_list bs
set_labels id l [] = refl
set_labels id l (b ∷ bs) =
    ap (λ (q : Place). q ∷ label_list (map (last_in id l) bs)) (set_label id l b) ∙ ap (λ (qs : List Place). b.label ∷ qs) (set_labels id l bs)

pub set_is : (id : ℕ) (l : Last) (bs : List Block) → IsLast id bs → IsLast id (map (last_in id l) bs)
set_is id l [] h = absurd h
set_is id l (b ∷ []) h = ap (λ (n : ℕ). n == id) (set_id id l b) ∙ h
set_is id l (b ∷ c ∷ bs) h = (ap (λ (n : ℕ). n == id) (set_id id l b) ∙ h.0, set_is id l (c ∷ bs) h.1)

-- ---- an op more

op_same : (id : ℕ) (n : Node) (b : Block) → is_block id b ≡ false → op_added_in id n b ≡ b
op_same id n b e = ap (λ (t : Bool). cond t (record b { ops = b.ops ++ n ∷ [] }) b) e

op_this : (id : ℕ) (n : Node) (b : Block) → is_block id b ≡ true → op_added_in id n b ≡ record b { ops = b.ops ++ n ∷ [] }
op_this id n b e = ap (λ (t : Bool). cond t (record b { ops = b.ops ++ n ∷ [] }) b) e

ops_more : (ns : List Node) (n : Node) → map (λ m. m.op) (ns ++ n ∷ []) ≡ map (λ m. m.op) ns ++ n.op ∷ []
ops_more [] n = refl
ops_more (m ∷ ms) n = ap (λ (os : List Op). m.op ∷ os) (ops_more ms n)

pub add_shapes : (id : ℕ) (n : Node) (bs : List Block) → IsLast id bs → map shape_of (map (op_added_in id n) bs) ≡ end_grown n.op (map shape_of bs)
add_shapes id n [] h = absurd h
add_shapes id n (b ∷ []) h =
    ap (λ (x : Block). shape_of x ∷ []) (op_this id n b h)
    ∙ ap (λ (os : List Op). record { label = b.label; opening = b.opening; ops = os; last = b.last } ∷ []) (ops_more b.ops n)
add_shapes id n (b ∷ c ∷ bs) h =
    ap (λ (x : Block). shape_of x ∷ map shape_of (map (op_added_in id n) (c ∷ bs))) (op_same id n b h.0)
    ∙ ap (λ (xs : List Shape). shape_of b ∷ xs) (add_shapes id n (c ∷ bs) h.1)

add_label : (id : ℕ) (n : Node) (b : Block) → (op_added_in id n b).label ≡ b.label
add_label id n b = by_case (is_block id b)
  where
    by_case : (t : Bool) → (cond t (record b { ops = b.ops ++ n ∷ [] }) b).label ≡ b.label
    by_case true = refl
    by_case false = refl

add_id : (id : ℕ) (n : Node) (b : Block) → (op_added_in id n b).id ≡ b.id
add_id id n b = by_case (is_block id b)
  where
    by_case : (t : Bool) → (cond t (record b { ops = b.ops ++ n ∷ [] }) b).id ≡ b.id
    by_case true = refl
    by_case false = refl

pub add_labels : (id : ℕ) (n : Node) (bs : List Block) → label_list (map (op_added_in id n) bs) ≡ label_list bs
add_labels id n [] = refl
add_labels id n (b ∷ bs) =
    ap (λ (q : Place). q ∷ label_list (map (op_added_in id n) bs)) (add_label id n b) ∙ ap (λ (qs : List Place). b.label ∷ qs) (add_labels id n bs)

pub add_is : (id : ℕ) (n : Node) (bs : List Block) → IsLast id bs → IsLast id (map (op_added_in id n) bs)
add_is id n [] h = absurd h
add_is id n (b ∷ []) h = ap (λ (m : ℕ). m == id) (add_id id n b) ∙ h
add_is id n (b ∷ c ∷ bs) h = (ap (λ (m : ℕ). m == id) (add_id id n b) ∙ h.0, add_is id n (c ∷ bs) h.1)

-- ---- a block more

pub new_shapes : (id : ℕ) (q : Place) (opening : Bool) (bs : List Block) → map shape_of (bs ++ new_block id q opening ∷ []) ≡ map shape_of bs ++ shape_of (new_block id q opening) ∷ []
new_shapes id q opening [] = refl
new_shapes id q opening (b ∷ bs) = ap (λ (xs : List Shape). shape_of b ∷ xs) (new_shapes id q opening bs)

pub new_labels : (id : ℕ) (q : Place) (opening : Bool) (bs : List Block) → label_list (bs ++ new_block id q opening ∷ []) ≡ label_list bs ++ q ∷ []
new_labels id q opening [] = refl
new_labels id q opening (b ∷ bs) = ap (λ (qs : List Place). b.label ∷ qs) (new_labels id q opening bs)

pub new_is : (id : ℕ) (q : Place) (opening : Bool) (bs : List Block) → is_some (find (is_block id) bs) ≡ false → IsLast id (bs ++ new_block id q opening ∷ [])
new_is id q opening [] h = eq-eqb id id refl
new_is id q opening (b ∷ []) h = (by_case (is_block id b) h, eq-eqb id id refl)
  where
    by_case : (t : Bool) → is_some (cond t (Some b) None) ≡ false → t ≡ false
    by_case true e = absurd (true≢false e)
    by_case false e = refl
new_is id q opening (b ∷ c ∷ bs) h = by_case (is_block id b) refl h (new_is id q opening (c ∷ bs))
  where
    by_case :
        (t : Bool) → is_block id b ≡ t → is_some (cond t (Some b) (find (is_block id) (c ∷ bs))) ≡ false →
        (is_some (find (is_block id) (c ∷ bs)) ≡ false → IsLast id (c ∷ bs ++ new_block id q opening ∷ [])) →
        IsLast id (b ∷ c ∷ bs ++ new_block id q opening ∷ [])
    by_case true f e rest = absurd (true≢false e)
    by_case false f e rest = (f, rest e)

-- ---- reading

pub is_live : (id : ℕ) (bs : List Block) → IsLast id bs → is_some (find (is_block id) bs) ≡ true
is_live id [] h = absurd h
is_live id (b ∷ []) h = ap (λ (t : Bool). is_some (cond t (Some b) None)) h
is_live id (b ∷ c ∷ bs) h = ap (λ (t : Bool). is_some (cond t (Some b) (find (is_block id) (c ∷ bs)))) h.0 ∙ is_live id (c ∷ bs) h.1

pub end_is : (id : ℕ) (bs : List Block) → IsLast id bs → option_map (λ b. b.last) (find (is_block id) bs) ≡ end_of (map shape_of bs)
end_is id [] h = absurd h
end_is id (b ∷ []) h = ap (λ (t : Bool). option_map (λ b. b.last) (cond t (Some b) None)) h
end_is id (b ∷ c ∷ bs) h = ap (λ (t : Bool). option_map (λ b. b.last) (cond t (Some b) (find (is_block id) (c ∷ bs)))) h.0 ∙ end_is id (c ∷ bs) h.1

-- ---- falling

pub off_falls : (ss : List Shape) → end_of ss ≡ Some Off → end_set Fall ss ≡ fallen ss
off_falls [] e = refl
off_falls (s ∷ []) e = let f : s.last ≡ Off = cc in ap (λ (l : Last). record s { last = l } ∷ []) (sym (ap ended f))
off_falls (s ∷ t ∷ ss) e = ap (λ (xs : List Shape). s ∷ xs) (off_falls (t ∷ ss) e)

stays : (l : Last) → (l ≡ Off → ⊥) → ended l ≡ l
stays Off n = absurd (n refl)
stays Fall n = refl
stays (Br at o ra to) n = refl
stays (Cond at i to) n = refl
stays (Call at o ra to) n = refl
stays (CallBy at i) n = refl
stays (JumpBy at i) n = refl

pub other_falls : (l : Last) (ss : List Shape) → end_of ss ≡ Some l → (l ≡ Off → ⊥) → ss ≡ fallen ss
other_falls l [] e n = refl
other_falls l (s ∷ []) e n =
    let f : s.last ≡ l = cc in
    ap (λ (x : Last). record s { last = x } ∷ []) (sym (ap ended f ∙ stays l n ∙ sym f))
other_falls l (s ∷ t ∷ ss) e n = ap (λ (xs : List Shape). s ∷ xs) (other_falls l (t ∷ ss) e n)

-- ---- growing

not_ending : (at : Place) (r : Role) (i : Instr) → ends_block i ≡ false → last_of_word true at r i ≡ Off
not_ending at r (Branch o ra d) h = absurd (true≢false h)
not_ending at r (Jump k ra rb h) e = absurd (true≢false e)
not_ending at (role.To q) (Mem o ra rb d) h = refl
not_ending at (role.To q) (Alu o ra rb rc) h = refl
not_ending at (role.To q) (Cmov k ra rb rc) h = refl
not_ending at (role.To q) (Misc o ra rb) h = refl
not_ending at (role.To q) Fnop h = refl
not_ending at (role.To q) Halt h = refl
not_ending at (role.To q) Callsys h = refl
not_ending at role.Plain (Mem o ra rb d) h = refl
not_ending at role.Plain (Alu o ra rb rc) h = refl
not_ending at role.Plain (Cmov k ra rb rc) h = refl
not_ending at role.Plain (Misc o ra rb) h = refl
not_ending at role.Plain Fnop h = refl
not_ending at role.Plain Halt h = refl
not_ending at role.Plain Callsys h = refl
not_ending at (role.Lit t) (Mem o ra rb d) h = refl
not_ending at (role.Lit t) (Alu o ra rb rc) h = refl
not_ending at (role.Lit t) (Cmov k ra rb rc) h = refl
not_ending at (role.Lit t) (Misc o ra rb) h = refl
not_ending at (role.Lit t) Fnop h = refl
not_ending at (role.Lit t) Halt h = refl
not_ending at (role.Lit t) Callsys h = refl
not_ending at (role.GpHi base) (Mem o ra rb d) h = refl
not_ending at (role.GpHi base) (Alu o ra rb rc) h = refl
not_ending at (role.GpHi base) (Cmov k ra rb rc) h = refl
not_ending at (role.GpHi base) (Misc o ra rb) h = refl
not_ending at (role.GpHi base) Fnop h = refl
not_ending at (role.GpHi base) Halt h = refl
not_ending at (role.GpHi base) Callsys h = refl
not_ending at (role.GpLo hi) (Mem o ra rb d) h = refl
not_ending at (role.GpLo hi) (Alu o ra rb rc) h = refl
not_ending at (role.GpLo hi) (Cmov k ra rb rc) h = refl
not_ending at (role.GpLo hi) (Misc o ra rb) h = refl
not_ending at (role.GpLo hi) Fnop h = refl
not_ending at (role.GpLo hi) Halt h = refl
not_ending at (role.GpLo hi) Callsys h = refl

nothing_more : (os : List Op) → os ≡ os ++ []
nothing_more [] = refl
nothing_more (o ∷ os) = ap (λ (xs : List Op). o ∷ xs) (nothing_more os)

-- a branch or a jump ends the last block
pub ending_grows : (q : Place) (x : Item) (ss : List Shape) → ends_block x.instr ≡ true → end_set (last_of_word true q x.role x.instr) ss ≡ grown q x ss
ending_grows q x [] e = refl
ending_grows q x (s ∷ []) e =
    let n : word_ops q x ≡ [] = ap (λ (t : Bool). cond t [] (op_of_item q x ∷ [])) e in
    ap (λ (os : List Op). record s { ops = os; last = last_of_word true q x.role x.instr } ∷ []) (nothing_more s.ops ∙ sym (ap (λ (os : List Op). s.ops ++ os) n))
ending_grows q x (s ∷ t ∷ ss) e = ap (λ (xs : List Shape). s ∷ xs) (ending_grows q x (t ∷ ss) e)

-- any other word is an op of it
pub going_grows : (q : Place) (x : Item) (ss : List Shape) → ends_block x.instr ≡ false → EndsOff ss → end_grown (op_of_item q x) ss ≡ grown q x ss
going_grows q x [] e h = refl
going_grows q x (s ∷ []) e h =
    let n : word_ops q x ≡ op_of_item q x ∷ [] = ap (λ (t : Bool). cond t [] (op_of_item q x ∷ [])) e in
    ap (λ (os : List Op). record s { ops = s.ops ++ os } ∷ []) (sym n)
    ∙ ap (λ (l : Last). record s { ops = s.ops ++ word_ops q x; last = l } ∷ []) (h ∙ sym (not_ending q x.role x.instr e))
going_grows q x (s ∷ t ∷ ss) e h = ap (λ (xs : List Shape). s ∷ xs) (going_grows q x (t ∷ ss) e h)

pub grown_off : (q : Place) (x : Item) (ss : List Shape) → ends_block x.instr ≡ false → EndsOff (grown q x ss)
grown_off q x [] e = tt
grown_off q x (s ∷ []) e = not_ending q x.role x.instr e
grown_off q x (s ∷ t ∷ []) e = not_ending q x.role x.instr e
grown_off q x (s ∷ t ∷ u ∷ ss) e = grown_off q x (t ∷ u ∷ ss) e

-- ---- a front

pub off_snoc : (ss : List Shape) (s : Shape) → s.last ≡ Off → EndsOff (ss ++ s ∷ [])
off_snoc [] s e = e
off_snoc (t ∷ []) s e = e
off_snoc (t ∷ u ∷ ss) s e = off_snoc (u ∷ ss) s e

pub grown_snoc : (q : Place) (x : Item) (ss : List Shape) (s : Shape) → grown q x (ss ++ s ∷ []) ≡ ss ++ record s { ops = s.ops ++ word_ops q x; last = last_of_word true q x.role x.instr } ∷ []
grown_snoc q x [] s = refl
grown_snoc q x (t ∷ []) s = refl
grown_snoc q x (t ∷ u ∷ ss) s = ap (λ (xs : List Shape). t ∷ xs) (grown_snoc q x (u ∷ ss) s)

pub grown_front : (q : Place) (x : Item) (fs ss : List Shape) → (ss ≡ [] → ⊥) → grown q x (fs ++ ss) ≡ fs ++ grown q x ss
grown_front q x [] ss n = refl
grown_front q x (f ∷ []) [] n = absurd (n refl)
grown_front q x (f ∷ []) (s ∷ ss) n = refl
grown_front q x (f ∷ g ∷ fs) ss n = ap (λ (xs : List Shape). f ∷ xs) (grown_front q x (g ∷ fs) ss n)

pub fallen_front : (fs ss : List Shape) → (ss ≡ [] → ⊥) → fallen (fs ++ ss) ≡ fs ++ fallen ss
fallen_front [] ss n = refl
fallen_front (f ∷ []) [] n = absurd (n refl)
fallen_front (f ∷ []) (s ∷ ss) n = refl
fallen_front (f ∷ g ∷ fs) ss n = ap (λ (xs : List Shape). f ∷ xs) (fallen_front (g ∷ fs) ss n)

-- ---- labels

abbrev pub shape_labels : List Shape → List Place
shape_labels ss = map (λ s. s.label) ss

pub labels_of : (bs : List Block) → label_list bs ≡ shape_labels (map shape_of bs)
labels_of [] = refl
labels_of (b ∷ bs) = ap (λ (qs : List Place). b.label ∷ qs) (labels_of bs)

pub grown_labels : (q : Place) (x : Item) (ss : List Shape) → shape_labels (grown q x ss) ≡ shape_labels ss
grown_labels q x [] = refl
grown_labels q x (s ∷ []) = refl
grown_labels q x (s ∷ t ∷ ss) = ap (λ (qs : List Place). s.label ∷ qs) (grown_labels q x (t ∷ ss))

pub fallen_labels : (ss : List Shape) → shape_labels (fallen ss) ≡ shape_labels ss
fallen_labels [] = refl
fallen_labels (s ∷ []) = refl
fallen_labels (s ∷ t ∷ ss) = ap (λ (qs : List Place). s.label ∷ qs) (fallen_labels (t ∷ ss))

pub snoc_labels : (ss : List Shape) (s : Shape) → shape_labels (ss ++ s ∷ []) ≡ shape_labels ss ++ s.label ∷ []
snoc_labels [] s = refl
snoc_labels (t ∷ ss) s = ap (λ (qs : List Place). t.label ∷ qs) (snoc_labels ss s)
