-- Nothing that a run of the lifted graph may come to is missing from it.
use Rattle.std.proofs.Common.{◌≡◌, ◌⊎◌, inl, inr, ◌≤◌, ◌+◌, ◌*◌, ◌&&◌, ◌||◌, ◌==◌, ℕ, zero, suc, Bool, true, false, cond, List, [], ◌∷◌, length, Option, Some, None, refl, sym, ap, ◌∙◌, subst, arith}
use Rattle.std.specs.Prelude.{flat_map, not, is_some, slice_get, slice_index_or, option_and_then, nat_lt, ◌-◌, ◌/◌, ◌%◌}
use Rattle.std.specs.List.{list_any}
use Rattle.std.proofs.lemmas.Bool.{true≢false, eqb-true, eq-eqb, le-leb}
use Rattle.om_isa.specs.declared.instr.BrOp.TheVariants.{Br as Straight, Bsr, If}
use Rattle.om_isa.specs.declared.instr.MemOp.TheVariants.{Lda, Ldah, Ldbu, LdqU, Ldwu, Stw, Stb, StqU, Ldl, Ldq, Stl, Stq}
use Rattle.om_isa.specs.declared.instr.Instr.{Instr}
use Rattle.om_isa.specs.declared.instr.Instr.TheVariants.{Mem, Jump, Branch, Alu, Cmov, Misc, Fnop, Halt, Callsys}
use Rattle.om_value.specs.declared.value.Place.{Place}
use Rattle.om_value.specs.declared.value.Target.{Target}
use Rattle.om_value.specs.declared.value.Target.TheVariants as target
use Rattle.om_value.specs.declared.value.Value.{Value}
use Rattle.om_value.specs.declared.value.Value.TheVariants as value
use Rattle.om_value.specs.Same.{place_eq}
use Rattle.om_prog.specs.declared.item.Item.{Item}
use Rattle.om_prog.specs.declared.item.Role.{Role}
use Rattle.om_prog.specs.declared.item.Role.TheVariants as role
use Rattle.om_prog.specs.Act.{Word}
use Rattle.om_prog.specs.View.{ProgramView, item_at, is_word}
use Rattle.om_prog.specs.Script.{act_of}
use Rattle.om_prog.specs.Step.{next_place}
use Rattle.om_prog.specs.Valid.{fits, is_target, is_near_target, width_of, IsProgram}
use Rattle.om_graph.specs.View.{Block, Shape, GraphView, Has, shape_of}
use Rattle.om_graph.specs.Run.{block_words}
use Rattle.om_graph.specs.Kept.{names, names_target, Links, IsInKeptSet, root, fall, named, behind, IsEnd, IsBlock}
use Rattle.om_graph.specs.Whole.{value_places, program_roots, IsWhole}
use Rattle.om_graph.specs.Landing.{loads_place, branches_to, writes_link, of_instr, some_role, word_before, is_landing, begins}
use Rattle.om_graph.specs.Lifted.{cut, shape_of_piece, text_shapes, shapes_from, IsLifted}
use Rattle.om_graph.proofs.Labels.{self_eq, has_append, append_left, append_right, found_behind}
use Rattle.om_graph.proofs.LiftedWords.{item_word, text_start}
use Rattle.om_graph.proofs.OfProgram.{Within, is_shape, of_map, to_map, map_length, index_below, count_is, cut_of, shape_word}
use Rattle.om_graph.proofs.LiftedOf.{shape_here, item_get, lifted_of}
use Rattle.om_graph.proofs.Forms.{whole_of}

-- ---- tests

or_one : (a b : Bool) → a ≡ true → (a || b) ≡ true
or_one true b e = refl
or_one false b e = absurd (true≢false (sym e))

or_two : (a b : Bool) → b ≡ true → (a || b) ≡ true
or_two true b e = refl
or_two false b e = e

any_at : {A : Type 0} (test : A → Bool) (xs : List A) (k : ℕ) (x : A) → slice_get xs k ≡ Some x → test x ≡ true → list_any test xs ≡ true
any_at test [] k x e h = cc
any_at test (y ∷ xs) zero x e h = or_one (test y) (list_any test xs) (ap test (same e) ∙ h)
  where
    same : Some y ≡ Some x → y ≡ x
    same e = cc
any_at test (y ∷ xs) (suc k) x e h = or_two (test y) (list_any test xs) (any_at test xs k x e h)

any_root : (rs : List Place) (q : Place) → Has rs q → list_any (λ r. place_eq r q) rs ≡ true
any_root [] q h = absurd h
any_root (r ∷ rs) q (inl e) = or_one (place_eq r q) _ (subst (λ (x : Place). place_eq r x ≡ true) e (self_eq r))
any_root (r ∷ rs) q (inr h) = or_two (place_eq r q) _ (any_root rs q h)

has_index : {A : Type 0} (xs : List A) (x : A) → Has xs x → (k : ℕ) × (slice_get xs k ≡ Some x)
has_index [] x h = absurd h
has_index (y ∷ xs) x (inl e) = (0, ap (λ (z : _). Some z) e)
has_index (y ∷ xs) x (inr h) = let r = has_index xs x h in (suc r.0, r.1)

of_flat : {A B : Type 0} (f : A → List B) (xs : List A) (y : B) → Has (flat_map f xs) y → (x : A) × Has xs x × Has (f x) y
of_flat {A = A} f [] y h = absurd h
of_flat {A = A} f (x ∷ xs) y h = by_case (has_append (f x) (flat_map f xs) y h) (of_flat f xs y)
  where
    by_case : Has (f x) y ⊎ Has (flat_map f xs) y → (Has (flat_map f xs) y → (z : A) × Has xs z × Has (f z) y) → (z : A) × Has (x ∷ xs) z × Has (f z) y
    by_case (inl m) i = (x, inl refl, m)
    by_case (inr m) i = let r = i m in (r.0, inr r.1, r.2)

-- ---- words

not_31 : (ra : ℕ) → (ra ≡ 31 → ⊥) → not (ra == 31) ≡ true
not_31 ra n = by_eq (ra == 31) refl
  where
    by_eq : (b : Bool) → (ra == 31) ≡ b → not (ra == 31) ≡ true
    by_eq true e = absurd (n (eqb-true ra 31 e))
    by_eq false e = ap not e

links_instr : (r : Role) (i : Instr) → Links (act_of r i) → writes_link i ≡ true
links_instr role.Plain (Mem o ra rb d) l = absurd l
links_instr role.Plain (Jump k ra rb x) l = not_31 ra l
links_instr role.Plain (Branch o ra d) l = absurd l
links_instr role.Plain (Alu o ra rb rc) l = absurd l
links_instr role.Plain (Cmov k ra rb rc) l = absurd l
links_instr role.Plain (Misc o ra rb) l = absurd l
links_instr role.Plain Fnop l = absurd l
links_instr role.Plain Halt l = absurd l
links_instr role.Plain Callsys l = absurd l
links_instr (role.Lit t) (Mem o ra rb d) l = absurd l
links_instr (role.Lit t) (Jump k ra rb x) l = absurd l
links_instr (role.Lit t) (Branch o ra d) l = absurd l
links_instr (role.Lit t) (Alu o ra rb rc) l = absurd l
links_instr (role.Lit t) (Cmov k ra rb rc) l = absurd l
links_instr (role.Lit t) (Misc o ra rb) l = absurd l
links_instr (role.Lit t) Fnop l = absurd l
links_instr (role.Lit t) Halt l = absurd l
links_instr (role.Lit t) Callsys l = absurd l
links_instr (role.GpHi base) (Mem o ra rb d) l = absurd l
links_instr (role.GpHi base) (Jump k ra rb x) l = absurd l
links_instr (role.GpHi base) (Branch o ra d) l = absurd l
links_instr (role.GpHi base) (Alu o ra rb rc) l = absurd l
links_instr (role.GpHi base) (Cmov k ra rb rc) l = absurd l
links_instr (role.GpHi base) (Misc o ra rb) l = absurd l
links_instr (role.GpHi base) Fnop l = absurd l
links_instr (role.GpHi base) Halt l = absurd l
links_instr (role.GpHi base) Callsys l = absurd l
links_instr (role.GpLo hi) (Mem o ra rb d) l = absurd l
links_instr (role.GpLo hi) (Jump k ra rb x) l = absurd l
links_instr (role.GpLo hi) (Branch o ra d) l = absurd l
links_instr (role.GpLo hi) (Alu o ra rb rc) l = absurd l
links_instr (role.GpLo hi) (Cmov k ra rb rc) l = absurd l
links_instr (role.GpLo hi) (Misc o ra rb) l = absurd l
links_instr (role.GpLo hi) Fnop l = absurd l
links_instr (role.GpLo hi) Halt l = absurd l
links_instr (role.GpLo hi) Callsys l = absurd l
links_instr (role.To to) (Mem o ra rb d) l = absurd l
links_instr (role.To to) (Jump k ra rb x) l = absurd l
links_instr (role.To to) (Branch Straight ra d) l = not_31 ra l
links_instr (role.To to) (Branch Bsr ra d) l = not_31 ra l
links_instr (role.To to) (Branch (If c) ra d) l = absurd l
links_instr (role.To to) (Alu o ra rb rc) l = absurd l
links_instr (role.To to) (Cmov k ra rb rc) l = absurd l
links_instr (role.To to) (Misc o ra rb) l = absurd l
links_instr (role.To to) Fnop l = absurd l
links_instr (role.To to) Halt l = absurd l
links_instr (role.To to) Callsys l = absurd l

module _ (p : ProgramView) where
  literal_there : (text : List Item) (at : Place) (t : Target) (i : Instr) → fits p text at (role.Lit t) i ≡ true → is_target p t ≡ true
  literal_there text at t (Mem Ldq ra rb d) h = h
  literal_there text at t (Mem Lda ra rb d) h = absurd (true≢false (sym h))
  literal_there text at t (Mem Ldah ra rb d) h = absurd (true≢false (sym h))
  literal_there text at t (Mem Ldbu ra rb d) h = absurd (true≢false (sym h))
  literal_there text at t (Mem LdqU ra rb d) h = absurd (true≢false (sym h))
  literal_there text at t (Mem Ldwu ra rb d) h = absurd (true≢false (sym h))
  literal_there text at t (Mem Stw ra rb d) h = absurd (true≢false (sym h))
  literal_there text at t (Mem Stb ra rb d) h = absurd (true≢false (sym h))
  literal_there text at t (Mem StqU ra rb d) h = absurd (true≢false (sym h))
  literal_there text at t (Mem Ldl ra rb d) h = absurd (true≢false (sym h))
  literal_there text at t (Mem Stl ra rb d) h = absurd (true≢false (sym h))
  literal_there text at t (Mem Stq ra rb d) h = absurd (true≢false (sym h))
  literal_there text at t (Jump k ra rb x) h = absurd (true≢false (sym h))
  literal_there text at t (Branch o ra d) h = absurd (true≢false (sym h))
  literal_there text at t (Alu o ra rb rc) h = absurd (true≢false (sym h))
  literal_there text at t (Cmov k ra rb rc) h = absurd (true≢false (sym h))
  literal_there text at t (Misc o ra rb) h = absurd (true≢false (sym h))
  literal_there text at t Fnop h = absurd (true≢false (sym h))
  literal_there text at t Halt h = absurd (true≢false (sym h))
  literal_there text at t Callsys h = absurd (true≢false (sym h))

  literal_names :
      (text : List Item) (at : Place) (t : Target) (i : Instr) (q : Place) → fits p text at (role.Lit t) i ≡ true → names_target t q →
      (is_word p q ≡ true) × ((loads_place q (role.Lit t) ≡ true) ⊎ (branches_to q (role.Lit t) ≡ true))
  literal_names text at (target.Code c) i q f n =
      (subst (λ (y : Place). is_word p y ≡ true) n (literal_there text at (target.Code c) i f), inl (subst (λ (y : Place). place_eq c y ≡ true) n (self_eq c)))
  literal_names text at (target.Num m) i q f n = absurd n
  literal_names text at (target.Ptr r x) i q f n = absurd n

  -- what a word names is a word, by its role
  role_names :
      (text : List Item) (at : Place) (r : Role) (i : Instr) (q : Place) → fits p text at r i ≡ true → names (act_of r i) q →
      (is_word p q ≡ true) × ((loads_place q r ≡ true) ⊎ (branches_to q r ≡ true))
  role_names text at role.Plain (Mem o ra rb d) q f n = absurd n
  role_names text at role.Plain (Jump k ra rb x) q f n = absurd n
  role_names text at role.Plain (Branch o ra d) q f n = absurd n
  role_names text at role.Plain (Alu o ra rb rc) q f n = absurd n
  role_names text at role.Plain (Cmov k ra rb rc) q f n = absurd n
  role_names text at role.Plain (Misc o ra rb) q f n = absurd n
  role_names text at role.Plain Fnop q f n = absurd n
  role_names text at role.Plain Halt q f n = absurd n
  role_names text at role.Plain Callsys q f n = absurd n
  role_names text at (role.Lit t) (Mem o ra rb d) q f n = literal_names text at t (Mem o ra rb d) q f n
  role_names text at (role.Lit t) (Jump k ra rb x) q f n = absurd n
  role_names text at (role.Lit t) (Branch o ra d) q f n = absurd n
  role_names text at (role.Lit t) (Alu o ra rb rc) q f n = absurd n
  role_names text at (role.Lit t) (Cmov k ra rb rc) q f n = absurd n
  role_names text at (role.Lit t) (Misc o ra rb) q f n = absurd n
  role_names text at (role.Lit t) Fnop q f n = absurd n
  role_names text at (role.Lit t) Halt q f n = absurd n
  role_names text at (role.Lit t) Callsys q f n = absurd n
  role_names text at (role.GpHi base) (Mem o ra rb d) q f n = absurd n
  role_names text at (role.GpHi base) (Jump k ra rb x) q f n = absurd n
  role_names text at (role.GpHi base) (Branch o ra d) q f n = absurd n
  role_names text at (role.GpHi base) (Alu o ra rb rc) q f n = absurd n
  role_names text at (role.GpHi base) (Cmov k ra rb rc) q f n = absurd n
  role_names text at (role.GpHi base) (Misc o ra rb) q f n = absurd n
  role_names text at (role.GpHi base) Fnop q f n = absurd n
  role_names text at (role.GpHi base) Halt q f n = absurd n
  role_names text at (role.GpHi base) Callsys q f n = absurd n
  role_names text at (role.GpLo hi) (Mem o ra rb d) q f n = absurd n
  role_names text at (role.GpLo hi) (Jump k ra rb x) q f n = absurd n
  role_names text at (role.GpLo hi) (Branch o ra d) q f n = absurd n
  role_names text at (role.GpLo hi) (Alu o ra rb rc) q f n = absurd n
  role_names text at (role.GpLo hi) (Cmov k ra rb rc) q f n = absurd n
  role_names text at (role.GpLo hi) (Misc o ra rb) q f n = absurd n
  role_names text at (role.GpLo hi) Fnop q f n = absurd n
  role_names text at (role.GpLo hi) Halt q f n = absurd n
  role_names text at (role.GpLo hi) Callsys q f n = absurd n
  role_names text at (role.To to) (Mem o ra rb d) q f n = absurd n
  role_names text at (role.To to) (Jump k ra rb x) q f n = absurd n
  role_names text at (role.To to) (Branch o ra d) q f n = (subst (λ (y : Place). is_word p y ≡ true) n f, inr (subst (λ (y : Place). place_eq to y ≡ true) n (self_eq to)))
  role_names text at (role.To to) (Alu o ra rb rc) q f n = absurd n
  role_names text at (role.To to) (Cmov k ra rb rc) q f n = absurd n
  role_names text at (role.To to) (Misc o ra rb) q f n = absurd n
  role_names text at (role.To to) Fnop q f n = absurd n
  role_names text at (role.To to) Halt q f n = absurd n
  role_names text at (role.To to) Callsys q f n = absurd n

  -- ---- where blocks begin

  landing_begins : (q : Place) → is_landing p q ≡ true → begins p q ≡ true
  landing_begins q l = or_one _ _ (or_one _ _ (or_one _ _ (or_two (q.off == 0) (is_landing p q) l)))

  branch_begins : (q : Place) → some_role p (branches_to q) ≡ true → begins p q ≡ true
  branch_begins q l = or_one _ _ (or_one _ _ (or_two ((q.off == 0) || is_landing p q) (some_role p (branches_to q)) l))

  root_lands : (q : Place) → Has (program_roots p) q → is_landing p q ≡ true
  root_lands q h = or_one _ _ (or_one _ _ (any_root (program_roots p) q h))

  load_lands : (q : Place) → some_role p (loads_place q) ≡ true → is_landing p q ≡ true
  load_lands q h = or_one _ _ (or_two (list_any (λ r. place_eq r q) (program_roots p)) (some_role p (loads_place q)) h)

  link_lands : (at : Place) (i : Item) → item_at p at ≡ Some i → writes_link i.instr ≡ true → is_landing p (next_place at) ≡ true
  link_lands at i e l = or_two (list_any (λ r. place_eq r (next_place at)) (program_roots p) || some_role p (loads_place (next_place at))) (word_before p writes_link (next_place at)) before
    where
      same : at.off ≡ (at.off + 4) - 4
      same = omega arith

      found : of_instr writes_link (item_at p (record (next_place at) { off = (at.off + 4) - 4 })) ≡ true
      found = subst (λ (x : ℕ). of_instr writes_link (item_at p (record at { off = x })) ≡ true) same (ap (λ (o : Option Item). of_instr writes_link o) e ∙ l)

      before : word_before p writes_link (next_place at) ≡ true
      before = rw (le-leb 4 (at.off + 4) (omega arith), found) refl

  some_there : (q : Place) (text : List Item) (k : ℕ) (i : Item) (test : Role → Bool) → slice_get p.texts q.obj ≡ Some text → slice_get text k ≡ Some i → test i.role ≡ true → some_role p test ≡ true
  some_there q text k i test f g h = any_at (λ t. list_any (λ i. test i.role) t) p.texts q.obj text f (any_at (λ i. test i.role) text k i g h)

  pub to_shapes : (o : ℕ) (texts : List (List Item)) (j : ℕ) (t : List Item) (s : Shape) → slice_get texts j ≡ Some t → Has (text_shapes p (o + j) t) s → Has (shapes_from p o texts) s
  to_shapes o [] j t s e h = cc
  to_shapes o (u ∷ texts) zero t s e h =
      let same : t ≡ u = back e in
      append_left (text_shapes p o u) (shapes_from p (suc o) texts) s
      (subst (λ (x : List Item). Has (text_shapes p o x) s) same (subst (λ (k : ℕ). Has (text_shapes p k t) s) (omega arith) h))
    where
      back : Some u ≡ Some t → t ≡ u
      back e = cc
  to_shapes o (u ∷ texts) (suc j) t s e h =
      append_right (text_shapes p o u) (shapes_from p (suc o) texts) s
      (to_shapes (suc o) texts j t s e (subst (λ (k : ℕ). Has (text_shapes p k t) s) (omega arith) h))

-- a word with its text
pub record WordAt (p : ProgramView) (q : Place) : Type 0 where
  pub text : List Item
  pub item : Item
  pub found : slice_get p.texts q.obj ≡ Some text
  pub there : slice_get text (q.off / 4) ≡ Some item
  pub even : q.off % 4 ≡ 0

pub word_at : (p : ProgramView) (q : Place) → is_word p q ≡ true → WordAt p q
word_at p q h = by_text (slice_get p.texts q.obj) refl (item_at p q) refl h
  where
    by_text : (t : Option (List Item)) → slice_get p.texts q.obj ≡ t → (o : Option Item) → item_at p q ≡ o → is_some o ≡ true → WordAt p q
    by_text t f None e h = absurd (true≢false (sym h))
    by_text (Some text) f (Some i) e h = let g = item_get p q text i f e in record { text = text; item = i; found = f; there = g.0; even = g.1 }
    by_text None f (Some i) e h = absurd (none_there (q.off % 4 == 0) (ap (λ (t : Option (List Item)). cond (q.off % 4 == 0) (option_and_then (λ t. slice_get t (q.off / 4)) t) None) (sym f) ∙ e))
      where
        none_there : (b : Bool) → cond b None None ≡ Some i → ⊥
        none_there true e = cc
        none_there false e = cc

module _ (p : ProgramView) (prog : IsProgram p) (g : GraphView) (lifted : IsLifted p g) where
  place_block : (q : Place) → is_word p q ≡ true → begins p q ≡ true → IsBlock g q
  place_block q h b =
      let w = word_at p q h in
      let ev = w.even in
      let c = cut_of p prog q.obj w.text w.found in
      let x = c.each (q.off / 4) w.item q w.there refl (omega (arith, ev)) b in
      let s = shape_of_piece p (4 * length w.text) x.0 in
      let m = to_shapes p 0 p.texts q.obj w.text s w.found (to_map (shape_of_piece p (4 * length w.text)) _ x.0 (subst (λ (k : ℕ). Has (cut (begins p) (text_start k) w.text) x.0) (omega arith) x.1)) in
      let r = of_map shape_of g.blocks s (subst (λ (l : List Shape). Has l s) (sym lifted.blocks) m) in
      let from : r.0.label ≡ x.0.from = ap (λ (y : Shape). y.label) r.2 in
      (r.0, r.1, from ∙ x.2)

  near_word : (t : Target) (q : Place) (o : ℕ) → is_near_target p t ≡ true → Has (value_places (value.GpOff o t)) q → is_word p q ≡ true
  near_word (target.Code c) q o n (inl e) = subst (λ (x : Place). is_word p x ≡ true) e n
  near_word (target.Code c) q o n (inr h) = absurd h
  near_word (target.Num m) q o n h = absurd h
  near_word (target.Ptr r x) q o n h = absurd h

  value_word : (v : Value) (n : ℕ) (q : Place) → width_of p v ≡ Some n → Has (value_places v) q → is_word p q ≡ true
  value_word (value.Code c) n q w (inl e) = by_word (is_word p c) refl w
    where
      by_word : (b : Bool) → is_word p c ≡ b → cond b (Some 8) None ≡ Some n → is_word p q ≡ true
      by_word true a w = subst (λ (x : Place). is_word p x ≡ true) e a
      by_word false a w = cc
  value_word (value.Code c) n q w (inr h) = absurd h
  value_word (value.GpOff o t) n q w h = by_near (nat_lt o (length p.texts)) (is_near_target p t) refl w
    where
      by_near : (a b : Bool) → is_near_target p t ≡ b → cond (a && b) (Some 4) None ≡ Some n → is_word p q ≡ true
      by_near true true e w = near_word t q o e h
      by_near true false e w = cc
      by_near false b e w = cc
  value_word (value.Num m) n q w h = absurd h
  value_word (value.Ptr r x) n q w h = absurd h
  value_word (value.Gp o) n q w h = absurd h
  value_word (value.Half x) n q w h = absurd h

  root_word : (q : Place) → Has (program_roots p) q → is_word p q ≡ true
  root_word q (inl e) = subst (λ (x : Place). is_word p x ≡ true) e prog.entry
  root_word q (inr h) =
      let i = of_flat (λ r. flat_map (λ f. value_places f.value) r.fields) p.regions q h in
      let f = of_flat (λ f. value_places f.value) i.0.fields q i.2 in
      let k = has_index p.regions i.0 i.1 in
      let j = has_index i.0.fields f.0 f.1 in
      value_word f.0.value f.0.width q (((prog.regions.each k.0 i.0 k.1).fields.each j.0 f.0 j.1).width) f.2

  -- a word of a block, as an item of its text
  item_here : (b : Block) (w : Word) (h : Has g.blocks b) → Has (block_words b) w → Within p (is_shape p (shape_of b) (shape_here p prog g lifted b h)).piece.from (is_shape p (shape_of b) (shape_here p prog g lifted b h)).piece.items w
  item_here b w h m = shape_word p prog (shape_of b) (is_shape p (shape_of b) (shape_here p prog g lifted b h)) w m

  named_block : (w : Word) (q : Place) (i : Item) (text : List Item) → item_at p w.at ≡ Some i → item_word w.at i ≡ w → fits p text w.at i.role i.instr ≡ true → names w.act q → IsBlock g q
  named_block w q i text e word f n =
      let r = role_names p text w.at i.role i.instr q f (subst (λ (x : Word). names x.act q) (sym word) n) in
      let a = word_at p w.at (ap is_some e) in
      let got = item_get p w.at a.text i a.found e in
      place_block q r.0 (by_role r.1 a got)
    where
      by_role : (loads_place q i.role ≡ true) ⊎ (branches_to q i.role ≡ true) → (a : WordAt p w.at) → (slice_get a.text (w.at.off / 4) ≡ Some i) × (w.at.off % 4 ≡ 0) → begins p q ≡ true
      by_role (inl l) a got = landing_begins p q (load_lands p q (some_there p w.at a.text (w.at.off / 4) i (loads_place q) a.found got.0 l))
      by_role (inr l) a got = branch_begins p q (some_there p w.at a.text (w.at.off / 4) i (branches_to q) a.found got.0 l)

  behind_place : (w : Word) (i : Item) → item_at p w.at ≡ Some i → item_word w.at i ≡ w → Links w.act → IsBlock g (next_place w.at) ⊎ IsEnd g (next_place w.at)
  behind_place w i e word l = by_word (is_word p (next_place w.at)) refl
    where
      a : WordAt p w.at
      a = word_at p w.at (ap is_some e)

      links : writes_link i.instr ≡ true
      links = links_instr i.role i.instr (subst (λ (x : Word). Links x.act) (sym word) l)

      no_more : is_word p (next_place w.at) ≡ false → slice_get a.text (suc (w.at.off / 4)) ≡ None
      no_more h = by_item (slice_get a.text (suc (w.at.off / 4))) refl
        where
          next_off : w.at.off % 4 ≡ 0 → ((w.at.off + 4) % 4 == 0) ≡ true
          next_off ev = eq-eqb ((w.at.off + 4) % 4) 0 (omega (arith, ev))

          next_index : w.at.off % 4 ≡ 0 → (w.at.off + 4) / 4 ≡ suc (w.at.off / 4)
          next_index ev = omega (arith, ev)

          by_item : (o : Option Item) → slice_get a.text (suc (w.at.off / 4)) ≡ o → slice_get a.text (suc (w.at.off / 4)) ≡ None
          by_item None x = x
          by_item (Some j) x =
              let off = next_off a.even in
              let k = next_index a.even in
              let f = a.found in
              let s : is_word p (next_place w.at) ≡ true = rw (off, f, k, x) refl in
              absurd (true≢false (sym s ∙ h))

      by_word : (b : Bool) → is_word p (next_place w.at) ≡ b → IsBlock g (next_place w.at) ⊎ IsEnd g (next_place w.at)
      by_word true h = inl (place_block (next_place w.at) h (landing_begins p (next_place w.at) (link_lands p w.at i e links)))
      by_word false h = inr at_end
        where
          at_end : IsEnd g (next_place w.at)
          at_end =
              let n = past a.text (suc (w.at.off / 4)) (no_more h) in
              let b = index_below a.text (w.at.off / 4) a.item a.there in
              let o = index_below p.texts w.at.obj a.text a.found in
              let c = ap (λ (l : List ℕ). length l) lifted.counts ∙ map_length (λ t. length t) p.texts in
              let s = ap (λ (l : List ℕ). 4 * slice_index_or l w.at.obj 0) lifted.counts ∙ ap (λ (k : ℕ). 4 * k) (count_is p.texts w.at.obj a.text a.found) in
              let ev = a.even in
              record { object = omega (arith, o, c); off = omega (arith, n, b, s, ev) }
            where
              past : (xs : List Item) (k : ℕ) → slice_get xs k ≡ None → length xs ≤ k
              past [] k e = omega arith
              past (x ∷ xs) zero e = cc
              past (x ∷ xs) (suc k) e = let r = past xs k e in omega (arith, r)

  kept_place : (q : Place) → IsInKeptSet g q → IsBlock g q ⊎ IsEnd g q
  kept_place _ (root q h) =
      let r = subst (λ (l : List Place). Has l q) lifted.roots h in
      inl (place_block q (root_word q r) (landing_begins p q (root_lands p q r)))
  kept_place _ (fall b q hb k f e) =
      inl (of_map (λ (b : Block). b.label) g.blocks q (subst (λ (l : List Place). Has l q) lifted.labels (found_behind g.labels b.label q e).1))
  kept_place _ (named b w q hb k m n) = let i = item_here b w hb m in inl (named_block w q i.item i.stands.0 i.there i.word i.stands.1 n)
  kept_place _ (behind b w hb k m l) = let i = item_here b w hb m in behind_place w i.item i.there i.word l

  pub lifted_whole : IsWhole p g
  lifted_whole = whole_of p prog g (lifted_of p prog g lifted) (record { label = kept_place })
