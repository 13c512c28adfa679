-- Texts that are lifted word by word.
use Rattle.std.proofs.Common.{◌≡◌, ◌⊎◌, inl, inr, ◌<◌, ◌≤◌, ◌+◌, ◌*◌, ◌^◌, ◌==◌, ℕ, zero, suc, Bool, true, false, cond, List, [], ◌∷◌, ◌++◌, length, take, Option, Some, None, refl, sym, ap, ◌∙◌, subst, arith}
use Rattle.std.specs.Prelude.{map, nat_lt, get_or, unwrap_or}
use Rattle.std.specs.List.{slice_get}
use Rattle.std.proofs.lemmas.Bool.{true≢false, eqb-true, eq-eqb, lt-ltb}
use Rattle.std.proofs.lemmas.List.{take_all, length-take-le}
use Rattle.std.proofs.lemmas.Option.{slice_get-get_or, slice_get_within}
use Rattle.om_value.specs.declared.value.Place.{Place}
use Rattle.om_prog.specs.declared.item.Item.{Item}
use Rattle.om_prog.specs.View.{ProgramView, text_of, item_at}
use Rattle.om_prog.specs.Valid.{IsProgram}
use Rattle.om_prog.specs.Step.{next_place}
use Rattle.om_prog.proofs.Found.{take_step}
use Rattle.om_graph.specs.View.{Shape, GraphView, Has, place_lt, IsAfter, made, cleared, numbers_from}
use Rattle.om_graph.specs.Held.{IsGraph}
use Rattle.om_graph.specs.Whole.{program_roots}
use Rattle.om_graph.specs.Landing.{begins, is_opening_pair}
use Rattle.om_graph.specs.Lifted.{last_of_word, word_ops, fallen, begun, grown, text_shapes, shapes_from, IsLifted}
use Rattle.om_graph.proofs.Labels.{equal_places, lt_cases, has_append}
use Rattle.om_graph.proofs.LiftedWords.{text_start, Known, goes_on}
use Rattle.om_graph.proofs.LiftedRun.{known}
use Rattle.om_graph.proofs.LiftedSteps.{text_more}
use Rattle.om_lift.specs.Lifting.{EndsOff, Holds, fallen_if, new_shape, opened, HasLifted}
use Rattle.om_lift.proofs.Sets.{item_is}
use Rattle.om_lift.proofs.Shapes.{grown_off, grown_snoc, grown_front, fallen_front, shape_labels, labels_of, grown_labels, fallen_labels, snoc_labels}

-- ---- places in order

lt_is : (q r : Place) → ((q.obj ≡ r.obj) × (q.off < r.off)) ⊎ (q.obj < r.obj) → place_lt q r ≡ true
lt_is q r (inl (o, l)) = rw (eq-eqb q.obj r.obj o) (lt-ltb q.off r.off l)
lt_is q r (inr l) = by_obj (q.obj == r.obj) refl
  where
    by_obj : (b : Bool) → (q.obj == r.obj) ≡ b → cond b (nat_lt q.off r.off) (nat_lt q.obj r.obj) ≡ true
    by_obj true e = let s = eqb-true q.obj r.obj e in absurd (omega (arith, s, l))
    by_obj false e = lt-ltb q.obj r.obj l

lt_next : (q r s : Place) → place_lt q r ≡ true → r.obj ≡ s.obj → r.off ≤ s.off → place_lt q s ≡ true
lt_next q r s h o l = by_cases (lt_cases q r h)
  where
    by_cases : ((q.obj ≡ r.obj) × (q.off < r.off)) ⊎ (q.obj < r.obj) → place_lt q s ≡ true
    by_cases (inl c) = let a = c.0 in let b = c.1 in lt_is q s (inl (a ∙ o, omega (arith, b, l)))
    by_cases (inr c) = lt_is q s (inr (omega (arith, c, o)))

lt_later : (q r s : Place) → place_lt q r ≡ true → r.obj < s.obj → place_lt q s ≡ true
lt_later q r s h l = by_cases (lt_cases q r h)
  where
    by_cases : ((q.obj ≡ r.obj) × (q.off < r.off)) ⊎ (q.obj < r.obj) → place_lt q s ≡ true
    by_cases (inl c) = let a = c.0 in lt_is q s (inr (omega (arith, a, l)))
    by_cases (inr c) = lt_is q s (inr (omega (arith, c, l)))

-- ---- words so far

abbrev pub word_place : ℕ → ℕ → Place
word_place obj k = record { obj = obj; off = 4 * k }

append_nil : {A : Type 0} → (xs : List A) → xs ++ [] ≡ xs
append_nil [] = refl
append_nil (x ∷ xs) = ap (λ ys. x ∷ ys) (append_nil xs)

append_assoc : {A : Type 0} → (xs ys zs : List A) → (xs ++ ys) ++ zs ≡ xs ++ (ys ++ zs)
append_assoc [] ys zs = refl
append_assoc (x ∷ xs) ys zs = ap (λ us. x ∷ us) (append_assoc xs ys zs)

module _ (p : ProgramView) where
  abbrev pub before_text : ℕ → List Shape
  before_text obj = shapes_from p 0 (take obj p.texts)

  abbrev pub text_so_far : ℕ → ℕ → List Shape
  text_so_far obj k = text_shapes p obj (take k (text_of p obj))

  abbrev pub so_far : ℕ → ℕ → List Shape
  so_far obj k = before_text obj ++ text_so_far obj k

  -- the words of a text are lifted up to one
  pub record Lifting (obj k : ℕ) (before : Option ℕ) (g : GraphView) : Type 0 where
    pub holds : Holds p (so_far obj k) before g
    pub after : IsAfter g.labels (word_place obj k)
    pub first : before ≡ None → k ≡ 0
    pub some : (before ≡ None → ⊥) → text_so_far obj k ≡ [] → ⊥
    pub ends : begins p (word_place obj k) ≡ false → EndsOff (so_far obj k)

  none_yet : (obj k : ℕ) → k ≡ 0 → text_so_far obj k ≡ []
  none_yet obj k e = ap (λ (n : ℕ). text_so_far obj n) e

  begins_first : (obj k : ℕ) → k ≡ 0 → begins p (word_place obj k) ≡ true
  begins_first obj k e = ap (λ (n : ℕ). begins p (word_place obj n)) e

  pub text_begun : (obj : ℕ) (g : GraphView) → HasLifted p obj g → Lifting obj 0 None g
  text_begun obj g h = record {
    holds = subst (λ (ss : List Shape). Holds p ss None g) (sym (append_nil (before_text obj))) h.holds;
    after = h.after;
    first = λ e. refl;
    some = λ n. absurd (n refl);
    ends = λ e. absurd (true≢false e);
  }

  pub first_begins : (obj k : ℕ) (before : Option ℕ) (g : GraphView) → Lifting obj k before g → before ≡ None → begins p (word_place obj k) ≡ true
  first_begins obj k before g h e = begins_first obj k (h.first e)

  -- ---- a word more

  known_part : (at : Place) (k : ℕ) (is : List Item) → Known p at is → Known p at (take k is)
  known_part at zero is h = tt
  known_part at (suc k) [] h = tt
  known_part at (suc k) (i ∷ is) h = (h.0, h.1, known_part (next_place at) k is h.2)

  known_front : IsProgram p → (obj k : ℕ) (text : List Item) → slice_get p.texts obj ≡ Some text → Known p (text_start obj) (take k (text_of p obj))
  known_front prog obj k text t =
      subst (λ (is : List Item). Known p (text_start obj) (take k is)) (sym (ap (λ o. unwrap_or o []) t)) (known_part (text_start obj) k text (known p prog obj text t))

  module _ (obj k : ℕ) (x : Item) (here : slice_get (text_of p obj) k ≡ Some x) where
    text_length : length (take k (text_of p obj)) ≡ k
    text_length = let l = slice_get_within (text_of p obj) k x here in length-take-le k (text_of p obj) (omega (arith, l))

    pub text_next : Known p (text_start obj) (take k (text_of p obj)) → text_so_far obj (k + 1) ≡ cond (begins p (word_place obj k)) (begun p (word_place obj k) x (text_so_far obj k)) (grown (word_place obj k) x (text_so_far obj k))
    text_next kn =
        ap (λ (is : List Item). text_shapes p obj is) (take_step k (text_of p obj) x here)
        ∙ text_more p obj (take k (text_of p obj)) x (word_place obj k) kn refl (ap (λ (n : ℕ). 4 * n) (sym text_length))

  fallen_whole : (obj k : ℕ) (before : Option ℕ) → (before ≡ None → k ≡ 0) → ((before ≡ None → ⊥) → text_so_far obj k ≡ [] → ⊥) → fallen_if before (so_far obj k) ≡ before_text obj ++ fallen (text_so_far obj k)
  fallen_whole obj k None f n =
      let e = none_yet obj k (f refl) in
      ap (λ (ss : List Shape). before_text obj ++ ss) e ∙ sym (ap (λ (ss : List Shape). before_text obj ++ fallen ss) e)
  fallen_whole obj k (Some b) f n = fallen_front (before_text obj) (text_so_far obj k) (n (λ e. cc))

  shapes_next :
      (obj k : ℕ) (x : Item) (before : Option ℕ) (g : GraphView) → Lifting obj k before g →
      grown (word_place obj k) x (opened p (word_place obj k) before (so_far obj k))
      ≡ before_text obj ++ cond (begins p (word_place obj k)) (begun p (word_place obj k) x (text_so_far obj k)) (grown (word_place obj k) x (text_so_far obj k))
  shapes_next obj k x before g h = by_begin (begins p (word_place obj k)) refl
    where
      by_begin :
          (b : Bool) → begins p (word_place obj k) ≡ b →
          grown (word_place obj k) x (cond b (fallen_if before (so_far obj k) ++ new_shape (word_place obj k) (is_opening_pair p (word_place obj k)) ∷ []) (so_far obj k))
          ≡ before_text obj ++ cond b (begun p (word_place obj k) x (text_so_far obj k)) (grown (word_place obj k) x (text_so_far obj k))
      by_begin true e =
          grown_snoc (word_place obj k) x (fallen_if before (so_far obj k)) (new_shape (word_place obj k) (is_opening_pair p (word_place obj k)))
          ∙ ap (λ (ss : List Shape). ss ++ record { label = word_place obj k; opening = is_opening_pair p (word_place obj k); ops = word_ops (word_place obj k) x; last = last_of_word true (word_place obj k) x.role x.instr } ∷ []) (fallen_whole obj k before h.first h.some)
          ∙ append_assoc (before_text obj) (fallen (text_so_far obj k)) (record { label = word_place obj k; opening = is_opening_pair p (word_place obj k); ops = word_ops (word_place obj k) x; last = last_of_word true (word_place obj k) x.role x.instr } ∷ [])
      by_begin false e =
          grown_front (word_place obj k) x (before_text obj) (text_so_far obj k) (h.some (λ n. true≢false (sym (begins_first obj k (h.first n)) ∙ e)))

  snoc_some : (ss : List Shape) (s : Shape) → ss ++ s ∷ [] ≡ [] → ⊥
  snoc_some [] s e = cc
  snoc_some (t ∷ ss) s e = cc

  grown_some : (q : Place) (x : Item) (ss : List Shape) → (ss ≡ [] → ⊥) → grown q x ss ≡ [] → ⊥
  grown_some q x [] n e = n refl
  grown_some q x (s ∷ []) n e = cc
  grown_some q x (s ∷ t ∷ ss) n e = cc

  next_some :
      (obj k : ℕ) (x : Item) (before : Option ℕ) (g : GraphView) → Lifting obj k before g →
      cond (begins p (word_place obj k)) (begun p (word_place obj k) x (text_so_far obj k)) (grown (word_place obj k) x (text_so_far obj k)) ≡ [] → ⊥
  next_some obj k x before g h = by_begin (begins p (word_place obj k)) refl
    where
      by_begin : (b : Bool) → begins p (word_place obj k) ≡ b → cond b (begun p (word_place obj k) x (text_so_far obj k)) (grown (word_place obj k) x (text_so_far obj k)) ≡ [] → ⊥
      by_begin true e f = snoc_some (fallen (text_so_far obj k)) _ f
      by_begin false e f = grown_some (word_place obj k) x (text_so_far obj k) (h.some (λ n. true≢false (sym (begins_first obj k (h.first n)) ∙ e))) f

  labels_are : (ss : List Shape) (before : Option ℕ) (g : GraphView) → Holds p ss before g → g.labels ≡ shape_labels ss
  labels_are ss before g h = h.labels ∙ labels_of g.blocks ∙ ap (λ (xs : List Shape). shape_labels xs) h.shapes

  if_labels : (before : Option ℕ) (ss : List Shape) → shape_labels (fallen_if before ss) ≡ shape_labels ss
  if_labels None ss = refl
  if_labels (Some b) ss = fallen_labels ss

  opened_after : (q n : Place) (before : Option ℕ) (ss : List Shape) → IsAfter (shape_labels ss) q → q.obj ≡ n.obj → q.off < n.off → IsAfter (shape_labels (opened p q before ss)) n
  opened_after q n before ss a o l = by_begin (begins p q)
    where
      at_old : (r : Place) → Has (shape_labels ss) r → place_lt r n ≡ true
      at_old r i = lt_next r q n (a r i) o (omega (arith, l))

      at_new : (r : Place) → Has (shape_labels ss) r ⊎ Has (q ∷ []) r → place_lt r n ≡ true
      at_new r (inl i) = at_old r i
      at_new r (inr (inl e)) = subst (λ (z : Place). place_lt z n ≡ true) e (lt_is q n (inl (o, l)))
      at_new r (inr (inr e)) = absurd e

      by_begin : (b : Bool) → IsAfter (shape_labels (cond b (fallen_if before ss ++ new_shape q (is_opening_pair p q) ∷ []) ss)) n
      by_begin true r i =
          let e = snoc_labels (fallen_if before ss) (new_shape q (is_opening_pair p q)) ∙ ap (λ (qs : List Place). qs ++ q ∷ []) (if_labels before ss) in
          at_new r (has_append (shape_labels ss) (q ∷ []) r (subst (λ (qs : List Place). Has qs r) e i))
      by_begin false r i = at_old r i

  pub word_lifted :
      IsProgram p → (obj k : ℕ) (text : List Item) (x : Item) (before : Option ℕ) (b : ℕ) (g new : GraphView) → slice_get p.texts obj ≡ Some text → item_at p (word_place obj k) ≡ Some x → Lifting obj k before g →
      Holds p (grown (word_place obj k) x (opened p (word_place obj k) before (so_far obj k))) (Some b) new → Lifting obj (k + 1) (Some b) new
  word_lifted prog obj k text x before b g new t i h n = record {
    holds = subst (λ (ss : List Shape). Holds p ss (Some b) new) shapes n;
    after =
        subst (λ (qs : List Place). IsAfter qs (word_place obj (k + 1))) (sym (labels_are _ (Some b) new n ∙ grown_labels (word_place obj k) x (opened p (word_place obj k) before (so_far obj k))))
        (opened_after (word_place obj k) (word_place obj (k + 1)) before (so_far obj k) (subst (λ (qs : List Place). IsAfter qs (word_place obj k)) (labels_are (so_far obj k) before g h.holds) h.after) refl (omega arith));
    first = λ e. cc;
    some = λ s e. next_some obj k x before g h (sym next ∙ e);
    ends = λ e. subst (λ (ss : List Shape). EndsOff ss) shapes (grown_off (word_place obj k) x (opened p (word_place obj k) before (so_far obj k)) (goes_on p (word_place obj k) x i (ap (λ (z : Place). begins p z) same ∙ e)));
  }
    where
      same : next_place (word_place obj k) ≡ word_place obj (k + 1)
      same = equal_places (next_place (word_place obj k)) (word_place obj (k + 1)) refl (omega arith)

      here : slice_get (text_of p obj) k ≡ Some x
      here = sym (item_is p obj k) ∙ i

      next : text_so_far obj (k + 1) ≡ cond (begins p (word_place obj k)) (begun p (word_place obj k) x (text_so_far obj k)) (grown (word_place obj k) x (text_so_far obj k))
      next = text_next obj k x here (known_front prog obj k text t)

      shapes : grown (word_place obj k) x (opened p (word_place obj k) before (so_far obj k)) ≡ so_far obj (k + 1)
      shapes = shapes_next obj k x before g h ∙ ap (λ (ss : List Shape). before_text obj ++ ss) (sym next)

  -- ---- a text more

  shapes_snoc : (obj : ℕ) (texts : List (List Item)) (t : List Item) → shapes_from p obj (texts ++ t ∷ []) ≡ shapes_from p obj texts ++ text_shapes p (obj + length texts) t
  shapes_snoc obj [] t = let e : obj ≡ obj + 0 = omega arith in append_nil (text_shapes p obj t) ∙ ap (λ (n : ℕ). text_shapes p n t) e
  shapes_snoc obj (u ∷ us) t =
      let e : suc obj + length us ≡ obj + suc (length us) = omega arith in
      ap (λ (ss : List Shape). text_shapes p obj u ++ ss) (shapes_snoc (suc obj) us t ∙ ap (λ (n : ℕ). shapes_from p (suc obj) us ++ text_shapes p n t) e)
      ∙ sym (append_assoc (text_shapes p obj u) (shapes_from p (suc obj) us) (text_shapes p (obj + suc (length us)) t))

  pub text_lifted : (obj k : ℕ) (before : Option ℕ) (g : GraphView) → obj < length p.texts → length (text_of p obj) ≤ k → Lifting obj k before g → HasLifted p (obj + 1) g
  text_lifted obj k before g l m h = record {
    holds = subst (λ (ss : List Shape). Holds p ss None g) whole (record {
      counts = h.holds.counts;
      roots = h.holds.roots;
      tables = h.holds.tables;
      shapes = h.holds.shapes;
      labels = h.holds.labels;
      last = tt;
    });
    after = λ q i. lt_later q (word_place obj k) (record { obj = obj + 1; off = 0 }) (h.after q i) (omega arith);
  }
    where
      found : slice_get p.texts obj ≡ Some (get_or p.texts obj [])
      found = slice_get-get_or p.texts obj [] l

      this : text_of p obj ≡ get_or p.texts obj []
      this = ap (λ o. unwrap_or o []) found

      number : obj ≡ 0 + length (take obj p.texts)
      number = let e = length-take-le obj p.texts (omega (arith, l)) in omega (arith, e)

      whole : so_far obj k ≡ shapes_from p 0 (take (obj + 1) p.texts)
      whole =
          ap (λ (is : List Item). before_text obj ++ text_shapes p obj is) (take_all k (text_of p obj) m ∙ this)
          ∙ ap (λ (n : ℕ). before_text obj ++ text_shapes p n (get_or p.texts obj [])) number
          ∙ sym (ap (λ (ts : List (List Item)). shapes_from p 0 ts) (take_step obj p.texts (get_or p.texts obj []) found) ∙ shapes_snoc 0 (take obj p.texts) (get_or p.texts obj []))

  -- ---- first and last

  map_length : (ts : List (List Item)) → length (map (λ text. length text) ts) ≡ length ts
  map_length [] = refl
  map_length (t ∷ ts) = ap (λ (n : ℕ). suc n) (map_length ts)

  pub few_objects : (counts : List ℕ) → IsProgram p → counts ≡ map (λ text. length text) p.texts → length counts < 2 ^ 32
  few_objects counts h c =
      let few = h.objects in
      subst (λ (n : ℕ). n < 2 ^ 32) (sym (ap (λ (ns : List ℕ). length ns) c ∙ map_length p.texts)) few

  pub none_lifted : (counts : List ℕ) (roots : List Place) → counts ≡ map (λ text. length text) p.texts → roots ≡ program_roots p → HasLifted p 0 (made counts roots)
  none_lifted counts roots c r = record {
    holds = record {
      counts = c;
      roots = r;
      tables = ap (λ (n : ℕ). numbers_from 0 n) (ap (λ (ns : List ℕ). length ns) c ∙ map_length p.texts);
      shapes = refl;
      labels = refl;
      last = tt;
    };
    after = λ q i. absurd i;
  }

  pub all_lifted : (n : ℕ) (g : GraphView) → HasLifted p n g → length p.texts ≤ n → IsGraph (cleared g) → IsLifted p (cleared g)
  all_lifted n g h l graph = record {
    graph = graph;
    counts = h.holds.counts;
    roots = h.holds.roots;
    tables = h.holds.tables;
    blocks = h.holds.shapes ∙ ap (λ (ts : List (List Item)). shapes_from p 0 ts) (take_all n p.texts l);
    labels = h.holds.labels;
    touched = refl;
  }
