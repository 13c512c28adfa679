-- Sets of places as words are put into them one by one.
use Rattle.std.proofs.Common.{◌≡◌, ℕ, zero, suc, ◌+◌, ◌/◌, ◌%◌, ◌*◌, ◌<◌, ◌≤◌, Bool, true, false, cond, ◌||◌, ◌==◌, List, [], ◌∷◌, ◌++◌, length, replicate, take, Option, Some, None, refl, sym, ap, ◌∙◌, subst, arith, ◌^◌, lit<}
use Rattle.std.specs.Prelude.{Vec, map, get_or, nat_lt, slice_get, unwrap_or, option_and_then, is_some}
use Rattle.std.specs.List.{list_any}
use Rattle.std.proofs.lemmas.Bool.{true≢false, eqb-true, eq-eqb, ltb-true, ltb-false}
use Rattle.std.proofs.lemmas.Option.{slice_get_within, slice_get_past, slice_get-get_or}
use Rattle.std.proofs.lemmas.List.Folds.{list_any-append}
use Rattle.std.proofs.lemmas.List.{take_all}
use Rattle.om_value.specs.declared.value.Place.{Place}
use Rattle.om_value.specs.Same.{place_eq}
use Rattle.om_prog.specs.declared.item.Item.{Item}
use Rattle.om_prog.specs.View.{ProgramView, text_of, word_count, item_at, is_word}
use Rattle.om_prog.specs.Valid.{IsProgram}
use Rattle.om_prog.proofs.Found.{take_step}
use Rattle.om_graph.specs.Landing.{loads_place, branches_to}
use Rattle.om_lift.specs.declared.places.PlaceSet.{PlaceSet}
use Rattle.om_lift.specs.declared.marks.Marks.{Marks}
use Rattle.om_lift.specs.Places.{row_in, row, has, IsSet, AreMarks}

-- ---- rows

pub row_before : {A : Type 0} → (vs : List (Vec Bool A)) (v : Vec Bool A) (k : ℕ) → k < length vs → row_in (vs ++ v ∷ []) k ≡ row_in vs k
row_before [] v k h = absurd (omega (arith, h))
row_before (w ∷ ws) v zero h = refl
row_before (w ∷ ws) v (suc k) h = row_before ws v k (omega (arith, h))

pub row_last : {A : Type 0} → (vs : List (Vec Bool A)) (v : Vec Bool A) (k : ℕ) → k ≡ length vs → row_in (vs ++ v ∷ []) k ≡ v.items
row_last [] v zero h = refl
row_last [] v (suc k) h = absurd (omega (arith, h))
row_last (w ∷ ws) v zero h = absurd (omega (arith, h))
row_last (w ∷ ws) v (suc k) h = row_last ws v k (omega (arith, h))

pub row_past : {A : Type 0} → (vs : List (Vec Bool A)) (k : ℕ) → length vs ≤ k → row_in vs k ≡ []
row_past vs k h = let e = slice_get_past vs k h in rw e refl

pub none_in : (n k : ℕ) → unwrap_or (slice_get (replicate n false) k) false ≡ false
none_in zero k = refl
none_in (suc n) zero = refl
none_in (suc n) (suc k) = none_in n k

length_of : (n : ℕ) → length (replicate n false) ≡ n
length_of zero = refl
length_of (suc n) = ap (λ m. suc m) (length_of n)

pub none_past : (p : ProgramView) (obj : ℕ) → length p.texts ≤ obj → word_count p obj ≡ 0
none_past p obj h = let e = slice_get_past p.texts obj h in rw e refl

-- one empty row more
pub row_push :
    {A : Type 0} → (p : ProgramView) (vs ws : List (Vec Bool A)) (v : Vec Bool A) (obj : ℕ) → ws ≡ vs ++ v ∷ [] → length vs ≡ obj →
    ((k : ℕ) → k < obj → row_in vs k ≡ replicate (word_count p k) false) → v.items ≡ replicate (word_count p obj) false →
    (k : ℕ) → k < obj + 1 → row_in ws k ≡ replicate (word_count p k) false
row_push {A = A} p vs ws v obj e n old here k h = ap (λ (us : List (Vec Bool A)). row_in us k) e ∙ by_case (nat_lt k obj) refl
  where
    by_case : (b : Bool) → nat_lt k obj ≡ b → row_in (vs ++ v ∷ []) k ≡ replicate (word_count p k) false
    by_case true t = let l = ltb-true k obj t in row_before vs v k (omega (arith, n, l)) ∙ old k l
    by_case false t =
        let g = ltb-false k obj t in
        let m : k ≡ obj = omega (arith, g, h) in
        row_last vs v k (omega (arith, n, m)) ∙ here ∙ sym (ap (λ i. replicate (word_count p i) false) m)

-- rows that are all empty
pub empty_set :
    (p : ProgramView) (s : PlaceSet) → length s.rows.items ≡ length p.texts →
    ((k : ℕ) → k < length p.texts → row s k ≡ replicate (word_count p k) false) → IsSet p (λ q. false) s
empty_set p s n e = record { sized = sized; each = λ q w. by_row q (at_each q.obj) }
  where
    at_each : (obj : ℕ) → row s obj ≡ replicate (word_count p obj) false
    at_each obj = by_case (nat_lt obj (length p.texts)) refl
      where
        by_case : (b : Bool) → nat_lt obj (length p.texts) ≡ b → row s obj ≡ replicate (word_count p obj) false
        by_case true h = e obj (ltb-true obj (length p.texts) h)
        by_case false h =
            let past = ltb-false obj (length p.texts) h in
            row_past s.rows.items obj (omega (arith, n, past)) ∙ sym (ap (λ m. replicate m false) (none_past p obj past))

    sized : (obj : ℕ) → length (row s obj) ≡ word_count p obj
    sized obj = ap (λ (l : List Bool). length l) (at_each obj) ∙ length_of (word_count p obj)

    by_row : (q : Place) → row s q.obj ≡ replicate (word_count p q.obj) false → has s q ≡ false
    by_row q h = ap (λ (l : List Bool). unwrap_or (slice_get l (q.off / 4)) false) h ∙ none_in (word_count p q.obj) (q.off / 4)

-- ---- words

pub record InRow (p : ProgramView) (q : Place) : Type 0 where
  pub aligned : q.off % 4 ≡ 0
  pub below : q.off / 4 < word_count p q.obj

pub word_in : (p : ProgramView) (q : Place) → is_word p q ≡ true → InRow p q
word_in p q w = by_off (q.off % 4 == 0) refl w
  where
    by_text : (o : Option (List Item)) → is_some (option_and_then (λ text. slice_get text (q.off / 4)) o) ≡ true → q.off / 4 < length (unwrap_or o [])
    by_text None e = absurd (true≢false (sym e))
    by_text (Some text) e = by_item (slice_get text (q.off / 4)) refl e
      where
        by_item : (o : Option Item) → slice_get text (q.off / 4) ≡ o → is_some o ≡ true → q.off / 4 < length text
        by_item None f e = absurd (true≢false (sym e))
        by_item (Some i) f e = slice_get_within text (q.off / 4) i f

    by_off : (b : Bool) → (q.off % 4 == 0) ≡ b → is_some (cond b (option_and_then (λ text. slice_get text (q.off / 4)) (slice_get p.texts q.obj)) None) ≡ true → InRow p q
    by_off true h e = record { aligned = eqb-true (q.off % 4) 0 h; below = by_text (slice_get p.texts q.obj) e }
    by_off false h e = absurd (true≢false (sym e))

-- ---- one place more

pub set_same : (p : ProgramView) (f g : Place → Bool) (s : PlaceSet) → IsSet p f s → ((q : Place) → f q ≡ g q) → IsSet p g s
set_same p f g s h e = record { sized = h.sized; each = λ q w. h.each q w ∙ e q }

-- what putting a place into a set makes of it
pub record Inserted (old new : PlaceSet) (at : Place) : Type 0 where
  pub now : (q : Place) → q.off % 4 ≡ 0 → q.off / 4 < length (row old q.obj) → has new q ≡ (place_eq at q || has old q)
  pub sized : (obj : ℕ) → length (row new obj) ≡ length (row old obj)

pub set_more : (p : ProgramView) (test : Place → Bool) (old new : PlaceSet) (at : Place) → IsSet p test old → Inserted old new at → IsSet p (λ q. place_eq at q || test q) new
set_more p test old new at h i = record {
  sized = λ obj. i.sized obj ∙ h.sized obj;
  each = λ q w.
      let r = word_in p q w in
      let n = h.sized q.obj in
      let below = r.below in
      i.now q r.aligned (omega (arith, n, below)) ∙ ap (λ (b : Bool). place_eq at q || b) (h.each q w);
}

-- ---- marks

or_none : (b : Bool) → (b || false) ≡ b
or_none true = refl
or_none false = refl

or_swap : (a b : Bool) → (a || b) ≡ (b || a)
or_swap true true = refl
or_swap true false = refl
or_swap false true = refl
or_swap false false = refl

or_assoc : (a b c : Bool) → ((a || b) || c) ≡ (a || (b || c))
or_assoc true b c = refl
or_assoc false b c = refl

or_next : (a b c : Bool) → (a || (b || c)) ≡ ((b || a) || c)
or_next true b c = ap (λ (x : Bool). x || c) (or_swap true b)
or_next false b c = ap (λ (x : Bool). x || c) (or_swap false b)

pub marks_same :
    (p : ProgramView) (f g h k : Place → Bool) (m : Marks) → AreMarks p f g m → ((q : Place) → f q ≡ h q) → ((q : Place) → g q ≡ k q) → AreMarks p h k m
marks_same p f g h k m a e d = record { names = set_same p f h m.named a.names e; branches = set_same p g k m.branched a.branches d }

pub any_none : {A : Type 0} → (f : A → Bool) (b : Bool) → b ≡ (b || list_any f [])
any_none f b = sym (or_none b)

-- a list with one element more
pub any_step : {A : Type 0} → (test : A → Bool) (xs : List A) (i : ℕ) (x : A) (b : Bool) → slice_get xs i ≡ Some x → ((b || list_any test (take i xs)) || test x) ≡ (b || list_any test (take (i + 1) xs))
any_step test xs i x b e =
    or_assoc b (list_any test (take i xs)) (test x)
    ∙ ap (λ (c : Bool). b || c) (sym (ap (λ zs. list_any test zs) (take_step i xs x e) ∙ list_any-append test (take i xs) (x ∷ []) ∙ ap (λ (c : Bool). list_any test (take i xs) || c) (or_none (test x))))

pub any_front : {A : Type 0} → (test : A → Bool) (xs : List A) (i : ℕ) (x : A) (b : Bool) → slice_get xs i ≡ Some x → (test x || (list_any test (take i xs) || b)) ≡ (list_any test (take (i + 1) xs) || b)
any_front test xs i x b e =
    or_next (test x) (list_any test (take i xs)) b
    ∙ ap (λ (c : Bool). c || b) (sym (ap (λ zs. list_any test zs) (take_step i xs x e) ∙ list_any-append test (take i xs) (x ∷ []) ∙ ap (λ (c : Bool). list_any test (take i xs) || c) (or_none (test x))))

-- ---- the words of a text

pub few_words : (p : ProgramView) → IsProgram p → (obj : ℕ) → word_count p obj < 2 ^ 30
few_words p h obj = by_text (slice_get p.texts obj) refl
  where
    by_text : (o : Option (List Item)) → slice_get p.texts obj ≡ o → length (unwrap_or o []) < 2 ^ 30
    by_text None e = lit< tt
    by_text (Some text) e = (h.texts.each obj text e).words

pub item_is : (p : ProgramView) (obj k : ℕ) → item_at p (record { obj = obj; off = 4 * k }) ≡ slice_get (text_of p obj) k
item_is p obj k =
    let a : (4 * k % 4 == 0) ≡ true = eq-eqb (4 * k % 4) 0 (omega arith) in
    let d : 4 * k / 4 ≡ k = omega arith in
    rw (a, d) (by_text (slice_get p.texts obj))
  where
    by_text : (o : Option (List Item)) → option_and_then (λ text. slice_get text k) o ≡ slice_get (unwrap_or o []) k
    by_text None = refl
    by_text (Some text) = refl

-- the marks that the first words of a text make beside earlier ones
abbrev pub AreTextMarks : (p : ProgramView) (obj k : ℕ) (named branched : Place → Bool) → Marks → Type 0
AreTextMarks p obj k named branched m =
    AreMarks p
    (λ q. named q || list_any (λ i. loads_place q i.role) (take k (text_of p obj)))
    (λ q. branched q || list_any (λ i. branches_to q i.role) (take k (text_of p obj)))
    m

pub text_more :
    (p : ProgramView) (obj k : ℕ) (o : Option Item) (x : Item) (named branched : Place → Bool) (m n : Marks) →
    o ≡ item_at p (record { obj = obj; off = 4 * k }) → o ≡ Some x → n ≡ m →
    AreMarks p
    (λ q. (named q || list_any (λ i. loads_place q i.role) (take k (text_of p obj))) || loads_place q x.role)
    (λ q. (branched q || list_any (λ i. branches_to q i.role) (take k (text_of p obj))) || branches_to q x.role)
    m →
    AreTextMarks p obj (k + 1) named branched n
text_more p obj k o x named branched m n i s same h =
    let e : slice_get (text_of p obj) k ≡ Some x = sym (item_is p obj k) ∙ sym i ∙ s in
    subst (λ (l : Marks). AreTextMarks p obj (k + 1) named branched l) (sym same)
    (marks_same p _ _ _ _ m h
    (λ q. any_step (λ i. loads_place q i.role) (text_of p obj) k x (named q) e)
    (λ q. any_step (λ i. branches_to q i.role) (text_of p obj) k x (branched q) e))

some_there : {A : Type 0} → (xs : List A) (k : ℕ) → k < length xs → slice_get xs k ≡ None → ⊥
some_there [] k l e = omega (arith, l)
some_there (x ∷ xs) zero l e = cc
some_there (x ∷ xs) (suc k) l e = some_there xs k (omega (arith, l)) e

pub word_there : (p : ProgramView) (obj k : ℕ) (o : Option Item) → o ≡ item_at p (record { obj = obj; off = 4 * k }) → o ≡ None → k < word_count p obj → ⊥
word_there p obj k o i s l =
    let e : slice_get (text_of p obj) k ≡ None = sym (item_is p obj k) ∙ sym i ∙ s in
    some_there (text_of p obj) k l e

pub all_texts : (p : ProgramView) (k : ℕ) → length p.texts ≤ k → (test : Item → Bool) → list_any (λ text. list_any test text) (take k p.texts) ≡ list_any (λ text. list_any test text) p.texts
all_texts p k h test = ap (λ ts. list_any (λ text. list_any test text) ts) (take_all k p.texts h)

pub texts_more :
    (p : ProgramView) (obj : ℕ) (named branched : Place → Bool) (m : Marks) → obj < length p.texts →
    AreMarks p
    (λ q. (named q || list_any (λ text. list_any (λ i. loads_place q i.role) text) (take obj p.texts)) || list_any (λ i. loads_place q i.role) (text_of p obj))
    (λ q. (branched q || list_any (λ text. list_any (λ i. branches_to q i.role) text) (take obj p.texts)) || list_any (λ i. branches_to q i.role) (text_of p obj))
    m →
    AreMarks p
    (λ q. named q || list_any (λ text. list_any (λ i. loads_place q i.role) text) (take (obj + 1) p.texts))
    (λ q. branched q || list_any (λ text. list_any (λ i. branches_to q i.role) text) (take (obj + 1) p.texts))
    m
texts_more p obj named branched m l h =
    let e = slice_get-get_or p.texts obj [] l in
    let t = ap (λ o. unwrap_or o []) e in
    marks_same p _ _ _ _ m h
    (λ q. ap (λ (text : List Item). (named q || list_any (λ text. list_any (λ i. loads_place q i.role) text) (take obj p.texts)) || list_any (λ i. loads_place q i.role) text) t
    ∙ any_step (λ text. list_any (λ i. loads_place q i.role) text) p.texts obj (get_or p.texts obj []) (named q) e)
    (λ q. ap (λ (text : List Item). (branched q || list_any (λ text. list_any (λ i. branches_to q i.role) text) (take obj p.texts)) || list_any (λ i. branches_to q i.role) text) t
    ∙ any_step (λ text. list_any (λ i. branches_to q i.role) text) p.texts obj (get_or p.texts obj []) (branched q) e)

pub roots_more :
    (p : ProgramView) (rs : List Place) (k : ℕ) (x : Place) (named branched : Place → Bool) (m : Marks) (s : PlaceSet) → slice_get rs k ≡ Some x →
    AreMarks p (λ q. list_any (λ r. place_eq r q) (take k rs) || named q) branched m → Inserted m.named s x →
    AreMarks p (λ q. list_any (λ r. place_eq r q) (take (k + 1) rs) || named q) branched (record { named = s; branched = m.branched })
roots_more p rs k x named branched m s e h i = record {
  names = set_same p _ _ s (set_more p _ m.named s x h.names i) (λ q. any_front (λ r. place_eq r q) rs k x (named q) e);
  branches = h.branches;
}

-- ---- counts

map_snoc : {A B : Type 0} → (f : A → B) (xs : List A) (x : A) → map f (xs ++ x ∷ []) ≡ map f xs ++ f x ∷ []
map_snoc f [] x = refl
map_snoc f (y ∷ ys) x = ap (λ zs. f y ∷ zs) (map_snoc f ys x)

pub counts_more :
    (p : ProgramView) (obj n : ℕ) (old new : List ℕ) → obj < length p.texts → old ≡ map (λ text. length text) (take obj p.texts) → n ≡ word_count p obj →
    new ≡ old ++ n ∷ [] → new ≡ map (λ text. length text) (take (obj + 1) p.texts)
counts_more p obj n old new l h e m =
    let f = slice_get-get_or p.texts obj [] l in
    let t = ap (λ o. unwrap_or o []) f in
    let s = take_step obj p.texts (get_or p.texts obj []) f in
    m ∙ ap (λ (xs : List ℕ). xs ++ n ∷ []) h ∙ ap (λ (k : ℕ). map (λ text. length text) (take obj p.texts) ++ k ∷ []) (e ∙ ap (λ (is : List Item). length is) t)
    ∙ sym (ap (λ ts. map (λ text. length text) ts) s ∙ map_snoc (λ text. length text) (take obj p.texts) (get_or p.texts obj []))
