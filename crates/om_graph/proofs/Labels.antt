-- Labels in order, and the words of blocks before the labels that follow.
use Rattle.std.proofs.Common.{◌≡◌, ◌⊎◌, ◌<◌, ◌≤◌, inl, inr, Bool, true, false, cond, ◌&&◌, ◌==◌, List, [], ◌∷◌, ◌++◌, Some, refl, sym, ap, ◌∙◌, subst, arith}
use Rattle.std.specs.Prelude.{nat_lt}
use Rattle.std.proofs.lemmas.Bool.{true≢false, eqb-true, eq-eqb, ltb-true, lt-ltb}
use Rattle.om_value.specs.declared.value.Place.{Place}
use Rattle.om_value.specs.Same.{place_eq}
use Rattle.om_prog.specs.Act.{Word}
use Rattle.om_graph.specs.View.{Block, Has, InPlaceOrder, place_lt}
use Rattle.om_graph.specs.Held.{label_list}
use Rattle.om_graph.specs.Run.{block_words, all_words}
use Rattle.om_graph.specs.Form.{is_behind, label_after}

-- ---- places

pub same_place : (p q : Place) → place_eq p q ≡ true → p ≡ q
same_place p q e = by_case _ _ refl refl e
  where
    by_case : (a b : Bool) → (p.obj == q.obj) ≡ a → (p.off == q.off) ≡ b → (a && b) ≡ true → p ≡ q
    by_case true true x y e = let o = eqb-true p.obj q.obj x in let f = eqb-true p.off q.off y in rw (o, f) refl
    by_case true false x y e = absurd (true≢false (sym e))
    by_case false b x y e = absurd (true≢false (sym e))

pub equal_places : (p q : Place) → p.obj ≡ q.obj → p.off ≡ q.off → p ≡ q
equal_places p q o f = same_place p q (rw (eq-eqb p.obj q.obj o, eq-eqb p.off q.off f) refl)

pub self_eq : (p : Place) → place_eq p p ≡ true
self_eq p = rw (eq-eqb p.obj p.obj refl, eq-eqb p.off p.off refl) refl

-- a place before another is before it in its text, or in an earlier text
pub lt_cases : (p q : Place) → place_lt p q ≡ true → ((p.obj ≡ q.obj) × (p.off < q.off)) ⊎ (p.obj < q.obj)
lt_cases p q e = by_obj (p.obj == q.obj) refl e
  where
    by_obj : (b : Bool) → (p.obj == q.obj) ≡ b → cond b (nat_lt p.off q.off) (nat_lt p.obj q.obj) ≡ true → ((p.obj ≡ q.obj) × (p.off < q.off)) ⊎ (p.obj < q.obj)
    by_obj true h e = inl (eqb-true p.obj q.obj h, ltb-true p.off q.off e)
    by_obj false h e = inr (ltb-true p.obj q.obj e)

pub lt_off : (p q : Place) → place_lt p q ≡ true → q.obj ≡ p.obj → p.off < q.off
lt_off p q e o = by_cases (lt_cases p q e)
  where
    by_cases : ((p.obj ≡ q.obj) × (p.off < q.off)) ⊎ (p.obj < q.obj) → p.off < q.off
    by_cases (inl h) = h.1
    by_cases (inr h) = absurd (omega (arith, o, h))

pub lt_obj : (p q : Place) → place_lt p q ≡ true → p.obj ≤ q.obj
lt_obj p q e = by_cases (lt_cases p q e)
  where
    by_cases : ((p.obj ≡ q.obj) × (p.off < q.off)) ⊎ (p.obj < q.obj) → p.obj ≤ q.obj
    by_cases (inl h) = let x = h.0 in omega (arith, x)
    by_cases (inr h) = omega (arith, h)

-- ---- behind a place

pub is_true : (p q : Place) → is_behind p q ≡ true → (q.obj ≡ p.obj) × (p.off < q.off)
is_true p q e = by_obj (q.obj == p.obj) refl e
  where
    by_obj : (b : Bool) → (q.obj == p.obj) ≡ b → (b && nat_lt p.off q.off) ≡ true → (q.obj ≡ p.obj) × (p.off < q.off)
    by_obj true h e = (eqb-true q.obj p.obj h, ltb-true p.off q.off e)
    by_obj false h e = absurd (true≢false (sym e))

pub true_is : (p q : Place) → q.obj ≡ p.obj → p.off < q.off → is_behind p q ≡ true
true_is p q o l = rw (eq-eqb q.obj p.obj o) (lt-ltb p.off q.off l)

pub found_behind : (ls : List Place) (p m : Place) → label_after ls p ≡ Some m → (is_behind p m ≡ true) × Has ls m
found_behind [] p m e = cc
found_behind (l ∷ ls) p m e = by_case (is_behind p l) refl e (found_behind ls p m)
  where
    by_case :
        (t : Bool) → is_behind p l ≡ t → cond t (Some l) (label_after ls p) ≡ Some m → (label_after ls p ≡ Some m → (is_behind p m ≡ true) × Has ls m) →
        (is_behind p m ≡ true) × Has (l ∷ ls) m
    by_case true h e f = let x : l ≡ m = cc in (subst (λ (y : Place). is_behind p y ≡ true) x h, inl x)
    by_case false h e f = let r = f e in (r.0, inr r.1)

pub record Least (ls : List Place) (p x : Place) : Type 0 where
  pub at : Place
  pub found : label_after ls p ≡ Some at
  pub among : Has ls at
  pub past : is_behind p at ≡ true
  pub least : at.off ≤ x.off

-- where a label is behind a place, the one found is behind it and not behind the label
pub least_after : (ls : List Place) (p x : Place) → InPlaceOrder ls → Has ls x → is_behind p x ≡ true → Least ls p x
least_after [] p x o h b = absurd h
least_after (l ∷ ls) p x o h b = by_first (is_behind p l) refl h (λ i. least_after ls p x o.1 i b)
  where
    by_first : (t : Bool) → is_behind p l ≡ t → Has (l ∷ ls) x → (Has ls x → Least ls p x) → Least (l ∷ ls) p x
    by_first true e (inl i) f = let i' = ap (λ (y : Place). y.off) i in record { at = l; found = rw e refl; among = inl refl; past = e; least = omega (arith, i') }
    by_first true e (inr i) f =
        let u = is_true p l e in
        let v = is_true p x b in
        let k = lt_off l x (o.0 x i) (v.0 ∙ sym u.0) in
        record { at = l; found = rw e refl; among = inl refl; past = e; least = omega (arith, k) }
    by_first false e (inl i) f = absurd (true≢false (sym b ∙ sym (ap (is_behind p) i) ∙ e))
    by_first false e (inr i) f =
        let r = f i in
        record { at = r.at; found = rw e r.found; among = inr r.among; past = r.past; least = r.least }

-- ---- blocks

pub has_label : (bs : List Block) (b : Block) → Has bs b → Has (label_list bs) b.label
has_label [] b h = absurd h
has_label (c ∷ bs) b (inl e) = inl (ap (λ (x : Block). x.label) e)
has_label (c ∷ bs) b (inr h) = inr (has_label bs b h)

pub has_append : {A : Type 0} (xs ys : List A) (x : A) → Has (xs ++ ys) x → Has xs x ⊎ Has ys x
has_append [] ys x h = inr h
has_append (y ∷ xs) ys x (inl e) = inl (inl e)
has_append (y ∷ xs) ys x (inr h) = by_case (has_append xs ys x h)
  where
    by_case : Has xs x ⊎ Has ys x → Has (y ∷ xs) x ⊎ Has ys x
    by_case (inl m) = inl (inr m)
    by_case (inr m) = inr m

pub append_left : {A : Type 0} (xs ys : List A) (x : A) → Has xs x → Has (xs ++ ys) x
append_left [] ys x h = absurd h
append_left (y ∷ xs) ys x (inl e) = inl e
append_left (y ∷ xs) ys x (inr h) = inr (append_left xs ys x h)

pub append_right : {A : Type 0} (xs ys : List A) (x : A) → Has ys x → Has (xs ++ ys) x
append_right [] ys x h = h
append_right (y ∷ xs) ys x h = inr (append_right xs ys x h)

-- the block of a word
pub record HasIn (bs : List Block) (w : Word) : Type 0 where
  pub block : Block
  pub among : Has bs block
  pub word : Has (block_words block) w

pub has_in : (bs : List Block) (w : Word) → Has (all_words bs) w → HasIn bs w
has_in [] w h = absurd h
has_in (b ∷ bs) w h = by_case (has_append (block_words b) (all_words bs) w h) (has_in bs w)
  where
    by_case : Has (block_words b) w ⊎ Has (all_words bs) w → (Has (all_words bs) w → HasIn bs w) → HasIn (b ∷ bs) w
    by_case (inl m) f = record { block = b; among = inl refl; word = m }
    by_case (inr m) f = let r = f m in record { block = r.block; among = inr r.among; word = r.word }

pub in_all : (bs : List Block) (b : Block) (w : Word) → Has bs b → Has (block_words b) w → Has (all_words bs) w
in_all [] b w h m = absurd h
in_all (c ∷ bs) b w (inl e) m = append_left (block_words c) (all_words bs) w (subst (λ (x : Block). Has (block_words x) w) (sym e) m)
in_all (c ∷ bs) b w (inr h) m = append_right (block_words c) (all_words bs) w (in_all bs b w h m)
