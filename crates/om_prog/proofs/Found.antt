-- What the passes over all regions and over all words of a text have found.
use Rattle.std.proofs.Common.{◌≡◌, ◌⊎◌, inl, inr, ℕ, zero, suc, ◌+◌, ◌<◌, Bool, true, false, cond, ◌&&◌, ◌||◌, ◌==◌, List, [], ◌∷◌, ◌++◌, length, take, Option, Some, None, refl, sym, ap, ◌∙◌, subst, arith}
use Rattle.std.specs.Prelude.{get_or, option_map, is_some, find, count_by, IfOk, Result, Ok, Err}
use Rattle.std.specs.List.{slice_get, list_any}
use Rattle.std.specs.Option.{option_or}
use Rattle.std.proofs.lemmas.Bool.{true≢false, eqb-true}
use Rattle.std.proofs.lemmas.Bool.Decides.{nat_tests}
use Rattle.std.proofs.lemmas.List.Folds.{find-append, list_any-append}
use Rattle.std.proofs.lemmas.List.Sums.{sum_by-append}
use Rattle.om_value.specs.declared.value.Region.{Region}
use Rattle.om_value.specs.declared.value.Region.TheVariants.{Sec, Common, Stack, Heap}
use Rattle.om_value.specs.declared.value.Target.{Target}
use Rattle.om_value.specs.declared.value.Target.TheVariants.{Num, Ptr, Code}
use Rattle.om_value.specs.Same.{region_eq, target_eq}
use Rattle.om_prog.specs.declared.item.Item.{Item}
use Rattle.om_prog.specs.declared.keys.RegionSizes.{RegionSizes}
use Rattle.om_prog.specs.declared.keys.Slots.{Slots}
use Rattle.om_prog.specs.declared.region.RegionInit.{RegionInit}
use Rattle.om_prog.specs.Keys.{size_in, is_slot}
use Rattle.om_prog.specs.Valid.{AreOnce, slots, slots_onto, with_slot, with_target, literal_of, names_high, is_low_of}
use Rattle.om_prog.specs.Making.{HasSizes, HasSlots, AreMarks, up_to_two, word_place}

-- ---- lists

pub some_is : {A : Type 0} → (x y : A) → Some x ≡ Some y → x ≡ y
some_is x y e = cc

take_next :
    {A : Type 0} → (i : ℕ) (xs : List A) (x : A) → slice_get xs i ≡ Some x → take (suc i) xs ≡ take i xs ++ x ∷ []
take_next i [] x e = cc
take_next zero (y ∷ ys) x e = ap (λ z. z ∷ []) (some_is y x e)
take_next (suc i) (y ∷ ys) x e = ap (λ zs. y ∷ zs) (take_next i ys x e)

next_is : (i : ℕ) → i + 1 ≡ suc i
next_is i = omega arith

pub take_step :
    {A : Type 0} → (i : ℕ) (xs : List A) (x : A) → slice_get xs i ≡ Some x → take (i + 1) xs ≡ take i xs ++ x ∷ []
take_step i xs x e = ap (λ n. take n xs) (next_is i) ∙ take_next i xs x e

pub take_get : {A : Type 0} → (i : ℕ) (xs : List A) (j : ℕ) (y : A) → slice_get (take i xs) j ≡ Some y → (j < i) × (slice_get xs j ≡ Some y)
take_get zero xs j y e = cc
take_get (suc i) [] j y e = cc
take_get (suc i) (x ∷ xs) zero y e = (omega arith, e)
take_get (suc i) (x ∷ xs) (suc j) y e = let r = take_get i xs j y e in let below = r.0 in (grind (arith, below), r.1)

pub snoc_get : {A : Type 0} → (xs : List A) (x : A) (k : ℕ) (y : A) → slice_get (xs ++ x ∷ []) k ≡ Some y → (slice_get xs k ≡ Some y) ⊎ ((k ≡ length xs) × (x ≡ y))
snoc_get [] x zero y e = inr (refl, some_is x y e)
snoc_get [] x (suc k) y e = cc
snoc_get (z ∷ zs) x zero y e = inl e
snoc_get (z ∷ zs) x (suc k) y e = next (snoc_get zs x k y e)
  where
    next : (slice_get zs k ≡ Some y) ⊎ ((k ≡ length zs) × (x ≡ y)) → (slice_get zs k ≡ Some y) ⊎ ((suc k ≡ suc (length zs)) × (x ≡ y))
    next (inl f) = inl f
    next (inr f) = inr (ap (λ n. suc n) f.0, f.1)

pub get_below : {A : Type 0} → (xs : List A) (k : ℕ) (y : A) → slice_get xs k ≡ Some y → k < length xs
get_below [] k y e = cc
get_below (x ∷ xs) zero y e = omega arith
get_below (x ∷ xs) (suc k) y e = let r = get_below xs k y e in grind (arith, r)

pub find_some : {A : Type 0} → (p : A → Bool) (xs : List A) (y : A) → find p xs ≡ Some y → (k : ℕ) × (slice_get xs k ≡ Some y) × (p y ≡ true)
find_some p [] y e = cc
find_some p (x ∷ xs) y e = by_case (p x) refl e (λ f. find_some p xs y f)
  where
    by_case :
        (b : Bool) → p x ≡ b → cond b (Some x) (find p xs) ≡ Some y → (find p xs ≡ Some y → (k : ℕ) × (slice_get xs k ≡ Some y) × (p y ≡ true)) →
        (k : ℕ) × (slice_get (x ∷ xs) k ≡ Some y) × (p y ≡ true)
    by_case true f e rest = (0, e, subst (λ z. p z ≡ true) (some_is x y e) f)
    by_case false f e rest = let r = rest e in (suc r.0, r.1, r.2)

pub find_none : {A : Type 0} → (p : A → Bool) (xs : List A) → find p xs ≡ None → (k : ℕ) (y : A) → slice_get xs k ≡ Some y → p y ≡ false
find_none p [] e k y f = cc
find_none p (x ∷ xs) e k y f = by_case (p x) refl e k f (λ g k. find_none p xs g k y)
  where
    by_case :
        (b : Bool) → p x ≡ b → cond b (Some x) (find p xs) ≡ None → (k : ℕ) → slice_get (x ∷ xs) k ≡ Some y →
        (find p xs ≡ None → (k : ℕ) → slice_get xs k ≡ Some y → p y ≡ false) → p y ≡ false
    by_case true g e k f rest = cc
    by_case false g e zero f rest = subst (λ z. p z ≡ false) (some_is x y f) g
    by_case false g e (suc k) f rest = rest e k f

pub if_both : {A E : Type 0} → (r : Result A E) (P Q R : A → Type 0) → IfOk r P → IfOk r Q → ((x : A) → P x → Q x → R x) → IfOk r R
if_both (Ok x) P Q R p q f = f x p q
if_both (Err e) P Q R p q f = tt

pub if_all : {A E : Type 0} → (r : Result A E) (P Q : A → Type 0) → IfOk r P → ((x : A) → P x → Q x) → IfOk r Q
if_all (Ok x) P Q p f = f x p
if_all (Err e) P Q p f = tt

-- ---- regions and targets

both_true : (a b : Bool) → (a && b) ≡ true → (a ≡ true) × (b ≡ true)
both_true true true e = (refl, refl)
both_true true false e = cc
both_true false b e = cc

pub same_region : (r q : Region) → region_eq r q ≡ true → r ≡ q
same_region (Sec o n) (Sec p m) e = let f = both_true (o == p) (n == m) e in rw (eqb-true o p f.0, eqb-true n m f.1) refl
same_region (Common s) (Common t) e = rw (eqb-true s t e) refl
same_region Stack Stack e = refl
same_region Heap Heap e = refl
same_region r q e = cc

code_same : (a b c d : ℕ) → a ≡ c → b ≡ d → Code (record { obj = a; off = b }) ≡ Code (record { obj = c; off = d })
code_same a b c d e f = rw (e, f) refl

pub same_target : (t u : Target) → target_eq t u ≡ true → t ≡ u
same_target (Num m) (Num n) e = rw (eqb-true m n e) refl
same_target (Ptr r x) (Ptr s y) e = let f = both_true (region_eq r s) (x == y) e in rw (same_region r s f.0, eqb-true x y f.1) refl
same_target (Code p) (Code q) e = let f = both_true (p.obj == q.obj) (p.off == q.off) e in code_same p.obj p.off q.obj q.off (eqb-true _ _ f.0) (eqb-true _ _ f.1)
same_target t u e = cc

-- ---- sizes

abbrev is_of : Region → RegionInit → Bool
is_of r i = region_eq i.region r

abbrev size_of_init : RegionInit → ℕ
size_of_init i = i.size

some_map : {A B : Type 0} → (f : A → B) (o : Option A) → is_some (option_map f o) ≡ is_some o
some_map f None = refl
some_map f (Some x) = refl

not_some : {A : Type 0} → (o : Option A) → is_some o ≡ false → o ≡ None
not_some None e = refl
not_some (Some x) e = cc

a_some : {A : Type 0} → (o : Option A) → is_some o ≡ true → (x : A) × (o ≡ Some x)
a_some None e = cc
a_some (Some x) e = (x, refl)

or_none : {A : Type 0} → (o : Option A) → option_or o None ≡ o
or_none None = refl
or_none (Some x) = refl

is_some_of : (old : RegionSizes) (xs : List RegionInit) (r : Region) → HasSizes old xs → is_some (find (is_of r) xs) ≡ is_some (size_in old r)
is_some_of old xs r h = sym (some_map size_of_init (find (is_of r) xs)) ∙ sym (ap (λ o. is_some o) (h.holds r))

none_of : (old : RegionSizes) (xs : List RegionInit) (r : Region) → HasSizes old xs → is_some (size_in old r) ≡ false → find (is_of r) xs ≡ None
none_of old xs r h e = not_some _ (is_some_of old xs r h ∙ e)

found_new : (xs : List RegionInit) (x : RegionInit) (r : Region) → find (is_of r) xs ≡ None → region_eq x.region r ≡ true → find (is_of r) (xs ++ x ∷ []) ≡ Some x
found_new xs x r e f = find-append (is_of r) xs (x ∷ []) ∙ rw (e, f) refl

found_old : (xs : List RegionInit) (x : RegionInit) (r : Region) → region_eq x.region r ≡ false → find (is_of r) (xs ++ x ∷ []) ≡ find (is_of r) xs
found_old xs x r f = find-append (is_of r) xs (x ∷ []) ∙ rw (f) (or_none (find (is_of r) xs))

module _ (old new : RegionSizes) (xs : List RegionInit) (x : RegionInit) (h : HasSizes old xs) (fresh : is_some (size_in old x.region) ≡ false) where
  noted_at :
      (r : Region) (b : Bool) → region_eq x.region r ≡ b → size_in new r ≡ cond b (Some x.size) (size_in old r) →
      size_in new r ≡ option_map size_of_init (find (is_of r) (xs ++ x ∷ []))
  noted_at r true e now =
      let gone = none_of old xs r h (subst (λ q. is_some (size_in old q) ≡ false) (same_region x.region r e) fresh) in
      now ∙ sym (ap (λ o. option_map size_of_init o) (found_new xs x r gone e))
  noted_at r false e now = now ∙ h.holds r ∙ sym (ap (λ o. option_map size_of_init o) (found_old xs x r e))

  pub noted_size : ((q : Region) → size_in new q ≡ cond (region_eq x.region q) (Some x.size) (size_in old q)) → HasSizes new (xs ++ x ∷ [])
  noted_size now = record { holds = λ r. noted_at r (region_eq x.region r) refl (now r) }

module _ (old : RegionSizes) (xs : List RegionInit) (x : RegionInit) (h : HasSizes old xs) (once : AreOnce xs) (fresh : is_some (size_in old x.region) ≡ false) where
  once_last : (j : ℕ) (a : RegionInit) → (slice_get xs j ≡ Some a) ⊎ ((j ≡ length xs) × (x ≡ a)) → j < length xs → region_eq a.region x.region ≡ false
  once_last j a (inl e) below = find_none (is_of x.region) xs (none_of old xs x.region h fresh) j a e
  once_last j a (inr e) below = let f = e.0 in absurd (grind (arith, f, below))

  once_first :
      (j k : ℕ) (a b : RegionInit) → j < k → slice_get xs k ≡ Some b → (slice_get xs j ≡ Some a) ⊎ ((j ≡ length xs) × (x ≡ a)) →
      region_eq a.region b.region ≡ false
  once_first j k a b below f (inl e) = once.apart j k a b below e f
  once_first j k a b below f (inr e) = let g = e.0 in let h = get_below xs k b f in absurd (grind (arith, g, h, below))

  once_at :
      (j k : ℕ) (a b : RegionInit) → j < k → slice_get (xs ++ x ∷ []) j ≡ Some a →
      (slice_get xs k ≡ Some b) ⊎ ((k ≡ length xs) × (x ≡ b)) → region_eq a.region b.region ≡ false
  once_at j k a b below e (inl f) = once_first j k a b below f (snoc_get xs x j a e)
  once_at j k a b below e (inr f) =
      let g = f.0 in
      subst (λ (z : RegionInit). region_eq a.region z.region ≡ false) f.1 (once_last j a (snoc_get xs x j a e) (grind (arith, g, below)))

  pub once_more : AreOnce (xs ++ x ∷ [])
  once_more = record { apart = λ j k a b below e f. once_at j k a b below e (snoc_get xs x k b f) }

pub twice :
    (old : RegionSizes) (all : List RegionInit) (i : ℕ) (x : RegionInit) → HasSizes old (take i all) → slice_get all i ≡ Some x →
    is_some (size_in old x.region) ≡ true → AreOnce all → ⊥
twice old all i x h e had once =
    let some = a_some (find (is_of x.region) (take i all)) (is_some_of old (take i all) x.region h ∙ had) in
    let found = find_some (is_of x.region) (take i all) some.0 some.1 in
    let earlier = take_get i all found.0 some.0 found.1 in
    true≢false (sym found.2 ∙ once.apart found.0 i some.0 x earlier.0 earlier.1 e)

-- ---- slots

or_false : (b : Bool) → (b || false) ≡ b
or_false true = refl
or_false false = refl

or_turned : (a b : Bool) → (a || b) ≡ (b || a)
or_turned true true = refl
or_turned true false = refl
or_turned false true = refl
or_turned false false = refl

module _ (old new : Slots) (ts : List Target) (t : Target) (h : HasSlots old ts) where
  slot_there : (q : Target) (b : Bool) → target_eq t q ≡ b → is_slot old t ≡ true → (b || is_slot old q) ≡ is_slot old q
  slot_there q true e f = sym (subst (λ (u : Target). is_slot old u ≡ true) (same_target t q e) f)
  slot_there q false e f = refl

  slot_at :
      (q : Target) (b : Bool) → list_any (λ u. target_eq u t) ts ≡ b → is_slot new q ≡ (target_eq t q || is_slot old q) →
      is_slot new q ≡ list_any (λ u. target_eq u q) (cond b ts (ts ++ t ∷ []))
  slot_at q true e now = now ∙ slot_there q (target_eq t q) refl (h.holds t ∙ e) ∙ h.holds q
  slot_at q false e now =
      now ∙ or_turned (target_eq t q) (is_slot old q) ∙
      sym (list_any-append (λ u. target_eq u q) ts (t ∷ []) ∙ rw (or_false (target_eq t q), sym (h.holds q)) refl)

  pub noted_slot : ((q : Target) → is_slot new q ≡ (target_eq t q || is_slot old q)) → HasSlots new (with_target ts t)
  noted_slot now = record { holds = λ q. slot_at q (list_any (λ u. target_eq u t) ts) refl (now q) }

slots_snoc : (ts : List Target) (xs : List Item) (x : Item) → slots_onto ts (xs ++ x ∷ []) ≡ with_slot (slots_onto ts xs) (literal_of x)
slots_snoc ts [] x = refl
slots_snoc ts (y ∷ ys) x = slots_snoc (with_slot ts (literal_of y)) ys x

pub slots_step : (text : List Item) (i : ℕ) (x : Item) → slice_get text i ≡ Some x → slots (take (i + 1) text) ≡ with_slot (slots (take i text)) (literal_of x)
slots_step text i x e = ap (λ xs. slots xs) (take_step i text x e) ∙ slots_snoc [] (take i text) x

-- ---- marks

plus_none : (n : ℕ) → n + (0 + 0) ≡ n
plus_none n = omega arith

one_more : (n : ℕ) → up_to_two (up_to_two n + 1) ≡ up_to_two (n + 1)
one_more n = grind (arith, nat_tests)

module _ (obj : ℕ) (text : List Item) (i : ℕ) (x : Item) (old new : List ℕ) (h : AreMarks obj text (take i text) old) (e : slice_get text i ≡ Some x) where
  abbrev counts : ℕ → List Item → ℕ
  counts k xs = count_by (is_low_of (word_place obj k)) xs

  counted : (k : ℕ) → counts k (take (i + 1) text) ≡ counts k (take i text) + (0 + cond (names_high (word_place obj k) x.role) 1 0)
  counted k = ap (λ xs. counts k xs) (take_step i text x e) ∙ sum_by-append (λ y. cond (is_low_of (word_place obj k) y) 1 0) (take i text) (x ∷ [])

  mark_at :
      (k : ℕ) → k < length text → (b : Bool) → get_or new k 0 ≡ cond b (up_to_two (get_or old k 0 + 1)) (get_or old k 0) →
      counts k (take (i + 1) text) ≡ counts k (take i text) + (0 + cond b 1 0) → get_or new k 0 ≡ up_to_two (counts k (take (i + 1) text))
  mark_at k below true now more = now ∙ rw (h.each k below, more) (one_more (counts k (take i text)))
  mark_at k below false now more = now ∙ h.each k below ∙ ap (λ n. up_to_two n) (sym (more ∙ plus_none (counts k (take i text))))

  pub marks_step :
      length new ≡ length old →
      ((k : ℕ) → k < length old → get_or new k 0 ≡ cond (names_high (word_place obj k) x.role) (up_to_two (get_or old k 0 + 1)) (get_or old k 0)) →
      AreMarks obj text (take (i + 1) text) new
  marks_step long now = record {
    as_long = long ∙ h.as_long;
    each = λ k below. mark_at k below (names_high (word_place obj k) x.role) (now k (subst (λ n. k < n) (sym h.as_long) below)) (counted k);
  }
