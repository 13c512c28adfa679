-- Names in first-seen order: each stands once, and each symbol's is there.
use Rattle.std.proofs.Common.{◌≡◌, ℕ, zero, suc, ◌+◌, ◌<◌, ◌≤◌, Bool, true, false, ◌||◌, List, [], ◌∷◌, ◌++◌, length, map, fold, drop, refl, ap, sym, ◌∙◌, arith, Bor, bytes_eq, cond, slice_index_or, not}
use Rattle.std.specs.Prelude.{Some, slice_get}
use native.Mathlib.Decide.{dec_le}
use Rattle.std.specs.List.{position_or_len}
use Rattle.std.proofs.lemmas.Slice.Eq.{bytes_eq-Decides}
use Rattle.std.proofs.lemmas.List.Folds.{list_any-append}
use Rattle.indexmap.specs.IndexSet.{insert_key}
use Rattle.om_fields.specs.Places.{any_of, joined, joined_from}
use Rattle.om_symtab.specs.declared.symbol.ExtSym.{ExtSym}
use Rattle.om_object.specs.declared.parts.Parts.{Parts}
use Rattle.om_resolve.specs.Names.{Name, with_name, start_name, symbol_names, names_of, object_at, number_in}
use Rattle.om_resolve.specs.Linked.{bytes_of}

any-mapped : (n : Name) (ks : List (Bor Name)) → any_of (λ k. bytes_eq n k.now) ks ≡ any_of (bytes_eq n) (map bytes_of ks)
any-mapped n [] = refl
any-mapped n (k ∷ ks) = ap (λ b. bytes_eq n k.now || b) (any-mapped n ks)

map-put_last : (ks : List (Bor Name)) (k : Bor Name) → map bytes_of (ks ++ k ∷ []) ≡ map bytes_of ks ++ k.now ∷ []
map-put_last [] k = refl
map-put_last (x ∷ ks) k = ap (λ ns. x.now ∷ ns) (map-put_last ks k)

by_known : (b c : Bool) (ks : List (Bor Name)) (k : Bor Name) → b ≡ c → map bytes_of (cond b ks (ks ++ k ∷ [])) ≡ cond c (map bytes_of ks) (map bytes_of ks ++ k.now ∷ [])
by_known true true ks k e = refl
by_known false false ks k e = map-put_last ks k
by_known true false ks k e = cc
by_known false true ks k e = cc

-- a name goes into the set as it goes behind the known names
pub insert-names : (ks : List (Bor Name)) (k : Bor Name) → map bytes_of (insert_key (λ x y. bytes_eq x.now y.now) ks k) ≡ with_name (map bytes_of ks) k.now
insert-names ks k = by_known (any_of (λ y. bytes_eq k.now y.now) ks) _ ks k (any-mapped k.now ks)

-- one more symbol's name
pub names-step : (ns : List Name) (ys : List ExtSym) (i : ℕ) (d : ExtSym) → i < length ys → fold with_name ns (map (λ y. y.name) (drop i ys)) ≡ fold with_name (with_name ns (slice_index_or ys i d).name) (map (λ y. y.name) (drop (i + 1) ys))
names-step ns [] i d h = absurd (omega arith)
names-step ns (y ∷ ys) zero d h = refl
names-step ns (y ∷ ys) (suc i) d h =
    let e : suc i + 1 ≡ suc (i + 1) = omega arith in
    rw e (names-step ns ys i d (omega arith))

pub names-end : (ns : List Name) (ys : List ExtSym) (i : ℕ) → length ys < i + 1 → fold with_name ns (map (λ y. y.name) (drop i ys)) ≡ ns
names-end ns [] zero h = refl
names-end ns [] (suc i) h = refl
names-end ns (y ∷ ys) zero h = absurd (omega arith)
names-end ns (y ∷ ys) (suc i) h = names-end ns ys i (omega arith)

-- the place of a name among the keys
pub place_mapped : (n : Name) (ks : List (Bor Name)) → position_or_len (λ k. bytes_eq n k.now) ks ≡ position_or_len (bytes_eq n) (map bytes_of ks)
place_mapped n [] = refl
place_mapped n (k ∷ ks) = ap (λ i. cond (not (bytes_eq n k.now)) (1 + i) 0) (place_mapped n ks)

-- ---- equal names

pub same_name : (m n : Name) → bytes_eq m n ≡ true → m ≡ n
same_name m n e = (bytes_eq-Decides m n).0 e

pub is_same : (n : Name) → bytes_eq n n ≡ true
is_same n = (bytes_eq-Decides n n).1 refl

pub other_way : (m n : Name) → bytes_eq m n ≡ bytes_eq n m
other_way m n = by_test (bytes_eq m n) (bytes_eq n m) refl refl
  where
    by_test : (b c : Bool) → bytes_eq m n ≡ b → bytes_eq n m ≡ c → b ≡ c
    by_test true true e f = refl
    by_test false false e f = refl
    by_test true false e f = let g : bytes_eq n m ≡ true = (bytes_eq-Decides n m).1 (sym (same_name m n e)) in cc
    by_test false true e f = let g : bytes_eq m n ≡ true = (bytes_eq-Decides m n).1 (sym (same_name n m f)) in cc

-- ---- each name stands once

abbrev pub AreDistinct : List Name → Type 0
AreDistinct [] = Unit {0}
AreDistinct (x ∷ xs) = (any_of (bytes_eq x) xs ≡ false) × AreDistinct xs

or-none : (a b : Bool) → (a || b) ≡ false → (a ≡ false) × (b ≡ false)
or-none true b e = cc
or-none false b e = (refl, e)

any-last : (x n : Name) (xs : List Name) → any_of (bytes_eq x) xs ≡ false → bytes_eq x n ≡ false → any_of (bytes_eq x) (xs ++ n ∷ []) ≡ false
any-last x n xs e f = list_any-append (bytes_eq x) xs (n ∷ []) ∙ ap (λ b. b || (bytes_eq x n || false)) e ∙ ap (λ b. b || false) f

distinct-last : (ns : List Name) (n : Name) → AreDistinct ns → any_of (bytes_eq n) ns ≡ false → AreDistinct (ns ++ n ∷ [])
distinct-last [] n d e = (refl, tt)
distinct-last (x ∷ ns) n d e =
    let both = or-none (bytes_eq n x) (any_of (bytes_eq n) ns) e in
    (any-last x n ns d.0 (other_way x n ∙ both.0), distinct-last ns n d.1 both.1)

with-distinct : (ns : List Name) (n : Name) (b : Bool) → any_of (bytes_eq n) ns ≡ b → AreDistinct ns → AreDistinct (cond b ns (ns ++ n ∷ []))
with-distinct ns n true e d = d
with-distinct ns n false e d = distinct-last ns n d e

all-distinct : (ns xs : List Name) → AreDistinct ns → AreDistinct (fold with_name ns xs)
all-distinct ns [] d = d
all-distinct ns (x ∷ xs) d = all-distinct (with_name ns x) xs (with-distinct ns x (any_of (bytes_eq x) ns) refl d)

pub names_distinct : (objects : List Parts) → AreDistinct (names_of objects)
unfolding names_of
names_distinct objects = all-distinct (start_name ∷ []) (joined (λ i. symbol_names (object_at objects i)) (length objects)) (refl, tt)

-- ---- each symbol's name is there

or-first : (a b : Bool) → a ≡ true → (a || b) ≡ true
or-first a b e = rw e refl

or-second : (a b : Bool) → b ≡ true → (a || b) ≡ true
or-second true b e = refl
or-second false b e = e

by_first : (n : Name) (ns : List Name) (x : Name) (b : Bool) → any_of (bytes_eq n) ns ≡ true → any_of (bytes_eq n) (cond b ns (ns ++ x ∷ [])) ≡ true
by_first n ns x true e = e
by_first n ns x false e = list_any-append (bytes_eq n) ns (x ∷ []) ∙ or-first (any_of (bytes_eq n) ns) (bytes_eq n x || false) e

stays : (n : Name) (ns xs : List Name) → any_of (bytes_eq n) ns ≡ true → any_of (bytes_eq n) (fold with_name ns xs) ≡ true
stays n ns [] e = e
stays n ns (x ∷ xs) e = stays n (with_name ns x) xs (by_first n ns x (any_of (bytes_eq x) ns) e)

put-there : (n : Name) (ns : List Name) (b : Bool) → any_of (bytes_eq n) ns ≡ b → any_of (bytes_eq n) (cond b ns (ns ++ n ∷ [])) ≡ true
put-there n ns true e = e
put-there n ns false e = list_any-append (bytes_eq n) ns (n ∷ []) ∙ or-second (any_of (bytes_eq n) ns) (bytes_eq n n || false) (or-first (bytes_eq n n) false (is_same n))

came-in : (n : Name) (ns : List Name) (x : Name) (xs : List Name) (b : Bool) → bytes_eq n x ≡ b → (b ≡ false → any_of (bytes_eq n) (fold with_name (with_name ns x) xs) ≡ true)
    → any_of (bytes_eq n) (fold with_name (with_name ns x) xs) ≡ true
came-in n ns x xs true f later = stays n (with_name ns x) xs (let same : n ≡ x = same_name n x f in rw (sym same) (put-there n ns (any_of (bytes_eq n) ns) refl))
came-in n ns x xs false f later = later refl

comes-in : (n : Name) (ns xs : List Name) → any_of (bytes_eq n) xs ≡ true → any_of (bytes_eq n) (fold with_name ns xs) ≡ true
comes-in n ns [] e = cc
comes-in n ns (x ∷ xs) e =
    came-in n ns x xs (bytes_eq n x) refl (λ f. comes-in n (with_name ns x) xs (sym (ap (λ b. b || any_of (bytes_eq n) xs) f) ∙ e))

here-or-later : (n : Name) (f : ℕ → List Name) (k i : ℕ) (rest : Bool) → Dec (i ≤ k) → k ≤ i → any_of (bytes_eq n) (f i) ≡ true → (k + 1 ≤ i → rest ≡ true) → (any_of (bytes_eq n) (f k) || rest) ≡ true
here-or-later n f k i rest (yes h) low e later = or-first _ _ (let same : k ≡ i = omega arith in ap (λ j. any_of (bytes_eq n) (f j)) same ∙ e)
here-or-later n f k i rest (no h) low e later = or-second (any_of (bytes_eq n) (f k)) rest (later (omega arith))

any-joined : (n : Name) (f : ℕ → List Name) (k c i : ℕ) → k ≤ i → i < k + c → any_of (bytes_eq n) (f i) ≡ true → any_of (bytes_eq n) (joined_from f k c) ≡ true
any-joined n f k zero i low high e = absurd (omega arith)
any-joined n f k (suc c) i low high e =
    list_any-append (bytes_eq n) (f k) (joined_from f (k + 1) c)
    ∙ here-or-later n f k i (any_of (bytes_eq n) (joined_from f (k + 1) c)) (dec_le i k) low e (λ l. any-joined n f (k + 1) c i l (omega arith) e)

any-named : (ys : List ExtSym) (j : ℕ) (y : ExtSym) → slice_get ys j ≡ Some y → any_of (bytes_eq y.name) (map (λ z. z.name) ys) ≡ true
any-named [] j y e = cc
any-named (z ∷ ys) zero y e = let same : z ≡ y = cc in or-first _ _ (ap (λ (w : ExtSym). bytes_eq y.name w.name) same ∙ is_same y.name)
any-named (z ∷ ys) (suc j) y e = or-second (bytes_eq y.name z.name) _ (any-named ys j y e)

below : (os : List Parts) (i k : ℕ) (z : ExtSym) → slice_get (object_at os i).symbols k ≡ Some z → i < 0 + length os
below [] i k z f = cc
below (o ∷ os) zero k z f = omega arith
below (o ∷ os) (suc i) k z f = let g = below os i k z f in omega (arith, g)

-- the name of a symbol of an object is among the names
pub name_there : (objects : List Parts) (obj j : ℕ) (y : ExtSym) → slice_get (object_at objects obj).symbols j ≡ Some y → any_of (bytes_eq y.name) (names_of objects) ≡ true
unfolding names_of
name_there objects obj j y e =
    comes-in y.name (start_name ∷ []) (joined (λ i. symbol_names (object_at objects i)) (length objects))
    (any-joined y.name (λ i. symbol_names (object_at objects i)) 0 (length objects) obj (omega arith) (below objects obj j y e) (any-named (object_at objects obj).symbols j y e))

grows : (n : Name) (ns : List Name) (x : Name) (b : Bool) → (ms : List Name) × (cond b (n ∷ ns) (n ∷ (ns ++ x ∷ [])) ≡ n ∷ ms)
grows n ns x true = (ns, refl)
grows n ns x false = (ns ++ x ∷ [], refl)

first : (n : Name) (ns xs : List Name) → slice_get (fold with_name (n ∷ ns) xs) 0 ≡ Some n
first n ns [] = refl
first n ns (x ∷ xs) =
    let g = grows n ns x (any_of (bytes_eq x) (n ∷ ns)) in
    ap (λ (ms : List Name). slice_get (fold with_name ms xs) 0) g.1 ∙ first n g.0 xs

-- `__start` is the first
pub start_first : (objects : List Parts) → slice_get (names_of objects) 0 ≡ Some start_name
unfolding names_of
start_first objects = first (start_name) [] (joined (λ i. symbol_names (object_at objects i)) (length objects))

-- ---- places of names

place-by : (n x : Name) (ns : List Name) (b : Bool) → bytes_eq n x ≡ b → (b ≡ false → slice_get ns (number_in ns n) ≡ Some n) → slice_get (x ∷ ns) (cond (not b) (1 + number_in ns n) 0) ≡ Some n
place-by n x ns true f later = ap Some (sym (same_name n x f))
place-by n x ns false f later =
    let e : 1 + number_in ns n ≡ suc (number_in ns n) = omega arith in
    ap (λ k. slice_get (x ∷ ns) k) e ∙ later refl

pub place_there : (n : Name) (ns : List Name) → any_of (bytes_eq n) ns ≡ true → slice_get ns (number_in ns n) ≡ Some n
place_there n [] e = cc
place_there n (x ∷ ns) e = place-by n x ns (bytes_eq n x) refl (λ f. place_there n ns (sym (ap (λ b. b || any_of (bytes_eq n) ns) f) ∙ e))

not-there : (x n : Name) (ns : List Name) (k : ℕ) → any_of (bytes_eq x) ns ≡ false → slice_get ns k ≡ Some n → bytes_eq x n ≡ false
not-there x n [] k e f = cc
not-there x n (y ∷ ns) zero e f = let same : y ≡ n = cc in ap (bytes_eq x) (sym same) ∙ (or-none (bytes_eq x y) (any_of (bytes_eq x) ns) e).0
not-there x n (y ∷ ns) (suc k) e f = not-there x n ns k (or-none (bytes_eq x y) (any_of (bytes_eq x) ns) e).1 f

-- names that differ have the numbers of their places
pub number_there : (ns : List Name) (k : ℕ) (n : Name) → AreDistinct ns → slice_get ns k ≡ Some n → number_in ns n ≡ k
number_there [] k n d e = cc
number_there (x ∷ ns) zero n d e = let same : x ≡ n = cc in ap (λ b. cond (not b) (1 + number_in ns n) 0) (ap (λ m. bytes_eq n m) same ∙ is_same n)
number_there (x ∷ ns) (suc k) n d e =
    let other : bytes_eq n x ≡ false = other_way n x ∙ not-there x n ns k d.0 e in
    let ih = number_there ns k n d.1 e in
    ap (λ b. cond (not b) (1 + number_in ns n) 0) other ∙ omega (arith, ih)
