-- The first that a list gives, and tests of causes in turn.
use Rattle.std.proofs.Common.{◌≡◌, ℕ, zero, suc, ◌+◌, ◌<◌, ◌≤◌, List, [], ◌∷◌, length, take, refl, ap, sym, subst, ◌∙◌, arith, slice_index_or}
use Rattle.std.specs.Prelude.{Option, Some, None, Result, Ok, Err, slice_get, option_map, unwrap_or}
use Rattle.om_resolve.specs.declared.causes.ResolveErr.{ResolveErr}
use Rattle.om_resolve.specs.declared.causes.ResolveErr.TheVariants.{Duplicate, Unresolved, Rule, Limit, TooFar, NoMemory}
use Rattle.om_resolve.specs.Names.{Name, Seen}
use Rattle.om_resolve.specs.Causes.{first_given, Blames, Checks, two_of}

abbrev or_else : {Y : Type 0} → Option Y → Option Y → Option Y
or_else {Y = Y} o rest = elim o as (λ _. Option Y) [ None ↦ rest | Some y ↦ Some y ]

none-both : {Y : Type 0} (o rest : Option Y) → or_else o rest ≡ None → (o ≡ None) × (rest ≡ None)
none-both None rest e = (refl, e)
none-both (Some y) rest e = cc

pub given_more : {X Y : Type 0} (f : X → Option Y) (xs : List X) (i : ℕ) (d : X) → i < length xs → first_given f (take i xs) ≡ None → f (slice_index_or xs i d) ≡ None → first_given f (take (i + 1) xs) ≡ None
given_more f [] i d h e g = absurd (omega arith)
given_more {X} {Y} f (x ∷ xs) zero d h e g = ap (λ (o : Option Y). or_else o None) g
given_more {X} {Y} f (x ∷ xs) (suc i) d h e g =
    let both = none-both (f x) (first_given f (take i xs)) e in
    let n : suc i + 1 ≡ suc (i + 1) = omega arith in
    rw n (ap (λ (o : Option Y). or_else o (first_given f (take (i + 1) xs))) both.0 ∙ given_more f xs i d (omega arith) both.1 g)

pub given_here : {X Y : Type 0} (f : X → Option Y) (xs : List X) (i : ℕ) (d : X) (y : Y) → i < length xs → first_given f (take i xs) ≡ None → f (slice_index_or xs i d) ≡ Some y → first_given f xs ≡ Some y
given_here f [] i d y h e g = absurd (omega arith)
given_here {X} {Y} f (x ∷ xs) zero d y h e g = ap (λ (o : Option Y). or_else o (first_given f xs)) g
given_here {X} {Y} f (x ∷ xs) (suc i) d y h e g =
    let both = none-both (f x) (first_given f (take i xs)) e in
    ap (λ (o : Option Y). or_else o (first_given f xs)) both.0 ∙ given_here f xs i d y (omega arith) both.1 g

pub given_whole : {X Y : Type 0} (f : X → Option Y) (xs : List X) (i : ℕ) → length xs ≤ i → first_given f (take i xs) ≡ None → first_given f xs ≡ None
given_whole f [] i h e = refl
given_whole f (x ∷ xs) zero h e = absurd (omega arith)
given_whole {X} {Y} f (x ∷ xs) (suc i) h e =
    let both = none-both (f x) (first_given f (take i xs)) e in
    ap (λ (o : Option Y). or_else o (first_given f xs)) both.0 ∙ given_whole f xs i (omega arith) both.1

-- ---- tests in turn

-- a cause that is found stands for the list that it begins
pub found_here : (c : Option ResolveErr) (cs : List (Option ResolveErr)) (e : ResolveErr) → Blames c e → Blames (first_given (λ o. o) (c ∷ cs)) e
found_here c cs (Duplicate n a b) h = ap (λ (o : Option ResolveErr). or_else o (first_given (λ o. o) cs)) h
found_here c cs (Unresolved n f) h = ap (λ (o : Option ResolveErr). or_else o (first_given (λ o. o) cs)) h
found_here c cs (Rule f r a) h = ap (λ (o : Option ResolveErr). or_else o (first_given (λ o. o) cs)) h
found_here c cs (Limit w t) h = ap (λ (o : Option ResolveErr). or_else o (first_given (λ o. o) cs)) h
found_here c cs (TooFar p d) h = ap (λ (o : Option ResolveErr). or_else o (first_given (λ o. o) cs)) h
found_here c cs NoMemory h = tt

-- one that does not apply leaves the rest
pub found_later : (c : Option ResolveErr) (cs : List (Option ResolveErr)) (e : ResolveErr) → c ≡ None → Blames (first_given (λ o. o) cs) e → Blames (first_given (λ o. o) (c ∷ cs)) e
found_later c cs e none h = subst (λ (o : Option ResolveErr). Blames (or_else o (first_given (λ o. o) cs)) e) (sym none) h

pub none_later : (c : Option ResolveErr) (cs : List (Option ResolveErr)) → c ≡ None → first_given (λ o. o) cs ≡ None → first_given (λ o. o) (c ∷ cs) ≡ None
none_later c cs none h = ap (λ (o : Option ResolveErr). or_else o (first_given (λ o. o) cs)) none ∙ h

-- what the test of the last cause of a list answers
pub checked_last : {T : Type 0} (c : Option ResolveErr) (r : Result T ResolveErr) → Checks c r → Checks (first_given (λ o. o) (c ∷ [])) r
checked_last c (Ok x) h = none_later c [] h refl
checked_last c (Err e) h = found_here c [] e h

pub checked_later : {T : Type 0} (c : Option ResolveErr) (cs : List (Option ResolveErr)) (r : Result T ResolveErr) → c ≡ None → Checks (first_given (λ o. o) cs) r → Checks (first_given (λ o. o) (c ∷ cs)) r
checked_later c cs (Ok x) none h = none_later c cs none h
checked_later c cs (Err e) none h = found_later c cs e none h

-- a cause of one of a list's items is the list's, where none before has one
pub found_item : {X : Type 0} (f : X → Option ResolveErr) (xs : List X) (i : ℕ) (d : X) (e : ResolveErr) → i < length xs → first_given f (take i xs) ≡ None → Blames (f (slice_index_or xs i d)) e → Blames (first_given f xs) e
found_item f xs i d (Duplicate n a b) h g k = given_here f xs i d (Duplicate n a b) h g k
found_item f xs i d (Unresolved n o) h g k = given_here f xs i d (Unresolved n o) h g k
found_item f xs i d (Rule o r a) h g k = given_here f xs i d (Rule o r a) h g k
found_item f xs i d (Limit w t) h g k = given_here f xs i d (Limit w t) h g k
found_item f xs i d (TooFar p t) h g k = given_here f xs i d (TooFar p t) h g k
found_item f xs i d NoMemory h g k = tt

-- ---- a name that two symbols define

pub two_here : (n : Name) (ds : List Seen) (b : ℕ) → option_map (λ (s : Seen). s.obj) (slice_get ds 1) ≡ Some b → two_of n ds ≡ Some (Duplicate n (unwrap_or (option_map (λ (s : Seen). s.obj) (slice_get ds 0)) 0) b)
two_here n [] b e = cc
two_here n (s ∷ []) b e = cc
two_here n (s ∷ t ∷ ds) b e = let same : t.obj ≡ b = cc in ap (λ k. Some (Duplicate n s.obj k)) same

pub none_here : (n : Name) (ds : List Seen) → option_map (λ (s : Seen). s.obj) (slice_get ds 1) ≡ None → two_of n ds ≡ None
none_here n [] e = refl
none_here n (s ∷ []) e = refl
none_here n (s ∷ t ∷ ds) e = cc
