-- What names and symbols stand for, as the code keeps it.
use Rattle.std.proofs.Common.{◌≡◌, ℕ, zero, suc, ◌+◌, ◌<◌, ◌≤◌, Bool, true, false, ◌||◌, List, [], ◌∷◌, ◌++◌, length, map, fold, filter, refl, ap, sym, ◌∙◌, arith, bytes_eq, cond, slice_index_or, slice_set, not}
use Rattle.std.specs.Prelude.{Option, Some, None, slice_get, option_map, option_and_then, unwrap_or, replicate, Vec, nat_lt, if◌then◌else◌}
use Rattle.std.proofs.lemmas.Option.{slice_get-map, slice_get_within}
use Rattle.std.proofs.lemmas.Bool.Decides.{nat_tests}
use Rattle.std.proofs.lemmas.List.{length-map}
use Rattle.om_fields.specs.Places.{any_of, joined, joined_from}
use Rattle.om_symtab.specs.declared.symbol.ExtSym.{ExtSym}
use Rattle.om_object.specs.declared.parts.Parts.{Parts}
use Rattle.om_resolve.specs.declared.definition.Definition.{Definition}
use Rattle.om_resolve.specs.declared.definition.Definition.TheVariants.{Missing, Absolute, InSection, AsCommon}
use Rattle.om_resolve.specs.declared.definition.Known.{Known}
use Rattle.om_resolve.specs.declared.linked.Linked.{Linked}
use Rattle.om_resolve.specs.Names.{Name, Seen, start_name, names_of, number_in, number_of, object_at, is_named, symbols_seen, seen_in, defining, common_sizes, greatest, by_symbols, definition_of, definition_by_name, definition_at, meaning_by, meaning_of}
use Rattle.om_resolve.specs.Known.{note, noted, unknown, definition_by}
use Rattle.om_resolve.specs.Linked.{IsLinked, known_of, known_at, number_at, numbers_of, meaning_by_number, meaning_at, lists_in}
use Rattle.om_resolve.proofs.Naming.{AreDistinct, names_distinct, name_there, place_there, number_there, same_name, start_first}
use Rattle.om_resolve.proofs.Knowing.{with_none, known_all, defined_all}
use Rattle.om_resolve.proofs.Steps.{get_here, get_past, take_whole}
use native.Mathlib.Decide.{dec_le}
use Rattle.std.specs.Prelude.{sum_by}
use Rattle.om_fields.specs.Places.{each}
use Rattle.om_fields.proofs.Each.{each_from-length, each_from-get}
use Rattle.om_resolve.specs.declared.finding.Finding.TheVariants.{Nameless}
use Rattle.om_resolve.specs.Names.{is_missing}
use Rattle.om_resolve.specs.Program.{entry_by}
use Rattle.om_resolve.specs.Causes.{nameless_by, text_words, first_object}
use Rattle.om_resolve.specs.Linked.{start_at, words_before, definer_by}

pub known_is : (objects : List Parts) (n : Name) → known_of objects n ≡ with_none objects (greatest (common_sizes objects n)) (defining objects n)
known_is objects n = known_all objects (filter (is_named n) (symbols_seen objects))

pub known_here : (l : Linked) → IsLinked l → (k : ℕ) → known_at l k ≡ option_map (known_of l.objects.now) (slice_get (names_of l.objects.now) k)
known_here l linked k = ap (λ (ks : List Known). slice_get ks k) linked.known ∙ slice_get-map (known_of l.objects.now) (names_of l.objects.now) k

by-name : (objects : List Parts) (k : ℕ) (o : Option Name) → slice_get (names_of objects) k ≡ o → definition_by k (option_map (known_of objects) o) ≡ definition_by_name objects o
unfolding definition_of number_of
by-name objects k None e = refl
by-name objects k (Some n) e =
    ap (λ (known : Known). definition_by k (Some known)) (known_is objects n)
    ∙ defined_all objects k (greatest (common_sizes objects n)) (defining objects n)
    ∙ ap (λ i. by_symbols objects i (defining objects n) (greatest (common_sizes objects n))) (sym (number_there (names_of objects) k n (names_distinct objects) e))

-- what the name of a number stands for
pub definition_there : (l : Linked) → IsLinked l → (k : ℕ) → definition_by k (known_at l k) ≡ definition_at l.objects.now k
unfolding definition_at
definition_there l linked k =
    ap (definition_by k) (known_here l linked k) ∙ by-name l.objects.now k (slice_get (names_of l.objects.now) k) refl

-- a name that is there, by its number
pub definition_of_there : (objects : List Parts) (n : Name) → any_of (bytes_eq n) (names_of objects) ≡ true → definition_at objects (number_of objects n) ≡ definition_of objects n
unfolding definition_at number_of
definition_of_there objects n e = ap (definition_by_name objects) (place_there n (names_of objects) e)

-- where a program starts
pub definition_of_start : (objects : List Parts) → definition_at objects 0 ≡ definition_of objects start_name
unfolding definition_at
definition_of_start objects = ap (definition_by_name objects) (start_first objects)

lists-get : {X A : Type 0} (vs : List (Vec X A)) (i j : ℕ) → option_and_then (λ (v : Vec X A). slice_get v.items j) (slice_get vs i) ≡ option_and_then (λ xs. slice_get xs j) (slice_get (lists_in vs) i)
lists-get [] i j = refl
lists-get (v ∷ vs) zero j = refl
lists-get (v ∷ vs) (suc i) j = lists-get vs i j

numbers-get : (objects os : List Parts) (i j : ℕ) → option_and_then (λ (xs : List ℕ). slice_get xs j) (slice_get (map (numbers_of objects) os) i)
    ≡ option_map (λ (y : ExtSym). number_of objects y.name) (slice_get (object_at os i).symbols j)
numbers-get objects [] i j = refl
numbers-get objects (o ∷ os) zero j = slice_get-map (λ (y : ExtSym). number_of objects y.name) o.symbols j
numbers-get objects (o ∷ os) (suc i) j = numbers-get objects os i j

-- the number of a symbol's name
pub number_here : (l : Linked) → IsLinked l → (obj index : ℕ) → number_at l obj index ≡ option_map (λ (y : ExtSym). number_of l.objects.now y.name) (slice_get (object_at l.objects.now obj).symbols index)
number_here l linked obj index =
    lists-get l.numbers.items obj index
    ∙ ap (λ (xs : List (List ℕ)). option_and_then (λ ys. slice_get ys index) (slice_get xs obj)) linked.numbers
    ∙ numbers-get l.objects.now l.objects.now obj index

by-symbol : (l : Linked) → IsLinked l → (obj index : ℕ) (o : Option ExtSym) → slice_get (object_at l.objects.now obj).symbols index ≡ o
    → meaning_by_number l (option_map (λ (y : ExtSym). number_of l.objects.now y.name) o) ≡ meaning_by l.objects.now o
by-symbol l linked obj index None e = refl
by-symbol l linked obj index (Some y) e =
    definition_there l linked (number_of l.objects.now y.name) ∙ definition_of_there l.objects.now y.name (name_there l.objects.now obj index y e)

-- what a symbol stands for
pub means : (l : Linked) → IsLinked l → (obj index : ℕ) → meaning_at l obj index ≡ meaning_of l.objects.now obj index
unfolding meaning_of
means l linked obj index =
    ap (meaning_by_number l) (number_here l linked obj index) ∙ by-symbol l linked obj index (slice_get (object_at l.objects.now obj).symbols index) refl

-- ---- all symbols, each noted at its name

agree : {X Y : Type 0} (f g : X → Y) → ((x : X) → f x ≡ g x) → (xs : List X) → map f xs ≡ map g xs
agree f g h [] = refl
agree f g h (x ∷ xs) = rw (h x) (ap (λ ys. g x ∷ ys) (agree f g h xs))

-- with one more symbol of a name
abbrev one_more : List Parts → (Name → Known) → Seen → Name → Known
one_more objects g s n = if bytes_eq s.symbol.name n then note objects (g n) s else g n

missed-by : (objects : List Parts) (g : Name → Known) (s : Seen) (x : Name) (ns : List Name) (b : Bool) → bytes_eq s.symbol.name x ≡ b → (b || any_of (bytes_eq s.symbol.name) ns) ≡ false
    → (any_of (bytes_eq s.symbol.name) ns ≡ false → map (one_more objects g s) ns ≡ map g ns) → (if b then note objects (g x) s else g x) ∷ map (one_more objects g s) ns ≡ g x ∷ map g ns
missed-by objects g s x ns true e f ih = cc
missed-by objects g s x ns false e f ih = ap (λ (ks : List Known). g x ∷ ks) (ih f)

missed : (objects : List Parts) (g : Name → Known) (s : Seen) (ns : List Name) → any_of (bytes_eq s.symbol.name) ns ≡ false → map (one_more objects g s) ns ≡ map g ns
missed objects g s [] e = refl
missed objects g s (x ∷ ns) e = missed-by objects g s x ns (bytes_eq s.symbol.name x) refl e (missed objects g s ns)

-- the list of what is known, with the known of one name set
abbrev set_at : List Parts → List Known → ℕ → Seen → List Known
set_at objects ks k s = slice_set ks k (note objects (slice_index_or ks k unknown) s)

set-by : (objects : List Parts) (g : Name → Known) (s : Seen) (x : Name) (ns : List Name) (b : Bool) → bytes_eq s.symbol.name x ≡ b → (b || any_of (bytes_eq s.symbol.name) ns) ≡ true
    → any_of (bytes_eq x) ns ≡ false
    → (any_of (bytes_eq s.symbol.name) ns ≡ true → set_at objects (map g ns) (number_in ns s.symbol.name) s ≡ map (one_more objects g s) ns)
    → set_at objects (g x ∷ map g ns) (cond (not b) (1 + number_in ns s.symbol.name) 0) s ≡ (if b then note objects (g x) s else g x) ∷ map (one_more objects g s) ns
set-by objects g s x ns true e f d ih =
    ap (λ (ks : List Known). note objects (g x) s ∷ ks) (sym (missed objects g s ns (let same : s.symbol.name ≡ x = same_name s.symbol.name x e in ap (λ m. any_of (bytes_eq m) ns) same ∙ d)))
set-by objects g s x ns false e f d ih =
    let i : 1 + number_in ns s.symbol.name ≡ suc (number_in ns s.symbol.name) = omega arith in
    ap (λ k. set_at objects (g x ∷ map g ns) k s) i ∙ ap (λ (ks : List Known). g x ∷ ks) (ih f)

set-one : (objects : List Parts) (g : Name → Known) (s : Seen) (ns : List Name) → AreDistinct ns → any_of (bytes_eq s.symbol.name) ns ≡ true
    → set_at objects (map g ns) (number_in ns s.symbol.name) s ≡ map (one_more objects g s) ns
set-one objects g s [] d e = cc
set-one objects g s (x ∷ ns) d e = set-by objects g s x ns (bytes_eq s.symbol.name x) refl e d.0 (set-one objects g s ns d.1)

place-below : (n : Name) (ns : List Name) → any_of (bytes_eq n) ns ≡ true → number_in ns n < length ns
place-below n ns e = slice_get_within ns (number_in ns n) n (place_there n ns e)

noted-one : (objects : List Parts) (g : Name → Known) (s : Seen) (ns : List Name) → AreDistinct ns → any_of (bytes_eq s.symbol.name) ns ≡ true
    → noted objects ns (map g ns) s ≡ map (one_more objects g s) ns
noted-one objects g s ns d e =
    let below : nat_lt (number_in ns s.symbol.name) (length (map g ns)) ≡ true = grind (arith, nat_tests, place-below s.symbol.name ns e, length-map ns g) in
    rw below (set-one objects g s ns d e)

abbrev AllThere : List Name → List Seen → Type 0
AllThere ns [] = Unit {0}
AllThere ns (s ∷ ss) = (any_of (bytes_eq s.symbol.name) ns ≡ true) × AllThere ns ss

filter-step : (objects : List Parts) (g : Name → Known) (s : Seen) (ss : List Seen) (n : Name) (b : Bool)
    → fold (note objects) (if b then note objects (g n) s else g n) (filter (is_named n) ss) ≡ fold (note objects) (g n) (cond b (s ∷ filter (is_named n) ss) (filter (is_named n) ss))
filter-step objects g s ss n true = refl
filter-step objects g s ss n false = refl

noted-all : (objects : List Parts) (g : Name → Known) (ss : List Seen) (ns : List Name) → AreDistinct ns → AllThere ns ss
    → fold (noted objects ns) (map g ns) ss ≡ map (λ n. fold (note objects) (g n) (filter (is_named n) ss)) ns
noted-all objects g [] ns d t = refl
noted-all objects g (s ∷ ss) ns d t =
    ap (λ (ks : List Known). fold (noted objects ns) ks ss) (noted-one objects g s ns d t.0)
    ∙ noted-all objects (one_more objects g s) ss ns d t.1
    ∙ agree (λ n. fold (note objects) (one_more objects g s n) (filter (is_named n) ss)) (λ n. fold (note objects) (g n) (filter (is_named n) (s ∷ ss))) (λ n. filter-step objects g s ss n (bytes_eq s.symbol.name n)) ns

there-append : (ns : List Name) (ss ts : List Seen) → AllThere ns ss → AllThere ns ts → AllThere ns (ss ++ ts)
there-append ns [] ts a b = b
there-append ns (s ∷ ss) ts a b = (a.0, there-append ns ss ts a.1 b)

there-in : (ns : List Name) (i : ℕ) (ys : List ExtSym) → ((j : ℕ) (y : ExtSym) → slice_get ys j ≡ Some y → any_of (bytes_eq y.name) ns ≡ true) → AllThere ns (map (λ y. record { obj = i; symbol = y }) ys)
there-in ns i [] h = tt
there-in ns i (y ∷ ys) h = (h 0 y refl, there-in ns i ys (λ j z e. h (suc j) z e))

there-joined : (objects : List Parts) (k c : ℕ) → AllThere (names_of objects) (joined_from (λ i. seen_in i (object_at objects i)) k c)
there-joined objects k zero = tt
there-joined objects k (suc c) =
    there-append (names_of objects) (seen_in k (object_at objects k)) (joined_from (λ i. seen_in i (object_at objects i)) (k + 1) c)
    (there-in (names_of objects) k (object_at objects k).symbols (λ j y e. name_there objects k j y e)) (there-joined objects (k + 1) c)

replicated : (ns : List Name) → replicate (length ns) unknown ≡ map (λ n. unknown) ns
replicated [] = refl
replicated (n ∷ ns) = ap (λ (ks : List Known). unknown ∷ ks) (replicated ns)

-- what is known in the end
pub all_known : (objects : List Parts) → fold (noted objects (names_of objects)) (replicate (length (names_of objects)) unknown) (joined (λ i. seen_in i (object_at objects i)) (length objects))
    ≡ map (known_of objects) (names_of objects)
unfolding symbols_seen
all_known objects =
    ap (λ (ks : List Known). fold (noted objects (names_of objects)) ks (joined (λ i. seen_in i (object_at objects i)) (length objects))) (replicated (names_of objects))
    ∙ noted-all objects (λ n. unknown) (joined (λ i. seen_in i (object_at objects i)) (length objects)) (names_of objects) (names_distinct objects) (there-joined objects 0 (length objects))

-- ---- names by their numbers

pub definition_at_name : (objects : List Parts) (k : ℕ) (n : Name) → slice_get (names_of objects) k ≡ Some n → definition_at objects k ≡ definition_of objects n
unfolding definition_at
definition_at_name objects k n e = ap (definition_by_name objects) e

-- as many are known as there are names
pub known_length : (l : Linked) → IsLinked l → length l.known.items ≡ length (names_of l.objects.now)
known_length l linked = ap (λ (ks : List Known). length ks) linked.known ∙ length-map (names_of l.objects.now) (known_of l.objects.now)

-- what is known of the name of a number
pub known_there : (l : Linked) → IsLinked l → (k : ℕ) (n : Name) (known : Known) → slice_get (names_of l.objects.now) k ≡ Some n → known_at l k ≡ Some known
    → known ≡ with_none l.objects.now (greatest (common_sizes l.objects.now n)) (defining l.objects.now n)
known_there l linked k n known e f =
    let h : Some known ≡ Some (known_of l.objects.now n) = sym f ∙ known_here l linked k ∙ ap (option_map (known_of l.objects.now)) e in
    let same : known ≡ known_of l.objects.now n = cc in same ∙ known_is l.objects.now n

-- ---- what a relocation references

is-missing : (d : Definition) → (d ≡ Missing → ⊥) → is_missing d ≡ false
is-missing Missing h = absurd (h refl)
is-missing (Absolute v) h = refl
is-missing (InSection o s x) h = refl
is-missing (AsCommon k size) h = refl

-- a relocation that names no symbol
pub nameless_none : (objects : List Parts) (obj : ℕ) (o : Option ExtSym) → option_map (λ (y : ExtSym). number_of objects y.name) o ≡ None → nameless_by objects obj o ≡ None
nameless_none objects obj None e = refl
nameless_none objects obj (Some y) e = cc

pub nameless_there : (l : Linked) → IsLinked l → (obj index k : ℕ) (o : Option ExtSym) → slice_get (object_at l.objects.now obj).symbols index ≡ o
    → option_map (λ (y : ExtSym). number_of l.objects.now y.name) o ≡ Some k
    → nameless_by l.objects.now obj o ≡ (if is_missing (definition_by k (known_at l k)) then Some (Nameless k obj) else None)
nameless_there l linked obj index k None e f = cc
nameless_there l linked obj index k (Some y) e f =
    let same : number_of l.objects.now y.name ≡ k = cc in
    let means : definition_of l.objects.now y.name ≡ definition_by k (known_at l k) =
    sym (definition_of_there l.objects.now y.name (name_there l.objects.now obj index y e)) ∙ ap (definition_at l.objects.now) same ∙ sym (definition_there l linked k) in
    ap (λ (d : Definition). if is_missing d then Some (Nameless (number_of l.objects.now y.name) obj) else None) means
    ∙ ap (λ i. if is_missing (definition_by k (known_at l k)) then Some (Nameless i obj) else None) same

pub not_missing : (d : Definition) → (d ≡ Missing → ⊥) → is_missing d ≡ false
not_missing d h = is-missing d h

-- how many words stand before an object
pub start_there : (l : Linked) → IsLinked l → (obj : ℕ) → start_at l obj ≡ words_before l.objects.now obj
start_there l linked obj =
    ap (λ (ws : List ℕ). unwrap_or (slice_get ws obj) l.words) linked.starts ∙ by_place (dec_le (length l.objects.now) obj)
  where
    by_place : Dec (length l.objects.now ≤ obj) → unwrap_or (slice_get (each (words_before l.objects.now) (length l.objects.now)) obj) l.words ≡ words_before l.objects.now obj
    by_place (yes h) =
        ap (λ (o : Option ℕ). unwrap_or o l.words) (get_past (each (words_before l.objects.now) (length l.objects.now)) obj (let n = each_from-length (words_before l.objects.now) 0 (length l.objects.now) in omega (arith, n, h)))
        ∙ linked.words ∙ ap (sum_by text_words) (sym (take_whole l.objects.now obj h))
    by_place (no h) =
        let n = each_from-length (words_before l.objects.now) 0 (length l.objects.now) in
        ap (λ (o : Option ℕ). unwrap_or o l.words) (get_here (each (words_before l.objects.now) (length l.objects.now)) obj 0 (omega (arith, n, h)))
        ∙ each_from-get (words_before l.objects.now) 0 (length l.objects.now) obj 0 (omega (arith, h)) ∙ ap (words_before l.objects.now) (let z : 0 + obj ≡ obj = omega arith in z)

-- what is in no section is no entry
pub entry_other : (d : Definition) → ((obj section off : ℕ) → d ≡ InSection obj section off → ⊥) → entry_by d ≡ record { obj = 0; off = 0 }
entry_other Missing h = refl
entry_other (Absolute v) h = refl
entry_other (InSection o s x) h = absurd (h o s x refl)
entry_other (AsCommon k size) h = refl

definer-of : (objects : List Parts) (c : Option ℕ) (ds : List Seen) → definer_by (Some (with_none objects c ds)) ≡ first_object ds
definer-of objects c [] = refl
definer-of objects c (s ∷ []) = refl
definer-of objects c (s ∷ t ∷ ds) = refl

-- the object that defines `__start`
pub first_definer : (l : Linked) → IsLinked l → definer_by (known_at l 0) ≡ first_object (defining l.objects.now start_name)
first_definer l linked =
    ap definer_by (known_here l linked 0 ∙ ap (option_map (known_of l.objects.now)) (start_first l.objects.now) ∙ ap Some (known_is l.objects.now start_name))
    ∙ definer-of l.objects.now (greatest (common_sizes l.objects.now start_name)) (defining l.objects.now start_name)
