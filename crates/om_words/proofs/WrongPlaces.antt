-- The place of wrong words is that of the first word with which no sentence goes on.
use Rattle.std.proofs.Common.{◌≡◌, ◌≤◌, ◌<◌, ◌+◌, ◌∙◌, ◌++◌, ◌&&◌, ◌==◌, ℕ, zero, suc, max, Bool, true, false, cond, List, [], ◌∷◌, length, length-append, take, drop, Option, Some, None, inl, inr, refl, sym, ap, subst, append-nil, arith, nat_le}
use Rattle.std.specs.Prelude.{is_some, find, codes, option_map}
use Rattle.std.proofs.lemmas.Bool.{true≢false, eqb-true, eq-eqb, le-leb, cases_lt}
use Rattle.std.proofs.Math.Nat.{le-max_left, le-max_right, max-le, max-eq_left}
use Rattle.std.proofs.lemmas.Option.{same_Some, none-some}
use Rattle.om_words.specs.Sentences.{text_of, slots_of, fits, fitting, is_whole, form_of, forms, most_fitting, wrong_place}
use Rattle.om_words.specs.Meaning.{meaning, meaning_by}
use Rattle.om_words.specs.Laws.{BeginsSentence, IsFirstWrong}
use Rattle.om_words.specs.declared.form.Slot.{Slot}
use Rattle.om_words.specs.declared.form.Slot.TheVariants.{Says, Name, Number}
use Rattle.om_words.specs.declared.form.Form.{Form}
use Rattle.om_words.specs.declared.form.Form.TheVariants as form

-- ---- counts of words that fit

count_of : (f : Form) (k : ℕ) (w : List ℕ) (ws : List (List ℕ)) (b : Bool) → fits f k w ≡ b →
    fitting f k (w ∷ ws) ≡ cond b (suc (fitting f (suc k) ws)) 0
count_of f k w ws b e = ap (λ t. cond t (suc (fitting f (suc k) ws)) 0) e

by_fit : (P : Type 0) (f : Form) (k : ℕ) (w : List ℕ) → (fits f k w ≡ true → P) → (fits f k w ≡ false → P) → P
by_fit P f k w yes_ no_ = split (fits f k w) refl where
  split : (b : Bool) → fits f k w ≡ b → P
  split true e = yes_ e
  split false e = no_ e

fitting_most : (f : Form) (k : ℕ) (ws : List (List ℕ)) → fitting f k ws ≤ length ws
fitting_most f k [] = omega arith
fitting_most f k (w ∷ ws) =
    let rest = fitting_most f (suc k) ws in
    by_fit (fitting f k (w ∷ ws) ≤ length (w ∷ ws)) f k w
    (λ e. let c = count_of f k w ws true e in omega (arith, c, rest))
    (λ e. let c = count_of f k w ws false e in omega (arith, c))

-- where all of some words fit, so do those in front
front_fits : (f : Form) (k : ℕ) (ps more : List (List ℕ)) → fitting f k (ps ++ more) ≡ length (ps ++ more) → fitting f k ps ≡ length ps
front_fits f k [] more e = refl
front_fits f k (p ∷ ps) more e =
    by_fit (fitting f k (p ∷ ps) ≡ length (p ∷ ps)) f k p
    (λ h. let whole = count_of f k p (ps ++ more) true h in
    let front = count_of f k p ps true h in
    let rest = front_fits f (suc k) ps more (omega (arith, e, whole)) in
    omega (arith, front, rest))
    (λ h. let none = count_of f k p (ps ++ more) false h in absurd (omega (arith, e, none)))

-- as many of the words fit as fit of their front
taken_fits : (f : Form) (k j : ℕ) (ws : List (List ℕ)) → j ≤ length ws → fitting f k (take j ws) ≡ length (take j ws) → j ≤ fitting f k ws
taken_fits f k zero ws within e = omega arith
taken_fits f k (suc j) [] within e = absurd (omega (arith, within))
taken_fits f k (suc j) (w ∷ ws) within e =
    by_fit (suc j ≤ fitting f k (w ∷ ws)) f k w
    (λ h. let all = count_of f k w ws true h in
    let front = count_of f k w (take j ws) true h in
    let rest = taken_fits f (suc k) j ws (omega (arith, within)) (omega (arith, e, front)) in
    omega (arith, all, rest))
    (λ h. let none = count_of f k w (take j ws) false h in absurd (omega (arith, e, none)))

-- words that fit, and as many of them as are taken
fits_taken : (f : Form) (k j : ℕ) (ws : List (List ℕ)) → j ≤ fitting f k ws → fitting f k (take j ws) ≡ j
fits_taken f k zero ws within = refl
fits_taken f k (suc j) [] within = absurd (omega (arith, within))
fits_taken f k (suc j) (w ∷ ws) within =
    by_fit (fitting f k (take (suc j) (w ∷ ws)) ≡ suc j) f k w
    (λ h. let all = count_of f k w ws true h in
    let front = count_of f k w (take j ws) true h in
    let rest = fits_taken f (suc k) j ws (omega (arith, within, all)) in
    omega (arith, front, rest))
    (λ h. let none = count_of f k w ws false h in absurd (omega (arith, within, none)))

-- words behind words that all fit
more_fits : (f : Form) (k m : ℕ) (ps qs : List (List ℕ)) → fitting f k ps ≡ length ps → k + length ps ≡ m →
    fitting f k (ps ++ qs) ≡ length ps + fitting f m qs
more_fits f k m [] qs e at = let same : k ≡ m = omega (arith, at) in omega (arith, ap (λ n. fitting f n qs) same)
more_fits f k m (p ∷ ps) qs e at =
    by_fit (fitting f k (p ∷ ps ++ qs) ≡ length (p ∷ ps) + fitting f m qs) f k p
    (λ h. let all = count_of f k p (ps ++ qs) true h in
    let front = count_of f k p ps true h in
    let rest = more_fits f (suc k) m ps qs (omega (arith, e, front)) (omega (arith, at)) in
    omega (arith, all, rest))
    (λ h. let none = count_of f k p ps false h in absurd (omega (arith, e, none)))

taken_length : (n : ℕ) (ws : List (List ℕ)) → n ≤ length ws → length (take n ws) ≡ n
taken_length zero ws within = refl
taken_length (suc n) [] within = absurd (omega (arith, within))
taken_length (suc n) (w ∷ ws) within = ap suc (taken_length n ws (omega (arith, within)))

dropped_length : (n : ℕ) (ws : List (List ℕ)) → n ≤ length ws → n + length (drop n ws) ≡ length ws
dropped_length zero ws within = omega arith
dropped_length (suc n) [] within = absurd (omega (arith, within))
dropped_length (suc n) (w ∷ ws) within = let rest = dropped_length n ws (omega (arith, within)) in omega (arith, rest)

-- ---- a word for each slot

abbrev word_for : Slot → List ℕ
word_for (Says keyword) = text_of keyword
word_for Name = codes "a"
word_for Number = codes "0"

abbrev fill : List Slot → List (List ℕ)
fill [] = []
fill (s ∷ ss) = word_for s ∷ fill ss

length_fill : (ss : List Slot) → length (fill ss) ≡ length ss
length_fill [] = refl
length_fill (s ∷ ss) = ap suc (length_fill ss)

-- words for all slots of a form fit
all_fill : (f : Form) → fitting f 0 (fill (slots_of f)) ≡ length (fill (slots_of f))
all_fill form.LinkOut = refl
all_fill form.LinkPlainOut = refl
all_fill form.LinkOutPlain = refl
all_fill form.Exec = refl
all_fill form.ExecPlain = refl
all_fill form.ExecSteps = refl
all_fill form.ExecPlainSteps = refl
all_fill form.ExecStepsPlain = refl
all_fill form.Run = refl
all_fill form.RunSteps = refl
all_fill form.Sim = refl
all_fill form.SimSteps = refl
all_fill form.List = refl
all_fill form.Gen = refl
all_fill form.Asm = refl
all_fill form.CountOut = refl
all_fill form.CountStepsOut = refl
all_fill form.CountOutSteps = refl
all_fill form.PlaceCountsOut = refl
all_fill form.PlaceOutCounts = refl

-- where all of some words fit, so do those behind
back_fits : (f : Form) (ps qs : List (List ℕ)) → fitting f 0 (ps ++ qs) ≡ length (ps ++ qs) → fitting f (length ps) qs ≡ length qs
back_fits f ps qs e =
    let front = front_fits f 0 ps qs e in
    let all = more_fits f 0 (length ps) ps qs front (omega arith) in
    let total : length (ps ++ qs) ≡ length ps + length qs = length-append ps qs in
    omega (arith, e, all, total)

-- the words behind n of a list's
split_at : (n : ℕ) (ws : List (List ℕ)) → take n ws ++ drop n ws ≡ ws
split_at zero ws = refl
split_at (suc n) [] = refl
split_at (suc n) (w ∷ ws) = ap (λ l. w ∷ l) (split_at n ws)

rest_fits : (f : Form) (n : ℕ) (ws : List (List ℕ)) → fitting f 0 ws ≡ length ws → n ≤ length ws → fitting f n (drop n ws) ≡ length (drop n ws)
rest_fits f n ws e within =
    let whole : fitting f 0 (take n ws ++ drop n ws) ≡ length (take n ws ++ drop n ws) =
    subst (λ l. fitting f 0 l ≡ length l) (sym (split_at n ws)) e in
    let front : length (take n ws) ≡ n = taken_length n ws within in
    subst (λ m. fitting f m (drop n ws) ≡ length (drop n ws)) front (back_fits f (take n ws) (drop n ws) whole)

-- ---- forms

is_whole_of : (f : Form) (ws : List (List ℕ)) → fitting f 0 ws ≡ length ws → length (slots_of f) ≤ length ws → is_whole f ws ≡ true
is_whole_of f ws all long =
    ap (λ b. b && nat_le (length (slots_of f)) (length ws)) (eq-eqb (fitting f 0 ws) (length ws) all) ∙ le-leb (length (slots_of f)) (length ws) long

both : (a b : Bool) → (a && b) ≡ true → a ≡ true
both true b e = refl
both false b e = absurd (true≢false (sym e))

whole_fits : (f : Form) (ws : List (List ℕ)) → is_whole f ws ≡ true → fitting f 0 ws ≡ length ws
whole_fits f ws e = eqb-true (fitting f 0 ws) (length ws) (both (fitting f 0 ws == length ws) (nat_le (length (slots_of f)) (length ws)) e)

-- words that fit a form are the beginning of a sentence of it
short_completes : (f : Form) (ps : List (List ℕ)) → fitting f 0 ps ≡ length ps → length ps ≤ length (slots_of f) →
    is_whole f (ps ++ drop (length ps) (fill (slots_of f))) ≡ true
short_completes f ps fit within =
    let size = length_fill (slots_of f) in
    let rest = rest_fits f (length ps) (fill (slots_of f)) (all_fill f) (omega (arith, size, within)) in
    let all = more_fits f 0 (length ps) ps (drop (length ps) (fill (slots_of f))) fit (omega arith) in
    let total = length-append ps (drop (length ps) (fill (slots_of f))) in
    let gone = dropped_length (length ps) (fill (slots_of f)) (omega (arith, size, within)) in
    is_whole_of f (ps ++ drop (length ps) (fill (slots_of f))) (omega (arith, all, rest, total)) (omega (arith, total, gone, size))

long_completes : (f : Form) (ps : List (List ℕ)) → fitting f 0 ps ≡ length ps → length (slots_of f) ≤ length ps → is_whole f (ps ++ []) ≡ true
long_completes f ps fit long = subst (λ l. is_whole f l ≡ true) (sym (append-nil ps)) (is_whole_of f ps fit long)

completes : (f : Form) (ps : List (List ℕ)) → fitting f 0 ps ≡ length ps → (more : List (List ℕ)) × (is_whole f (ps ++ more) ≡ true)
completes f ps fit =
    elim (cases_lt (length ps) (length (slots_of f))) [
      | inl less ↦ (drop (length ps) (fill (slots_of f)), short_completes f ps fit (omega (arith, less)))
      | inr more ↦ ([], long_completes f ps fit more)
    ]

max_right : (a b : ℕ) → a ≤ b → max a b ≡ b
max_right a b h = let l = le-max_left a b in let r = le-max_right a b in let m : max a b ≤ b = max-le h (omega arith) in omega (arith, l, r, m)

below_max : (a b c : ℕ) → a ≤ c → a ≤ max b c
below_max a b c h = let r = le-max_right b c in omega (arith, h, r)

-- a form that is found passes, and fits no more words than the most
found_passes : (test : Form → Bool) (fs : List Form) (f : Form) (ws : List (List ℕ)) → find test fs ≡ Some f →
    (test f ≡ true) × (fitting f 0 ws ≤ most_fitting fs ws)
found_passes test [] f ws e = absurd (none-some f e)
found_passes test (g ∷ gs) f ws e = split (found_passes test gs f ws) (test g) refl where
  split : (find test gs ≡ Some f → (test f ≡ true) × (fitting f 0 ws ≤ most_fitting gs ws)) → (b : Bool) → test g ≡ b →
      (test f ≡ true) × (fitting f 0 ws ≤ most_fitting (g ∷ gs) ws)
  split later true h =
      let same : g ≡ f = same_Some g f (ap (λ b. cond b (Some g) (find test gs)) (sym h) ∙ e) in
      (subst (λ x. test x ≡ true) same h, subst (λ x. fitting x 0 ws ≤ most_fitting (g ∷ gs) ws) same (le-max_left (fitting g 0 ws) (most_fitting gs ws)))
  split later false h =
      let rest = later (ap (λ b. cond b (Some g) (find test gs)) (sym h) ∙ e) in
      (rest.0, below_max (fitting f 0 ws) (fitting g 0 ws) (most_fitting gs ws) rest.1)

-- some form fits the most words; where it passes a test, one is found
pub record FitsMost (fs : List Form) (ws : List (List ℕ)) : Type 0 where
  pub form : Form
  pub most : fitting form 0 ws ≡ most_fitting fs ws
  pub found : (test : Form → Bool) → test form ≡ true → is_some (find test fs) ≡ true

found_first : (test : Form → Bool) (f : Form) (fs : List Form) → test f ≡ true → is_some (find test (f ∷ fs)) ≡ true
found_first test f fs e = ap (λ b. is_some (cond b (Some f) (find test fs))) e

found_later : (test : Form → Bool) (f : Form) (fs : List Form) → is_some (find test fs) ≡ true → is_some (find test (f ∷ fs)) ≡ true
found_later test f fs e = split (test f) refl where
  split : (b : Bool) → test f ≡ b → is_some (find test (f ∷ fs)) ≡ true
  split true h = ap (λ b. is_some (cond b (Some f) (find test fs))) h
  split false h = ap (λ b. is_some (cond b (Some f) (find test fs))) h ∙ e

fits_most : (f : Form) (fs : List Form) (ws : List (List ℕ)) → FitsMost (f ∷ fs) ws
fits_most f [] ws = record {
  form = f;
  most = sym (max-eq_left (omega arith));
  found = λ test e. found_first test f [] e;
}
fits_most f (g ∷ gs) ws =
    let rest = fits_most g gs ws in
    elim (cases_lt (fitting f 0 ws) (most_fitting (g ∷ gs) ws)) [
      | inl less ↦ record {
        form = rest.form;
        most = rest.most ∙ sym (max_right (fitting f 0 ws) (most_fitting (g ∷ gs) ws) (omega (arith, less)));
        found = λ test e. found_later test f (g ∷ gs) (rest.found test e);
      }
      | inr more ↦ record {
        form = f;
        most = sym (max-eq_left more);
        found = λ test e. found_first test f (g ∷ gs) e;
      }
    ]

meaning_found : (ws : List (List ℕ)) → is_some (form_of ws) ≡ true → is_some (meaning ws) ≡ true
meaning_found ws e = split (form_of ws) e where
  split : (o : Option Form) → is_some o ≡ true → is_some (option_map (λ f. meaning_by f ws) o) ≡ true
  split None h = h
  split (Some f) h = refl

form_found : (ws : List (List ℕ)) → is_some (meaning ws) ≡ true → (f : Form) × (form_of ws ≡ Some f)
form_found ws e = split (form_of ws) refl e where
  split : (o : Option Form) → form_of ws ≡ o → is_some (option_map (λ f. meaning_by f ws) o) ≡ true → (f : Form) × (form_of ws ≡ Some f)
  split None h never = absurd (true≢false (sym never))
  split (Some f) h yes_ = (f, h)

-- ---- the law

begins_before : (ws : List (List ℕ)) → BeginsSentence (take (most_fitting forms ws) ws)
begins_before ws =
    let best : FitsMost forms ws = fits_most _ _ ws in
    let taken = fits_taken best.form 0 (most_fitting forms ws) ws (omega (arith, best.most)) in
    let within = fitting_most best.form 0 ws in
    let size = taken_length (most_fitting forms ws) ws (omega (arith, within, best.most)) in
    let done = completes best.form (take (most_fitting forms ws) ws) (taken ∙ sym size) in record {
      more = done.0;
      sentence = meaning_found (take (most_fitting forms ws) ws ++ done.0)
          (best.found (λ f. is_whole f (take (most_fitting forms ws) ws ++ done.0)) done.1);
    }

none_goes_on : (ws : List (List ℕ)) (n : ℕ) → n ≡ most_fitting forms ws → n < length ws → BeginsSentence (take (suc n) ws) → ⊥
none_goes_on ws n is below sentence =
    let f = form_found (take (suc n) ws ++ sentence.more) sentence.sentence in
    let passes = found_passes (λ g. is_whole g (take (suc n) ws ++ sentence.more)) forms f.0 ws f.1 in
    let front = front_fits f.0 0 (take (suc n) ws) sentence.more (whole_fits f.0 (take (suc n) ws ++ sentence.more) passes.0) in
    let all = taken_fits f.0 0 (suc n) ws (omega (arith, below)) front in
    absurd (omega (arith, all, passes.1, is))

most_within : (ws : List (List ℕ)) → most_fitting forms ws ≤ length ws
most_within ws =
    let best : FitsMost forms ws = fits_most _ _ ws in
    let within = fitting_most best.form 0 ws in omega (arith, within, best.most)

pub first_wrong : (words : List (List ℕ)) → IsFirstWrong words (wrong_place words)
first_wrong words = record {
  before = most_fitting forms words;
  place_is = refl;
  within = most_within words;
  begins = begins_before words;
  wrong = λ below sentence. none_goes_on words (most_fitting forms words) refl below sentence;
}
