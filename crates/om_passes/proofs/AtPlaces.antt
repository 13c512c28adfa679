-- Edits of the word at a place, in words in order.
use Rattle.std.proofs.Common.{◌≡◌, inl, inr, Bool, true, false, cond, List, [], ◌∷◌, ◌++◌, Option, Some, None, refl, sym, ap, ◌∙◌}
use Rattle.om_value.specs.declared.value.Place.{Place}
use Rattle.om_value.specs.Same.{place_eq}
use Rattle.om_prog.specs.Act.{Act, Word}
use Rattle.om_graph.specs.View.{Has}
use Rattle.om_graph.specs.Form.{Ordered}
use Rattle.om_graph.specs.Rewritten.{onto_words, each_word}
use Rattle.om_graph.proofs.Labels.{same_place, self_eq}
use Rattle.om_graph.proofs.Ends.{each_append, words_apart, ordered_right, after_apart}
use Rattle.om_passes.specs.AtPlaces.{set_at, gone_at}
use Rattle.om_passes.proofs.Parted.{is_false}

pub each_same : (f : Word → Option Word) (ws : List Word) → ((w : Word) → Has ws w → f w ≡ Some w) → each_word f ws ≡ ws
each_same f [] e = refl
each_same f (w ∷ ws) e = let a = e w (inl refl) in let i = each_same f ws (λ v h. e v (inr h)) in rw (a, i) refl

-- ---- at its place and elsewhere

pub set_here : (q : Place) (a : Act) (w : Word) → w.at ≡ q → set_at q a w ≡ Some (record { at = w.at; act = a })
set_here q a w e = let h : place_eq w.at q ≡ true = ap (λ (x : Place). place_eq x q) e ∙ self_eq q in rw h refl

pub set_else : (q : Place) (a : Act) (w : Word) → (w.at ≡ q → ⊥) → set_at q a w ≡ Some w
set_else q a w n = let h : place_eq w.at q ≡ false = is_false (place_eq w.at q) (λ e. n (same_place w.at q e)) in rw h refl

pub gone_here : (q : Place) (w : Word) → w.at ≡ q → gone_at q w ≡ None
gone_here q w e = let h : place_eq w.at q ≡ true = ap (λ (x : Place). place_eq x q) e ∙ self_eq q in rw h refl

pub gone_else : (q : Place) (w : Word) → (w.at ≡ q → ⊥) → gone_at q w ≡ Some w
gone_else q w n = let h : place_eq w.at q ≡ false = is_false (place_eq w.at q) (λ e. n (same_place w.at q e)) in rw h refl

-- no word goes
pub never_gone : (q : Place) (a : Act) (w : Word) → set_at q a w ≡ None → ⊥
never_gone q a w e = cc

-- the word at the place, or the same one
pub data IsSet (q : Place) (a : Act) (w u : Word) : Type 0 where
  here : w.at ≡ q → u ≡ record { at = w.at; act = a } → IsSet q a w u
  elsewhere : (w.at ≡ q → ⊥) → u ≡ w → IsSet q a w u

pub is_set : (q : Place) (a : Act) (w u : Word) → set_at q a w ≡ Some u → IsSet q a w u
is_set q a w u e = by_case (place_eq w.at q) refl e
  where
    by_case : (b : Bool) → place_eq w.at q ≡ b → Some (cond b (record { at = w.at; act = a }) w) ≡ Some u → IsSet q a w u
    by_case true h e = here (same_place w.at q h) (let x : record { at = w.at; act = a } ≡ u = some_same e in sym x)
      where
        some_same : {x y : Word} → Some x ≡ Some y → x ≡ y
        some_same e = cc
    by_case false h e = elsewhere (λ m. let k : true ≡ false = sym (self_eq q) ∙ ap (λ (x : Place). place_eq x q) (sym m) ∙ h in cc) (let x : w ≡ u = cc in sym x)

pub data IsGone (q : Place) (w : Word) (o : Option Word) : Type 0 where
  gone : w.at ≡ q → o ≡ None → IsGone q w o
  left : (w.at ≡ q → ⊥) → o ≡ Some w → IsGone q w o

pub is_gone : (q : Place) (w : Word) → IsGone q w (gone_at q w)
is_gone q w = by_case (place_eq w.at q) refl
  where
    by_case : (b : Bool) → place_eq w.at q ≡ b → IsGone q w (cond b None (Some w))
    by_case true h = gone (same_place w.at q h) refl
    by_case false h = left (λ m. let k : true ≡ false = sym (self_eq q) ∙ ap (λ (x : Place). place_eq x q) (sym m) ∙ h in cc) refl

-- ---- in words in order

module _ (xs : List Word) (x : Word) (ys : List Word) (o : Ordered (xs ++ x ∷ ys)) where
  before : (w : Word) → Has xs w → w.at ≡ x.at → ⊥
  before w h e = words_apart xs (x ∷ ys) w x o h (inl refl) e

  behind : (w : Word) → Has ys w → w.at ≡ x.at → ⊥
  behind w h e = let r = ordered_right xs (x ∷ ys) o in after_apart ys x w r.0 h e

  pub set_parts : (a : Act) → each_word (set_at x.at a) (xs ++ x ∷ ys) ≡ xs ++ record { at = x.at; act = a } ∷ ys
  set_parts a =
      let l = each_same (set_at x.at a) xs (λ w h. set_else x.at a w (before w h)) in
      let r = each_same (set_at x.at a) ys (λ w h. set_else x.at a w (behind w h)) in
      let m = set_here x.at a x refl in
      each_append (set_at x.at a) xs (x ∷ ys) ∙ ap (λ (z : List Word). z ++ each_word (set_at x.at a) (x ∷ ys)) l
      ∙ ap (λ (z : Option Word). xs ++ onto_words z (each_word (set_at x.at a) ys)) m ∙ ap (λ (z : List Word). xs ++ record { at = x.at; act = a } ∷ z) r

  pub gone_parts : each_word (gone_at x.at) (xs ++ x ∷ ys) ≡ xs ++ ys
  gone_parts =
      let l = each_same (gone_at x.at) xs (λ w h. gone_else x.at w (before w h)) in
      let r = each_same (gone_at x.at) ys (λ w h. gone_else x.at w (behind w h)) in
      let m = gone_here x.at x refl in
      each_append (gone_at x.at) xs (x ∷ ys) ∙ ap (λ (z : List Word). z ++ each_word (gone_at x.at) (x ∷ ys)) l
      ∙ ap (λ (z : Option Word). xs ++ onto_words z (each_word (gone_at x.at) ys)) m ∙ ap (λ (z : List Word). xs ++ z) r
