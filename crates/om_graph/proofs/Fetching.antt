-- The next word, in lists of words in order from which words were erased or in which they were changed.
use Rattle.std.proofs.Common.{◌≡◌, inl, inr, ◌≤◌, ℕ, ◌+◌, Bool, true, false, cond, ◌&&◌, ◌==◌, List, [], ◌∷◌, Option, Some, None, refl, sym, ap, ◌∙◌, subst, arith}
use Rattle.std.specs.Prelude.{nat_le}
use Rattle.std.proofs.lemmas.Bool.{true≢false, eqb-true, eq-eqb, leb-true, le-leb}
use Rattle.om_value.specs.declared.value.Place.{Place}
use Rattle.om_prog.specs.Act.{Word}
use Rattle.om_prog.specs.Step.{next_place}
use Rattle.om_graph.specs.View.{Has}
use Rattle.om_graph.specs.Run.{from_place, next_word}
use Rattle.om_graph.specs.Form.{After, Ordered}
use Rattle.om_graph.specs.Rewritten.{onto_words, each_word}

-- a change of words keeps their places
abbrev pub KeepsPlaces : (Word → Option Word) → Type 0
KeepsPlaces f = (w u : Word) → f w ≡ Some u → u.at ≡ w.at

pub is_from : (p : Place) (w : Word) → from_place p w ≡ true → (w.at.obj ≡ p.obj) × (p.off ≤ w.at.off)
is_from p w e = by_case _ _ refl refl e
  where
    by_case : (a b : Bool) → (w.at.obj == p.obj) ≡ a → nat_le p.off w.at.off ≡ b → (a && b) ≡ true → (w.at.obj ≡ p.obj) × (p.off ≤ w.at.off)
    by_case true true x y e = (eqb-true _ _ x, leb-true _ _ y)
    by_case true false x y e = absurd (true≢false (sym e))
    by_case false b x y e = absurd (true≢false (sym e))

pub found_from : (ws : List Word) (p : Place) (w : Word) → next_word ws p ≡ Some w → (w.at.obj ≡ p.obj) × (p.off ≤ w.at.off)
found_from [] p w e = cc
found_from (x ∷ ws) p w e = by_case _ refl e (found_from ws p w)
  where
    by_case :
        (b : Bool) → from_place p x ≡ b → cond b (Some x) (next_word ws p) ≡ Some w →
        (next_word ws p ≡ Some w → (w.at.obj ≡ p.obj) × (p.off ≤ w.at.off)) → (w.at.obj ≡ p.obj) × (p.off ≤ w.at.off)
    by_case true h e i = let same : x ≡ w = cc in subst (λ (y : Word). (y.at.obj ≡ p.obj) × (p.off ≤ y.at.off)) same (is_from p x h)
    by_case false h e i = i e

-- what is not from a place is not from a place past a word that is
pub not_later : (p : Place) (w x : Word) → w.at.obj ≡ p.obj → p.off ≤ w.at.off → from_place p x ≡ false → from_place (next_place w.at) x ≡ false
not_later p w x o l h = by_case _ refl
  where
    by_case : (b : Bool) → from_place (next_place w.at) x ≡ b → from_place (next_place w.at) x ≡ false
    by_case false i = i
    by_case true i =
        let v = is_from (next_place w.at) x i in
        let v1 = v.1 in
        let r : from_place p x ≡ true = rw (eq-eqb x.at.obj p.obj (v.0 ∙ o), le-leb p.off x.at.off (omega (arith, v1))) refl in
        absurd (true≢false (sym r ∙ h))

pub from_true : (p : Place) (x : Word) → x.at.obj ≡ p.obj → p.off ≤ x.at.off → from_place p x ≡ true
from_true p x o l = rw (eq-eqb x.at.obj p.obj o, le-leb p.off x.at.off l) refl

module _ (f : Word → Option Word) (in_place : KeepsPlaces f) where
  -- a word that is not from p stays so
  skip_word : (p : Place) (x : Word) (o : Option Word) (ws : List Word) → f x ≡ o → from_place p x ≡ false → next_word (onto_words o ws) p ≡ next_word ws p
  skip_word p x None ws e h = refl
  skip_word p x (Some u) ws e h =
      let a = in_place x u e in
      let b : from_place p u ≡ false = subst (λ (q : Place). ((q.obj == p.obj) && nat_le p.off q.off) ≡ false) (sym a) h in
      rw b refl

  take_word : (p : Place) (x u : Word) (ws : List Word) → f x ≡ Some u → from_place p x ≡ true → next_word (u ∷ ws) p ≡ Some u
  take_word p x u ws e h =
      let a = in_place x u e in
      let b : from_place p u ≡ true = subst (λ (q : Place). ((q.obj == p.obj) && nat_le p.off q.off) ≡ true) (sym a) h in
      rw b refl

  -- the word found, as the pass leaves it
  pub found_kept : (ws : List Word) (p : Place) (w u : Word) → next_word ws p ≡ Some w → f w ≡ Some u → next_word (each_word f ws) p ≡ Some u
  found_kept [] p w u e k = cc
  found_kept (x ∷ ws) p w u e k = by_case _ refl e (found_kept ws p w u)
    where
      by_case :
          (b : Bool) → from_place p x ≡ b → cond b (Some x) (next_word ws p) ≡ Some w →
          (next_word ws p ≡ Some w → f w ≡ Some u → next_word (each_word f ws) p ≡ Some u) → next_word (each_word f (x ∷ ws)) p ≡ Some u
      by_case true h e i =
          let same : x ≡ w = cc in
          let k' : f x ≡ Some u = ap f same ∙ k in
          ap (λ o. next_word (onto_words o (each_word f ws)) p) k' ∙ take_word p x u (each_word f ws) k' h
      by_case false h e i = skip_word p x (f x) (each_word f ws) refl h ∙ i e k

  -- past a word the same words are found from its place and from the next one
  past_word :
      (w : Word) (p : Place) (ws : List Word) → w.at.obj ≡ p.obj → p.off ≤ w.at.off → After w ws → next_word (each_word f ws) p ≡ next_word (each_word f ws) (next_place w.at)
  past_word w p [] o l a = refl
  past_word w p (x ∷ ws) o l a = onto (f x) refl (past_word w p ws o l a.1)
    where
      same_obj : (x.at.obj == p.obj) ≡ (x.at.obj == w.at.obj)
      same_obj = ap (λ (n : ℕ). x.at.obj == n) (sym o)

      by_obj : (d : Bool) → (x.at.obj == w.at.obj) ≡ d → (d && nat_le p.off x.at.off) ≡ (d && nat_le (w.at.off + 4) x.at.off)
      by_obj true i =
          let q = a.0 (eqb-true _ _ i) in
          le-leb p.off x.at.off (omega (arith, q, l)) ∙ sym (le-leb (w.at.off + 4) x.at.off q)
      by_obj false i = refl

      same : from_place p x ≡ from_place (next_place w.at) x
      same = ap (λ (d : Bool). d && nat_le p.off x.at.off) same_obj ∙ by_obj _ refl

      onto : (v : Option Word) → f x ≡ v → next_word (each_word f ws) p ≡ next_word (each_word f ws) (next_place w.at) → next_word (onto_words v (each_word f ws)) p ≡ next_word (onto_words v (each_word f ws)) (next_place w.at)
      onto None e i = i
      onto (Some u) e i =
          let b : from_place p u ≡ from_place (next_place w.at) u = subst (λ (q : Place). ((q.obj == p.obj) && nat_le p.off q.off) ≡ ((q.obj == w.at.obj) && nat_le (w.at.off + 4) q.off)) (sym (in_place x u e)) same in
          by_test (from_place p u) (from_place (next_place w.at) u) b i
        where
          by_test : (b d : Bool) → b ≡ d → next_word (each_word f ws) p ≡ next_word (each_word f ws) (next_place w.at) → cond b (Some u) (next_word (each_word f ws) p) ≡ cond d (Some u) (next_word (each_word f ws) (next_place w.at))
          by_test true true h i = refl
          by_test false false h i = i
          by_test true false h i = absurd (true≢false h)
          by_test false true h i = absurd (true≢false (sym h))

  -- the word found is gone: from its place on the same is found as from the next place on
  pub found_gone : (ws : List Word) (p : Place) (w : Word) → Ordered ws → next_word ws p ≡ Some w → f w ≡ None → next_word (each_word f ws) p ≡ next_word (each_word f ws) (next_place w.at)
  found_gone [] p w o e k = cc
  found_gone (x ∷ ws) p w o e k = by_case _ refl e (found_gone ws p w o.1)
    where
      later : next_word ws p ≡ Some w → from_place p x ≡ false → (b : Bool) → from_place (next_place w.at) x ≡ b → from_place (next_place w.at) x ≡ false
      later e h false i = i
      later e h true i =
          let u = found_from ws p w e in
          let v = is_from (next_place w.at) x i in
          let v1 = v.1 in
          let u1 = u.1 in
          let r : from_place p x ≡ true = rw (eq-eqb x.at.obj p.obj (v.0 ∙ u.0), le-leb p.off x.at.off (omega (arith, u1, v1))) refl in
          absurd (true≢false (sym r ∙ h))

      by_case :
          (b : Bool) → from_place p x ≡ b → cond b (Some x) (next_word ws p) ≡ Some w →
          (next_word ws p ≡ Some w → f w ≡ None → next_word (each_word f ws) p ≡ next_word (each_word f ws) (next_place w.at)) →
          next_word (each_word f (x ∷ ws)) p ≡ next_word (each_word f (x ∷ ws)) (next_place w.at)
      by_case true h e i =
          let same : x ≡ w = cc in
          let u = is_from p x h in
          let none : f x ≡ None = ap f same ∙ k in
          let q : next_word (each_word f ws) p ≡ next_word (each_word f ws) (next_place x.at) = past_word x p ws u.0 u.1 o.0 in
          let P = λ (r : Option Word) (y : Word). next_word (onto_words r (each_word f ws)) p ≡ next_word (onto_words r (each_word f ws)) (next_place y.at) in
          subst (λ (y : Word). P (f x) y) same (subst (λ (r : Option Word). P r x) (sym none) q)
      by_case false h e i =
          skip_word p x (f x) (each_word f ws) refl h ∙ i e k ∙ sym (skip_word (next_place w.at) x (f x) (each_word f ws) refl (later e h _ refl))

pub found_has : (ws : List Word) (p : Place) (w : Word) → next_word ws p ≡ Some w → Has ws w
found_has [] p w e = cc
found_has (x ∷ ws) p w e = by_case _ e (found_has ws p w)
  where
    by_case : (b : Bool) → cond b (Some x) (next_word ws p) ≡ Some w → (next_word ws p ≡ Some w → Has ws w) → Has (x ∷ ws) w
    by_case true e i = inl (cc)
    by_case false e i = inr (i e)
