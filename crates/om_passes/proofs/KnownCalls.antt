-- What is known of the register of a known call: the place that its load loads, or a global pointer that a load between
-- took from it.
use Rattle.std.proofs.Common.{◌≡◌, ◌⊎◌, inl, inr, ℕ, Bool, true, false, cond, ◌==◌, List, [], ◌∷◌, ◌++◌, Some, None, refl, sym, ap, ◌∙◌, subst}
use Rattle.std.proofs.lemmas.Bool.{true≢false, eqb-true, eq-eqb}
use Rattle.om_value.specs.declared.value.Place.{Place}
use Rattle.om_value.specs.declared.value.Value.{Value}
use Rattle.om_value.specs.declared.value.Value.TheVariants.{Ptr, Code, Gp}
use Rattle.om_value.specs.declared.value.Target.TheVariants as target
use Rattle.om_value.specs.Lift.{value_of}
use Rattle.om_prog.specs.Act.{Act, Plain, Lit, GpHi, GpLo, To, AddrLda, AddrHi, UseLo, UseGp, Wrong, Word, Script, act_writes}
use Rattle.om_prog.specs.Flow.{Among}
use Rattle.om_prog.specs.Facts.{has}
use Rattle.om_prog.specs.Values.{Values, loaded}
use Rattle.om_graph.specs.View.{Has}
use Rattle.om_graph.specs.Run.{rev_onto}
use Rattle.om_graph.specs.Form.{Ordered}
use Rattle.om_graph.specs.Uses.{NoneWrites, IsKnownCall}
use Rattle.om_graph.proofs.Labels.{append_right}
use Rattle.om_graph.proofs.Masks.{has_among}
use Rattle.om_graph.proofs.ValuesAt.{behind}
use Rattle.om_graph.proofs.Ends.{after_apart}

-- ---- words before one, the last one first

abbrev pub back_onto : List Word → List Word → List Word
back_onto [] bf = bf
back_onto (w ∷ ws) bf = back_onto ws (w ∷ bf)

back_more : (ws : List Word) (w : Word) (bf : List Word) → back_onto (ws ++ w ∷ []) bf ≡ w ∷ back_onto ws bf
back_more [] w bf = refl
back_more (x ∷ ws) w bf = back_more ws w (x ∷ bf)

pub back_both : (xs : List Word) (w : Word) (ys bf : List Word) → back_onto (xs ++ w ∷ ys) bf ≡ back_onto ys (w ∷ back_onto xs bf)
back_both [] w ys bf = refl
back_both (x ∷ xs) w ys bf = back_both xs w ys (x ∷ bf)

pub record Turned (bf : List Word) : Type 0 where
  pub front : List Word
  pub back : bf ≡ back_onto front []
  pub same : (vs : List Word) → rev_onto bf vs ≡ front ++ vs

pub turned : (bf : List Word) → Turned bf
turned [] = record { front = []; back = refl; same = λ vs. refl }
turned (w ∷ bf) =
    let r = turned bf in
    record { front = r.front ++ w ∷ []; back = ap (λ (l : List Word). w ∷ l) r.back ∙ sym (back_more r.front w []); same = λ vs. r.same (w ∷ vs) ∙ sym (assoc r.front w vs) }
  where
    assoc : (xs : List Word) (w : Word) (vs : List Word) → (xs ++ w ∷ []) ++ vs ≡ xs ++ w ∷ vs
    assoc [] w vs = refl
    assoc (x ∷ xs) w vs = ap (λ (l : List Word). x ∷ l) (assoc xs w vs)

pub fronts_same : (xs ys us vs : List Word) (d : Word) → Ordered (xs ++ d ∷ us) → xs ++ d ∷ us ≡ ys ++ d ∷ vs → xs ≡ ys
fronts_same [] [] us vs d o e = refl
fronts_same [] (y ∷ ys) us vs d o e =
    let tail : us ≡ ys ++ d ∷ vs = cc in
    absurd (after_apart us d d o.0 (subst (λ (l : List Word). Has l d) (sym tail) (append_right ys (d ∷ vs) d (inl refl))) refl)
fronts_same (x ∷ xs) [] us vs d o e =
    let same : x ≡ d = cc in
    absurd (after_apart (xs ++ d ∷ us) x d o.0 (append_right xs (d ∷ us) d (inl refl)) (ap (λ (w : Word). w.at) (sym same)))
fronts_same (x ∷ xs) (y ∷ ys) us vs d o e =
    let same : x ≡ y = cc in
    let tail : xs ++ d ∷ us ≡ ys ++ d ∷ vs = cc in
    let r = fronts_same xs ys us vs d o.1 tail in
    rw (same, r) refl

-- ---- values

module _ (c : Script) (r : ℕ) (v : Value) where
  abbrev pub IsKnown : Values → Type 0
  IsKnown k = (k r ≡ Some v) ⊎ ((t : ℕ) × (k r ≡ Some (Gp t)))

  -- past a word that does not write the register
  other_keeps : (a : Act) (k : Values) → (Among (act_writes a) r → ⊥) → (cond (has (act_writes a) r) None (k r) ≡ k r)
  other_keeps a k n = by_case (has (act_writes a) r) refl
    where
      by_case : (b : Bool) → has (act_writes a) r ≡ b → cond b None (k r) ≡ k r
      by_case true e = absurd (n (has_among (act_writes a) r e))
      by_case false e = refl

  onward : (k l : Values) → l r ≡ k r → IsKnown k → IsKnown l
  onward k l e (inl x) = inl (e ∙ x)
  onward k l e (inr x) = inr (x.0, e ∙ x.1)

  past_word : (at : Place) (a : Act) (k : Values) → (Among (act_writes a) r → ⊥) → IsKnown k → IsKnown (loaded c at a k)
  past_word at (Lit ra rb t) k n i = by_case (ra == 31) (ra == r) refl (rb == r) refl
    where
      by_case : (x y : Bool) → (ra == r) ≡ y → (z : Bool) → (rb == r) ≡ z → (cond x (k r) (cond y (Some (value_of t)) (cond z (Some (Gp (c.table at.obj))) (k r))) ≡ Some v) ⊎ ((u : ℕ) × (cond x (k r) (cond y (Some (value_of t)) (cond z (Some (Gp (c.table at.obj))) (k r))) ≡ Some (Gp u)))
      by_case true y e z f = i
      by_case false true e z f = absurd (n (inl (eqb-true ra r e)))
      by_case false false e true f = inr (c.table at.obj, refl)
      by_case false false e false f = i
  past_word at (Plain j) k n i = onward k (loaded c at (Plain j) k) (other_keeps (Plain j) k n) i
  past_word at (GpHi ra rb base) k n i = onward k (loaded c at (GpHi ra rb base) k) (other_keeps (GpHi ra rb base) k n) i
  past_word at (GpLo ra rb hi) k n i = onward k (loaded c at (GpLo ra rb hi) k) (other_keeps (GpLo ra rb hi) k n) i
  past_word at (To op ra q) k n i = onward k (loaded c at (To op ra q) k) (other_keeps (To op ra q) k n) i
  past_word at (AddrLda ra rb (target.Num m)) k n i = onward k (loaded c at (AddrLda ra rb (target.Num m)) k) (other_keeps (AddrLda ra rb (target.Num m)) k n) i
  past_word at (AddrLda ra rb (target.Code q)) k n i = onward k (loaded c at (AddrLda ra rb (target.Code q)) k) (other_keeps (AddrLda ra rb (target.Code q)) k n) i
  past_word at (AddrLda ra rb (target.Ptr g m)) k n i = by_case (ra == 31) (ra == r) refl (rb == r) refl
    where
      by_case : (x y : Bool) → (ra == r) ≡ y → (z : Bool) → (rb == r) ≡ z → (cond x (k r) (cond y (Some (Ptr g m)) (cond z (Some (Gp (c.table at.obj))) (k r))) ≡ Some v) ⊎ ((u : ℕ) × (cond x (k r) (cond y (Some (Ptr g m)) (cond z (Some (Gp (c.table at.obj))) (k r))) ≡ Some (Gp u)))
      by_case true y e z f = i
      by_case false true e z f = absurd (n (inl (eqb-true ra r e)))
      by_case false false e true f = inr (c.table at.obj, refl)
      by_case false false e false f = i
  past_word at (AddrHi ra rb t) k n i = onward k (loaded c at (AddrHi ra rb t) k) (other_keeps (AddrHi ra rb t) k n) i
  past_word at (UseLo j hi t) k n i = onward k (loaded c at (UseLo j hi t) k) (other_keeps (UseLo j hi t) k n) i
  past_word at (UseGp j gp t) k n i = onward k (loaded c at (UseGp j gp t) k) (other_keeps (UseGp j gp t) k n) i
  past_word at Wrong k n i = onward k (loaded c at Wrong k) (other_keeps Wrong k n) i

  pub past_words : (mid bf : List Word) → NoneWrites r mid → IsKnown (behind c bf) → IsKnown (behind c (back_onto mid bf))
  past_words [] bf n i = i
  past_words (m ∷ mid) bf n i = past_words mid (m ∷ bf) (λ w h. n w (inr h)) (past_word m.at m.act (behind c bf) (n m (inl refl)) i)

-- in front of a known call
pub known_call : (c : Script) (bs bf ws : List Word) (call : Word) (ra : ℕ) (q : Place) → Ordered bs → rev_onto bf (call ∷ ws) ≡ bs → (k : IsKnownCall bs call ra q) → IsKnown c k.rb (Code q) (behind c bf)
known_call c bs bf ws call ra q o e k =
    let t = turned bf in
    let s = k.local.stands in
    let x = sym (t.same (call ∷ ws)) ∙ e in
    let fronts = fronts_same t.front (s.0 ++ k.load ∷ k.local.mid) ws s.1 call (subst (λ (l : List Word). Ordered l) (sym x) o) (x ∙ s.2) in
    let bf_is : bf ≡ back_onto k.local.mid (k.load ∷ back_onto s.0 []) = t.back ∙ ap (λ (l : List Word). back_onto l []) fronts ∙ back_both s.0 k.load k.local.mid [] in
    subst (λ (l : List Word). IsKnown c k.rb (Code q) (behind c l)) (sym bf_is)
    (past_words c k.rb (Code q) k.local.mid (k.load ∷ back_onto s.0 []) k.local.unwritten (inl (at_load (back_onto s.0 []))))
  where
    at_load : (bf : List Word) → behind c (k.load ∷ bf) k.rb ≡ Some (Code q)
    at_load bf = ap (λ (a : Act). loaded c (k.load).at a (behind c bf) k.rb) k.loads ∙ by_case (k.rb == 31) refl (k.rb == k.rb) (eq-eqb k.rb k.rb refl)
      where
        by_case :
            (x : Bool) → (k.rb == 31) ≡ x → (y : Bool) → y ≡ true →
            cond x (behind c bf k.rb) (cond y (Some (value_of (target.Code q))) (cond (k.base == k.rb) (Some (Gp (c.table (k.load).at.obj))) (behind c bf k.rb))) ≡ Some (Code q)
        by_case true e y f = absurd (k.local.register (eqb-true k.rb 31 e))
        by_case false e true f = refl
        by_case false e false f = absurd (true≢false (sym f))
