-- Where a half is, its load stands before in the block, and no word between writes its register.
use Rattle.std.proofs.Common.{◌≡◌, ◌⊎◌, inl, inr, ℕ, Bool, true, false, cond, ◌&&◌, ◌||◌, ◌==◌, List, [], ◌∷◌, ◌++◌, Option, Some, None, refl, sym, ap, ◌∙◌, subst}
use Rattle.std.proofs.lemmas.Bool.{true≢false, eqb-true, eq-eqb}
use Rattle.om_value.specs.declared.value.Place.{Place}
use Rattle.om_value.specs.Same.{place_eq}
use Rattle.om_prog.specs.Act.{Word, act_reads, act_writes}
use Rattle.om_prog.specs.Flow.{Among}
use Rattle.om_prog.specs.Facts.{has}
use Rattle.om_graph.specs.View.{Has}
use Rattle.om_graph.specs.Run.{rev_onto}
use Rattle.om_graph.specs.Form.{Ordered}
use Rattle.om_graph.specs.Checks.{written_in}
use Rattle.om_graph.specs.Uses.{NoneWrites, IsLocalUse}
use Rattle.om_graph.proofs.Labels.{append_right, same_place, self_eq}
use Rattle.om_graph.proofs.Masks.{has_among, among_true}
use Rattle.om_passes.specs.Far.{FarLoad}
use Rattle.om_graph.proofs.Ends.{after_apart}
use Rattle.om_passes.proofs.KnownCalls.{back_onto, turned}
use Rattle.om_addr.specs.Halves.{halves_behind}

-- ---- words before and behind one

pub rev_has : (bf vs : List Word) (w : Word) → Has (rev_onto bf vs) w → Has bf w ⊎ Has vs w
rev_has [] vs w h = inr h
rev_has (x ∷ bf) vs w h = by_part (rev_has bf (x ∷ vs) w h)
  where
    by_part : Has bf w ⊎ Has (x ∷ vs) w → Has (x ∷ bf) w ⊎ Has vs w
    by_part (inl i) = inl (inr i)
    by_part (inr (inl i)) = inl (inl i)
    by_part (inr (inr i)) = inr i

pub has_behind : (bf vs : List Word) (w : Word) → Has vs w → Has (rev_onto bf vs) w
has_behind [] vs w h = h
has_behind (x ∷ bf) vs w h = has_behind bf (x ∷ vs) w (inr h)

pub has_before : (bf vs : List Word) (w : Word) → Has bf w → Has (rev_onto bf vs) w
has_before [] vs w h = absurd h
has_before (x ∷ bf) vs w (inl h) = has_behind bf (x ∷ vs) w (inl h)
has_before (x ∷ bf) vs w (inr h) = has_before bf (x ∷ vs) w h

ordered_rest : (bf vs : List Word) → Ordered (rev_onto bf vs) → Ordered vs
ordered_rest [] vs o = o
ordered_rest (x ∷ bf) vs o = let i = ordered_rest bf (x ∷ vs) o in i.1

pub rev_apart : (bf vs : List Word) (d w : Word) → Ordered (rev_onto bf vs) → Has bf d → Has vs w → w.at ≡ d.at → ⊥
rev_apart [] vs d w o h k e = h
rev_apart (x ∷ bf) vs d w o (inl h) k e = let i = ordered_rest bf (x ∷ vs) o in after_apart vs x w i.0 k (e ∙ sym (ap (λ (y : Word). y.at) h))
rev_apart (x ∷ bf) vs d w o (inr h) k e = rev_apart bf (x ∷ vs) d w o h (inr k) e

pub rev_split : (mid : List Word) (d : Word) (bf vs : List Word) → rev_onto (mid ++ d ∷ bf) vs ≡ rev_onto bf (d ∷ rev_onto mid vs)
rev_split [] d bf vs = refl
rev_split (x ∷ mid) d bf vs = rev_split mid d bf (x ∷ vs)

-- ---- halves

module _ (l : FarLoad) where
  pub record HalfFrom (bf : List Word) (r : ℕ) (h : Place) : Type 0 where
    pub register : l.ra ≡ r
    pub place : l.hi ≡ h
    pub mid : List Word
    pub load : Word
    pub before : List Word
    pub stands : bf ≡ mid ++ load ∷ before
    pub at : load.at ≡ l.hi
    pub unwritten : NoneWrites l.ra mid

  both_true : (a b : Bool) → (a && b) ≡ true → (a ≡ true) × (b ≡ true)
  both_true true true e = (refl, refl)
  both_true true false e = absurd (true≢false (sym e))
  both_true false b e = absurd (true≢false (sym e))

  pub half_from : (bf : List Word) (r : ℕ) (h : Place) → halves_behind l bf r ≡ Some h → HalfFrom bf r h
  half_from [] r h e = cc
  half_from (w ∷ bf) r h e = by_load (place_eq w.at l.hi && (l.ra == r)) refl (has (act_writes w.act) r) refl e (half_from bf r h)
    where
      more : has (act_writes w.act) r ≡ false → HalfFrom bf r h → HalfFrom (w ∷ bf) r h
      more n f = record {
        register = f.register;
        place = f.place;
        mid = w ∷ f.mid;
        load = f.load;
        before = f.before;
        stands = ap (λ (z : List Word). w ∷ z) f.stands;
        at = f.at;
        unwritten = none f.mid f.register f.unwritten;
      }
        where
          none : (mid : List Word) → l.ra ≡ r → NoneWrites l.ra mid → NoneWrites l.ra (w ∷ mid)
          none mid s u x (inl i) a = true≢false (sym (among_true (act_writes w.act) r (subst (λ (y : ℕ). Among (act_writes w.act) y) s (subst (λ (y : Word). Among (act_writes y.act) l.ra) (sym i) a))) ∙ n)
          none mid s u x (inr i) a = u x i a

      by_load :
          (t : Bool) → (place_eq w.at l.hi && (l.ra == r)) ≡ t → (v : Bool) → has (act_writes w.act) r ≡ v →
          cond t (Some l.hi) (cond v None (halves_behind l bf r)) ≡ Some h → (halves_behind l bf r ≡ Some h → HalfFrom bf r h) → HalfFrom (w ∷ bf) r h
      by_load true t v u e i =
          let b = both_true _ _ t in
          record {
            register = eqb-true l.ra r b.1;
            place = let same : l.hi ≡ h = cc in same;
            mid = [];
            load = w;
            before = bf;
            stands = refl;
            at = same_place w.at l.hi b.0;
            unwritten = λ x i a. i;
          }
      by_load false t true u e i = cc
      by_load false t false u e i = more u (i e)

  -- no half where the load does not stand before
  pub no_load : (bf : List Word) (r : ℕ) → ((w : Word) → Has bf w → w.at ≡ l.hi → ⊥) → halves_behind l bf r ≡ None
  no_load bf r n = by_case (halves_behind l bf r) refl
    where
      by_case : (o : Option Place) → halves_behind l bf r ≡ o → halves_behind l bf r ≡ None
      by_case None e = e
      by_case (Some h) e =
          let f = half_from bf r h e in
          absurd (n f.load (subst (λ (z : List Word). Has z f.load) (sym f.stands) (append_right f.mid (f.load ∷ f.before) f.load (inl refl))) f.at)

  pub at_load : (w : Word) (bf : List Word) → w.at ≡ l.hi → halves_behind l (w ∷ bf) l.ra ≡ Some l.hi
  at_load w bf e = let i : place_eq w.at l.hi ≡ true = ap (λ (q : Place). place_eq q l.hi) e ∙ self_eq l.hi in rw (i, eq-eqb l.ra l.ra refl) refl

  -- past a word
  pub past_word :
      (w : Word) (bf : List Word) (r : ℕ) (h : Place) → halves_behind l (w ∷ bf) r ≡ Some h →
      ((w.at ≡ l.hi) × (l.ra ≡ r) × (l.hi ≡ h)) ⊎ ((halves_behind l bf r ≡ Some h) × (Among (act_writes w.act) r → ⊥))
  past_word w bf r h e = by_load (place_eq w.at l.hi && (l.ra == r)) refl (has (act_writes w.act) r) refl e
    where
      by_load :
          (t : Bool) → (place_eq w.at l.hi && (l.ra == r)) ≡ t → (v : Bool) → has (act_writes w.act) r ≡ v →
          cond t (Some l.hi) (cond v None (halves_behind l bf r)) ≡ Some h → ((w.at ≡ l.hi) × (l.ra ≡ r) × (l.hi ≡ h)) ⊎ ((halves_behind l bf r ≡ Some h) × (Among (act_writes w.act) r → ⊥))
      by_load true t v u e = let b = both_true _ _ t in inl (same_place w.at l.hi b.0, eqb-true l.ra r b.1, let same : l.hi ≡ h = cc in same)
      by_load false t true u e = cc
      by_load false t false u e = inr (e, λ a. true≢false (sym (among_true (act_writes w.act) r a) ∙ u))

  -- a half goes on, or its register is written
  pub goes_on : (w : Word) (bf : List Word) (r : ℕ) (h : Place) → halves_behind l bf r ≡ Some h → Among (act_writes w.act) r ⊎ (halves_behind l (w ∷ bf) r ≡ Some h)
  goes_on w bf r h e = by_load (place_eq w.at l.hi && (l.ra == r)) (has (act_writes w.act) r) refl
    where
      by_load : (t v : Bool) → has (act_writes w.act) r ≡ v → Among (act_writes w.act) r ⊎ (cond t (Some l.hi) (cond v None (halves_behind l bf r)) ≡ Some h)
      by_load true v u = let f = half_from bf r h e in inr (ap (λ (q : Place). Some q) f.place)
      by_load false true u = inl (has_among (act_writes w.act) r u)
      by_load false false u = inr e

-- ---- what reads a half

unwritten_in : (ws : List Word) (r : ℕ) → NoneWrites r ws → written_in ws r ≡ false
unwritten_in [] r n = refl
unwritten_in (w ∷ ws) r n = by_case (has (act_writes w.act) r) refl (unwritten_in ws r (λ v h. n v (inr h)))
  where
    by_case : (b : Bool) → has (act_writes w.act) r ≡ b → written_in ws r ≡ false → (b || written_in ws r) ≡ false
    by_case true e i = absurd (n w (inl refl) (has_among (act_writes w.act) r e))
    by_case false e i = i

pub unwritten_behind : (mid : List Word) (r : ℕ) → NoneWrites r mid → written_in (rev_onto mid []) r ≡ false
unwritten_behind mid r n = unwritten_in (rev_onto mid []) r (λ w h. by_part w (rev_has mid [] w h))
  where
    by_part : (w : Word) → Has mid w ⊎ Has [] w → Among (act_writes w.act) r → ⊥
    by_part w (inl h) = n w h
    by_part w (inr h) = absurd h

pub local_of : (bs bf mid : List Word) (d w : Word) (ws : List Word) (r : ℕ) → rev_onto (mid ++ d ∷ bf) (w ∷ ws) ≡ bs → NoneWrites r mid → Among (act_writes d.act) r → Among (act_reads w.act) r → (r ≡ 31 → ⊥) → IsLocalUse bs d w r
local_of bs bf mid d w ws r e n a k x =
    let t = turned bf in
    let s = turned mid in
    record {
      mid = s.front;
      stands = (
        t.front,
        ws,
        sym e ∙ rev_split mid d bf (w ∷ ws) ∙ t.same (d ∷ rev_onto mid (w ∷ ws)) ∙ ap (λ (z : List Word). t.front ++ d ∷ z) (s.same (w ∷ ws)) ∙ regroup t.front d s.front (w ∷ ws),
      );
      writes = a;
      unwritten = λ v h. n v (in_mid v (subst (λ (z : List Word). Has z v) (front_is s.front (s.same [])) h));
      reads = k;
      register = x;
    }
  where
    regroup : (xs : List Word) (d : Word) (ys zs : List Word) → xs ++ d ∷ (ys ++ zs) ≡ (xs ++ d ∷ ys) ++ zs
    regroup [] d ys zs = refl
    regroup (x ∷ xs) d ys zs = ap (λ (l : List Word). x ∷ l) (regroup xs d ys zs)

    nil : (xs : List Word) → xs ++ [] ≡ xs
    nil [] = refl
    nil (x ∷ xs) = ap (λ (l : List Word). x ∷ l) (nil xs)

    front_is : (front : List Word) → rev_onto mid [] ≡ front ++ [] → front ≡ rev_onto mid []
    front_is front e = sym (e ∙ nil front)

    in_mid : (v : Word) → Has (rev_onto mid []) v → Has mid v
    in_mid v h = by_part (rev_has mid [] v h)
      where
        by_part : Has mid v ⊎ Has [] v → Has mid v
        by_part (inl i) = i
        by_part (inr i) = absurd i
