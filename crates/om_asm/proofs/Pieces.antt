-- Readings of pieces: what is read is spelled so, and what is spelled so is read. How readings of pieces make one of the whole.
use Rattle.std.proofs.Common.{◌≡◌, ◌⊎◌, inl, inr, ℕ, suc, ◌+◌, ◌<◌, ◌==◌, ◌&&◌, Bool, true, false, not, nat_lt, List, [], ◌∷◌, ◌++◌, length, length-append, take, drop, get_or, Option, Some, None, refl, ap, sym, subst, ◌∙◌, arith, take-append-drop, drop-cons}
use Rattle.std.specs.Prelude.{option_map, option_and_then, position}
use Rattle.std.specs.List.{list_all, position_or_len}
use Rattle.std.proofs.lemmas.Bool.{eqb-true, eq-eqb, lt-ltb, and_parts, and_from, cond-true, cond-false, not_from_true}
use Rattle.std.proofs.lemmas.List.Quantifiers.{position-Some}
use Rattle.std.proofs.Math.Seq.{take-append_seam, drop-append-add}
use Rattle.om_isa.proofs.Found.{map_some, then_some, if_some}
use Rattle.om_asm.specs.Reading.{cut_at, behind, paired, both, if_empty, ended}

pub record Reads {A : Type 0} (f : List ℕ → Option A) (text : A → List ℕ) (formed : A → Bool) : Type 0 where
  pub sound : (t : List ℕ) (a : A) → f t ≡ Some a → (text a ≡ t) × (formed a ≡ true)
  pub complete : (a : A) → formed a ≡ true → f (text a) ≡ Some a

-- no byte is c
abbrev pub is_clear : ℕ → List ℕ → Bool
is_clear c text = list_all (λ x. not (x == c)) text

-- ---- a piece before the first c

place_clear : (c : ℕ) (a b : List ℕ) → is_clear c a ≡ true → position_or_len (λ x. x == c) (a ++ c ∷ b) ≡ length a
place_clear c [] b h = cond-false (not (c == c)) (1 + position_or_len (λ x. x == c) b) 0 (not_from_true _ (eq-eqb c c refl))
place_clear c (x ∷ a) b h =
    let p = and_parts (not (x == c)) (is_clear c a) h in
    cond-true (not (x == c)) (1 + position_or_len (λ x. x == c) (a ++ c ∷ b)) 0 p.0 ∙ ap (λ n. 1 + n) (place_clear c a b p.1) ∙ next (length a)
  where
    next : (n : ℕ) → 1 + n ≡ suc n
    next n = omega arith

shorter : (a b : List ℕ) (c : ℕ) → length a < length (a ++ c ∷ b)
shorter a b c = let e : length (a ++ c ∷ b) ≡ length a + length (c ∷ b) = length-append a (c ∷ b) in omega (arith, e)

pub cut_found : (c : ℕ) (a b : List ℕ) → is_clear c a ≡ true → cut_at c (a ++ c ∷ b) ≡ Some (a, b)
unfolding cut_at
cut_found c a b h =
    let n : position_or_len (λ x. x == c) (a ++ c ∷ b) ≡ length a = place_clear c a b h in
    let s : nat_lt (length a) (length (a ++ c ∷ b)) ≡ true = lt-ltb _ _ (shorter a b c) in
    let front : take (length a) (a ++ c ∷ b) ≡ a = take-append_seam a (c ∷ b) in
    let rest : drop (length a + 1) (a ++ c ∷ b) ≡ b = drop-append-add a (c ∷ b) 1 in
    rw (n, s, front, rest) refl

whole : (c : ℕ) (t : List ℕ) (n : ℕ) → n < length t → get_or t n 0 ≡ c → take n t ++ c ∷ drop (n + 1) t ≡ t
whole c t n h e =
    let d : drop n t ≡ get_or t n 0 ∷ drop (suc n) t = drop-cons t n 0 h in
    let k : suc n ≡ n + 1 = omega arith in
    sym (ap (λ q. take n t ++ q) (d ∙ ap (λ y. y ∷ drop (suc n) t) e ∙ ap (λ k. c ∷ drop k t) k)) ∙ take-append-drop n t

pub cut_sound : (c : ℕ) (t : List ℕ) (p : List ℕ × List ℕ) → cut_at c t ≡ Some p → p.0 ++ c ∷ p.1 ≡ t
unfolding cut_at
cut_sound c t p e =
    let m = map_some (λ n. (take n t, drop (n + 1) t)) (position (λ x. x == c) t) p e in
    let at = position-Some (λ x. x == c) t m.0 0 m.1 in
    let P : List ℕ × List ℕ → Type 0 = λ q. q.0 ++ c ∷ q.1 ≡ t in
    subst P m.2 (whole c t m.0 at.0 (eqb-true _ _ at.1))

-- ---- two pieces

module _ {A B : Type 0} (c : ℕ) (f : List ℕ → Option A) (g : List ℕ → Option B) (tf : A → List ℕ) (tg : B → List ℕ) (kf : A → Bool) (kg : B → Bool) where
  both_sound : Reads f tf kf → Reads g tg kg → (t : List ℕ) (q : A × B) → both c f g t ≡ Some q →
      (tf q.0 ++ c ∷ tg q.1 ≡ t) × ((kf q.0 && kg q.1) ≡ true)
  both_sound rf rg t q e =
      let cut = then_some (λ p. paired (f p.0) (g p.1)) (cut_at c t) q e in
      let one = then_some (λ a. option_map (λ b. (a, b)) (g cut.0.1)) (f cut.0.0) q cut.2 in
      let two = map_some (λ b. (one.0, b)) (g cut.0.1) q one.2 in
      let sf = rf.sound cut.0.0 one.0 one.1 in
      let sg = rg.sound cut.0.1 two.0 two.1 in
      let P : A × B → Type 0 = λ q. (tf q.0 ++ c ∷ tg q.1 ≡ t) × ((kf q.0 && kg q.1) ≡ true) in
      subst P two.2 (
        ap (λ s. s ++ c ∷ tg two.0) sf.0 ∙ ap (λ s. cut.0.0 ++ c ∷ s) sg.0 ∙ cut_sound c t cut.0 cut.1,
        and_from _ _ sf.1 sg.1,
      )

  both_complete : Reads f tf kf → Reads g tg kg → ((a : A) → kf a ≡ true → is_clear c (tf a) ≡ true) → (q : A × B) →
      (kf q.0 && kg q.1) ≡ true → both c f g (tf q.0 ++ c ∷ tg q.1) ≡ Some q
  both_complete rf rg clear q h =
      let k = and_parts _ _ h in
      let cut = cut_found c (tf q.0) (tg q.1) (clear q.0 k.0) in
      let one = rf.complete q.0 k.0 in
      let two = rg.complete q.1 k.1 in
      ap (option_and_then (λ p. paired (f p.0) (g p.1))) cut
      ∙ ap (λ z. paired z (g (tg q.1))) one ∙ ap (option_map (λ b. (q.0, b))) two

  pub reads_both : Reads f tf kf → Reads g tg kg → ((a : A) → kf a ≡ true → is_clear c (tf a) ≡ true) →
      Reads (both c f g) (λ q. tf q.0 ++ c ∷ tg q.1) (λ q. kf q.0 && kg q.1)
  reads_both rf rg clear = record { sound = both_sound rf rg; complete = both_complete rf rg clear }

-- ---- a piece that a c ends

empty_some : {A : Type 0} (cs : List ℕ) (o : Option A) (a : A) → if_empty cs o ≡ Some a → (cs ≡ []) × (o ≡ Some a)
empty_some [] o a e = (refl, e)
empty_some (c ∷ cs) o a e = cc

module _ {A : Type 0} (c : ℕ) (f : List ℕ → Option A) (tf : A → List ℕ) (kf : A → Bool) where
  ended_sound : Reads f tf kf → (t : List ℕ) (a : A) → ended c f t ≡ Some a → (tf a ++ c ∷ [] ≡ t) × (kf a ≡ true)
  ended_sound rf t a e =
      let cut = then_some (λ p. if_empty p.1 (f p.0)) (cut_at c t) a e in
      let m = empty_some cut.0.1 (f cut.0.0) a cut.2 in
      let s = rf.sound cut.0.0 a m.1 in
      (ap (λ q. q ++ c ∷ []) s.0 ∙ sym (ap (λ q. cut.0.0 ++ c ∷ q) m.0) ∙ cut_sound c t cut.0 cut.1, s.1)

  pub reads_ended : Reads f tf kf → ((a : A) → kf a ≡ true → is_clear c (tf a) ≡ true) → Reads (ended c f) (λ a. tf a ++ c ∷ []) kf
  reads_ended rf clear = record {
    sound = ended_sound rf;
    complete = λ a h. ap (option_and_then (λ p. if_empty p.1 (f p.0))) (cut_found c (tf a) [] (clear a h)) ∙ rf.complete a h;
  }

-- ---- a piece behind a c

pub behind_sound : (c : ℕ) (t rest : List ℕ) → behind c t ≡ Some rest → c ∷ rest ≡ t
behind_sound c [] rest e = cc
behind_sound c (x ∷ xs) rest e = behind_by (if_some (x == c) (Some xs) None rest e) where
  behind_by : (((x == c) ≡ true) × (Some xs ≡ Some rest)) ⊎ (((x == c) ≡ false) × (None ≡ Some rest)) → c ∷ rest ≡ x ∷ xs
  behind_by (inl h) = let e : x ≡ c = eqb-true x c h.0 in let r = h.1 in cc
  behind_by (inr h) = let r = h.1 in cc

pub behind_found : (c : ℕ) (rest : List ℕ) → behind c (c ∷ rest) ≡ Some rest
behind_found c rest = cond-true (c == c) _ _ (eq-eqb c c refl)

pub behind_none : (c x : ℕ) (xs : List ℕ) → (x == c) ≡ false → behind c (x ∷ xs) ≡ None
behind_none c x xs h = cond-false (x == c) _ _ h

module _ {A : Type 0} (c : ℕ) (f : List ℕ → Option A) (tf : A → List ℕ) (kf : A → Bool) where
  behind_piece : Reads f tf kf → (t : List ℕ) (a : A) → option_and_then f (behind c t) ≡ Some a → (c ∷ tf a ≡ t) × (kf a ≡ true)
  behind_piece rf t a e =
      let m = then_some f (behind c t) a e in
      let s = rf.sound m.0 a m.2 in
      (ap (λ q. c ∷ q) s.0 ∙ behind_sound c t m.0 m.1, s.1)

  pub reads_behind : Reads f tf kf → Reads (λ t. option_and_then f (behind c t)) (λ a. c ∷ tf a) kf
  reads_behind rf = record {
    sound = behind_piece rf;
    complete = λ a h. ap (option_and_then f) (behind_found c (tf a)) ∙ rf.complete a h;
  }

-- ---- bytes of one kind

pub clear_by : (p : ℕ → Bool) (c : ℕ) (t : List ℕ) → p c ≡ false → list_all p t ≡ true → is_clear c t ≡ true
clear_by p c [] other h = refl
clear_by p c (x ∷ xs) other h =
    let k = and_parts (p x) (list_all p xs) h in
    and_from _ _ (clear_at (x == c) refl k.0) (clear_by p c xs other k.1)
  where
    clear_at : (b : Bool) → (x == c) ≡ b → p x ≡ true → not b ≡ true
    clear_at false e k = refl
    clear_at true e k = let same : x ≡ c = eqb-true x c e in let l : p x ≡ p c = ap p same in cc

pub clear_append : (c : ℕ) (a b : List ℕ) → is_clear c a ≡ true → is_clear c b ≡ true → is_clear c (a ++ b) ≡ true
clear_append c [] b h k = k
clear_append c (x ∷ a) b h k = let p = and_parts (not (x == c)) (is_clear c a) h in and_from _ _ p.0 (clear_append c a b p.1 k)

-- a reading of what another reading gives, as something else
pair_mapped : {A B C D : Type 0} (h : A → C) (k : B → D) (o : Option A) (q : Option B) →
    paired (option_map h o) (option_map k q) ≡ option_map (λ z. (h z.0, k z.1)) (paired o q)
pair_mapped h k None q = refl
pair_mapped h k (Some a) None = refl
pair_mapped h k (Some a) (Some b) = refl

cut_mapped : {A B C D : Type 0} (f : List ℕ → Option A) (g : List ℕ → Option B) (h : A → C) (k : B → D)
    (f' : List ℕ → Option C) (g' : List ℕ → Option D) → ((t : List ℕ) → f' t ≡ option_map h (f t)) → ((t : List ℕ) → g' t ≡ option_map k (g t)) →
    (o : Option (List ℕ × List ℕ)) → option_and_then (λ p. paired (f' p.0) (g' p.1)) o
    ≡ option_map (λ z. (h z.0, k z.1)) (option_and_then (λ p. paired (f p.0) (g p.1)) o)
cut_mapped f g h k f' g' ef eg None = refl
cut_mapped f g h k f' g' ef eg (Some p) =
    ap (λ z. paired z (g' p.1)) (ef p.0) ∙ ap (λ z. paired (option_map h (f p.0)) z) (eg p.1) ∙ pair_mapped h k (f p.0) (g p.1)

pub both_mapped : {A B C D : Type 0} (c : ℕ) (f : List ℕ → Option A) (g : List ℕ → Option B) (h : A → C) (k : B → D)
    (f' : List ℕ → Option C) (g' : List ℕ → Option D) → ((t : List ℕ) → f' t ≡ option_map h (f t)) → ((t : List ℕ) → g' t ≡ option_map k (g t)) →
    (t : List ℕ) → both c f' g' t ≡ option_map (λ z. (h z.0, k z.1)) (both c f g t)
both_mapped c f g h k f' g' ef eg t = cut_mapped f g h k f' g' ef eg (cut_at c t)
