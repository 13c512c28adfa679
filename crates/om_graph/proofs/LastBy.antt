-- The last word before a place that writes a register, in a list in order: by the list, and by places.
use Rattle.std.proofs.Common.{◌≡◌, inl, inr, ◌<◌, ◌≤◌, ℕ, ◌+◌, List, [], ◌∷◌, ◌++◌, refl, sym, ap, ◌∙◌, subst, arith}
use Rattle.om_value.specs.declared.value.Place.{Place}
use Rattle.om_prog.specs.Act.{Word}
use Rattle.om_graph.specs.View.{Has}
use Rattle.om_graph.specs.Form.{After, Ordered}
use Rattle.om_graph.specs.Uses.{Between, NoneWrites, LastBy}
use Rattle.om_graph.specs.OfProgram.{IsLastWriter}
use Rattle.om_graph.specs.Laws.{LastWritersByPlaces}

-- ---- words of a list

pub between_user : (ws : List Word) (a : Word) (mid : List Word) (b : Word) → Between ws a mid b → Has ws b
between_user ws a mid b (before, after, e) = subst (λ (l : List Word). Has l b) (sym e) (past before)
  where
    inside : (mid : List Word) → Has (mid ++ b ∷ after) b
    inside [] = inl refl
    inside (x ∷ mid) = inr (inside mid)

    past : (before : List Word) → Has (before ++ a ∷ mid ++ b ∷ after) b
    past [] = inr (inside mid)
    past (x ∷ before) = inr (past before)

pub between_first : (ws : List Word) (a : Word) (mid : List Word) (b : Word) → Between ws a mid b → Has ws a
between_first ws a mid b (before, after, e) = subst (λ (l : List Word). Has l a) (sym e) (past before)
  where
    past : (before : List Word) → Has (before ++ a ∷ mid ++ b ∷ after) a
    past [] = inl refl
    past (x ∷ before) = inr (past before)

pub before : (a x : Word) (xs : List Word) → After a xs → Has xs x → x.at.obj ≡ a.at.obj → a.at.off + 4 ≤ x.at.off
before a x [] o h e = absurd h
before a x (y ∷ ys) o (inl i) e =
    let s = ap (λ (z : Word). z.at.obj) i ∙ e in
    let b = o.0 s in
    let f = ap (λ (z : Word). z.at.off) i in
    omega (arith, b, f)
before a x (y ∷ ys) o (inr h) e = before a x ys o.1 h e

-- a word between two in order stands between them
pub stands_between :
    (pre : List Word) (a : Word) (mid : List Word) (b : Word) (rest : List Word) (w : Word) → Ordered (pre ++ a ∷ mid ++ b ∷ rest) → Has (pre ++ a ∷ mid ++ b ∷ rest) w →
    w.at.obj ≡ a.at.obj → w.at.obj ≡ b.at.obj → a.at.off < w.at.off → w.at.off < b.at.off → Has mid w
stands_between [] a mid b rest w o (inl i) ea eb la lb = let f = ap (λ (z : Word). z.at.off) i in absurd (omega (arith, f, la))
stands_between [] a mid b rest w o (inr h) ea eb la lb = in_mid mid o.1 h
  where
    in_mid : (mid : List Word) → Ordered (mid ++ b ∷ rest) → Has (mid ++ b ∷ rest) w → Has mid w
    in_mid [] o (inl i) = let f = ap (λ (z : Word). z.at.off) i in absurd (omega (arith, f, lb))
    in_mid [] o (inr h) = let l = before b w rest o.0 h eb in absurd (omega (arith, l, lb))
    in_mid (y ∷ ys) o (inl i) = inl i
    in_mid (y ∷ ys) o (inr h) = inr (in_mid ys o.1 h)
stands_between (x ∷ pre) a mid b rest w o (inl i) ea eb la lb =
    let g = ap (λ (z : Word). z.at.obj) i in
    let l = before x a (pre ++ a ∷ mid ++ b ∷ rest) o.0 (has_a pre) (sym ea ∙ sym g) in
    let f = ap (λ (z : Word). z.at.off) i in
    absurd (omega (arith, l, f, la))
  where
    has_a : (pre : List Word) → Has (pre ++ a ∷ mid ++ b ∷ rest) a
    has_a [] = inl refl
    has_a (y ∷ ys) = inr (has_a ys)
stands_between (x ∷ pre) a mid b rest w o (inr h) ea eb la lb = stands_between pre a mid b rest w o.1 h ea eb la lb

-- the words between two of a list in order are behind the first and before the second
pub between_order :
    (pre : List Word) (a : Word) (mid : List Word) (b : Word) (rest : List Word) (w : Word) → Ordered (pre ++ a ∷ mid ++ b ∷ rest) → Has mid w → w.at.obj ≡ a.at.obj → w.at.obj ≡ b.at.obj →
    (a.at.off < w.at.off) × (w.at.off < b.at.off)
between_order (x ∷ pre) a mid b rest w o h ea eb = between_order pre a mid b rest w o.1 h ea eb
between_order [] a mid b rest w o h ea eb =
    let l = before a w (mid ++ b ∷ rest) o.0 (on_left mid h) ea in
    let k = up mid o.1 h in
    (omega (arith, l), omega (arith, k))
  where
    on_left : (xs : List Word) → Has xs w → Has (xs ++ b ∷ rest) w
    on_left [] h = absurd h
    on_left (y ∷ ys) (inl i) = inl i
    on_left (y ∷ ys) (inr h) = inr (on_left ys h)

    has_b : (xs : List Word) → Has (xs ++ b ∷ rest) b
    has_b [] = inl refl
    has_b (y ∷ ys) = inr (has_b ys)

    up : (xs : List Word) → Ordered (xs ++ b ∷ rest) → Has xs w → w.at.off + 4 ≤ b.at.off
    up [] o h = absurd h
    up (y ∷ ys) o (inl i) =
        let g = ap (λ (z : Word). z.at.obj) i in
        let l = before y b (ys ++ b ∷ rest) o.0 (has_b ys) (sym eb ∙ sym g) in
        let f = ap (λ (z : Word). z.at.off) i in
        omega (arith, l, f)
    up (y ∷ ys) o (inr h) = up ys o.1 h

module _ (obj : ℕ) (vs : List Word) (ordered : Ordered vs) (objects : (w : Word) → Has vs w → w.at.obj ≡ obj) where
  pub by_places : (q : Place) (r : ℕ) (w : Word) → IsLastWriter vs q r w → LastBy vs q r w
  by_places q r w (mid, user, at, (pre, rest, e), none, writes) =
      let hw = between_first vs w mid user (pre, rest, e) in
      let hu = between_user vs w mid user (pre, rest, e) in
      let ow = objects w hw in
      let ou = objects user hu in
      let f = ap (λ (x : Place). x.off) at in
      let b = before_user pre (subst Ordered e ordered) (ow ∙ sym ou) in
      record {
        among = hw;
        earlier = omega (arith, b, f);
        writes = writes;
        none = λ y hy l m a.
            let oy = objects y hy in
            none y (stands_between pre w mid user rest y (subst Ordered e ordered) (subst (λ (l : List Word). Has l y) e hy) (oy ∙ sym ow) (oy ∙ sym ou) l (omega (arith, m, f))) a;
      }
    where
      has_user : (xs : List Word) → Has (xs ++ user ∷ rest) user
      has_user [] = inl refl
      has_user (x ∷ xs) = inr (has_user xs)

      before_user : (xs : List Word) → Ordered (xs ++ w ∷ mid ++ user ∷ rest) → w.at.obj ≡ user.at.obj → w.at.off + 4 ≤ user.at.off
      before_user [] o e = before w user (mid ++ user ∷ rest) o.0 (has_user mid) (sym e)
      before_user (x ∷ xs) o e = before_user xs o.1 e

  -- two words of a list in order, with what is between
  between : (xs : List Word) (w user : Word) → Ordered xs → Has xs w → Has xs user → w.at.obj ≡ user.at.obj → w.at.off < user.at.off → (mid : List Word) × Between xs w mid user
  between [] w user o h k e l = absurd h
  between (x ∷ xs) w user o (inl i) (inl j) e l =
      let f = ap (λ (z : Word). z.at.off) (sym i ∙ j) in
      absurd (omega (arith, f, l))
  between (x ∷ xs) w user o (inr h) (inl j) e l =
      let g = ap (λ (z : Word). z.at.obj) j in
      let b = before x w xs o.0 h (e ∙ sym g) in
      let f = ap (λ (z : Word). z.at.off) j in
      absurd (omega (arith, f, b, l))
  between (x ∷ xs) w user o (inl i) (inr k) e l =
      let s = split xs k in
      (s.0, ([], s.1, ap (λ (z : Word). z ∷ xs) i ∙ ap (λ (zs : List Word). w ∷ zs) s.2))
    where
      split : (zs : List Word) → Has zs user → (mid rest : List Word) × (zs ≡ mid ++ user ∷ rest)
      split [] h = absurd h
      split (z ∷ zs) (inl j) = ([], zs, ap (λ (y : Word). y ∷ zs) j)
      split (z ∷ zs) (inr h) = let t = split zs h in (z ∷ t.0, t.1, ap (λ (ys : List Word). z ∷ ys) t.2)
  between (x ∷ xs) w user o (inr h) (inr k) e l =
      let t = between xs w user o.1 h k e l in
      (t.0, (x ∷ t.1.0, t.1.1, ap (λ (ys : List Word). x ∷ ys) t.1.2))

  pub of_places : (q : Place) (r : ℕ) (w user : Word) → Has vs user → user.at ≡ q → LastBy vs q r w → IsLastWriter vs q r w
  of_places q r w user hu at b =
      let f = ap (λ (x : Place). x.off) at in
      let l = b.earlier in
      let m = between vs w user ordered b.among hu (objects w b.among ∙ sym (objects user hu)) (omega (arith, l, f)) in
      (m.0, user, at, m.1, none m.0 m.1 f, b.writes)
    where
      none : (mid : List Word) → Between vs w mid user → user.at.off ≡ q.off → NoneWrites r mid
      none mid (pre, rest, e) f y hy a =
          let hv : Has vs y = subst (λ (l : List Word). Has l y) (sym e) (in_all pre) in
          let oy = objects y hv in
          let t = between_order pre w mid user rest y (subst Ordered e ordered) hy (oy ∙ sym (objects w b.among)) (oy ∙ sym (objects user hu)) in
          let t1 = t.1 in
          b.none y hv t.0 (omega (arith, t1, f)) a
        where
          in_mid : (xs : List Word) → Has xs y → Has (xs ++ user ∷ rest) y
          in_mid [] h = absurd h
          in_mid (x ∷ xs) (inl i) = inl i
          in_mid (x ∷ xs) (inr h) = inr (in_mid xs h)

          in_all : (xs : List Word) → Has (xs ++ w ∷ mid ++ user ∷ rest) y
          in_all [] = inr (in_mid mid hy)
          in_all (x ∷ xs) = inr (in_all xs)

pub last_writers_by_places : LastWritersByPlaces
last_writers_by_places = record {
  by_places = λ obj ws ordered objects q r w l. by_places obj ws ordered objects q r w l;
  of_places = λ obj ws ordered objects q r w user h at b. of_places obj ws ordered objects q r w user h at b;
}
