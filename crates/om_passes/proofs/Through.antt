-- Where the last writer of a register goes, the one before it is the last.
use Rattle.std.proofs.Common.{◌≡◌, inl, inr, ◌≤◌, ◌+◌, ℕ, List, [], ◌∷◌, ◌++◌, Option, Some, None, refl, sym, ap, ◌∙◌, subst, arith}
use Rattle.om_value.specs.declared.value.Place.{Place}
use Rattle.om_prog.specs.Act.{Word}
use Rattle.om_graph.specs.View.{Has}
use Rattle.om_graph.specs.Form.{After, Ordered}
use Rattle.om_graph.specs.Rewritten.{onto_words, each_word}
use Rattle.om_graph.specs.Uses.{Between}
use Rattle.om_graph.proofs.Labels.{append_right}
use Rattle.om_passes.specs.AtPlaces.{gone_at}
use Rattle.om_passes.proofs.LastWriters.{Until, Last}
use Rattle.om_graph.proofs.Ends.{after_apart}
use Rattle.om_passes.proofs.AtPlaces.{each_same, gone_here, gone_else}

until_has : (ws : List Word) (q : Place) (r : ℕ) → Until ws q r → (w : Word) × Has ws w × (w.at ≡ q)
until_has [] q r u = absurd u
until_has (w ∷ ws) q r (inl e) = (w, inl refl, e)
until_has (w ∷ ws) q r (inr u) = let x = until_has ws q r u.1 in (x.0, inr x.1, x.2)

last_user : (ws : List Word) (q : Place) (r : ℕ) (d : Word) → Last ws q r d → (w : Word) × Has ws w × (w.at ≡ q)
last_user [] q r d l = absurd l
last_user (w ∷ ws) q r d (inl l) = let x = until_has ws q r l.2 in (x.0, inr x.1, x.2)
last_user (w ∷ ws) q r d (inr l) = let x = last_user ws q r d l in (x.0, inr x.1, x.2)

pub last_in : (ws : List Word) (q : Place) (r : ℕ) (d : Word) → Last ws q r d → Has ws d
last_in [] q r d l = absurd l
last_in (w ∷ ws) q r d (inl l) = inl l.0
last_in (w ∷ ws) q r d (inr l) = inr (last_in ws q r d l)

no_later : (w : Word) (ws : List Word) (q : Place) → After w ws → w.at ≡ q → (x : Word) × Has ws x × (x.at ≡ q) → ⊥
no_later w ws q a e (x, h, f) = after_apart ws w x a h (f ∙ sym e)

until_no_last : (ws : List Word) (q : Place) (r : ℕ) (d : Word) → Ordered ws → Until ws q r → Last ws q r d → ⊥
until_no_last [] q r d o u l = u
until_no_last (w ∷ ws) q r d o (inl e) (inl l) = no_later w ws q o.0 e (until_has ws q r l.2)
until_no_last (w ∷ ws) q r d o (inl e) (inr l) = no_later w ws q o.0 e (last_user ws q r d l)
until_no_last (w ∷ ws) q r d o (inr u) (inl l) = u.0 l.1
until_no_last (w ∷ ws) q r d o (inr u) (inr l) = until_no_last ws q r d o.1 u.1 l

-- there is one
pub last_one : (ws : List Word) (q : Place) (r : ℕ) (u v : Word) → Ordered ws → Last ws q r u → Last ws q r v → u ≡ v
last_one [] q r u v o l m = absurd l
last_one (w ∷ ws) q r u v o (inl l) (inl m) = sym l.0 ∙ m.0
last_one (w ∷ ws) q r u v o (inl l) (inr m) = absurd (until_no_last ws q r v o.1 l.2 m)
last_one (w ∷ ws) q r u v o (inr l) (inl m) = absurd (until_no_last ws q r u o.1 m.2 l)
last_one (w ∷ ws) q r u v o (inr l) (inr m) = last_one ws q r u v o.1 l m

-- of the words behind one none is at its place
later_stay : (d : Word) (ws : List Word) → After d ws → each_word (gone_at d.at) ws ≡ ws
later_stay d ws a = each_same (gone_at d.at) ws (λ w h. gone_else d.at w (after_apart ws d w a h))

until_through : (ws : List Word) (q : Place) (r : ℕ) (d : Word) → Ordered ws → Last ws q r d → Until (each_word (gone_at d.at) ws) q r → Until ws d.at r
until_through [] q r d o l u = absurd l
until_through (x ∷ xs) q r d o (inl l) u = inl (ap (λ (w : Word). w.at) l.0)
until_through (x ∷ xs) q r d o (inr l) u =
    let e : gone_at d.at x ≡ Some x = gone_else d.at x (λ m. after_apart xs x d o.0 (last_in xs q r d l) (sym m)) in
    by_word (subst (λ (y : Option Word). Until (onto_words y (each_word (gone_at d.at) xs)) q r) e u) (until_through xs q r d o.1 l)
  where
    by_word : Until (x ∷ each_word (gone_at d.at) xs) q r → (Until (each_word (gone_at d.at) xs) q r → Until xs d.at r) → Until (x ∷ xs) d.at r
    by_word (inl m) i = absurd (no_later x xs q o.0 m (last_user xs q r d l))
    by_word (inr m) i = inr (m.0, i m.1)

pub last_through : (ws : List Word) (q : Place) (r : ℕ) (d u : Word) → Ordered ws → Last ws q r d → Last (each_word (gone_at d.at) ws) q r u → Last ws d.at r u
last_through [] q r d u o l m = absurd l
last_through (x ∷ xs) q r d u o (inl l) m =
    let e : gone_at d.at x ≡ None = gone_here d.at x (ap (λ (w : Word). w.at) l.0) in
    let k = subst (λ (y : Option Word). Last (onto_words y (each_word (gone_at d.at) xs)) q r u) e m in
    let same : each_word (gone_at d.at) xs ≡ xs = later_stay d xs (subst (λ (w : Word). After w xs) l.0 o.0) in
    absurd (until_no_last xs q r u o.1 l.2 (subst (λ (ws : List Word). Last ws q r u) same k))
last_through (x ∷ xs) q r d u o (inr l) m =
    let e : gone_at d.at x ≡ Some x = gone_else d.at x (λ k. after_apart xs x d o.0 (last_in xs q r d l) (sym k)) in
    by_word (subst (λ (y : Option Word). Last (onto_words y (each_word (gone_at d.at) xs)) q r u) e m) (last_through xs q r d u o.1 l)
  where
    by_word : Last (x ∷ each_word (gone_at d.at) xs) q r u → (Last (each_word (gone_at d.at) xs) q r u → Last xs d.at r u) → Last (x ∷ xs) d.at r u
    by_word (inl k) i = inl (k.0, k.1, until_through xs q r d o.1 l k.2)
    by_word (inr k) i = inr (i k)

-- ---- order

after_has : (w x : Word) (ws : List Word) → After w ws → Has ws x → x.at.obj ≡ w.at.obj → w.at.off + 4 ≤ x.at.off
after_has w x [] a h e = absurd h
after_has w x (y ∷ ws) a (inl i) e =
    let o = ap (λ (z : Word). z.at.obj) i in
    let f = ap (λ (z : Word). z.at.off) i in
    let l = a.0 (o ∙ e) in
    omega (arith, l, f)
after_has w x (y ∷ ws) a (inr h) e = after_has w x ws a.1 h e

pub between_order : (ws mid : List Word) (a b : Word) → Ordered ws → Between ws a mid b → b.at.obj ≡ a.at.obj → a.at.off + 4 ≤ b.at.off
between_order ws mid a b o s e = in_parts s.0 (subst (λ (l : List Word). Ordered l) s.2 o)
  where
    in_parts : (before : List Word) → Ordered (before ++ a ∷ mid ++ b ∷ s.1) → a.at.off + 4 ≤ b.at.off
    in_parts [] o = after_has a b (mid ++ b ∷ s.1) o.0 (append_right mid (b ∷ s.1) b (inl refl)) e
    in_parts (x ∷ before) o = in_parts before o.1
