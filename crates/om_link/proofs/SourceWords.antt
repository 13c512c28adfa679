-- The image words of a program's words, and lists by their elements.
use Rattle.std.proofs.Common.{◌≡◌, ◌⊎◌, inl, inr, ℕ, zero, suc, ◌+◌, ◌*◌, List, [], ◌∷◌, length, Some, None, refl, sym, ap, ◌∙◌, subst, arith}
use Rattle.std.specs.Prelude.{map, pos, ◌+ℤ◌, ◌*ℤ◌, ℤ, slice_get}
use Rattle.std.proofs.lemmas.Int.{ints}
use Rattle.om_isa.specs.declared.instr.Instr.{Instr}
use Rattle.om_isa.specs.declared.instr.Instr.TheVariants.{Mem, Jump, Branch, Alu, Cmov, Misc, Fnop, Halt, Callsys}
use Rattle.om_isa.specs.declared.instr.MemOp.TheVariants.{Lda, Ldah, Ldq}
use Rattle.om_isa.specs.Words.{Encodes, word_of}
use Rattle.om_value.specs.declared.value.Place.{Place}
use Rattle.om_value.specs.declared.value.Target.{Target}
use Rattle.om_prog.specs.declared.item.Role.{Role}
use Rattle.om_prog.specs.declared.item.Role.TheVariants as role
use Rattle.om_prog.specs.Act.{Act, Plain, Lit, GpHi, GpLo, To, AddrLda, AddrHi, UseLo, UseGp, Wrong, Word}
use Rattle.om_prog.specs.View.{ProgramView}
use Rattle.om_prog.specs.Script.{act_of}
use Rattle.om_graph.specs.View.{GraphView, Has}
use Rattle.om_graph.proofs.OfProgram.{same_some}
use Rattle.om_image.specs.declared.map.MapObj.{MapObj}
use Rattle.om_layout.specs.Layout.{LayoutView, TableAt, table_at, gp_of, start_at, code_at}
use Rattle.om_layout.specs.Order.{IsDataLayout, targets_of}
use Rattle.om_layout.proofs.FewSlots.{NoTwice, firsts_once}
use Rattle.om_encode.specs.Halves.{from_base}
use Rattle.om_encode.specs.Fields.{HasForm, HasSlot, Splits, IsBaseOf}
use Rattle.om_encode.proofs.Valid.{has_at}

-- ---- image words

-- what the words of a program are, before any is rewritten
abbrev IsSource : Act → Type 0
IsSource (AddrLda ra rb t) = ⊥
IsSource (AddrHi ra rb t) = ⊥
IsSource (UseLo i hi t) = ⊥
IsSource (UseGp i gp t) = ⊥
IsSource _ = Unit {0}

pub of_item : (r : Role) (i : Instr) → IsSource (act_of r i)
of_item role.Plain (Mem o ra rb d) = tt
of_item role.Plain (Jump k ra rb h) = tt
of_item role.Plain (Branch o ra d) = tt
of_item role.Plain (Alu o ra rb rc) = tt
of_item role.Plain (Cmov k ra rb rc) = tt
of_item role.Plain (Misc o ra rb) = tt
of_item role.Plain Fnop = tt
of_item role.Plain Halt = tt
of_item role.Plain Callsys = tt
of_item (role.Lit t) (Mem o ra rb d) = tt
of_item (role.Lit t) (Jump k ra rb h) = tt
of_item (role.Lit t) (Branch o ra d) = tt
of_item (role.Lit t) (Alu o ra rb rc) = tt
of_item (role.Lit t) (Cmov k ra rb rc) = tt
of_item (role.Lit t) (Misc o ra rb) = tt
of_item (role.Lit t) Fnop = tt
of_item (role.Lit t) Halt = tt
of_item (role.Lit t) Callsys = tt
of_item (role.GpHi base) (Mem o ra rb d) = tt
of_item (role.GpHi base) (Jump k ra rb h) = tt
of_item (role.GpHi base) (Branch o ra d) = tt
of_item (role.GpHi base) (Alu o ra rb rc) = tt
of_item (role.GpHi base) (Cmov k ra rb rc) = tt
of_item (role.GpHi base) (Misc o ra rb) = tt
of_item (role.GpHi base) Fnop = tt
of_item (role.GpHi base) Halt = tt
of_item (role.GpHi base) Callsys = tt
of_item (role.GpLo hi) (Mem o ra rb d) = tt
of_item (role.GpLo hi) (Jump k ra rb h) = tt
of_item (role.GpLo hi) (Branch o ra d) = tt
of_item (role.GpLo hi) (Alu o ra rb rc) = tt
of_item (role.GpLo hi) (Cmov k ra rb rc) = tt
of_item (role.GpLo hi) (Misc o ra rb) = tt
of_item (role.GpLo hi) Fnop = tt
of_item (role.GpLo hi) Halt = tt
of_item (role.GpLo hi) Callsys = tt
of_item (role.To q) (Mem o ra rb d) = tt
of_item (role.To q) (Jump k ra rb h) = tt
of_item (role.To q) (Branch o ra d) = tt
of_item (role.To q) (Alu o ra rb rc) = tt
of_item (role.To q) (Cmov k ra rb rc) = tt
of_item (role.To q) (Misc o ra rb) = tt
of_item (role.To q) Fnop = tt
of_item (role.To q) Halt = tt
of_item (role.To q) Callsys = tt

one_word : (x y : ℕ) (i j : Instr) → Encodes x i → Encodes y j → i ≡ j → x ≡ y
one_word x y i j a b e = a.word ∙ ap word_of e ∙ sym b.word

one_split : (z hi lo h k : ℤ) → Splits z hi lo → Splits z h k → (hi ≡ h) × (lo ≡ k)
one_split z hi lo h k a b =
    let s = a.sum in
    let t = b.sum in
    let u = a.low in
    let v = b.low in
    (omega (arith, ints, s, t, u, v), omega (arith, ints, s, t, u, v))

one_distance : (n m : ℕ) (c d : ℤ) → pos n +ℤ c ≡ pos m → pos n +ℤ d ≡ pos m → c ≡ d
one_distance n m c d a b = omega (arith, ints, a, b)

one_branch : (n m : ℕ) (c d : ℤ) → pos n +ℤ (pos 4 *ℤ c) ≡ pos m → pos n +ℤ (pos 4 *ℤ d) ≡ pos m → c ≡ d
one_branch n m c d a b = omega (arith, ints, a, b)

one_base : (p : ProgramView) (at a b : Place) → IsBaseOf p at a → IsBaseOf p at b → a ≡ b
one_base p at a b x y = bases x.ra x.rb y.ra y.rb (ap (λ (w : Word). w.act) (same_some (sym x.first ∙ y.first)))
  where
    bases : (ra rb rc rd : ℕ) → GpHi ra rb a ≡ GpHi rc rd b → a ≡ b
    bases ra rb rc rd e = cc

-- ---- slots

index_once : (xs : List Target) → NoTwice xs → (j k : ℕ) (t : Target) → slice_get xs j ≡ Some t → slice_get xs k ≡ Some t → j ≡ k
index_once [] n j k t e f = cc
index_once (x ∷ xs) n zero zero t e f = refl
index_once (x ∷ xs) n zero (suc k) t e f = let s : x ≡ t = cc in absurd (n.0 (subst (Has xs) (sym s) (has_at xs k t f)))
index_once (x ∷ xs) n (suc j) zero t e f = let s : x ≡ t = cc in absurd (n.0 (subst (Has xs) (sym s) (has_at xs j t e)))
index_once (x ∷ xs) n (suc j) (suc k) t e f = ap suc (index_once xs n.1 j k t e f)

module _ (p : ProgramView) (g h : GraphView) (l : LayoutView) (lay : IsDataLayout p g l) (at : Place) where
  one_slot : (j k : ℕ) (t : Target) → HasSlot p g l at j t → HasSlot p h l at k t → j ≡ k
  one_slot j k t a b =
      let s : a.0 ≡ b.0 = same_some (sym a.1 ∙ b.1) in
      let once : NoTwice a.0.slots = subst NoTwice (sym (lay.slots (table_at l at.obj) a.0 a.1)) (firsts_once [] (targets_of g (table_at l at.obj)) tt) in
      index_once a.0.slots once j k t a.2 (ap (λ (x : TableAt). slice_get x.slots k) s ∙ b.2)

  -- the word of a program has one image word
  pub one_form : (a : Act) (x y : ℕ) → IsSource a → HasForm p g l at a x → HasForm p h l at a y → x ≡ y
  one_form (Plain i) x y s a b = one_word x y i i a b refl
  one_form (Lit ra rb t) x y s a b =
      let j = one_slot a.1 b.1 t a.3 b.3 in
      let e : pos (gp_of l at.obj) +ℤ b.0 ≡ pos (start_at l (table_at l at.obj) + 8 * a.1) =
      b.4 ∙ ap (λ (n : ℕ). pos (start_at l (table_at l at.obj) + 8 * n)) (sym j) in
      one_word x y (Mem Ldq ra rb a.0) (Mem Ldq ra rb b.0) a.2 b.2 (ap (Mem Ldq ra rb) (one_distance (gp_of l at.obj) _ a.0 b.0 a.4 e))
  one_form (GpHi ra rb base) x y s a b =
      one_word x y (Mem Ldah ra rb a.0) (Mem Ldah ra rb b.0) a.2 b.2 (ap (Mem Ldah ra rb) (one_split (from_base l at.obj base) a.0 a.1 b.0 b.1 a.3 b.3).0)
  one_form (GpLo ra rb first) x y s a b =
      let q = one_base p first a.0 b.0 a.5 b.5 in
      let t : Splits (from_base l at.obj a.0) b.1 b.2 = subst (λ (z : Place). Splits (from_base l at.obj z) b.1 b.2) (sym q) b.4 in
      one_word x y (Mem Lda ra rb a.2) (Mem Lda ra rb b.2) a.3 b.3 (ap (Mem Lda ra rb) (one_split (from_base l at.obj a.0) a.1 a.2 b.1 b.2 a.4 t).1)
  one_form (To op ra q) x y s a b =
      one_word x y (Branch op ra a.0) (Branch op ra b.0) a.1 b.1 (ap (Branch op ra) (one_branch (code_at l at + 4) (code_at l q) a.0 b.0 a.2 b.2))
  one_form (AddrLda ra rb t) x y s a b = absurd s
  one_form (AddrHi ra rb t) x y s a b = absurd s
  one_form (UseLo i hi t) x y s a b = absurd s
  one_form (UseGp i gp t) x y s a b = absurd s
  one_form Wrong x y s a b = absurd a

-- ---- lists

pub same_list : {A : Type 0} (xs ys : List A) → length xs ≡ length ys → ((k : ℕ) (x y : A) → slice_get xs k ≡ Some x → slice_get ys k ≡ Some y → x ≡ y) → xs ≡ ys
same_list [] [] n f = refl
same_list [] (y ∷ ys) n f = absurd (omega (arith, n))
same_list (x ∷ xs) [] n f = absurd (omega (arith, n))
same_list (x ∷ xs) (y ∷ ys) n f =
    ap (λ z. z ∷ xs) (f 0 x y refl refl) ∙ ap (λ zs. y ∷ zs) (same_list xs ys (omega (arith, n)) (λ k a b e g. f (suc k) a b e g))

pub same_objects : (xs ys : List MapObj) → map (λ o. o.words) xs ≡ map (λ o. o.words) ys → map (λ o. o.table) xs ≡ map (λ o. o.table) ys → xs ≡ ys
same_objects [] [] e f = refl
same_objects [] (y ∷ ys) e f = cc
same_objects (x ∷ xs) [] e f = cc
same_objects (x ∷ xs) (y ∷ ys) e f =
    let a : x.words ≡ y.words = cc in
    let b : x.table ≡ y.table = cc in
    let c : map (λ (o : MapObj). o.words) xs ≡ map (λ (o : MapObj). o.words) ys = cc in
    let d : map (λ (o : MapObj). o.table) xs ≡ map (λ (o : MapObj). o.table) ys = cc in
    let s : x ≡ y =
    ap (λ (n : ℕ). let o : MapObj = record { words = n; table = x.table } in o) a ∙ ap (λ (n : ℕ). let o : MapObj = record { words = y.words; table = n } in o) b in
    ap (λ (z : MapObj). z ∷ xs) s ∙ ap (λ (zs : List MapObj). y ∷ zs) (same_objects xs ys c d)

-- the first of a list's elements of which something holds, if there is one
pub some_or_none :
    {A : Type 0} (P : A → Type 0) → ((x : A) → P x ⊎ (P x → ⊥)) → (xs : List A) →
    ((k : ℕ) × (x : A) × (slice_get xs k ≡ Some x) × P x) ⊎ ((k : ℕ) (x : A) → slice_get xs k ≡ Some x → P x → ⊥)
some_or_none {A = A} P test [] = inr (λ k x e h. none k x e)
  where
    none : (k : ℕ) (x : A) → slice_get [] k ≡ Some x → ⊥
    none k x e = cc
some_or_none {A = A} P test (y ∷ ys) = by_test (test y) (some_or_none P test ys)
  where
    by_test :
        P y ⊎ (P y → ⊥) → ((k : ℕ) × (x : A) × (slice_get ys k ≡ Some x) × P x) ⊎ ((k : ℕ) (x : A) → slice_get ys k ≡ Some x → P x → ⊥) →
        ((k : ℕ) × (x : A) × (slice_get (y ∷ ys) k ≡ Some x) × P x) ⊎ ((k : ℕ) (x : A) → slice_get (y ∷ ys) k ≡ Some x → P x → ⊥)
    by_test (inl h) r = inl (0, y, refl, h)
    by_test (inr n) (inl r) = inl (suc r.0, r.1, r.2, r.3)
    by_test (inr n) (inr r) = inr each
      where
        each : (k : ℕ) (x : A) → slice_get (y ∷ ys) k ≡ Some x → P x → ⊥
        each zero x e h = let s : y ≡ x = cc in n (subst P (sym s) h)
        each (suc k) x e h = r k x e h
