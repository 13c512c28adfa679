-- The pairs of a program: each half has its other half.
use Rattle.om_passes.proofs.Sources.{role_fits, high_fits, both, some_item}
use Rattle.std.proofs.Common.{◌≡◌, ◌⊎◌, inl, inr, ◌<◌, ◌+◌, ◌*◌, ◌/◌, ◌%◌, ◌==◌, ◌&&◌, ℕ, suc, Bool, true, false, cond, List, [], ◌∷◌, Option, Some, None, refl, sym, ap, ◌∙◌, subst, arith}
use Rattle.std.specs.List.{fold}
use Rattle.std.specs.Prelude.{count_by, slice_get}
use Rattle.std.proofs.lemmas.Bool.{true≢false, eqb-true, eq-eqb}
use Rattle.om_isa.specs.declared.instr.MemOp.TheVariants.{Lda, Ldah, Ldbu, LdqU, Ldwu, Stw, Stb, StqU, Ldl, Ldq, Stl, Stq}
use Rattle.om_isa.specs.declared.instr.Instr.{Instr}
use Rattle.om_isa.specs.declared.instr.Instr.TheVariants.{Mem, Jump, Branch, Alu, Cmov, Misc, Fnop, Halt, Callsys}
use Rattle.om_value.specs.declared.value.Place.{Place}
use Rattle.om_prog.specs.declared.item.Role.{Role}
use Rattle.om_prog.specs.declared.item.Role.TheVariants as role
use Rattle.om_prog.specs.declared.item.Item.{Item}
use Rattle.om_prog.specs.Act.{Act, Word}
use Rattle.om_prog.specs.View.{ProgramView, item_at, is_word}
use Rattle.om_prog.specs.Script.{act_of, program_fetch}
use Rattle.om_prog.specs.Valid.{IsProgram, fits, is_low_of, names_high, is_high, is_high_role}
use Rattle.om_graph.specs.Landing.{are_halves, of_role, is_high_half, is_low_half}
use Rattle.om_graph.proofs.Labels.{self_eq}
use Rattle.om_thorough.specs.Thorough.{is_half}

-- what is counted is there
abbrev Found : (Item → Bool) → List Item → Type 0
Found f xs = (k : ℕ) × (x : Item) × (slice_get xs k ≡ Some x) × (f x ≡ true)

counts_up : (f : Item → Bool) (n : ℕ) (xs : List Item) → n < fold (λ a x. a + cond (f x) 1 0) n xs → Found f xs
counts_up f n [] h = absurd (omega (arith, h))
counts_up f n (x ∷ xs) h = by_test (f x) refl h (counts_up f n xs)
  where
    by_test : (b : Bool) → f x ≡ b → n < fold (λ a x. a + cond (f x) 1 0) (n + cond b 1 0) xs → (n < fold (λ a x. a + cond (f x) 1 0) n xs → Found f xs) → Found f (x ∷ xs)
    by_test true t h i = (0, x, refl, t)
    by_test false t h i =
        let e : n + 0 ≡ n = omega arith in
        let r = i (subst (λ (m : ℕ). n < fold (λ a x. a + cond (f x) 1 0) m xs) e h) in
        (suc r.0, r.1, r.2, r.3)

counted_there : (f : Item → Bool) (xs : List Item) → (count_by f xs == 1) ≡ true → Found f xs
counted_there f xs e = counts_up f 0 xs (let n = eqb-true (count_by f xs) 1 e in subst (λ (m : ℕ). 0 < m) (sym n) (omega arith))

module _ (p : ProgramView) (prog : IsProgram p) where
  item_get : (obj k : ℕ) (text : List Item) (item : Item) → slice_get p.texts obj ≡ Some text → slice_get text k ≡ Some item → item_at p (record { obj = obj; off = 4 * k }) ≡ Some item
  item_get obj k text item e f =
      let whole : (4 * k % 4 == 0) ≡ true = eq-eqb (4 * k % 4) 0 (omega arith) in
      let part : 4 * k / 4 ≡ k = omega arith in
      rw (whole, e, part, f) refl

  low_fits : (text : List Item) (q hi : Place) (i : Instr) → fits p text q (role.GpLo hi) i ≡ true → ((hi.obj == q.obj) && is_high (item_at p hi)) ≡ true
  low_fits text q hi (Mem Lda ra rb d) h = h
  low_fits text q hi (Mem Ldah ra rb d) h = cc
  low_fits text q hi (Mem Ldbu ra rb d) h = cc
  low_fits text q hi (Mem LdqU ra rb d) h = cc
  low_fits text q hi (Mem Ldwu ra rb d) h = cc
  low_fits text q hi (Mem Stw ra rb d) h = cc
  low_fits text q hi (Mem Stb ra rb d) h = cc
  low_fits text q hi (Mem StqU ra rb d) h = cc
  low_fits text q hi (Mem Ldl ra rb d) h = cc
  low_fits text q hi (Mem Ldq ra rb d) h = cc
  low_fits text q hi (Mem Stl ra rb d) h = cc
  low_fits text q hi (Mem Stq ra rb d) h = cc
  low_fits text q hi (Jump k ra rb d) h = cc
  low_fits text q hi (Branch o ra d) h = cc
  low_fits text q hi (Alu o ra rb rc) h = cc
  low_fits text q hi (Cmov k ra rb rc) h = cc
  low_fits text q hi (Misc o ra rb) h = cc
  low_fits text q hi Fnop h = cc
  low_fits text q hi Halt h = cc
  low_fits text q hi Callsys h = cc

  -- the role of a half
  abbrev IsHalfOf : Role → Act → Type 0
  IsHalfOf r a = ((base : Place) × (r ≡ role.GpHi base)) ⊎ ((hi : Place) × (r ≡ role.GpLo hi))

  half_role : (r : Role) (i : Instr) → is_half (act_of r i) ≡ true → IsHalfOf r (act_of r i)
  half_role role.Plain i h = absurd (true≢false (sym h))
  half_role (role.GpHi base) i h = inl (base, refl)
  half_role (role.GpLo hi) i h = inr (hi, refl)
  half_role (role.Lit t) (Mem o ra rb d) h = absurd (true≢false (sym h))
  half_role (role.Lit t) (Jump k ra rb d) h = absurd (true≢false (sym h))
  half_role (role.Lit t) (Branch o ra d) h = absurd (true≢false (sym h))
  half_role (role.Lit t) (Alu o ra rb rc) h = absurd (true≢false (sym h))
  half_role (role.Lit t) (Cmov k ra rb rc) h = absurd (true≢false (sym h))
  half_role (role.Lit t) (Misc o ra rb) h = absurd (true≢false (sym h))
  half_role (role.Lit t) Fnop h = absurd (true≢false (sym h))
  half_role (role.Lit t) Halt h = absurd (true≢false (sym h))
  half_role (role.Lit t) Callsys h = absurd (true≢false (sym h))
  half_role (role.To q) (Mem o ra rb d) h = absurd (true≢false (sym h))
  half_role (role.To q) (Jump k ra rb d) h = absurd (true≢false (sym h))
  half_role (role.To q) (Branch o ra d) h = absurd (true≢false (sym h))
  half_role (role.To q) (Alu o ra rb rc) h = absurd (true≢false (sym h))
  half_role (role.To q) (Cmov k ra rb rc) h = absurd (true≢false (sym h))
  half_role (role.To q) (Misc o ra rb) h = absurd (true≢false (sym h))
  half_role (role.To q) Fnop h = absurd (true≢false (sym h))
  half_role (role.To q) Halt h = absurd (true≢false (sym h))
  half_role (role.To q) Callsys h = absurd (true≢false (sym h))

  joined : (hi lo : Place) (a b : Item) → item_at p hi ≡ Some a → item_at p lo ≡ Some b → is_high_half a.role ≡ true → is_low_half hi b.role ≡ true → are_halves p hi lo ≡ true
  joined hi lo a b e f h l =
      ap (λ (o : Option Item). of_role is_high_half o && of_role (is_low_half hi) (item_at p lo)) e
      ∙ ap (λ (o : Option Item). is_high_half a.role && of_role (is_low_half hi) o) f ∙ ap (λ (t : Bool). t && is_low_half hi b.role) h ∙ l

  low_named : (hi : Place) (r : Role) → names_high hi r ≡ true → is_low_half hi r ≡ true
  low_named hi (role.GpLo q) h = h
  low_named hi role.Plain h = cc
  low_named hi (role.Lit t) h = cc
  low_named hi (role.GpHi base) h = cc
  low_named hi (role.To q) h = cc

  -- the pair of a half at a place
  pub record PairOf (q : Place) : Type 0 where
    pub hi : Place
    pub lo : Place
    pub halves : are_halves p hi lo ≡ true
    pub one : (q ≡ hi) ⊎ (q ≡ lo)

  high_named : (o : Option Item) → is_high o ≡ true → (a : Item) × (o ≡ Some a) × (is_high_half a.role ≡ true)
  high_named None h = cc
  high_named (Some a) h = (a, refl, by_role a.role h)
    where
      by_role : (r : Role) → is_high_role r ≡ true → is_high_half r ≡ true
      by_role (role.GpHi base) h = refl
      by_role role.Plain h = cc
      by_role (role.Lit t) h = cc
      by_role (role.GpLo q) h = cc
      by_role (role.To q) h = cc

  -- with whether the half is a high one
  pub high_pair : (q base : Place) (item : Item) → item_at p q ≡ Some item → item.role ≡ role.GpHi base → (lo : Place) × (are_halves p q lo ≡ true)
  high_pair q base item e r =
      let t = role_fits p prog q item e in
      let f = high_fits p prog t.0 q base item.instr (subst (λ (x : Role). fits p t.0 q x item.instr ≡ true) r t.2) in
      let n = counted_there (is_low_of q) t.0 (both p prog (is_word p base) _ f).1 in
      let lo : Place = record { obj = q.obj; off = 4 * n.0 } in
      (lo, joined q lo item n.1 e (item_get q.obj n.0 t.0 n.1 t.1 n.2) (ap is_high_half r) (low_named q n.1.role n.3))

  pub low_pair : (q hi : Place) (item : Item) → item_at p q ≡ Some item → item.role ≡ role.GpLo hi → are_halves p hi q ≡ true
  low_pair q hi item e r =
      let t = role_fits p prog q item e in
      let f = low_fits t.0 q hi item.instr (subst (λ (x : Role). fits p t.0 q x item.instr ≡ true) r t.2) in
      let a = high_named (item_at p hi) (both p prog (hi.obj == q.obj) _ f).1 in
      joined hi q a.0 item a.1 e a.2 (ap (is_low_half hi) r ∙ self_eq hi)

  pub pair_of : (q : Place) (w : Word) → program_fetch p q ≡ Some w → is_half w.act ≡ true → PairOf q
  pair_of q w e h =
      let s = some_item p q w e in
      by_role s.0 s.1 (half_role s.0.role s.0.instr (ap (λ (x : Word). is_half x.act) s.2 ∙ h))
    where
      by_role : (item : Item) → item_at p q ≡ Some item → IsHalfOf item.role (act_of item.role item.instr) → PairOf q
      by_role item f (inl r) = let k = high_pair q r.0 item f r.1 in record { hi = q; lo = k.0; halves = k.1; one = inl refl }
      by_role item f (inr r) = record { hi = r.0; lo = q; halves = low_pair q r.0 item f r.1; one = inr refl }
