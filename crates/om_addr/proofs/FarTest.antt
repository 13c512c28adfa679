-- Base uses, and which ops of a walk become uses of a half.
use Rattle.std.proofs.Common.{◌≡◌, ◌⊎◌, inl, inr, ◌<◌, ℕ, Bool, true, false, cond, not, ◌&&◌, ◌||◌, ◌==◌, List, [], ◌∷◌, Option, Some, None, refl, sym, ap, ◌∙◌, subst, arith}
use Rattle.std.specs.Prelude.{ℤ, ◌≤ℤ◌, is_some}
use Rattle.std.proofs.lemmas.Bool.{true≢false, eqb-true, eq-eqb}
use Rattle.om_isa.specs.declared.instr.Access.{Access}
use Rattle.om_isa.specs.declared.instr.Access.TheVariants.{Address, Load, Store}
use Rattle.om_isa.specs.declared.instr.Instr.{Instr}
use Rattle.om_isa.specs.declared.instr.Instr.TheVariants.{Mem, Jump, Branch, Alu, Cmov, Misc, Fnop, Halt, Callsys}
use Rattle.om_isa.specs.Registers.{access_of, memory_reads, regs_read}
use Rattle.om_value.specs.declared.value.Place.{Place}
use Rattle.om_value.specs.Same.{place_eq}
use Rattle.om_prog.specs.Facts.{has}
use Rattle.om_graph.specs.declared.op.OpKind.{OpKind}
use Rattle.om_graph.specs.declared.op.OpKind.TheVariants as op
use Rattle.om_graph.specs.declared.op.Last.{Last}
use Rattle.om_graph.specs.View.{Node, Has}
use Rattle.om_graph.specs.Uses.{IsBaseUse, IsByteUse}
use Rattle.om_graph.proofs.Labels.{same_place, self_eq}
use Rattle.om_blocks.specs.Effects.{last_reads}
use Rattle.om_uses.specs.Readers.{reads, writes, with_id, readers, is_kept}
use Rattle.om_passes.specs.Far.{FarLoad, use_kind}
use Rattle.om_addr.specs.FarRow.{is_set_at}
use Rattle.om_addr.specs.Near.{serves, is_base_use, disp_in}
use Rattle.om_addr.specs.FarTest.{base_disp_of, base_of_kind, half_kind, writes_it, IsBaseReader, AllBase}
use Rattle.om_addr.proofs.FarKinds.{Differ, AllDiffer}

-- ---- base uses

both : (a b : Bool) → (a && b) ≡ true → (a ≡ true) × (b ≡ true)
both true b h = (refl, h)
both false b h = absurd (true≢false (sym h))

some_or_none : {A : Type 0} (b : Bool) (x z : A) → cond b (Some x) None ≡ Some z → (b ≡ true) × (x ≡ z)
some_or_none true x z e = (refl, cc)
some_or_none false x z e = cc

base_access : (a : Access) (ra r : ℕ) → serves a ra r ≡ true → (a ≡ Address → ⊥) × (a ≡ Store → ra ≡ r → ⊥) × ((rb : ℕ) → (rb == r) ≡ true → has (memory_reads a ra rb) r ≡ true)
base_access Address ra r h = absurd (true≢false (sym h))
base_access Load ra r h = (λ e. unlike e, λ e s. other e, λ rb e. by_test (ra == 31) h rb e)
  where
    unlike : Load ≡ Address → ⊥
    unlike e = cc

    other : Load ≡ Store → ⊥
    other e = cc

    by_test : (t : Bool) → not t ≡ true → (rb : ℕ) → (rb == r) ≡ true → has (cond t [] (rb ∷ [])) r ≡ true
    by_test true h rb e = absurd (true≢false (sym h))
    by_test false h rb e = rw e refl
base_access Store ra r h = (λ e. unlike e, λ e s. true≢false (sym h ∙ ap not (eq-eqb ra r s)), λ rb e. by_test (ra == r) rb e)
  where
    unlike : Store ≡ Address → ⊥
    unlike e = cc

    by_test : (t : Bool) → (rb : ℕ) → (rb == r) ≡ true → (t || has (rb ∷ []) r) ≡ true
    by_test true rb e = refl
    by_test false rb e = rw e refl

-- what the test finds is a base use, and reads the register
pub base_is : (r : ℕ) (i : Instr) (z : ℤ) → base_disp_of r i ≡ Some z → IsBaseUse r i z × (has (regs_read i) r ≡ true)
base_is r (Mem o ra rb d) z e =
    let s = some_or_none ((rb == r) && not (r == 31) && serves (access_of o) ra r) d z e in
    let t = both ((rb == r) && not (r == 31)) (serves (access_of o) ra r) s.0 in
    let u = both (rb == r) (not (r == 31)) t.0 in
    let a = base_access (access_of o) ra r t.1 in
    ((eqb-true rb r u.0, s.1, a.0, a.1), a.2 rb u.0)
base_is r (Jump k ra rb h) z e = cc
base_is r (Branch o ra d) z e = cc
base_is r (Alu o ra rb rc) z e = cc
base_is r (Cmov k ra rb rc) z e = cc
base_is r (Misc o ra rb) z e = cc
base_is r Fnop z e = cc
base_is r Halt z e = cc
base_is r Callsys z e = cc

is_access : (a : Access) (ra rb r : ℕ) → rb ≡ r → r < 31 → (a ≡ Address → ⊥) → (a ≡ Store → ra ≡ r → ⊥) → has (memory_reads a ra rb) r ≡ true → serves a ra r ≡ true
is_access Address ra rb r s l n k h = absurd (n refl)
is_access Load ra rb r s l n k h = by_test (ra == 31) h
  where
    by_test : (t : Bool) → has (cond t [] (rb ∷ [])) r ≡ true → not t ≡ true
    by_test true h = absurd (true≢false (sym h))
    by_test false h = refl
is_access Store ra rb r s l n k h = by_test (ra == r) refl
  where
    by_test : (t : Bool) → (ra == r) ≡ t → not t ≡ true
    by_test true e = absurd (k refl (eqb-true ra r e))
    by_test false e = refl

-- and it finds each that reads it
pub is_found : (r : ℕ) (i : Instr) (z : ℤ) → r < 31 → IsBaseUse r i z → has (regs_read i) r ≡ true → base_disp_of r i ≡ Some z
is_found r (Mem o ra rb d) z l u h =
    let t = is_access (access_of o) ra rb r u.0 l u.2 u.3 h in
    ap (λ (b : Bool). cond (b && not (r == 31) && serves (access_of o) ra r) (Some d) None) (eq-eqb rb r u.0)
    ∙ ap (λ (b : Bool). cond (not b && serves (access_of o) ra r) (Some d) None) (other (r == 31) refl) ∙ ap (λ (b : Bool). cond b (Some d) None) t ∙ ap (λ (y : ℤ). Some y) u.1
  where
    other : (b : Bool) → (r == 31) ≡ b → (r == 31) ≡ false
    other true e = let s = eqb-true r 31 e in absurd (omega (arith, s, l))
    other false e = e
is_found r (Jump k ra rb h) z l u e = absurd u
is_found r (Branch o ra d) z l u e = absurd u
is_found r (Alu o ra rb rc) z l u e = absurd u
is_found r (Cmov k ra rb rc) z l u e = absurd u
is_found r (Misc o ra rb) z l u e = absurd u
is_found r Fnop z l u e = absurd u
is_found r Halt z l u e = absurd u
is_found r Callsys z l u e = absurd u

-- a base use is no byte use
pub no_byte : (r s : ℕ) (i : Instr) (z : ℤ) → IsBaseUse r i z → IsByteUse s i → ⊥
no_byte r s (Mem o ra rb d) z u k = k
no_byte r s (Jump k ra rb h) z u y = u
no_byte r s (Branch o ra d) z u y = u
no_byte r s (Alu o ra rb rc) z u y = u
no_byte r s (Cmov k ra rb rc) z u y = u
no_byte r s (Misc o ra rb) z u y = u
no_byte r s Fnop z u y = u
no_byte r s Halt z u y = u
no_byte r s Callsys z u y = u

-- ---- kinds

-- an op with a displacement stands as it is
pub record StandsAs (r : ℕ) (k : OpKind) (z : ℤ) : Type 0 where
  pub instr : Instr
  pub plain : k ≡ op.Plain instr
  pub disp : base_disp_of r instr ≡ Some z

pub kind_stands : (r : ℕ) (k : OpKind) (z : ℤ) → base_of_kind r k ≡ Some z → StandsAs r k z
kind_stands r (op.Plain i) z e = record { instr = i; plain = refl; disp = e }
kind_stands r (op.Lit ra rb t) z e = cc
kind_stands r (op.AddrLda ra rb t) z e = cc
kind_stands r (op.AddrHi ra rb t y) z e = cc
kind_stands r (op.UseLo i hi) z e = cc
kind_stands r (op.UseGp i gp t) z e = cc
kind_stands r (op.GpHi ra rb q) z e = cc
kind_stands r (op.GpLo ra rb q) z e = cc

abbrev of_use : Place → Instr → Bool → Option OpKind
of_use hi i b = cond b (Some (op.UseLo i hi)) None

-- what becomes a use of the half has a displacement
pub record BecomesHalf (r : ℕ) (hi : Place) (k z : OpKind) : Type 0 where
  pub instr : Instr
  pub disp : ℤ
  pub plain : k ≡ op.Plain instr
  pub is_disp : base_disp_of r instr ≡ Some disp
  pub is : z ≡ op.UseLo instr hi

pub becomes_half : (r : ℕ) (hi : Place) (k z : OpKind) → half_kind r hi k ≡ Some z → BecomesHalf r hi k z
becomes_half r hi (op.Plain i) z e = by_use (is_base_use r i) refl e
  where
    by_use : (b : Bool) → is_base_use r i ≡ b → of_use hi i b ≡ Some z → BecomesHalf r hi (op.Plain i) z
    by_use false d e = cc
    by_use true d e =
        let s : op.UseLo i hi ≡ z = cc in
        record { instr = i; disp = disp_in i; plain = refl; is_disp = ap (λ (b : Bool). cond b (Some (disp_in i)) None) d; is = sym s }
becomes_half r hi (op.Lit ra rb t) z e = cc
becomes_half r hi (op.AddrLda ra rb t) z e = cc
becomes_half r hi (op.AddrHi ra rb t y) z e = cc
becomes_half r hi (op.UseLo i q) z e = cc
becomes_half r hi (op.UseGp i gp t) z e = cc
becomes_half r hi (op.GpHi ra rb q) z e = cc
becomes_half r hi (op.GpLo ra rb q) z e = cc

pub half_made : (l : FarLoad) (r : ℕ) (k z : OpKind) → half_kind r l.hi k ≡ Some z → use_kind l k ≡ z
half_made l r k z e = let b = becomes_half r l.hi k z e in ap (use_kind l) b.plain ∙ sym b.is

-- a kind with a displacement becomes one
pub half_some : (r : ℕ) (hi : Place) (k : OpKind) (z : ℤ) → base_of_kind r k ≡ Some z → is_some (half_kind r hi k) ≡ true
half_some r hi k z e =
    let s = kind_stands r k z e in
    ap (λ (x : OpKind). is_some (half_kind r hi x)) s.plain ∙ ap (λ (b : Bool). is_some (of_use hi s.instr b)) (some_or_none (is_base_use r s.instr) (disp_in s.instr) z s.disp).0

a_some : {A : Type 0} (o : Option A) → is_some o ≡ true → (x : A) × (o ≡ Some x)
a_some None h = absurd (true≢false (sym h))
a_some (Some x) h = (x, refl)

pub half_reads : (r : ℕ) (hi : Place) (n : Node) → is_some (half_kind r hi n.op.kind) ≡ true → (z : ℤ) × (base_of_kind r n.op.kind ≡ Some z) × (reads r n ≡ true)
half_reads r hi n h =
    let s = a_some (half_kind r hi n.op.kind) h in
    let b = becomes_half r hi n.op.kind s.0 s.1 in
    (b.disp, ap (base_of_kind r) b.plain ∙ b.is_disp, subst (λ (k : OpKind). reads r (record n { op = record (n.op) { kind = k } }) ≡ true) (sym b.plain) (base_is r b.instr b.disp b.is_disp).1)

-- ---- which ops of a walk become uses

module _ (r : ℕ) (hi : Place) where
  -- one that is set is a reader
  pub record SetReader (ns : List Node) (q : Place) : Type 0 where
    pub node : Node
    pub among : Has ns node
    pub place : node.op.place ≡ q
    pub reader : Has (readers r ns) node.id
    pub disp : ℤ
    pub is_disp : base_of_kind r node.op.kind ≡ Some disp

  with_more : (t : Bool) (i : ℕ) (ids : List ℕ) (j : ℕ) → Has ids j → Has (with_id t i ids) j
  with_more true i ids j h = inr h
  with_more false i ids j h = h

  either : (a b : Bool) → (a || b) ≡ true → (a ≡ true) ⊎ (b ≡ true)
  either true b h = inl refl
  either false b h = inr h

  not_false : (b : Bool) → not b ≡ true → b ≡ false
  not_false true h = absurd (true≢false (sym h))
  not_false false h = refl

  pub set_found : (ns : List Node) (q : Place) → is_set_at (half_kind r hi) (writes_it r) ns q ≡ true → SetReader ns q
  set_found [] q h = absurd (true≢false (sym h))
  set_found (n ∷ ns) q h = by_part (either (is_some (half_kind r hi n.op.kind) && place_eq n.op.place q) (not (writes r n) && is_set_at (half_kind r hi) (writes_it r) ns q) h) (set_found ns q)
    where
      by_part : ((is_some (half_kind r hi n.op.kind) && place_eq n.op.place q) ≡ true) ⊎ ((not (writes r n) && is_set_at (half_kind r hi) (writes_it r) ns q) ≡ true) → (is_set_at (half_kind r hi) (writes_it r) ns q ≡ true → SetReader ns q) → SetReader (n ∷ ns) q
      by_part (inl k) again =
          let p = both (is_some (half_kind r hi n.op.kind)) (place_eq n.op.place q) k in
          let d = half_reads r hi n p.0 in
          record {
            node = n;
            among = inl refl;
            place = same_place n.op.place q p.1;
            reader = subst (λ (t : Bool). Has (with_id t n.id (cond (writes r n) [] (readers r ns))) n.id) (sym d.2) (inl refl);
            disp = d.0;
            is_disp = d.1;
          }
      by_part (inr k) again =
          let p = both (not (writes r n)) (is_set_at (half_kind r hi) (writes_it r) ns q) k in
          let s = again p.1 in
          let here = subst (λ (t : Bool). Has (cond t [] (readers r ns)) s.node.id) (sym (not_false (writes r n) p.0)) s.reader in
          record { node = s.node; among = inr s.among; place = s.place; reader = with_more (reads r n) n.id (cond (writes r n) [] (readers r ns)) s.node.id here; disp = s.disp; is_disp = s.is_disp }

  -- a reader behind the first one stands behind it
  later_reader : (n : Node) (ns : List Node) (j : ℕ) → (n.id ≡ j → ⊥) → Has (readers r (n ∷ ns)) j → (writes r n ≡ false) × Has (readers r ns) j
  later_reader n ns j d h = by_test (reads r n) (writes r n) refl h
    where
      by_write : (t : Bool) → writes r n ≡ t → Has (cond t [] (readers r ns)) j → (writes r n ≡ false) × Has (readers r ns) j
      by_write true e h = absurd h
      by_write false e h = (e, h)

      by_test : (s t : Bool) → writes r n ≡ t → Has (with_id s n.id (cond t [] (readers r ns))) j → (writes r n ≡ false) × Has (readers r ns) j
      by_test true t e (inl k) = absurd (d k)
      by_test true t e (inr k) = by_write t e k
      by_test false t e k = by_write t e k

  -- a reader with a displacement is set
  pub set_there : (ns : List Node) (n : Node) (z : ℤ) → AllDiffer ns → Has ns n → Has (readers r ns) n.id → base_of_kind r n.op.kind ≡ Some z → is_set_at (half_kind r hi) (writes_it r) ns n.op.place ≡ true
  set_there [] n z a h k e = absurd h
  set_there (m ∷ ns) n z a (inl s) k e =
      subst (λ (y : Node). is_set_at (half_kind r hi) (writes_it r) (m ∷ ns) y.op.place ≡ true) s
      (ap (λ (t : Bool). (t && place_eq m.op.place m.op.place) || (not (writes r m) && is_set_at (half_kind r hi) (writes_it r) ns m.op.place))
      (half_some r hi m.op.kind z (ap (λ (y : Node). base_of_kind r y.op.kind) s ∙ e))
      ∙ ap (λ (t : Bool). (true && t) || (not (writes r m) && is_set_at (half_kind r hi) (writes_it r) ns m.op.place)) (self_eq m.op.place))
  set_there (m ∷ ns) n z a (inr h) k e =
      let l = later_reader m ns n.id (a.0 n h).ids k in
      let i = set_there ns n z a.1 h l.1 e in
      ap (λ (t : Bool). (is_some (half_kind r hi m.op.kind) && place_eq m.op.place n.op.place) || (not t && is_set_at (half_kind r hi) (writes_it r) ns n.op.place)) l.0
      ∙ ap (λ (t : Bool). (is_some (half_kind r hi m.op.kind) && place_eq m.op.place n.op.place) || t) i ∙ or_true (is_some (half_kind r hi m.op.kind) && place_eq m.op.place n.op.place)
    where
      or_true : (b : Bool) → (b || true) ≡ true
      or_true true = refl
      or_true false = refl

  -- ---- all readers are base uses

  module _ (last : Last) (least most : ℤ) where
    pub reader_base :
        (ns : List Node) (n : Node) → AllDiffer ns → AllBase r last least most ns → Has ns n → Has (readers r ns) n.id → (z : ℤ) × (base_of_kind r n.op.kind ≡ Some z) × (least ≤ℤ z) × (z ≤ℤ most)
    reader_base [] n a b h k = absurd h
    reader_base (m ∷ ns) n a b (inl s) k = subst (λ (y : Node). (z : ℤ) × (base_of_kind r y.op.kind ≡ Some z) × (least ≤ℤ z) × (z ≤ℤ most)) s (b.0 (first_reads (reads r m) (writes r m) refl (subst (λ (y : Node). Has (readers r (m ∷ ns)) y.id) (sym s) k)))
      where
        not_later : (ids : List Node) → Has (readers r ids) m.id → ((x : Node) → Has ids x → m.id ≡ x.id → ⊥) → ⊥
        not_later [] h d = h
        not_later (x ∷ xs) h d = let l = later_reader x xs m.id (λ e. d x (inl refl) (sym e)) h in not_later xs l.1 (λ y q. d y (inr q))

        first_reads : (s t : Bool) → reads r m ≡ s → Has (with_id s m.id (cond t [] (readers r ns))) m.id → reads r m ≡ true
        first_reads true t e h = e
        first_reads false true e h = absurd h
        first_reads false false e h = absurd (not_later ns h (λ x q. (a.0 x q).ids))
    reader_base (m ∷ ns) n a b (inr h) k =
        let l = later_reader m ns n.id (a.0 n h).ids k in
        reader_base ns n a.1 (b.1 l.0) h l.1

    pub last_unread : (ns : List Node) → AllBase r last least most ns → is_kept r ns ≡ true → has (last_reads last) r ≡ false
    last_unread [] b k = b
    last_unread (n ∷ ns) b k = by_test (writes r n) refl k (λ e q. last_unread ns (b.1 e) q)
      where
        by_test : (t : Bool) → writes r n ≡ t → cond t false (is_kept r ns) ≡ true → (writes r n ≡ false → is_kept r ns ≡ true → has (last_reads last) r ≡ false) → has (last_reads last) r ≡ false
        by_test true e k again = absurd (true≢false (sym k))
        by_test false e k again = again e k
