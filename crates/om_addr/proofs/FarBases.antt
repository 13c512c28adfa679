-- What the displacements of the uses tell of all readers.
use Rattle.std.proofs.Common.{◌≡◌, ◌⊎◌, inl, inr, ◌<◌, ℕ, Bool, true, false, cond, ◌&&◌, List, [], ◌∷◌, ◌++◌, Option, Some, None, refl, sym, ap, ◌∙◌, subst, arith}
use Rattle.std.specs.Prelude.{ℤ, pos, ◌≤ℤ◌, int_le}
use Rattle.std.proofs.lemmas.Bool.{true≢false}
use Rattle.std.proofs.lemmas.Int.{ints}
use Rattle.om_prog.specs.Facts.{has}
use Rattle.om_graph.specs.declared.op.Last.{Last}
use Rattle.om_graph.specs.View.{Node, Has}
use Rattle.om_blocks.specs.Effects.{last_reads}
use Rattle.om_uses.specs.Readers.{reads, writes, with_id, readers, is_kept}
use Rattle.om_addr.specs.declared.far.Bases.{Bases}
use Rattle.om_addr.specs.FarTest.{base_of_kind, IsBaseReader, AllBase, IsReaderOf}
use Rattle.om_addr.specs.FarEdit.{no_bases, with_disp, unless, with_op, followed, bases_from}

some_is : {A : Type 0} {x y : A} → Some x ≡ Some y → x ≡ y
some_is e = cc

pub int_le_is : (a b : ℤ) → int_le a b ≡ true → a ≤ℤ b
int_le_is a b h = omega (arith, ints, h)

int_not_le : (a b : ℤ) → int_le a b ≡ false → b ≤ℤ a
int_not_le a b h = omega (arith, ints, h)

-- where one or none follows
pub record Then (o : Option Bases) (f : Bases → Option Bases) (a : Bases) : Type 0 where
  pub first : Bases
  pub is : o ≡ Some first
  pub rest : f first ≡ Some a

then_some : (o : Option Bases) (f : Bases → Option Bases) (a : Bases) → followed o f ≡ Some a → Then o f a
then_some None f a e = cc
then_some (Some b) f a e = record { first = b; is = refl; rest = e }

unless_some : (t : Bool) (a b : Bases) → unless t a ≡ Some b → (t ≡ false) × (a ≡ b)
unless_some true a b e = cc
unless_some false a b e = (refl, some_is e)

-- no less and no more than so far
pub record Wider (b a : Bases) : Type 0 where
  pub any : b.any ≡ true → a.any ≡ true
  pub least : b.any ≡ true → a.least ≤ℤ b.least
  pub most : b.any ≡ true → b.most ≤ℤ a.most

wider_same : (a : Bases) → Wider a a
wider_same a = record { any = λ h. h; least = λ h. omega (arith, ints); most = λ h. omega (arith, ints) }

wider_both : (a b c : Bases) → Wider a b → Wider b c → Wider a c
wider_both a b c x y = record {
  any = λ h. y.any (x.any h);
  least = λ h. let m = x.least h in let n = y.least (x.any h) in omega (arith, ints, m, n);
  most = λ h. let m = x.most h in let n = y.most (x.any h) in omega (arith, ints, m, n);
}

disp_least : (t : Bool) (l z : ℤ) → (cond (t && int_le l z) l z) ≤ℤ z
disp_least false l z = omega (arith, ints)
disp_least true l z = by_test (int_le l z) refl
  where
    by_test : (s : Bool) → int_le l z ≡ s → (cond s l z) ≤ℤ z
    by_test true e = int_le_is l z e
    by_test false e = omega (arith, ints)

disp_less : (l z : ℤ) → (cond (int_le l z) l z) ≤ℤ l
disp_less l z = by_test (int_le l z) refl
  where
    by_test : (s : Bool) → int_le l z ≡ s → (cond s l z) ≤ℤ l
    by_test true e = omega (arith, ints)
    by_test false e = int_not_le l z e

disp_most : (t : Bool) (m z : ℤ) → z ≤ℤ (cond (t && int_le z m) m z)
disp_most false m z = omega (arith, ints)
disp_most true m z = by_test (int_le z m) refl
  where
    by_test : (s : Bool) → int_le z m ≡ s → z ≤ℤ (cond s m z)
    by_test true e = int_le_is z m e
    by_test false e = omega (arith, ints)

disp_more : (m z : ℤ) → m ≤ℤ (cond (int_le z m) m z)
disp_more m z = by_test (int_le z m) refl
  where
    by_test : (s : Bool) → int_le z m ≡ s → m ≤ℤ (cond s m z)
    by_test true e = omega (arith, ints)
    by_test false e = int_not_le z m e

wider_disp : (a : Bases) (z : ℤ) → Wider a (with_disp a z)
wider_disp a z = record {
  any = λ h. refl;
  least = λ h. subst (λ (t : Bool). (cond (t && int_le a.least z) a.least z) ≤ℤ a.least) (sym h) (disp_less a.least z);
  most = λ h. subst (λ (t : Bool). a.most ≤ℤ (cond (t && int_le z a.most) a.most z)) (sym h) (disp_more a.most z);
}

-- one step
pub record Stepped (r : ℕ) (n : Node) (a b : Bases) : Type 0 where
  pub wider : Wider a b
  pub reads : reads r n ≡ true → (z : ℤ) × (base_of_kind r n.op.kind ≡ Some z) × (b.any ≡ true) × (b.least ≤ℤ z) × (z ≤ℤ b.most)

stepped : (r : ℕ) (n : Node) (a b : Bases) → with_op (base_of_kind r n.op.kind) (reads r n) a ≡ Some b → Stepped r n a b
stepped r n a b e = by_base (base_of_kind r n.op.kind) refl e
  where
    by_base : (o : Option ℤ) → base_of_kind r n.op.kind ≡ o → with_op o (reads r n) a ≡ Some b → Stepped r n a b
    by_base None d e =
        let u = unless_some (reads r n) a b e in
        subst (λ (c : Bases). Stepped r n a c) u.1 (record { wider = wider_same a; reads = λ h. absurd (true≢false (sym h ∙ u.0)) })
    by_base (Some z) d e =
        subst (λ (c : Bases). Stepped r n a c) (some_is e) (record {
          wider = wider_disp a z;
          reads = λ h. (z, d, refl, disp_least a.any a.least z, disp_most a.any a.most z);
        })

-- all readers are base uses between the least and the greatest
pub record AllOf (r : ℕ) (last : Last) (ns : List Node) (a b : Bases) : Type 0 where
  pub wider : Wider a b
  pub all : AllBase r last b.least b.most ns

pub all_of : (r : ℕ) (last : Last) (ns : List Node) (a b : Bases) → bases_from r last ns a ≡ Some b → AllOf r last ns a b
all_of r last [] a b e = let u = unless_some (has (last_reads last) r) a b e in record { wider = subst (λ (c : Bases). Wider a c) u.1 (wider_same a); all = u.0 }
all_of r last (n ∷ ns) a b e =
    let t = then_some (with_op (base_of_kind r n.op.kind) (reads r n) a) (λ c. cond (writes r n) (Some c) (bases_from r last ns c)) b e in
    let s = stepped r n a t.first t.is in
    by_write t.first s (writes r n) refl t.rest (λ k. all_of r last ns t.first b k)
  where
    reader : (c : Bases) → Stepped r n a c → Wider c b → IsBaseReader r last b.least b.most n
    reader c s w h =
        let k = s.reads h in
        let m = w.least k.2 in
        let o = w.most k.2 in
        let x = k.3 in
        let y = k.4 in
        (k.0, k.1, omega (arith, ints, m, x), omega (arith, ints, o, y))

    by_write : (c : Bases) → Stepped r n a c → (v : Bool) → writes r n ≡ v → cond v (Some c) (bases_from r last ns c) ≡ Some b → (bases_from r last ns c ≡ Some b → AllOf r last ns c b) → AllOf r last (n ∷ ns) a b
    by_write c s true w e again =
        let same : Wider c b = subst (λ (x : Bases). Wider c x) (some_is e) (wider_same c) in
        record { wider = wider_both a c b s.wider same; all = (reader c s same, λ k. absurd (true≢false (sym w ∙ k))) }
    by_write c s false w e again =
        let i = again e in
        record { wider = wider_both a c b s.wider i.wider; all = (reader c s i.wider, λ k. i.all) }

-- ---- the least and the greatest are displacements of readers

with_more : (t : Bool) (i : ℕ) (ids : List ℕ) (j : ℕ) → Has ids j → Has (with_id t i ids) j
with_more true i ids j h = inr h
with_more false i ids j h = h

-- a displacement is the old one, or a reader's
pub data Comes (r : ℕ) (ns : List Node) (old : Bool) (before : ℤ) (z : ℤ) : Type 0 where
  was : old ≡ true → before ≡ z → Comes r ns old before z
  reader : IsReaderOf r ns z → Comes r ns old before z

pub record Taken (r : ℕ) (ns : List Node) (a b : Bases) : Type 0 where
  pub least : b.any ≡ true → Comes r ns a.any a.least b.least
  pub most : b.any ≡ true → Comes r ns a.any a.most b.most

later : (r : ℕ) (n : Node) (ns : List Node) (z : ℤ) → writes r n ≡ false → IsReaderOf r ns z → IsReaderOf r (n ∷ ns) z
later r n ns z w k = record {
  node = k.node;
  among = inr k.among;
  reader = with_more (reads r n) n.id (cond (writes r n) [] (readers r ns)) k.node.id (subst (λ (t : Bool). Has (cond t [] (readers r ns)) k.node.id) (sym w) k.reader);
  disp = k.disp;
}

here : (r : ℕ) (n : Node) (ns : List Node) (z : ℤ) → reads r n ≡ true → base_of_kind r n.op.kind ≡ Some z → IsReaderOf r (n ∷ ns) z
here r n ns z h d = record { node = n; among = inl refl; reader = subst (λ (t : Bool). Has (with_id t n.id (cond (writes r n) [] (readers r ns))) n.id) (sym h) (inl refl); disp = d }

-- a base use reads the register
abbrev BasesRead : ℕ → Type 0
BasesRead r = (n : Node) (z : ℤ) → base_of_kind r n.op.kind ≡ Some z → reads r n ≡ true

module _ (r : ℕ) (last : Last) (read : BasesRead r) where
  least_step : (n : Node) (ns : List Node) (a : Bases) (z : ℤ) → base_of_kind r n.op.kind ≡ Some z → (t : Bool) → (a.any && int_le a.least z) ≡ t → Comes r (n ∷ ns) a.any a.least (cond t a.least z)
  least_step n ns a z d true e = was (first a.any (int_le a.least z) e) refl
    where
      first : (s t : Bool) → (s && t) ≡ true → s ≡ true
      first true t h = refl
      first false t h = h
  least_step n ns a z d false e = reader (here r n ns z (read n z d) d)

  most_step : (n : Node) (ns : List Node) (a : Bases) (z : ℤ) → base_of_kind r n.op.kind ≡ Some z → (t : Bool) → (a.any && int_le z a.most) ≡ t → Comes r (n ∷ ns) a.any a.most (cond t a.most z)
  most_step n ns a z d true e = was (first a.any (int_le z a.most) e) refl
    where
      first : (s t : Bool) → (s && t) ≡ true → s ≡ true
      first true t h = refl
      first false t h = h
  most_step n ns a z d false e = reader (here r n ns z (read n z d) d)

  step_taken : (n : Node) (ns : List Node) (a b : Bases) → with_op (base_of_kind r n.op.kind) (reads r n) a ≡ Some b → Taken r (n ∷ ns) a b
  step_taken n ns a b e = by_base (base_of_kind r n.op.kind) refl e
    where
      by_base : (o : Option ℤ) → base_of_kind r n.op.kind ≡ o → with_op o (reads r n) a ≡ Some b → Taken r (n ∷ ns) a b
      by_base None d e =
          let u = unless_some (reads r n) a b e in
          subst (λ (c : Bases). Taken r (n ∷ ns) a c) u.1 (record { least = λ h. was h refl; most = λ h. was h refl })
      by_base (Some z) d e =
          subst (λ (c : Bases). Taken r (n ∷ ns) a c) (some_is e)
          (record { least = λ h. least_step n ns a z d (a.any && int_le a.least z) refl; most = λ h. most_step n ns a z d (a.any && int_le z a.most) refl })

  on : (n : Node) (ns : List Node) (a c b : Bases) → writes r n ≡ false → Taken r (n ∷ ns) a c → Taken r ns c b → Taken r (n ∷ ns) a b
  on n ns a c b w x y = record { least = λ h. least (y.least h); most = λ h. most (y.most h) }
    where
      least : Comes r ns c.any c.least b.least → Comes r (n ∷ ns) a.any a.least b.least
      least (reader k) = reader (later r n ns b.least w k)
      least (was h e) = subst (λ (z : ℤ). Comes r (n ∷ ns) a.any a.least z) e (x.least h)

      most : Comes r ns c.any c.most b.most → Comes r (n ∷ ns) a.any a.most b.most
      most (reader k) = reader (later r n ns b.most w k)
      most (was h e) = subst (λ (z : ℤ). Comes r (n ∷ ns) a.any a.most z) e (x.most h)

  pub taken_from : (ns : List Node) (a b : Bases) → bases_from r last ns a ≡ Some b → Taken r ns a b
  taken_from [] a b e = let u = unless_some (has (last_reads last) r) a b e in subst (λ (c : Bases). Taken r [] a c) u.1 (record { least = λ h. was h refl; most = λ h. was h refl })
  taken_from (n ∷ ns) a b e =
      let t = then_some (with_op (base_of_kind r n.op.kind) (reads r n) a) (λ c. cond (writes r n) (Some c) (bases_from r last ns c)) b e in
      let s = step_taken n ns a t.first t.is in
      by_write t.first s (writes r n) refl t.rest (λ k. taken_from ns t.first b k)
    where
      by_write : (c : Bases) → Taken r (n ∷ ns) a c → (v : Bool) → writes r n ≡ v → cond v (Some c) (bases_from r last ns c) ≡ Some b → (bases_from r last ns c ≡ Some b → Taken r ns c b) → Taken r (n ∷ ns) a b
      by_write c s true w e again = subst (λ (x : Bases). Taken r (n ∷ ns) a x) (some_is e) s
      by_write c s false w e again = on n ns a c b w s (again e)

  no_was : {ns : List Node} {before z : ℤ} → Comes r ns false before z → IsReaderOf r ns z
  no_was (was h e) = absurd (true≢false (sym h))
  no_was (reader k) = k

  pub least_reader : (ns : List Node) (b : Bases) → bases_from r last ns no_bases ≡ Some b → b.any ≡ true → IsReaderOf r ns b.least
  least_reader ns b e h = no_was ((taken_from ns no_bases b e).least h)

  pub most_reader : (ns : List Node) (b : Bases) → bases_from r last ns no_bases ≡ Some b → b.any ≡ true → IsReaderOf r ns b.most
  most_reader ns b e h = no_was ((taken_from ns no_bases b e).most h)

-- ---- where all readers are base uses, they are found

abbrev pub AllFound : ℕ → Last → List Node → Type 0
AllFound r last [] = has (last_reads last) r ≡ false
AllFound r last (n ∷ ns) = (reads r n ≡ true → (z : ℤ) × (base_of_kind r n.op.kind ≡ Some z)) × (writes r n ≡ false → AllFound r last ns)

pub found_all : (r : ℕ) (last : Last) (ns : List Node) (a : Bases) → AllFound r last ns → (b : Bases) × (bases_from r last ns a ≡ Some b)
found_all r last [] a h = (a, ap (λ (t : Bool). unless t a) h)
found_all r last (n ∷ ns) a h = by_base (base_of_kind r n.op.kind) refl (reads r n) refl (λ c w. found_all r last ns c (h.1 w))
  where
    rest : (c : Bases) → (v : Bool) → writes r n ≡ v → ((c : Bases) → writes r n ≡ false → (b : Bases) × (bases_from r last ns c ≡ Some b)) → (b : Bases) × (cond v (Some c) (bases_from r last ns c) ≡ Some b)
    rest c true w again = (c, refl)
    rest c false w again = again c w

    by_base :
        (o : Option ℤ) → base_of_kind r n.op.kind ≡ o → (t : Bool) → reads r n ≡ t → ((c : Bases) → writes r n ≡ false → (b : Bases) × (bases_from r last ns c ≡ Some b)) →
        (b : Bases) × (followed (with_op o t a) (λ c. cond (writes r n) (Some c) (bases_from r last ns c)) ≡ Some b)
    by_base None d true e again = let k = h.0 e in let c : None ≡ Some k.0 = sym d ∙ k.1 in cc
    by_base None d false e again = rest a (writes r n) refl again
    by_base (Some z) d t e again = rest (with_disp a z) (writes r n) refl again

-- a reader makes that there is one
pub some_any : (r : ℕ) (last : Last) (ns : List Node) (a b : Bases) (j : ℕ) → bases_from r last ns a ≡ Some b → Has (readers r ns) j → b.any ≡ true
some_any r last [] a b j e h = absurd h
some_any r last (n ∷ ns) a b j e h =
    let t = then_some (with_op (base_of_kind r n.op.kind) (reads r n) a) (λ c. cond (writes r n) (Some c) (bases_from r last ns c)) b e in
    let s = stepped r n a t.first t.is in
    by_read t.first s (reads r n) refl (writes r n) refl t.rest h (λ k q. some_any r last ns t.first b j k q)
  where
    wide : (c : Bases) (v : Bool) → cond v (Some c) (bases_from r last ns c) ≡ Some b → Wider c b
    wide c true e = subst (λ (x : Bases). Wider c x) (some_is e) (wider_same c)
    wide c false e = (all_of r last ns c b e).wider

    by_write : (c : Bases) (v : Bool) → cond v (Some c) (bases_from r last ns c) ≡ Some b → Has (cond v [] (readers r ns)) j → (bases_from r last ns c ≡ Some b → Has (readers r ns) j → b.any ≡ true) → b.any ≡ true
    by_write c true e h again = absurd h
    by_write c false e h again = again e h

    by_read :
        (c : Bases) → Stepped r n a c → (u : Bool) → reads r n ≡ u → (v : Bool) → writes r n ≡ v → cond v (Some c) (bases_from r last ns c) ≡ Some b → Has (with_id u n.id (cond v [] (readers r ns))) j →
        (bases_from r last ns c ≡ Some b → Has (readers r ns) j → b.any ≡ true) → b.any ≡ true
    by_read c s true x v w e h again = (wide c v e).any (s.reads x).2
    by_read c s false x v w e h again = by_write c v e h again
