-- Registers as bits, and what stands behind a reader.
use Rattle.std.proofs.Common.{◌≡◌, inl, inr, ℕ, ◌<◌, Bool, true, false, cond, ◌==◌, ◌||◌, List, [], ◌∷◌, ◌++◌, Some, None, refl, sym, ap, subst, ◌∙◌, arith}
use Rattle.std.proofs.lemmas.Bool.{true≢false, eqb-true}
use Rattle.std.proofs.lemmas.Bool.Decides.{nat_tests}
use Rattle.om_isa.specs.Registers.{mask_of}
use Rattle.om_prog.specs.Facts.{has}
use Rattle.om_graph.specs.View.{Node, Has}
use Rattle.om_graph.specs.Held.{Apart, node_ids}
use Rattle.om_blocks.proofs.Doing.{bit_is}
use Rattle.om_blocks.proofs.Walking.{not_same}
use Rattle.om_uses.specs.Scans.{has_bit}
use Rattle.om_uses.specs.Readers.{reads, writes, with_id, readers, first_of, behind_id}

pub bit_has : (rs : List ℕ) (r : ℕ) → r < 31 → has_bit (mask_of rs) r ≡ has rs r
bit_has rs r h = ap (λ (n : ℕ). n == 1) (bit_is rs r h) ∙ flag (has rs r)
  where
    flag : (b : Bool) → (cond b 1 0 == 1) ≡ b
    flag true = refl
    flag false = refl

-- what stands behind a reader
pub record Reader (r a : ℕ) (ns : List Node) : Type 0 where
  pub mid : List Node
  pub node : Node
  pub rest : List Node
  pub stands : ns ≡ mid ++ node ∷ rest
  pub is_id : node.id ≡ a
  pub next : behind_id a (readers r ns) ≡ first_of (cond (writes r node) [] (readers r rest))

reader_has : (r a : ℕ) (ns : List Node) → Has (readers r ns) a → Has (node_ids ns) a
reader_has r a [] h = h
reader_has r a (n ∷ ns) h = by_reads (reads r n) (writes r n) h (reader_has r a ns)
  where
    by_reads : (b w : Bool) → Has (with_id b n.id (cond w [] (readers r ns))) a → (Has (readers r ns) a → Has (node_ids ns) a) → Has (node_ids (n ∷ ns)) a
    by_reads true w (inl e) again = inl e
    by_reads true true (inr k) again = absurd k
    by_reads true false (inr k) again = inr (again k)
    by_reads false true k again = absurd k
    by_reads false false k again = inr (again k)

pub same_id : (a : ℕ) → (a == a) ≡ true
same_id a = eq_true (a == a) refl
  where
    eq_true : (b : Bool) → (a == a) ≡ b → b ≡ true
    eq_true true e = refl
    eq_true false e = grind (arith, nat_tests, e)

pub reader_at : (r a : ℕ) (ns : List Node) → Apart (node_ids ns) → Has (readers r ns) a → Reader r a ns
reader_at r a [] ap h = absurd h
reader_at r a (n ∷ ns) ids h = by_reads (reads r n) (writes r n) refl refl h (λ k. reader_at r a ns ids.1 k)
  where
    later : (b : Bool) → writes r n ≡ false → reads r n ≡ b → Has (readers r ns) a → Reader r a ns → Reader r a (n ∷ ns)
    later b w e k f =
        let other : (n.id == a) ≡ false = not_same n.id a (λ s. ids.0 (subst (λ (i : ℕ). Has (node_ids ns) i) (sym s) (reader_has r a ns k))) in
        record {
          mid = n ∷ f.mid;
          node = f.node;
          rest = f.rest;
          stands = ap (λ (l : List Node). n ∷ l) f.stands;
          is_id = f.is_id;
          next = rw (e, w) (skip b other ∙ f.next);
        }
      where
        skip : (c : Bool) → (n.id == a) ≡ false → behind_id a (with_id c n.id (readers r ns)) ≡ behind_id a (readers r ns)
        skip true other = rw other refl
        skip false other = refl

    by_reads : (b w : Bool) → reads r n ≡ b → writes r n ≡ w → Has (with_id b n.id (cond w [] (readers r ns))) a → (Has (readers r ns) a → Reader r a ns) → Reader r a (n ∷ ns)
    by_reads true w e f (inl s) again =
        let here : (n.id == a) ≡ true = subst (λ (i : ℕ). (n.id == i) ≡ true) s (same_id n.id) in
        record { mid = []; node = n; rest = ns; stands = refl; is_id = s; next = rw (e, here) refl }
    by_reads true true e f (inr k) again = absurd k
    by_reads true false e f (inr k) again = later true f e k (again k)
    by_reads false true e f k again = absurd k
    by_reads false false e f k again = later false f e k (again k)

-- ---- one register

bit_one : (r k : ℕ) → k < 31 → has_bit (mask_of (r ∷ [])) k ≡ (r == k)
bit_one r k h = bit_has (r ∷ []) k h ∙ no_other (r == k)
  where
    no_other : (b : Bool) → (b || false) ≡ b
    no_other true = refl
    no_other false = refl

pub lowest_found : (mask r k : ℕ) → mask ≡ mask_of (r ∷ []) → k < 31 → has_bit mask k ≡ true → Some k ≡ Some r
lowest_found mask r k e h t = ap (λ (n : ℕ). Some n) (sym (eqb-true r k (sym (bit_one r k h) ∙ ap (λ (m : ℕ). has_bit m k) (sym e) ∙ t)))

pub lowest_none : (mask r : ℕ) → mask ≡ mask_of (r ∷ []) → r < 31 → ((k : ℕ) → k < 31 → has_bit mask k ≡ false) → None ≡ Some r
lowest_none mask r e h none = absurd (true≢false (sym (bit_one r r h ∙ same_id r) ∙ ap (λ (m : ℕ). has_bit m r) (sym e) ∙ none r h))
