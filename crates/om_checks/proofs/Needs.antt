-- What a dropped block and an entry owe is needed: without it a check that passed fails.
use Rattle.std.proofs.Common.{◌≡◌, inl, inr, ◌<◌, ℕ, Bool, true, false, ◌&&◌, ◌||◌, ◌==◌, [], refl, sym, ap, ◌∙◌, subst, arith}
use Rattle.std.proofs.lemmas.Bool.{true≢false, eqb-true, eq-eqb}
use Rattle.om_isa.specs.declared.instr.BrOp.TheVariants.{Bsr}
use Rattle.om_value.specs.declared.value.Place.{Place}
use Rattle.om_prog.specs.Act as act
use Rattle.om_prog.specs.Act.{Word}
use Rattle.om_prog.specs.Flow.{act_jumps}
use Rattle.om_graph.specs.declared.op.Last.TheVariants.{Br}
use Rattle.om_graph.specs.View.{Block, Has, dropped, last_set}
use Rattle.om_graph.specs.Run.{block_words}
use Rattle.om_graph.specs.Kept.{IsKeptLanding}
use Rattle.om_graph.specs.Checks.{Enters, falls_in, jumps_in, MaskChecked, reads_first, written_in}
use Rattle.om_checks.specs.Needs.{at, falls, writes, reads, three, ones, calls, pair, uses, entered, gps, ChecksMayFail}
use Rattle.om_checks.proofs.Edges.{last_has}

eq_of : (a b : ℕ) → (a == b) ≡ true → a ≡ b
eq_of a b e = eqb-true a b e

pub passes_before : MaskChecked ones three
passes_before = record { reads = read; enters = enter }
  where
    not_31 : (r : ℕ) → r < 31 → (31 == r) ≡ false
    not_31 r l = by_test (31 == r) refl
      where
        by_test : (b : Bool) → (31 == r) ≡ b → (31 == r) ≡ false
        by_test false e = e
        by_test true e = let i = eqb-true 31 r e in absurd (omega (arith, i, l))

    read : (b : Block) (r : ℕ) → Has three.blocks b → r < 31 → reads_first (block_words b) r ≡ true → ones b.label r ≡ true
    read b r (inl e) l h = absurd (true≢false (sym h ∙ ap (λ (x : Block). reads_first (block_words x) r) (sym e)))
    read b r (inr (inl e)) l h =
        let n = not_31 r l in
        let h' : reads_first (block_words writes) r ≡ true = ap (λ (x : Block). reads_first (block_words x) r) e ∙ h in
        absurd (first n (1 == r) h')
      where
        first : (31 == r) ≡ false → (b : Bool) → (((31 == r) || false) || (Rattle.std.specs.Prelude.not (b || false) && false)) ≡ true → ⊥
        first n true h = true≢false (sym h ∙ rw n refl)
        first n false h = true≢false (sym h ∙ rw n refl)
    read b r (inr (inr (inl e))) l h =
        let n = not_31 r l in
        let h' : reads_first (block_words reads) r ≡ true = ap (λ (x : Block). reads_first (block_words x) r) e ∙ h in
        subst (λ (x : Block). ones x.label r ≡ true) e (own n (1 == r) refl h')
      where
        own : (31 == r) ≡ false → (b : Bool) → (1 == r) ≡ b → (((b || ((31 == r) || false))) || false) ≡ true → (r == 1) ≡ true
        own n true i h = eq-eqb r 1 (sym (eqb-true 1 r i))
        own n false i h = absurd (true≢false (sym h ∙ rw n refl))
    read b r (inr (inr (inr e))) l h = absurd e

    stays : (b : Block) (w : Word) (q : Place) → Has three.blocks b → Has (block_words b) w → act_jumps (IsKeptLanding three) w.act q → ⊥
    stays b w q (inl e) m j = subst (λ (x : Block). Has (block_words x) w) (sym e) m
    stays b w q (inr (inl e)) m j = by_word (subst (λ (x : Block). Has (block_words x) w) (sym e) m)
      where
        by_word : Has (block_words writes) w → ⊥
        by_word (inl i) = subst (λ (x : Word). act_jumps (IsKeptLanding three) x.act q) (sym i) j
        by_word (inr i) = i
    stays b w q (inr (inr (inl e))) m j = by_word (subst (λ (x : Block). Has (block_words x) w) (sym e) m)
      where
        by_word : Has (block_words reads) w → ⊥
        by_word (inl i) = subst (λ (x : Word). act_jumps (IsKeptLanding three) x.act q) (sym i) j
        by_word (inr i) = i
    stays b w q (inr (inr (inr e))) m j = e

    enter : (b n : Block) (r : ℕ) → Enters three b n → r < 31 → ones n.label r ≡ true → written_in (block_words b) r ≡ false → ones b.label r ≡ true
    enter b n r (jumps_in w hb hn l j) k h u = absurd (stays b w n.label hb (last_has b w l) j)
    enter b n r (falls_in (inl x) o f) k h u = absurd (true≢false (sym (ap (λ (y : Block). ones y.label r) x.1 ∙ h)))
    enter b n r (falls_in (inr (inl x)) o f) k h u =
        let one : (r == 1) ≡ true = ap (λ (y : Block). ones y.label r) x.1 ∙ h in
        let same = eqb-true r 1 one in
        let w : written_in (block_words writes) r ≡ false = ap (λ (y : Block). written_in (block_words y) r) x.0 ∙ u in
        absurd (true≢false (subst (λ (z : ℕ). written_in (block_words writes) z ≡ false) same w))
    enter b n r (falls_in (inr (inr x)) o f) k h u = absurd x

-- without the block between, the first falls into the last
pub fails_after : MaskChecked ones (dropped three 1) → ⊥
fails_after checked = true≢false (sym (checked.enters falls reads 1 (falls_in (inl (refl, refl)) refl tt) (omega arith) refl refl))

pub passes_pair : MaskChecked gps entered
passes_pair = record { reads = read; enters = enter }
  where
    not_31 : (r : ℕ) → r < 31 → (31 == r) ≡ false
    not_31 r l = by_test (31 == r) refl
      where
        by_test : (b : Bool) → (31 == r) ≡ b → (31 == r) ≡ false
        by_test false e = e
        by_test true e = let i = eqb-true 31 r e in absurd (omega (arith, i, l))

    read : (b : Block) (r : ℕ) → Has entered.blocks b → r < 31 → reads_first (block_words b) r ≡ true → gps b.label r ≡ true
    read b r (inl e) l h = absurd (first (31 == r) (ap (λ (x : Block). reads_first (block_words x) r) e ∙ h))
      where
        first : (b : Bool) → (false || (Rattle.std.specs.Prelude.not (b || false) && false)) ≡ true → ⊥
        first true h = true≢false (sym h)
        first false h = true≢false (sym h)
    read b r (inr (inl e)) l h = absurd (first (not_31 r l) (29 == r) (ap (λ (x : Block). reads_first (block_words x) r) e ∙ h))
      where
        first : (31 == r) ≡ false → (b : Bool) → (((31 == r) || false) || (Rattle.std.specs.Prelude.not (b || false) && ((b || false) || (Rattle.std.specs.Prelude.not (b || false) && false)))) ≡ true → ⊥
        first n true h = true≢false (sym h ∙ rw n refl)
        first n false h = true≢false (sym h ∙ rw n refl)
    read b r (inr (inr (inl e))) l h =
        let n = not_31 r l in
        let h' : reads_first (block_words uses) r ≡ true = ap (λ (x : Block). reads_first (block_words x) r) e ∙ h in
        subst (λ (x : Block). gps x.label r ≡ true) e (own n (29 == r) refl h')
      where
        own : (31 == r) ≡ false → (b : Bool) → (29 == r) ≡ b → (((b || ((31 == r) || false))) || false) ≡ true → (r == 29) ≡ true
        own n true i h = eq-eqb r 29 (sym (eqb-true 29 r i))
        own n false i h = absurd (true≢false (sym h ∙ rw n refl))
    read b r (inr (inr (inr e))) l h = absurd e

    none_there : (b n : Block) (r : ℕ) → gps n.label r ≡ true → n.label.off ≡ 4 → ⊥
    none_there b n r h e = true≢false (sym h ∙ ap (λ (x : ℕ). (x == 12) && (r == 29)) e)

    goes : (b n : Block) (w : Word) → Has entered.blocks b → Has (block_words b) w → act_jumps (IsKeptLanding entered) w.act n.label → n.label.off ≡ 4
    goes b n w (inl e) m j = by_word (subst (λ (x : Block). Has (block_words x) w) (sym e) m)
      where
        by_word : Has (block_words calls) w → n.label.off ≡ 4
        by_word (inl i) = sym (ap (λ (q : Place). q.off) (subst (λ (x : Word). act_jumps (IsKeptLanding entered) x.act n.label) (sym i) j))
        by_word (inr i) = absurd i
    goes b n w (inr (inl e)) m j = by_word (subst (λ (x : Block). Has (block_words x) w) (sym e) m)
      where
        by_word : Has (block_words pair) w → n.label.off ≡ 4
        by_word (inl i) = absurd (subst (λ (x : Word). act_jumps (IsKeptLanding entered) x.act n.label) (sym i) j)
        by_word (inr (inl i)) = absurd (subst (λ (x : Word). act_jumps (IsKeptLanding entered) x.act n.label) (sym i) j)
        by_word (inr (inr i)) = absurd i
    goes b n w (inr (inr (inl e))) m j = by_word (subst (λ (x : Block). Has (block_words x) w) (sym e) m)
      where
        by_word : Has (block_words uses) w → n.label.off ≡ 4
        by_word (inl i) = absurd (subst (λ (x : Word). act_jumps (IsKeptLanding entered) x.act n.label) (sym i) j)
        by_word (inr i) = absurd i
    goes b n w (inr (inr (inr e))) m j = absurd e

    enter : (b n : Block) (r : ℕ) → Enters entered b n → r < 31 → gps n.label r ≡ true → written_in (block_words b) r ≡ false → gps b.label r ≡ true
    enter b n r (jumps_in w hb hn l j) k h u = absurd (none_there b n r h (goes b n w hb (last_has b w l) j))
    enter b n r (falls_in (inl x) o f) k h u = absurd (none_there b n r h (ap (λ (y : Block). y.label.off) (sym x.1)))
    enter b n r (falls_in (inr (inl x)) o f) k h u =
        let one : (r == 29) ≡ true = ap (λ (y : Block). gps y.label r) x.1 ∙ h in
        let same = eqb-true r 29 one in
        let w : written_in (block_words pair) r ≡ false = ap (λ (y : Block). written_in (block_words y) r) x.0 ∙ u in
        absurd (true≢false (subst (λ (z : ℕ). written_in (block_words pair) z ≡ false) same w))
    enter b n r (falls_in (inr (inr x)) o f) k h u = absurd x

-- past the pair r29 is read from the call on
pub fails_past : MaskChecked gps (last_set entered 0 (Br (at 0) Bsr 31 (at 12))) → ⊥
fails_past checked =
    true≢false (sym (checked.enters (record calls { last = Br (at 0) Bsr 31 (at 12) }) uses 29
    (jumps_in (record { at = at 0; act = act.To Bsr 31 (at 12) }) (inl refl) (inr (inr (inl refl))) ([], refl) refl) (omega arith) refl refl))

pub checks_may_fail : ChecksMayFail
checks_may_fail = record { passes_before = passes_before; fails_after = fails_after; passes_pair = passes_pair; fails_past = fails_past }
