-- Of enough steps in a row at least one is left in.
use Rattle.std.proofs.Common.{◌≡◌, ◌≤◌, ◌<◌, ◌+◌, ◌*◌, ℕ, zero, suc, Bool, true, false, List, [], ◌∷◌, length, Option, Some, None, refl, sym, ap, ◌∙◌, subst, arith, inl, inr, ◌⊎◌}
use Rattle.std.specs.Prelude.{not, fold, sum, slice_index_or}
use Rattle.std.proofs.lemmas.Bool.{cases_lt}
use Rattle.om_value.specs.declared.value.Place.{Place}
use Rattle.om_prog.specs.Act.{Word, Script, act_writes}
use Rattle.om_prog.specs.View.{ProgramView}
use Rattle.om_prog.specs.Step.{SymState, SymEnd, SymEffect, next_place, act_effect, after}
use Rattle.om_prog.specs.Runs.{sym_run, sym_step, step_if, step_word, trace, add_step, has_observed}
use Rattle.om_graph.specs.View.{GraphView}
use Rattle.om_graph.specs.Run.{words, graph_script}
use Rattle.om_graph.specs.Form.{is_address}
use Rattle.om_graph.specs.LeftIn.{is_left, left, left_onto, left_in, Keeps}
use Rattle.om_graph.proofs.Forward.{step_runs, trace_adds}
use Rattle.om_graph.proofs.Fetching.{found_from, found_has}
use Rattle.om_graph.proofs.Places.{InLabels}
use Rattle.om_graph.proofs.Straight.{Straight, idle, sets, over, act_straight}

-- m steps later
abbrev pub later : ℕ → ℕ → ℕ
later n zero = n
later n (suc m) = suc (later n m)

pub later_sum : (n m : ℕ) → later n m ≡ n + m
later_sum n zero = omega arith
later_sum n (suc m) = let e = later_sum n m in omega arith

going_before : (c : Script) (s : SymState) (e : Option SymEnd) → s.ended ≡ e → (step_if e c s).ended ≡ None → s.ended ≡ None
going_before c s None h on = h
going_before c s (Some e) h on = on

-- a run that has not ended had not ended before, and where no word follows it ends
run_before : (c : Script) (input : List ℕ) (n : ℕ) → (sym_run c input (suc n)).ended ≡ None → (sym_run c input n).ended ≡ None
unfolding sym_run sym_step
run_before c input n on = going_before c (sym_run c input n) (sym_run c input n).ended refl on

stuck : (c : Script) (s : SymState) → s.ended ≡ None → c.fetch s.place ≡ None → sym_step c s ≡ step_word c s None
unfolding sym_step
stuck c s going found = ap (λ e. step_if e c s) going ∙ ap (λ o. step_word c s o) found

next_step : (c : Script) (input : List ℕ) (n : ℕ) → sym_run c input (suc n) ≡ sym_step c (sym_run c input n)
unfolding sym_run
next_step c input n = refl

on_step : (c : Script) (input : List ℕ) (n : ℕ) → (sym_run c input (suc n)).ended ≡ None → (sym_step c (sym_run c input n)).ended ≡ None
unfolding sym_run
on_step c input n on = on

-- a word is found at the run's place or after it, below the limit, and from one that is left out the run goes on to the
-- next place
pub record GoesOn (c : Script) (g : GraphView) (limit : ℕ) (input : List ℕ) : Type 0 where
  pub below : (p : Place) (w : Word) → c.fetch p ≡ Some w → (p.off ≤ w.at.off) × (w.at.off + 4 ≤ limit)
  pub straight :
      (n : ℕ) (w : Word) → (sym_run c input n).ended ≡ None → c.fetch (sym_run c input n).place ≡ Some w →
      (sym_run c input (suc n)).ended ≡ None → is_left g (left_in g c input n) w.at ≡ false →
      (step_word c (sym_run c input n) (Some w)).place ≡ next_place w.at

grows_word : (b : Bool) (p : Place) (ps : List Place) → length ps ≤ length (left_onto b p ps)
grows_word true p ps = omega arith
grows_word false p ps = omega arith

grows :
    (c : Script) (g : GraphView) (ps : List Place) (s : SymState) (e : Option SymEnd) (o : Option Word) → c.fetch s.place ≡ o →
    length (left g ps) ≤ length (left g (add_step e c s ps))
grows c g ps s (Some e) o h = omega arith
grows c g ps s None None h = rw h (omega arith)
grows c g ps s None (Some w) h = rw h (grows_word (is_left g (left g ps) w.at) w.at (left g ps))

module _ (c : Script) (g : GraphView) (limit : ℕ) (input : List ℕ) (goes : GoesOn c g limit input) where
  -- after a step that is left out
  record Out (s t : SymState) : Type 0 where
    pub off : s.place.off + 4 ≤ t.place.off
    pub inside : t.place.off ≤ limit

  abbrev count : ℕ → ℕ
  count n = length (left_in g c input n)

  one_out :
      (n : ℕ) (w : Word) (b : Bool) → (sym_run c input n).ended ≡ None → c.fetch (sym_run c input n).place ≡ Some w →
      (sym_run c input (suc n)).ended ≡ None → is_left g (left_in g c input n) w.at ≡ b →
      length (left_onto b w.at (left_in g c input n)) ≤ count n → Out (sym_run c input n) (step_word c (sym_run c input n) (Some w))
  one_out n w true going found on e l = absurd (omega (arith, l))
  one_out n w false going found on e l =
      let p = goes.straight n w going found on e in
      let b = goes.below (sym_run c input n).place w found in
      let o = ap (λ (q : Place). q.off) p in
      record { off = omega (arith, o, b); inside = omega (arith, o, b) }

  step_out :
      (n : ℕ) → (sym_run c input (suc n)).ended ≡ None → count (suc n) ≤ count n → Out (sym_run c input n) (sym_run c input (suc n))
  unfolding trace
  step_out n on l = by_word (c.fetch s.place) refl
    where
      s : SymState
      s = sym_run c input n

      going : (sym_run c input n).ended ≡ None
      going = run_before c input n on

      by_word : (o : Option Word) → c.fetch s.place ≡ o → Out (sym_run c input n) (sym_run c input (suc n))
      by_word (Some w) f =
          let next = next_step c input n ∙ step_runs c s w going f in
          subst (λ (t : SymState). Out s t) (sym next)
          (one_out n w _ going f on refl (subst (λ (ps : List Place). length (left g ps) ≤ count n) (trace_adds c s w (trace c input n) going f) l))
      by_word None f = absurd (stops (sym (ap (λ (t : SymState). t.ended) (stuck c s going f)) ∙ on_step c input n on))
        where
          stops : {e : SymEnd} → Some e ≡ None → ⊥
          stops e = cc

  count_grows : (n : ℕ) → count n ≤ count (suc n)
  unfolding trace
  count_grows n = grows c g (trace c input n) (sym_run c input n) _ _ refl

  count_later : (n m : ℕ) → count n ≤ count (later n m)
  count_later n zero = omega arith
  count_later n (suc m) =
      let a = count_later n m in
      let b = count_grows (later n m) in
      omega (arith, a, b)

  -- m steps in a row that are left out
  far :
      (n m : ℕ) → (sym_run c input (later n m)).ended ≡ None → count (later n m) ≤ count n →
      ((sym_run c input n).place.off + 4 * m ≤ (sym_run c input (later n m)).place.off) × (0 < m → (sym_run c input (later n m)).place.off ≤ limit)
  far n zero on l = (omega arith, λ h. omega arith)
  far n (suc m) on l =
      let g0 = run_before c input (later n m) on in
      let a = count_later n m in
      let b = count_grows (later n m) in
      let i = far n m g0 (omega (arith, a, b, l)) in
      let o = step_out (later n m) on (omega (arith, a, b, l)) in
      let of = o.off in
      let i0 = i.0 in
      (omega (arith, of, i0), λ h. o.inside)

  pub one_of :
      (n m : ℕ) → limit < 4 * m → (sym_run c input (n + m)).ended ≡ None → count n < count (n + m)
  one_of n m h on = by_cases (cases_lt (count n) (count (n + m)))
    where
      by_cases : (count n < count (n + m)) ⊎ (count (n + m) ≤ count n) → count n < count (n + m)
      by_cases (inl y) = y
      by_cases (inr y) =
          let e = later_sum n m in
          let f = far n m (ap (λ k. (sym_run c input k).ended) e ∙ on) (subst (λ k. count k ≤ count n) (sym e) y) in
          let f0 = f.0 in
          let f1 = f.1 (omega arith) in
          absurd (omega (arith, f0, f1))

-- ---- of two graphs

index_onto : (ns : List ℕ) (k a : ℕ) → a + slice_index_or ns k 0 ≤ fold (λ a x. a + x) a ns
index_onto [] k a = omega arith
index_onto (n ∷ ns) zero a = let i = index_onto ns (length ns) (a + n) in omega (arith, i)
index_onto (n ∷ ns) (suc k) a = let i = index_onto ns k (a + n) in omega (arith, i)

index_le : (ns : List ℕ) (k : ℕ) → slice_index_or ns k 0 ≤ sum ns
index_le ns k = let i = index_onto ns k 0 in omega (arith, i)

-- the steps that a run takes in a row of words of which none is left in are at most as many as there are words
module _ (p : ProgramView) (old new : GraphView) (within : InLabels old) (keeps : Keeps p old new) where
  abbrev c : Script
  c = graph_script p old

  next_is : (s : SymState) (w : Word) → is_address w.act ≡ true → (step_word c s (Some w)).ended ≡ None → s.ended ≡ None → (step_word c s (Some w)).place ≡ next_place w.at
  next_is s w a on going = by_effect (act_effect c s w.at w.act) (act_straight c s w.at w.act a) on
    where
      by_effect : (e : SymEffect) → Straight (act_writes w.act) e → (after s w.at e).ended ≡ None → (after s w.at e).place ≡ next_place w.at
      by_effect e idle on = refl
      by_effect e (sets r v m) on = refl
      by_effect e over on = cc

  on_there : (input : List ℕ) (n : ℕ) (w : Word) → (sym_run c input n).ended ≡ None → c.fetch (sym_run c input n).place ≡ Some w → (sym_run c input (suc n)).ended ≡ None → (step_word c (sym_run c input n) (Some w)).ended ≡ None
  unfolding sym_run
  on_there input n w going found on = sym (ap (λ (t : SymState). t.ended) (step_runs c (sym_run c input n) w going found)) ∙ on

  goes_on : (input : List ℕ) → GoesOn c new (4 * sum old.counts) input
  goes_on input = record {
    below = λ q w f.
        let u = found_from (words old) q w f in
        let u1 = u.1 in
        let i = within.words w (found_has (words old) q w f) in
        let k = index_le old.counts w.at.obj in
        (u1, omega (arith, i, k));
    straight = λ n w going found on out.
        let next = step_runs c (sym_run c input n) w going found in
        let clean = ap (λ e. not (has_observed e)) on in
        next_is (sym_run c input n) w (keeps.straight input n w clean going found out) (on_there input n w going found on) going;
  }

  pub some_left :
      (input : List ℕ) (n : ℕ) → (sym_run c input (n + suc (sum old.counts))).ended ≡ None →
      length (left_in new c input n) < length (left_in new c input (n + suc (sum old.counts)))
  some_left input n on = one_of c new (4 * sum old.counts) input (goes_on input) n (suc (sum old.counts)) (omega arith) on
