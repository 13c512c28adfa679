-- The promise of writing and ending, from runs that are alike at counted steps.
use Rattle.std.proofs.Common.{◌≡◌, ℕ, zero, suc, ◌+◌, ◌-◌, ◌*◌, ◌≤◌, Bool, true, false, cond, not, ◌==◌, List, [], ◌∷◌, ◌++◌, Option, Some, None, refl, ap, sym as back, subst, ◌∙◌, arith, append_assoc}
use Rattle.std.specs.Prelude.{IsTrue}
use Rattle.std.proofs.Math.Nat.{add-suc, add-zero, suc-mul}
use Rattle.om_isa.specs.declared.instr.Instr.{Instr}
use Rattle.om_isa.specs.Effect.{Nothing, Set, Store, Jump, Stop, Calls, StepObserves}
use Rattle.om_isa.specs.SystemCall.{Call, Exits, Answers, Puts, Takes, HeapEnd, Resizes, CallObserves}
use Rattle.om_prog.specs.Act.{Script}
use Rattle.om_prog.specs.Step.{SymState, SymEnd, ExitedWith, TrappedAt, ObservedAt}
use Rattle.om_prog.specs.Runs.{sym_step, sym_run, step_if, has_observed, is_clean}
use Rattle.om_image.specs.declared.image.Image.{Image}
use Rattle.om_image.specs.NumState.{NumState, NumEnd, Exited, Trapped}
use Rattle.om_image.specs.NumStep as num
use Rattle.om_image.specs.NumStep.{NumEffect, num_step, num_start}
use Rattle.om_image.specs.NumRun.{num_steps, num_run}
use Rattle.om_lockstep.specs.Addresses.{Addresses}
use Rattle.om_lockstep.specs.Lockstep.{Alike, EndAlike}
use Rattle.om_encode.specs.Headline.{IsPrefix, AlikeAtCounted, Headline, CountedGivesHeadline, LockstepGivesHeadline, FollowsAndRuns}

append_nil : (xs : List ℕ) → xs ≡ xs ++ []
append_nil [] = refl
append_nil (x ∷ xs) = ap (λ (ys : List ℕ). x ∷ ys) (append_nil xs)

-- ---- what a step writes is added

record Adds (s t : NumState) : Type 0 where
  out : IsPrefix s.out t.out
  err : IsPrefix s.err t.err

nothing_added : (s t : NumState) → s.out ≡ t.out → s.err ≡ t.err → Adds s t
nothing_added s t e f = record { out = ([], back e ∙ append_nil s.out); err = ([], back f ∙ append_nil s.err) }

puts_adds : (s : NumState) (d : ℕ) (bs : List ℕ) → Adds s (num.calls s (Puts d bs) 0)
puts_adds s d bs = record { out = by_out (d == 1); err = by_err (d == 1) }
  where
    by_out : (b : Bool) → IsPrefix s.out (cond b (s.out ++ bs) s.out)
    by_out true = (bs, refl)
    by_out false = ([], append_nil s.out)

    by_err : (b : Bool) → IsPrefix s.err (cond b s.err (s.err ++ bs))
    by_err true = ([], append_nil s.err)
    by_err false = (bs, refl)

calls_add : (s : NumState) (c : Call) (a : ℕ) → Adds s (num.calls s c a)
calls_add s (Puts d bs) a = puts_adds s d bs
calls_add s (Exits m) a = nothing_added s _ refl refl
calls_add s (Answers m k) a = nothing_added s _ refl refl
calls_add s (Takes m) a = nothing_added s _ refl refl
calls_add s (HeapEnd m) a = nothing_added s _ refl refl
calls_add s (Resizes m) a = nothing_added s _ refl refl
calls_add s CallObserves a = nothing_added s _ refl refl

after_adds : (s : NumState) (e : NumEffect) → Adds s (num.after s e)
after_adds s Nothing = nothing_added s _ refl refl
after_adds s (Set r v) = nothing_added s _ refl refl
after_adds s (Store w) = nothing_added s _ refl refl
after_adds s (Jump None q) = nothing_added s _ refl refl
after_adds s (Jump (Some r) q) = nothing_added s _ refl refl
after_adds s (Stop k) = nothing_added s _ refl refl
after_adds s (Calls c a) = calls_add s c a
after_adds s StepObserves = nothing_added s _ refl refl

executed_adds : (i : Image) (s : NumState) (o : Option Instr) → Adds s (num.executed i s o)
executed_adds i s None = nothing_added s _ refl refl
executed_adds i s (Some instr) = after_adds s (num.effect_at i s instr)

step_if_adds : (i : Image) (s : NumState) (o : Option NumEnd) → Adds s (num.step_if i s o)
step_if_adds i s None = executed_adds i s (num.fetched i s)
step_if_adds i s (Some e) = nothing_added s _ refl refl

step_adds : (i : Image) (s : NumState) → Adds s (num_step i s)
unfolding num_step
step_adds i s = step_if_adds i s s.end

prefixes : (xs ys zs : List ℕ) → IsPrefix xs ys → IsPrefix ys zs → IsPrefix xs zs
prefixes xs ys zs p q = (p.0 ++ q.0, q.1 ∙ ap (λ (l : List ℕ). l ++ q.0) p.1 ∙ append_assoc xs p.0 q.0)

-- later states of a run have written more
later_adds : (i : Image) (s : NumState) (k m : ℕ) → Adds (num_steps i s k) (num_steps i s (k + m))
unfolding num_steps
later_adds i s k zero = subst (λ j. Adds (num_steps i s k) (num_steps i s j)) (back (add-zero k)) (nothing_added _ _ refl refl)
later_adds i s k (suc m) =
    let h = later_adds i s k m in
    let g = step_adds i (num_steps i s (k + m)) in
    subst (λ j. Adds (num_steps i s k) (num_steps i s j)) (back (add-suc k m))
    (record { out = prefixes _ _ _ h.out g.out; err = prefixes _ _ _ h.err g.err })

-- a run that has ended stays
stays_if : (i : Image) (s : NumState) (o : Option NumEnd) → (o ≡ None → ⊥) → num.step_if i s o ≡ s
stays_if i s None h = absurd (h refl)
stays_if i s (Some e) h = refl

step_stays : (i : Image) (s : NumState) → (s.end ≡ None → ⊥) → num_step i s ≡ s
unfolding num_step
step_stays i s h = stays_if i s s.end h

later_stays : (i : Image) (s : NumState) (k m : ℕ) → ((num_steps i s k).end ≡ None → ⊥) → num_steps i s (k + m) ≡ num_steps i s k
unfolding num_steps
later_stays i s k zero h = ap (num_steps i s) (add-zero k)
later_stays i s k (suc m) h =
    let e = later_stays i s k m h in
    ap (num_steps i s) (add-suc k m) ∙ ap (num_step i) e ∙ step_stays i (num_steps i s k) h

-- alike states have both ended, or neither
none_back : (l : Addresses) (o : Option SymEnd) (e : Option NumEnd) → EndAlike l o e → e ≡ None → o ≡ None
none_back l None e h z = refl
none_back l (Some (ExitedWith m)) (Some (Exited n)) h z = cc
none_back l (Some (TrappedAt k p)) (Some (Trapped j a)) h z = cc
none_back l (Some (ExitedWith m)) None h z = absurd h
none_back l (Some (TrappedAt k p)) None h z = absurd h
none_back l (Some (ObservedAt p)) e h z = absurd h
none_back l (Some (ExitedWith m)) (Some (Trapped j a)) h z = absurd h
none_back l (Some (TrappedAt k p)) (Some (Exited n)) h z = absurd h

none_on : (l : Addresses) (o : Option SymEnd) (e : Option NumEnd) → EndAlike l o e → o ≡ None → e ≡ None
none_on l None None h z = refl
none_on l None (Some f) h z = absurd h
none_on l (Some f) e h z = cc

clean_running : (o : Option SymEnd) → o ≡ None → IsTrue (not (has_observed o))
clean_running None z = refl
clean_running (Some e) z = cc

module _ (c : Script) (l : Addresses) (i : Image) (input : List ℕ) (words : ℕ) (counted : ℕ → ℕ) (h : AlikeAtCounted c l i input words counted) where
  grows : (n : ℕ) → Adds (num_run i input (counted n)) (num_run i input n)
  grows n =
      let k = h.fewer n in
      let e : counted n + (n - counted n) ≡ n = omega arith in
      subst (λ j. Adds (num_run i input (counted n)) (num_run i input j)) e (later_adds i (num_start i input) (counted n) (n - counted n))

  -- an earlier step of a symbolic run that has not ended had not ended
  step_back : (s : SymState) → (sym_step c s).ended ≡ None → s.ended ≡ None
  unfolding sym_step
  step_back s e = by_end s.ended refl
    where
      by_end : (o : Option SymEnd) → s.ended ≡ o → s.ended ≡ None
      by_end None z = z
      by_end (Some f) z =
          let k : (step_if s.ended c s).ended ≡ Some f = ap (λ o. (step_if o c s).ended) z ∙ z in
          absurd (none_some f (back e ∙ k))
        where
          none_some : (f : SymEnd) → None ≡ Some f → ⊥
          none_some f e = cc

  running_back : (n m : ℕ) → (sym_run c input (n + m)).ended ≡ None → (sym_run c input n).ended ≡ None
  unfolding sym_run
  running_back n zero e = subst (λ j. (sym_run c input j).ended ≡ None) (add-zero n) e
  running_back n (suc m) e =
      running_back n m (step_back (sym_run c input (n + m)) (subst (λ j. (sym_run c input j).ended ≡ None) (add-suc n m) e))

  -- j times words + 1 steps that have not ended hold j counted ones
  many : (j : ℕ) → (sym_run c input (j * suc words)).ended ≡ None → j ≤ counted (j * suc words)
  many zero e = omega arith
  many (suc j) e =
      let p : suc j * suc words ≡ j * suc words + suc words = suc-mul j (suc words) in
      let e1 = subst (λ k. (sym_run c input k).ended ≡ None) p e in
      let e0 = running_back (j * suc words) (suc words) e1 in
      let a = many j e0 in
      let b = h.one_of (j * suc words) e1 in
      subst (λ k. suc j ≤ counted k) (back p) (omega arith)

  gives : Headline c l i input words
  gives = record {
    out = λ n clean. let a = h.alike n clean in subst (λ xs. IsPrefix xs (num_run i input n).out) a.out (grows n).out;
    err = λ n clean. let a = h.alike n clean in subst (λ xs. IsPrefix xs (num_run i input n).err) a.err (grows n).err;
    ends =
        λ n clean ended.
        let a = h.alike n clean in
        let k = h.fewer n in
        let e : counted n + (n - counted n) ≡ n = omega arith in
        let stay = later_stays i (num_start i input) (counted n) (n - counted n) (λ z. ended (none_back l _ _ a.ended z)) in
        subst (λ t. Alike l (sym_run c input n) t) (back stay ∙ ap (num_run i input) e) a;
    only =
        λ m ended running.
        let k = many (suc m) running in
        let clean = clean_running _ running in
        let a = h.alike (suc m * suc words) clean in
        let e : m + (counted (suc m * suc words) - m) ≡ counted (suc m * suc words) = omega arith in
        let stay : num_run i input (counted (suc m * suc words)) ≡ num_run i input m =
        ap (num_run i input) (back e) ∙ later_stays i (num_start i input) m (counted (suc m * suc words) - m) ended in
        ended (ap (λ (t : NumState). t.end) (back stay) ∙ none_on l _ _ a.ended running);
  }

pub counted_gives_headline : CountedGivesHeadline
counted_gives_headline c l i input words counted h = gives c l i input words counted h

pub lockstep_gives_headline : LockstepGivesHeadline
lockstep_gives_headline c l i input words run =
    gives c l i input words (λ n. n) (record { fewer = λ n. omega arith; alike = run; one_of = λ n e. omega arith })

pub follows_and_runs : FollowsAndRuns
follows_and_runs c d l i input words counted f run = record {
  fewer = f.fewer;
  alike =
      λ n clean.
      let a = f.alike n clean in
      let same : is_clean d input (counted n) ≡ is_clean c input n = ap (λ o. not (has_observed o)) a.ended in
      let b = run (counted n) (same ∙ clean) in
      record {
        input = b.input ∙ a.input;
        out = b.out ∙ a.out;
        err = b.err ∙ a.err;
        ended = subst (λ o. EndAlike l o (num_run i input (counted n)).end) a.ended b.ended;
      };
  one_of = f.one_of;
}
