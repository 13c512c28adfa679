-- A run only ever adds to what was written.
use Rattle.std.proofs.Common.{◌≡◌, ◌≤◌, ◌==◌, ℕ, zero, suc, ◌+◌, ◌-◌, List, [], ◌∷◌, ◌++◌, Bool, true, false, Option, Some, None, refl, ap, sym, subst, ◌∙◌, append_assoc, arith}
use Rattle.std.specs.Prelude.{if◌then◌else◌}
use Rattle.om_io.specs.Outside.{IsFrontOf}
use Rattle.om_isa.specs.SystemCall as call
use Rattle.om_isa.specs.Effect.{Nothing, Set, Store, Jump, Stop, Calls, StepObserves}
use Rattle.om_value.specs.declared.value.Place.{Place}
use Rattle.om_value.specs.declared.value.Value.{Value}
use Rattle.om_prog.specs.Act.{Script, Word}
use Rattle.om_prog.specs.Runs.{sym_step, step_if, step_word}
use Rattle.om_prog.specs.Step.{SymState, SymEnd, SymEffect, act_effect, after, calls}
use Rattle.om_symrun.specs.Steps.{sym_steps}
use Rattle.om_symrun.specs.Writing.{OnlyWrites}

no_more : (xs : List ℕ) → xs ++ [] ≡ xs
no_more [] = refl
no_more (x ∷ xs) = ap (λ ys. x ∷ ys) (no_more xs)

unchanged : (xs : List ℕ) → IsFrontOf xs xs
unchanged xs = ([], no_more xs)

further : (xs ys zs : List ℕ) → IsFrontOf xs ys → IsFrontOf ys zs → IsFrontOf xs zs
further xs ys zs p q =
    (p.0 ++ q.0, sym (append_assoc xs p.0 q.0) ∙ ap (λ bs. bs ++ q.0) p.1 ∙ q.1)

put_or_not : (b : Bool) (xs bytes : List ℕ) → IsFrontOf xs (if b then xs ++ bytes else xs)
put_or_not true xs bytes = (bytes, refl)
put_or_not false xs bytes = unchanged xs

not_or_put : (b : Bool) (xs bytes : List ℕ) → IsFrontOf xs (if b then xs else xs ++ bytes)
not_or_put true xs bytes = unchanged xs
not_or_put false xs bytes = (bytes, refl)

calls_only : (s : SymState) (at : Place) (c : call.Call) (a1 : Value) → OnlyWrites s (calls s at c a1)
calls_only s at (call.Puts d bytes) a1 =
    record { out = put_or_not (d == 1) s.out bytes; err = not_or_put (d == 1) s.err bytes }
calls_only s at (call.Exits status) a1 = record { out = unchanged s.out; err = unchanged s.err }
calls_only s at (call.Answers v0 a3) a1 = record { out = unchanged s.out; err = unchanged s.err }
calls_only s at (call.Takes count) a1 = record { out = unchanged s.out; err = unchanged s.err }
calls_only s at (call.HeapEnd offset) a1 = record { out = unchanged s.out; err = unchanged s.err }
calls_only s at (call.Resizes size) a1 = record { out = unchanged s.out; err = unchanged s.err }
calls_only s at call.CallObserves a1 = record { out = unchanged s.out; err = unchanged s.err }

after_only : (s : SymState) (at : Place) (e : SymEffect) → OnlyWrites s (after s at e)
after_only s at (Calls c a1) = calls_only s at c a1
after_only s at Nothing = record { out = unchanged s.out; err = unchanged s.err }
after_only s at (Set r n) = record { out = unchanged s.out; err = unchanged s.err }
after_only s at (Store w) = record { out = unchanged s.out; err = unchanged s.err }
after_only s at (Jump None to) = record { out = unchanged s.out; err = unchanged s.err }
after_only s at (Jump (Some r) to) = record { out = unchanged s.out; err = unchanged s.err }
after_only s at (Stop kind) = record { out = unchanged s.out; err = unchanged s.err }
after_only s at StepObserves = record { out = unchanged s.out; err = unchanged s.err }

word_only : (c : Script) (s : SymState) (o : Option Word) → OnlyWrites s (step_word c s o)
word_only c s None = record { out = unchanged s.out; err = unchanged s.err }
word_only c s (Some w) = after_only s w.at (act_effect c s w.at w.act)

step_at : (c : Script) (s : SymState) (end : Option SymEnd) → OnlyWrites s (step_if end c s)
step_at c s None = word_only c s (c.fetch s.place)
step_at c s (Some e) = record { out = unchanged s.out; err = unchanged s.err }

step_only : (c : Script) (s : SymState) → OnlyWrites s (sym_step c s)
unfolding sym_step
step_only c s = step_at c s s.ended

steps_only : (c : Script) (s : SymState) (k d : ℕ) → OnlyWrites (sym_steps c s k) (sym_steps c s (k + d))
unfolding sym_steps
steps_only c s k zero =
    let z : k + zero ≡ k = omega arith in
    rw z (record { out = unchanged (sym_steps c s k).out; err = unchanged (sym_steps c s k).err })
steps_only c s k (suc d) =
    let z : k + suc d ≡ suc (k + d) = omega arith in
    let before = steps_only c s k d in
    let next = step_only c (sym_steps c s (k + d)) in
    rw z (record {
      out = further (sym_steps c s k).out (sym_steps c s (k + d)).out _ before.out next.out;
      err = further (sym_steps c s k).err (sym_steps c s (k + d)).err _ before.err next.err;
    })

pub later_only : (c : Script) (s : SymState) (k n : ℕ) → k ≤ n → OnlyWrites (sym_steps c s k) (sym_steps c s n)
later_only c s k n few =
    let d : k + (n - k) ≡ n = omega arith in
    subst (λ m. OnlyWrites (sym_steps c s k) (sym_steps c s m)) d (steps_only c s k (n - k))
