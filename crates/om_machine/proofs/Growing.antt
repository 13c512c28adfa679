-- A run only ever adds to what was written.
use Rattle.std.proofs.Common.{◌≡◌, ◌≤◌, ◌==◌, ℕ, zero, suc, ◌+◌, ◌-◌, List, [], ◌∷◌, ◌++◌, Bool, true, false, Option, Some, None, refl, ap, sym, subst, ◌∙◌, append_assoc, arith}
use Rattle.std.specs.Prelude.{if◌then◌else◌}
use Rattle.om_io.specs.Outside.{IsFrontOf}
use Rattle.om_isa.specs.declared.instr.Instr.{Instr}
use Rattle.om_isa.specs.SystemCall as call
use Rattle.om_isa.specs.Effect.{Nothing, Set, Store, Jump, Stop, Calls, StepObserves}
use Rattle.om_image.specs.declared.image.Image.{Image}
use Rattle.om_image.specs.NumState.{NumState, NumEnd}
use Rattle.om_image.specs.NumStep.{NumEffect, num_step, step_if, executed, fetched, effect_at, after, calls}
use Rattle.om_image.specs.NumRun.{num_steps}
use Rattle.om_machine.specs.Writing.{OnlyWrites}

no_more : (xs : List ℕ) → xs ++ [] ≡ xs
no_more [] = refl
no_more (x ∷ xs) = ap (λ ys. x ∷ ys) (no_more xs)

unchanged : (xs : List ℕ) → IsFrontOf xs xs
unchanged xs = ([], no_more xs)

further : (xs ys zs : List ℕ) → IsFrontOf xs ys → IsFrontOf ys zs → IsFrontOf xs zs
further xs ys zs p q =
    (p.0 ++ q.0, sym (append_assoc xs p.0 q.0) ∙ ap (λ bs. bs ++ q.0) p.1 ∙ q.1)

put_or_not : (b : Bool) (xs bytes : List ℕ) → IsFrontOf xs (if b then xs ++ bytes else xs)
put_or_not true xs bytes = (bytes, refl)
put_or_not false xs bytes = unchanged xs

not_or_put : (b : Bool) (xs bytes : List ℕ) → IsFrontOf xs (if b then xs else xs ++ bytes)
not_or_put true xs bytes = unchanged xs
not_or_put false xs bytes = (bytes, refl)

calls_only : (s : NumState) (c : call.Call) (a1 : ℕ) → OnlyWrites s (calls s c a1)
calls_only s (call.Puts d bytes) a1 =
    record { out = put_or_not (d == 1) s.out bytes; err = not_or_put (d == 1) s.err bytes }
calls_only s (call.Exits status) a1 = record { out = unchanged s.out; err = unchanged s.err }
calls_only s (call.Answers v0 a3) a1 = record { out = unchanged s.out; err = unchanged s.err }
calls_only s (call.Takes count) a1 = record { out = unchanged s.out; err = unchanged s.err }
calls_only s (call.HeapEnd offset) a1 = record { out = unchanged s.out; err = unchanged s.err }
calls_only s (call.Resizes size) a1 = record { out = unchanged s.out; err = unchanged s.err }
calls_only s call.CallObserves a1 = record { out = unchanged s.out; err = unchanged s.err }

after_only : (s : NumState) (e : NumEffect) → OnlyWrites s (after s e)
after_only s (Calls c a1) = calls_only s c a1
after_only s Nothing = record { out = unchanged s.out; err = unchanged s.err }
after_only s (Set r n) = record { out = unchanged s.out; err = unchanged s.err }
after_only s (Store w) = record { out = unchanged s.out; err = unchanged s.err }
after_only s (Jump None to) = record { out = unchanged s.out; err = unchanged s.err }
after_only s (Jump (Some r) to) = record { out = unchanged s.out; err = unchanged s.err }
after_only s (Stop kind) = record { out = unchanged s.out; err = unchanged s.err }
after_only s StepObserves = record { out = unchanged s.out; err = unchanged s.err }

executed_only : (i : Image) (s : NumState) (o : Option Instr) → OnlyWrites s (executed i s o)
executed_only i s None = record { out = unchanged s.out; err = unchanged s.err }
executed_only i s (Some instr) = after_only s (effect_at i s instr)

step_at : (i : Image) (s : NumState) (end : Option NumEnd) → OnlyWrites s (step_if i s end)
step_at i s None = executed_only i s (fetched i s)
step_at i s (Some e) = record { out = unchanged s.out; err = unchanged s.err }

step_only : (i : Image) (s : NumState) → OnlyWrites s (num_step i s)
unfolding num_step
step_only i s = step_at i s s.end

steps_only : (i : Image) (s : NumState) (k d : ℕ) → OnlyWrites (num_steps i s k) (num_steps i s (k + d))
unfolding num_steps
steps_only i s k zero =
    let z : k + zero ≡ k = omega arith in
    rw z (record { out = unchanged (num_steps i s k).out; err = unchanged (num_steps i s k).err })
steps_only i s k (suc d) =
    let z : k + suc d ≡ suc (k + d) = omega arith in
    let before = steps_only i s k d in
    let next = step_only i (num_steps i s (k + d)) in
    rw z (record {
      out = further (num_steps i s k).out (num_steps i s (k + d)).out _ before.out next.out;
      err = further (num_steps i s k).err (num_steps i s (k + d)).err _ before.err next.err;
    })

pub later_only : (i : Image) (s : NumState) (k n : ℕ) → k ≤ n → OnlyWrites (num_steps i s k) (num_steps i s n)
later_only i s k n few =
    let d : k + (n - k) ≡ n = omega arith in
    subst (λ m. OnlyWrites (num_steps i s k) (num_steps i s m)) d (steps_only i s k (n - k))
