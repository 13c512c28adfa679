-- Passes in a row.
use Rattle.std.proofs.Common.{refl, ◌∙◌, arith}
use Rattle.std.specs.Prelude.{◌≡◌, ◌<◌, ◌≤◌, ◌||◌, ℕ, Bool, true, false}
use Rattle.om_value.specs.declared.value.Target.{Target}
use Rattle.om_prog.specs.View.{ProgramView}
use Rattle.om_prog.specs.Valid.{IsProgram}
use Rattle.om_graph.specs.View.{GraphView}
use Rattle.om_graph.specs.Weight.{weight}
use Rattle.om_passes.specs.OneEdit.{MayGoOn}
use Rattle.om_passes.specs.Step.{GoesOn, Steps}
use Rattle.om_passes.specs.Passed.{FitsStill, IsPassed, Passes, IsStep, IsOfAProgram}
use Rattle.om_passes.proofs.InARow as row

going : {p : ProgramView} {a b : GraphView} → GoesOn p a b → MayGoOn p b
going x = record { graph = x.graph; kept = x.kept; reach = x.reach }

by_false : {A : Type 0} → false ≡ true → A
by_false e = cc

by_true : {A : Type 0} → true ≡ false → A
by_true e = cc

pub none : (g : GraphView) → Passes false g g
none g = record {
  same = λ e. refl;
  passed = λ p prog m. record {
    steps = row.none p prog g m.graph m.kept m.reach;
    lighter = λ e. by_false e;
    fits = λ gp address fit. fit;
  };
}

pub more : (changed : Bool) (a b c : GraphView) → Passes changed a b → IsStep b c → Passes true a c
more changed a b c x s = record { same = λ e. by_true e; passed = passed }
  where
    passed : (p : ProgramView) → IsProgram p → MayGoOn p a → IsPassed p true a c
    passed p prog m =
        let y = x.passed p prog m in
        let n = going y.steps.rewrites.goes_on in
        let t = s.step p prog n in
        let l = y.steps.rewrites.no_heavier in
        let k = t.rewrite.lighter in
        record {
          steps = row.more p a b c y.steps t;
          lighter = λ e. omega (arith, l, k);
          fits = λ gp address fit. s.fits p prog n gp address (y.fits gp address fit);
        }

lighter_all : (changed again : Bool) (a b c : ℕ) → b ≤ a → c ≤ b → (changed ≡ true → b < a) → (again ≡ true → c < b) → (changed || again) ≡ true → c < a
lighter_all true again a b c l k f h e = let m = f refl in omega (arith, k, m)
lighter_all false true a b c l k f h e = let m = h refl in omega (arith, l, m)
lighter_all false false a b c l k f h e = by_false e

same_all : (changed again : Bool) (a b c : GraphView) → (changed ≡ false → b ≡ a) → (again ≡ false → c ≡ b) → (changed || again) ≡ false → c ≡ a
same_all false false a b c f h e = h refl ∙ f refl
same_all true again a b c f h e = by_true e
same_all false true a b c f h e = by_true e

pub all : (changed again : Bool) (a b c : GraphView) → Passes changed a b → Passes again b c → Passes (changed || again) a c
all changed again a b c x z = record { same = same_all changed again a b c x.same z.same; passed = passed }
  where
    passed : (p : ProgramView) → IsProgram p → MayGoOn p a → IsPassed p (changed || again) a c
    passed p prog m =
        let y = x.passed p prog m in
        let w = z.passed p prog (going y.steps.rewrites.goes_on) in
        record {
          steps = row.all p a b c y.steps w.steps;
          lighter = lighter_all changed again (weight a) (weight b) (weight c) y.steps.rewrites.no_heavier w.steps.rewrites.no_heavier y.lighter w.lighter;
          fits = λ gp address fit. w.fits gp address (y.fits gp address fit);
        }

pub goes_on : (changed : Bool) (a b : GraphView) (p : ProgramView) → IsProgram p → MayGoOn p a → Passes changed a b → MayGoOn p b
goes_on changed a b p prog m x = going (x.passed p prog m).steps.rewrites.goes_on

pub stays : (changed : Bool) (a b : GraphView) → IsOfAProgram a → Passes changed a b → IsOfAProgram b
stays changed a b o x = record { program = o.program; valid = o.valid; may_go_on = goes_on changed a b o.program o.valid o.may_go_on x }
