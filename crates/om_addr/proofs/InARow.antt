-- Edits of addresses in a row.
use Rattle.std.proofs.Common.{◌≡◌, ◌<◌, ◌≤◌, ℕ, Bool, true, false, ◌||◌, List, Option, Some, None, refl, sym, ap, ◌∙◌, subst, arith}
use Rattle.std.specs.Prelude.{is_some}
use Rattle.om_prog.specs.View.{ProgramView}
use Rattle.om_prog.specs.Valid.{IsProgram}
use Rattle.om_graph.specs.declared.op.OpKind.{OpKind}
use Rattle.om_graph.specs.View.{GraphView, replaced}
use Rattle.om_graph.specs.Checks.{MaskChecked}
use Rattle.om_graph.specs.Weight.{weight}
use Rattle.om_blocks.specs.Found.{masks_in}
use Rattle.om_layout.specs.Layout.{LayoutView}
use Rattle.om_passes.specs.OneEdit.{MayGoOn}
use Rattle.om_passes.specs.Step.{GoesOn}
use Rattle.om_passes.specs.Passed.{IsOfAProgram}
use Rattle.om_passes.proofs.InARow as row
use Rattle.om_addr.specs.Passing.{IsReduced, KeepsIds, Reducing, ReducingOnce, set_if}

pub going : {p : ProgramView} {a b : GraphView} → GoesOn p a b → MayGoOn p b
going x = record { graph = x.graph; kept = x.kept; reach = x.reach }

pub by_false : {A : Type 0} → false ≡ true → A
by_false e = cc

pub by_true : {A : Type 0} → true ≡ false → A
by_true e = cc

pub ids_both : {a b c : GraphView} → KeepsIds a b → KeepsIds b c → KeepsIds a c
ids_both x y = record { blocks = y.blocks ∙ x.blocks; ops = y.ops ∙ x.ops; near = λ k h. y.near k (x.near k h) }

module _ (l : LayoutView) (masks : List ℕ) where
  pub none : (g : GraphView) → Reducing l masks false g g
  none g = record {
    same = λ e. refl;
    ids = record { blocks = refl; ops = refl; near = λ k h. h };
    goes_on = λ p prog m. m;
    passed = λ p prog m checked. record {
      steps = row.none p prog g m.graph m.kept m.reach;
      lighter = λ e. by_false e;
      fits = λ h f. f;
      checked = checked;
    };
  }

  pub more : (changed : Bool) (a b c : GraphView) → Reducing l masks changed a b → ReducingOnce l masks b c → Reducing l masks true a c
  more changed a b c x s = record {
    same = λ e. by_true e;
    ids = ids_both x.ids s.ids;
    goes_on = λ p prog m. s.goes_on p prog (x.goes_on p prog m);
    passed = passed;
  }
    where
      passed : (p : ProgramView) → IsProgram p → MayGoOn p a → MaskChecked (masks_in a masks) a → IsReduced p l masks true a c
      passed p prog m checked =
          let y = x.passed p prog m checked in
          let t = s.passed p prog (going y.steps.rewrites.goes_on) y.checked in
          let n = y.steps.rewrites.no_heavier in
          let k = t.step.rewrite.lighter in
          record {
            steps = row.more p a b c y.steps t.step;
            lighter = λ e. omega (arith, n, k);
            fits = λ h f. t.fits h (y.fits h f);
            checked = t.checked;
          }

  -- an op is given another kind, where there is one for it
  pub set : (changed : Bool) (a b : GraphView) (id : ℕ) (kind : Option OpKind) → Reducing l masks changed a b → ((k : OpKind) → kind ≡ Some k → ReducingOnce l masks b (replaced b id k)) → Reducing l masks (changed || is_some kind) a (set_if b id kind)
  set true a b id None x s = x
  set false a b id None x s = x
  set true a b id (Some k) x s = more true a b (replaced b id k) x (s k refl)
  set false a b id (Some k) x s = more false a b (replaced b id k) x (s k refl)

  pub stays : (changed : Bool) (a b : GraphView) → IsOfAProgram a → Reducing l masks changed a b → IsOfAProgram b
  stays changed a b o x = record { program = o.program; valid = o.valid; may_go_on = x.goes_on o.program o.valid o.may_go_on }

  pub all : (changed again : Bool) (a b c : GraphView) → Reducing l masks changed a b → Reducing l masks again b c → Reducing l masks (changed || again) a c
  all changed again a b c x z = record {
    same = same changed again x.same z.same;
    ids = ids_both x.ids z.ids;
    goes_on = λ p prog m. z.goes_on p prog (x.goes_on p prog m);
    passed = passed;
  }
    where
      same : (v w : Bool) → (v ≡ false → b ≡ a) → (w ≡ false → c ≡ b) → (v || w) ≡ false → c ≡ a
      same false false f h e = h refl ∙ f refl
      same true w f h e = by_true e
      same false true f h e = by_true e

      lighter : (v w : Bool) (i j k : ℕ) → j ≤ i → k ≤ j → (v ≡ true → j < i) → (w ≡ true → k < j) → (v || w) ≡ true → k < i
      lighter true w i j k m n f h e = let d = f refl in omega (arith, n, d)
      lighter false true i j k m n f h e = let d = h refl in omega (arith, m, d)
      lighter false false i j k m n f h e = by_false e

      passed : (p : ProgramView) → IsProgram p → MayGoOn p a → MaskChecked (masks_in a masks) a → IsReduced p l masks (changed || again) a c
      passed p prog m checked =
          let y = x.passed p prog m checked in
          let w = z.passed p prog (x.goes_on p prog m) y.checked in
          record {
            steps = row.all p a b c y.steps w.steps;
            lighter = lighter changed again (weight a) (weight b) (weight c) y.steps.rewrites.no_heavier w.steps.rewrites.no_heavier y.lighter w.lighter;
            fits = λ h f. w.fits h (y.fits h f);
            checked = w.checked;
          }
