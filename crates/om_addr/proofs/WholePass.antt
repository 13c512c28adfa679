-- The whole pass over addresses, of its three walks.
use Rattle.std.proofs.Common.{◌≡◌, ◌<◌, ℕ, Bool, true, false, ◌||◌, ◌==◌, List, refl, sym, ap, ◌∙◌, subst, arith}
use Rattle.std.specs.Prelude.{OnErr, Result, Ok, Err}
use Rattle.om_value.specs.declared.value.Target.{Target}
use Rattle.om_prog.specs.Act.{Lit, Word}
use Rattle.om_prog.specs.View.{ProgramView}
use Rattle.om_prog.specs.Valid.{IsProgram}
use Rattle.om_graph.specs.View.{Block, GraphView}
use Rattle.om_graph.specs.Held.{IsGraph}
use Rattle.om_graph.specs.Outs.{outs_of}
use Rattle.om_graph.specs.Left.{StandsIn, IsNear, IsDeadBy, NoNear}
use Rattle.om_graph.specs.Uses.{IsTextsLast}
use Rattle.om_graph.specs.Checks.{MaskChecked}
use Rattle.om_blocks.specs.Found.{masks_in}
use Rattle.om_layout.specs.Layout.{LayoutView, gp_of, address_of}
use Rattle.om_live.specs.Exact.{AreExact}
use Rattle.om_live.proofs.Exactness.{exact_by_label}
use Rattle.om_passes.specs.OneEdit.{MayGoOn}
use Rattle.om_passes.specs.Passed.{IsOfAProgram}
use Rattle.om_passes.proofs.InARow as steps
use Rattle.om_addr.specs.Passing.{HasRegionsOf, IsReduced, Reducing}
use Rattle.om_addr.specs.Idle.{IsTaken, Taking, IsIdleDone}
use Rattle.om_addr.specs.NearDone.{IsNearDone}
use Rattle.om_addr.specs.FarDone.{IsFarDone}
use Rattle.om_addr.specs.Whole.{IsWhole, IsAddressDone, IsStopped}
use Rattle.om_addr.proofs.InARow as row
use Rattle.om_addr.proofs.IdleLoads as taking

-- what keeps masks that pass the check, besides, is taken
pub taken : (l : LayoutView) (masks : List ℕ) (changed : Bool) (a b : GraphView) → MaskChecked (masks_in a masks) a → Reducing l masks changed a b → Taking l changed a b
taken l masks changed a b checked x = record {
  same = x.same;
  ids = x.ids;
  goes_on = x.goes_on;
  passed = λ p prog m. let y = x.passed p prog m checked in record { steps = y.steps; lighter = y.lighter; fits = y.fits };
}

whole_of : (l : LayoutView) (changed : Bool) (a b : GraphView) → Taking l changed a b → IsWhole l changed a b
whole_of l changed a b x = record { same = x.same; near = x.ids.near; passed = x.passed }

no_31 : (n : ℕ) → n ≡ 31 → n < 31 → ⊥
no_31 n e h = omega (arith, e, h)

module _ (l : LayoutView) (masks : List ℕ) (near far split idle all : Bool) (a b c d : GraphView) (exact : AreExact a masks)
    (n : Reducing l masks near a b) (f : Reducing l masks far b c) (i : Taking l idle c d)
    (split_is : split ≡ (near || far)) (all_is : all ≡ (split || idle)) where
  split_it : Reducing l masks split a c
  split_it = subst (λ (t : Bool). Reducing l masks t a c) (sym split_is) (row.all l masks near far a b c n f)

  pub whole : IsWhole l all a d
  whole = whole_of l all a d (taking.in_a_row l a c d split idle all all_is (taken l masks split a c exact.checked split_it) i)

  left_false : (v w : Bool) → (v || w) ≡ false → v ≡ false
  left_false false w e = refl
  left_false true w e = e

  right_false : (v w : Bool) → (v || w) ≡ false → w ≡ false
  right_false false w e = e
  right_false true false e = refl
  right_false true true e = e

  pub done :
      IsGraph a → (near ≡ false → IsNearDone l b) → (far ≡ false → IsFarDone l masks c) → (idle ≡ false → IsIdleDone l d) →
      all ≡ false → IsAddressDone l d
  done graph near_done far_done idle_done e = record {
    masks = masks_in d masks;
    outs = outs_of d (masks_in d masks);
    exact = exact_by_label d masks (subst IsGraph (sym d_is) graph) (subst (λ (g : GraphView). AreExact g masks) (sym d_is) exact);
    bytes = done_near.bytes;
    uses = done_near.uses;
    near = λ p prog m regions. record { loads = loads p regions };
    far = λ p prog m regions. done_far.far p prog m regions;
  }
    where
      no_split : split ≡ false
      no_split = left_false split idle (sym all_is ∙ e)

      no_idle : idle ≡ false
      no_idle = right_false split idle (sym all_is ∙ e)

      no_near : near ≡ false
      no_near = left_false near far (sym split_is ∙ no_split)

      no_far : far ≡ false
      no_far = right_false near far (sym split_is ∙ no_split)

      d_is_c : d ≡ c
      d_is_c = i.same no_idle

      d_is_b : d ≡ b
      d_is_b = d_is_c ∙ f.same no_far

      d_is : d ≡ a
      d_is = d_is_b ∙ n.same no_near

      done_near : IsNearDone l d
      done_near = subst (λ (g : GraphView). IsNearDone l g) (sym d_is_b) (near_done no_near)

      done_far : IsFarDone l masks d
      done_far = subst (λ (g : GraphView). IsFarDone l masks g) (sym d_is_c) (far_done no_far)

      done_idle : IsIdleDone l d
      done_idle = idle_done no_idle

      loads :
          (p : ProgramView) → HasRegionsOf p l → (x : Block) (bf : List Word) (w : Word) (ws : List Word) (ra rb : ℕ) (t : Target) →
          StandsIn d x bf w ws → w.act ≡ Lit ra rb t → IsNear p (gp_of l) (address_of l) w.at.obj t →
          IsDeadBy (outs_of d (masks_in d masks)) x ws ra × (IsTextsLast d w.at → ⊥)
      loads p regions x bf w ws ra rb t s k near =
          let is_31 = done_near.loads p x bf w ws ra rb t regions s k near in (
            λ low. absurd (no_31 ra is_31 low),
            λ last. done_idle.loads p x bf w ws rb t regions s (subst (λ (r : ℕ). w.act ≡ Lit r rb t) is_31 k) near last,
          )

-- ---- want of memory

pub stopped_none : (g : GraphView) → IsStopped g g
stopped_none g = record { near = λ k h. h; passed = λ p prog m. steps.none p prog g m.graph m.kept m.reach }

pub stopped_near : (l : LayoutView) (masks : List ℕ) (changed : Bool) (a b : GraphView) → AreExact a masks → Reducing l masks changed a b → IsStopped a b
stopped_near l masks changed a b exact x = record { near = x.ids.near; passed = λ p prog m. (x.passed p prog m exact.checked).steps }

pub when_err : {A E : Type 0} {P : Type 0} (r : Result A E) → P → OnErr r P
when_err (Ok a) x = tt
when_err (Err e) x = x
