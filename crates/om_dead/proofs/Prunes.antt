-- Dropping, deletion and the marks in a row.
use Rattle.std.proofs.Common.{◌≡◌, Bool, true, false, ◌||◌, refl, sym, ap, ◌∙◌, subst}
use Rattle.std.proofs.lemmas.Bool.{true≢false}
use Rattle.om_prog.specs.View.{ProgramView}
use Rattle.om_prog.specs.Valid.{IsProgram}
use Rattle.om_graph.specs.View.{GraphView, cleared}
use Rattle.om_graph.specs.Left.{OnlyKeptSet}
use Rattle.om_graph.specs.Same.{SameGraph}
use Rattle.om_graph.specs.Stands.{BasesStand}
use Rattle.om_passes.specs.OneEdit.{MayGoOn}
use Rattle.om_passes.specs.Passed.{IsPassed, Passes, IsOfAProgram}
use Rattle.om_passes.specs.Step.{Rewrites}
use Rattle.om_passes.proofs.Cleared.{passed_cleared, passed_all}
use Rattle.om_passes.proofs.InARow.{both}
use Rattle.om_dead.specs.Words.{IsWithoutDead, IsCleared, IsRewritten}
use Rattle.om_dead.proofs.OnSweeps.{going}
use Rattle.om_dead.proofs.Unmarked.{only_kept, without_on}

pub program_of : (p : ProgramView) (g : GraphView) → IsProgram p → MayGoOn p g → IsOfAProgram g
program_of p g prog m = record { program = p; valid = prog; may_go_on = m }

neither : (a b : Bool) → (a || b) ≡ false → (a ≡ false) × (b ≡ false)
neither true b e = absurd (true≢false e)
neither false b e = (refl, e)

module _ (p : ProgramView) (prog : IsProgram p) (a b : GraphView) (m : MayGoOn p a) (dropped : Bool) (x : Passes dropped a b) where
  then : MayGoOn p b
  then = going (x.passed p prog m).steps.rewrites.goes_on

  pub then_program : IsOfAProgram b
  then_program = program_of p b prog then

  pub stopped : (c : GraphView) → IsRewritten b c → Rewrites p a c
  stopped c r = both p a b c (x.passed p prog m).steps.rewrites (r p prog then)

  module _ (bases : BasesStand p a) (c d : GraphView) (deleted : Bool) (y : IsCleared deleted b c) where
    row : IsPassed p (dropped || deleted) a c
    row =
        let z = x.passed p prog m in
        passed_all p dropped deleted a b c z (y.passed p prog then (z.steps.rewrites.bases bases))

    pub left_off : Rewrites p a c
    left_off = row.steps.rewrites

    module _ (e : d ≡ cleared c) where
      pub all_passed : IsPassed p (dropped || deleted) a d
      all_passed = subst (λ (g : GraphView). IsPassed p (dropped || deleted) a g) (sym e) (passed_cleared c p a (dropped || deleted) row)

      pub none_dead : IsWithoutDead d
      none_dead = subst (λ (g : GraphView). IsWithoutDead g) (sym e) (without_on c y.none)

      pub same_graph : (dropped || deleted) ≡ false → SameGraph a d
      same_graph f =
          let n = neither dropped deleted f in
          let s : c ≡ a = y.same n.1 ∙ x.same n.0 in
          subst (λ (g : GraphView). SameGraph a g) (sym (e ∙ ap cleared s)) (record { counts = refl; roots = refl; tables = refl; labels = refl; blocks = refl })

      pub all_kept : (dropped ≡ false → OnlyKeptSet b) → (dropped || deleted) ≡ false → OnlyKeptSet d
      all_kept k f =
          let n = neither dropped deleted f in
          subst (λ (g : GraphView). OnlyKeptSet g) (sym (e ∙ ap cleared (y.same n.1))) (only_kept b (k n.0))

pub with_true : (a b : Bool) → a ≡ true → (a || b) ≡ a
with_true true b e = refl
with_true false b e = absurd (true≢false (sym e))

pub with_false : (a b : Bool) → a ≡ false → (a || b) ≡ b
with_false true b e = absurd (true≢false e)
with_false false b e = refl
