-- A turn of rewriting goes on from one state between turns to the next, and the last one leaves nothing to rewrite.
use Rattle.std.proofs.Common.{inl, inr, ◌+◌, ◌*◌, ◌<◌, ◌≤◌, ℕ, Bool, true, false, List, [], refl, sym, ap, subst, ◌∙◌, arith}
use Rattle.std.specs.Prelude.{◌≡◌, ◌||◌}
use Rattle.om_prog.specs.View.{ProgramView}
use Rattle.om_prog.specs.Valid.{IsProgram}
use Rattle.om_flow.specs.declared.parts.Fact.{Fact}
use Rattle.om_graph.specs.View.{GraphView, cleared}
use Rattle.om_graph.specs.Fits.{OpsFit}
use Rattle.om_graph.specs.Left.{NoDirect, NoDrop, NoEnter, OnlyKeptSet}
use Rattle.om_graph.specs.OfProgram.{IsGraphOf}
use Rattle.om_graph.specs.Rewritten.{SameFrame}
use Rattle.om_graph.specs.Run.{graph_script}
use Rattle.om_graph.specs.Stands.{BasesStand}
use Rattle.om_graph.specs.Weight.{weight, one_if}
use Rattle.om_blocks.specs.Found.{facts_in}
use Rattle.om_gpfacts.specs.Exact.{AreExact}
use Rattle.om_gpfacts.proofs.Exactness.{exact_by_label}
use Rattle.om_uses.specs.Parts.{Kept, IsUsesOf}
use Rattle.om_layout.specs.Layout.{LayoutView, gp_of, address_of}
use Rattle.om_layout.specs.Limits.{IsWithinLimits}
use Rattle.om_layout.specs.Order.{IsLayoutOf}
use Rattle.om_layout.proofs.Limits.{stays}
use Rattle.om_passes.specs.OneEdit.{MayGoOn}
use Rattle.om_passes.specs.Step.{FewerTargets, Steps}
use Rattle.om_passes.specs.Passed.{FitsStill, IsPassed, Passes, IsOfAProgram}
use Rattle.om_passes.proofs.Passed as row
use Rattle.om_passes.proofs.InARow.{all}
use Rattle.om_passes.proofs.Cleared.{cleared_fits, steps_cleared, passed_cleared, same_unmarked}
use Rattle.om_shrink.proofs.Fits.{ops_fit}
use Rattle.om_shrink.proofs.Placed.{are_placed}
use Rattle.om_thorough.proofs.Masks.{exact_masks_agree}
use Rattle.om_dead.specs.Words.{IsWithoutDead}
use Rattle.om_addr.specs.Idle.{IsTaken}
use Rattle.om_addr.specs.Passing.{HasRegionsOf}
use Rattle.om_addr.specs.Whole.{IsWhole, IsAddressDone}
use Rattle.om_link.specs.Rounds.{MayBegin, AreRounds}
use Rattle.om_link.proofs.HasRegions.{has_regions}
use Rattle.om_link.specs.Turns.{FitSoFar, AreCallsDone, LoadsPass, IsBetween}

-- ---- one of three

record AreNone (a b c : Bool) : Type 0 where
  first : a ≡ false
  second : b ≡ false
  third : c ≡ false

by_true : {A : Type 0} → true ≡ false → A
by_true e = cc

by_false : {A : Type 0} → false ≡ true → A
by_false e = cc

none_of : (a b c : Bool) → ((a || b) || c) ≡ false → AreNone a b c
none_of false false false e = record { first = refl; second = refl; third = refl }
none_of false false true e = by_true e
none_of false true c e = by_true e
none_of true b c e = by_true e

-- ---- graphs without marks

unmarked : (g : GraphView) → g.touched ≡ [] → cleared g ≡ g
unmarked g m = same_unmarked g (cleared g) (record { counts = refl; roots = refl; tables = refl; labels = refl; blocks = refl }) m refl

pass_cleared : (changed : Bool) (a b : GraphView) → a.touched ≡ [] → Passes changed a b → Passes changed a (cleared b)
pass_cleared changed a b m x = record {
  same = λ e. ap cleared (x.same e) ∙ unmarked a m;
  passed = λ p prog may. passed_cleared b p a changed (x.passed p prog may);
}

-- ---- calls

module _ (d e n said : Bool) (g0 g1 g2 g3 g4 : GraphView) (is : said ≡ ((d || e) || n)) (clear : g4 ≡ cleared g3) (marks : g0.touched ≡ [])
    (one : Passes d g0 g1) (two : Passes e g1 g2) (three : Passes n g2 g3) where
  pub calls_pass : Passes said g0 g4
  calls_pass =
      subst (λ (t : Bool). Passes t g0 g4) (sym is)
      (subst (λ (g : GraphView). Passes ((d || e) || n) g0 g) (sym clear)
      (pass_cleared ((d || e) || n) g0 g3 marks (row.all (d || e) n g0 g2 g3 (row.all d e g0 g1 g2 one two) three)))

  pub calls_done :
      (facts : List Fact) → AreExact g1 facts → (d ≡ false → NoDirect g1) →
      (e ≡ false → (p : ProgramView) → NoDrop (graph_script p g2) (facts_in g2 facts) g2) →
      (n ≡ false → (p : ProgramView) → NoEnter (graph_script p g3) (facts_in g3 facts) g3) → said ≡ false → AreCallsDone g4
  calls_done facts exact direct drop enter f =
      let z = none_of d e n (sym is ∙ f) in
      let s1 = one.same z.first in
      let s2 = two.same z.second in
      let s3 = three.same z.third in
      let t1 : g1 ≡ g4 = s1 ∙ sym (calls_pass.same f) in
      let t2 : g2 ≡ g4 = s2 ∙ t1 in
      let t3 : g3 ≡ g4 = s3 ∙ t2 in
      record {
        facts = facts;
        exact = subst (λ (g : GraphView). AreExact g facts) t1 exact;
        direct = subst NoDirect t1 (direct z.first);
        drop_pairs = λ p. subst (λ (g : GraphView). NoDrop (graph_script p g) (facts_in g facts) g) t2 (drop z.second p);
        enter = λ p. subst (λ (g : GraphView). NoEnter (graph_script p g) (facts_in g facts) g) t3 (enter z.third p);
      }

-- ---- loads

module _ (l : LayoutView) (changed : Bool) (g0 g1 g2 : GraphView) (clear : g2 ≡ cleared g1) (marks : g0.touched ≡ []) (x : IsWhole l changed g0 g1) where
  loads_same : changed ≡ false → g2 ≡ g0
  loads_same e = clear ∙ ap cleared (x.same e) ∙ unmarked g0 marks

  taken_cleared : (p : ProgramView) → IsTaken p l changed g0 g1 → IsTaken p l changed g0 (cleared g1)
  taken_cleared p t = record {
    steps = steps_cleared g1 p g0 t.steps;
    lighter = t.lighter;
    fits = λ has fit. cleared_fits g1 (t.fits has fit);
  }

  pub loads_pass : LoadsPass l changed g0 g2
  loads_pass = record {
    same = loads_same;
    passed = λ p prog may. subst (λ (g : GraphView). IsTaken p l changed g0 g) (sym clear) (taken_cleared p (x.passed p prog may));
  }

  pub loads_done : (changed ≡ false → IsAddressDone l g1) → changed ≡ false → IsAddressDone l g2
  loads_done done e = subst (IsAddressDone l) (x.same e ∙ sym (loads_same e)) (done e)

-- ---- pruned once, or twice

pub pruned_once : (p : ProgramView) (changed : Bool) (a b : GraphView) → changed ≡ false → IsPassed p changed a b → IsPassed p false a b
pruned_once p changed a b e x = subst (λ (t : Bool). IsPassed p t a b) e x

pub pruned_twice : (p : ProgramView) (changed again : Bool) (a b c : GraphView) → IsPassed p changed a b → IsPassed p again b c → IsPassed p again a c
pruned_twice p changed again a b c x y = record {
  steps = all p a b c x.steps y.steps;
  lighter = λ e. let k = x.steps.rewrites.no_heavier in let l = y.lighter e in omega (arith, k, l);
  fits = λ gp address fit. y.fits gp address (x.fits gp address fit);
}

-- ---- what fits

fit_after : (p : ProgramView) (a b : GraphView) → SameFrame a b → FewerTargets a b → FitsStill p a b → FitSoFar p a → FitSoFar p b
fit_after p a b frame fewer still (inl any) = inl (λ gp address. still gp address (any gp address))
fit_after p a b frame fewer still (inr one) = inr (record {
  before = one.before;
  layout = one.layout;
  graph = one.graph;
  laid = one.laid;
  tables = frame.tables ∙ one.tables;
  targets = λ k t x. one.targets k t (fewer k t x);
  fits = still (gp_of one.layout) (address_of one.layout) one.fits;
})

fit_passed : (p : ProgramView) (changed : Bool) (a b : GraphView) → IsPassed p changed a b → FitSoFar p a → FitSoFar p b
fit_passed p changed a b x fit = let on = x.steps.rewrites.goes_on in fit_after p a b on.frame on.targets x.fits fit

fit_laid :
    (p : ProgramView) (g : GraphView) (l : LayoutView) → IsProgram p → IsWithinLimits p → IsGraphOf p g → IsLayoutOf p g l → FitSoFar p g →
    OpsFit p (gp_of l) (address_of l) g
fit_laid p g l prog limits of laid (inl any) = any (gp_of l) (address_of l)
fit_laid p g l prog limits of laid (inr one) =
    ops_fit p prog one.before g one.graph of one.tables one.targets one.layout l one.laid.data_part laid.data_part
    (stays p prog one.before one.graph limits one.layout one.laid.data_part) (are_placed p prog g of) one.fits

-- ---- how far there is to go

-- a turn goes on where it made the graph lighter, or where the prune before it did: then the next prune makes it lighter, or
-- changes nothing
abbrev pub left_to_go : GraphView → Bool → ℕ
left_to_go g pruned = 2 * weight g + one_if pruned

less_to_go :
    (pruned called reduced again : Bool) (a b c d : ℕ) → b ≤ a → (called ≡ true → b < a) → c ≤ b → (reduced ≡ true → c < b) → d ≤ c → (again ≡ true → d < c) →
    ((pruned || called) || reduced) ≡ true → 2 * d + one_if again < 2 * a + one_if pruned
less_to_go true called reduced true a b c d k ks l ls m ms e = let n = ms refl in omega (arith, k, l, n)
less_to_go false called reduced true a b c d k ks l ls m ms e = let n = ms refl in omega (arith, k, l, n)
less_to_go true called reduced false a b c d k ks l ls m ms e = omega (arith, k, l, m)
less_to_go false true reduced false a b c d k ks l ls m ms e = let n = ks refl in omega (arith, n, l, m)
less_to_go false false true false a b c d k ks l ls m ms e = let n = ls refl in omega (arith, k, n, m)
less_to_go false false false false a b c d k ks l ls m ms e = by_false e

-- ---- turns

pub may_go_on : {p : ProgramView} {a b : GraphView} → Steps p a b → MayGoOn p b
may_go_on s = let x = s.rewrites.goes_on in record { graph = x.graph; kept = x.kept; reach = x.reach }

pub of_a_program : (p : ProgramView) (a b : GraphView) → IsProgram p → Steps p a b → IsOfAProgram b
of_a_program p a b prog s = record { program = p; valid = prog; may_go_on = may_go_on s }

module _ (p : ProgramView) (prog : IsProgram p) (limits : IsWithinLimits p) (start : GraphView) (begins : MayBegin p start) where
  pub begun :
      (pruned : Bool) (now : GraphView) (u : Kept) → IsPassed p pruned start now → IsUsesOf now u → now.touched ≡ [] → IsWithoutDead now →
      (pruned ≡ false → OnlyKeptSet now) → IsBetween p start now u pruned
  begun pruned now u x uses marks none kept = record {
    steps = x.steps;
    fits = fit_passed p pruned start now x (inl begins.fits);
    uses = uses;
    marks = marks;
    none = none;
    kept = kept;
  }

  -- one turn: the graph a was pruned, calls were rewritten in it, and loads over a layout of what that left
  module _ (pruned called reduced : Bool) (a b c : GraphView) (u : Kept) (l : LayoutView) (between : IsBetween p start a u pruned) (calls : Passes called a b)
      (laid : IsLayoutOf p b l) (loads : LoadsPass l reduced b c) where
    passed : IsPassed p called a b
    passed = calls.passed p prog (may_go_on between.steps)

    may : MayGoOn p b
    may = may_go_on passed.steps

    has : HasRegionsOf p l
    has = has_regions p prog limits b may.graph l laid

    taken : IsTaken p l reduced b c
    taken = loads.passed p prog may

    fit : OpsFit p (gp_of l) (address_of l) c
    fit = taken.fits has (fit_laid p b l prog limits may.graph laid (fit_passed p called a b passed between.fits))

    pub turned : Steps p start c
    turned = all p start b c (all p start a b between.steps passed.steps) taken.steps

    pub bases_stand : BasesStand p c
    bases_stand = turned.rewrites.bases begins.bases

    fit_again : FitSoFar p c
    fit_again =
        let on = taken.steps.rewrites.goes_on in
        inr (record { before = b; layout = l; graph = may.graph; laid = laid; tables = on.frame.tables; targets = on.targets; fits = fit })

    -- pruned again, the next turn may come
    pub goes_on :
        (again : Bool) (d : GraphView) (v : Kept) → IsPassed p again c d → IsUsesOf d v → d.touched ≡ [] → IsWithoutDead d → (again ≡ false → OnlyKeptSet d) →
        IsBetween p start d v again
    goes_on again d v x uses marks none kept = record {
      steps = all p start c d turned x.steps;
      fits = fit_passed p again c d x fit_again;
      uses = uses;
      marks = marks;
      none = none;
      kept = kept;
    }

    pub smaller : (again : Bool) (d : GraphView) → IsPassed p again c d → ((pruned || called) || reduced) ≡ true → left_to_go d again < left_to_go a pruned
    smaller again d x e =
        less_to_go pruned called reduced again (weight a) (weight b) (weight c) (weight d) passed.steps.rewrites.no_heavier passed.lighter
        taken.steps.rewrites.no_heavier taken.lighter x.steps.rewrites.no_heavier x.lighter e

    -- where nothing changed, nothing is left
    pub finished : ((pruned || called) || reduced) ≡ false → (called ≡ false → AreCallsDone b) → (reduced ≡ false → IsAddressDone l c) → AreRounds p start c l
    finished e called_done reduced_done =
        let z = none_of pruned called reduced e in
        let same : b ≡ c = sym (loads.same z.third) in
        let all_same : a ≡ c = sym (calls.same z.second) ∙ same in
        let x = may_go_on turned in
        let left = subst AreCallsDone same (called_done z.second) in
        let done = reduced_done z.third in
        let dead = subst IsWithoutDead all_same between.none in
        record {
          keeps = turned.rewrites.keeps;
          of = x.graph;
          kept = x.kept;
          reach = x.reach;
          laid = subst (λ (g : GraphView). IsLayoutOf p g l) same laid;
          fits = fit;
          bases = bases_stand;
          pairs = turned.pairs begins.pairs;
          facts = facts_in c left.facts;
          masks = done.masks;
          outs = done.outs;
          rest = record {
            exact_facts = exact_by_label p c left.facts left.exact;
            exact_masks = done.exact;
            tables = turned.rewrites.goes_on.frame.tables ∙ begins.tables;
            direct = left.direct;
            drop_pairs = left.drop_pairs p;
            enter = left.enter p;
            near = done.near p prog x has;
            uses = done.uses p has;
            bytes = done.bytes;
            far = done.far p prog x has;
            words = exact_masks_agree c dead.masks dead.outs done.masks done.outs dead.exact done.exact dead.none;
            blocks = subst OnlyKeptSet all_same (between.kept z.first);
          };
        }
