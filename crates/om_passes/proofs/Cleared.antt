-- A graph without its marks: what a pass made of a graph it made of that too.
use Rattle.std.proofs.Common.{◌⊎◌, inl, inr, ℕ, ◌<◌, ◌≤◌, Bool, true, false, List, [], ◌∷◌, length, refl, sym, ap, subst, ◌∙◌, arith}
use Rattle.std.specs.Prelude.{◌≡◌, ◌||◌}
use Rattle.om_value.specs.declared.value.Place.{Place}
use Rattle.om_value.specs.declared.value.Target.{Target}
use Rattle.om_prog.specs.Act.{Script}
use Rattle.om_prog.specs.View.{ProgramView}
use Rattle.om_prog.specs.Runs.{sym_run, trace, Alike}
use Rattle.om_graph.specs.View.{GraphView, cleared}
use Rattle.om_graph.specs.Fits.{OpsFit}
use Rattle.om_graph.specs.Run.{graph_script}
use Rattle.om_graph.specs.Kept.{IsInKeptSet, root, fall, named, behind, IsBlock, IsEnd, KeptInBlocks}
use Rattle.om_graph.specs.Index.{BranchesInReach}
use Rattle.om_graph.specs.LeftIn.{passes_after, is_left, left, left_onto, left_in, Goes, Keeps}
use Rattle.om_graph.specs.OfProgram.{IsGraphOf}
use Rattle.om_graph.specs.Same.{SameGraph}
use Rattle.om_graph.specs.Stands.{BasesStand, PairsWhole}
use Rattle.om_graph.specs.Weight.{weight}
use Rattle.om_graph.proofs.HeldEdits.{cleared_held}
use Rattle.om_passes.specs.OneEdit.{MayGoOn}
use Rattle.om_passes.specs.Step.{IsLoaded, GoesOn, Rewrites, Steps}
use Rattle.om_passes.specs.Passed.{IsPassed, IsOfAProgram}
use Rattle.om_passes.proofs.InARow.{all}

module _ (g : GraphView) where
  abbrev h : GraphView
  h = cleared g

  -- ---- steps left in

  same_after : (ps : List Place) (q : Place) → passes_after h ps q ≡ passes_after g ps q
  same_after [] q = refl
  same_after (c ∷ ps) q = refl

  same_is : (ps : List Place) (q : Place) → is_left h ps q ≡ is_left g ps q
  same_is ps q = rw (same_after ps q) refl

  same_left : (ps : List Place) → left h ps ≡ left g ps
  same_left [] = refl
  same_left (q ∷ ps) =
      ap (λ (l : List Place). left_onto (is_left h l q) q l) (same_left ps)
      ∙ ap (λ (b : Bool). left_onto b q (left g ps)) (same_is (left g ps) q)

  -- ---- the graph

  kept_back : (q : Place) → IsInKeptSet h q → IsInKeptSet g q
  kept_back _ (root q m) = root q m
  kept_back _ (fall b q m k f l) = fall b q m (kept_back b.label k) f l
  kept_back _ (named b w q m k i n) = named b w q m (kept_back b.label k) i n
  kept_back _ (behind b w m k i l) = behind b w m (kept_back b.label k) i l

  pub cleared_kept : KeptInBlocks g → KeptInBlocks h
  cleared_kept k = record { label = λ q i. by_side q (k.label q (kept_back q i)) }
    where
      by_side : (q : Place) → IsBlock g q ⊎ IsEnd g q → IsBlock h q ⊎ IsEnd h q
      by_side q (inl b) = inl b
      by_side q (inr e) = inr (record { object = e.object; off = e.off })

  pub cleared_reach : BranchesInReach g → BranchesInReach h
  cleared_reach r = record { lasts = r.lasts }

  pub cleared_of : (p : ProgramView) → IsGraphOf p g → IsGraphOf p h
  cleared_of p of =
      let f = of.form in
      record {
        graph = cleared_held g of.graph;
        counts = of.counts;
        roots = of.roots;
        labels = of.labels;
        blocks = of.blocks;
        form = record { ops = f.ops; lasts = f.lasts; ends = f.ends };
        tables = of.tables;
        slots = of.slots;
      }

  pub cleared_goes_on : (p : ProgramView) → MayGoOn p g → MayGoOn p h
  cleared_goes_on p m = record { graph = cleared_of p m.graph; kept = cleared_kept m.kept; reach = cleared_reach m.reach }

  pub cleared_bases : (p : ProgramView) → BasesStand p g → BasesStand p h
  cleared_bases p b = record { uses = b.uses; idle = b.idle }

  pub cleared_pairs : (p : ProgramView) → PairsWhole p g → PairsWhole p h
  cleared_pairs p w = record { low = w.low; high = w.high }

  pub cleared_fits : {p : ProgramView} {gp : ℕ → ℕ} {address : Target → ℕ} → OpsFit p gp address g → OpsFit p gp address h
  cleared_fits f = record { ops = f.ops }

  -- ---- what was made of another graph

  module _ (p : ProgramView) (a : GraphView) where
    abbrev c : Script
    c = graph_script p a

    keeps_cleared : Keeps p a g → Keeps p a h
    keeps_cleared k = record {
      meaning = λ input n clean.
          let m = k.meaning input n clean in
          let same : left_in g c input n ≡ left_in h c input n = sym (same_left (trace c input n)) in
          let d = graph_script p h in
          record {
            alike = subst (λ (l : List Place). Alike (sym_run c input n) (sym_run d input (length l))) same m.alike;
            places = subst (λ (l : List Place). trace d input (length l) ≡ l) same m.places;
          };
      fewer = k.fewer;
      calls = λ input n x q clean r e i. let s = k.calls input n x q clean r e i in record { kept = s.kept; free = s.free; goes = s.goes };
      straight = λ input n w clean going found out.
          k.straight input n w clean going found
          (sym (same_is (left_in g c input n) w.at) ∙ ap (λ (l : List Place). is_left h l w.at) (sym (same_left (trace c input n))) ∙ out);
      address = k.address;
    }

    goes_cleared : GoesOn p a g → GoesOn p a h
    goes_cleared x = record {
      graph = cleared_of p x.graph;
      kept = cleared_kept x.kept;
      reach = cleared_reach x.reach;
      frame = record { counts = x.frame.counts; roots = x.frame.roots; tables = x.frame.tables };
      targets = λ k t l.
          x.targets k t
          (record { block = l.block; load = l.load; ra = l.ra; rb = l.rb; among = l.among; inside = l.inside; loads = l.loads; table_is = l.table_is });
    }

    pub rewrites_cleared : Rewrites p a g → Rewrites p a h
    rewrites_cleared s = record {
      keeps = keeps_cleared s.keeps;
      goes_on = goes_cleared s.goes_on;
      no_heavier = s.no_heavier;
      same = λ e. let i = s.same e in record { counts = i.counts; roots = i.roots; tables = i.tables; labels = i.labels; blocks = i.blocks };
      bases = λ b. cleared_bases p (s.bases b);
    }

    pub steps_cleared : Steps p a g → Steps p a h
    steps_cleared s = record { rewrites = rewrites_cleared s.rewrites; pairs = λ w. cleared_pairs p (s.pairs w) }

    pub passed_cleared : (changed : Bool) → IsPassed p changed a g → IsPassed p changed a h
    passed_cleared changed x = record {
      steps = steps_cleared x.steps;
      lighter = x.lighter;
      fits = λ gp address f. cleared_fits (x.fits gp address f);
    }

  pub cleared_of_a_program : IsOfAProgram g → IsOfAProgram h
  cleared_of_a_program o = record { program = o.program; valid = o.valid; may_go_on = cleared_goes_on o.program o.may_go_on }

-- ---- passes in a row

lighter_all : (changed again : Bool) (a b c : ℕ) → b ≤ a → c ≤ b → (changed ≡ true → b < a) → (again ≡ true → c < b) → (changed || again) ≡ true → c < a
lighter_all true again a b c l k f h e = let m = f refl in omega (arith, k, m)
lighter_all false true a b c l k f h e = let m = h refl in omega (arith, l, m)
lighter_all false false a b c l k f h e = by_false e
  where
    by_false : false ≡ true → c < a
    by_false e = cc

-- two passes in a row, of one program
pub passed_all :
    (p : ProgramView) (changed again : Bool) (a b c : GraphView) → IsPassed p changed a b → IsPassed p again b c →
    IsPassed p (changed || again) a c
passed_all p changed again a b c y w = record {
  steps = all p a b c y.steps w.steps;
  lighter = lighter_all changed again (weight a) (weight b) (weight c) y.steps.rewrites.no_heavier w.steps.rewrites.no_heavier y.lighter w.lighter;
  fits = λ gp address fit. w.fits gp address (y.fits gp address fit);
}

-- graphs without marks that are the same but for them
pub same_unmarked : (a b : GraphView) → SameGraph a b → a.touched ≡ [] → b.touched ≡ [] → b ≡ a
same_unmarked a b s m n = λ i. record {
  counts = s.counts i;
  roots = s.roots i;
  tables = s.tables i;
  labels = s.labels i;
  blocks = s.blocks i;
  touched = (n ∙ sym m) i;
}
