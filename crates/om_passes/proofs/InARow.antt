-- Steps in a row.
use Rattle.std.proofs.Common.{refl, ◌∙◌, ℕ, Bool, arith}
use Rattle.om_value.specs.declared.value.Place.{Place}
use Rattle.om_prog.specs.View.{ProgramView}
use Rattle.om_prog.specs.Valid.{IsProgram}
use Rattle.om_graph.specs.View.{GraphView}
use Rattle.om_graph.specs.Kept.{KeptInBlocks}
use Rattle.om_graph.specs.Index.{BranchesInReach}
use Rattle.om_graph.specs.OfProgram.{IsGraphOf}
use Rattle.om_graph.proofs.Compose.{keeps_both}
use Rattle.om_graph.proofs.Itself.{all_ordered, keeps_itself}
use Rattle.om_graph.proofs.Places.{placed}
use Rattle.om_graph.proofs.OfProgram.{words_in_place}
use Rattle.om_graph.proofs.Forms.{pairs_apart}
use Rattle.om_graph.specs.Same.{SameGraph}
use Rattle.om_graph.specs.Left.{AreExactMasks, NoDeadWord}
use Rattle.om_graph.specs.Stands.{BasesStand}
use Rattle.om_passes.specs.Step.{GoesOn, Onward, Rewrite, Rewrites, Step, Steps, Deletion, Deletions}
use Rattle.om_passes.proofs.Whole.{pairs_whole}
use Rattle.om_passes.proofs.Keeping.{whole_stand}

pub goes_both : {p : ProgramView} {a b c : GraphView} → GoesOn p a b → GoesOn p b c → GoesOn p a c
goes_both x y =
    let f = x.frame in
    let g = y.frame in
    record {
      graph = y.graph;
      kept = y.kept;
      reach = y.reach;
      frame = record { counts = g.counts ∙ f.counts; roots = g.roots ∙ f.roots; tables = g.tables ∙ f.tables };
      targets = λ k t l. x.targets k t (y.targets k t l);
    }

pub onward_both : {p : ProgramView} {a b c : GraphView} → Onward p a b → Onward p b c → Onward p a c
onward_both x y = let l = x.lighter in let m = y.lighter in record { goes_on = goes_both x.goes_on y.goes_on; lighter = omega (arith, l, m) }

-- ---- nothing done, and one edit

module _ (p : ProgramView) (prog : IsProgram p) where
  nothing : (g : GraphView) → IsGraphOf p g → KeptInBlocks g → BranchesInReach g → Rewrites p g g
  nothing g of kept reach =
      let places = words_in_place p prog g of in
      record {
        keeps = keeps_itself p g (all_ordered g.blocks (placed g of.graph of.form places)) (pairs_apart p prog g of);
        goes_on = record { graph = of; kept = kept; reach = reach; frame = record { counts = refl; roots = refl; tables = refl }; targets = λ k t l. l };
        no_heavier = omega arith;
        same = λ e. record { counts = refl; roots = refl; tables = refl; labels = refl; blocks = refl };
        bases = λ b. b;
      }

  pub none : (g : GraphView) → IsGraphOf p g → KeptInBlocks g → BranchesInReach g → Steps p g g
  none g of kept reach = record { rewrites = nothing g of kept reach; pairs = λ w. w }

  pub none_deleted : (g : GraphView) → IsGraphOf p g → KeptInBlocks g → BranchesInReach g → Deletions p g g
  none_deleted g of kept reach = record { rewrites = nothing g of kept reach; pairs = λ b w. w }

one : (p : ProgramView) (a b : GraphView) → Rewrite p a b → Rewrites p a b
one p a b s =
    let l = s.lighter in
    record { keeps = s.keeps; goes_on = s.goes_on; no_heavier = omega (arith, l); same = λ e. absurd (omega (arith, l, e)); bases = s.bases }

-- ---- in a row

pub both : (p : ProgramView) (a b c : GraphView) → Rewrites p a b → Rewrites p b c → Rewrites p a c
both p a b c s t =
    let l = s.no_heavier in
    let m = t.no_heavier in
    record {
      keeps = keeps_both p a b c s.keeps t.keeps;
      goes_on = goes_both s.goes_on t.goes_on;
      no_heavier = omega (arith, l, m);
      same = λ e. same_both (s.same (omega (arith, l, m, e))) (t.same (omega (arith, l, m, e)));
      bases = λ x. t.bases (s.bases x);
    }
  where
    same_both : SameGraph a b → SameGraph b c → SameGraph a c
    same_both x y = record { counts = y.counts ∙ x.counts; roots = y.roots ∙ x.roots; tables = y.tables ∙ x.tables; labels = y.labels ∙ x.labels; blocks = y.blocks ∙ x.blocks }

pub all : (p : ProgramView) (a b c : GraphView) → Steps p a b → Steps p b c → Steps p a c
all p a b c s t = record { rewrites = both p a b c s.rewrites t.rewrites; pairs = λ w. t.pairs (s.pairs w) }

pub more : (p : ProgramView) (a b c : GraphView) → Steps p a b → Step p b c → Steps p a c
more p a b c s t = all p a b c s (record { rewrites = one p b c t.rewrite; pairs = t.pairs })

pub more_deleted : (p : ProgramView) (a b c : GraphView) → Deletions p a b → Deletion p b c → Deletions p a c
more_deleted p a b c s t = record {
  rewrites = both p a b c s.rewrites (one p b c t.rewrite);
  pairs = λ x w. t.pairs (s.rewrites.bases x) (s.pairs x w);
}

-- with no dead word left, deletions are steps
pub deleted : (p : ProgramView) (a b : GraphView) (masks outs : Place → ℕ → Bool) → IsProgram p → Deletions p a b → BasesStand p a → AreExactMasks masks outs b → NoDeadWord outs b → Steps p a b
deleted p a b masks outs prog d bases exact left = record {
  rewrites = d.rewrites;
  pairs = λ w. pairs_whole p prog b d.rewrites.goes_on.graph masks outs exact left (d.pairs bases (whole_stand p a w));
}
