-- Facts that are exact by number are exact for blocks.
use Rattle.std.proofs.Common.{◌≡◌, inl, inr, ℕ, List, Option, Some, None, length, refl, sym, ap, ◌∙◌, subst}
use Rattle.std.specs.Prelude.{◌↔◌}
use Rattle.om_prog.specs.Act.{Script}
use Rattle.om_prog.specs.View.{ProgramView}
use Rattle.om_prog.specs.Facts as prog
use Rattle.om_flow.specs.declared.parts.Flow.{Flow}
use Rattle.om_flow.specs.declared.parts.Fact.{Fact}
use Rattle.om_flow.specs.declared.parts.Fact.TheVariants.{Any, Table, Unknown}
use Rattle.om_flow.specs.declared.parts.Transfer.{Transfer}
use Rattle.om_flow.specs.Seen.{transfers_of, FlowGoes}
use Rattle.om_flow.specs.Facts.{transfer_at, fact_at, Walk, Unreached, AlwaysTable, Mixed, Other, Two, Means, Exact, Solved}
use Rattle.om_graph.specs.View.{Block, GraphView, Has}
use Rattle.om_graph.specs.Held.{IsGraph}
use Rattle.om_graph.specs.Run.{graph_script}
use Rattle.om_graph.specs.Left.{AreExactFacts}
use Rattle.om_blocks.specs.IsFlow.{IsFlow}
use Rattle.om_blocks.specs.Found.{seen, facts_in, left_as}
use Rattle.om_blocks.specs.Laws.{entry_table}
use Rattle.om_blocks.proofs.OfFlow.{flows_tell, fact_of_block}
use Rattle.om_gpfacts.specs.Exact.{IsUnreached, IsAlways, IsMixed, IsExact, AreExact}

seen_any : (x : Fact) → (seen x ≡ prog.Any) ↔ (x ≡ Any)
seen_any Any = (λ e. refl, λ e. refl)
seen_any (Table t) = (λ e. cc, λ e. cc)
seen_any Unknown = (λ e. cc, λ e. cc)

seen_table : (x : Fact) (t : ℕ) → (seen x ≡ prog.Table t) ↔ (x ≡ Table t)
seen_table Any t = (λ e. cc, λ e. cc)
seen_table (Table u) t = (λ e. let q : u ≡ t = cc in ap Table q, λ e. let q : u ≡ t = cc in ap prog.Table q)
seen_table Unknown t = (λ e. cc, λ e. cc)

seen_unknown : (x : Fact) → (seen x ≡ prog.Unknown) ↔ (x ≡ Unknown)
seen_unknown Any = (λ e. cc, λ e. cc)
seen_unknown (Table t) = (λ e. cc, λ e. cc)
seen_unknown Unknown = (λ e. refl, λ e. refl)

left_table : (v : Option ℕ) (t : ℕ) → left_as v ≡ prog.Table t → v ≡ Some t
left_table None t e = cc
left_table (Some u) t e = let q : u ≡ t = cc in ap Some q

-- walks that differ leave no one table's global pointer
mixed_comes : (c : Script) (g : GraphView) (b : Block) → IsMixed c g b → IsUnreached c g b → ⊥
mixed_comes c g b (inl r) u = u prog.Unknown r
mixed_comes c g b (inr m) u = u (prog.Table m.0) m.2

pub one_table : (t u v : ℕ) → prog.Table t ≡ prog.Table v → prog.Table u ≡ prog.Table v → t ≡ u
one_table t u v e k = let a : t ≡ v = cc in let d : u ≡ v = cc in a ∙ sym d

pub not_table : (t : ℕ) → prog.Unknown ≡ prog.Table t → ⊥
not_table t e = cc

mixed_differ : (c : Script) (g : GraphView) (b : Block) (t : ℕ) → IsMixed c g b → IsAlways c g b t → ⊥
mixed_differ c g b t (inl r) a = not_table t (a.each prog.Unknown r)
mixed_differ c g b t (inr m) a = m.4 (one_table m.0 m.1 t (a.each (prog.Table m.0) m.2) (a.each (prog.Table m.1) m.3))

module _ (g : GraphView) (f : Flow) (graph : IsGraph g) (is : IsFlow g f) (facts : List Fact)
    (solved : Solved (length f.blocks.items) (FlowGoes f) (transfers_of f.blocks.items) f.entry (entry_table g) facts) where
  module _ (p : ProgramView) (b : Block) (h : Has g.blocks b) where
    abbrev c : Script
    c = graph_script p g

    abbrev transfer : ℕ → Transfer
    transfer = transfer_at (transfers_of f.blocks.items)

    abbrev Never : Type 0
    Never = Unreached (FlowGoes f) transfer f.entry (entry_table g) b.id

    abbrev Always : ℕ → Type 0
    Always t = AlwaysTable (FlowGoes f) transfer f.entry (entry_table g) b.id t

    to_never : IsUnreached c g b → Never
    to_never u = record { never = λ v walk. u (left_as v) (flows_tell.reaches p g f graph is b v h walk) }

    of_never : Never → IsUnreached c g b
    of_never n y r = let k = flows_tell.reached p g f graph is b y r in n.never k.0 k.2

    to_always : (t : ℕ) → IsAlways c g b t → Always t
    to_always t a =
        let k = flows_tell.reached p g f graph is b (prog.Table t) a.some in
        record {
          some = subst (λ (v : Option ℕ). Walk (FlowGoes f) transfer f.entry (entry_table g) b.id v) (left_table k.0 t k.1) k.2;
          each = λ v walk. left_table v t (a.each (left_as v) (flows_tell.reaches p g f graph is b v h walk));
        }

    of_always : (t : ℕ) → Always t → IsAlways c g b t
    of_always t a = record {
      some = flows_tell.reaches p g f graph is b (Some t) h a.some;
      each = λ y r. let k = flows_tell.reached p g f graph is b y r in sym k.1 ∙ ap left_as (a.each k.0 k.2);
    }

    to_mixed : Mixed (FlowGoes f) transfer f.entry (entry_table g) b.id → IsMixed c g b
    to_mixed (Other w) = inl (flows_tell.reaches p g f graph is b None h w)
    to_mixed (Two t u v w n) = inr (t, u, flows_tell.reaches p g f graph is b (Some t) h v, flows_tell.reaches p g f graph is b (Some u) h w, n)

    exact_found : (x : Fact) → Exact (FlowGoes f) transfer f.entry (entry_table g) b.id x → IsExact c g b (seen x)
    exact_found x e = record {
      any = (λ q. of_never (e.when_any.0 ((seen_any x).0 q)), λ u. (seen_any x).1 (e.when_any.1 (to_never u)));
      table = λ t. (λ q. of_always t ((e.when_table t).0 ((seen_table x t).0 q)), λ a. (seen_table x t).1 ((e.when_table t).1 (to_always t a)));
      unknown = (
        λ q. let k = (seen_unknown x).0 q in to_mixed (subst (Means (FlowGoes f) transfer f.entry (entry_table g) b.id) k e.means),
        λ m. (seen_unknown x).1 (e.when_unknown.1 (λ n. mixed_comes c g b m (of_never n), λ t a. mixed_differ c g b t m (of_always t a))),
      );
    }

  pub are_exact : AreExact g facts
  are_exact = record {
    checked = λ p. flows_tell.gp_checked p g f facts graph is solved.size solved.checked;
    exact = λ p b h.
        subst (λ (x : prog.Fact). IsExact (graph_script p g) g b x) (sym (fact_of_block g f graph is facts solved.size b h))
        (exact_found p b h (fact_at facts b.id) (solved.exact b.id (is.numbers b h)));
  }

-- ---- by label

pub exact_by_label : (p : ProgramView) (g : GraphView) (facts : List Fact) → AreExact g facts → AreExactFacts (graph_script p g) (facts_in g facts) g
exact_by_label p g facts exact = record {
  checked = exact.checked p;
  table = λ b t h e. (((exact.exact p b h).table t).0 e).some;
  unknown = λ b h e. ((exact.exact p b h).unknown).0 e;
}
