-- What the walk over a block makes of its graph, and the walk over all blocks.
use Rattle.std.proofs.Common.{◌≡◌, ◌⊎◌, inl, inr, ℕ, Bool, true, false, ◌||◌, List, [], ◌∷◌, ◌++◌, get_or, Option, Some, None, refl, sym, ap, ◌∙◌, subst}
use Rattle.std.proofs.lemmas.Bool.{true≢false}
use Rattle.om_prog.specs.View.{ProgramView}
use Rattle.om_flow.specs.declared.parts.Fact.{Fact}
use Rattle.om_flow.specs.declared.parts.Fact.TheVariants.{Unknown}
use Rattle.om_graph.specs.View.{Node, Block, GraphView, Has, block_of}
use Rattle.om_graph.specs.Held.{block_ids}
use Rattle.om_graph.specs.Run.{graph_script}
use Rattle.om_graph.specs.Checks.{GpChecked}
use Rattle.om_blocks.specs.Found.{facts_in}
use Rattle.om_blocks.proofs.Walking.{no_more, none_left, some_is}
use Rattle.om_passes.specs.Passed.{Passes}
use Rattle.om_passes.proofs.Passed as passed
use Rattle.om_uses.specs.Parts.{Kept, IsNearly}
use Rattle.om_calls.specs.declared.pairs.Walk.{Walk}
use Rattle.om_calls.specs.Pairs.{NoneSetsSame, NoneSetsSameIn, OnPairs, Moves}

-- ---- one block

pub record InBlock (start : GraphView) (facts : List Fact) (b : ℕ) (g : GraphView) (w : Walk) (next : Option ℕ) : Type 0 where
  pub on : OnPairs g facts w next
  pub block : w.block ≡ b
  pub passed : Passes w.changed start g
  pub ids : block_ids g.blocks ≡ block_ids start.blocks
  pub near : (k : Kept) → IsNearly start k → IsNearly g k

pub in_first : (g : GraphView) (facts : List Fact) (b : ℕ) (w : Walk) (next : Option ℕ) → OnPairs g facts w next → w.block ≡ b → w.changed ≡ false → InBlock g facts b g w next
in_first g facts b w next on block same = record {
  on = on;
  block = block;
  passed = subst (λ (t : Bool). Passes t g g) (sym same) (passed.none g);
  ids = refl;
  near = λ k near. near;
}

pub in_more :
    (start : GraphView) (facts : List Fact) (b o : ℕ) (g n : GraphView) (w v : Walk) (next : Option ℕ) → InBlock start facts b g w (Some o) → OnPairs n facts v next → v.block ≡ w.block →
    Moves g n w v → InBlock start facts b n v next
in_more start facts b o g n w v next old on block moves = by_move moves
  where
    by_move : Moves g n w v → InBlock start facts b n v next
    by_move (inl m) = record {
      on = on;
      block = block ∙ old.block;
      passed = subst (λ (x : GraphView). Passes v.changed start x) (sym m.0) (subst (λ (t : Bool). Passes t start g) (sym m.1) old.passed);
      ids = ap (λ (x : GraphView). block_ids x.blocks) m.0 ∙ old.ids;
      near = λ k near. subst (λ (x : GraphView). IsNearly x k) (sym m.0) (old.near k near);
    }
    by_move (inr m) = record {
      on = on;
      block = block ∙ old.block;
      passed = subst (λ (t : Bool). Passes t start n) (sym m.1) (passed.more w.changed start g n old.passed m.0.step);
      ids = m.0.ids ∙ old.ids;
      near = λ k near. m.0.near k (old.near k near);
    }

pub in_end : (start : GraphView) (facts : List Fact) (b : ℕ) (g : GraphView) (w : Walk) → InBlock start facts b g w None → w.changed ≡ false → NoneSetsSameIn g facts b
in_end start facts b g w old same x is =
    let on = old.on in
    let one : on.block ≡ x = some_is on.block x (sym on.is ∙ ap (block_of g) old.block ∙ is) in
    let all : on.done ≡ on.block.ops = sym (on.all ∙ ap (λ (l : List Node). on.done ++ l) (none_left on.left on.at) ∙ no_more on.done) in
    let start : w.start ≡ get_or facts b Unknown = on.start ∙ ap (λ (i : ℕ). get_or facts i Unknown) old.block in
    subst (λ (y : Block). NoneSetsSame g y (get_or facts b Unknown) y.ops) one
    (subst (λ (l : List Node). NoneSetsSame g on.block (get_or facts b Unknown) l) all (subst (λ (f : Fact). NoneSetsSame g on.block f on.done) start (on.none same)))

-- ---- all blocks

pub record OverAll (start : GraphView) (facts : List Fact) (g : GraphView) (done : List ℕ) (changed : Bool) : Type 0 where
  pub passed : Passes changed start g
  pub near : (k : Kept) → IsNearly start k → IsNearly g k
  pub checked : (p : ProgramView) → GpChecked (graph_script p g) (facts_in g facts) g
  pub none : changed ≡ false → (x : Block) → Has g.blocks x → Has done x.id → NoneSetsSameIn g facts x.id

pub all_first : (g : GraphView) (facts : List Fact) → ((p : ProgramView) → GpChecked (graph_script p g) (facts_in g facts) g) → OverAll g facts g [] false
all_first g facts checked = record { passed = passed.none g; near = λ k near. near; checked = checked; none = λ same x h m. absurd m }

one_more : (done : List ℕ) (b i : ℕ) → Has (done ++ b ∷ []) i → Has done i ⊎ (b ≡ i)
one_more [] b i (inl e) = inr e
one_more [] b i (inr h) = absurd h
one_more (d ∷ done) b i (inl e) = inl (inl e)
one_more (d ∷ done) b i (inr h) = elim (one_more done b i h) [ inl k ↦ inl (inr k) | inr e ↦ inr e ]

pub all_more :
    (start : GraphView) (facts : List Fact) (g n : GraphView) (b : ℕ) (changed again : Bool) → Passes again g n → ((k : Kept) → IsNearly g k → IsNearly n k) →
    ((p : ProgramView) → GpChecked (graph_script p n) (facts_in n facts) n) → (again ≡ false → NoneSetsSameIn n facts b) → (done : List ℕ) → OverAll start facts g done changed →
    OverAll start facts n (done ++ b ∷ []) (changed || again)
all_more start facts g n b changed again pass near checked none done old = record {
  passed = passed.all changed again start g n old.passed pass;
  near = λ k m. near k (old.near k m);
  checked = checked;
  none = λ same x h m. by_tests changed again refl refl same x h (one_more done b x.id m);
}
  where
    by_tests : (t v : Bool) → changed ≡ t → again ≡ v → (t || v) ≡ false → (x : Block) → Has n.blocks x → Has done x.id ⊎ (b ≡ x.id) → NoneSetsSameIn n facts x.id
    by_tests true v e f s x h m = absurd (true≢false s)
    by_tests false true e f s x h m = absurd (true≢false s)
    by_tests false false e f s x h (inr i) = subst (λ (j : ℕ). NoneSetsSameIn n facts j) i (none f)
    by_tests false false e f s x h (inl m) =
        let is : n ≡ g = pass.same f in
        subst (λ (y : GraphView). NoneSetsSameIn y facts x.id) (sym is) (old.none e x (subst (λ (y : GraphView). Has y.blocks x) is h) m)

pub id_there : (bs : List Block) (x : Block) → Has bs x → Has (block_ids bs) x.id
id_there [] x h = h
id_there (b ∷ bs) x (inl e) = inl (ap (λ (y : Block). y.id) e)
id_there (b ∷ bs) x (inr h) = inr (id_there bs x h)
