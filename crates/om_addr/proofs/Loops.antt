-- The loops over the ops behind a load.
use Rattle.std.proofs.Common.{◌≡◌, ℕ, ◌<◌, Bool, true, false, ◌||◌, List, [], Option, Some, None, IfSome, IsTrue, refl, sym, ap, ◌∙◌, subst}
use Rattle.std.specs.Prelude.{is_some}
use Rattle.om_graph.specs.declared.op.Op.{Op}
use Rattle.om_graph.specs.declared.op.OpKind.{OpKind}
use Rattle.om_graph.specs.View.{GraphView, op_of, next_op_of, is_live_op, replaced}
use Rattle.om_graph.specs.Held.{IsGraph, op_ids}
use Rattle.om_blocks.specs.IsFlow.{HasFlow}
use Rattle.om_blocks.proofs.OfPrograms.{has_flow}
use Rattle.om_layout.specs.Layout.{LayoutView}
use Rattle.om_passes.specs.Passed.{IsOfAProgram}
use Rattle.om_addr.specs.Passing.{Reducing, ReducingOnce, set_if}
use Rattle.om_addr.specs.declared.loads.Load.{Load}
use Rattle.om_addr.specs.Loads.{load_kind, IsLoadOf}
use Rattle.om_addr.proofs.InARow as row
use Rattle.om_addr.proofs.Walking.{OnUses, Moved, Walked, Settles, walk_begins, moved, walk_goes_on, walk_fewer, walk_stops, walk_ends, op_ids_set, ops_left, is_op, op_is, at_moved}

ids_if : (g : GraphView) (id : ℕ) (k : Option OpKind) → op_ids (set_if g id k).blocks ≡ op_ids g.blocks
ids_if g id None = refl
ids_if g id (Some k) = op_ids_set id k g.blocks

-- a graph of a program has a flow
pub flow_of : (g : GraphView) → IsOfAProgram g → HasFlow g
flow_of g o = has_flow o.program o.valid g o.may_go_on.graph

-- each op behind a load becomes what f says of its kind, up to one of which ends holds; P holds of the layouts of which that
-- is said
module _ (f : OpKind → Option OpKind) (ends : OpKind → Bool) (P : LayoutView → Type 0) where
  pub record OnLoad (load : Load) (old now : GraphView) (changed : Bool) (next : Option ℕ) : Type 0 where
    pub op : Op
    pub is_load : op.kind ≡ load_kind load
    pub object : op.place.obj ≡ load.obj
    pub on : OnUses f ends now load.id op next
    pub live : IfSome next (λ o. IsTrue (is_live_op now o))
    pub passed : (l : LayoutView) → P l → (masks : List ℕ) → Reducing l masks changed old now

  pub begins : (load : Load) (g : GraphView) (next : Option ℕ) → IsGraph g → IsLoadOf g load → next ≡ next_op_of g load.id → IfSome next (λ o. IsTrue (is_live_op g o)) → OnLoad load g g false next
  begins load g next graph is n live = record {
    op = record { place = is.place; kind = load_kind load };
    is_load = refl;
    object = is.object;
    on = walk_begins f ends g load.id (record { place = is.place; kind = load_kind load }) next graph is.is n;
    live = live;
    passed = λ l p masks. row.none l masks g;
  }

  -- the walk has come behind an op, and this is the graph
  pub record Behind (load : Load) (old new : GraphView) (changed : Bool) (o : ℕ) (y : Op) : Type 0 where
    pub op : Op
    pub is_load : op.kind ≡ load_kind load
    pub object : op.place.obj ≡ load.obj
    pub moved : Moved f ends new load.id op o y
    pub passed : (l : LayoutView) → P l → (masks : List ℕ) → Reducing l masks changed old new

  pub behind :
      Settles f ends → (load : Load) (old now : GraphView) (changed : Bool) (o : ℕ) (y : Op) (on : OnLoad load old now changed (Some o)) → IsGraph now → op_of now o ≡ Some y →
      ((l : LayoutView) → P l → (masks : List ℕ) (k : OpKind) → f y.kind ≡ Some k → ReducingOnce l masks now (replaced now o k)) →
      Behind load old (set_if now o (f y.kind)) (changed || is_some (f y.kind)) o y
  behind settles load old now changed o y on graph e once = record {
    op = on.op;
    is_load = on.is_load;
    object = on.object;
    moved = moved f ends settles now load.id on.op o y on.on graph e;
    passed = λ l p masks. row.set l masks changed old now o (f y.kind) (on.passed l p masks) (once l p masks);
  }

  pub behind_as :
      Settles f ends → (load : Load) (old now : GraphView) (changed : Bool) (o : ℕ) (y : Op) (on : OnLoad load old now changed (Some o)) → IsGraph now → op_of now o ≡ Some y →
      ((l : LayoutView) → P l → (masks : List ℕ) (k : OpKind) → f y.kind ≡ Some k → ReducingOnce l masks now (replaced now o k)) →
      (kind : Option OpKind) → kind ≡ f y.kind → (new : GraphView) → new ≡ set_if now o kind → (more then : Bool) → more ≡ is_some kind → then ≡ (changed || more) → Behind load old new then o y
  behind_as settles load old now changed o y on graph e once kind k new n more then m t =
      subst (λ (b : Bool). Behind load old new b o y) (sym (t ∙ ap (λ (c : Bool). changed || c) (m ∙ ap is_some k)))
      (subst (λ (h : GraphView). Behind load old h (changed || is_some (f y.kind)) o y) (sym (n ∙ ap (set_if now o) k)) (behind settles load old now changed o y on graph e once))

  pub still_live : (load : Load) (old new : GraphView) (changed : Bool) (o : ℕ) (y : Op) → Behind load old new changed o y → IsGraph new → is_live_op new o ≡ true
  still_live load old new changed o y b graph =
      let m = b.moved in
      subst (λ (i : ℕ). is_live_op new i ≡ true) m.here_id (ap is_some (is_op new graph m.here (at_moved f ends new load.id b.op o y m)).block)

  pub goes_on :
      (load : Load) (old new : GraphView) (changed : Bool) (o : ℕ) (y : Op) (next : Option ℕ) → Behind load old new changed o y → IsGraph new → ends y.kind ≡ false →
      next ≡ next_op_of new o → IfSome next (λ n. IsTrue (is_live_op new n)) → OnLoad load old new changed next
  goes_on load old new changed o y next b graph e n live = record {
    op = b.op;
    is_load = b.is_load;
    object = b.object;
    on = walk_goes_on f ends new load.id b.op o y next b.moved graph e n;
    live = live;
    passed = b.passed;
  }

  pub fewer :
      (load : Load) (old now new : GraphView) (changed : Bool) (o : ℕ) (y : Op) (kind : Option OpKind) (next : Option ℕ) → Behind load old new changed o y → IsGraph new → new ≡ set_if now o kind →
      next ≡ next_op_of new o → ops_left new next < ops_left now (Some o)
  fewer load old now new changed o y kind next b graph n m =
      walk_fewer f ends now new load.id b.op o y next b.moved graph (ap (λ (h : GraphView). op_ids h.blocks) n ∙ ids_if now o kind) m

  -- where the walk has ended
  pub record Over (load : Load) (new : GraphView) : Type 0 where
    pub op : Op
    pub is_load : op.kind ≡ load_kind load
    pub object : op.place.obj ≡ load.obj
    pub walked : Walked f ends new load.id op

  -- the load is there still
  pub over_load : (load : Load) (new : GraphView) → IsGraph new → Over load new → IsLoadOf new load
  over_load load new graph over =
      let w = over.walked in record {
        place = over.op.place;
        object = over.object;
        is = ap (op_of new) (sym w.is_id) ∙ op_is new graph w.node w.at ∙ ap (λ (y : Op). Some y) w.is_op ∙ ap (λ (k : OpKind). Some (record { place = over.op.place; kind = k })) over.is_load;
      }

  pub stops : (load : Load) (old new : GraphView) (changed : Bool) (o : ℕ) (y : Op) → Behind load old new changed o y → ends y.kind ≡ true → Over load new
  stops load old new changed o y b e = record { op = b.op; is_load = b.is_load; object = b.object; walked = walk_stops f ends new load.id b.op o y b.moved e }

  pub ended : (load : Load) (old new : GraphView) (changed : Bool) → OnLoad load old new changed None → Over load new
  ended load old new changed on = record { op = on.op; is_load = on.is_load; object = on.object; walked = walk_ends f ends new load.id on.op on.on }

  -- the graph that the walk leaves has a flow
  pub flows : (l : LayoutView) → P l → (old new : GraphView) (changed : Bool) → IsOfAProgram old → ((l : LayoutView) → P l → (masks : List ℕ) → Reducing l masks changed old new) → HasFlow new
  flows l p old new changed o passed = flow_of new (row.stays l [] changed old new o (passed l p []))

-- a layout of nothing
pub no_layout : LayoutView
no_layout = record { counts = []; object_tables = []; tables = []; regions = []; positions = [] }

-- any layout serves
abbrev pub Any : LayoutView → Type 0
Any l = Unit {0}
