-- Loads into r31 that end their texts become LDA: none, one, and several in a row.
use Rattle.std.proofs.Common.{◌≡◌, inl, inr, ◌<◌, ◌≤◌, ◌+◌, ◌%◌, ◌^◌, ℕ, Bool, true, false, cond, ◌||◌, List, [], ◌∷◌, Option, Some, length, refl, sym, ap, ◌∙◌, subst, arith}
use Rattle.std.specs.Prelude.{map, is_some}
use Rattle.std.proofs.lemmas.Bool.{true≢false}
use Rattle.om_value.specs.declared.value.Place.{Place}
use Rattle.om_value.specs.declared.value.Target.{Target}
use Rattle.om_value.specs.declared.value.Target.TheVariants as target
use Rattle.om_prog.specs.Act.{act_writes}
use Rattle.om_prog.specs.Flow.{Among}
use Rattle.om_prog.specs.View.{ProgramView}
use Rattle.om_prog.specs.Valid.{IsProgram}
use Rattle.om_graph.specs.declared.op.Op.{Op}
use Rattle.om_graph.specs.declared.op.OpKind.{OpKind}
use Rattle.om_graph.specs.declared.op.OpKind.TheVariants as op
use Rattle.om_graph.specs.View.{Node, Block, GraphView, Has, ops_of, op_of, replaced}
use Rattle.om_graph.specs.Held.{IsGraph, label_list}
use Rattle.om_graph.specs.Numbers.{AreNumbered}
use Rattle.om_graph.specs.Run.{op_act, op_word, last_words}
use Rattle.om_graph.specs.Form.{InPlace, IsPlaced, text_size}
use Rattle.om_graph.specs.Fits.{OpFits, LdaFits}
use Rattle.om_graph.specs.Uses.{IsTextsLast}
use Rattle.om_graph.specs.Weight.{weight}
use Rattle.om_graph.proofs.Labels.{append_left}
use Rattle.om_graph.proofs.OfProgram.{to_map, words_in_place}
use Rattle.om_blocks.proofs.OfPrograms.{has_flow}
use Rattle.om_blocks.proofs.Walking.{has_mid}
use Rattle.om_uses.proofs.Near.{replaced_near}
use Rattle.om_layout.specs.Layout.{LayoutView, gp_of, address_of}
use Rattle.om_passes.specs.AtPlaces.{NoHalf}
use Rattle.om_passes.specs.OneEdit.{MayGoOn, word_of, HasNoByteUse}
use Rattle.om_passes.specs.Passed.{IsOfAProgram}
use Rattle.om_passes.specs.Step.{Step}
use Rattle.om_passes.proofs.FitsStay.{replace_fits}
use Rattle.om_passes.proofs.InARow as row
use Rattle.om_addr.specs.Passing.{HasRegionsOf}
use Rattle.om_addr.specs.declared.loads.Load.{Load}
use Rattle.om_addr.specs.declared.near.Pointer.{Pointer}
use Rattle.om_addr.specs.Done.{load_in, load_at}
use Rattle.om_addr.specs.Loads.{load_kind}
use Rattle.om_addr.specs.Near.{IsSaid}
use Rattle.om_addr.specs.NearLoads.{near_by, lda_base, lda_kind}
use Rattle.om_addr.specs.Idle.{IsTaken, Taking, IsLoadAt, IsIdle, IsOpIdle}
use Rattle.om_addr.proofs.AddressSteps.{near_step, number_step}
use Rattle.om_addr.proofs.InARow.{going, ids_both, by_false, by_true}
use Rattle.om_addr.proofs.Nears.{near_fits}
use Rattle.om_addr.proofs.Walking.{OpThere, op_there, is_op, op_ids_set, block_ids_set}

-- ---- in a row

pub none : (l : LayoutView) (g : GraphView) → Taking l false g g
none l g = record {
  same = λ e. refl;
  ids = record { blocks = refl; ops = refl; near = λ k h. h };
  goes_on = λ p prog m. m;
  passed = λ p prog m. record { steps = row.none p prog g m.graph m.kept m.reach; lighter = λ e. by_false e; fits = λ h f. f };
}

pub all : (l : LayoutView) (changed again : Bool) (a b c : GraphView) → Taking l changed a b → Taking l again b c → Taking l (changed || again) a c
all l changed again a b c x z = record {
  same = same changed again x.same z.same;
  ids = ids_both x.ids z.ids;
  goes_on = λ p prog m. z.goes_on p prog (x.goes_on p prog m);
  passed = passed;
}
  where
    same : (v w : Bool) → (v ≡ false → b ≡ a) → (w ≡ false → c ≡ b) → (v || w) ≡ false → c ≡ a
    same false false f h e = h refl ∙ f refl
    same true w f h e = by_true e
    same false true f h e = by_true e

    lighter : (v w : Bool) (i j k : ℕ) → j ≤ i → k ≤ j → (v ≡ true → j < i) → (w ≡ true → k < j) → (v || w) ≡ true → k < i
    lighter true w i j k m n f h e = let d = f refl in omega (arith, n, d)
    lighter false true i j k m n f h e = let d = h refl in omega (arith, m, d)
    lighter false false i j k m n f h e = by_false e

    passed : (p : ProgramView) → IsProgram p → MayGoOn p a → IsTaken p l (changed || again) a c
    passed p prog m =
        let y = x.passed p prog m in
        let w = z.passed p prog (x.goes_on p prog m) in
        record {
          steps = row.all p a b c y.steps w.steps;
          lighter = lighter changed again (weight a) (weight b) (weight c) y.steps.rewrites.no_heavier w.steps.rewrites.no_heavier y.lighter w.lighter;
          fits = λ h f. w.fits h (y.fits h f);
        }

pub in_a_row : (l : LayoutView) (a b c : GraphView) (changed again then : Bool) → then ≡ (changed || again) → Taking l changed a b → Taking l again b c → Taking l then a c
in_a_row l a b c changed again then e x y = subst (λ (t : Bool). Taking l t a c) (sym e) (all l changed again a b c x y)

pub stays : (l : LayoutView) (changed : Bool) (a b : GraphView) → IsOfAProgram a → Taking l changed a b → IsOfAProgram b
stays l changed a b o x = record { program = o.program; valid = o.valid; may_go_on = x.goes_on o.program o.valid o.may_go_on }

-- ---- where a word stands in its text

pub record InText (g : GraphView) (q : Place) : Type 0 where
  pub object : q.obj < length g.counts
  pub inside : q.off + 4 ≤ text_size g q.obj
  pub aligned : q.off % 4 ≡ 0
  pub small : text_size g q.obj < 2 ^ 32

pub in_text : (g : GraphView) → IsOfAProgram g → (load : Load) (q : Place) → IsLoadAt g load q → InText g q
in_text g a load q is = subst (λ (y : Place). InText g y) (ap (λ (y : Op). y.place) there.is_op) found
  where
    there : OpThere g load.id (record { place = q; kind = load_kind load })
    there = op_there g load.id (record { place = q; kind = load_kind load }) a.may_go_on.graph.graph is.is

    b : Block
    b = there.at.block

    x : Op
    x = there.node.op

    places : InPlace g
    places = words_in_place a.program a.valid g a.may_go_on.graph

    among : Has (ops_of b) x
    among = to_map (λ (m : Node). m.op) b.ops there.node (subst (λ (ns : List Node). Has ns there.node) (sym there.at.stands) (has_mid there.at.before there.node there.at.behind))

    place : IsPlaced g b.label x.place
    place = places.words b (op_word (ops_of b) x) there.at.among (append_left (map (op_word (ops_of b)) (ops_of b)) (last_words b.last) (op_word (ops_of b) x) (to_map (op_word (ops_of b)) (ops_of b) x among))

    has_label : (bs : List Block) (y : Block) → Has bs y → Has (label_list bs) y.label
    has_label [] y h = absurd h
    has_label (c ∷ bs) y (inl e) = inl (ap (λ (z : Block). z.label) e)
    has_label (c ∷ bs) y (inr h) = inr (has_label bs y h)

    found : InText g x.place
    found = record {
      object = subst (λ (n : ℕ). n < length g.counts) (sym place.object) (places.labels b.label (a.may_go_on.graph.graph.among b.label (has_label g.blocks b there.at.among))).0;
      inside = place.inside;
      aligned = place.aligned;
      small = (has_flow a.program a.valid g a.may_go_on.graph).small x.place.obj;
    }

-- ---- the edit

module _ (l : LayoutView) (g : GraphView) (graph : IsGraph g) (numbered : AreNumbered g) (load : Load) (q : Place) (is : IsLoadAt g load q) (slot : load.from_slot ≡ true) (zero : load.ra ≡ 31) (last : IsTextsLast g q)
    (at : Option Pointer) (near : near_by load.target at ≡ true) (said : IsSaid l load at) where
  there : OpThere g load.id (record { place = q; kind = load_kind load })
  there = op_there g load.id (record { place = q; kind = load_kind load }) graph is.is

  kind_is : there.node.op.kind ≡ op.Lit load.ra load.rb load.target
  kind_is = ap (λ (o : Op). o.kind) there.is_op ∙ ap (λ (b : Bool). cond b (op.Lit load.ra load.rb load.target) (op.AddrLda load.ra load.rb load.target)) slot

  place_is : there.node.op.place ≡ q
  place_is = ap (λ (o : Op). o.place) there.is_op

  ends : load.ra ≡ 31 → IsTextsLast g there.node.op.place
  ends e = subst (λ (y : Place). IsTextsLast g y) (sym place_is) last

  -- nothing reads r31
  no_bytes : HasNoByteUse there.at.block (word_of there.at.block there.node)
  no_bytes y s i u a b = u.register (by_among (subst (λ (k : OpKind). Among (act_writes (op_act (ops_of there.at.block) k)) s) kind_is u.writes) ∙ zero)
    where
      by_among : Among (load.ra ∷ []) s → s ≡ load.ra
      by_among (inl e) = sym e
      by_among (inr h) = absurd h

  step : (p : ProgramView) → IsProgram p → MayGoOn p g → Step p g (replaced g there.node.id (lda_kind load))
  step p prog m = by_target load.target refl near
    where
      by_target : (t : Target) → load.target ≡ t → near_by t at ≡ true → Step p g (replaced g there.node.id (op.AddrLda load.ra (lda_base t load.rb) t))
      by_target (target.Num n) e h = number_step p prog g m there.node.id there.at.block there.node (is_op g graph there.node there.at) load.ra load.rb n (kind_is ∙ ap (λ (t : Target). op.Lit load.ra load.rb t) e) ends
      by_target (target.Ptr r x) e h = near_step p prog g m there.node.id there.at.block there.node (is_op g graph there.node there.at) load.ra load.rb x r (kind_is ∙ ap (λ (t : Target). op.Lit load.ra load.rb t) e) no_bytes ends
      by_target (target.Code c) e h = absurd (true≢false (sym h))

  fits : (p : ProgramView) → HasRegionsOf p l → OpFits p (gp_of l) (address_of l) there.at.block there.node.op.place (lda_kind load)
  fits p regions = subst (λ (o : ℕ). LdaFits p (gp_of l) (address_of l) o load.target) (sym (ap (λ (y : Place). y.obj) place_is ∙ is.object)) (near_fits l load at said near p regions)

  no_old : NoHalf there.node.op.kind
  no_old = subst (λ (k : OpKind). NoHalf k) (sym kind_is) tt

  taken_there : Taking l true g (replaced g there.node.id (lda_kind load))
  taken_there = record {
    same = λ e. by_true e;
    ids = record {
      blocks = block_ids_set there.node.id (lda_kind load) g.blocks;
      ops = op_ids_set there.node.id (lda_kind load) g.blocks;
      near = λ k h. replaced_near g k there.node.id (lda_kind load) graph numbered (ap is_some (is_op g graph there.node there.at).block) h;
    };
    goes_on = λ p prog m. going (step p prog m).rewrite.goes_on;
    passed = λ p prog m.
        let s = step p prog m in
        record {
          steps = row.more p g g (replaced g there.node.id (lda_kind load)) (row.none p prog g m.graph m.kept m.reach) s;
          lighter = λ e. s.rewrite.lighter;
          fits = λ h f. replace_fits p (gp_of l) (address_of l) prog g m.graph f there.node.id there.at.block there.node (is_op g graph there.node there.at) (lda_kind load) no_old tt s.rewrite.goes_on.graph (fits p h);
        };
  }

  pub taken : (new : GraphView) → new ≡ replaced g load.id (lda_kind load) → Taking l true g new
  taken new e = subst (λ (h : GraphView). Taking l true g h) (sym (e ∙ ap (λ (j : ℕ). replaced g j (lda_kind load)) (sym there.is_id))) taken_there

-- ---- what an op is

pub load_there : (g : GraphView) (id : ℕ) (x : Op) (load : Load) → op_of g id ≡ Some x → load_at id x ≡ Some load → IsLoadAt g load x.place
load_there g id x load e f = by_kind x.kind refl f
  where
    some_is : (a b : Load) → Some a ≡ Some b → a ≡ b
    some_is a b e = cc

    of : (a : Load) → a ≡ load → a.id ≡ id → a.obj ≡ x.place.obj → load_kind a ≡ x.kind → IsLoadAt g load x.place
    of a s i o k = subst (λ (b : Load). IsLoadAt g b x.place) s (record {
      object = sym o;
      is = ap (op_of g) i ∙ e ∙ ap (λ (z : OpKind). Some (record { place = x.place; kind = z })) (sym k);
    })

    by_kind : (k : OpKind) → x.kind ≡ k → load_in id x.place.obj k ≡ Some load → IsLoadAt g load x.place
    by_kind (op.Lit ra rb t) s h = of (record { id = id; obj = x.place.obj; ra = ra; rb = rb; target = t; from_slot = true }) (some_is _ load h) refl refl (sym s)
    by_kind (op.AddrLda ra rb t) s h = of (record { id = id; obj = x.place.obj; ra = ra; rb = rb; target = t; from_slot = false }) (some_is _ load h) refl refl (sym s)
    by_kind (op.Plain i) s h = cc
    by_kind (op.AddrHi ra rb t z) s h = cc
    by_kind (op.UseLo i r) s h = cc
    by_kind (op.UseGp i gp t) s h = cc
    by_kind (op.GpHi ra rb r) s h = cc
    by_kind (op.GpLo ra rb r) s h = cc

pub op_idle : (l : LayoutView) (g : GraphView) (id : ℕ) (x : Op) (o : Option Load) → op_of g id ≡ Some x → o ≡ load_at id x → ((load : Load) → o ≡ Some load → IsIdle l g load x.place) → IsOpIdle l g id
op_idle l g id x o e f idle y load h k =
    let same : y ≡ x = some_op y x (sym h ∙ e) in
    subst (λ (z : Op). IsIdle l g load z.place) (sym same) (idle load (f ∙ subst (λ (z : Op). load_at id z ≡ Some load) same k))
  where
    some_op : (a b : Op) → Some a ≡ Some b → a ≡ b
    some_op a b e = cc
