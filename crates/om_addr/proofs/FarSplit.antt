-- A load of which all uses are base uses that one half serves, made far: an edit of the pass over addresses.
use Rattle.std.proofs.Common.{◌≡◌, ◌⊎◌, inl, inr, ◌<◌, ◌≤◌, ℕ, Bool, true, false, cond, ◌&&◌, ◌==◌, List, [], ◌∷◌, ◌++◌, map, Option, Some, None, refl, sym, ap, ◌∙◌, subst, arith}
use Rattle.std.specs.Prelude.{ℤ, pos, negsuc, ◌+ℤ◌, ◌-ℤ◌, ◌*ℤ◌, ◌≤ℤ◌, int_le, FitsSigned}
use Rattle.std.specs.Int.{w16, int_div_euclid}
use Rattle.std.proofs.lemmas.Bool.{true≢false, eqb-true, eqb-false}
use Rattle.std.proofs.lemmas.Int.{ints}
use Rattle.om_isa.specs.declared.instr.Instr.{Instr}
use Rattle.om_value.specs.declared.value.Place.{Place}
use Rattle.om_value.specs.declared.value.Region.{Region}
use Rattle.om_value.specs.declared.value.Target.{Target}
use Rattle.om_value.specs.declared.value.Target.TheVariants as target
use Rattle.om_prog.specs.Act.{Word}
use Rattle.om_prog.specs.View.{ProgramView, size_of}
use Rattle.om_prog.specs.Valid.{IsProgram}
use Rattle.om_graph.specs.declared.op.Op.{Op}
use Rattle.om_graph.specs.declared.op.OpKind.{OpKind}
use Rattle.om_graph.specs.declared.op.OpKind.TheVariants as op
use Rattle.om_graph.specs.View.{Node, Block, GraphView, Has, ops_of, replaced, replace_in, is_live_op}
use Rattle.om_graph.specs.Held.{IsGraph, Apart, node_ids, block_ids, op_ids}
use Rattle.om_graph.specs.Numbers.{number_of, AreNumbered}
use Rattle.om_graph.specs.Fits.{from_gp, IsHighPart, OpsFit}
use Rattle.om_graph.specs.Checks.{MaskChecked}
use Rattle.om_graph.specs.Outs.{outs_of}
use Rattle.om_graph.specs.Uses.{IsBaseUse}
use Rattle.om_graph.proofs.HeldEdits.{replaced_held}
use Rattle.om_graph.proofs.OfProgram.{of_map}
use Rattle.om_graph.specs.Rewritten.{SameFrame}
use Rattle.om_prog.specs.Facts.{has}
use Rattle.om_blocks.specs.Effects.{kind_reads, kind_writes}
use Rattle.std.specs.Prelude.{is_some}
use Rattle.om_blocks.specs.Found.{masks_in}
use Rattle.om_blocks.proofs.Walking.{apart_in}
use Rattle.om_checks.proofs.Closed.{one_home}
use Rattle.om_uses.specs.Parts.{Kept, IsNearly}
use Rattle.om_uses.specs.Readers.{IsResult, reads}
use Rattle.om_uses.specs.LocalUses.{words_behind}
use Rattle.om_uses.proofs.Near.{replaced_near}
use Rattle.om_layout.specs.Layout.{LayoutView, gp_of, address_of}
use Rattle.om_passes.specs.Blocks.{OneBlock}
use Rattle.om_passes.specs.Far.{FarLoad, far_target, far_op, IsFarUse, IsFarLoad, IsMadeFar, FitsBehind, FitsFar}
use Rattle.om_passes.specs.OneEdit.{MayGoOn}
use Rattle.om_passes.specs.Replaces.{OpEdit, all_replaced, kind_behind, AreOf}
use Rattle.om_passes.specs.Step.{Step}
use Rattle.om_passes.proofs.FarEdits.{one_disp}
use Rattle.om_passes.proofs.FarFits.{far_fits}
use Rattle.om_passes.proofs.FarGoing.{far_goes}
use Rattle.om_passes.proofs.Replaces.{graph_behind, frame_behind, labels_behind, far_behind}
use Rattle.om_addr.specs.declared.loads.Load.{Load}
use Rattle.om_addr.specs.declared.near.Pointer.{Pointer}
use Rattle.om_addr.specs.declared.far.Bases.{Bases}
use Rattle.om_addr.specs.Passing.{HasRegionsOf, IsReducedOnce, ReducingOnce}
use Rattle.om_addr.specs.Loads.{load_kind}
use Rattle.om_addr.specs.Near.{is_small, Lies, IsSaid}
use Rattle.om_addr.specs.FarRow.{edits_of}
use Rattle.om_addr.specs.Laws.{IsWhollyFar}
use Rattle.om_addr.specs.FarTest.{base_disp_of, base_of_kind, half_kind, writes_it, IsReaderOf}
use Rattle.om_addr.specs.FarEdit.{no_bases, bases_from, AreBasesOf, high_part, quotient_at, one_half, half_of, IsFarEdit, IsDeadAtEnd}
use Rattle.om_addr.proofs.Bases.{small_fits}
use Rattle.om_addr.proofs.InARow.{going}
use Rattle.om_addr.proofs.OpOnce.{masks_set, same_masks}
use Rattle.om_addr.proofs.Walking.{is_op, op_ids_set, block_ids_set}
use Rattle.om_addr.proofs.FarStep.{far_step}
use Rattle.om_addr.proofs.FarMasks.{far_masks}
use Rattle.om_addr.proofs.FarKinds.{edits_in, kinds_far}
use Rattle.om_addr.proofs.FarTest.{base_is, half_made, StandsAs, kind_stands}
use Rattle.om_addr.proofs.FarBases.{int_le_is, AllOf, all_of, least_reader}
use Rattle.om_addr.proofs.FarWalk.{live_all}
use Rattle.om_addr.proofs.FarMade as far

-- ---- numbers

both : (a b : Bool) → (a && b) ≡ true → (a ≡ true) × (b ≡ true)
both true b h = (refl, h)
both false b h = absurd (true≢false (sym h))

high_is : (w z : ℤ) → z +ℤ pos 32768 ≡ w → ((pos 65536 *ℤ int_div_euclid w (pos 65536)) ≤ℤ (z +ℤ pos 32768)) × ((z +ℤ pos 32768) ≤ℤ ((pos 65536 *ℤ int_div_euclid w (pos 65536)) +ℤ pos 65535))
high_is (pos a) z e = (omega (arith, ints, e), omega (arith, ints, e))
high_is (negsuc a) z e = (omega (arith, ints, e), omega (arith, ints, e))

quotient_is : (w z : ℤ) → z ≡ w → ((pos 16 *ℤ int_div_euclid w (pos 16)) ≤ℤ z) × (z ≤ℤ ((pos 16 *ℤ int_div_euclid w (pos 16)) +ℤ pos 15))
quotient_is (pos a) z e = (omega (arith, ints, e), omega (arith, ints, e))
quotient_is (negsuc a) z e = (omega (arith, ints, e), omega (arith, ints, e))

-- between the least and the greatest all fit
between_fits :
    (d h least most z : ℤ) → (pos 65536 *ℤ h) ≤ℤ ((d +ℤ least) +ℤ pos 32768) → FitsSigned w16 ((d +ℤ most) -ℤ (pos 65536 *ℤ h)) → least ≤ℤ z → z ≤ℤ most → FitsSigned w16 ((d +ℤ z) -ℤ (pos 65536 *ℤ h))
between_fits d h least most z a f m n = omega (arith, ints, a, f, m, n)

pub small_register : (n r : ℕ) → n ≡ r → r < 32 → (n ≡ 31 → ⊥) → r < 31
small_register n r e l h = by_test (n == 31) refl
  where
    by_test : (b : Bool) → (n == 31) ≡ b → r < 31
    by_test true k = absurd (h (eqb-true n 31 k))
    by_test false k = let d = eqb-false n 31 k in omega (arith, e, l, d)

-- ---- ids and masks of a row

module _ (b : Block) where
  home_ids : (f : OpKind → Option OpKind) (ends : OpKind → Bool) (ns : List Node) → ((n : Node) → Has ns n → Has b.ops n) → (i : ℕ) → Has (node_ids ns) i → Has (node_ids b.ops) i
  home_ids f ends [] h i k = absurd k
  home_ids f ends (n ∷ ns) h i (inl e) = id_of b.ops n (h n (inl refl)) i e
    where
      id_of : (ms : List Node) (n : Node) → Has ms n → (i : ℕ) → n.id ≡ i → Has (node_ids ms) i
      id_of [] n h i e = h
      id_of (m ∷ ms) n (inl s) i e = inl (ap (λ (y : Node). y.id) s ∙ e)
      id_of (m ∷ ms) n (inr h) i e = inr (id_of ms n h i e)
  home_ids f ends (n ∷ ns) h i (inr k) = home_ids f ends ns (λ m q. h m (inr q)) i k

  all_home : (es : List OpEdit) → ((i : ℕ) → Has (map (λ e. e.id) es) i → Has (node_ids b.ops) i) → AreOf b es
  all_home [] h = tt
  all_home (e ∷ es) h = (h e.id (inl refl), all_home es (λ i k. h i (inr k)))

numbered_set : (g : GraphView) (id : ℕ) (k : OpKind) → AreNumbered g → AreNumbered (replaced g id k)
numbered_set g id k n b h =
    let c = of_map (replace_in id k) g.blocks b h in
    subst (λ (x : Block). number_of g x.label ≡ Some x.id) c.2 (n c.0 c.1)

near_all : (g : GraphView) (es : List OpEdit) (u : Kept) → IsGraph g → AreNumbered g → ((e : OpEdit) → Has es e → is_live_op g e.id ≡ true) → IsNearly g u → IsNearly (all_replaced g es) u
near_all g [] u graph numbered live near = near
near_all g (e ∷ es) u graph numbered live near =
    near_all (replaced g e.id e.kind) es u (replaced_held g e.id e.kind graph) (numbered_set g e.id e.kind numbered) (λ x h. live_all g (e ∷ []) x.id ∙ live x (inr h))
    (replaced_near g u e.id e.kind graph numbered (live e (inl refl)) near)

blocks_all : (g : GraphView) (es : List OpEdit) → block_ids (all_replaced g es).blocks ≡ block_ids g.blocks
blocks_all g [] = refl
blocks_all g (e ∷ es) = blocks_all (replaced g e.id e.kind) es ∙ block_ids_set e.id e.kind g.blocks

ops_all : (g : GraphView) (es : List OpEdit) → op_ids (all_replaced g es).blocks ≡ op_ids g.blocks
ops_all g [] = refl
ops_all g (e ∷ es) = ops_all (replaced g e.id e.kind) es ∙ op_ids_set e.id e.kind g.blocks

masks_all : (g : GraphView) (es : List OpEdit) (masks : List ℕ) (q : Place) (r : ℕ) → masks_in (all_replaced g es) masks q r ≡ masks_in g masks q r
masks_all g [] masks q r = refl
masks_all g (e ∷ es) masks q r = masks_all (replaced g e.id e.kind) es masks q r ∙ masks_set g masks e.id e.kind q r

-- ---- one place in a graph

id_there : (ns : List Node) (n : Node) → Has ns n → Has (node_ids ns) n.id
id_there [] n h = absurd h
id_there (x ∷ ns) n (inl e) = inl (ap (λ (y : Node). y.id) e)
id_there (x ∷ ns) n (inr h) = inr (id_there ns n h)

mid_there : (xs ys : List Node) (n : Node) → Has (xs ++ n ∷ ys) n
mid_there [] ys n = inl refl
mid_there (x ∷ xs) ys n = inr (mid_there xs ys n)

same_behind : (xs ys zs us : List Node) (n m : Node) → Apart (node_ids (xs ++ n ∷ ys)) → xs ++ n ∷ ys ≡ zs ++ m ∷ us → n.id ≡ m.id → ys ≡ us
same_behind [] ys [] us n m a e i = cc
same_behind [] ys (z ∷ zs) us n m a e i =
    let t : ys ≡ zs ++ m ∷ us = cc in
    absurd (a.0 (subst (λ (l : List Node). Has (node_ids l) n.id) (sym t) (subst (λ (j : ℕ). Has (node_ids (zs ++ m ∷ us)) j) (sym i) (id_there (zs ++ m ∷ us) m (mid_there zs us m)))))
same_behind (x ∷ xs) ys [] us n m a e i =
    let h : x ≡ m = cc in
    absurd (a.0 (subst (λ (j : ℕ). Has (node_ids (xs ++ n ∷ ys)) j) (i ∙ sym (ap (λ (y : Node). y.id) h)) (id_there (xs ++ n ∷ ys) n (mid_there xs ys n))))
same_behind (x ∷ xs) ys (z ∷ zs) us n m a e i =
    let t : xs ++ n ∷ ys ≡ zs ++ m ∷ us = cc in
    same_behind xs ys zs us n m a.1 t i

-- ---- the edit

module _ (l : LayoutView) (masks : List ℕ) (g new : GraphView) (graph : IsGraph g) (numbered : AreNumbered g) (load : Load) (region : Region) (x : ℕ) (pointer : load.target ≡ target.Ptr region x) (slot : load.from_slot ≡ true)
    (register : load.ra < 31) (at : Pointer) (said : IsSaid l load (Some at)) (dead : IsDeadAtEnd masks g load) (a : Bases) (bases : AreBasesOf g load.id load.ra (Some a)) (any : a.any ≡ true)
    (half : one_half at a.least a.most ≡ true) (edit : IsFarEdit load a.least g new) where
  is_lit : edit.node.op ≡ record { place = edit.place; kind = op.Lit load.ra load.rb (target.Ptr region x) }
  is_lit =
      edit.is
      ∙ ap (λ (t : Bool). record { place = edit.place; kind = cond t (op.Lit load.ra load.rb load.target) (op.AddrLda load.ra load.rb load.target) }) slot
      ∙ ap (λ (t : Target). record { place = edit.place; kind = op.Lit load.ra load.rb t }) pointer

  abbrev result : IsResult g load.id load.ra edit.block edit.behind
  result = record {
    among = edit.among;
    before = edit.before;
    node = edit.node;
    stands = edit.stands;
    is_id = edit.is_id;
    register = register;
    writes = ap (λ (o : Op). kind_writes o.kind) is_lit;
  }

  node_there : Has edit.block.ops edit.node
  node_there = subst (λ (ns : List Node). Has ns edit.node) (sym edit.stands) (mid_there edit.before edit.behind edit.node)

  -- the displacements are those of the same op
  are_here : bases_from load.ra edit.block.last edit.behind no_bases ≡ Some a
  are_here =
      let here = id_there edit.block.ops edit.node node_there in
      let there = subst (λ (ns : List Node). Has (node_ids ns) bases.node.id) (sym bases.stands) (id_there (bases.before ++ bases.node ∷ bases.behind) bases.node (mid_there bases.before bases.behind bases.node)) in
      let ids : bases.node.id ≡ edit.node.id = bases.is_id ∙ sym edit.is_id in
      let home : bases.block ≡ edit.block = one_home g.blocks bases.block edit.block edit.node.id graph.op_ids bases.among edit.among (subst (λ (j : ℕ). Has (node_ids bases.block.ops) j) ids there) here in
      let apart = subst (λ (ns : List Node). Apart (node_ids ns)) bases.stands (apart_in g.blocks bases.block graph.op_ids bases.among) in
      let same = same_behind bases.before bases.behind edit.before edit.behind bases.node edit.node apart (sym bases.stands ∙ ap (λ (y : Block). y.ops) home ∙ edit.stands) ids in
      ap (λ (ns : List Node). bases_from load.ra edit.block.last ns no_bases) (sym same) ∙ ap (λ (y : Block). bases_from load.ra y.last bases.behind no_bases) (sym home) ∙ sym bases.are

  read : (n : Node) (z : ℤ) → base_of_kind load.ra n.op.kind ≡ Some z → reads load.ra n ≡ true
  read n z e = by_kind (kind_stands load.ra n.op.kind z e)
    where
      by_kind : StandsAs load.ra n.op.kind z → reads load.ra n ≡ true
      by_kind s = ap (λ (k : OpKind). has (kind_reads k) load.ra) s.plain ∙ (base_is load.ra s.instr z s.disp).1

  all : AllOf load.ra edit.block.last edit.behind no_bases a
  all = all_of load.ra edit.block.last edit.behind no_bases a are_here

  first : IsReaderOf load.ra edit.behind a.least
  first = least_reader load.ra edit.block.last read edit.behind a are_here any

  abbrev row : List OpEdit
  row = edits_of (half_kind load.ra edit.place) (writes_it load.ra) edit.behind ++ record { id = load.id; kind = half_of load a.least } ∷ []

  row_home : (i : ℕ) → Has (map (λ e. e.id) row) i → Has (node_ids edit.block.ops) i
  row_home i h = by_part (edits_of (half_kind load.ra edit.place) (writes_it load.ra) edit.behind) h (λ k. home_ids edit.block (half_kind load.ra edit.place) (writes_it load.ra) edit.behind (λ n q. subst (λ (ns : List Node). Has ns n) (sym edit.stands) (right_there edit.before edit.behind edit.node n q)) i (edits_in (half_kind load.ra edit.place) (writes_it load.ra) edit.behind i k))
    where
      right_there : (xs ys : List Node) (n m : Node) → Has ys m → Has (xs ++ n ∷ ys) m
      right_there [] ys n m h = inr h
      right_there (x ∷ xs) ys n m h = inr (right_there xs ys n m h)

      by_part : (es : List OpEdit) → Has (map (λ e. e.id) (es ++ record { id = load.id; kind = half_of load a.least } ∷ [])) i → (Has (map (λ e. e.id) es) i → Has (node_ids edit.block.ops) i) → Has (node_ids edit.block.ops) i
      by_part [] (inl e) again = subst (λ (j : ℕ). Has (node_ids edit.block.ops) j) (edit.is_id ∙ e) (id_there edit.block.ops edit.node node_there)
      by_part [] (inr h) again = absurd h
      by_part (e ∷ es) (inl s) again = again (inl s)
      by_part (e ∷ es) (inr h) again = by_part es h (λ k. again (inr k))

  row_of : AreOf edit.block row
  row_of = all_home edit.block row row_home

  module _ (p : ProgramView) (prog : IsProgram p) (m : MayGoOn p g) where
    abbrev made_of : FarLoad
    made_of = far.load_of_it p prog g m load.id load.ra load.rb edit.block edit.behind result edit.place region x is_lit a.least a.most all.all first

    is_far : IsFarLoad made_of edit.block
    is_far = far.is_far_load p prog g m load.id load.ra load.rb edit.block edit.behind result edit.place region x is_lit a.least a.most all.all first

    abbrev coded : OpEdit
    coded = record { id = load.id; kind = half_of load a.least }

    abbrev named : OpEdit
    named = record { id = edit.node.id; kind = op.AddrHi load.ra load.rb (target.Ptr region x) a.least }

    edit_is : coded ≡ named
    edit_is = ap (λ (i : ℕ). record { id = i; kind = half_of load a.least }) (sym edit.is_id) ∙ ap (λ (t : Target). record { id = edit.node.id; kind = op.AddrHi load.ra load.rb t a.least }) pointer

    row_kinds : (n : Node) → Has edit.block.ops n → kind_behind n.id n.op.kind row ≡ (far_op made_of n.op).kind
    row_kinds n h =
        ap (λ (e : OpEdit). kind_behind n.id n.op.kind (edits_of (half_kind load.ra edit.place) (writes_it load.ra) edit.behind ++ e ∷ [])) edit_is
        ∙ kinds_far made_of (half_kind load.ra edit.place) (writes_it load.ra) (half_made made_of load.ra) edit.before edit.node edit.behind
        (far.parts_apart p prog g m load.id load.ra load.rb edit.block edit.behind result edit.place region x is_lit a.least a.most all.all first) (sym (ap (λ (o : Op). o.place) is_lit)) (λ q. refl) n
        (subst (λ (ns : List Node). Has ns n) edit.stands h)

    after : (n : Block) × OneBlock g.blocks (all_replaced g row).blocks edit.block n × IsMadeFar made_of edit.block n × (n.id ≡ edit.block.id)
    after = far_behind g made_of edit.block row graph edit.among row_of row_kinds

    frame : SameFrame g (all_replaced g row)
    frame = frame_behind g row

    wholly : (bf : List Word) × IsWhollyFar g (masks_in g masks) made_of edit.block bf (words_behind edit.block edit.behind)
    wholly =
        far.wholly p prog g m load.id load.ra load.rb edit.block edit.behind result edit.place region x is_lit a.least a.most all.all first (masks_in g masks)
        (inr (dead.unread edit.block edit.node edit.among node_there edit.is_id))

    module _ (checked : MaskChecked (masks_in g masks) g) where
      step : Step p g (all_replaced g row)
      step =
          far_step p prog g (all_replaced g row) m frame made_of edit.block after.0 after.1 is_far after.2 (masks_in g masks) checked wholly.0 (words_behind edit.block edit.behind) wholly.1
          (far_goes p prog g (all_replaced g row) m (graph_behind g row graph) made_of edit.block after.0 after.1 frame.counts frame.roots frame.tables (labels_behind g row) is_far after.2)

    goes : MayGoOn p (all_replaced g row)
    goes =
        going
        (far_goes p prog g (all_replaced g row) m (graph_behind g row graph) made_of edit.block after.0 after.1 frame.counts frame.roots frame.tables (labels_behind g row) is_far after.2).goes_on

    module _ (h : HasRegionsOf p l) where
      lies : Lies p l load.obj region x at
      lies = said p h region x pointer

      d : ℤ
      d = from_gp p (gp_of l) (address_of l) edit.place.obj (target.Ptr region x)

      d_is : at.distance ≡ from_gp p (gp_of l) (address_of l) edit.place.obj (target.Ptr region x)
      d_is = lies.distance ∙ ap (λ (o : ℕ). from_gp p (gp_of l) (address_of l) o (target.Ptr region x)) (sym edit.object)

      parts : (is_small (high_part (at.distance +ℤ a.least)) ≡ true)
          × (is_small ((at.distance +ℤ a.most) -ℤ (pos 65536 *ℤ high_part (at.distance +ℤ a.least))) ≡ true) × (int_le (quotient_at at a.most) (quotient_at at a.least) ≡ true)
      parts =
          let q = both (is_small (high_part (at.distance +ℤ a.least)) && is_small ((at.distance +ℤ a.most) -ℤ (pos 65536 *ℤ high_part (at.distance +ℤ a.least)))) (int_le (quotient_at at a.most) (quotient_at at a.least)) half in
          let p = both (is_small (high_part (at.distance +ℤ a.least))) (is_small ((at.distance +ℤ a.most) -ℤ (pos 65536 *ℤ high_part (at.distance +ℤ a.least)))) q.0 in
          (p.0, p.1, q.1)

      high : ((pos 65536 *ℤ high_part (at.distance +ℤ a.least)) ≤ℤ ((at.distance +ℤ a.least) +ℤ pos 32768))
          × (((at.distance +ℤ a.least) +ℤ pos 32768) ≤ℤ ((pos 65536 *ℤ high_part (at.distance +ℤ a.least)) +ℤ pos 65535))
      high = high_is ((at.distance +ℤ a.least) +ℤ pos 32768) (at.distance +ℤ a.least) refl

      one_quotient : (z : ℤ) → a.least ≤ℤ z → z ≤ℤ a.most → ((pos 16 *ℤ quotient_at at a.least) ≤ℤ (pos x +ℤ z)) × ((pos x +ℤ z) ≤ℤ ((pos 16 *ℤ quotient_at at a.least) +ℤ pos 15))
      one_quotient z m n =
          let low = (quotient_is (at.off +ℤ a.least) (at.off +ℤ a.least) refl).0 in
          let up = (quotient_is (at.off +ℤ a.most) (at.off +ℤ a.most) refl).1 in
          quotients (quotient_at at a.least) (quotient_at at a.most) at.off (pos x) a.least a.most z lies.off low up (int_le_is (quotient_at at a.most) (quotient_at at a.least) parts.2) m n
        where
          quotients :
              (k j off y least most z : ℤ) → off ≡ y → (pos 16 *ℤ k) ≤ℤ (off +ℤ least) → (off +ℤ most) ≤ℤ ((pos 16 *ℤ j) +ℤ pos 15) → j ≤ℤ k → least ≤ℤ z → z ≤ℤ most →
              ((pos 16 *ℤ k) ≤ℤ (y +ℤ z)) × ((y +ℤ z) ≤ℤ ((pos 16 *ℤ k) +ℤ pos 15))
          quotients k j off y least most z e a b c m n = (omega (arith, ints, e, a, m), omega (arith, ints, e, b, c, n))

      use_fits : (z : ℤ) → a.least ≤ℤ z → z ≤ℤ a.most → FitsBehind p (gp_of l) (address_of l) made_of (high_part (at.distance +ℤ a.least)) (quotient_at at a.least) z
      use_fits z m n =
          let q = one_quotient z m n in
          record {
            above = q.0;
            below = q.1;
            fits =
                subst (λ (e : ℤ). FitsSigned w16 ((e +ℤ z) -ℤ (pos 65536 *ℤ high_part (at.distance +ℤ a.least)))) d_is
                (between_fits at.distance (high_part (at.distance +ℤ a.least)) a.least a.most z high.0 (small_fits ((at.distance +ℤ a.most) -ℤ (pos 65536 *ℤ high_part (at.distance +ℤ a.least))) parts.1) m n);
          }

      fit : FitsFar p (gp_of l) (address_of l) made_of edit.block
      fit = record {
        within = lies.inside;
        high = high_part (at.distance +ℤ a.least);
        is_high = record {
          above = subst (λ (e : ℤ). (pos 65536 *ℤ high_part (at.distance +ℤ a.least)) ≤ℤ ((e +ℤ a.least) +ℤ pos 32768)) d_is high.0;
          below = subst (λ (e : ℤ). ((e +ℤ a.least) +ℤ pos 32768) ≤ℤ ((pos 65536 *ℤ high_part (at.distance +ℤ a.least)) +ℤ pos 65535)) d_is high.1;
        };
        high_fits = small_fits (high_part (at.distance +ℤ a.least)) parts.0;
        quotient = quotient_at at a.least;
        uses = λ o i z ho u k b.
            let t = far.use_bounds p prog g m load.id load.ra load.rb edit.block edit.behind result edit.place region x is_lit a.least a.most all.all first o ho u i z k b in
            use_fits z t.0 t.1;
      }

  pub far_once_row : ReducingOnce l masks g (all_replaced g row)
  far_once_row = record {
    ids = record { blocks = blocks_all g row; ops = ops_all g row; near = λ k h. near_all g row k graph numbered row_live h };
    goes_on = goes;
    passed = λ p prog m masked.
        let s = step p prog m masked in
        record {
          step = s;
          fits = λ h f. far_fits p (gp_of l) (address_of l) prog g (all_replaced g row) m.graph s.rewrite.goes_on.graph (made_of p prog m) edit.block (after p prog m).0 (after p prog m).1 (is_far p prog m) (after p prog m).2 (fit p prog m h) f;
          checked =
              same_masks (masks_in (all_replaced g row) masks) (masks_in g masks) (all_replaced g row) (masks_all g row masks)
              (far_masks p prog g (all_replaced g row) m.graph s.rewrite.goes_on.graph (frame p prog m) (made_of p prog m) edit.block (after p prog m).0 (after p prog m).1 (is_far p prog m) (after p prog m).2
              (λ e. omega (arith, register, e)) (masks_in g masks) masked);
        };
  }
    where
      live_in : (j : ℕ) → Has (node_ids edit.block.ops) j → is_live_op g j ≡ true
      live_in j h = by_node edit.block.ops h (λ n k. k)
        where
          by_node : (ns : List Node) → Has (node_ids ns) j → ((n : Node) → Has ns n → Has edit.block.ops n) → is_live_op g j ≡ true
          by_node [] h f = absurd h
          by_node (n ∷ ns) (inl e) f =
              let s = split_node edit.block.ops n (f n (inl refl)) in
              subst (λ (i : ℕ). is_live_op g i ≡ true) e (ap is_some (is_op g graph n (record { block = edit.block; among = edit.among; before = s.0; behind = s.1; stands = s.2 })).block)
            where
              split_node : (ms : List Node) (n : Node) → Has ms n → (xs ys : List Node) × (ms ≡ xs ++ n ∷ ys)
              split_node [] n h = absurd h
              split_node (y ∷ ms) n (inl e) = ([], ms, ap (λ (z : Node). z ∷ ms) e)
              split_node (y ∷ ms) n (inr h) = let r = split_node ms n h in (y ∷ r.0, r.1, ap (λ (l : List Node). y ∷ l) r.2)
          by_node (n ∷ ns) (inr h) f = by_node ns h (λ m k. f m (inr k))

      row_live : (e : OpEdit) → Has row e → is_live_op g e.id ≡ true
      row_live e h = live_in e.id (row_home e.id (id_in row h))
        where
          id_in : (es : List OpEdit) → Has es e → Has (map (λ e. e.id) es) e.id
          id_in [] h = absurd h
          id_in (y ∷ es) (inl s) = inl (ap (λ (z : OpEdit). z.id) s)
          id_in (y ∷ es) (inr h) = inr (id_in es h)

  pub far_once : ReducingOnce l masks g new
  far_once = subst (λ (n : GraphView). ReducingOnce l masks g n) (sym edit.set) far_once_row
