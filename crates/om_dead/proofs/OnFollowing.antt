-- Deletion goes on by masks that go down.
use Rattle.std.proofs.Common.{◌≡◌, ◌<◌, ◌==◌, ◌||◌, ℕ, Bool, true, false, cond, List, [], ◌∷◌, Option, Some, length, get_or, refl, sym, ap, ◌∙◌, subst}
use Rattle.std.specs.Prelude.{map, find, option_map}
use Rattle.std.specs.Int.{bit_at}
use Rattle.std.proofs.lemmas.Bool.{eqb-true, eq-eqb}
use Rattle.om_value.specs.declared.value.Place.{Place}
use Rattle.om_value.specs.Same.{place_eq}
use Rattle.om_graph.specs.View.{Block, GraphView, Has, has_label, is_live_block, labelled}
use Rattle.om_graph.specs.Held.{IsGraph}
use Rattle.om_graph.specs.Checks.{MaskChecked}
use Rattle.om_graph.specs.Outs.{outs_of}
use Rattle.om_graph.proofs.Outs.{are_outs}
use Rattle.om_blocks.specs.Found.{masks_in, mask_under, all_registers}
use Rattle.om_blocks.proofs.Entering.{entering, label_is, labelled_block}
use Rattle.om_blocks.proofs.OnFilling.{found_id}
use Rattle.om_blocks.proofs.Walking.{found_block}
use Rattle.om_live.specs.Outs.{AreOuts}
use Rattle.om_passes.specs.Passed.{IsOfAProgram}
use Rattle.om_dead.specs.Sweeps.{IsSweptFor, IsSwept, IsSweptBlock, IsSweeping, IsOutOf, stripped}
use Rattle.om_dead.specs.Words.{AreDeleted, IsRewritten}
use Rattle.om_dead.specs.Lowering.{IsCopy, Holds, SomeDeleted, end_under, ends_in}
use Rattle.om_dead.proofs.Shapes.{or_turned}
use Rattle.om_dead.proofs.OnSweeps.{now_of, graph_of, swept_none, live_same}
use Rattle.om_dead.proofs.OnGraphs.{deleted_by, deleted_none, deleted_both}

-- ---- walks of which nothing is said

pub record Any (done : List Block) (t : Bool) : Type 0 where
  pub same : t ≡ t

pub any_block : (done : List Block) (t : Bool) → Any done t
any_block done t = record { same = refl }

-- ---- labels stay

labelled_stripped : (q : Place) (bs : List Block) → option_map (λ (b : Block). b.id) (find (has_label q) (map stripped bs)) ≡ option_map (λ (b : Block). b.id) (find (has_label q) bs)
labelled_stripped q [] = refl
labelled_stripped q (b ∷ bs) = by_test (place_eq b.label q) (labelled_stripped q bs)
  where
    by_test :
        (t : Bool) → option_map (λ (x : Block). x.id) (find (has_label q) (map stripped bs)) ≡ option_map (λ (x : Block). x.id) (find (has_label q) bs) →
        option_map (λ (x : Block). x.id) (cond t (Some (stripped b)) (find (has_label q) (map stripped bs))) ≡ option_map (λ (x : Block). x.id) (cond t (Some b) (find (has_label q) bs))
    by_test true i = refl
    by_test false i = i

labelled_same : (old now : GraphView) → map stripped now.blocks ≡ map stripped old.blocks → (q : Place) → labelled now q ≡ labelled old q
labelled_same old now same q =
    sym (labelled_stripped q now.blocks) ∙ ap (λ (bs : List Block). option_map (λ (b : Block). b.id) (find (has_label q) bs)) same ∙ labelled_stripped q old.blocks

-- ---- what a sweep leaves

module _ (now : GraphView) (graph : IsGraph now) (f : Place → ℕ → Bool) (starts ends : List ℕ) (checked : MaskChecked f now)
    (same : (b : Block) (r : ℕ) → Has now.blocks b → masks_in now starts b.label r ≡ f b.label r) where
  pub holds_by :
      ((id : ℕ) → is_live_block now id ≡ true → (id < length starts) × (id < length ends)) →
      ((b : Block) (r : ℕ) → Has now.blocks b → r < 31 → outs_of now f b.label r ≡ true → bit_at (get_or ends b.id 0) r ≡ 1) → Holds now starts ends
  holds_by room covered = record {
    room = room;
    checked = record {
      reads = λ b r h l e. same b r h ∙ checked.reads b r h l e;
      enters = λ b n r e l m w.
          let h = entering now b n e in
          same b r h.0 ∙ checked.enters b n r e l (sym (same n r h.1) ∙ m) w;
    };
    covered = λ b r h l e.
        let n = (are_outs now graph.blocks (masks_in now starts)).only b r h l e in
        covered b r h l ((are_outs now graph.blocks f).covers b n.0 r n.1 l (sym (same n.0 r (entering now b n.0 n.1).1) ∙ n.2));
  }

-- after a sweep of all blocks
pub holds_after :
    (old new : GraphView) (masks starts ends : List ℕ) (changed : Bool) → IsOfAProgram old → IsCopy old masks starts → AreOuts old (masks_in old masks) old.blocks ends →
    IsSwept (masks_in old masks) (outs_of old (masks_in old masks)) old new changed → Holds new starts ends
holds_after old new masks starts ends changed o copy are s =
    holds_by new (graph_of new (now_of _ _ old new changed s)) (masks_in old masks) starts ends f.checked same
    (λ id live. let k = sym (live_same old new s.blocks id) ∙ live in (copy.room id k, are.room id k)) covered
  where
    f : IsSweptFor o.program (masks_in old masks) (outs_of old (masks_in old masks)) old new
    f = s.each o.program o.valid o.may_go_on

    graph : IsGraph new
    graph = graph_of new (now_of _ _ old new changed s)

    -- the block that was there
    was : (b : Block) → Has new.blocks b → (n : Block) × Has old.blocks n × (n.label ≡ b.label) × (n.id ≡ b.id)
    was b h = labelled_block old b.label b.id (sym (labelled_same old new s.blocks b.label) ∙ label_is new graph b h)

    same : (b : Block) (r : ℕ) → Has new.blocks b → masks_in new starts b.label r ≡ masks_in old masks b.label r
    same b r h =
        let n = was b h in
        let e : get_or starts b.id all_registers ≡ get_or masks b.id all_registers =
        subst (λ (i : ℕ). get_or starts i all_registers ≡ get_or masks i all_registers) n.3 (copy.each n.0 n.1) in
        ap (λ (k : Option ℕ). mask_under starts k r) (label_is new graph b h) ∙ ap (λ (m : ℕ). bit_at m r == 1) e
        ∙ sym (ap (λ (k : Option ℕ). mask_under masks k r) (sym (labelled_same old new s.blocks b.label) ∙ label_is new graph b h))

    covered : (b : Block) (r : ℕ) → Has new.blocks b → r < 31 → outs_of new (masks_in old masks) b.label r ≡ true → bit_at (get_or ends b.id 0) r ≡ 1
    covered b r h l e =
        let n = was b h in
        subst (λ (i : ℕ). bit_at (get_or ends i 0) r ≡ 1) n.3
        ((are.each n.0 n.1 r l).1 (subst (λ (q : Place). outs_of old (masks_in old masks) q r ≡ true) (sym n.2) (f.fewer b r h l e)))

-- ---- the sweep of one block

module _ (g : GraphView) (o : IsOfAProgram g) (starts ends : List ℕ) (holds : Holds g starts ends) (b : ℕ) where
  end_bit : (x : Block) (r : ℕ) → Has g.blocks x → ends_in g ends x.label r ≡ (bit_at (get_or ends x.id 0) r == 1)
  end_bit x r h = ap (λ (k : Option ℕ). end_under ends k r) (label_is g (graph_of g o) x h)

  none_swept : IsSwept (masks_in g starts) (ends_in g ends) g g false
  none_swept = swept_none (masks_in g starts) (ends_in g ends) g o holds.checked (λ x r h l e. end_bit x r h ∙ eq-eqb (bit_at (get_or ends x.id 0) r) 1 (holds.covered x r h l e))

  out_is : IsOutOf (ends_in g ends) g b (get_or ends b 0)
  out_is x e r l =
      let h = found_block g.blocks b x e in
      let id = found_id g.blocks b x e in
      let k : ends_in g ends x.label r ≡ (bit_at (get_or ends b 0) r == 1) = end_bit x r h ∙ ap (λ (i : ℕ). bit_at (get_or ends i 0) r == 1) id in
      (λ q. k ∙ eq-eqb (bit_at (get_or ends b 0) r) 1 q, λ t. eqb-true (bit_at (get_or ends b 0) r) 1 (sym k ∙ t))

  pub sweeping_one : (out : ℕ) → out ≡ get_or ends b 0 → IsSweeping g b out
  sweeping_one out e = record {
    masks = masks_in g starts;
    outs = ends_in g ends;
    old = g;
    changed = false;
    swept = none_swept;
    is_out = subst (λ (n : ℕ). IsOutOf (ends_in g ends) g b n) (sym e) out_is;
  }

  module _ (h : GraphView) (out : ℕ) (d : Bool) (e : out ≡ get_or ends b 0) (is : IsSweptBlock g h b out d) where
    s : IsSwept (masks_in g starts) (ends_in g ends) g h d
    s =
        subst (λ (t : Bool). IsSwept (masks_in g starts) (ends_in g ends) g h t) (or_turned d false)
        (is.swept (masks_in g starts) (ends_in g ends) g false none_swept (subst (λ (n : ℕ). IsOutOf (ends_in g ends) g b n) (sym e) out_is))

    pub one_deleted : SomeDeleted g h
    one_deleted = (d, deleted_by (masks_in g starts) (ends_in g ends) g h d s)

    pub one_program : IsOfAProgram h
    one_program = now_of (masks_in g starts) (ends_in g ends) g h d s

    pub one_live : (id : ℕ) → is_live_block g id ≡ true → is_live_block h id ≡ true
    one_live id live = live_same g h s.blocks id ∙ live

    pub one_holds : Holds h starts ends
    one_holds =
        holds_by h (graph_of h one_program) (masks_in g starts) starts ends f.checked (λ x r hx. ap (λ (k : Option ℕ). mask_under starts k r) (labelled_same g h s.blocks x.label))
        (λ id live. holds.room id (sym (live_same g h s.blocks id) ∙ live)) covered
      where
        f : IsSweptFor o.program (masks_in g starts) (ends_in g ends) g h
        f = s.each o.program o.valid o.may_go_on

        covered : (x : Block) (r : ℕ) → Has h.blocks x → r < 31 → outs_of h (masks_in g starts) x.label r ≡ true → bit_at (get_or ends x.id 0) r ≡ 1
        covered x r hx l t =
            eqb-true (bit_at (get_or ends x.id 0) r) 1
            (sym (ap (λ (k : Option ℕ). end_under ends k r) (sym (labelled_same g h s.blocks x.label) ∙ label_is h (graph_of h one_program) x hx)) ∙ f.fewer x r hx l t)

-- ---- in a row

pub some_none : (g : GraphView) → IsOfAProgram g → SomeDeleted g g
some_none g o = (false, deleted_none g o)

pub some_both : (a b c : GraphView) → SomeDeleted a b → SomeDeleted b c → SomeDeleted a c
some_both a b c x y = (y.0 || x.0, deleted_both x.0 y.0 a b c x.1 y.1)

pub some_rewritten : (a b : GraphView) → SomeDeleted a b → IsRewritten a b
some_rewritten a b x p prog m = (x.1.deletions p prog m).rewrites

pub more_deleted : (a b c : GraphView) → AreDeleted true a b → SomeDeleted b c → AreDeleted true a c
more_deleted a b c x y = subst (λ (t : Bool). AreDeleted t a c) (or_turned y.0 true) (deleted_both true y.0 a b c x y.1)
