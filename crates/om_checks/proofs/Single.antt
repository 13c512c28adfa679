-- One op that is replaced, and one that is deleted: masks stay checked.
use Rattle.std.proofs.Common.{◌≡◌, inl, inr, ℕ, Bool, true, false, cond, ◌==◌, List, [], ◌∷◌, ◌++◌, map, Option, None, refl, sym, ap, ◌∙◌, subst}
use Rattle.std.specs.Option.{option_or}
use Rattle.std.proofs.lemmas.Bool.{eqb-true}
use Rattle.om_value.specs.declared.value.Place.{Place}
use Rattle.om_value.specs.declared.value.Target.{Target}
use Rattle.om_value.specs.Same.{place_eq}
use Rattle.om_prog.specs.Act.{Act, Word}
use Rattle.om_graph.specs.declared.op.Op.{Op}
use Rattle.om_graph.specs.declared.op.OpKind.{OpKind}
use Rattle.om_graph.specs.View.{Node, Block, GraphView, Has, ops_of, kind_set, replaced, deleted}
use Rattle.om_graph.specs.Held.{IsGraph, Apart, node_ids}
use Rattle.om_graph.specs.Run.{last_words, op_act, op_word, target_at, high_target, rev_onto}
use Rattle.om_graph.specs.Form.{InForm}
use Rattle.om_graph.specs.Checks.{MaskChecked, AreOuts}
use Rattle.om_checks.specs.Steps.{node_words, OpAt, ChangesTo, EachChanges, with_nodes, NodesChange, IsDeadHere, NodesDead}
use Rattle.om_checks.proofs.Edits.{same_changes, mask_replaced, mask_deleted, act_same}
use Rattle.om_checks.proofs.Drops.{keeps_targets}
use Rattle.om_checks.proofs.Closed.{apart_in, one_home}

-- ---- nodes by their ids

id_of : (ns : List Node) (n : Node) → Has ns n → Has (node_ids ns) n.id
id_of [] n h = h
id_of (x ∷ ns) n (inl e) = inl (ap (λ (y : Node). y.id) e)
id_of (x ∷ ns) n (inr h) = inr (id_of ns n h)

mid_has : (xs ys : List Node) (n : Node) → Has (xs ++ n ∷ ys) n
mid_has [] ys n = inl refl
mid_has (x ∷ xs) ys n = inr (mid_has xs ys n)

same_node : (ns : List Node) (m n : Node) → Apart (node_ids ns) → Has ns m → Has ns n → m.id ≡ n.id → m ≡ n
same_node [] m n a h i e = absurd h
same_node (x ∷ ns) m n a (inl h) (inl i) e = sym h ∙ i
same_node (x ∷ ns) m n a (inl h) (inr i) e = absurd (a.0 (subst (λ (j : ℕ). Has (node_ids ns) j) (sym (ap (λ (y : Node). y.id) h ∙ e)) (id_of ns n i)))
same_node (x ∷ ns) m n a (inr h) (inl i) e = absurd (a.0 (subst (λ (j : ℕ). Has (node_ids ns) j) (e ∙ sym (ap (λ (y : Node). y.id) i)) (id_of ns m h)))
same_node (x ∷ ns) m n a (inr h) (inr i) e = same_node ns m n a.1 h i e

module _ (g : GraphView) (graph : IsGraph g) (b : Block) (n : Node) (at : OpAt g b n) where
  here : Has b.ops n
  here = subst (λ (ns : List Node). Has ns n) (sym at.ops) (mid_has at.before at.behind n)

  -- a node of the id is the node
  pub only : (x : Block) (m : Node) → Has g.blocks x → Has x.ops m → m.id ≡ n.id → (x ≡ b) × (m ≡ n)
  only x m hx hm e =
      let home : x ≡ b = one_home g.blocks x b m.id graph.op_ids hx at.among (id_of x.ops m hm) (subst (λ (j : ℕ). Has (node_ids b.ops) j) (sym e) (id_of b.ops n here)) in
      (home, same_node b.ops m n (apart_in g.blocks b graph.op_ids at.among) (subst (λ (y : Block). Has y.ops m) home hm) here e)

-- ---- an op that is replaced

targets_set : (id : ℕ) (kind : OpKind) (ns : List Node) (hi : Place) → ((m : Node) → Has ns m → m.id ≡ id → high_target m.op.kind ≡ None) → high_target kind ≡ None →
    target_at (map (λ n. n.op) (map (kind_set id kind) ns)) hi ≡ target_at (map (λ n. n.op) ns) hi
targets_set id kind [] hi h k = refl
targets_set id kind (n ∷ ns) hi h k = by_id (n.id == id) refl (targets_set id kind ns hi (λ m q e. h m (inr q) e) k)
  where
    found : Place → OpKind → Option Target
    found at kind = cond (place_eq at hi) (high_target kind) None

    none : (at : Place) (kind : OpKind) → high_target kind ≡ None → found at kind ≡ None
    none at kind e = by_test (place_eq at hi)
      where
        by_test : (t : Bool) → cond t (high_target kind) None ≡ None
        by_test true = e
        by_test false = refl

    by_id :
        (t : Bool) → (n.id == id) ≡ t → target_at (map (λ n. n.op) (map (kind_set id kind) ns)) hi ≡ target_at (map (λ n. n.op) ns) hi →
        option_or (found (cond t (record n { op = record (n.op) { kind = kind } }) n).op.place (cond t (record n { op = record (n.op) { kind = kind } }) n).op.kind) (target_at (map (λ n. n.op) (map (kind_set id kind) ns)) hi)
        ≡ option_or (found n.op.place n.op.kind) (target_at (map (λ n. n.op) ns) hi)
    by_id false e i = ap (λ (o : Option Target). option_or (found n.op.place n.op.kind) o) i
    by_id true e i =
        ap (λ (o : Option Target). option_or o (target_at (map (λ n. n.op) (map (kind_set id kind) ns)) hi)) (none n.op.place kind k ∙ sym (none n.op.place n.op.kind (h n (inl refl) (eqb-true _ _ e))))
        ∙ ap (λ (o : Option Target). option_or (found n.op.place n.op.kind) o) i

-- each node of the id changes well, behind the words before it
each_set :
    (os us : List Op) (id : ℕ) (kind : OpKind) (bf : List Word) (ns : List Node) →
    ((k : OpKind) → op_act us k ≡ op_act os k) →
    ((xs ys : List Node) (n : Node) → ns ≡ xs ++ n ∷ ys → n.id ≡ id → ChangesTo (rev_onto (map (op_word os) (map (λ n. n.op) xs)) bf) (op_act os n.op.kind) (op_act us kind)) →
    EachChanges os us (kind_set id kind) bf ns
each_set os us id kind bf [] same h = tt
each_set os us id kind bf (n ∷ ns) same h = by_id (n.id == id) refl (each_set os us id kind (op_word os n.op ∷ bf) ns same (λ xs ys m e i. h (n ∷ xs) ys m (ap (λ (l : List Node). n ∷ l) e) i))
  where
    by_id :
        (t : Bool) → (n.id == id) ≡ t → EachChanges os us (kind_set id kind) (op_word os n.op ∷ bf) ns →
        ((cond t (record n { op = record (n.op) { kind = kind } }) n).op.place ≡ n.op.place) × ChangesTo bf (op_act os n.op.kind) (op_act us (cond t (record n { op = record (n.op) { kind = kind } }) n).op.kind)
        × EachChanges os us (kind_set id kind) (op_word os n.op ∷ bf) ns
    by_id true e r = (refl, h [] ns n refl (eqb-true _ _ e), r)
    by_id false e r = (refl, subst (λ (a : Act). ChangesTo bf (op_act os n.op.kind) a) (sym (same n.op.kind)) (same_changes bf (op_act os n.op.kind)), r)

same_split : (xs ys zs us : List Node) (n : Node) → Apart (node_ids (xs ++ n ∷ ys)) → xs ++ n ∷ ys ≡ zs ++ n ∷ us → xs ≡ zs
same_split [] ys [] us n a e = refl
same_split [] ys (z ∷ zs) us n a e =
    let t : ys ≡ zs ++ n ∷ us = cc in
    absurd (a.0 (subst (λ (l : List Node). Has (node_ids l) n.id) (sym t) (id_of (zs ++ n ∷ us) n (mid_has zs us n))))
same_split (x ∷ xs) ys [] us n a e =
    let h : x ≡ n = cc in
    absurd (a.0 (subst (λ (j : ℕ). Has (node_ids (xs ++ n ∷ ys)) j) (sym (ap (λ (y : Node). y.id) h)) (id_of (xs ++ n ∷ ys) n (mid_has xs ys n))))
same_split (x ∷ xs) ys (z ∷ zs) us n a e =
    let h : x ≡ z = cc in
    let t : xs ++ n ∷ ys ≡ zs ++ n ∷ us = cc in
    let r = same_split xs ys zs us n a.1 t in
    rw (h, r) refl

-- an op that is no LDAH and becomes none, and whose word writes what it wrote and reads no more
pub mask_one_replaced :
    (masks outs : Place → ℕ → Bool) (g : GraphView) (graph : IsGraph g) (b : Block) (n : Node) (kind : OpKind) (at : OpAt g b n) → InForm (replaced g n.id kind) → AreOuts masks outs g →
    high_target n.op.kind ≡ None → high_target kind ≡ None →
    ChangesTo (rev_onto (node_words (ops_of b) at.before) []) (op_act (ops_of b) n.op.kind) (op_act (ops_of b) kind) →
    MaskChecked masks g → MaskChecked masks (replaced g n.id kind)
mask_one_replaced masks outs g graph b n kind at form are low none ch checked = mask_replaced masks outs g n.id kind form are changes checked
  where
    changes : (x : Block) → Has g.blocks x → NodesChange (kind_set n.id kind) x
    changes x hx = each_set (ops_of x) (ops_of (with_nodes (kind_set n.id kind) x)) n.id kind [] x.ops same well
      where
        same : (k : OpKind) → op_act (ops_of (with_nodes (kind_set n.id kind) x)) k ≡ op_act (ops_of x) k
        same k =
            act_same (ops_of x) (ops_of (with_nodes (kind_set n.id kind) x)) k
            (λ i hi e. targets_set n.id kind x.ops hi (λ m hm q. subst (λ (y : Node). high_target y.op.kind ≡ None) (sym (only g graph b n at x m hx hm q).1) low) none)

        well : (xs ys : List Node) (m : Node) → x.ops ≡ xs ++ m ∷ ys → m.id ≡ n.id → ChangesTo (rev_onto (map (op_word (ops_of x)) (map (λ n. n.op) xs)) []) (op_act (ops_of x) m.op.kind) (op_act (ops_of (with_nodes (kind_set n.id kind) x)) kind)
        well xs ys m e q =
            let o = only g graph b n at x m hx (subst (λ (l : List Node). Has l m) (sym e) (mid_has xs ys m)) q in
            let ids = subst (λ (l : List Node). Apart (node_ids l)) at.ops (apart_in g.blocks b graph.op_ids at.among) in
            let split : at.before ++ n ∷ at.behind ≡ xs ++ n ∷ ys = sym at.ops ∙ ap (λ (y : Block). y.ops) (sym o.0) ∙ e ∙ ap (λ (y : Node). xs ++ y ∷ ys) o.1 in
            let front = same_split at.before at.behind xs ys n ids split in
            subst (λ (a : Act). ChangesTo (rev_onto (map (op_word (ops_of x)) (map (λ n. n.op) xs)) []) (op_act (ops_of x) m.op.kind) a) (sym (same kind))
            (subst (λ (y : Node). ChangesTo (rev_onto (map (op_word (ops_of x)) (map (λ n. n.op) xs)) []) (op_act (ops_of x) y.op.kind) (op_act (ops_of x) kind)) (sym o.1)
            (subst (λ (l : List Node). ChangesTo (rev_onto (map (op_word (ops_of x)) (map (λ n. n.op) l)) []) (op_act (ops_of x) n.op.kind) (op_act (ops_of x) kind)) front
            (subst (λ (y : Block). ChangesTo (rev_onto (node_words (ops_of y) at.before) []) (op_act (ops_of y) n.op.kind) (op_act (ops_of y) kind)) (sym o.0) ch)))

-- ---- an op that is deleted

dead_each :
    (b : Block) (id : ℕ) (out : ℕ → Bool) (ns : List Node) →
    ((xs ys : List Node) (n : Node) → ns ≡ xs ++ n ∷ ys → n.id ≡ id → IsDeadHere (map (op_word (ops_of b)) (map (λ n. n.op) ys) ++ last_words b.last) out (op_word (ops_of b) n.op)) →
    NodesDead b id out ns
dead_each b id out [] h = tt
dead_each b id out (n ∷ ns) h = (h [] ns n refl, dead_each b id out ns (λ xs ys m e i. h (n ∷ xs) ys m (ap (λ (l : List Node). n ∷ l) e) i))

same_behind : (xs ys zs us : List Node) (n : Node) → Apart (node_ids (xs ++ n ∷ ys)) → xs ++ n ∷ ys ≡ zs ++ n ∷ us → ys ≡ us
same_behind xs ys zs us n a e =
    let f = same_split xs ys zs us n a e in
    tail xs ys us (e ∙ ap (λ (l : List Node). l ++ n ∷ us) (sym f))
  where
    tail : (xs ys us : List Node) → xs ++ n ∷ ys ≡ xs ++ n ∷ us → ys ≡ us
    tail [] ys us e = cc
    tail (x ∷ xs) ys us e = tail xs ys us (cc)

-- the one node of its id, where its result is dead behind it
pub dead_nodes :
    (g : GraphView) (graph : IsGraph g) (b : Block) (n : Node) (at : OpAt g b n) (outs : Place → ℕ → Bool) →
    IsDeadHere (node_words (ops_of b) at.behind ++ last_words b.last) (outs b.label) (op_word (ops_of b) n.op) →
    (x : Block) → Has g.blocks x → NodesDead x n.id (outs x.label) x.ops
dead_nodes g graph b n at outs dead x hx = dead_each x n.id (outs x.label) x.ops (well x hx)
  where
    well : (x : Block) → Has g.blocks x → (xs ys : List Node) (m : Node) → x.ops ≡ xs ++ m ∷ ys → m.id ≡ n.id → IsDeadHere (map (op_word (ops_of x)) (map (λ n. n.op) ys) ++ last_words x.last) (outs x.label) (op_word (ops_of x) m.op)
    well x hx xs ys m e q =
        let o = only g graph b n at x m hx (subst (λ (l : List Node). Has l m) (sym e) (mid_has xs ys m)) q in
        let ids = subst (λ (l : List Node). Apart (node_ids l)) at.ops (apart_in g.blocks b graph.op_ids at.among) in
        let split : at.before ++ n ∷ at.behind ≡ xs ++ n ∷ ys = sym at.ops ∙ ap (λ (y : Block). y.ops) (sym o.0) ∙ e ∙ ap (λ (y : Node). xs ++ y ∷ ys) o.1 in
        let rest = same_behind at.before at.behind xs ys n ids split in
        subst (λ (y : Node). IsDeadHere (map (op_word (ops_of x)) (map (λ n. n.op) ys) ++ last_words x.last) (outs x.label) (op_word (ops_of x) y.op)) (sym o.1)
        (subst (λ (l : List Node). IsDeadHere (map (op_word (ops_of x)) (map (λ n. n.op) l) ++ last_words x.last) (outs x.label) (op_word (ops_of x) n.op)) rest
        (subst (λ (y : Block). IsDeadHere (node_words (ops_of y) at.behind ++ last_words y.last) (outs y.label) (op_word (ops_of y) n.op)) (sym o.0) dead))

-- a word that gives no high half and whose result is dead behind it
pub mask_one_deleted :
    (masks outs : Place → ℕ → Bool) (g : GraphView) (graph : IsGraph g) (b : Block) (n : Node) (at : OpAt g b n) → InForm (deleted g n.id) → AreOuts masks outs g →
    high_target n.op.kind ≡ None → IsDeadHere (node_words (ops_of b) at.behind ++ last_words b.last) (outs b.label) (op_word (ops_of b) n.op) →
    MaskChecked masks g → MaskChecked masks (deleted g n.id)
mask_one_deleted masks outs g graph b n at form are low dead checked =
    mask_deleted masks outs g n.id form are
    (λ x hx. keeps_targets n.id x (λ m hm q. subst (λ (y : Node). high_target y.op.kind ≡ None) (sym (only g graph b n at x m hx hm q).1) low))
    (dead_nodes g graph b n at outs dead) checked
