-- What kinds ops have behind replaces in a row, where ids and places of a block's ops all differ.
use Rattle.std.proofs.Common.{◌≡◌, ◌⊎◌, inl, inr, ◌≤◌, ◌+◌, ℕ, Bool, true, false, cond, not, ◌&&◌, ◌||◌, ◌==◌, List, [], ◌∷◌, ◌++◌, map, Option, Some, None, refl, sym, ap, ◌∙◌, subst, arith}
use Rattle.std.specs.Prelude.{is_some}
use Rattle.std.proofs.lemmas.Bool.{true≢false, eqb-true, eq-eqb}
use Rattle.om_value.specs.declared.value.Place.{Place}
use Rattle.om_value.specs.Same.{place_eq}
use Rattle.om_prog.specs.Act.{Word}
use Rattle.om_graph.specs.declared.op.Op.{Op}
use Rattle.om_graph.specs.declared.op.OpKind.{OpKind}
use Rattle.om_graph.specs.declared.op.OpKind.TheVariants as op
use Rattle.om_graph.specs.View.{Node, Block, GraphView, Has, ops_of}
use Rattle.om_graph.specs.Held.{Apart, node_ids}
use Rattle.om_graph.specs.Run.{op_word}
use Rattle.om_graph.specs.Form.{After, Ordered}
use Rattle.om_graph.proofs.Labels.{append_left, same_place, self_eq}
use Rattle.om_graph.proofs.OfProgram.{to_map}
use Rattle.om_passes.specs.Far.{FarLoad, far_target, far_op, use_kind}
use Rattle.om_passes.specs.Replaces.{OpEdit, kind_behind}
use Rattle.om_passes.proofs.FarEdits.{IsFarOp, half_op, use_op, same_op, is_far_op}
use Rattle.om_addr.specs.FarRow.{edit_if, edits_of, is_set_at}

-- ---- nodes that all differ

pub record Differ (n m : Node) : Type 0 where
  pub ids : n.id ≡ m.id → ⊥
  pub places : n.op.place ≡ m.op.place → ⊥

abbrev pub AllDiffer : List Node → Type 0
AllDiffer [] = Unit {0}
AllDiffer (n ∷ ns) = ((m : Node) → Has ns m → Differ n m) × AllDiffer ns

id_there : (ns : List Node) (n : Node) → Has ns n → Has (node_ids ns) n.id
id_there [] n h = absurd h
id_there (x ∷ ns) n (inl e) = inl (ap (λ (y : Node). y.id) e)
id_there (x ∷ ns) n (inr h) = inr (id_there ns n h)

after_it : (w : Word) (ws : List Word) (x : Word) → After w ws → Has ws x → x.at.obj ≡ w.at.obj → w.at.off + 4 ≤ x.at.off
after_it w [] x a h e = absurd h
after_it w (y ∷ ws) x a (inl s) e = subst (λ (v : Word). w.at.off + 4 ≤ v.at.off) s (a.0 (ap (λ (v : Word). v.at.obj) s ∙ e))
after_it w (y ∷ ws) x a (inr h) e = after_it w ws x a.1 h e

pub all_differ : (os : List Op) (ns : List Node) (last : List Word) → Apart (node_ids ns) → Ordered (map (op_word os) (map (λ n. n.op) ns) ++ last) → AllDiffer ns
all_differ os [] last a o = tt
all_differ os (n ∷ ns) last a o = (differs, all_differ os ns last a.1 o.1)
  where
    differs : (m : Node) → Has ns m → Differ n m
    differs m h = record {
      ids = λ e. a.0 (subst (λ (i : ℕ). Has (node_ids ns) i) (sym e) (id_there ns m h));
      places = λ e.
          let there = append_left (map (op_word os) (map (λ n. n.op) ns)) last (op_word os m.op) (to_map (op_word os) (map (λ n. n.op) ns) m.op (to_map (λ n. n.op) ns m h)) in
          let k = after_it (op_word os n.op) (map (op_word os) (map (λ n. n.op) ns) ++ last) (op_word os m.op) o.0 there (ap (λ (q : Place). q.obj) (sym e)) in
          let s = ap (λ (q : Place). q.off) e in
          omega (arith, k, s);
    }

mid_there : (xs ys : List Node) (n : Node) → Has (xs ++ n ∷ ys) n
mid_there [] ys n = inl refl
mid_there (x ∷ xs) ys n = inr (mid_there xs ys n)

right_there : (xs ys : List Node) (n m : Node) → Has ys m → Has (xs ++ n ∷ ys) m
right_there [] ys n m h = inr h
right_there (x ∷ xs) ys n m h = inr (right_there xs ys n m h)

-- one of those before differs from the one and from those behind
pub before_differs : (xs ys : List Node) (n x : Node) → AllDiffer (xs ++ n ∷ ys) → Has xs x → Differ x n × ((m : Node) → Has ys m → Differ x m)
before_differs [] ys n x a h = absurd h
before_differs (z ∷ xs) ys n x a (inl e) =
    (subst (λ (y : Node). Differ y n) e (a.0 n (mid_there xs ys n)), λ m h. subst (λ (y : Node). Differ y m) e (a.0 m (right_there xs ys n m h)))
before_differs (z ∷ xs) ys n x a (inr h) = before_differs xs ys n x a.1 h

pub from_it : (xs ys : List Node) (n : Node) → AllDiffer (xs ++ n ∷ ys) → AllDiffer (n ∷ ys)
from_it [] ys n a = a
from_it (x ∷ xs) ys n a = from_it xs ys n a.1

-- ---- kinds

abbrev edit_ids : List OpEdit → List ℕ
edit_ids es = map (λ e. e.id) es

not_eqb : (a b : ℕ) → (a ≡ b → ⊥) → (a == b) ≡ false
not_eqb a b d = by_test (a == b) refl
  where
    by_test : (t : Bool) → (a == b) ≡ t → t ≡ false
    by_test true e = absurd (d (eqb-true a b e))
    by_test false e = refl

not_place : (p q : Place) → (p ≡ q → ⊥) → place_eq p q ≡ false
not_place p q d = by_test (place_eq p q) refl
  where
    by_test : (t : Bool) → place_eq p q ≡ t → t ≡ false
    by_test true e = absurd (d (same_place p q e))
    by_test false e = refl

kind_else : (id : ℕ) (k : OpKind) (es : List OpEdit) → (Has (edit_ids es) id → ⊥) → kind_behind id k es ≡ k
kind_else id k [] d = refl
kind_else id k (e ∷ es) d =
    ap (λ (t : Bool). kind_behind id (cond t e.kind k) es) (not_eqb id e.id (λ s. d (inl (sym s)))) ∙ kind_else id k es (λ h. d (inr h))

kind_last : (id : ℕ) (k : OpKind) (es : List OpEdit) (e : OpEdit) → kind_behind id k (es ++ e ∷ []) ≡ cond (id == e.id) e.kind (kind_behind id k es)
kind_last id k [] e = refl
kind_last id k (x ∷ es) e = kind_last id (cond (id == x.id) x.kind k) es e

module _ (f : OpKind → Option OpKind) (ends : OpKind → Bool) where
  pub edits_in : (ns : List Node) (i : ℕ) → Has (edit_ids (edits_of f ends ns)) i → Has (node_ids ns) i
  edits_in [] i h = absurd h
  edits_in (n ∷ ns) i h = by_kind (f n.op.kind) (ends n.op.kind) h (edits_in ns i)
    where
      by_end : (t : Bool) → Has (edit_ids (cond t [] (edits_of f ends ns))) i → (Has (edit_ids (edits_of f ends ns)) i → Has (node_ids ns) i) → Has (node_ids (n ∷ ns)) i
      by_end true h again = absurd h
      by_end false h again = inr (again h)

      by_kind : (k : Option OpKind) (t : Bool) → Has (edit_ids (edit_if n.id k (cond t [] (edits_of f ends ns)))) i → (Has (edit_ids (edits_of f ends ns)) i → Has (node_ids ns) i) → Has (node_ids (n ∷ ns)) i
      by_kind None t h again = by_end t h again
      by_kind (Some k) t (inl e) again = inl e
      by_kind (Some k) t (inr h) again = by_end t h again

  pub none_set : (ns : List Node) (q : Place) → ((m : Node) → Has ns m → m.op.place ≡ q → ⊥) → is_set_at f ends ns q ≡ false
  none_set [] q d = refl
  none_set (n ∷ ns) q d =
      ap (λ (t : Bool). (is_some (f n.op.kind) && t) || (not (ends n.op.kind) && is_set_at f ends ns q)) (not_place n.op.place q (d n (inl refl)))
      ∙ ap (λ (t : Bool). (is_some (f n.op.kind) && false) || (not (ends n.op.kind) && t)) (none_set ns q (λ m h. d m (inr h)))
      ∙ never (is_some (f n.op.kind)) (ends n.op.kind)
    where
      never : (a b : Bool) → ((a && false) || (not b && false)) ≡ false
      never true true = refl
      never true false = refl
      never false true = refl
      never false false = refl

  module _ (made : OpKind → OpKind) (makes : (k z : OpKind) → f k ≡ Some z → made k ≡ z) where
    pub kind_set_in : (ns : List Node) (x : Node) → Has ns x → AllDiffer ns → kind_behind x.id x.op.kind (edits_of f ends ns) ≡ cond (is_set_at f ends ns x.op.place) (made x.op.kind) x.op.kind
    kind_set_in [] x h a = absurd h
    kind_set_in (n ∷ ns) x (inl e) a = subst (λ (y : Node). kind_behind y.id y.op.kind (edits_of f ends (n ∷ ns)) ≡ cond (is_set_at f ends (n ∷ ns) y.op.place) (made y.op.kind) y.op.kind) e (here (f n.op.kind) refl)
      where
        rest : List OpEdit
        rest = cond (ends n.op.kind) [] (edits_of f ends ns)

        no_id : (t : Bool) → Has (edit_ids (cond t [] (edits_of f ends ns))) n.id → ⊥
        no_id true h = h
        no_id false h = not_there ns (edits_in ns n.id h) (λ m k. (a.0 m k).ids)
          where
            not_there : (ms : List Node) → Has (node_ids ms) n.id → ((m : Node) → Has ms m → n.id ≡ m.id → ⊥) → ⊥
            not_there [] h d = h
            not_there (m ∷ ms) (inl e) d = d m (inl refl) (sym e)
            not_there (m ∷ ms) (inr h) d = not_there ms h (λ y k. d y (inr k))

        later : is_set_at f ends ns n.op.place ≡ false
        later = none_set ns n.op.place (λ m h s. (a.0 m h).places (sym s))

        unset : (b : Bool) → ((false && place_eq n.op.place n.op.place) || (not b && false)) ≡ false
        unset true = refl
        unset false = refl

        here : (z : Option OpKind) → f n.op.kind ≡ z → kind_behind n.id n.op.kind (edit_if n.id (f n.op.kind) rest) ≡ cond (is_set_at f ends (n ∷ ns) n.op.place) (made n.op.kind) n.op.kind
        here None z =
            ap (λ (v : Option OpKind). kind_behind n.id n.op.kind (edit_if n.id v rest)) z ∙ kind_else n.id n.op.kind rest (no_id (ends n.op.kind))
            ∙ sym
            (ap (λ (t : Bool). cond t (made n.op.kind) n.op.kind)
            (ap (λ (v : Option OpKind). (is_some v && place_eq n.op.place n.op.place) || (not (ends n.op.kind) && is_set_at f ends ns n.op.place)) z
            ∙ ap (λ (t : Bool). (false && place_eq n.op.place n.op.place) || (not (ends n.op.kind) && t)) later ∙ unset (ends n.op.kind)))
        here (Some k) z =
            ap (λ (v : Option OpKind). kind_behind n.id n.op.kind (edit_if n.id v rest)) z
            ∙ ap (λ (t : Bool). kind_behind n.id (cond t k n.op.kind) rest) (eq-eqb n.id n.id refl) ∙ kind_else n.id k rest (no_id (ends n.op.kind)) ∙ sym (makes n.op.kind k z)
            ∙ sym
            (ap (λ (t : Bool). cond t (made n.op.kind) n.op.kind)
            (ap (λ (v : Option OpKind). (is_some v && place_eq n.op.place n.op.place) || (not (ends n.op.kind) && is_set_at f ends ns n.op.place)) z
            ∙ ap (λ (t : Bool). (true && t) || (not (ends n.op.kind) && is_set_at f ends ns n.op.place)) (self_eq n.op.place)))
    kind_set_in (n ∷ ns) x (inr h) a = by_kind (f n.op.kind) ∙ by_end (ends n.op.kind) refl (kind_set_in ns x h a.1)
      where
        d : Differ n x
        d = a.0 x h

        by_kind : (z : Option OpKind) → kind_behind x.id x.op.kind (edit_if n.id z (cond (ends n.op.kind) [] (edits_of f ends ns))) ≡ kind_behind x.id x.op.kind (cond (ends n.op.kind) [] (edits_of f ends ns))
        by_kind None = refl
        by_kind (Some k) = ap (λ (t : Bool). kind_behind x.id (cond t k x.op.kind) (cond (ends n.op.kind) [] (edits_of f ends ns))) (not_eqb x.id n.id (λ e. d.ids (sym e)))

        other : (c t : Bool) → ((is_some (f n.op.kind) && false) || (not c && t)) ≡ (not c && t)
        other c t = by_test (is_some (f n.op.kind))
          where
            by_test : (b : Bool) → ((b && false) || (not c && t)) ≡ (not c && t)
            by_test true = refl
            by_test false = refl

        set : is_set_at f ends (n ∷ ns) x.op.place ≡ (not (ends n.op.kind) && is_set_at f ends ns x.op.place)
        set =
            ap (λ (t : Bool). (is_some (f n.op.kind) && t) || (not (ends n.op.kind) && is_set_at f ends ns x.op.place)) (not_place n.op.place x.op.place d.places)
            ∙ other (ends n.op.kind) (is_set_at f ends ns x.op.place)

        by_end :
            (c : Bool) → ends n.op.kind ≡ c → kind_behind x.id x.op.kind (edits_of f ends ns) ≡ cond (is_set_at f ends ns x.op.place) (made x.op.kind) x.op.kind →
            kind_behind x.id x.op.kind (cond (ends n.op.kind) [] (edits_of f ends ns)) ≡ cond (is_set_at f ends (n ∷ ns) x.op.place) (made x.op.kind) x.op.kind
        by_end true e i =
            ap (λ (c : Bool). kind_behind x.id x.op.kind (cond c [] (edits_of f ends ns))) e
            ∙ sym (ap (λ (t : Bool). cond t (made x.op.kind) x.op.kind) (set ∙ ap (λ (c : Bool). not c && is_set_at f ends ns x.op.place) e))
        by_end false e i =
            ap (λ (c : Bool). kind_behind x.id x.op.kind (cond c [] (edits_of f ends ns))) e ∙ i
            ∙ sym (ap (λ (t : Bool). cond t (made x.op.kind) x.op.kind) (set ∙ ap (λ (c : Bool). not c && is_set_at f ends ns x.op.place) e))

-- ---- the load, and its uses

-- the kinds that a load made far and its uses get, where it stands among the ops of a block
module _ (l : FarLoad) (f : OpKind → Option OpKind) (ends : OpKind → Bool) (makes : (k z : OpKind) → f k ≡ Some z → use_kind l k ≡ z) (before : List Node) (node : Node) (behind : List Node) (a : AllDiffer (before ++ node ∷ behind))
    (at : l.hi ≡ node.op.place) (uses : (q : Place) → l.use_at q ≡ is_set_at f ends behind q) where
  abbrev half_edit : OpEdit
  half_edit = record { id = node.id; kind = op.AddrHi l.ra l.rb (far_target l) l.least }

  no_behind : (x : Node) → ((m : Node) → Has behind m → Differ x m) → Has (edit_ids (edits_of f ends behind)) x.id → ⊥
  no_behind x d h = not_there behind (edits_in f ends behind x.id h) d
    where
      not_there : (ms : List Node) → Has (node_ids ms) x.id → ((m : Node) → Has ms m → Differ x m) → ⊥
      not_there [] h d = h
      not_there (m ∷ ms) (inl e) d = (d m (inl refl)).ids (sym e)
      not_there (m ∷ ms) (inr h) d = not_there ms h (λ y k. d y (inr k))

  far_else : (x : Node) → (x.op.place ≡ node.op.place → ⊥) → (far_op l x.op).kind ≡ cond (is_set_at f ends behind x.op.place) (use_kind l x.op.kind) x.op.kind
  far_else x d =
      ap (λ (o : Op). o.kind)
      (ap (λ (t : Bool). cond t (record { place = x.op.place; kind = op.AddrHi l.ra l.rb (far_target l) l.least }) (cond (l.use_at x.op.place) (record { place = x.op.place; kind = use_kind l x.op.kind }) x.op))
      (not_place x.op.place l.hi (λ e. d (e ∙ at))))
      ∙ by_test (l.use_at x.op.place) ∙ ap (λ (t : Bool). cond t (use_kind l x.op.kind) x.op.kind) (uses x.op.place)
    where
      by_test : (t : Bool) → (cond t (record { place = x.op.place; kind = use_kind l x.op.kind }) x.op).kind ≡ cond t (use_kind l x.op.kind) x.op.kind
      by_test true = refl
      by_test false = refl

  kind_else_load : (x : Node) → (x.id ≡ node.id → ⊥) → kind_behind x.id x.op.kind (edits_of f ends behind ++ half_edit ∷ []) ≡ kind_behind x.id x.op.kind (edits_of f ends behind)
  kind_else_load x d =
      kind_last x.id x.op.kind (edits_of f ends behind) half_edit
      ∙ ap (λ (t : Bool). cond t half_edit.kind (kind_behind x.id x.op.kind (edits_of f ends behind))) (not_eqb x.id node.id d)

  pub kinds_far : (x : Node) → Has (before ++ node ∷ behind) x → kind_behind x.id x.op.kind (edits_of f ends behind ++ half_edit ∷ []) ≡ (far_op l x.op).kind
  kinds_far x h = by_part (part before x h)
    where
      part : (xs : List Node) (x : Node) → Has (xs ++ node ∷ behind) x → Has xs x ⊎ ((node ≡ x) ⊎ Has behind x)
      part [] x h = inr h
      part (y ∷ xs) x (inl e) = inl (inl e)
      part (y ∷ xs) x (inr h) = by_rest (part xs x h)
        where
          by_rest : Has xs x ⊎ ((node ≡ x) ⊎ Has behind x) → Has (y ∷ xs) x ⊎ ((node ≡ x) ⊎ Has behind x)
          by_rest (inl k) = inl (inr k)
          by_rest (inr k) = inr k

      by_part : Has before x ⊎ ((node ≡ x) ⊎ Has behind x) → kind_behind x.id x.op.kind (edits_of f ends behind ++ half_edit ∷ []) ≡ (far_op l x.op).kind
      by_part (inl k) =
          let d = before_differs before behind node x a k in
          kind_else_load x d.0.ids ∙ kind_else x.id x.op.kind (edits_of f ends behind) (no_behind x d.1)
          ∙ sym (ap (λ (t : Bool). cond t (use_kind l x.op.kind) x.op.kind) (none_set f ends behind x.op.place (λ m h s. (d.1 m h).places (sym s)))) ∙ sym (far_else x d.0.places)
      by_part (inr (inl e)) =
          subst (λ (y : Node). kind_behind y.id y.op.kind (edits_of f ends behind ++ half_edit ∷ []) ≡ (far_op l y.op).kind) e
          (kind_last node.id node.op.kind (edits_of f ends behind) half_edit
          ∙ ap (λ (t : Bool). cond t half_edit.kind (kind_behind node.id node.op.kind (edits_of f ends behind))) (eq-eqb node.id node.id refl) ∙ sym (half_here (is_far_op l node.op)))
        where
          half_here : IsFarOp l node.op (far_op l node.op) → (far_op l node.op).kind ≡ op.AddrHi l.ra l.rb (far_target l) l.least
          half_here (half_op k s) = ap (λ (o : Op). o.kind) s
          half_here (use_op k v s) = absurd (k (sym at))
          half_here (same_op k v s) = absurd (k (sym at))
      by_part (inr (inr k)) =
          let d = (from_it before behind node a).0 x k in
          kind_else_load x (λ e. d.ids (sym e)) ∙ kind_set_in f ends (use_kind l) makes behind x k (from_it before behind node a).1 ∙ sym (far_else x (λ e. d.places (sym e)))
