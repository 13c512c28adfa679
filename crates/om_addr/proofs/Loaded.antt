-- What is done of a load, where nothing is changed.
use Rattle.std.proofs.Common.{◌≡◌, ◌⊎◌, inl, inr, ℕ, Bool, true, false, ◌||◌, List, [], Option, Some, None, refl, sym, ap, ◌∙◌, subst}
use Rattle.std.proofs.lemmas.Bool.{true≢false}
use Rattle.om_graph.specs.declared.op.Op.{Op}
use Rattle.om_graph.specs.declared.op.OpKind.{OpKind}
use Rattle.om_graph.specs.declared.op.OpKind.TheVariants as op
use Rattle.om_graph.specs.View.{GraphView, op_of}
use Rattle.om_layout.specs.Layout.{LayoutView}
use Rattle.om_addr.specs.Passing.{Reducing}
use Rattle.om_addr.specs.declared.loads.Load.{Load}
use Rattle.om_addr.specs.declared.near.Pointer.{Pointer}
use Rattle.om_addr.specs.Loads.{load_kind, IsLoadOf, NoByteUseOf}
use Rattle.om_addr.specs.Near.{IsSaid, NoBaseUseOf}
use Rattle.om_addr.specs.NearLoads.{near_by}
use Rattle.om_addr.specs.Done.{IsLeft, IsDone, load_in, load_at, IsOpDone}
use Rattle.om_addr.proofs.InARow as row
use Rattle.om_addr.proofs.Nears.{fits_near}

pub none_of_both : (a b : Bool) → (a || b) ≡ false → (a ≡ false) × (b ≡ false)
none_of_both false b e = (refl, e)
none_of_both true b e = absurd (true≢false e)

-- two parts of the pass in a row
pub in_a_row :
    (l : LayoutView) (masks : List ℕ) (a b c : GraphView) (changed again then : Bool) → then ≡ (changed || again) → Reducing l masks changed a b → Reducing l masks again b c → Reducing l masks then a c
in_a_row l masks a b c changed again then e x y = subst (λ (t : Bool). Reducing l masks t a c) (sym e) (row.all l masks changed again a b c x y)

pub left_is :
    (l : LayoutView) (load : Load) (at : Option Pointer) (mid new : GraphView) (changed again then : Bool) → then ≡ (changed || again) → IsSaid l load at → NoByteUseOf mid load → Reducing l [] again mid new →
    (again ≡ false → (load.ra ≡ 31) ⊎ (near_by load.target at ≡ false)) → then ≡ false → IsLeft l new load
left_is l load at mid new changed again then e said bytes x far f =
    let g = none_of_both changed again (sym e ∙ f) in
    record {
      bytes = subst (λ (h : GraphView). NoByteUseOf h load) (sym (x.same g.1)) bytes;
      near = λ other p regions fits. by_case other (fits_near l load at said p regions fits) (far g.1);
    }
  where
    by_case : (load.ra ≡ 31 → ⊥) → near_by load.target at ≡ true → (load.ra ≡ 31) ⊎ (near_by load.target at ≡ false) → ⊥
    by_case other n (inl i) = other i
    by_case other n (inr i) = true≢false (sym n ∙ i)

pub done_is :
    (l : LayoutView) (load : Load) (mid new : GraphView) (changed again then : Bool) → then ≡ (changed || again) → NoBaseUseOf l mid load → Reducing l [] again mid new → (again ≡ false → IsLeft l new load) → then ≡ false →
    IsDone l new load
done_is l load mid new changed again then e bases x left f =
    let g = none_of_both changed again (sym e ∙ f) in
    record { bases = subst (λ (h : GraphView). NoBaseUseOf l h load) (sym (x.same g.1)) bases; slot = λ s. left g.1 }

-- the load that an op is
pub load_is : (g : GraphView) (id : ℕ) (x : Op) (load : Load) → op_of g id ≡ Some x → load_at id x ≡ Some load → IsLoadOf g load
load_is g id x load e f = by_kind x.kind refl f
  where
    some_is : (a b : Load) → Some a ≡ Some b → a ≡ b
    some_is a b e = cc

    of : (a : Load) → a ≡ load → a.id ≡ id → a.obj ≡ x.place.obj → load_kind a ≡ x.kind → IsLoadOf g load
    of a s i o k = subst (λ (b : Load). IsLoadOf g b) s (record {
      place = x.place;
      object = sym o;
      is = ap (op_of g) i ∙ e ∙ ap (λ (z : OpKind). Some (record { place = x.place; kind = z })) (sym k);
    })

    by_kind : (k : OpKind) → x.kind ≡ k → load_in id x.place.obj k ≡ Some load → IsLoadOf g load
    by_kind (op.Lit ra rb t) s h = of (record { id = id; obj = x.place.obj; ra = ra; rb = rb; target = t; from_slot = true }) (some_is _ load h) refl refl (sym s)
    by_kind (op.AddrLda ra rb t) s h = of (record { id = id; obj = x.place.obj; ra = ra; rb = rb; target = t; from_slot = false }) (some_is _ load h) refl refl (sym s)
    by_kind (op.Plain i) s h = cc
    by_kind (op.AddrHi ra rb t z) s h = cc
    by_kind (op.UseLo i q) s h = cc
    by_kind (op.UseGp i gp t) s h = cc
    by_kind (op.GpHi ra rb q) s h = cc
    by_kind (op.GpLo ra rb q) s h = cc

-- where an op was a load that is done, or none, and the graph is as it was
pub op_done : (l : LayoutView) (g : GraphView) (id : ℕ) (x : Op) (o : Option Load) → op_of g id ≡ Some x → o ≡ load_at id x → ((load : Load) → o ≡ Some load → IsDone l g load) → IsOpDone l g id
op_done l g id x o e f done y load h k =
    done load (f ∙ subst (λ (z : Op). load_at id z ≡ Some load) (some_op y x (sym h ∙ e)) k)
  where
    some_op : (a b : Op) → Some a ≡ Some b → a ≡ b
    some_op a b e = cc
