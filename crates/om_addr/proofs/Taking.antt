-- The loops that let byte uses take literals, and base uses the base of their load.
use Rattle.std.proofs.Common.{◌≡◌, ℕ, ◌%◌, ◌<◌, Bool, true, false, ◌||◌, ◌==◌, List, [], Option, Some, None, refl, sym, ap, ◌∙◌, subst, arith}
use Rattle.std.specs.Prelude.{is_some}
use Rattle.std.proofs.lemmas.Bool.{true≢false, eq-eqb}
use Rattle.om_graph.specs.declared.op.Op.{Op}
use Rattle.om_graph.specs.declared.op.OpKind.{OpKind}
use Rattle.om_graph.specs.View.{GraphView, op_of}
use Rattle.om_graph.specs.Held.{IsGraph}
use Rattle.om_graph.specs.Numbers.{AreNumbered}
use Rattle.om_layout.specs.Layout.{LayoutView}
use Rattle.om_passes.specs.Passed.{IsOfAProgram}
use Rattle.om_addr.specs.Passing.{Reducing, set_if}
use Rattle.om_addr.specs.declared.loads.Load.{Load}
use Rattle.om_addr.specs.declared.near.Pointer.{Pointer}
use Rattle.om_addr.specs.Loads.{off_of, byte_kind, HasPointer, NoByteUseOf}
use Rattle.om_addr.specs.Near.{base_kind, IsSaid, NoBaseUseOf}
use Rattle.om_addr.proofs.Bytes.{writes_bit, byte_settles, byte_once_as, no_bytes, pointer_is, differ, not_equal}
use Rattle.om_addr.proofs.Bases.{writes_either, base_settles, base_once, no_bases}
use Rattle.om_addr.proofs.Loops.{OnLoad, Behind, Over, Any, no_layout}
use Rattle.om_addr.proofs.Loops as loop

-- ---- byte uses

module _ (load : Load) (byte off : ℕ) (small : load.ra < 31) where
  abbrev pub OnBytes : GraphView → GraphView → Bool → Option ℕ → Type 0
  OnBytes old now changed next = OnLoad (byte_kind load.ra byte) (writes_bit load.ra) Any load old now changed next

  abbrev pub BehindByte : GraphView → GraphView → Bool → ℕ → Op → Type 0
  BehindByte old new changed o y = Behind (byte_kind load.ra byte) (writes_bit load.ra) Any load old new changed o y

  pub behind_byte :
      (old now new : GraphView) (changed more then : Bool) (next : Option ℕ) (o : ℕ) (y : Op) (kind : Option OpKind) → off_of load.target ≡ Some off → byte ≡ off % 8 → IsGraph now → AreNumbered now →
      OnBytes old now changed next → next ≡ Some o → op_of now o ≡ Some y → kind ≡ byte_kind load.ra byte y.kind → new ≡ set_if now o kind → more ≡ is_some kind → then ≡ (changed || more) →
      BehindByte old new then o y
  behind_byte old now new changed more then next o y kind pointer is graph numbered on n e k s m t =
      let here = subst (λ (i : Option ℕ). OnBytes old now changed i) n on in
      let r = pointer_is load.target off pointer in
      loop.behind_as (byte_kind load.ra byte) (writes_bit load.ra) Any (byte_settles load.ra byte) load old now changed o y here graph e
      (λ l p masks z h. byte_once_as l masks now graph numbered load here.op small here.is_load r.0 off r.1 byte is o y here.on e z h) kind k new s more then m t

  pub none_byte : (old new : GraphView) (changed : Bool) → IsOfAProgram old → IsGraph new → Over (byte_kind load.ra byte) (writes_bit load.ra) Any load new → ((l : LayoutView) → Any l → (masks : List ℕ) → Reducing l masks changed old new) → NoByteUseOf new load
  none_byte old new changed of graph over passed =
      no_bytes new graph load over.op small over.is_load byte (loop.flows (byte_kind load.ra byte) (writes_bit load.ra) Any no_layout tt old new changed of passed) over.walked

-- ---- base uses

-- a load that is not barred
pub unbarred : (ra rb : ℕ) (b : Bool) → false ≡ ((ra == 31) || ((ra == rb) || b)) → ra < 32 → (ra < 31) × (ra ≡ rb → ⊥)
unbarred ra rb b e range = by_test (ra == 31) (ra == rb) refl refl e
  where
    by_test : (s t : Bool) → (ra == 31) ≡ s → (ra == rb) ≡ t → false ≡ (s || (t || b)) → (ra < 31) × (ra ≡ rb → ⊥)
    by_test true t f h e = absurd (true≢false (sym e))
    by_test false true f h e = absurd (true≢false (sym e))
    by_test false false f h e = let d = differ ra 31 f in (omega (arith, range, d), differ ra rb h)

module _ (load : Load) (at : Pointer) (small : load.ra < 31) (range : load.rb < 32) (others : load.ra ≡ load.rb → ⊥) where
  abbrev pub Said : LayoutView → Type 0
  Said l = IsSaid l load (Some at)

  abbrev pub OnBases : GraphView → GraphView → Bool → Option ℕ → Type 0
  OnBases old now changed next = OnLoad (base_kind load at) (writes_either load.ra load.rb) (λ l. IsSaid l load (Some at)) load old now changed next

  abbrev pub BehindBase : GraphView → GraphView → Bool → ℕ → Op → Type 0
  BehindBase old new changed o y = Behind (base_kind load at) (writes_either load.ra load.rb) (λ l. IsSaid l load (Some at)) load old new changed o y

  pub behind_base :
      (old now new : GraphView) (changed more then : Bool) (next : Option ℕ) (o : ℕ) (y : Op) (kind : Option OpKind) → HasPointer load → IsGraph now → AreNumbered now →
      OnBases old now changed next → next ≡ Some o → op_of now o ≡ Some y → kind ≡ base_kind load at y.kind → new ≡ set_if now o kind → more ≡ is_some kind → then ≡ (changed || more) →
      BehindBase old new then o y
  behind_base old now new changed more then next o y kind pointer graph numbered on n e k s m t =
      let here = subst (λ (i : Option ℕ). OnBases old now changed i) n on in
      loop.behind_as (base_kind load at) (writes_either load.ra load.rb) (λ l. IsSaid l load (Some at)) (base_settles load at) load old now changed o y here graph e
      (λ l p masks z h. base_once l masks now graph numbered load here.op small range here.is_load here.object others at p pointer.region pointer.off pointer.is o y here.on e z h) kind k new s more then m t

  pub none_base :
      (l : LayoutView) → IsSaid l load (Some at) → (old new : GraphView) (changed : Bool) → IsOfAProgram old → IsGraph new →
      Over (base_kind load at) (writes_either load.ra load.rb) (λ l. IsSaid l load (Some at)) load new →
      ((l : LayoutView) → IsSaid l load (Some at) → (masks : List ℕ) → Reducing l masks changed old new) → NoBaseUseOf l new load
  none_base l said old new changed of graph over passed =
      no_bases l new graph load over.op small range over.is_load at said
      (loop.flows (base_kind load at) (writes_either load.ra load.rb) (λ l. IsSaid l load (Some at)) l said old new changed of passed) over.walked
