-- Loads of near targets become LDA.
use Rattle.std.proofs.Common.{◌≡◌, ◌⊎◌, inl, inr, ℕ, ◌<◌, ◌≤◌, Bool, true, false, cond, ◌==◌, List, [], ◌∷◌, ◌++◌, Option, Some, None, refl, sym, ap, ◌∙◌, subst}
use Rattle.std.specs.Prelude.{ℤ, FitsSigned}
use Rattle.std.specs.Int.{w16, w64, cast_signed}
use Rattle.std.proofs.lemmas.Bool.{true≢false}
use Rattle.om_isa.specs.declared.instr.Instr.{Instr}
use Rattle.om_value.specs.declared.value.Region.{Region}
use Rattle.om_value.specs.declared.value.Target.{Target}
use Rattle.om_value.specs.declared.value.Target.TheVariants as target
use Rattle.om_prog.specs.Act as act
use Rattle.om_prog.specs.Act.{Act, Word, act_writes}
use Rattle.om_prog.specs.Flow.{Among}
use Rattle.om_prog.specs.View.{ProgramView, size_of}
use Rattle.om_prog.specs.Valid.{IsProgram}
use Rattle.om_graph.specs.declared.op.Op.{Op}
use Rattle.om_graph.specs.declared.op.OpKind.{OpKind}
use Rattle.om_graph.specs.declared.op.OpKind.TheVariants as op
use Rattle.om_graph.specs.View.{Node, Block, GraphView, Has, op_of, ops_of, replaced}
use Rattle.om_graph.specs.Held.{IsGraph}
use Rattle.om_graph.specs.Numbers.{AreNumbered}
use Rattle.om_graph.specs.Run.{block_words, op_act, rev_onto}
use Rattle.om_graph.specs.Fits.{OpFits, LdaFits}
use Rattle.om_graph.specs.Uses.{IsLocalUse, IsByteUse, IsTextsLast}
use Rattle.om_blocks.proofs.Walking.{has_mid}
use Rattle.om_layout.specs.Layout.{LayoutView, gp_of, address_of}
use Rattle.om_passes.specs.AtPlaces.{NoHalf}
use Rattle.om_passes.specs.Step.{Step}
use Rattle.om_passes.specs.OneEdit.{MayGoOn, word_of, HasNoByteUse}
use Rattle.om_checks.specs.Steps.{ChangesTo, node_words}
use Rattle.om_checks.proofs.Forms as form
use Rattle.om_addr.specs.Passing.{HasRegionsOf, Reducing, ReducingOnce}
use Rattle.om_addr.specs.declared.loads.Load.{Load}
use Rattle.om_addr.specs.declared.near.Pointer.{Pointer}
use Rattle.om_addr.specs.Loads.{load_kind, IsLoadOf, IsLoadIn, NoByteUseOf}
use Rattle.om_addr.specs.Near.{IsSaid, Says, is_small}
use Rattle.om_addr.specs.NearLoads.{near_by, lda_base, lda_kind, IsNearIn}
use Rattle.om_addr.proofs.AddressSteps.{near_step, number_step}
use Rattle.om_addr.proofs.OpOnce.{op_once}
use Rattle.om_addr.proofs.InARow as row
use Rattle.om_addr.proofs.Walking.{At, OpThere, op_there, is_op}
use Rattle.om_addr.proofs.Bases.{small_fits, fits_small}

-- ---- what near is

-- the test tells what fits
pub near_fits : (l : LayoutView) (load : Load) (at : Option Pointer) → IsSaid l load at → near_by load.target at ≡ true → IsNearIn l load
near_fits l load at said near p regions = by_target load.target refl at (said p regions) near
  where
    by_target : (t : Target) → load.target ≡ t → (at : Option Pointer) → Says p l load at → near_by t at ≡ true → LdaFits p (gp_of l) (address_of l) load.obj t
    by_target (target.Num n) e at s h = small_fits (cast_signed w64 n) h
    by_target (target.Ptr r x) e (Some at) s h = let lies = s r x e in (lies.inside, subst (λ (z : ℤ). FitsSigned w16 z) lies.distance (small_fits at.distance h))
    by_target (target.Ptr r x) e None s h = absurd (true≢false (sym h))
    by_target (target.Code q) e at s h = absurd (true≢false (sym h))

pub fits_near : (l : LayoutView) (load : Load) (at : Option Pointer) → IsSaid l load at → (p : ProgramView) → HasRegionsOf p l → LdaFits p (gp_of l) (address_of l) load.obj load.target → near_by load.target at ≡ true
fits_near l load at said p regions fits = by_target load.target refl at (said p regions) fits
  where
    by_target : (t : Target) → load.target ≡ t → (at : Option Pointer) → Says p l load at → LdaFits p (gp_of l) (address_of l) load.obj t → near_by t at ≡ true
    by_target (target.Num n) e at s h = fits_small (cast_signed w64 n) h
    by_target (target.Ptr r x) e (Some at) s h = let lies = s r x e in fits_small at.distance (subst (λ (z : ℤ). FitsSigned w16 z) (sym lies.distance) h.1)
    by_target (target.Ptr r x) e None s h = absurd (s r x e h.0)
    by_target (target.Code q) e at s h = absurd h

-- ---- the edit

module _ (l : LayoutView) (masks : List ℕ) (g : GraphView) (graph : IsGraph g) (numbered : AreNumbered g) (load : Load) (is : IsLoadOf g load) (slot : load.from_slot ≡ true) (other : load.ra ≡ 31 → ⊥)
    (bytes : NoByteUseOf g load) (at : Option Pointer) (near : near_by load.target at ≡ true) (said : IsSaid l load at) where
  there : OpThere g load.id (record { place = is.place; kind = load_kind load })
  there = op_there g load.id (record { place = is.place; kind = load_kind load }) graph is.is

  kind_is : there.node.op.kind ≡ op.Lit load.ra load.rb load.target
  kind_is = ap (λ (o : Op). o.kind) there.is_op ∙ ap (λ (b : Bool). cond b (op.Lit load.ra load.rb load.target) (op.AddrLda load.ra load.rb load.target)) slot

  object_is : there.node.op.place.obj ≡ load.obj
  object_is = ap (λ (o : Op). o.place.obj) there.is_op ∙ is.object

  no_bytes : (r : Region) (x : ℕ) → load.target ≡ target.Ptr r x → HasNoByteUse there.at.block (word_of there.at.block there.node)
  no_bytes r x t y s i u a b =
      bytes.uses there.at.block (word_of there.at.block there.node) y i r x in_it t (subst (λ (z : ℕ). IsLocalUse (block_words there.at.block) (word_of there.at.block there.node) y z) same u) a (subst (λ (z : ℕ). IsByteUse z i) same b)
    where
      in_it : IsLoadIn g load there.at.block (word_of there.at.block there.node)
      in_it = record {
        among = there.at.among;
        node = there.node;
        inside = subst (λ (ns : List Node). Has ns there.node) (sym there.at.stands) (has_mid there.at.before there.node there.at.behind);
        is_id = there.is_id;
        word = refl;
      }

      same : s ≡ load.ra
      same = by_among (subst (λ (k : OpKind). Among (act_writes (op_act (ops_of there.at.block) k)) s) kind_is u.writes)
        where
          by_among : Among (load.ra ∷ []) s → s ≡ load.ra
          by_among (inl e) = sym e
          by_among (inr h) = absurd h

  near_once : ReducingOnce l masks g (replaced g load.id (lda_kind load))
  near_once = subst (λ (j : ℕ). ReducingOnce l masks g (replaced g j (lda_kind load))) there.is_id (op_once l masks g graph numbered there.node there.at (lda_kind load) (subst (λ (k : OpKind). NoHalf k) (sym kind_is) tt) tt step fits changes)
    where
      step : (p : ProgramView) → IsProgram p → MayGoOn p g → Step p g (replaced g there.node.id (lda_kind load))
      step p prog m = by_target load.target refl near
        where
          by_target : (t : Target) → load.target ≡ t → near_by t at ≡ true → Step p g (replaced g there.node.id (op.AddrLda load.ra (lda_base t load.rb) t))
          by_target (target.Num n) e h = number_step p prog g m there.node.id there.at.block there.node (is_op g graph there.node there.at) load.ra load.rb n (kind_is ∙ ap (λ (t : Target). op.Lit load.ra load.rb t) e) (λ f. absurd (other f))
          by_target (target.Ptr r x) e h =
              near_step p prog g m there.node.id there.at.block there.node (is_op g graph there.node there.at) load.ra load.rb x r (kind_is ∙ ap (λ (t : Target). op.Lit load.ra load.rb t) e) (no_bytes r x e) (λ f. absurd (other f))
          by_target (target.Code q) e h = absurd (true≢false (sym h))

      fits : (p : ProgramView) → IsProgram p → MayGoOn p g → HasRegionsOf p l → OpFits p (gp_of l) (address_of l) there.at.block there.node.op.place (lda_kind load)
      fits p prog m regions = subst (λ (o : ℕ). LdaFits p (gp_of l) (address_of l) o load.target) (sym object_is) (near_fits l load at said near p regions)

      changes :
          (p : ProgramView) → IsProgram p → MayGoOn p g →
          ChangesTo (rev_onto (node_words (ops_of there.at.block) there.at.before) []) (op_act (ops_of there.at.block) there.node.op.kind) (op_act (ops_of there.at.block) (lda_kind load))
      changes p prog m =
          subst (λ (k : OpKind). ChangesTo (rev_onto (node_words (ops_of there.at.block) there.at.before) []) (op_act (ops_of there.at.block) k) (op_act (ops_of there.at.block) (lda_kind load))) (sym kind_is) (by_target load.target)
        where
          by_target : (t : Target) → ChangesTo (rev_onto (node_words (ops_of there.at.block) there.at.before) []) (act.Lit load.ra load.rb t) (act.AddrLda load.ra (lda_base t load.rb) t)
          by_target (target.Num n) = form.number (rev_onto (node_words (ops_of there.at.block) there.at.before) []) load.ra load.rb n
          by_target (target.Ptr r x) = form.near (rev_onto (node_words (ops_of there.at.block) there.at.before) []) load.ra load.rb (target.Ptr r x) other
          by_target (target.Code q) = form.near (rev_onto (node_words (ops_of there.at.block) there.at.before) []) load.ra load.rb (target.Code q) other

  pub near_taken : (new : GraphView) → new ≡ replaced g load.id (lda_kind load) → Reducing l masks true g new
  near_taken new e = subst (λ (h : GraphView). Reducing l masks true g h) (sym e) (row.more l masks false g g (replaced g load.id (lda_kind load)) (row.none l masks g) near_once)
