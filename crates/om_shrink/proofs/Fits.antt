-- What fits in a layout fits where the tables have fewer slots.
use Rattle.std.proofs.Common.{◌≡◌, inl, inr, ◌<◌, ◌≤◌, ℕ, ◌+◌, ◌*◌, ◌%◌, ◌^◌, true, Some, refl, sym, ap, ◌∙◌, subst, arith}
use Rattle.std.specs.Prelude.{ℤ, pos, ◌+ℤ◌, ◌-ℤ◌, ◌*ℤ◌, ◌≤ℤ◌, FitsSigned}
use Rattle.std.specs.Int.{w16}
use Rattle.om_isa.specs.declared.instr.Instr.{Instr}
use Rattle.om_value.specs.declared.value.Place.{Place}
use Rattle.om_value.specs.declared.value.Region.{Region}
use Rattle.om_value.specs.declared.value.Target.{Target}
use Rattle.om_value.specs.declared.value.Target.TheVariants as target
use Rattle.om_prog.specs.View.{ProgramView, size_of}
use Rattle.om_prog.specs.Valid.{IsProgram, is_target}
use Rattle.om_graph.specs.declared.op.Op.{Op}
use Rattle.om_graph.specs.declared.op.OpKind.{OpKind}
use Rattle.om_graph.specs.declared.op.OpKind.TheVariants as op
use Rattle.om_graph.specs.View.{Block, GraphView, Has, ops_of}
use Rattle.om_graph.specs.Fits.{from_gp, IsHighPart, HaveOneQuotient, HighUseFits, OpFits, OpsFit}
use Rattle.om_graph.specs.OfProgram.{IsGraphOf, TakesHigh}
use Rattle.om_layout.specs.Layout.{LayoutView, RegionAt, region_there, region_at, gp_of, address_of}
use Rattle.om_layout.specs.Order.{IsDataLayout}
use Rattle.om_passes.specs.Step.{FewerTargets}
use Rattle.om_shrink.specs.Placed.{OpPlaced, ArePlaced}
use Rattle.om_shrink.proofs.Distances.{IsNearer, nearer}
use Rattle.om_shrink.proofs.There.{target_is_there}
use Rattle.om_shrink.proofs.Below.{stays_below}
use Rattle.om_layout.specs.Limits.{StaysInLimits}
use Rattle.om_shrink.proofs.Arith.{near_sum, near_address, no_wrap, high_of, high_fits, low_fits}

module _ (p : ProgramView) (prog : IsProgram p) (g h : GraphView) (of : IsGraphOf p g) (on : IsGraphOf p h) (same : h.tables ≡ g.tables) (fewer : FewerTargets g h)
    (l m : LayoutView) (lay : IsDataLayout p g l) (may : IsDataLayout p h m) (stays : StaysInLimits g l) (are : ArePlaced p h) (fits : OpsFit p (gp_of l) (address_of l) h) where
  -- a pointer that is there, from an object
  record Near (o : ℕ) (r : Region) (x : ℕ) : Type 0 where
    move : IsNearer l m o r
    old : from_gp p (gp_of l) (address_of l) o (target.Ptr r x) ≡ (pos (region_at l r + x) -ℤ pos (gp_of l o))
    new : from_gp p (gp_of m) (address_of m) o (target.Ptr r x) ≡ (pos (region_at m r + x) -ℤ pos (gp_of m o))

  near : (o : ℕ) (r : Region) (x : ℕ) → is_target p (target.Ptr r x) ≡ true → x ≤ size_of p r → Near o r x
  near o r x k s =
      let t = target_is_there p prog g l lay (target.Ptr r x) k in
      let d = t.0 in
      let e = t.1.0 in
      let f = t.1.1 in
      let n = nearer p prog g h of on same fewer l m lay may o r e d f in
      let b = stays_below p prog g l lay stays r e d f in
      let w = n.lower in
      record {
        move = n;
        old = ap (λ (k : ℕ). pos k -ℤ pos (gp_of l o)) (no_wrap (region_at l r + x) (omega (arith, b, s)));
        new = ap (λ (k : ℕ). pos k -ℤ pos (gp_of m o)) (no_wrap (region_at m r + x) (omega (arith, b, s, w)));
      }

  abbrev Fits : LayoutView → Block → Place → OpKind → Type 0
  Fits k b at kind = OpFits p (gp_of k) (address_of k) b at kind

  lda : (b : Block) (at : Place) (ra rb : ℕ) (t : Target) → is_target p t ≡ true → OpFits p (gp_of l) (address_of l) b at (op.AddrLda ra rb t) → OpFits p (gp_of m) (address_of m) b at (op.AddrLda ra rb t)
  lda b at ra rb (target.Num n) t f = f
  lda b at ra rb (target.Code q) t f = f
  lda b at ra rb (target.Ptr r x) t f =
      let n = near at.obj r x t f.0 in (
        f.0,
        subst (λ (z : ℤ). FitsSigned w16 z) (sym n.new)
            (near_address (region_at l r) (region_at m r) (gp_of l at.obj) (gp_of m at.obj) x n.move.by n.move.distance n.move.behind (subst (λ (z : ℤ). FitsSigned w16 z) n.old f.1)),
      )

  use_gp : (b : Block) (at : Place) (i : Instr) (gp : ℕ) (t : Target) → is_target p t ≡ true → OpFits p (gp_of l) (address_of l) b at (op.UseGp i gp t) → OpFits p (gp_of m) (address_of m) b at (op.UseGp i gp t)
  use_gp b at i gp (target.Num n) t f = absurd f.3
  use_gp b at i gp (target.Code q) t f = absurd f.3
  use_gp b at i gp (target.Ptr r x) t f =
      let n = near at.obj r x t f.3 in (
        f.0,
        f.1,
        f.2,
        f.3,
        f.4,
        subst (λ (z : ℤ). FitsSigned w16 (z +ℤ f.1)) (sym n.new)
            (near_sum (region_at l r) (region_at m r) (gp_of l at.obj) (gp_of m at.obj) x n.move.by f.1 n.move.distance n.move.behind f.4.0 (subst (λ (z : ℤ). FitsSigned w16 (z +ℤ f.1)) n.old f.5)),
      )

  high : (b : Block) (at : Place) (ra rb : ℕ) (t : Target) (least : ℤ) → is_target p t ≡ true → pos 0 ≤ℤ (least +ℤ pos 32768) → OpFits p (gp_of l) (address_of l) b at (op.AddrHi ra rb t least) →
      OpFits p (gp_of m) (address_of m) b at (op.AddrHi ra rb t least)
  high b at ra rb (target.Num n) least t d f = absurd f.0
  high b at ra rb (target.Code q) least t d f = absurd f.0
  high b at ra rb (target.Ptr r x) least t d f = (f.0, f.1, λ hm is. new_high hm is)
    where
      new_high : (hm : ℤ) → IsHighPart p (gp_of m) (address_of m) at.obj (target.Ptr r x) least hm → FitsSigned w16 hm
      new_high hm is =
          let n = near at.obj r x t f.0 in
          let o = high_of (from_gp p (gp_of l) (address_of l) at.obj (target.Ptr r x) +ℤ least) in
          let hl = f.2 o.0 (record { above = o.1; below = o.2 }) in
          high_fits (region_at l r) (region_at m r) (gp_of l at.obj) (gp_of m at.obj) x n.move.by least o.0 hm n.move.distance n.move.behind d hl
          (subst (λ (z : ℤ). ((z +ℤ least) +ℤ pos 32768) ≤ℤ ((pos 65536 *ℤ o.0) +ℤ pos 65535)) n.old o.2)
          (subst (λ (z : ℤ). (pos 65536 *ℤ hm) ≤ℤ ((z +ℤ least) +ℤ pos 32768)) n.new is.above)
          (subst (λ (z : ℤ). ((z +ℤ least) +ℤ pos 32768) ≤ℤ ((pos 65536 *ℤ hm) +ℤ pos 65535)) n.new is.below)

  -- a use of a high half, over a pointer
  module _ (b : Block) (o : Op) (i : Instr) (hi : Place) (hb : Has h.blocks b) (ho : Has (ops_of b) o) (e : o.kind ≡ op.UseLo i hi) (f : HighUseFits p (gp_of l) (address_of l) b o.place i hi) where
    abbrev half : Op
    half = record { place = hi; kind = op.AddrHi f.ra f.rb f.target f.least }

    least_taken : TakesHigh b hi f.least
    least_taken = ((on.blocks b hb).2.least half f.ra f.rb f.target f.least f.load refl).0

    disp_taken : TakesHigh b hi f.disp
    disp_taken = (o, i, f.ra, ho, e, f.base)

    over : (r : Region) (x : ℕ) → f.target ≡ target.Ptr r x → is_target p (target.Ptr r x) ≡ true → x ≤ size_of p r → HaveOneQuotient p (gp_of l) (address_of l) b hi (target.Ptr r x) →
        HighUseFits p (gp_of m) (address_of m) b o.place i hi
    over r x s t w k =
        let n = near (o.place).obj r x t w in
        let a = k.1 f.least least_taken in
        let d = k.1 f.disp disp_taken in
        let v = high_of (from_gp p (gp_of m) (address_of m) (o.place).obj f.target +ℤ f.least) in
        let is = ap (from_gp p (gp_of m) (address_of m) (o.place).obj) s ∙ n.new in
        record {
          target = f.target;
          ra = f.ra;
          rb = f.rb;
          least = f.least;
          load = f.load;
          used = f.used;
          disp = f.disp;
          base = f.base;
          high = v.0;
          is_high = record { above = v.1; below = v.2 };
          fits =
              subst (λ (z : ℤ). FitsSigned w16 ((z +ℤ f.disp) -ℤ (pos 65536 *ℤ v.0))) (sym is)
              (low_fits (region_at m r) (gp_of m (o.place).obj) x n.move.region_by n.move.gp_by f.least f.disp k.0 v.0 n.move.region_is n.move.gp_is a.0 a.1 d.0 d.1
              (subst (λ (z : ℤ). (pos 65536 *ℤ v.0) ≤ℤ ((z +ℤ f.least) +ℤ pos 32768)) is v.1)
              (subst (λ (z : ℤ). ((z +ℤ f.least) +ℤ pos 32768) ≤ℤ ((pos 65536 *ℤ v.0) +ℤ pos 65535)) is v.2));
          within = f.within;
        }

    use_lo : HighUseFits p (gp_of m) (address_of m) b o.place i hi
    use_lo = by_target f.target refl (fits.ops b half hb f.load) (are.ops b half hb f.load)
      where
        by_target : (t : Target) → f.target ≡ t → OpFits p (gp_of l) (address_of l) b hi (op.AddrHi f.ra f.rb t f.least) → OpPlaced p (op.AddrHi f.ra f.rb t f.least) → HighUseFits p (gp_of m) (address_of m) b o.place i hi
        by_target (target.Num n) s k r = absurd k.0
        by_target (target.Code q) s k r = absurd k.0
        by_target (target.Ptr r x) s k t = over r x s t.0 k.0 k.1

  op_fits : (b : Block) (o : Op) → Has h.blocks b → Has (ops_of b) o → OpFits p (gp_of m) (address_of m) b o.place o.kind
  op_fits b o hb ho = by_kind o.kind refl (fits.ops b o hb ho) (are.ops b o hb ho)
    where
      by_kind : (k : OpKind) → o.kind ≡ k → OpFits p (gp_of l) (address_of l) b o.place k → OpPlaced p k → OpFits p (gp_of m) (address_of m) b o.place k
      by_kind (op.Plain i) e f t = f
      by_kind (op.Lit ra rb x) e f t = f
      by_kind (op.AddrLda ra rb x) e f t = lda b o.place ra rb x t f
      by_kind (op.AddrHi ra rb x least) e f t = high b o.place ra rb x least t.0 t.1 f
      by_kind (op.UseLo i hi) e f t = use_lo b o i hi hb ho e f
      by_kind (op.UseGp i gp x) e f t = use_gp b o.place i gp x t f
      by_kind (op.GpHi ra rb base) e f t = f
      by_kind (op.GpLo ra rb hi) e f t = f

  pub ops_fit : OpsFit p (gp_of m) (address_of m) h
  ops_fit = record { ops = op_fits }
