-- In the layout of a graph that can be encoded each number that a word needs fits its field.
use Rattle.std.proofs.Common.{◌≡◌, inl, ℕ, ◌+◌, ◌*◌, ◌^◌, ◌<◌, ◌≤◌, true, List, ◌∷◌, ◌++◌, length, Option, Some, None, refl, ap, sym, subst, ◌∙◌, arith}
use Rattle.std.specs.Prelude.{map, ℤ, pos, negsuc, ◌+ℤ◌, ◌-ℤ◌, ◌*ℤ◌, ◌≤ℤ◌, is_some, FitsSigned}
use Rattle.std.specs.Int.{w16, int_div_euclid}
use Rattle.std.proofs.lemmas.Int.{ints}
use Rattle.std.proofs.lemmas.Bool.{le-leb}
use Rattle.om_isa.specs.declared.instr.Instr.{Instr}
use Rattle.om_isa.specs.declared.instr.Instr.TheVariants.{Mem, Jump, Branch, Alu, Cmov, Misc, Fnop, Halt, Callsys}
use Rattle.om_value.specs.declared.value.Place.{Place}
use Rattle.om_value.specs.declared.value.Region.{Region}
use Rattle.om_value.specs.declared.value.Region.TheVariants.{Sec, Common, Stack, Heap}
use Rattle.om_value.specs.declared.value.Target.{Target}
use Rattle.om_value.specs.declared.value.Target.TheVariants as target
use Rattle.om_prog.specs.declared.region.RegionInit.{RegionInit}
use Rattle.om_prog.specs.Act as act
use Rattle.om_prog.specs.Act.{Act, Word, base_of}
use Rattle.om_prog.specs.View.{ProgramView, init_of, size_of, size_or_none}
use Rattle.om_prog.specs.Valid.{is_target, is_up_to}
use Rattle.om_graph.specs.declared.op.Op.{Op}
use Rattle.om_graph.specs.declared.op.OpKind.{OpKind}
use Rattle.om_graph.specs.declared.op.OpKind.TheVariants as op
use Rattle.om_graph.specs.View.{Block, GraphView, Has, ops_of}
use Rattle.om_graph.specs.Run.{words, block_words, op_word, op_act, last_words}
use Rattle.om_graph.specs.Form.{Ordered}
use Rattle.om_graph.specs.Uses.{IsBaseUse}
use Rattle.om_graph.specs.Fits.{OpFits, HighUseFits, IsWithin, IsHighPart, LdaFits}
use Rattle.om_graph.proofs.Labels.{in_all, has_label, append_left, append_right}
use Rattle.om_graph.proofs.OfProgram.{to_map, words_in_place}
use Rattle.om_layout.specs.Layout.{LayoutView, position_of, code_at, gp_of, table_at, address_of, start_at}
use Rattle.om_encode.specs.declared.highs.High.{High}
use Rattle.om_encode.specs.Halves.{high_part, from_gp}
use Rattle.om_encode.specs.Fitting.{AllFits}
use Rattle.om_encode.specs.Encoded.{IsEncodable}
use Rattle.om_encode.specs.Written.{IsNear, HasNearSlot, FitsLda, FitsHigh, FitsPair, FitsUse, FitsOp, FitsOver, HasHalf, AreHighs, behind, last_high}
use Rattle.om_encode.proofs.Fitting.{inside, most, code_low, gp_between, near_between, fits}
use Rattle.om_encode.proofs.Sound.{Sound, sound}
use Rattle.om_encode.proofs.Slotted.{HasSlotIn, slotted}
use Rattle.om_encode.proofs.UsesOfHighs.{half_noted, same_at}
use Rattle.om_encode.proofs.Walks.{mid_has}

-- ---- high parts

high_of : (w z : ℤ) → z +ℤ pos 32768 ≡ w → ((pos 65536 *ℤ int_div_euclid w (pos 65536)) ≤ℤ (z +ℤ pos 32768)) × ((z +ℤ pos 32768) ≤ℤ ((pos 65536 *ℤ int_div_euclid w (pos 65536)) +ℤ pos 65535))
high_of (pos a) z e = (omega (arith, ints, e), omega (arith, ints, e))
high_of (negsuc a) z e = (omega (arith, ints, e), omega (arith, ints, e))

one_high : (w z : ℤ) → z +ℤ pos 32768 ≡ w → (hi : ℤ) → (pos 65536 *ℤ hi) ≤ℤ (z +ℤ pos 32768) → (z +ℤ pos 32768) ≤ℤ ((pos 65536 *ℤ hi) +ℤ pos 65535) → hi ≡ int_div_euclid w (pos 65536)
one_high (pos a) z e hi h k = omega (arith, ints, e, h, k)
one_high (negsuc a) z e hi h k = omega (arith, ints, e, h, k)

use_sum : (a h d : ℤ) → FitsSigned w16 ((a +ℤ d) -ℤ h) → FitsSigned w16 ((a -ℤ h) +ℤ d)
use_sum a h d f = omega (arith, ints, f)

near_slot : (slot gp : ℕ) → FitsSigned w16 (pos slot -ℤ pos gp) → gp ≤ 0x144008000 → slot < 2 ^ 48
near_slot slot gp f h = omega (arith, ints, f, h)

module _ (p : ProgramView) (g : GraphView) (l : LayoutView) (c : IsEncodable p g l) where
  pub all_fit : AllFits p g l
  all_fit = fits p g l c.program c.graph c.limits c.layout

  pub gp_small : (obj : ℕ) → gp_of l obj < 2 ^ 48
  gp_small obj = let b = gp_between p g l c.program c.graph c.limits c.layout (table_at l obj) in let h = b.1 in omega (arith, h)

  pub code_small : (q : Place) → code_at l q < 2 ^ 48
  code_small q = let b = code_low p g l c.program c.graph c.limits c.layout q in let h = b.1 in omega (arith, h)

  pub position_small : (q : Place) → position_of l q < 2 ^ 24
  position_small q =
      let a = most p g l c.program c.graph c.limits c.layout q in
      let b = (inside p g l c.program c.graph c.limits c.layout).words in
      omega (arith, a, b)

  -- a byte of a region of the program, or its end
  address_small : (t : Target) → is_target p t ≡ true → IsWithin p (gp_of l) (address_of l) t → address_of l t < 2 ^ 48
  address_small (target.Num n) k w = absurd w
  address_small (target.Code q) k w = absurd w
  address_small (target.Ptr r x) k w = by_region r k w
    where
      by_init : (r : Region) (o : Option RegionInit) → init_of p r ≡ o → is_some o ≡ true → x ≤ size_or_none o → address_of l (target.Ptr r x) < 2 ^ 48
      by_init r None e k w = cc
      by_init r (Some i) e k w =
          let up : is_up_to p x (init_of p r) ≡ true = ap (is_up_to p x) e ∙ le-leb x i.size w in
          let b = near_between p g l c.program c.graph c.limits c.layout r x up in
          let h = b.1 in
          omega (arith, h)

      by_region : (r : Region) → is_some (init_of p r) ≡ true → x ≤ size_of p r → address_of l (target.Ptr r x) < 2 ^ 48
      by_region (Sec o n) k w = by_init (Sec o n) (init_of p (Sec o n)) refl k w
      by_region (Common n) k w = by_init (Common n) (init_of p (Common n)) refl k w
      by_region Heap k w = by_init Heap (init_of p Heap) refl k w
      by_region Stack k w = omega (arith, w)

  is_near : (obj : ℕ) (t : Target) → is_target p t ≡ true → IsWithin p (gp_of l) (address_of l) t → IsNear l obj t
  is_near obj t k w = record { gp = gp_small obj; address = address_small t k w }

  fits_pair : (obj : ℕ) (base : Place) → FitsPair l obj base
  fits_pair obj base =
      let s = all_fit.pairs obj base in
      record { gp = gp_small obj; code = code_small base; high = s.high; low = s.low }

  fits_lda : (obj rb : ℕ) (t : Target) → is_target p t ≡ true → LdaFits p (gp_of l) (address_of l) obj t → FitsLda l obj t
  fits_lda obj rb (target.Num n) k f = f
  fits_lda obj rb (target.Ptr r x) k f = (is_near obj (target.Ptr r x) k f.0, f.1)
  fits_lda obj rb (target.Code q) k f = absurd f

  fits_high : (obj : ℕ) (t : Target) (least : ℤ) → is_target p t ≡ true → IsWithin p (gp_of l) (address_of l) t → ((hi : ℤ) → IsHighPart p (gp_of l) (address_of l) obj t least hi → FitsSigned w16 hi) → FitsHigh l obj t least
  fits_high obj t least k w f =
      let h = high_of ((from_gp l obj t +ℤ least) +ℤ pos 32768) (from_gp l obj t +ℤ least) refl in
      record { near = is_near obj t k w; fits = f (high_part (from_gp l obj t +ℤ least)) (record { above = h.0; below = h.1 }) }

  fits_over : (i : Instr) (r : ℕ) (z start : ℤ) → IsBaseUse r i z → FitsSigned w16 (start +ℤ z) → FitsOver i start
  fits_over (Mem o ra rb d) r z start b f = subst (λ (x : ℤ). FitsSigned w16 (start +ℤ x)) (sym b.1) f
  fits_over (Jump k ra rb h) r z start b f = absurd b
  fits_over (Branch o ra d) r z start b f = absurd b
  fits_over (Alu o ra rb rc) r z start b f = absurd b
  fits_over (Cmov k ra rb rc) r z start b f = absurd b
  fits_over (Misc o ra rb) r z start b f = absurd b
  fits_over Fnop r z start b f = absurd b
  fits_over Halt r z start b f = absurd b
  fits_over Callsys r z start b f = absurd b

  -- the base of a base use
  base_is : (i : Instr) (r : ℕ) (z : ℤ) → IsBaseUse r i z → base_of i ≡ r
  base_is (Mem o ra rb d) r z b = b.0
  base_is (Jump k ra rb h) r z b = absurd b
  base_is (Branch o ra d) r z b = absurd b
  base_is (Alu o ra rb rc) r z b = absurd b
  base_is (Cmov k ra rb rc) r z b = absurd b
  base_is (Misc o ra rb) r z b = absurd b
  base_is Fnop r z b = absurd b
  base_is Halt r z b = absurd b
  base_is Callsys r z b = absurd b

  module _ (b : Block) (among : Has g.blocks b) (done : List Op) (o : Op) (rest : List Op) (split : ops_of b ≡ done ++ o ∷ rest) where
    pub has_op : Has (ops_of b) o
    has_op = subst (λ (os : List Op). Has os o) (sym split) (append_right done (o ∷ rest) o (inl refl))

    pub has_word : Has (block_words b) (op_word (ops_of b) o)
    has_word = append_left (map (op_word (ops_of b)) (ops_of b)) (last_words b.last) (op_word (ops_of b) o) (to_map (op_word (ops_of b)) (ops_of b) o has_op)

    pub in_words : Has (words g) (op_word (ops_of b) o)
    in_words = in_all g.blocks b (op_word (ops_of b) o) among has_word

    pub known : (a : Act) → op_act (ops_of b) o.kind ≡ a → Sound p o.place a
    known a e = subst (λ (x : Act). Sound p o.place x) e (sound p c.program g c.graph (op_word (ops_of b) o) in_words)

    pub op_fits : (k : OpKind) → o.kind ≡ k → OpFits p (gp_of l) (address_of l) b o.place k
    op_fits k e = subst (λ (x : OpKind). OpFits p (gp_of l) (address_of l) b o.place x) e (c.fits.ops b o among has_op)

    pub place_inside : o.place.obj < length g.counts
    place_inside =
        let places = words_in_place p c.program g c.graph in
        let w = places.words b (op_word (ops_of b) o) among has_word in
        let q = (places.labels b.label (c.graph.graph.among b.label (has_label g.blocks b among))).0 in
        let e = w.object in
        omega (arith, q, e)

    -- a use of a high half is a use of the load that it names
    module _ (i : Instr) (hi : Place) (u : HighUseFits p (gp_of l) (address_of l) b o.place i hi) where
      abbrev load_word : Word
      load_word = record { at = hi; act = act.AddrHi u.ra u.rb u.target }

      abbrev use_word : Word
      use_word = record { at = o.place; act = act.UseLo i hi u.target }

      ordered : Ordered (block_words b)
      ordered = (words_in_place p c.program g c.graph).ordered b among

      use_there : Has (block_words b) use_word
      use_there = subst (λ (ws : List Word). Has ws use_word) (sym u.used.stands.2) (mid_has (u.used.stands.0 ++ load_word ∷ u.used.mid) use_word u.used.stands.1)

      pub use_act : op_act (ops_of b) o.kind ≡ act.UseLo i hi u.target
      use_act = ap (λ (w : Word). w.act) (same_at (block_words b) ordered (op_word (ops_of b) o) use_word has_word use_there refl)

      pub use_sound : (is_target p u.target ≡ true) × (hi.obj ≡ o.place.obj)
      use_sound = known (act.UseLo i hi u.target) use_act

      last_noted : last_high u.ra done ≡ Some (record { target = u.target; least = u.least })
      last_noted = half_noted b ordered done o rest split load_word use_word u.ra u.rb u.target u.least u.used refl u.load

      pub half_is : (highs : List (Option High)) → AreHighs done highs → HasHalf highs i (record { target = u.target; least = u.least })
      half_is highs h below =
          h.each (base_of i) below
          ∙ ap (λ (r : ℕ). Some (last_high r done)) (base_is i u.ra u.disp u.base)
          ∙ ap (λ (x : Option High). Some x) last_noted

      load_fits : FitsHigh l o.place.obj u.target u.least
      load_fits =
          let f = c.fits.ops b (record { place = hi; kind = op.AddrHi u.ra u.rb u.target u.least }) among u.load in
          subst (λ (n : ℕ). FitsHigh l n u.target u.least) use_sound.1 (fits_high hi.obj u.target u.least use_sound.0 f.0 f.2)

      high_is : u.high ≡ high_part (from_gp l o.place.obj u.target +ℤ u.least)
      high_is = one_high ((from_gp l o.place.obj u.target +ℤ u.least) +ℤ pos 32768) (from_gp l o.place.obj u.target +ℤ u.least) refl u.high u.is_high.above u.is_high.below

      use_over : FitsOver i (behind l o.place.obj (record { target = u.target; least = u.least }))
      use_over =
          fits_over i u.ra u.disp (behind l o.place.obj (record { target = u.target; least = u.least })) u.base
          (use_sum (from_gp l o.place.obj u.target) (pos 65536 *ℤ high_part (from_gp l o.place.obj u.target +ℤ u.least)) u.disp
          (subst (λ (h : ℤ). FitsSigned w16 ((from_gp l o.place.obj u.target +ℤ u.disp) -ℤ (pos 65536 *ℤ h))) high_is u.fits))

      fits_use : (highs : List (Option High)) → AreHighs done highs → FitsUse l highs o.place.obj i
      fits_use highs h = record { half = record { target = u.target; least = u.least }; found = half_is highs h; high = load_fits; over = use_over }

    pub near_slotted : (ra rb : ℕ) (t : Target) → o.kind ≡ op.Lit ra rb t → HasSlotIn l o.place.obj t
    near_slotted ra rb t e =
        let n = c.graph.graph.tables in
        let i = place_inside in
        slotted p g l c.layout.data_part (op_word (ops_of b) o) ra rb t in_words (ap (op_act (ops_of b)) e) (omega (arith, n, i))

    slot_fits : (ra rb : ℕ) (t : Target) → o.kind ≡ op.Lit ra rb t → HasNearSlot l o.place.obj t
    slot_fits ra rb t e =
        let s = near_slotted ra rb t e in
        let f = all_fit.slots (table_at l o.place.obj) s.number s.table t s.found s.there in
        let k = gp_between p g l c.program c.graph c.limits c.layout (table_at l o.place.obj) in
        record {
          slot = start_at l (table_at l o.place.obj) + 8 * s.number;
          found = s.slot;
          gp = gp_small o.place.obj;
          address = near_slot (start_at l (table_at l o.place.obj) + 8 * s.number) (gp_of l o.place.obj) f k.1;
          fits = f;
        }

    pub fits_op : (highs : List (Option High)) → AreHighs done highs → FitsOp p l highs o.place.obj o.kind
    fits_op highs h = by_kind o.kind refl
      where
        by_kind : (k : OpKind) → o.kind ≡ k → FitsOp p l highs o.place.obj k
        by_kind (op.Plain i) e = tt
        by_kind (op.Lit ra rb t) e = slot_fits ra rb t e
        by_kind (op.AddrLda ra rb t) e = fits_lda o.place.obj rb t (known (act.AddrLda ra rb t) (ap (op_act (ops_of b)) e)).0 (op_fits (op.AddrLda ra rb t) e)
        by_kind (op.AddrHi ra rb t least) e =
            let f = op_fits (op.AddrHi ra rb t least) e in
            fits_high o.place.obj t least (known (act.AddrHi ra rb t) (ap (op_act (ops_of b)) e)) f.0 f.2
        by_kind (op.UseLo i hi) e = fits_use i hi (op_fits (op.UseLo i hi) e) highs h
        by_kind (op.UseGp i gp t) e =
            let f = op_fits (op.UseGp i gp t) e in
            (is_near o.place.obj t (known (act.UseGp i gp t) (ap (op_act (ops_of b)) e)) f.3, fits_over i f.0 f.1 (from_gp l o.place.obj t) f.2 f.5)
        by_kind (op.GpHi ra rb base) e = fits_pair o.place.obj base
        by_kind (op.GpLo ra rb hi) e =
            let k = known (act.GpLo ra rb hi) (ap (op_act (ops_of b)) e) in
            record { base = k.base; found = k.found; pair = fits_pair o.place.obj k.base }
