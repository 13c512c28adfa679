-- Address ops that fitted in some numbers still fit in them after a load was made far with all of its uses.
use Rattle.std.proofs.Common.{◌≡◌, ◌⊎◌, inl, inr, ℕ, true, List, Option, Some, None, refl, sym, ap, ◌∙◌, subst, arith}
use Rattle.std.specs.Prelude.{ℤ, pos, ◌+ℤ◌, ◌-ℤ◌, ◌*ℤ◌, ◌≤ℤ◌, FitsSigned}
use Rattle.std.specs.Int.{w16}
use Rattle.std.proofs.lemmas.Bool.{true≢false}
use Rattle.std.proofs.lemmas.Int.{ints}
use Rattle.om_isa.specs.declared.instr.Instr.{Instr}
use Rattle.om_isa.specs.declared.instr.Instr.TheVariants.{Mem, Jump, Branch, Alu, Cmov, Misc, Fnop, Halt, Callsys}
use Rattle.om_value.specs.declared.value.Place.{Place}
use Rattle.om_value.specs.declared.value.Target.{Target}
use Rattle.om_value.specs.declared.value.Target.TheVariants as target
use Rattle.om_prog.specs.Act as act
use Rattle.om_prog.specs.Act.{Act, Word, act_reads, act_writes}
use Rattle.om_prog.specs.Flow.{Among}
use Rattle.om_prog.specs.View.{ProgramView}
use Rattle.om_prog.specs.Valid.{IsProgram}
use Rattle.om_graph.specs.declared.op.Op.{Op}
use Rattle.om_graph.specs.declared.op.OpKind.{OpKind}
use Rattle.om_graph.specs.declared.op.OpKind.TheVariants as op
use Rattle.om_graph.specs.View.{Block, GraphView, Has, ops_of}
use Rattle.om_graph.specs.Run.{block_words, op_act}
use Rattle.om_graph.specs.Form.{Ordered}
use Rattle.om_graph.specs.Fits.{from_gp, IsHighPart, HaveOneQuotient, HighUseFits, OpFits, OpsFit}
use Rattle.om_graph.specs.OfProgram.{IsGraphOf, TakesHigh}
use Rattle.om_graph.specs.Rewritten.{each_word}
use Rattle.om_graph.specs.Uses.{IsLocalUse, IsBaseUse}
use Rattle.om_graph.proofs.Ends.{each_has}
use Rattle.om_graph.proofs.Itself.{unique}
use Rattle.om_graph.proofs.OfProgram.{words_in_place}
use Rattle.om_passes.specs.Blocks.{OneBlock}
use Rattle.om_passes.specs.Far.{FarLoad, far_target, far_op, use_kind, far_word, far_change, IsFarUse, IsFarLoad, IsMadeFar, FitsBehind, FitsFar}
use Rattle.om_passes.proofs.Edits.{local_of, last_local, first_in, second_in}
use Rattle.om_passes.proofs.LastWriters.{Stays, UserStays, last_of, last_is, last_kept}
use Rattle.om_passes.proofs.Locals.{block_object}
use Rattle.om_passes.proofs.OneBlock.{old_block, new_there}
use Rattle.om_passes.proofs.FarEdits.{IsFar, half, use_of_half, as_is, is_far, far_some, IsFarOp, half_op, use_op, same_op, is_far_op, one_disp, is_load, load_there, new_op, made_op, takes_old, each, use_word, far_words}
use Rattle.om_passes.proofs.FitsStay.{IsNamed, all_fit}

-- a high part is one
one_high : (d a b : ℤ) → (pos 65536 *ℤ a) ≤ℤ (d +ℤ pos 32768) → (d +ℤ pos 32768) ≤ℤ ((pos 65536 *ℤ a) +ℤ pos 65535) → (pos 65536 *ℤ b) ≤ℤ (d +ℤ pos 32768) → (d +ℤ pos 32768) ≤ℤ ((pos 65536 *ℤ b) +ℤ pos 65535) → a ≡ b
one_high d a b h k m n = omega (arith, ints, h, k, m, n)

-- a use of a half reads its base
reads_base : (r : ℕ) (i : Instr) (z : ℤ) (hi : Place) (t : Target) → IsBaseUse r i z → Among (act_reads (act.UseLo i hi t)) r
reads_base r (Mem o ra rb d) z hi t u = inl u.0
reads_base r (Jump k ra rb h) z hi t u = absurd u
reads_base r (Branch o ra d) z hi t u = absurd u
reads_base r (Alu o ra rb rc) z hi t u = absurd u
reads_base r (Cmov k ra rb rc) z hi t u = absurd u
reads_base r (Misc o ra rb) z hi t u = absurd u
reads_base r Fnop z hi t u = absurd u
reads_base r Halt z hi t u = absurd u
reads_base r Callsys z hi t u = absurd u

same_use : {i j : Instr} {h k : Place} → op.UseLo i h ≡ op.UseLo j k → i ≡ j
same_use e = cc

module _ (p : ProgramView) (gp : ℕ → ℕ) (address : Target → ℕ) (prog : IsProgram p) (g new : GraphView) (of : IsGraphOf p g) (then : IsGraphOf p new) (l : FarLoad) (b n : Block)
    (one : OneBlock g.blocks new.blocks b n) (is : IsFarLoad l b) (made : IsMadeFar l b n) (fit : FitsFar p gp address l b) (fits : OpsFit p gp address g) where
  hb : Has g.blocks b
  hb = old_block one

  order : Ordered (block_words b)
  order = (words_in_place p prog g of).ordered b hb

  words : block_words n ≡ each_word (far_change l) (block_words b)
  words = far_words p prog l b n is made order

  new_order : Ordered (each_word (far_change l) (block_words b))
  new_order = subst (λ (ws : List Word). Ordered ws) words ((words_in_place p prog new then).ordered n (new_there one))

  abbrev load : Word
  load = record { at = l.hi; act = act.Lit l.ra l.rb (far_target l) }

  abbrev loaded : Op
  loaded = record { place = l.hi; kind = op.Lit l.ra l.rb (far_target l) }

  abbrev half_word : Word
  half_word = record { at = l.hi; act = act.AddrHi l.ra l.rb (far_target l) }

  load_in : Has (block_words b) load
  load_in = load_there p prog l b n is made order

  in_place : (w u : Word) → far_change l w ≡ Some u → u.at ≡ w.at
  in_place w u e = by_case (far_some l w u e)
    where
      by_case : IsFar l w u → u.at ≡ w.at
      by_case (half k f) = ap (λ (v : Word). v.at) f
      by_case (use_of_half k v f) = ap (λ (v : Word). v.at) f
      by_case (as_is k v f) = ap (λ (v : Word). v.at) f

  -- ---- words

  -- what is neither a load nor a word as it stands stays
  word_stays : (w : Word) → Has (block_words b) w → (w.act ≡ act.Lit l.ra l.rb (far_target l) → ⊥) → ((i : Instr) → w.act ≡ act.Plain i → ⊥) → far_change l w ≡ Some w
  word_stays w h no_load no_plain = by_case (is_far l w)
    where
      by_case : IsFar l w (far_word l w) → far_change l w ≡ Some w
      by_case (half k f) = absurd (no_load (ap (λ (v : Word). v.act) (unique (block_words b) load w order load_in h k)))
      by_case (use_of_half k v f) = let u = use_word p prog l b n is made order w h v in absurd (no_plain u.instr u.plain)
      by_case (as_is k v f) = ap (λ (v : Word). Some v) f

  load_becomes : far_change l load ≡ Some half_word
  load_becomes = by_case (is_far l load)
    where
      by_case : IsFar l load (far_word l load) → far_change l load ≡ Some half_word
      by_case (half k f) = ap (λ (v : Word). Some v) f
      by_case (use_of_half k v f) = absurd (k refl)
      by_case (as_is k v f) = absurd (k refl)

  use_becomes : (at : Place) (i : Instr) → (at ≡ l.hi → ⊥) → l.use_at at ≡ true → far_change l (record { at = at; act = act.Plain i }) ≡ Some (record { at = at; act = act.UseLo i l.hi (far_target l) })
  use_becomes at i d u = by_case (is_far l (record { at = at; act = act.Plain i }))
    where
      by_case : IsFar l (record { at = at; act = act.Plain i }) (far_word l (record { at = at; act = act.Plain i })) → far_change l (record { at = at; act = act.Plain i }) ≡ Some (record { at = at; act = act.UseLo i l.hi (far_target l) })
      by_case (half k f) = absurd (d k)
      by_case (use_of_half k v f) = ap (λ (v : Word). Some v) f
      by_case (as_is k v f) = absurd (true≢false (sym u ∙ v))

  same_writes : (r : ℕ) → Stays (far_change l) r (block_words b)
  same_writes r = record {
    places = λ x u h e. in_place x u e;
    more = λ x u h e.
        each p prog l b n is made order (λ v w. Among (act_writes v.act) r → Among (act_writes w.act) r) (λ a. a) (λ v w k a. subst (λ (y : Act). Among (act_writes y) r) w.plain a) (λ v a. a) x u h e;
    fewer = λ x u h e.
        each p prog l b n is made order (λ v w. Among (act_writes w.act) r → Among (act_writes v.act) r) (λ a. a) (λ v w k a. subst (λ (y : Act). Among (act_writes y) r) (sym w.plain) a) (λ v a. a) x u h e;
  }

  none_gone : (q : Place) → UserStays (far_change l) q l.ra (block_words b)
  none_gone q x h e k = cc

  -- a use is one of the half
  use_local :
      (at : Place) (i : Instr) (z : ℤ) → (at ≡ l.hi → ⊥) → l.use_at at ≡ true → IsBaseUse l.ra i z → IsLocalUse (block_words b) load (record { at = at; act = act.Plain i }) l.ra →
      IsLocalUse (block_words n) half_word (record { at = at; act = act.UseLo i l.hi (far_target l) }) l.ra
  use_local at i z d u base local =
      let x : Word = record { at = at; act = act.Plain i } in
      let y : Word = record { at = at; act = act.UseLo i l.hi (far_target l) } in
      let ex = use_becomes at i d u in
      let k = last_kept (far_change l) at l.ra (block_words b) load half_word (same_writes l.ra) (none_gone at) (last_of (block_words b) at l.ra load (last_local (block_words b) load x l.ra local)) load_becomes in
      subst (λ (ws : List Word). IsLocalUse ws half_word y l.ra) (sym words)
      (local_of (each_word (far_change l) (block_words b)) half_word y l.ra new_order (each_has (far_change l) (block_words b) x y (second_in (block_words b) local.mid load x local.stands) ex)
      (last_is (each_word (far_change l) (block_words b)) at l.ra half_word k) (reads_base l.ra i z l.hi (far_target l) base) local.register)

  -- ---- ops

  -- an op that is neither a load nor as it stands stays
  op_stays : (o : Op) → Has (ops_of b) o → (op_act (ops_of b) o.kind ≡ act.Lit l.ra l.rb (far_target l) → ⊥) → ((i : Instr) → o.kind ≡ op.Plain i → ⊥) → far_op l o ≡ o
  op_stays o h no_load no_plain = by_case (is_far_op l o)
    where
      by_case : IsFarOp l o (far_op l o) → far_op l o ≡ o
      by_case (half_op k f) = absurd (no_load (is_load p prog l b n is made order o h k))
      by_case (use_op k v f) = let u = is.uses o h v in absurd (no_plain u.instr u.plain)
      by_case (same_op k v f) = f

  high_stays : (o : Op) (ra rb : ℕ) (t : Target) (z : ℤ) → Has (ops_of b) o → o.kind ≡ op.AddrHi ra rb t z → far_op l o ≡ o
  high_stays o ra rb t z h k = op_stays o h (λ e. let c : act.AddrHi ra rb t ≡ act.Lit l.ra l.rb (far_target l) = sym (ap (op_act (ops_of b)) k) ∙ e in unlike c) (λ i e. let c : op.AddrHi ra rb t z ≡ op.Plain i = sym k ∙ e in no_kind c)
    where
      unlike : act.AddrHi ra rb t ≡ act.Lit l.ra l.rb (far_target l) → ⊥
      unlike e = cc

      no_kind : {i : Instr} → op.AddrHi ra rb t z ≡ op.Plain i → ⊥
      no_kind e = cc

  other_place : (o : Op) (ra rb : ℕ) (t : Target) (z : ℤ) → Has (ops_of b) o → o.kind ≡ op.AddrHi ra rb t z → o.place ≡ l.hi → ⊥
  other_place o ra rb t z h k e = let c : act.AddrHi ra rb t ≡ act.Lit l.ra l.rb (far_target l) = sym (ap (op_act (ops_of b)) k) ∙ is_load p prog l b n is made order o h e in cc

  half_there : Has (ops_of n) (record { place = l.hi; kind = op.AddrHi l.ra l.rb (far_target l) l.least })
  half_there = subst (λ (o : Op). Has (ops_of n) o) (by_case (is_far_op l loaded)) (made_op p prog l b n is made order loaded is.load)
    where
      by_case : IsFarOp l loaded (far_op l loaded) → far_op l loaded ≡ record { place = l.hi; kind = op.AddrHi l.ra l.rb (far_target l) l.least }
      by_case (half_op k f) = f
      by_case (use_op k v f) = absurd (k refl)
      by_case (same_op k v f) = absurd (k refl)

  -- what takes the half is one of the uses
  taken : (y : ℤ) → TakesHigh n l.hi y → FitsBehind p gp address l fit.high fit.quotient y
  taken y t = by_op (new_op p prog l b n is made order t.0 t.3)
    where
      by_op : (x : Op) × Has (ops_of b) x × (far_op l x ≡ t.0) → FitsBehind p gp address l fit.high fit.quotient y
      by_op (x, h, e) = by_case (is_far_op l x)
        where
          kind : (far_op l x).kind ≡ op.UseLo t.1 l.hi
          kind = ap (λ (o : Op). o.kind) e ∙ t.4

          by_case : IsFarOp l x (far_op l x) → FitsBehind p gp address l fit.high fit.quotient y
          by_case (half_op a f) = let k : op.AddrHi l.ra l.rb (far_target l) l.least ≡ op.UseLo t.1 l.hi = sym (ap (λ (o : Op). o.kind) f) ∙ kind in cc
          by_case (use_op a v f) =
              let u = is.uses x h v in
              let k : op.UseLo u.instr l.hi ≡ op.UseLo t.1 l.hi = sym (ap (use_kind l) u.plain) ∙ sym (ap (λ (o : Op). o.kind) f) ∙ kind in
              let same = one_disp t.1 t.2 l.ra y u.disp t.5 (subst (λ (i : Instr). IsBaseUse l.ra i u.disp) (same_use k) u.base) in
              subst (λ (z : ℤ). FitsBehind p gp address l fit.high fit.quotient z) (sym same) (fit.uses x u.instr u.disp h v u.plain u.base)
          by_case (same_op a v f) = absurd (is.unnamed x t.1 h (ap (λ (o : Op). o.kind) (sym f) ∙ kind))

  half_fits : OpFits p gp address n l.hi (op.AddrHi l.ra l.rb (far_target l) l.least)
  half_fits = (fit.within, (fit.quotient, λ z t. let k = taken z t in (k.above, k.below)), one_fits)
    where
      one_fits : (hi : ℤ) → IsHighPart p gp address l.hi.obj (far_target l) l.least hi → FitsSigned w16 hi
      one_fits hi h =
          let same = one_high (from_gp p gp address l.hi.obj (far_target l) +ℤ l.least) fit.high hi fit.is_high.above fit.is_high.below h.above h.below in
          subst (λ (z : ℤ). FitsSigned w16 z) same fit.high_fits

  use_fits : (x : Op) (u : IsFarUse l b x) → Has (ops_of b) x → (x.place ≡ l.hi → ⊥) → l.use_at x.place ≡ true → OpFits p gp address n x.place (op.UseLo u.instr l.hi)
  use_fits x u h d v =
      let w : Word = record { at = x.place; act = act.Plain u.instr } in
      let object : l.hi.obj ≡ x.place.obj = block_object p prog g of b hb load w load_in (second_in (block_words b) u.local.mid load w u.local.stands) in
      let k = fit.uses x u.instr u.disp h v u.plain u.base in
      record {
        target = far_target l;
        ra = l.ra;
        rb = l.rb;
        least = l.least;
        load = half_there;
        used = use_local x.place u.instr u.disp d v u.base u.local;
        disp = u.disp;
        base = u.base;
        high = fit.high;
        is_high = subst (λ (o : ℕ). IsHighPart p gp address o (far_target l) l.least fit.high) object fit.is_high;
        fits = subst (λ (o : ℕ). FitsSigned w16 ((from_gp p gp address o (far_target l) +ℤ u.disp) -ℤ (pos 65536 *ℤ fit.high))) object k.fits;
        within = fit.within;
      }

  each_fits : (o : Op) → Has (ops_of n) o → Has (ops_of b) o ⊎ OpFits p gp address n o.place o.kind
  each_fits o h = by_op (new_op p prog l b n is made order o h)
    where
      by_op : (x : Op) × Has (ops_of b) x × (far_op l x ≡ o) → Has (ops_of b) o ⊎ OpFits p gp address n o.place o.kind
      by_op (x, m, e) = by_case (is_far_op l x)
        where
          by_case : IsFarOp l x (far_op l x) → Has (ops_of b) o ⊎ OpFits p gp address n o.place o.kind
          by_case (half_op a f) =
              inr
              (subst (λ (y : Op). OpFits p gp address n y.place y.kind) (sym f ∙ e)
              (subst (λ (q : Place). OpFits p gp address n q (op.AddrHi l.ra l.rb (far_target l) l.least)) (sym a) half_fits))
          by_case (use_op a v f) =
              let u = is.uses x m v in
              inr
              (subst (λ (y : Op). OpFits p gp address n y.place y.kind) (sym f ∙ e)
              (subst (λ (k : OpKind). OpFits p gp address n x.place (use_kind l k)) (sym u.plain) (use_fits x u m a v)))
          by_case (same_op a v f) = inl (subst (λ (y : Op). Has (ops_of b) y) (sym f ∙ e) m)

  pub far_fits : OpsFit p gp address new
  far_fits =
      all_fit p gp address prog g new of then b n one (far_change l) in_place words lows highs
      (λ o ra rb t z h k m. subst (λ (x : Op). Has (ops_of n) x) (high_stays o ra rb t z h k) (made_op p prog l b n is made order o h))
      (λ o ra rb t z y h k m. takes_old p prog l b n is made order o.place y (other_place o ra rb t z h k) m) each_fits fits
    where
      lows : (w : Word) (i : Instr) (hi : Place) (t : Target) → Has (block_words b) w → w.act ≡ act.UseLo i hi t → far_change l w ≡ Some w
      lows w i hi t h k = word_stays w h (λ e. unlike (sym k ∙ e)) (λ j e. no_plain j (sym k ∙ e))
        where
          unlike : act.UseLo i hi t ≡ act.Lit l.ra l.rb (far_target l) → ⊥
          unlike e = cc

          no_plain : (j : Instr) → act.UseLo i hi t ≡ act.Plain j → ⊥
          no_plain j e = cc

      highs : (w : Word) (ra rb : ℕ) (t : Target) → Has (block_words b) w → w.act ≡ act.AddrHi ra rb t → IsNamed n w.at → far_change l w ≡ Some w
      highs w ra rb t h k m = word_stays w h (λ e. unlike (sym k ∙ e)) (λ j e. no_plain j (sym k ∙ e))
        where
          unlike : act.AddrHi ra rb t ≡ act.Lit l.ra l.rb (far_target l) → ⊥
          unlike e = cc

          no_plain : (j : Instr) → act.AddrHi ra rb t ≡ act.Plain j → ⊥
          no_plain j e = cc
