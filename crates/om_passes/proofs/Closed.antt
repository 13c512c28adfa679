-- A pair of the program that is closed is closed among the kept words too, where both halves are kept.
use Rattle.std.proofs.Common.{◌≡◌, ◌⊎◌, inl, inr, ◌<◌, ◌≤◌, ◌+◌, ◌==◌, ℕ, Bool, true, false, cond, List, [], ◌∷◌, ◌++◌, refl, sym, ap, ◌∙◌, subst, arith}
use Rattle.std.specs.Prelude.{ℤ}
use Rattle.std.proofs.lemmas.Bool.{eqb-true}
use Rattle.om_alpha.specs.declared.op.AluOp.{AluOp}
use Rattle.om_alpha.specs.declared.op.AluOp.TheVariants.{Sextb, Sextw}
use Rattle.om_isa.specs.declared.instr.Access.{Access}
use Rattle.om_isa.specs.declared.instr.Access.TheVariants.{Address, Load, Store}
use Rattle.om_isa.specs.declared.instr.Opnd.TheVariants.{R, Lit as Literal}
use Rattle.om_isa.specs.declared.instr.Instr.{Instr}
use Rattle.om_isa.specs.declared.instr.Instr.TheVariants.{Mem, Jump, Branch, Alu, Cmov, Misc, Fnop, Halt, Callsys}
use Rattle.om_isa.specs.Registers.{access_of, memory_reads, alu_reads, regs_read}
use Rattle.om_value.specs.declared.value.Place.{Place}
use Rattle.om_value.specs.declared.value.Target.{Target}
use Rattle.om_value.specs.declared.value.Target.TheVariants as target
use Rattle.om_prog.specs.Act as act
use Rattle.om_prog.specs.Act.{Act, Word, act_reads, base_of, used_reads, stored_reads}
use Rattle.om_prog.specs.Flow.{Among}
use Rattle.om_prog.specs.View.{ProgramView}
use Rattle.om_prog.specs.Valid.{IsProgram}
use Rattle.om_graph.specs.View.{Block, Shape, GraphView, Has, InPlaceOrder, place_lt}
use Rattle.om_graph.specs.Held.{label_list}
use Rattle.om_graph.specs.Run.{block_words, shape_words}
use Rattle.om_graph.specs.Form.{Ordered, text_size}
use Rattle.om_graph.specs.LeftIn.{is_kept}
use Rattle.om_graph.specs.Lifted.{lifted_shapes}
use Rattle.om_graph.specs.OfProgram.{IsForm, as_was, near, number, far, by_gp, by_high, byte, called, direct, IsBlockOf, IsGraphOf}
use Rattle.om_graph.specs.Uses.{Between, NoneReads, NoneWrites, IsBaseUse, with_literal, IsClosedPair}
use Rattle.om_graph.proofs.Labels.{has_append, has_label, equal_places}
use Rattle.om_graph.proofs.OfProgram.{words_in_place}
use Rattle.om_graph.proofs.Itself.{unique}
use Rattle.om_graph.specs.Left.{high_word}
use Rattle.om_graph.specs.Stands.{IsClosedIn, HasStandingBase, IsIdle, BasesStand}
use Rattle.om_passes.proofs.Origins.{KeptAs, kept_at, not_before, compared, lt_true}
use Rattle.om_passes.proofs.Betweens.{assoc, first_in, mid_in, last_in, first_before, before_last, ends_apart, in_mid, before_has}
use Rattle.om_passes.proofs.Locals.{source_ordered, block_ordered, block_object}
use Rattle.om_passes.proofs.Sources.{SourceIn, source_in, source_object, kept_unwritten, same_fields, not_both}

-- ---- lists

has_pieces : (ws : List Word) (a : Word) → Has ws a → (before after : List Word) × (ws ≡ before ++ a ∷ after)
has_pieces [] a h = absurd h
has_pieces (w ∷ ws) a (inl e) = ([], ws, ap (λ (x : Word). x ∷ ws) e)
has_pieces (w ∷ ws) a (inr h) = let r = has_pieces ws a h in (w ∷ r.0, r.1, ap (λ (l : List Word). w ∷ l) r.2)

-- of two words of a list in order one stands behind the other
pub between_of :
    (ws : List Word) (a b : Word) → Ordered ws → ((x y : Word) → Has ws x → Has ws y → x.at.obj ≡ y.at.obj) → Has ws a → Has ws b → a.at.off < b.at.off →
    (mid : List Word) × Between ws a mid b
between_of ws a b o same ha hb l = by_place (has_append r.0 (a ∷ r.1) b (subst (λ (k : List Word). Has k b) r.2 hb))
  where
    r : (before after : List Word) × (ws ≡ before ++ a ∷ after)
    r = has_pieces ws a ha

    by_place : Has r.0 b ⊎ Has (a ∷ r.1) b → (mid : List Word) × Between ws a mid b
    by_place (inl h) =
        let k = before_has r.0 r.1 b a (subst (λ (k : List Word). Ordered k) r.2 o) h (same a b ha hb) in
        absurd (omega (arith, k, l))
    by_place (inr (inl e)) = let f = ap (λ (w : Word). w.at.off) e in absurd (omega (arith, f, l))
    by_place (inr (inr h)) =
        let m = has_pieces r.1 b h in
        (m.0, (r.0, m.1, r.2 ∙ ap (λ (k : List Word). r.0 ++ a ∷ k) m.2 ∙ sym (assoc r.0 (a ∷ m.0) (b ∷ m.1))))

pub one_block : (bs : List Block) (b d : Block) → InPlaceOrder (label_list bs) → Has bs b → Has bs d → b.label ≡ d.label → b ≡ d
one_block [] b d o h i e = absurd h
one_block (x ∷ bs) b d o (inl h) (inl i) e = sym h ∙ i
one_block (x ∷ bs) b d o (inl h) (inr i) e =
    absurd (not_before d.label (subst (λ (q : Place). place_lt q d.label ≡ true) (ap (λ (y : Block). y.label) h ∙ e) (o.0 d.label (has_label bs d i))))
one_block (x ∷ bs) b d o (inr h) (inl i) e =
    absurd (not_before b.label (subst (λ (q : Place). place_lt q b.label ≡ true) (ap (λ (y : Block). y.label) i ∙ sym e) (o.0 b.label (has_label bs b h))))
one_block (x ∷ bs) b d o (inr h) (inr i) e = one_block bs b d o.1 h i e

-- ---- what forms read

stored_less : (a : Access) (ra rb r : ℕ) → Among (stored_reads a ra) r → Among (memory_reads a ra rb) r
stored_less Store ra rb r (inl e) = inl e
stored_less Store ra rb r (inr h) = absurd h
stored_less Load ra rb r h = absurd h
stored_less Address ra rb r h = absurd h

used_less : (i : Instr) (r : ℕ) → Among (used_reads i) r → Among (regs_read i) r
used_less (Mem o ra rb d) r h = stored_less (access_of o) ra rb r h
used_less (Jump k ra rb d) r h = absurd h
used_less (Branch o ra d) r h = absurd h
used_less (Alu o ra rb rc) r h = absurd h
used_less (Cmov k ra rb rc) r h = absurd h
used_less (Misc o ra rb) r h = absurd h
used_less Fnop r h = absurd h
used_less Halt r h = absurd h
used_less Callsys r h = absurd h

alu_less : (o : AluOp) (ra r : ℕ) (rest : List ℕ) → Among (alu_reads o ra []) r → Among (alu_reads o ra rest) r
alu_less Sextb ra r rest h = absurd h
alu_less Sextw ra r rest h = absurd h
alu_less o ra r rest (inl e) = inl e
alu_less o ra r rest (inr h) = absurd h

literal_less : (n : ℕ) (i : Instr) (r : ℕ) → Among (regs_read (with_literal n i)) r → Among (regs_read i) r
literal_less n (Mem o ra rb d) r h = h
literal_less n (Jump k ra rb d) r h = h
literal_less n (Branch o ra d) r h = h
literal_less n (Alu o ra (R rb) rc) r h = alu_less o ra r (rb ∷ []) h
literal_less n (Alu o ra (Literal m) rc) r h = h
literal_less n (Cmov k ra rb rc) r h = h
literal_less n (Misc o ra rb) r h = h
literal_less n Fnop r h = h
literal_less n Halt r h = h
literal_less n Callsys r h = h

base_is : (r : ℕ) (i : Instr) (z : ℤ) → IsBaseUse r i z → base_of i ≡ r
base_is r (Mem o ra rb d) z b = b.0
base_is r (Jump k ra rb d) z b = absurd b
base_is r (Branch o ra d) z b = absurd b
base_is r (Alu o ra rb rc) z b = absurd b
base_is r (Cmov k ra rb rc) z b = absurd b
base_is r (Misc o ra rb) z b = absurd b
base_is r Fnop z b = absurd b
base_is r Halt z b = absurd b
base_is r Callsys z b = absurd b

-- a word reads what its word of the program read, or a global pointer, or nothing that counts
abbrev pub ReadsBy : Word → Act → ℕ → Type 0
ReadsBy w a r = Among (act_reads w.act) r ⊎ (((i : Instr) × (t : Target) × (a ≡ act.UseGp i r t)) ⊎ IsIdle a)

load_reads : (w : Word) (a : Act) (ra rb r : ℕ) (t : Target) → w.act ≡ act.Lit ra rb t → (ra ≡ 31 → IsIdle a) → Among (rb ∷ []) r → ReadsBy w a r
load_reads w a ra rb r t e idle h = by_test (ra == 31) refl
  where
    by_test : (b : Bool) → (ra == 31) ≡ b → ReadsBy w a r
    by_test true s = inr (inr (idle (eqb-true ra 31 s)))
    by_test false s = inl (subst (λ (x : Act). Among (act_reads x) r) (sym e) (subst (λ (b : Bool). Among (cond b [] (rb ∷ [])) r) (sym s) h))

pub form_reads : (p : ProgramView) (ws : List Word) (w : Word) (a : Act) (r : ℕ) → IsForm p ws w a → (r ≡ 31 → ⊥) → Among (act_reads a) r → ReadsBy w a r
form_reads p ws w a r (as_was e) n h = inl (subst (λ (x : Act). Among (act_reads x) r) e h)
form_reads p ws w a r (near ra rb x t l e) n h =
    load_reads w a ra rb r (target.Ptr t x) l (λ k. subst (λ (y : Act). IsIdle y) (sym e) k) (subst (λ (y : Act). Among (act_reads y) r) e h)
form_reads p ws w a r (number ra rb m l e) n h = absurd (never (subst (λ (y : Act). Among (act_reads y) r) e h))
  where
    never : Among (31 ∷ []) r → ⊥
    never (inl k) = n (sym k)
    never (inr k) = k
form_reads p ws w a r (far ra rb x t l e) n h =
    load_reads w a ra rb r (target.Ptr t x) l (λ k. subst (λ (y : Act). IsIdle y) (sym e) k) (subst (λ (y : Act). Among (act_reads y) r) e h)
form_reads p ws w a r (by_gp load rc rb x t i z u l s b e) n h = by_reg (subst (λ (y : Act). Among (act_reads y) r) e h)
  where
    by_reg : Among (rb ∷ used_reads i) r → ReadsBy w a r
    by_reg (inl k) = inr (inl (i, target.Ptr t x, e ∙ ap (λ (m : ℕ). act.UseGp i m (target.Ptr t x)) k))
    by_reg (inr k) = inl (subst (λ (y : Act). Among (act_reads y) r) (sym s) (used_less i r k))
form_reads p ws w a r (by_high load rc rb x t i z u l s b e) n h = by_reg (subst (λ (y : Act). Among (act_reads y) r) e h)
  where
    by_reg : Among (base_of i ∷ used_reads i) r → ReadsBy w a r
    by_reg (inl k) = inl (subst (λ (m : ℕ). Among (act_reads w.act) m) (sym (base_is rc i z b) ∙ k) u.reads)
    by_reg (inr k) = inl (subst (λ (y : Act). Among (act_reads y) r) (sym s) (used_less i r k))
form_reads p ws w a r (byte load rc rb x t i u l s b e) n h =
    inl (subst (λ (y : Act). Among (act_reads y) r) (sym s) (literal_less _ i r (subst (λ (y : Act). Among (act_reads y) r) e h)))
form_reads p ws w a r (called ra q to s c e) n h = absurd (subst (λ (y : Act). Among (act_reads y) r) e h)
form_reads p ws w a r (direct ra q to k c e) n h = absurd (subst (λ (y : Act). Among (act_reads y) r) e h)

-- ---- halves stay as they were

pub high_form : (p : ProgramView) (ws : List Word) (w : Word) (a : Act) (ra rb : ℕ) (base : Place) → IsForm p ws w a → w.act ≡ act.GpHi ra rb base → a ≡ act.GpHi ra rb base
high_form p ws w a ra rb base (as_was e) h = e ∙ h
high_form p ws w a ra rb base (near rc rd x r l e) h = cc
high_form p ws w a ra rb base (number rc rd n l e) h = cc
high_form p ws w a ra rb base (far rc rd x r l e) h = cc
high_form p ws w a ra rb base (by_gp load r rd x region i z u l s b e) h = cc
high_form p ws w a ra rb base (by_high load r rd x region i z u l s b e) h = cc
high_form p ws w a ra rb base (byte load r rd x region i u l s b e) h = cc
high_form p ws w a ra rb base (called rc q to s c e) h = cc
high_form p ws w a ra rb base (direct rc q to k c e) h = let j = k.jumps in cc

pub low_form : (p : ProgramView) (ws : List Word) (w : Word) (a : Act) (ra rb : ℕ) (hi : Place) → IsForm p ws w a → w.act ≡ act.GpLo ra rb hi → a ≡ act.GpLo ra rb hi
low_form p ws w a ra rb hi (as_was e) h = e ∙ h
low_form p ws w a ra rb hi (near rc rd x r l e) h = cc
low_form p ws w a ra rb hi (number rc rd n l e) h = cc
low_form p ws w a ra rb hi (far rc rd x r l e) h = cc
low_form p ws w a ra rb hi (by_gp load r rd x region i z u l s b e) h = cc
low_form p ws w a ra rb hi (by_high load r rd x region i z u l s b e) h = cc
low_form p ws w a ra rb hi (byte load r rd x region i u l s b e) h = cc
low_form p ws w a ra rb hi (called rc q to s c e) h = cc
low_form p ws w a ra rb hi (direct rc q to k c e) h = let j = k.jumps in cc

abbrev pub low_word : Place → Place → Word
low_word hi lo = record { at = lo; act = act.GpLo 29 29 hi }

-- a closed pair among the kept words of a block
pub record ClosedKept (p : ProgramView) (g : GraphView) (s : Shape) (hi lo : Place) : Type 0 where
  pub block : Block
  pub among : Has g.blocks block
  pub of : IsBlockOf p s block
  pub pair : IsClosedPair g block hi lo

module _ (p : ProgramView) (prog : IsProgram p) (g : GraphView) (of : IsGraphOf p g) (bases : BasesStand p g) where
  module _ (s : Shape) (hs : Has (lifted_shapes p) s) (hi lo : Place) (c : IsClosedIn p s hi lo) (b : Block) (hb : Has g.blocks b) (k : IsBlockOf p s b)
      (hh : Has (block_words b) (high_word hi c.rb c.base)) (hl : Has (block_words b) (low_word hi lo)) where
    abbrev high : Word
    high = high_word hi c.rb c.base

    abbrev low : Word
    low = low_word hi lo

    in_order : Ordered (shape_words s)
    in_order = source_ordered p prog g of s hs

    stands : (mid : List Word) × Between (block_words b) high mid low
    stands =
        let e = ends_apart (shape_words s) high c.mid low c.stands in_order (source_object p prog g of s hs) in
        between_of (block_words b) high low (block_ordered p prog g of b hb) (block_object p prog g of b hb) hh hl (omega (arith, e))

    abbrev mid_words : List Word
    mid_words = stands.0

    behind : (v : Word) → Has mid_words v → hi.off + 4 ≤ v.at.off
    behind v h = first_before (block_words b) high stands.0 low stands.1 (block_ordered p prog g of b hb) (block_object p prog g of b hb) v h

    ahead : (v : Word) → Has mid_words v → v.at.off + 4 ≤ lo.off
    ahead v h = before_last (block_words b) high stands.0 low stands.1 (block_ordered p prog g of b hb) (block_object p prog g of b hb) v h

    there : (v : Word) → Has mid_words v → Has (block_words b) v
    there v h = mid_in (block_words b) high stands.0 low stands.1 v h

    unwritten : NoneWrites 29 mid_words
    unwritten = kept_unwritten p prog g of s b high low high low c.mid stands.0 29 hs k hb c.stands stands.1 refl refl c.unwritten

    -- no use over r29 stands between
    no_gp : (v : Word) (i : Instr) (t : Target) → Has mid_words v → v.act ≡ act.UseGp i 29 t → ⊥
    no_gp v i t h e = by_order (compared d.load.at.off hi.off)
      where
        d : HasStandingBase s b v.at 29
        d = bases.uses b s v i 29 t hb hs k.label (there v h) e

        load_in : Has (shape_words s) d.load
        load_in = first_in (shape_words s) d.load d.local.mid d.user d.local.stands

        before_user : d.load.at.off + 4 ≤ d.user.at.off
        before_user = ends_apart (shape_words s) d.load d.local.mid d.user d.local.stands in_order (source_object p prog g of s hs)

        high_in : Has (shape_words s) high
        high_in = first_in (shape_words s) high c.mid low c.stands

        same_object : d.load.at.obj ≡ hi.obj
        same_object = source_object p prog g of s hs d.load high load_in high_in

        reads_gp : Among (act_reads d.load.act) 29
        reads_gp = subst (λ (x : Act). Among (act_reads x) 29) (sym d.loads) (by_test (d.reg == 31) refl)
          where
            by_test : (t : Bool) → (d.reg == 31) ≡ t → Among (cond t [] (29 ∷ [])) 29
            by_test true e = absurd (d.local.register (eqb-true d.reg 31 e))
            by_test false e = inl refl

        user_place : d.user.at.off ≡ v.at.off
        user_place = ap (λ (q : Place). q.off) d.place

        by_order : (d.load.at.off < hi.off) ⊎ ((hi.off < d.load.at.off) ⊎ (d.load.at.off ≡ hi.off)) → ⊥
        by_order (inl l) =
            let f = behind v h in
            d.unwritten (λ e. omega (arith, e)) high hh (lt_true d.load.at hi same_object l)
            (lt_true hi v.at (block_object p prog g of b hb high v hh (there v h)) (omega (arith, f))) (inl refl)
        by_order (inr (inl l)) =
            let f = ahead v h in
            let x = before_user in
            let y = user_place in
            c.unread d.load (in_mid (shape_words s) high c.mid low c.stands in_order (source_object p prog g of s hs) d.load load_in l (omega (arith, f, x, y))) reads_gp
        by_order (inr (inr e)) =
            let q = equal_places d.load.at hi same_object e in
            let w = unique (shape_words s) high d.load in_order high_in load_in q in
            let a = ap (λ (x : Word). x.act) w in
            let m = d.loads in
            cc

    unread : NoneReads 29 mid_words
    unread v h r = by_reads (form_reads p (shape_words s) q.word v.act 29 q.form (λ e. omega (arith, e)) r)
      where
        q : SourceIn p prog g of s v
        q = source_in p prog g of s b v hs k hb (there v h)

        by_reads : ReadsBy q.word v.act 29 → ⊥
        by_reads (inl a) =
            let x = behind v h in
            let y = ahead v h in
            let z = ap (λ (o : Place). o.off) q.place in
            c.unread q.word (in_mid (shape_words s) high c.mid low c.stands in_order (source_object p prog g of s hs) q.word q.has (omega (arith, x, z)) (omega (arith, y, z))) a
        by_reads (inr (inl (i, t, e))) = no_gp v i t h e
        by_reads (inr (inr e)) =
            let m : v.at.off + 4 ≡ text_size g v.at.obj = bases.idle b v hb (there v h) e in
            let o = ap (λ (n : ℕ). text_size g n) (block_object p prog g of b hb v low (there v h) hl) in
            let n = ((words_in_place p prog g of).words b low hb hl).inside in
            let y = ahead v h in
            omega (arith, m, o, n, y)

    pub closed_pair : IsClosedPair g b hi lo
    closed_pair = record {
      rb = c.rb;
      base = c.base;
      mid = stands.0;
      stands = stands.1;
      unread = unread;
      unwritten = unwritten;
      high_stays = λ e. not_both p g of hi e c.high_stays;
      low_stays = λ e. not_both p g of lo e c.low_stays;
    }

  -- where both halves are kept the pair is closed
  pub closed_kept : (s : Shape) → Has (lifted_shapes p) s → (hi lo : Place) → IsClosedIn p s hi lo → is_kept g hi ≡ true → is_kept g lo ≡ true → ClosedKept p g s hi lo
  closed_kept s hs hi lo c kh kl = record {
    block = a.block;
    among = a.among;
    of = a.of;
    pair = closed_pair s hs hi lo c a.block a.among a.of (subst (λ (w : Word). Has (block_words a.block) w) high_same a.has)
        (subst (λ (w : Word). Has (block_words a.block) w) low_same (subst (λ (x : Block). Has (block_words x) d.word) block_same d.has));
  }
    where
      a : KeptAs p g s (high_word hi c.rb c.base)
      a = kept_at p prog g of s (high_word hi c.rb c.base) hs (first_in (shape_words s) (high_word hi c.rb c.base) c.mid (low_word hi lo) c.stands) kh

      d : KeptAs p g s (low_word hi lo)
      d = kept_at p prog g of s (low_word hi lo) hs (last_in (shape_words s) (high_word hi c.rb c.base) c.mid (low_word hi lo) c.stands) kl

      block_same : d.block ≡ a.block
      block_same = one_block g.blocks d.block a.block of.graph.blocks d.among a.among (d.of.label ∙ sym a.of.label)

      high_same : a.word ≡ high_word hi c.rb c.base
      high_same = same_fields a.word hi (act.GpHi 29 c.rb c.base) a.place (high_form p (shape_words s) (high_word hi c.rb c.base) a.word.act 29 c.rb c.base a.form refl)

      low_same : d.word ≡ low_word hi lo
      low_same = same_fields d.word lo (act.GpLo 29 29 hi) d.place (low_form p (shape_words s) (low_word hi lo) d.word.act 29 29 hi d.form refl)
