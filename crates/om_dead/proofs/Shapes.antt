-- The ops of a block from its last one on, and the registers that may be read in front of them.
use Rattle.std.proofs.Common.{◌≡◌, ◌≢◌, ◌⊎◌, inl, inr, ◌<◌, ◌≤◌, ◌^◌, ◌==◌, ℕ, Bool, true, false, cond, not, ◌&&◌, ◌||◌, List, [], ◌∷◌, ◌++◌, Option, Some, None, refl, sym, ap, ◌∙◌, subst, arith}
use Rattle.std.specs.Prelude.{◌↔◌, ◌-◌, max, min, map, filter}
use Rattle.std.specs.Int.{bit_at, bit_not, w32}
use Rattle.std.specs.Int.Bits.{bit_and, bit_or}
use Rattle.std.proofs.lemmas.Bool.{true≢false, eq-eqb}
use Rattle.std.proofs.lemmas.Nat.Bits.{bit_at_and, bit_at_or, bit_at_not, bit_at-lt, bit_at-zero, bit_at_above, same_from_bits}
use Rattle.om_isa.specs.declared.instr.Instr.{Instr}
use Rattle.om_isa.specs.declared.instr.Instr.TheVariants.{Mem, Jump, Branch, Alu, Cmov, Misc, Fnop, Halt, Callsys}
use Rattle.om_isa.specs.Registers.{mask_of, regs_written}
use Rattle.om_isa.proofs.Masks.{bits_of_mask}
use Rattle.om_value.specs.declared.value.Target.{Target}
use Rattle.om_prog.specs.Act as act
use Rattle.om_prog.specs.Act.{Word, base_of, used_reads, act_reads, act_writes}
use Rattle.om_prog.specs.Flow.{Among}
use Rattle.om_prog.specs.Facts.{has}
use Rattle.om_flow.proofs.Spreading.{same_or_not}
use Rattle.om_flow.proofs.Among.{below_or_not}
use Rattle.om_graph.specs.declared.op.Op.{Op}
use Rattle.om_graph.specs.declared.op.OpKind.{OpKind}
use Rattle.om_graph.specs.declared.op.OpKind.TheVariants as op
use Rattle.om_graph.specs.declared.op.Last.{Last}
use Rattle.om_graph.specs.declared.op.Last.TheVariants as last
use Rattle.om_graph.specs.View.{Node, Block, GraphView, Has, ops_of, is_node}
use Rattle.om_graph.specs.Held.{Apart, node_ids}
use Rattle.om_graph.specs.Run.{op_act, op_word, use_of, target_at, cond_act, last_words, block_words, rev_onto}
use Rattle.om_graph.specs.Form.{LastForm, is_address}
use Rattle.om_graph.specs.Checks.{live_in}
use Rattle.om_graph.specs.Uses.{IsTextsLast}
use Rattle.om_passes.proofs.Parted.{is_false, filter_none}
use Rattle.om_blocks.specs.Effects.{kind_reads, kind_writes}
use Rattle.om_blocks.proofs.Doing.{bit_is}
use Rattle.om_blocks.proofs.Walking.{assoc, not_same}
use Rattle.om_live.specs.Outs.{HasBits}
use Rattle.om_dead.specs.Sweeps.{kind_address, live_over_last, live_over_ops, MayGo, HasToStay}

-- ---- what words read and write is what their ops do

reads_of : (os : List Op) (k : OpKind) → (op_act os k ≡ act.Wrong → ⊥) → act_reads (op_act os k) ≡ kind_reads k
reads_of os (op.Plain i) right = refl
reads_of os (op.Lit ra rb t) right = refl
reads_of os (op.AddrLda ra rb t) right = refl
reads_of os (op.AddrHi ra rb t least) right = refl
reads_of os (op.UseLo i hi) right = by_target (target_at os hi) right
  where
    by_target : (z : Option Target) → (use_of i hi z ≡ act.Wrong → ⊥) → act_reads (use_of i hi z) ≡ base_of i ∷ used_reads i
    by_target None right = absurd (right refl)
    by_target (Some t) right = refl
reads_of os (op.UseGp i gp t) right = refl
reads_of os (op.GpHi ra rb base) right = refl
reads_of os (op.GpLo ra rb hi) right = refl

writes_of : (os : List Op) (k : OpKind) → (op_act os k ≡ act.Wrong → ⊥) → act_writes (op_act os k) ≡ kind_writes k
writes_of os (op.Plain i) right = refl
writes_of os (op.Lit ra rb t) right = refl
writes_of os (op.AddrLda ra rb t) right = refl
writes_of os (op.AddrHi ra rb t least) right = refl
writes_of os (op.UseLo i hi) right = by_target (target_at os hi) right
  where
    by_target : (z : Option Target) → (use_of i hi z ≡ act.Wrong → ⊥) → act_writes (use_of i hi z) ≡ regs_written i
    by_target None right = absurd (right refl)
    by_target (Some t) right = refl
writes_of os (op.UseGp i gp t) right = refl
writes_of os (op.GpHi ra rb base) right = refl
writes_of os (op.GpLo ra rb hi) right = refl

-- an address op is one as a word, and writes one register
pub address_word : (os : List Op) (k : OpKind) → kind_address k ≡ true → is_address (op_act os k) ≡ true
address_word os (op.Plain i) h = absurd (true≢false (sym h))
address_word os (op.Lit ra rb t) h = refl
address_word os (op.AddrLda ra rb t) h = refl
address_word os (op.AddrHi ra rb t least) h = refl
address_word os (op.UseLo i hi) h = absurd (true≢false (sym h))
address_word os (op.UseGp i gp t) h = absurd (true≢false (sym h))
address_word os (op.GpHi ra rb base) h = refl
address_word os (op.GpLo ra rb hi) h = refl

pub word_address : (os : List Op) (k : OpKind) → is_address (op_act os k) ≡ true → kind_address k ≡ true
word_address os (op.Plain i) h = h
word_address os (op.Lit ra rb t) h = refl
word_address os (op.AddrLda ra rb t) h = refl
word_address os (op.AddrHi ra rb t least) h = refl
word_address os (op.UseLo i hi) h = by_target (target_at os hi) h
  where
    by_target : (z : Option Target) → is_address (use_of i hi z) ≡ true → false ≡ true
    by_target None h = h
    by_target (Some t) h = h
word_address os (op.UseGp i gp t) h = h
word_address os (op.GpHi ra rb base) h = refl
word_address os (op.GpLo ra rb hi) h = refl

pub one_written : (k : OpKind) → kind_address k ≡ true → (ra : ℕ) × (kind_writes k ≡ ra ∷ [])
one_written (op.Plain i) h = absurd (true≢false (sym h))
one_written (op.Lit ra rb t) h = (ra, refl)
one_written (op.AddrLda ra rb t) h = (ra, refl)
one_written (op.AddrHi ra rb t least) h = (ra, refl)
one_written (op.UseLo i hi) h = absurd (true≢false (sym h))
one_written (op.UseGp i gp t) h = absurd (true≢false (sym h))
one_written (op.GpHi ra rb base) h = (ra, refl)
one_written (op.GpLo ra rb hi) h = (ra, refl)

pub address_writes : (os : List Op) (k : OpKind) → kind_address k ≡ true → act_writes (op_act os k) ≡ kind_writes k
address_writes os (op.Plain i) h = absurd (true≢false (sym h))
address_writes os (op.Lit ra rb t) h = refl
address_writes os (op.AddrLda ra rb t) h = refl
address_writes os (op.AddrHi ra rb t least) h = refl
address_writes os (op.UseLo i hi) h = absurd (true≢false (sym h))
address_writes os (op.UseGp i gp t) h = absurd (true≢false (sym h))
address_writes os (op.GpHi ra rb base) h = refl
address_writes os (op.GpLo ra rb hi) h = refl

-- ---- what may be read in front of the words of ops

last_live : (l : Last) → LastForm l → (out : ℕ → Bool) (r : ℕ) → live_in (last_words l) out r ≡ live_over_last l out r
last_live last.Fall f out r = refl
last_live last.Off f out r = refl
last_live (last.Br at o ra to) f out r = refl
last_live (last.Call at o ra to) f out r = refl
last_live (last.CallBy at i) f out r = refl
last_live (last.JumpBy at i) f out r = refl
last_live (last.Cond at (Branch o ra d) to) f out r = refl
last_live (last.Cond at (Mem o ra rb d) to) f out r = absurd f
last_live (last.Cond at (Jump k ra rb h) to) f out r = absurd f
last_live (last.Cond at (Alu o ra rb rc) to) f out r = absurd f
last_live (last.Cond at (Cmov k ra rb rc) to) f out r = absurd f
last_live (last.Cond at (Misc o ra rb) to) f out r = absurd f
last_live (last.Cond at Fnop to) f out r = absurd f
last_live (last.Cond at Halt to) f out r = absurd f
last_live (last.Cond at Callsys to) f out r = absurd f

-- the words of ops, and of the last word of their block
abbrev pub words_from : List Op → List Node → Last → List Word
words_from os ns l = map (op_word os) (map (λ (n : Node). n.op) ns) ++ last_words l

pub ops_live :
    (os : List Op) (ns : List Node) (l : Last) (out : ℕ → Bool) (r : ℕ) → LastForm l →
    ((n : Node) → Has ns n → op_act os n.op.kind ≡ act.Wrong → ⊥) →
    live_in (words_from os ns l) out r ≡ live_over_ops ns (live_over_last l out) r
ops_live os [] l out r f right = last_live l f out r
ops_live os (n ∷ ns) l out r f right =
    let a = reads_of os n.op.kind (right n (inl refl)) in
    let b = writes_of os n.op.kind (right n (inl refl)) in
    let i = ops_live os ns l out r f (λ m h. right m (inr h)) in
    ap (λ (rs : List ℕ). has rs r || (not (has (act_writes (op_act os n.op.kind)) r) && live_in (words_from os ns l) out r)) a
    ∙ ap (λ (rs : List ℕ). has (kind_reads n.op.kind) r || (not (has rs r) && live_in (words_from os ns l) out r)) b
    ∙ ap (λ (t : Bool). has (kind_reads n.op.kind) r || (not (has (kind_writes n.op.kind) r) && t)) i

-- less behind words is less in front of them
pub live_less : (ws : List Word) (out less : ℕ → Bool) (r : ℕ) → (less r ≡ true → out r ≡ true) → live_in ws out r ≡ false → live_in ws less r ≡ false
live_less [] out less r f e = is_false (less r) (λ t. true≢false (sym (f t) ∙ e))
live_less (w ∷ ws) out less r f e = by_bits (has (act_reads w.act) r) (has (act_writes w.act) r) e (live_less ws out less r f)
  where
    by_bits : (a b : Bool) → (a || (not b && live_in ws out r)) ≡ false → (live_in ws out r ≡ false → live_in ws less r ≡ false) → (a || (not b && live_in ws less r)) ≡ false
    by_bits true b e i = absurd (true≢false e)
    by_bits false true e i = refl
    by_bits false false e i = i e

-- ---- bits

-- what may be read in front of something, where `live` may be read behind it
abbrev pub in_front : ℕ → ℕ → ℕ → ℕ
in_front reads writes live = bit_or reads (bit_and live (bit_not w32 writes))

pub bits_in_front :
    (rs ws : List ℕ) (reads writes live : ℕ) (out : ℕ → Bool) → reads ≡ mask_of rs → writes ≡ mask_of ws → writes < 2 ^ 32 → HasBits live out →
    HasBits (in_front reads writes live) (λ r. has rs r || (not (has ws r) && out r))
bits_in_front rs ws reads writes live out a b small is r l = by_bits (has rs r) (has ws r) (out r) read written (is r l)
  where
    read : bit_at reads r ≡ cond (has rs r) 1 0
    read = ap (λ (n : ℕ). bit_at n r) a ∙ bit_is rs r l

    written : bit_at (bit_not w32 writes) r ≡ 1 - cond (has ws r) 1 0
    written = bit_at_not w32 writes r small (omega (arith, l)) ∙ ap (λ (n : ℕ). 1 - n) (ap (λ (n : ℕ). bit_at n r) b ∙ bit_is ws r l)

    all : bit_at (in_front reads writes live) r ≡ max (bit_at reads r) (min (bit_at live r) (bit_at (bit_not w32 writes) r))
    all = bit_at_or reads (bit_and live (bit_not w32 writes)) r ∙ ap (λ (n : ℕ). max (bit_at reads r) n) (bit_at_and live (bit_not w32 writes) r)

    by_bits :
        (a b o : Bool) → bit_at reads r ≡ cond a 1 0 → bit_at (bit_not w32 writes) r ≡ 1 - cond b 1 0 → (bit_at live r ≡ 1) ↔ (o ≡ true) →
        (bit_at (in_front reads writes live) r ≡ 1) ↔ ((a || (not b && o)) ≡ true)
    by_bits true b o x y s = (λ e. refl, λ e. let z = bit_at-lt (bit_and live (bit_not w32 writes)) r in omega (arith, all, x, bit_at_or reads (bit_and live (bit_not w32 writes)) r, z))
    by_bits false true o x y s = (λ e. absurd (omega (arith, all, x, y, e)), λ e. cc)
    by_bits false false o x y s = (λ e. s.0 (omega (arith, all, x, y, e, bit_at-lt live r)), λ e. let z = s.1 e in omega (arith, all, x, y, z))

not_live : (live : ℕ) (out : ℕ → Bool) → HasBits live out → (r : ℕ) → r < 31 → bit_at live r ≡ 0 → out r ≡ false
not_live live out is r l z = is_false (out r) (λ e. let o = (is r l).1 e in omega (arith, o, z))

live_not : (live : ℕ) (out : ℕ → Bool) → HasBits live out → (r : ℕ) → r < 31 → out r ≡ false → bit_at live r ≡ 0
live_not live out is r l e = by_case (same_or_not (bit_at live r) 1)
  where
    by_case : (bit_at live r ≡ 1) ⊎ (bit_at live r ≢ 1) → bit_at live r ≡ 0
    by_case (inl o) = absurd (true≢false (sym ((is r l).0 o) ∙ e))
    by_case (inr n) = omega (arith, n, bit_at-lt live r)

-- the register that a small mask of one has
module _ (ra m live : ℕ) (is : m ≡ mask_of (ra ∷ [])) (small : m < 2 ^ 32) where
  own : ra < 31 → bit_at m ra ≡ 1
  own l =
      let t : (ra == ra) ≡ true = eq-eqb ra ra refl in
      ap (λ (n : ℕ). bit_at n ra) is ∙ bit_is (ra ∷ []) ra l ∙ ap (λ (b : Bool). cond (b || false) 1 0) t

  low : ra < 31 ⊎ (31 ≤ ra) → (ra ≡ 31 → ⊥) → ra < 31
  low (inl l) n = l
  low (inr h) n =
      let t : (ra == ra) ≡ true = eq-eqb ra ra refl in
      let f : (ra == 31) ≡ false = not_same ra 31 n in
      let one : bit_at m ra ≡ 1 = ap (λ (x : ℕ). bit_at x ra) is ∙ bits_of_mask (ra ∷ []) ra ∙ (rw (f, t) refl) in
      let none = bit_at_above m 32 ra small (omega (arith, h, n)) in
      absurd (omega (arith, one, none))

  pub below : (ra ≡ 31) ⊎ (ra < 31)
  below = by_case (same_or_not ra 31)
    where
      by_case : (ra ≡ 31) ⊎ (ra ≢ 31) → (ra ≡ 31) ⊎ (ra < 31)
      by_case (inl e) = inl e
      by_case (inr n) = inr (low (below_or_not ra 31) n)

  pub no_bit : bit_and m live ≡ 0 → ra < 31 → bit_at live ra ≡ 0
  no_bit e l =
      let z : bit_at (bit_and m live) ra ≡ 0 = ap (λ (x : ℕ). bit_at x ra) e ∙ bit_at-zero ra in
      let o = own l in
      omega (arith, z, o, bit_at_and m live ra, bit_at-lt live ra)

  other : (i : ℕ) → (ra ≡ i → ⊥) → bit_at m i ≡ 0
  other i n = by_case (below_or_not i 31)
    where
      by_case : (i < 31) ⊎ (31 ≤ i) → bit_at m i ≡ 0
      by_case (inl l) =
          let f : (ra == i) ≡ false = not_same ra i n in
          ap (λ (x : ℕ). bit_at x i) is ∙ bit_is (ra ∷ []) i l ∙ ap (λ (b : Bool). cond (b || false) 1 0) f
      by_case (inr h) = by_31 (same_or_not i 31)
        where
          by_31 : (i ≡ 31) ⊎ (i ≢ 31) → bit_at m i ≡ 0
          by_31 (inl e) = let t : (i == 31) ≡ true = eq-eqb i 31 e in ap (λ (x : ℕ). bit_at x i) is ∙ bits_of_mask (ra ∷ []) i ∙ (rw t refl)
          by_31 (inr n) = bit_at_above m 32 i small (omega (arith, h, n))

  pub no_bits : (ra < 31 → bit_at live ra ≡ 0) → bit_and m live ≡ 0
  no_bits f = same_from_bits (bit_and m live) 0 (λ i. each i (same_or_not ra i))
    where
      each : (i : ℕ) → (ra ≡ i) ⊎ (ra ≢ i) → bit_at (bit_and m live) i ≡ bit_at 0 i
      each i (inr n) = let z = other i n in omega (arith, z, bit_at_and m live i, bit_at-zero i)
      each i (inl e) = by_low i e below
        where
          by_low : (i : ℕ) → ra ≡ i → (ra ≡ 31) ⊎ (ra < 31) → bit_at (bit_and m live) i ≡ bit_at 0 i
          by_low i e (inr l) = let z : bit_at live i ≡ 0 = ap (λ (x : ℕ). bit_at live x) (sym e) ∙ f l in omega (arith, z, bit_at_and m live i, bit_at-zero i)
          by_low i e (inl s) =
              let t : (i == 31) ≡ true = eq-eqb i 31 (sym e ∙ s) in
              let z : bit_at m i ≡ 0 = ap (λ (x : ℕ). bit_at x i) is ∙ bits_of_mask (ra ∷ []) i ∙ (rw t refl) in
              omega (arith, z, bit_at_and m live i, bit_at-zero i)

among_one : (rs : List ℕ) (ra r : ℕ) → rs ≡ ra ∷ [] → Among rs r → ra ≡ r
among_one rs ra r e h = by_case (subst (λ (l : List ℕ). Among l r) e h)
  where
    by_case : Among (ra ∷ []) r → ra ≡ r
    by_case (inl s) = s
    by_case (inr s) = absurd s

-- ---- one op

pub goes :
    (g : GraphView) (o : Op) (m live : ℕ) → kind_address o.kind ≡ true → m ≡ mask_of (kind_writes o.kind) → m < 2 ^ 32 → bit_and m live ≡ 0 → (IsTextsLast g o.place → ⊥) →
    (out : ℕ → Bool) → HasBits live out → MayGo g o out
goes g o m live a e small none stays out is = record { address = a; dead = dead; stays = stays }
  where
    w : (ra : ℕ) × (kind_writes o.kind ≡ ra ∷ [])
    w = one_written o.kind a

    is_one : m ≡ mask_of (w.0 ∷ [])
    is_one = e ∙ ap mask_of w.1

    dead : (r : ℕ) → Among (kind_writes o.kind) r → (r ≡ 31) ⊎ ((r < 31) × (out r ≡ false))
    dead r h = by_case (below w.0 m live is_one small)
      where
        s : w.0 ≡ r
        s = among_one (kind_writes o.kind) w.0 r w.1 h

        by_case : (w.0 ≡ 31) ⊎ (w.0 < 31) → (r ≡ 31) ⊎ ((r < 31) × (out r ≡ false))
        by_case (inl t) = inl (sym s ∙ t)
        by_case (inr l) = inr (subst (λ (x : ℕ). (x < 31) × (out x ≡ false)) s (l, not_live live out is w.0 l (no_bit w.0 m live is_one small none l)))

pub stays_not_address : (g : GraphView) (o : Op) (out : ℕ → Bool) → kind_address o.kind ≡ false → HasToStay g o out
stays_not_address g o out e = record { last = λ r a h d. absurd (true≢false (sym a ∙ e)) }

pub stays_live :
    (g : GraphView) (o : Op) (m live : ℕ) → m ≡ mask_of (kind_writes o.kind) → m < 2 ^ 32 → (bit_and m live ≡ 0 → ⊥) →
    (out : ℕ → Bool) → HasBits live out → HasToStay g o out
stays_live g o m live e small some out is = record { last = last }
  where
    last : (r : ℕ) → kind_address o.kind ≡ true → Among (kind_writes o.kind) r → (r < 31 → out r ≡ false) → IsTextsLast g o.place
    last r a h d =
        let w = one_written o.kind a in
        let s = among_one (kind_writes o.kind) w.0 r w.1 h in
        absurd (some (no_bits w.0 m live (e ∙ ap mask_of w.1) small (λ l. live_not live out is w.0 l (subst (λ (x : ℕ). x < 31 → out x ≡ false) (sym s) d l))))

pub stays_last : (g : GraphView) (o : Op) (out : ℕ → Bool) → IsTextsLast g o.place → HasToStay g o out
stays_last g o out e = record { last = λ r a h d. e }

pub or_turned : (a b : Bool) → (a || b) ≡ (b || a)
or_turned true true = refl
or_turned true false = refl
or_turned false true = refl
or_turned false false = refl

-- ---- lists of ops

pub last_id :
    (ns : List Node) (ids : List ℕ) (o : ℕ) → node_ids ns ≡ ids ++ o ∷ [] → (bs : List Node) × (n : Node) × (ns ≡ bs ++ n ∷ []) × (node_ids bs ≡ ids) × (n.id ≡ o)
last_id [] [] o e = cc
last_id [] (i ∷ ids) o e = cc
last_id (m ∷ []) [] o e = let s : m.id ≡ o = cc in ([], m, refl, refl, s)
last_id (m ∷ n ∷ ns) [] o e = cc
last_id (m ∷ ns) (i ∷ ids) o e =
    let s : m.id ≡ i = cc in
    let t : node_ids ns ≡ ids ++ o ∷ [] = cc in
    let r = last_id ns ids o t in
    (m ∷ r.0, r.1, ap (λ (l : List Node). m ∷ l) r.2, ap (λ (l : List ℕ). m.id ∷ l) r.3 ∙ ap (λ (j : ℕ). j ∷ ids) s, r.4)

pub none_of : (ns : List Node) → node_ids ns ≡ [] → ns ≡ []
none_of [] e = refl
none_of (n ∷ ns) e = cc

ids_both : (xs ys : List Node) → node_ids (xs ++ ys) ≡ node_ids xs ++ node_ids ys
ids_both [] ys = refl
ids_both (x ∷ xs) ys = ap (λ (l : List ℕ). x.id ∷ l) (ids_both xs ys)

id_in : (ns : List Node) (n : Node) → Has ns n → Has (node_ids ns) n.id
id_in [] n k = k
id_in (y ∷ ns) n (inl k) = inl (ap (λ (z : Node). z.id) k)
id_in (y ∷ ns) n (inr k) = inr (id_in ns n k)

mid_in : (xs : List Node) (n : Node) (ys : List Node) → Has (xs ++ n ∷ ys) n
mid_in [] n ys = inl refl
mid_in (x ∷ xs) n ys = inr (mid_in xs n ys)

pub without : (bs : List Node) (n : Node) (rest : List Node) → Apart (node_ids (bs ++ n ∷ rest)) → filter (λ m. not (is_node n.id m)) (bs ++ n ∷ rest) ≡ bs ++ rest
without [] n rest a =
    let t : (n.id == n.id) ≡ true = eq-eqb n.id n.id refl in
    let r = filter_none (is_node n.id) rest (λ c h. not_same c.id n.id (λ e. a.0 (subst (λ (i : ℕ). Has (node_ids rest) i) e (id_in rest c h)))) in
    rw (t, r) refl
without (m ∷ bs) n rest a =
    let t : (m.id == n.id) ≡ false = not_same m.id n.id (λ e. a.0 (subst (λ (i : ℕ). Has (node_ids (bs ++ n ∷ rest)) i) (sym e) (id_in (bs ++ n ∷ rest) n (mid_in bs n rest)))) in
    let r = without bs n rest a.1 in
    rw (t, r) refl

-- a list split at an element of its last part
pub split_more :
    (n : Node) (rest xs : List Node) (m : Node) (ys : List Node) → n ∷ rest ≡ xs ++ m ∷ ys → ((n ≡ m) × (rest ≡ ys)) ⊎ ((zs : List Node) × (rest ≡ zs ++ m ∷ ys))
split_more n rest [] m ys e = let a : n ≡ m = cc in let b : rest ≡ ys = cc in inl (a, b)
split_more n rest (x ∷ xs) m ys e = let t : rest ≡ xs ++ m ∷ ys = cc in inr (xs, t)

-- ---- words

abbrev rev_acc : List Word → List Word → List Word
rev_acc acc [] = acc
rev_acc acc (w ∷ ws) = rev_acc (w ∷ acc) ws

rev_back : (acc ws vs : List Word) → rev_onto (rev_acc acc ws) vs ≡ rev_onto acc (ws ++ vs)
rev_back acc [] vs = refl
rev_back acc (w ∷ ws) vs = rev_back (w ∷ acc) ws vs

words_split :
    (os : List Op) (bs : List Node) (n : Node) (rest : List Node) (l : Last) →
    words_from os (bs ++ n ∷ rest) l ≡ map (op_word os) (map (λ (m : Node). m.op) bs) ++ op_word os n.op ∷ words_from os rest l
words_split os [] n rest l = refl
words_split os (m ∷ bs) n rest l = ap (λ (ws : List Word). op_word os m.op ∷ ws) (words_split os bs n rest l)

-- the words of a block around that of an op
pub stands_at :
    (b : Block) (bs : List Node) (n : Node) (rest : List Node) → b.ops ≡ bs ++ n ∷ rest →
    (bf : List Word) × (rev_onto bf (op_word (ops_of b) n.op ∷ words_from (ops_of b) rest b.last) ≡ block_words b)
stands_at b bs n rest e = (
  rev_acc [] (map (op_word (ops_of b)) (map (λ (m : Node). m.op) bs)),
  rev_back [] (map (op_word (ops_of b)) (map (λ (m : Node). m.op) bs)) (op_word (ops_of b) n.op ∷ words_from (ops_of b) rest b.last)
      ∙ sym (words_split (ops_of b) bs n rest b.last) ∙ ap (λ (ns : List Node). words_from (ops_of b) ns b.last) (sym e),
)

record Reversed (bf : List Word) : Type 0 where
  front : List Word
  same : (vs : List Word) → rev_onto bf vs ≡ front ++ vs

reversed : (bf : List Word) → Reversed bf
reversed [] = record { front = []; same = λ vs. refl }
reversed (w ∷ bf) =
    let r = reversed bf in
    record { front = r.front ++ w ∷ []; same = λ vs. r.same (w ∷ vs) ∙ sym (assoc r.front (w ∷ []) vs) }

-- the op of a word that is not the last word
pub record OpAt (os : List Op) (ns : List Node) (l : Last) (w : Word) (ws : List Word) : Type 0 where
  pub before : List Node
  pub node : Node
  pub behind : List Node
  pub ops : ns ≡ before ++ node ∷ behind
  pub word : op_word os node.op ≡ w
  pub words : ws ≡ words_from os behind l

op_at : (os : List Op) (front : List Word) (ns : List Node) (l : Last) (w : Word) (ws : List Word) → front ++ w ∷ ws ≡ words_from os ns l → (Has (last_words l) w → ⊥) → OpAt os ns l w ws
op_at os [] [] l w ws e n = absurd (n (subst (λ (vs : List Word). Has vs w) e (inl refl)))
op_at os [] (x ∷ ns) l w ws e n =
    let a : w ≡ op_word os x.op = cc in
    let b : ws ≡ words_from os ns l = cc in
    record { before = []; node = x; behind = ns; ops = refl; word = sym a; words = b }
op_at os (v ∷ front) [] l w ws e n = absurd (n (subst (λ (vs : List Word). Has vs w) e (inr (word_mid front))))
  where
    word_mid : (xs : List Word) → Has (xs ++ w ∷ ws) w
    word_mid [] = inl refl
    word_mid (x ∷ xs) = inr (word_mid xs)
op_at os (v ∷ front) (x ∷ ns) l w ws e n =
    let t : front ++ w ∷ ws ≡ words_from os ns l = cc in
    let r = op_at os front ns l w ws t n in
    record { before = x ∷ r.before; node = r.node; behind = r.behind; ops = ap (λ (k : List Node). x ∷ k) r.ops; word = r.word; words = r.words }

no_last : (l : Last) (w : Word) → is_address w.act ≡ true → Has (last_words l) w → ⊥
no_last last.Fall w a h = h
no_last last.Off w a h = h
no_last (last.Br at o ra to) w a (inl e) = true≢false (sym a ∙ ap (λ (x : Word). is_address x.act) (sym e))
no_last (last.Call at o ra to) w a (inl e) = true≢false (sym a ∙ ap (λ (x : Word). is_address x.act) (sym e))
no_last (last.CallBy at i) w a (inl e) = true≢false (sym a ∙ ap (λ (x : Word). is_address x.act) (sym e))
no_last (last.JumpBy at i) w a (inl e) = true≢false (sym a ∙ ap (λ (x : Word). is_address x.act) (sym e))
no_last (last.Cond at i to) w a (inl e) = true≢false (sym (ap (λ (x : Word). is_address x.act) e ∙ a) ∙ plain i)
  where
    plain : (i : Instr) → is_address (cond_act i to) ≡ false
    plain (Branch o ra d) = refl
    plain (Mem o ra rb d) = refl
    plain (Jump k ra rb h) = refl
    plain (Alu o ra rb rc) = refl
    plain (Cmov k ra rb rc) = refl
    plain (Misc o ra rb) = refl
    plain Fnop = refl
    plain Halt = refl
    plain Callsys = refl
no_last (last.Br at o ra to) w a (inr h) = h
no_last (last.Call at o ra to) w a (inr h) = h
no_last (last.CallBy at i) w a (inr h) = h
no_last (last.JumpBy at i) w a (inr h) = h
no_last (last.Cond at i to) w a (inr h) = h

pub address_at :
    (b : Block) (bf : List Word) (w : Word) (ws : List Word) → rev_onto bf (w ∷ ws) ≡ block_words b → is_address w.act ≡ true → OpAt (ops_of b) b.ops b.last w ws
address_at b bf w ws e a = let r = reversed bf in op_at (ops_of b) r.front b.ops b.last w ws (sym (r.same (w ∷ ws)) ∙ e) (no_last b.last w a)
