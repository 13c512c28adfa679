-- Byte uses of a load take literals.
use Rattle.std.proofs.Common.{◌≡◌, ◌⊎◌, inl, inr, ℕ, ◌%◌, ◌<◌, Bool, true, false, cond, not, ◌&&◌, ◌||◌, ◌==◌, List, [], ◌∷◌, ◌++◌, Option, Some, None, IsTrue, refl, sym, ap, ◌∙◌, subst, arith}
use Rattle.std.proofs.lemmas.Bool.{true≢false, eqb-true, eq-eqb}
use Rattle.om_alpha.specs.declared.op.AluOp.{AluOp}
use Rattle.om_alpha.specs.declared.op.AluOp.TheVariants.{Sextb, Sextw}
use Rattle.om_isa.specs.declared.instr.Instr.{Instr}
use Rattle.om_isa.specs.declared.instr.Instr.TheVariants.{Mem, Jump, Branch, Alu, Cmov, Misc, Fnop, Halt, Callsys}
use Rattle.om_isa.specs.declared.instr.Opnd.TheVariants.{R, Lit as Literal}
use Rattle.om_isa.specs.Registers.{mask_of, alu_reads, regs_read}
use Rattle.om_value.specs.declared.value.Region.{Region}
use Rattle.om_value.specs.declared.value.Target.{Target}
use Rattle.om_value.specs.declared.value.Target.TheVariants as target
use Rattle.om_value.specs.Lift.{is_byte_operation}
use Rattle.om_prog.specs.Act as act
use Rattle.om_prog.specs.Act.{Act, Word}
use Rattle.om_prog.specs.Facts.{has}
use Rattle.om_prog.specs.View.{ProgramView}
use Rattle.om_prog.specs.Valid.{IsProgram}
use Rattle.om_graph.specs.declared.op.Op.{Op}
use Rattle.om_graph.specs.declared.op.OpKind.{OpKind}
use Rattle.om_graph.specs.declared.op.OpKind.TheVariants as op
use Rattle.om_graph.specs.View.{Node, Block, GraphView, Has, op_of, ops_of, replaced}
use Rattle.om_graph.specs.Held.{IsGraph}
use Rattle.om_graph.specs.Numbers.{AreNumbered}
use Rattle.om_graph.specs.Run.{block_words, op_act, op_word, rev_onto}
use Rattle.om_graph.specs.Form.{ends_block}
use Rattle.om_graph.specs.Uses.{NoneWrites, IsLocalUse, IsByteUse, with_literal}
use Rattle.om_blocks.specs.IsFlow.{HasFlow}
use Rattle.om_blocks.specs.Effects.{kind_reads, kind_writes}
use Rattle.om_blocks.proofs.OfPrograms.{has_flow}
use Rattle.om_uses.specs.Scans.{has_bit}
use Rattle.om_uses.specs.Readers.{is_kept}
use Rattle.om_uses.specs.LocalUses.{word_of, words_of}
use Rattle.om_uses.proofs.Reading.{bit_has}
use Rattle.om_uses.proofs.LocalUses.{AreRight, none_kept}
use Rattle.om_layout.specs.Layout.{LayoutView}
use Rattle.om_passes.specs.AtPlaces.{NoHalf}
use Rattle.om_passes.specs.OneEdit.{MayGoOn, LoadsPointer}
use Rattle.om_passes.specs.Step.{Step}
use Rattle.om_checks.specs.Steps.{ChangesTo, node_words}
use Rattle.om_checks.proofs.Forms as form
use Rattle.om_addr.specs.Passing.{ReducingOnce}
use Rattle.om_addr.specs.declared.loads.Load.{Load}
use Rattle.om_addr.specs.Loads.{load_kind, IsLoadIn, off_of, is_byte_use, byte_kind, NoByteUseOf}
use Rattle.om_addr.proofs.AddressSteps.{byte_step}
use Rattle.om_addr.proofs.OpOnce.{op_once}
use Rattle.om_addr.proofs.Walking.{At, is_op, OnUses, NextUse, next_use, Passed, Walked, Settles}
use Rattle.om_addr.proofs.UsesLeft.{local_use, no_use_left, NoneEnds}

-- the walk ends behind an op that writes the register
abbrev pub writes_bit : ℕ → OpKind → Bool
writes_bit r k = has_bit (mask_of (kind_writes k)) r

-- ---- what a byte use is

pub both : (a b : Bool) → (a && b) ≡ true → (a ≡ true) × (b ≡ true)
both true b e = (refl, e)
both false b e = absurd (true≢false (sym e))

pub untrue : (a : Bool) → not a ≡ true → a ≡ false
untrue true e = absurd (true≢false (sym e))
untrue false e = refl

pub differ : (m n : ℕ) → (m == n) ≡ false → m ≡ n → ⊥
differ m n e f = true≢false (sym (eq-eqb m n f) ∙ e)

pub byte_use_is : (r : ℕ) (i : Instr) → is_byte_use r i ≡ true → IsByteUse r i × (r ≡ 31 → ⊥)
byte_use_is r (Alu o ra (R rb) rc) e =
    let a = both (is_byte_operation o && (rb == r) && not (ra == r)) (not (r == 31)) e in
    let b = both (is_byte_operation o && (rb == r)) (not (ra == r)) a.0 in
    let c = both (is_byte_operation o) (rb == r) b.0 in
    ((c.0, eqb-true rb r c.1, differ ra r (untrue (ra == r) b.1)), differ r 31 (untrue (r == 31) a.1))
byte_use_is r (Alu o ra (Literal m) rc) e = absurd (true≢false (sym e))
byte_use_is r (Mem o ra rb d) e = absurd (true≢false (sym e))
byte_use_is r (Jump k ra rb h) e = absurd (true≢false (sym e))
byte_use_is r (Branch o ra d) e = absurd (true≢false (sym e))
byte_use_is r (Cmov c ra rb rc) e = absurd (true≢false (sym e))
byte_use_is r (Misc o ra rb) e = absurd (true≢false (sym e))
byte_use_is r Fnop e = absurd (true≢false (sym e))
byte_use_is r Halt e = absurd (true≢false (sym e))
byte_use_is r Callsys e = absurd (true≢false (sym e))

pub not_equal : (m n : ℕ) → (m ≡ n → ⊥) → (m == n) ≡ false
not_equal m n h = by_test (m == n) refl
  where
    by_test : (b : Bool) → (m == n) ≡ b → b ≡ false
    by_test true e = absurd (h (eqb-true m n e))
    by_test false e = refl

pub is_byte : (r : ℕ) (i : Instr) → IsByteUse r i → (r ≡ 31 → ⊥) → is_byte_use r i ≡ true
is_byte r (Alu o ra (R rb) rc) u other =
    let a : is_byte_operation o ≡ true = u.0 in
    let b = eq-eqb rb r u.1 in
    let c = not_equal ra r u.2 in
    let d = not_equal r 31 other in
    rw (a, b, c, d) refl
is_byte r (Alu o ra (Literal m) rc) u other = absurd u
is_byte r (Mem o ra rb d) u other = absurd u
is_byte r (Jump k ra rb h) u other = absurd u
is_byte r (Branch o ra d) u other = absurd u
is_byte r (Cmov c ra rb rc) u other = absurd u
is_byte r (Misc o ra rb) u other = absurd u
is_byte r Fnop u other = absurd u
is_byte r Halt u other = absurd u
is_byte r Callsys u other = absurd u

byte_ends : (r : ℕ) (i : Instr) → IsByteUse r i → ends_block i ≡ false
byte_ends r (Alu o ra rb rc) u = refl
byte_ends r (Mem o ra rb d) u = absurd u
byte_ends r (Jump k ra rb h) u = absurd u
byte_ends r (Branch o ra d) u = absurd u
byte_ends r (Cmov c ra rb rc) u = absurd u
byte_ends r (Misc o ra rb) u = absurd u
byte_ends r Fnop u = absurd u
byte_ends r Halt u = absurd u
byte_ends r Callsys u = absurd u

-- it reads the register
second_read : (o : AluOp) (ra rb : ℕ) → has (alu_reads o ra (rb ∷ [])) rb ≡ true
second_read Sextb ra rb = let e = eq-eqb rb rb refl in rw e refl
second_read Sextw ra rb = let e = eq-eqb rb rb refl in rw e refl
second_read o ra rb = let e = eq-eqb rb rb refl in by_test (ra == rb) e
  where
    by_test : (b : Bool) → (rb == rb) ≡ true → (b || ((rb == rb) || false)) ≡ true
    by_test true e = refl
    by_test false e = rw e refl

byte_reads : (r : ℕ) (i : Instr) → IsByteUse r i → has (regs_read i) r ≡ true
byte_reads r (Alu o ra (R rb) rc) u = subst (λ (y : ℕ). has (alu_reads o ra (rb ∷ [])) y ≡ true) u.1 (second_read o ra rb)
byte_reads r (Alu o ra (Literal m) rc) u = absurd u
byte_reads r (Mem o ra rb d) u = absurd u
byte_reads r (Jump k ra rb h) u = absurd u
byte_reads r (Branch o ra d) u = absurd u
byte_reads r (Cmov c ra rb rc) u = absurd u
byte_reads r (Misc o ra rb) u = absurd u
byte_reads r Fnop u = absurd u
byte_reads r Halt u = absurd u
byte_reads r Callsys u = absurd u

-- what became of a byte use is none
literal_no_use : (r n : ℕ) (i : Instr) → IsByteUse r i → is_byte_use r (with_literal n i) ≡ false
literal_no_use r n (Alu o ra (R rb) rc) u = refl
literal_no_use r n (Alu o ra (Literal m) rc) u = absurd u
literal_no_use r n (Mem o ra rb d) u = absurd u
literal_no_use r n (Jump k ra rb h) u = absurd u
literal_no_use r n (Branch o ra d) u = absurd u
literal_no_use r n (Cmov c ra rb rc) u = absurd u
literal_no_use r n (Misc o ra rb) u = absurd u
literal_no_use r n Fnop u = absurd u
literal_no_use r n Halt u = absurd u
literal_no_use r n Callsys u = absurd u

literal_writes : (r n : ℕ) (i : Instr) → IsByteUse r i → kind_writes (op.Plain (with_literal n i)) ≡ kind_writes (op.Plain i)
literal_writes r n (Alu o ra (R rb) rc) u = refl
literal_writes r n (Alu o ra (Literal m) rc) u = absurd u
literal_writes r n (Mem o ra rb d) u = absurd u
literal_writes r n (Jump k ra rb h) u = absurd u
literal_writes r n (Branch o ra d) u = absurd u
literal_writes r n (Cmov c ra rb rc) u = absurd u
literal_writes r n (Misc o ra rb) u = absurd u
literal_writes r n Fnop u = absurd u
literal_writes r n Halt u = absurd u
literal_writes r n Callsys u = absurd u

-- ---- what an op becomes

pub record Becomes (r n : ℕ) (k z : OpKind) : Type 0 where
  pub instr : Instr
  pub was : k ≡ op.Plain instr
  pub is : z ≡ op.Plain (with_literal n instr)
  pub test : is_byte_use r instr ≡ true

becomes : (r n : ℕ) (k z : OpKind) → byte_kind r n k ≡ Some z → Becomes r n k z
becomes r n (op.Plain i) z e = by_test (is_byte_use r i) refl e
  where
    by_test : (b : Bool) → is_byte_use r i ≡ b → cond b (Some (op.Plain (with_literal n i))) None ≡ Some z → Becomes r n (op.Plain i) z
    by_test true t e = record { instr = i; was = refl; is = cc; test = t }
    by_test false t e = cc
becomes r n (op.Lit ra rb t) z e = cc
becomes r n (op.AddrLda ra rb t) z e = cc
becomes r n (op.AddrHi ra rb t y) z e = cc
becomes r n (op.UseGp j gp t) z e = cc
becomes r n (op.GpHi ra rb q) z e = cc
becomes r n (op.GpLo ra rb q) z e = cc
becomes r n (op.UseLo j q) z e = cc

pub byte_settles : (r n : ℕ) → Settles (byte_kind r n) (writes_bit r)
byte_settles r n = record { none = none; end = end }
  where
    none : (k z : OpKind) → byte_kind r n k ≡ Some z → byte_kind r n z ≡ None
    none k z e =
        let b = becomes r n k z e in
        let t = literal_no_use r n b.instr (byte_use_is r b.instr b.test).0 in
        ap (byte_kind r n) b.is ∙ ap (λ (y : Bool). cond y (Some (op.Plain (with_literal n (with_literal n b.instr)))) None) t

    end : (k z : OpKind) → byte_kind r n k ≡ Some z → writes_bit r z ≡ writes_bit r k
    end k z e =
        let b = becomes r n k z e in
        let t = literal_writes r n b.instr (byte_use_is r b.instr b.test).0 in
        ap (writes_bit r) b.is ∙ ap (λ (rs : List ℕ). has_bit (mask_of rs) r) t ∙ ap (writes_bit r) (sym b.was)

-- ---- kept on the walk

pub kept_on : (f : OpKind → Option OpKind) (ends : OpKind → Bool) (r : ℕ) → ((k : OpKind) → ends k ≡ false → has (kind_writes k) r ≡ false) → (mid : List Node) → Passed f ends mid → is_kept r mid ≡ true
kept_on f ends r none [] p = refl
kept_on f ends r none (n ∷ mid) p = let e = none n.op.kind p.1 in rw e (kept_on f ends r none mid p.2)

pub bit_none : (r : ℕ) → r < 31 → (k : OpKind) → writes_bit r k ≡ false → has (kind_writes k) r ≡ false
bit_none r l k e = sym (bit_has (kind_writes k) r l) ∙ e

pub ends_none : (r : ℕ) → r < 31 → (front : List Node) → is_kept r front ≡ true → NoneEnds (writes_bit r) front
ends_none r l [] e = tt
ends_none r l (n ∷ front) e = by_writes (has (kind_writes n.op.kind) r) refl e (ends_none r l front)
  where
    by_writes : (t : Bool) → has (kind_writes n.op.kind) r ≡ t → cond t false (is_kept r front) ≡ true → (is_kept r front ≡ true → NoneEnds (writes_bit r) front) → NoneEnds (writes_bit r) (n ∷ front)
    by_writes true h e again = absurd (true≢false (sym e))
    by_writes false h e again = (bit_has (kind_writes n.op.kind) r l ∙ h, again e)

-- ---- the edit, and what is left

pub load_writes : (l : Load) (x : Op) → x.kind ≡ load_kind l → kind_writes x.kind ≡ l.ra ∷ []
load_writes l x e = ap kind_writes e ∙ by_slot l.from_slot
  where
    by_slot : (b : Bool) → kind_writes (cond b (op.Lit l.ra l.rb l.target) (op.AddrLda l.ra l.rb l.target)) ≡ l.ra ∷ []
    by_slot true = refl
    by_slot false = refl

pub load_loads : (os : List Op) (l : Load) (x : Op) (region : Region) (n : ℕ) → x.kind ≡ load_kind l → l.target ≡ target.Ptr region n → LoadsPointer (op_word os x) l.ra l.rb region n
load_loads os l x region n e t = by_slot l.from_slot e
  where
    by_slot : (b : Bool) → x.kind ≡ cond b (op.Lit l.ra l.rb l.target) (op.AddrLda l.ra l.rb l.target) → LoadsPointer (op_word os x) l.ra l.rb region n
    by_slot true e = inl (ap (op_act os) e ∙ ap (λ (y : Target). act.Lit l.ra l.rb y) t)
    by_slot false e = inr (ap (op_act os) e ∙ ap (λ (y : Target). act.AddrLda l.ra l.rb y) t)

module _ (l : LayoutView) (masks : List ℕ) (g : GraphView) (graph : IsGraph g) (numbered : AreNumbered g) (load : Load) (x : Op) (small : load.ra < 31) (is_load : x.kind ≡ load_kind load) (region : Region) (n : ℕ)
    (pointer : load.target ≡ target.Ptr region n) where
  abbrev f : OpKind → Option OpKind
  f = byte_kind load.ra (n % 8)

  abbrev ends : OpKind → Bool
  ends = writes_bit load.ra

  pub byte_once : (o : ℕ) (y : Op) (on : OnUses f ends g load.id x (Some o)) → op_of g o ≡ Some y → (k : OpKind) → f y.kind ≡ Some k → ReducingOnce l masks g (replaced g o k)
  byte_once o y on e k h =
      subst (λ (j : ℕ). ReducingOnce l masks g (replaced g j k)) u.is_id
      (subst (λ (z : OpKind). ReducingOnce l masks g (replaced g u.node.id z)) (sym b.is)
      (op_once l masks g graph numbered u.node u.at (op.Plain (with_literal (n % 8) b.instr)) (subst (λ (z : OpKind). NoHalf z) (sym plain) tt) tt step (λ p prog m r. tt) changes))
    where
      u : NextUse f ends g load.id x o y on
      u = next_use f ends g load.id x o y on graph e

      b : Becomes load.ra (n % 8) y.kind k
      b = becomes load.ra (n % 8) y.kind k h

      used : IsByteUse load.ra b.instr × (load.ra ≡ 31 → ⊥)
      used = byte_use_is load.ra b.instr b.test

      plain : u.node.op.kind ≡ op.Plain b.instr
      plain = ap (λ (z : Op). z.kind) u.is_op ∙ b.was

      step : (p : ProgramView) → IsProgram p → MayGoOn p g → Step p g (replaced g u.node.id (op.Plain (with_literal (n % 8) b.instr)))
      step p prog m =
          let flow = has_flow p prog g m.graph in
          let local =
          local_use g flow on.block load.ra on.before on.node on.mid u.node u.rest on.among (on.stands ∙ ap (λ (z : List Node). on.before ++ on.node ∷ (on.mid ++ z)) u.left)
          (ap (λ (z : Op). kind_writes z.kind) on.is_op ∙ load_writes load x is_load) (kept_on f ends load.ra (bit_none load.ra small) on.mid on.passed)
          (ap (λ (z : OpKind). has (kind_reads z) load.ra) plain ∙ byte_reads load.ra b.instr used.0) used.1 in
          byte_step p prog g m u.node.id u.at.block u.node (is_op g graph u.node u.at) (word_of on.block on.node) b.instr load.ra load.rb n region plain
          (subst (λ (c : Block). IsLocalUse (block_words c) (word_of on.block on.node) (word_of c u.node) load.ra) (sym u.at_block) local.0)
          (load_loads (ops_of on.block) load on.node.op region n (ap (λ (z : Op). z.kind) on.is_op ∙ is_load) pointer) used.0

      changes : (p : ProgramView) → IsProgram p → MayGoOn p g → ChangesTo (rev_onto (node_words (ops_of u.at.block) u.at.before) []) (op_act (ops_of u.at.block) u.node.op.kind) (act.Plain (with_literal (n % 8) b.instr))
      changes p prog m =
          subst (λ (a : Act). ChangesTo (rev_onto (node_words (ops_of u.at.block) u.at.before) []) a (act.Plain (with_literal (n % 8) b.instr))) (sym (ap (op_act (ops_of u.at.block)) plain))
          (form.byte (rev_onto (node_words (ops_of u.at.block) u.at.before) []) load.ra (n % 8) b.instr used.0)

  pub byte_once_as : (byte : ℕ) → byte ≡ n % 8 → (o : ℕ) (y : Op) (on : OnUses (byte_kind load.ra byte) ends g load.id x (Some o)) → op_of g o ≡ Some y → (k : OpKind) → byte_kind load.ra byte y.kind ≡ Some k → ReducingOnce l masks g (replaced g o k)
  byte_once_as byte is o y on e k h =
      byte_once o y (subst (λ (j : ℕ). OnUses (byte_kind load.ra j) ends g load.id x (Some o)) is on) e k (ap (λ (j : ℕ). byte_kind load.ra j y.kind) (sym is) ∙ h)

pub no_bytes :
    (g : GraphView) (graph : IsGraph g) (load : Load) (x : Op) → load.ra < 31 → x.kind ≡ load_kind load → (byte : ℕ) → HasFlow g → Walked (byte_kind load.ra byte) (writes_bit load.ra) g load.id x → NoByteUseOf g load
no_bytes g graph load x small is_load byte flow k = record { uses = uses }
  where
    uses : (b : Block) (w user : Word) (i : Instr) (q : Region) (m : ℕ) → IsLoadIn g load b w → load.target ≡ target.Ptr q m → IsLocalUse (block_words b) w user load.ra → user.act ≡ act.Plain i → IsByteUse load.ra i → ⊥
    uses b w user i q m in_it t v a used =
        let none = no_use_left (byte_kind load.ra byte) (writes_bit load.ra) g graph flow load x load.ra b w user i small (load_writes load x is_load) k in_it v a (byte_ends load.ra i used) fronts in
        let test = is_byte load.ra i used v.register in
        some_none (op.Plain (with_literal byte i)) (sym (ap (λ (c : Bool). cond c (Some (op.Plain (with_literal byte i))) None) test) ∙ none)
      where
        fronts : (front : List Node) → AreRight (words_of b front) → v.mid ≡ words_of b front → NoneEnds (writes_bit load.ra) front
        fronts front right e = ends_none load.ra small front (none_kept b load.ra front right (subst (λ (ws : List Word). NoneWrites load.ra ws) e v.unwritten))

        some_none : (z : OpKind) → Some z ≡ None → ⊥
        some_none z e = cc

-- a load into r31 has no uses
pub none_of_31 : (g : GraphView) (l : Load) → l.ra ≡ 31 → NoByteUseOf g l
none_of_31 g l e = record { uses = λ b w user i region x in_it t u a used. u.register e }

-- a load of no pointer has none
pub none_of_other : (g : GraphView) (l : Load) → off_of l.target ≡ None → NoByteUseOf g l
none_of_other g l e = record { uses = λ b w user i region x in_it t u a used. some_none x (sym (ap off_of t) ∙ e) }
  where
    some_none : (x : ℕ) → Some x ≡ None → ⊥
    some_none x e = cc

pub pointer_is : (t : Target) (x : ℕ) → off_of t ≡ Some x → (region : Region) × (t ≡ target.Ptr region x)
pointer_is (target.Ptr r y) x e = (r, cc)
pointer_is (target.Num n) x e = cc
pointer_is (target.Code q) x e = cc
