-- What the words of a program become in the lifted graph: one clause for each role and each kind of instruction.
use Rattle.std.proofs.Common.{◌≡◌, ℕ, ℤ, Bool, true, false, cond, ◌==◌, refl, sym, ◌∙◌}
use Rattle.std.proofs.lemmas.Bool.{true≢false, eqb-true, eq-eqb}
use Rattle.om_isa.specs.declared.instr.BrOp.{BrOp}
use Rattle.om_isa.specs.declared.instr.BrOp.TheVariants.{Br as Straight, Bsr, If}
use Rattle.om_isa.specs.declared.instr.JumpOp.{JumpOp}
use Rattle.om_isa.specs.declared.instr.Instr.{Instr}
use Rattle.om_isa.specs.declared.instr.Instr.TheVariants.{Mem, Jump, Branch, Alu, Cmov, Misc, Fnop, Halt, Callsys}
use Rattle.om_value.specs.declared.value.Place.{Place}
use Rattle.om_value.specs.declared.value.Target.{Target}
use Rattle.om_prog.specs.declared.item.Role.{Role}
use Rattle.om_prog.specs.declared.item.Role.TheVariants as role
use Rattle.om_prog.specs.Act as act
use Rattle.om_prog.specs.Act.{Act}
use Rattle.om_prog.specs.Script.{act_of}
use Rattle.om_graph.specs.declared.op.Last.TheVariants as last
use Rattle.om_graph.specs.Form.{ends_block, OpForm, LastForm}
use Rattle.om_graph.specs.Lifted.{kind_of, branch_last, jump_last, last_of_word}

-- what is said of all acts that a program has
module _ (P : Act → Type 0) (plain : (i : Instr) → P (act.Plain i)) (lit : (ra rb : ℕ) (t : Target) → P (act.Lit ra rb t))
    (high : (ra rb : ℕ) (base : Place) → P (act.GpHi ra rb base)) (low : (ra rb : ℕ) (hi : Place) → P (act.GpLo ra rb hi))
    (to : (o : BrOp) (ra : ℕ) (q : Place) → P (act.To o ra q)) (wrong : P act.Wrong) where
  pub each_act : (r : Role) (i : Instr) → P (act_of r i)
  each_act role.Plain (Mem o ra rb d) = plain (Mem o ra rb d)
  each_act role.Plain (Jump k ra rb h) = plain (Jump k ra rb h)
  each_act role.Plain (Branch o ra d) = plain (Branch o ra d)
  each_act role.Plain (Alu o ra rb rc) = plain (Alu o ra rb rc)
  each_act role.Plain (Cmov k ra rb rc) = plain (Cmov k ra rb rc)
  each_act role.Plain (Misc o ra rb) = plain (Misc o ra rb)
  each_act role.Plain Fnop = plain Fnop
  each_act role.Plain Halt = plain Halt
  each_act role.Plain Callsys = plain Callsys
  each_act (role.Lit t) (Mem o ra rb d) = lit ra rb t
  each_act (role.Lit t) (Jump k ra rb h) = wrong
  each_act (role.Lit t) (Branch o ra d) = wrong
  each_act (role.Lit t) (Alu o ra rb rc) = wrong
  each_act (role.Lit t) (Cmov k ra rb rc) = wrong
  each_act (role.Lit t) (Misc o ra rb) = wrong
  each_act (role.Lit t) Fnop = wrong
  each_act (role.Lit t) Halt = wrong
  each_act (role.Lit t) Callsys = wrong
  each_act (role.GpHi base) (Mem o ra rb d) = high ra rb base
  each_act (role.GpHi base) (Jump k ra rb h) = wrong
  each_act (role.GpHi base) (Branch o ra d) = wrong
  each_act (role.GpHi base) (Alu o ra rb rc) = wrong
  each_act (role.GpHi base) (Cmov k ra rb rc) = wrong
  each_act (role.GpHi base) (Misc o ra rb) = wrong
  each_act (role.GpHi base) Fnop = wrong
  each_act (role.GpHi base) Halt = wrong
  each_act (role.GpHi base) Callsys = wrong
  each_act (role.GpLo hi) (Mem o ra rb d) = low ra rb hi
  each_act (role.GpLo hi) (Jump k ra rb h) = wrong
  each_act (role.GpLo hi) (Branch o ra d) = wrong
  each_act (role.GpLo hi) (Alu o ra rb rc) = wrong
  each_act (role.GpLo hi) (Cmov k ra rb rc) = wrong
  each_act (role.GpLo hi) (Misc o ra rb) = wrong
  each_act (role.GpLo hi) Fnop = wrong
  each_act (role.GpLo hi) Halt = wrong
  each_act (role.GpLo hi) Callsys = wrong
  each_act (role.To q) (Mem o ra rb d) = wrong
  each_act (role.To q) (Jump k ra rb h) = wrong
  each_act (role.To q) (Branch o ra d) = to o ra q
  each_act (role.To q) (Alu o ra rb rc) = wrong
  each_act (role.To q) (Cmov k ra rb rc) = wrong
  each_act (role.To q) (Misc o ra rb) = wrong
  each_act (role.To q) Fnop = wrong
  each_act (role.To q) Halt = wrong
  each_act (role.To q) Callsys = wrong

-- an op that ends no block is in form
pub kind_form : (r : Role) (i : Instr) → ends_block i ≡ false → OpForm (kind_of r i)
kind_form role.Plain (Mem o ra rb d) e = e
kind_form role.Plain (Jump k ra rb h) e = e
kind_form role.Plain (Branch o ra d) e = e
kind_form role.Plain (Alu o ra rb rc) e = e
kind_form role.Plain (Cmov k ra rb rc) e = e
kind_form role.Plain (Misc o ra rb) e = e
kind_form role.Plain Fnop e = e
kind_form role.Plain Halt e = e
kind_form role.Plain Callsys e = e
kind_form (role.Lit t) (Mem o ra rb d) e = tt
kind_form (role.Lit t) (Jump k ra rb h) e = e
kind_form (role.Lit t) (Branch o ra d) e = e
kind_form (role.Lit t) (Alu o ra rb rc) e = e
kind_form (role.Lit t) (Cmov k ra rb rc) e = e
kind_form (role.Lit t) (Misc o ra rb) e = e
kind_form (role.Lit t) Fnop e = e
kind_form (role.Lit t) Halt e = e
kind_form (role.Lit t) Callsys e = e
kind_form (role.GpHi base) (Mem o ra rb d) e = tt
kind_form (role.GpHi base) (Jump k ra rb h) e = e
kind_form (role.GpHi base) (Branch o ra d) e = e
kind_form (role.GpHi base) (Alu o ra rb rc) e = e
kind_form (role.GpHi base) (Cmov k ra rb rc) e = e
kind_form (role.GpHi base) (Misc o ra rb) e = e
kind_form (role.GpHi base) Fnop e = e
kind_form (role.GpHi base) Halt e = e
kind_form (role.GpHi base) Callsys e = e
kind_form (role.GpLo hi) (Mem o ra rb d) e = tt
kind_form (role.GpLo hi) (Jump k ra rb h) e = e
kind_form (role.GpLo hi) (Branch o ra d) e = e
kind_form (role.GpLo hi) (Alu o ra rb rc) e = e
kind_form (role.GpLo hi) (Cmov k ra rb rc) e = e
kind_form (role.GpLo hi) (Misc o ra rb) e = e
kind_form (role.GpLo hi) Fnop e = e
kind_form (role.GpLo hi) Halt e = e
kind_form (role.GpLo hi) Callsys e = e
kind_form (role.To q) (Mem o ra rb d) e = e
kind_form (role.To q) (Jump k ra rb h) e = e
kind_form (role.To q) (Branch o ra d) e = e
kind_form (role.To q) (Alu o ra rb rc) e = e
kind_form (role.To q) (Cmov k ra rb rc) e = e
kind_form (role.To q) (Misc o ra rb) e = e
kind_form (role.To q) Fnop e = e
kind_form (role.To q) Halt e = e
kind_form (role.To q) Callsys e = e

other_form : (e : Bool) → LastForm (cond e last.Off last.Fall)
other_form true = tt
other_form false = tt

not_link : (ra : ℕ) → (ra == 31) ≡ false → ra ≡ 31 → ⊥
not_link ra e h = true≢false (sym (eq-eqb ra 31 h) ∙ e)

branch_form : (at : Place) (o : BrOp) (ra : ℕ) (d : ℤ) (q : Place) → LastForm (branch_last at (Branch o ra d) o ra q)
branch_form at (If c) ra d q = tt
branch_form at Straight ra d q = by_link (ra == 31) refl
  where
    by_link : (b : Bool) → (ra == 31) ≡ b → LastForm (cond b (last.Br at Straight ra q) (last.Call at Straight ra q))
    by_link true e = (tt, eqb-true ra 31 e)
    by_link false e = (tt, not_link ra e)
branch_form at Bsr ra d q = by_link (ra == 31) refl
  where
    by_link : (b : Bool) → (ra == 31) ≡ b → LastForm (cond b (last.Br at Bsr ra q) (last.Call at Bsr ra q))
    by_link true e = (tt, eqb-true ra 31 e)
    by_link false e = (tt, not_link ra e)

jump_form : (at : Place) (k : JumpOp) (ra rb h : ℕ) → LastForm (jump_last at (Jump k ra rb h) ra)
jump_form at k ra rb h = by_link (ra == 31) refl
  where
    by_link : (b : Bool) → (ra == 31) ≡ b → LastForm (cond b (last.JumpBy at (Jump k ra rb h)) (last.CallBy at (Jump k ra rb h)))
    by_link true e = eqb-true ra 31 e
    by_link false e = not_link ra e

-- the end of a block is in form
pub last_form : (e : Bool) (at : Place) (r : Role) (i : Instr) → LastForm (last_of_word e at r i)
last_form e at role.Plain (Mem o ra rb d) = other_form e
last_form e at role.Plain (Jump k ra rb h) = jump_form at k ra rb h
last_form e at role.Plain (Branch o ra d) = other_form e
last_form e at role.Plain (Alu o ra rb rc) = other_form e
last_form e at role.Plain (Cmov k ra rb rc) = other_form e
last_form e at role.Plain (Misc o ra rb) = other_form e
last_form e at role.Plain Fnop = other_form e
last_form e at role.Plain Halt = other_form e
last_form e at role.Plain Callsys = other_form e
last_form e at (role.Lit t) (Mem o ra rb d) = other_form e
last_form e at (role.Lit t) (Jump k ra rb h) = jump_form at k ra rb h
last_form e at (role.Lit t) (Branch o ra d) = other_form e
last_form e at (role.Lit t) (Alu o ra rb rc) = other_form e
last_form e at (role.Lit t) (Cmov k ra rb rc) = other_form e
last_form e at (role.Lit t) (Misc o ra rb) = other_form e
last_form e at (role.Lit t) Fnop = other_form e
last_form e at (role.Lit t) Halt = other_form e
last_form e at (role.Lit t) Callsys = other_form e
last_form e at (role.GpHi base) (Mem o ra rb d) = other_form e
last_form e at (role.GpHi base) (Jump k ra rb h) = jump_form at k ra rb h
last_form e at (role.GpHi base) (Branch o ra d) = other_form e
last_form e at (role.GpHi base) (Alu o ra rb rc) = other_form e
last_form e at (role.GpHi base) (Cmov k ra rb rc) = other_form e
last_form e at (role.GpHi base) (Misc o ra rb) = other_form e
last_form e at (role.GpHi base) Fnop = other_form e
last_form e at (role.GpHi base) Halt = other_form e
last_form e at (role.GpHi base) Callsys = other_form e
last_form e at (role.GpLo hi) (Mem o ra rb d) = other_form e
last_form e at (role.GpLo hi) (Jump k ra rb h) = jump_form at k ra rb h
last_form e at (role.GpLo hi) (Branch o ra d) = other_form e
last_form e at (role.GpLo hi) (Alu o ra rb rc) = other_form e
last_form e at (role.GpLo hi) (Cmov k ra rb rc) = other_form e
last_form e at (role.GpLo hi) (Misc o ra rb) = other_form e
last_form e at (role.GpLo hi) Fnop = other_form e
last_form e at (role.GpLo hi) Halt = other_form e
last_form e at (role.GpLo hi) Callsys = other_form e
last_form e at (role.To q) (Mem o ra rb d) = other_form e
last_form e at (role.To q) (Jump k ra rb h) = jump_form at k ra rb h
last_form e at (role.To q) (Branch o ra d) = branch_form at o ra d q
last_form e at (role.To q) (Alu o ra rb rc) = other_form e
last_form e at (role.To q) (Cmov k ra rb rc) = other_form e
last_form e at (role.To q) (Misc o ra rb) = other_form e
last_form e at (role.To q) Fnop = other_form e
last_form e at (role.To q) Halt = other_form e
last_form e at (role.To q) Callsys = other_form e

off_other : (e : Bool) → cond e last.Off last.Fall ≡ last.Off → e ≡ true
off_other true h = refl
off_other false h = cc

branch_off : (at : Place) (o : BrOp) (ra : ℕ) (d : ℤ) (q : Place) → branch_last at (Branch o ra d) o ra q ≡ last.Off → ⊥
branch_off at (If c) ra d q h = cc
branch_off at Straight ra d q h = by_link (ra == 31) h
  where
    by_link : (b : Bool) → cond b (last.Br at Straight ra q) (last.Call at Straight ra q) ≡ last.Off → ⊥
    by_link true h = cc
    by_link false h = cc
branch_off at Bsr ra d q h = by_link (ra == 31) h
  where
    by_link : (b : Bool) → cond b (last.Br at Bsr ra q) (last.Call at Bsr ra q) ≡ last.Off → ⊥
    by_link true h = cc
    by_link false h = cc

jump_off : (at : Place) (k : JumpOp) (ra rb h : ℕ) → jump_last at (Jump k ra rb h) ra ≡ last.Off → ⊥
jump_off at k ra rb h e = by_link (ra == 31) e
  where
    by_link : (b : Bool) → cond b (last.JumpBy at (Jump k ra rb h)) (last.CallBy at (Jump k ra rb h)) ≡ last.Off → ⊥
    by_link true e = cc
    by_link false e = cc

-- the text ends only behind its last word
pub off_at_end : (e : Bool) (at : Place) (r : Role) (i : Instr) → last_of_word e at r i ≡ last.Off → e ≡ true
off_at_end e at role.Plain (Mem o ra rb d) h' = off_other e h'
off_at_end e at role.Plain (Jump k ra rb h) h' = absurd (jump_off at k ra rb h h')
off_at_end e at role.Plain (Branch o ra d) h' = off_other e h'
off_at_end e at role.Plain (Alu o ra rb rc) h' = off_other e h'
off_at_end e at role.Plain (Cmov k ra rb rc) h' = off_other e h'
off_at_end e at role.Plain (Misc o ra rb) h' = off_other e h'
off_at_end e at role.Plain Fnop h' = off_other e h'
off_at_end e at role.Plain Halt h' = off_other e h'
off_at_end e at role.Plain Callsys h' = off_other e h'
off_at_end e at (role.Lit t) (Mem o ra rb d) h' = off_other e h'
off_at_end e at (role.Lit t) (Jump k ra rb h) h' = absurd (jump_off at k ra rb h h')
off_at_end e at (role.Lit t) (Branch o ra d) h' = off_other e h'
off_at_end e at (role.Lit t) (Alu o ra rb rc) h' = off_other e h'
off_at_end e at (role.Lit t) (Cmov k ra rb rc) h' = off_other e h'
off_at_end e at (role.Lit t) (Misc o ra rb) h' = off_other e h'
off_at_end e at (role.Lit t) Fnop h' = off_other e h'
off_at_end e at (role.Lit t) Halt h' = off_other e h'
off_at_end e at (role.Lit t) Callsys h' = off_other e h'
off_at_end e at (role.GpHi base) (Mem o ra rb d) h' = off_other e h'
off_at_end e at (role.GpHi base) (Jump k ra rb h) h' = absurd (jump_off at k ra rb h h')
off_at_end e at (role.GpHi base) (Branch o ra d) h' = off_other e h'
off_at_end e at (role.GpHi base) (Alu o ra rb rc) h' = off_other e h'
off_at_end e at (role.GpHi base) (Cmov k ra rb rc) h' = off_other e h'
off_at_end e at (role.GpHi base) (Misc o ra rb) h' = off_other e h'
off_at_end e at (role.GpHi base) Fnop h' = off_other e h'
off_at_end e at (role.GpHi base) Halt h' = off_other e h'
off_at_end e at (role.GpHi base) Callsys h' = off_other e h'
off_at_end e at (role.GpLo hi) (Mem o ra rb d) h' = off_other e h'
off_at_end e at (role.GpLo hi) (Jump k ra rb h) h' = absurd (jump_off at k ra rb h h')
off_at_end e at (role.GpLo hi) (Branch o ra d) h' = off_other e h'
off_at_end e at (role.GpLo hi) (Alu o ra rb rc) h' = off_other e h'
off_at_end e at (role.GpLo hi) (Cmov k ra rb rc) h' = off_other e h'
off_at_end e at (role.GpLo hi) (Misc o ra rb) h' = off_other e h'
off_at_end e at (role.GpLo hi) Fnop h' = off_other e h'
off_at_end e at (role.GpLo hi) Halt h' = off_other e h'
off_at_end e at (role.GpLo hi) Callsys h' = off_other e h'
off_at_end e at (role.To q) (Mem o ra rb d) h' = off_other e h'
off_at_end e at (role.To q) (Jump k ra rb h) h' = absurd (jump_off at k ra rb h h')
off_at_end e at (role.To q) (Branch o ra d) h' = absurd (branch_off at o ra d q h')
off_at_end e at (role.To q) (Alu o ra rb rc) h' = off_other e h'
off_at_end e at (role.To q) (Cmov k ra rb rc) h' = off_other e h'
off_at_end e at (role.To q) (Misc o ra rb) h' = off_other e h'
off_at_end e at (role.To q) Fnop h' = off_other e h'
off_at_end e at (role.To q) Halt h' = off_other e h'
off_at_end e at (role.To q) Callsys h' = off_other e h'
