-- The states after one effect in two runs whose registers and places alone differ.
use Rattle.std.proofs.Common.{◌≡◌, ◌⊎◌, inl, inr, ℕ, Bool, true, false, cond, ◌&&◌, ◌==◌, List, [], ◌∷◌, length, Option, Some, None, refl, sym, ◌∙◌}
use Rattle.std.specs.Prelude.{not, ℤ, take}
use Rattle.std.proofs.lemmas.Bool.{true≢false, eqb-true, eq-eqb}
use Rattle.om_alpha.specs.declared.op.TrapKind.{TrapKind}
use Rattle.om_isa.specs.declared.instr.MemOp.{MemOp}
use Rattle.om_isa.specs.declared.instr.BrOp.{BrOp}
use Rattle.om_isa.specs.declared.instr.BrOp.TheVariants.{Br, Bsr, If}
use Rattle.om_isa.specs.declared.instr.Instr.{Instr}
use Rattle.om_isa.specs.declared.instr.Instr.TheVariants.{Mem, Jump as Jumps, Branch, Alu, Cmov, Misc, Fnop, Halt, Callsys}
use Rattle.om_isa.specs.declared.instr.Access.{Access}
use Rattle.om_isa.specs.declared.instr.Access.TheVariants.{Address, Load, Store as Stores}
use Rattle.om_isa.specs.Registers.{access_of, memory_writes, regs_written}
use Rattle.om_isa.specs.Effect.{Nothing, Set, Store, Jump, Stop, Calls, StepObserves, with_value}
use Rattle.om_isa.specs.SystemCall.{Call, Exits, Answers, Puts, Takes, HeapEnd, Resizes, CallObserves}
use Rattle.om_value.specs.declared.value.Place.{Place}
use Rattle.om_value.specs.declared.value.Region.{Region}
use Rattle.om_value.specs.declared.value.Target.{Target}
use Rattle.om_value.specs.declared.value.Value.{Value}
use Rattle.om_value.specs.declared.value.Value.TheVariants.{Num, Code, Gp, Half}
use Rattle.om_value.specs.Lift.{lifted_add, value_of}
use Rattle.om_prog.specs.Act.{Act, Plain, Lit, GpHi, GpLo, To, AddrLda, AddrHi, UseLo, UseGp, Wrong, Script, act_keeps, act_writes}
use Rattle.om_prog.specs.Step.{SymState, SymEffect, Spot, Inside, Refused, Hidden, read_reg, write_reg, act_effect, plain_effect, memory_effect, branch_effect, jump_effect, used_effect, load, accessed, needs, at_spot, after}
use Rattle.om_prog.specs.Flow.{moved, Among, call_writes, effect_writes, effect_ends}

-- the same but for registers and place
pub record Beside (s t : SymState) : Type 0 where
  pub cells : t.cells ≡ s.cells
  pub heap : t.heap ≡ s.heap
  pub input : t.input ≡ s.input
  pub out : t.out ≡ s.out
  pub err : t.err ≡ s.err
  pub ended : t.ended ≡ s.ended

-- a state beside another is that state with other registers and another place
pub beside_moved : (s t : SymState) → Beside s t → t ≡ moved s t.regs t.place
beside_moved s t b = rw (b.cells, b.heap, b.input, b.out, b.err, b.ended) refl

pub written_same :
    (rs ss : ℕ → Value) (r : ℕ) (v : Value) (x : ℕ) → (read_reg rs x ≡ read_reg ss x) ⊎ (r ≡ x) → read_reg (write_reg rs r v) x ≡ read_reg (write_reg ss r v) x
written_same rs ss r v x h = by_case (x == 31) (x == r) (r == 31) refl refl refl h
  where
    by_case :
        (a b c : Bool) → (x == 31) ≡ a → (x == r) ≡ b → (r == 31) ≡ c → (cond a (Num 0) (rs x) ≡ cond a (Num 0) (ss x)) ⊎ (r ≡ x) →
        cond a (Num 0) (cond (b && not c) v (rs x)) ≡ cond a (Num 0) (cond (b && not c) v (ss x))
    by_case true b c ea eb ec h = refl
    by_case false true false ea eb ec h = refl
    by_case false false c ea eb ec (inl h) = h
    by_case false true true ea eb ec (inl h) = h
    by_case false false c ea eb ec (inr h) = absurd (true≢false (sym (eq-eqb x r (sym h)) ∙ eb))
    by_case false true true ea eb ec (inr h) = absurd (true≢false (sym (eq-eqb x 31 (sym h ∙ eqb-true r 31 ec)) ∙ ea))

module _ (s : SymState) (rs : ℕ → Value) (q at : Place) where
  call_beside : (call : Call) (a1 : Value) → Beside (after s at (Calls call a1)) (after (moved s rs q) at (Calls call a1))
  call_beside (Exits status) a1 = record { cells = refl; heap = refl; input = refl; out = refl; err = refl; ended = refl }
  call_beside (Answers v0 a3) a1 = record { cells = refl; heap = refl; input = refl; out = refl; err = refl; ended = refl }
  call_beside (Puts d bytes) a1 = record { cells = refl; heap = refl; input = refl; out = refl; err = refl; ended = refl }
  call_beside (Takes n) a1 = record { cells = refl; heap = refl; input = refl; out = refl; err = refl; ended = refl }
  call_beside (HeapEnd m) a1 = record { cells = refl; heap = refl; input = refl; out = refl; err = refl; ended = refl }
  call_beside (Resizes n) a1 = record { cells = refl; heap = refl; input = refl; out = refl; err = refl; ended = refl }
  call_beside CallObserves a1 = record { cells = refl; heap = refl; input = refl; out = refl; err = refl; ended = refl }

  pub after_beside : (e : SymEffect) → Beside (after s at e) (after (moved s rs q) at e)
  after_beside Nothing = record { cells = refl; heap = refl; input = refl; out = refl; err = refl; ended = refl }
  after_beside (Set r v) = record { cells = refl; heap = refl; input = refl; out = refl; err = refl; ended = refl }
  after_beside (Store w) = record { cells = refl; heap = refl; input = refl; out = refl; err = refl; ended = refl }
  after_beside (Jump None to) = record { cells = refl; heap = refl; input = refl; out = refl; err = refl; ended = refl }
  after_beside (Jump (Some r) to) = record { cells = refl; heap = refl; input = refl; out = refl; err = refl; ended = refl }
  after_beside (Stop kind) = record { cells = refl; heap = refl; input = refl; out = refl; err = refl; ended = refl }
  after_beside (Calls call a1) = call_beside call a1
  after_beside StepObserves = record { cells = refl; heap = refl; input = refl; out = refl; err = refl; ended = refl }

  module _ (M : Place → Place → Type 0) (same : (x : Place) → M x x) (here : M q s.place) where
    call_place : (call : Call) (a1 : Value) → M (after (moved s rs q) at (Calls call a1)).place (after s at (Calls call a1)).place
    call_place (Exits status) a1 = here
    call_place CallObserves a1 = here
    call_place (Answers v0 a3) a1 = same _
    call_place (Puts d bytes) a1 = same _
    call_place (Takes n) a1 = same _
    call_place (HeapEnd m) a1 = same _
    call_place (Resizes n) a1 = same _

    pub after_place : (e : SymEffect) → M (after (moved s rs q) at e).place (after s at e).place
    after_place Nothing = same _
    after_place (Set r v) = same _
    after_place (Store w) = same _
    after_place (Jump None to) = same _
    after_place (Jump (Some r) to) = same _
    after_place (Stop kind) = here
    after_place (Calls call a1) = call_place call a1
    after_place StepObserves = here

  module _ (x : ℕ) where
    abbrev Same : SymEffect → Type 0
    Same e = read_reg (after (moved s rs q) at e).regs x ≡ read_reg (after s at e).regs x

    answered_same :
        (v0 : Value) (a3 : ℕ) → (read_reg rs x ≡ read_reg s.regs x) ⊎ Among (0 ∷ 19 ∷ []) x →
        read_reg (write_reg (write_reg rs 0 v0) 19 (Num a3)) x ≡ read_reg (write_reg (write_reg s.regs 0 v0) 19 (Num a3)) x
    answered_same v0 a3 (inl e) = written_same (write_reg rs 0 v0) (write_reg s.regs 0 v0) 19 (Num a3) x (inl (written_same rs s.regs 0 v0 x (inl e)))
    answered_same v0 a3 (inr (inl e)) = written_same (write_reg rs 0 v0) (write_reg s.regs 0 v0) 19 (Num a3) x (inl (written_same rs s.regs 0 v0 x (inr e)))
    answered_same v0 a3 (inr (inr (inl e))) = written_same (write_reg rs 0 v0) (write_reg s.regs 0 v0) 19 (Num a3) x (inr e)
    answered_same v0 a3 (inr (inr (inr h))) = absurd h

    call_regs : (call : Call) (a1 : Value) → (read_reg rs x ≡ read_reg s.regs x) ⊎ Among (call_writes call) x → Same (Calls call a1)
    call_regs (Exits status) a1 (inl e) = e
    call_regs (Exits status) a1 (inr h) = absurd h
    call_regs CallObserves a1 (inl e) = e
    call_regs CallObserves a1 (inr h) = absurd h
    call_regs (Answers v0 a3) a1 h = answered_same (Num v0) a3 h
    call_regs (Puts d bytes) a1 h = answered_same (Num (length bytes)) 0 h
    call_regs (Takes n) a1 h = answered_same (Num (length (take n s.input))) 0 h
    call_regs (HeapEnd m) a1 h = answered_same _ 0 h
    call_regs (Resizes n) a1 h = answered_same (Num 0) 0 h

    pub after_regs : (e : SymEffect) → (read_reg rs x ≡ read_reg s.regs x) ⊎ Among (effect_writes e) x → Same e
    after_regs Nothing (inl e) = e
    after_regs (Set r v) (inl e) = written_same rs s.regs r v x (inl e)
    after_regs (Set r v) (inr (inl e)) = written_same rs s.regs r v x (inr e)
    after_regs (Store w) (inl e) = e
    after_regs (Jump None to) (inl e) = e
    after_regs (Jump (Some r) to) (inl e) = written_same rs s.regs r _ x (inl e)
    after_regs (Jump (Some r) to) (inr (inl e)) = written_same rs s.regs r _ x (inr e)
    after_regs (Stop kind) (inl e) = e
    after_regs (Calls call a1) h = call_regs call a1 h
    after_regs StepObserves (inl e) = e
    after_regs Nothing (inr h) = absurd h
    after_regs (Set r v) (inr (inr h)) = absurd h
    after_regs (Store w) (inr h) = absurd h
    after_regs (Jump None to) (inr h) = absurd h
    after_regs (Jump (Some r) to) (inr (inr h)) = absurd h
    after_regs (Stop kind) (inr h) = absurd h
    after_regs StepObserves (inr h) = absurd h

-- ---- what a word writes, its effect writes, unless it may keep it or the run ends

pub record Done (x : ℕ) (e : SymEffect) : Type 0 where
  pub is : Among (effect_writes e) x ⊎ (effect_ends e ≡ true)

pub done_if : (x : ℕ) (b : Bool) (e f : SymEffect) → Done x e → Done x f → Done x (cond b e f)
done_if x true e f d g = d
done_if x false e f d g = g

pub done_with : {A : Type 0} (x : ℕ) (o : Option A) (f : A → SymEffect) → ((a : A) → Done x (f a)) → Done x (with_value o f)
done_with x None f d = record { is = inr refl }
done_with x (Some a) f d = d a

pub done_spot : (x : ℕ) (sp : Spot) (f : Region → ℕ → SymEffect) → ((r : Region) (y : ℕ) → Done x (f r y)) → Done x (at_spot sp f)
done_spot x (Inside r y) f d = d r y
done_spot x (Refused kind) f d = record { is = inr refl }
done_spot x Hidden f d = record { is = inr refl }

shows : {x : ℕ} → Done x StepObserves
shows = record { is = inr refl }

stops : {x : ℕ} {kind : TrapKind} → Done x (Stop kind)
stops = record { is = inr refl }

module _ (c : Script) (s : SymState) (x : ℕ) where
  abbrev Wrote : List ℕ → SymEffect → Type 0
  Wrote reads e = Among reads x ⊎ (x ≡ 31) ⊎ Done x e

  set_done : (r : ℕ) → r ≡ x → (v : Value) → Done x (Set r v)
  set_done r h v = record { is = inl (inl h) }

  load_done : (op : MemOp) (ra : ℕ) → ra ≡ x → (v : Value) → Done x (load c s op ra v)
  load_done op ra h v = search (done_spot, done_with, set_done ra h)

  memory_done : (a : Access) (op : MemOp) (ra : ℕ) (base : Value) (disp : ℤ) → Among (memory_writes a ra) x → (x ≡ 31) ⊎ Done x (memory_effect c s a op ra base disp)
  memory_done Address op ra base disp (inl h) = inr (search (done_with, set_done ra h))
  memory_done Load op ra base disp (inl h) = by_case (ra == 31) refl
    where
      by_case :
          (b : Bool) → (ra == 31) ≡ b →
          (x ≡ 31) ⊎ Done x (cond b Nothing (with_value (lifted_add base disp) (λ v. load c s op ra (accessed op v))))
      by_case true e = inl (sym h ∙ eqb-true _ _ e)
      by_case false e = inr (search (done_with, load_done op ra h))
  memory_done Address op ra base disp (inr h) = absurd h
  memory_done Load op ra base disp (inr h) = absurd h
  memory_done Stores op ra base disp h = absurd h

  jump_done : (ra : ℕ) (v : Value) → ra ≡ x → Done x (jump_effect c s ra v)
  jump_done ra (Code q) h = done_if x (c.lands q) (Jump (Some ra) q) StepObserves (record { is = inl (inl h) }) shows
  jump_done ra (Num n) h = search (done_if, stops, shows)
  jump_done ra v h = shows

  call_done : (call : Call) (a1 : Value) → Among (0 ∷ 19 ∷ []) x → Done x (Calls call a1)
  call_done (Exits status) a1 h = record { is = inr refl }
  call_done CallObserves a1 h = record { is = inr refl }
  call_done call a1 h = record { is = inl h }

  plain_done : (i : Instr) → Among (act_writes (Plain i)) x → Wrote (act_keeps (Plain i)) (plain_effect c s i)
  plain_done (Mem op ra rb disp) h = inr (memory_done (access_of op) op ra _ disp h)
  plain_done (Jumps kind ra rb hint) (inl h) = inr (inr (jump_done ra (read_reg s.regs rb) h))
  plain_done (Branch op ra disp) h = inr (inr shows)
  plain_done (Alu op ra rb rc) (inl h) = inr (inr (search (done_if, stops, done_with, set_done rc h)))
  plain_done (Cmov k ra rb rc) (inl h) = inl (inl h)
  plain_done Callsys h = inr (inr (call_done _ _ h))
  plain_done (Jumps kind ra rb hint) (inr h) = absurd h
  plain_done (Alu op ra rb rc) (inr h) = absurd h
  plain_done (Cmov k ra rb rc) (inr h) = absurd h
  plain_done (Misc op ra rb) h = absurd h
  plain_done Fnop h = absurd h
  plain_done Halt h = absurd h

  needs_done : (b : Bool) (e : SymEffect) → (x ≡ 31) ⊎ Done x e → (x ≡ 31) ⊎ Done x (cond b e StepObserves)
  needs_done true e d = d
  needs_done false e d = inr shows

  used_done : (i : Instr) (t : Target) → Among (regs_written i) x → (x ≡ 31) ⊎ Done x (used_effect c s i t)
  used_done (Mem op ra rb disp) t h = memory_done (access_of op) op ra _ disp h
  used_done i t h = inr shows

  pub act_done : (at : Place) (a : Act) → Among (act_writes a) x → Wrote (act_keeps a) (act_effect c s at a)
  act_done at (Plain i) h = plain_done i h
  act_done at (Lit ra rb t) (inl h) = inr (by_case (ra == 31) refl)
    where
      by_case : (b : Bool) → (ra == 31) ≡ b → (x ≡ 31) ⊎ Done x (cond b Nothing (needs c s rb (Gp (c.table at.obj)) (Set ra (value_of t))))
      by_case true e = inl (sym h ∙ eqb-true _ _ e)
      by_case false e = needs_done _ _ (inr (set_done ra h _))
  act_done at (GpHi ra rb base) (inl h) = inr (needs_done _ _ (inr (set_done ra h _)))
  act_done at (GpLo ra rb hi) (inl h) = inr (needs_done _ _ (inr (set_done ra h _)))
  act_done at (To op ra to) h = inr (inr (branch_done op h))
    where
      branch_done : (op : BrOp) → Among (act_writes (To op ra to)) x → Done x (branch_effect c s op ra to)
      branch_done Br h = record { is = inl h }
      branch_done Bsr h = record { is = inl h }
      branch_done (If k) h = absurd h
  act_done at (AddrLda ra rb t) (inl h) = inr (inr (search (done_if, set_done ra h, shows)))
  act_done at (AddrHi ra rb t) (inl h) = inr (by_case (ra == 31) refl)
    where
      by_case : (b : Bool) → (ra == 31) ≡ b → (x ≡ 31) ⊎ Done x (cond b Nothing (needs c s rb (Gp (c.table at.obj)) (Set ra (Half at))))
      by_case true e = inl (sym h ∙ eqb-true _ _ e)
      by_case false e = needs_done _ _ (inr (set_done ra h _))
  act_done at (UseLo i hi t) h = inr (needs_done _ _ (used_done i t h))
  act_done at (UseGp i gp t) h = inr (needs_done _ _ (used_done i t h))
  act_done at Wrong h = absurd h
  act_done at (Lit ra rb t) (inr h) = absurd h
  act_done at (GpHi ra rb base) (inr h) = absurd h
  act_done at (GpLo ra rb hi) (inr h) = absurd h
  act_done at (AddrLda ra rb t) (inr h) = absurd h
  act_done at (AddrHi ra rb t) (inr h) = absurd h
