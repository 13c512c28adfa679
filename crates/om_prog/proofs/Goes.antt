-- The state after a word: its codes are places of K, and its place is where the word may go.
use Rattle.std.proofs.Common.{◌≡◌, inl, inr, ℕ, ◌*◌, ◌/◌, Bool, true, false, cond, ◌&&◌, ◌==◌, List, length, map, Option, Some, None, refl, sym}
use Rattle.std.specs.Prelude.{not, ℤ, take, nat_lt}
use Rattle.std.proofs.lemmas.Bool.{true≢false, eq-eqb}
use Rattle.om_alpha.specs.declared.op.TrapKind.{TrapKind}
use Rattle.om_alpha.specs.declared.op.TrapKind.TheVariants as trap
use Rattle.om_alpha.specs.declared.op.Cond.{Cond as BrCond}
use Rattle.om_isa.specs.declared.instr.JumpOp.{JumpOp}
use Rattle.om_isa.specs.declared.instr.MemOp.{MemOp}
use Rattle.om_isa.specs.declared.instr.BrOp.{BrOp}
use Rattle.om_isa.specs.declared.instr.BrOp.TheVariants.{Br, Bsr, If}
use Rattle.om_isa.specs.declared.instr.Instr.{Instr}
use Rattle.om_isa.specs.declared.instr.Instr.TheVariants.{Mem, Jump as Jumps, Branch, Alu, Cmov, Misc, Fnop, Halt, Callsys}
use Rattle.om_isa.specs.declared.instr.Access.{Access}
use Rattle.om_isa.specs.declared.instr.Access.TheVariants.{Address, Load, Store as Stores}
use Rattle.om_isa.specs.Registers.{access_of}
use Rattle.om_isa.specs.Effect.{Nothing, Set, Store, Jump, Stop, Calls, StepObserves, with_value}
use Rattle.om_isa.specs.SystemCall.{Call, Exits, Answers, Puts, Takes, HeapEnd, Resizes, CallObserves}
use Rattle.om_value.specs.declared.value.Place.{Place}
use Rattle.om_value.specs.declared.value.Region.{Region}
use Rattle.om_value.specs.declared.value.Region.TheVariants.{Sec, Common, Stack, Heap}
use Rattle.om_value.specs.declared.value.Target.{Target}
use Rattle.om_value.specs.declared.value.Value.{Value}
use Rattle.om_value.specs.declared.value.Value.TheVariants.{Num, Ptr, Code, Gp, Half, GpOff}
use Rattle.om_value.specs.Lift.{lifted_condition, value_of}
use Rattle.om_prog.specs.Cells.{Cell, Byte}
use Rattle.om_prog.specs.Act.{Act, Plain, Lit, GpHi, GpLo, To, AddrLda, AddrHi, UseLo, UseGp, Wrong, Script}
use Rattle.om_prog.specs.Step.{SymState, SymEffect, Spot, Inside, Refused, Hidden, read_reg, write_reg, next_place, act_effect, plain_effect, memory_effect, branch_effect, jump_effect, used_effect, test_effect, load, store, Write, region_size, at_spot, after, writes_cells, taken_cells, resized_cells}
use Rattle.om_prog.specs.Flow.{effect_ends, call_ends, effect_place, GoesTo, act_falls, act_jumps}
use Rattle.om_prog.specs.Within.{ValueWithin, CellWithin, StateWithin, LinkWithin}
use Rattle.om_prog.proofs.Codes.{CellsWithin, IsWithin, written_within, pick_within, map_within, read_within}

module _ (K : Place → Type 0) (s : SymState) (fine : StateWithin K s) (at : Place) where
  choose_within : (b : Bool) (v w : Value) → ValueWithin K v → ValueWithin K w → ValueWithin K (cond b v w)
  choose_within true v w f g = f
  choose_within false v w f g = g

  write_within : (rs : ℕ → Value) (r : ℕ) (v : Value) → ((x : ℕ) → ValueWithin K (rs x)) → ValueWithin K v → (x : ℕ) → ValueWithin K (write_reg rs r v x)
  write_within rs r v f g x = choose_within _ v (rs x) g (f x)

  link_within : (r : ℕ) → LinkWithin K r at → (x : ℕ) → ValueWithin K (write_reg s.regs r (Code (next_place at)) x)
  link_within r (inr k) x = write_within s.regs r (Code (next_place at)) fine.regs k x
  link_within r (inl e) x = by_case (x == r) (r == 31) (eq-eqb r 31 e)
    where
      by_case : (b d : Bool) → d ≡ true → ValueWithin K (cond (b && not d) (Code (next_place at)) (s.regs x))
      by_case true true e = fine.regs x
      by_case false d e = fine.regs x
      by_case true false e = absurd (true≢false (sym e))

  region_within : (r : Region) (y : ℕ) (cs : List Cell) → CellsWithin K cs → (q : Region) (x : ℕ) → CellWithin K (writes_cells s at (r, y, cs) q x)
  region_within r y cs f q x = pick_within K _ _ _ (written_within K (s.cells q) y cs (fine.cells q) f x) (fine.cells q x)

  answered_within : (v0 : Value) (a3 : ℕ) → ValueWithin K v0 → (x : ℕ) → ValueWithin K (write_reg (write_reg s.regs 0 v0) 19 (Num a3) x)
  answered_within v0 a3 f x = write_within (write_reg s.regs 0 v0) 19 (Num a3) (write_within s.regs 0 v0 fine.regs f) tt x

  taken_within : (bytes : List ℕ) (a1 : Value) (q : Region) (x : ℕ) → CellWithin K (taken_cells s at bytes a1 q x)
  taken_within bytes (Ptr r y) q x = region_within r y (map (λ b. Byte b) bytes) (map_within K bytes) q x
  taken_within bytes (Num n) q x = fine.cells q x
  taken_within bytes (Code p) q x = fine.cells q x
  taken_within bytes (Gp o) q x = fine.cells q x
  taken_within bytes (Half p) q x = fine.cells q x
  taken_within bytes (GpOff o t) q x = fine.cells q x

  resized_within : (n : ℕ) (r : Region) (x : ℕ) → CellWithin K (resized_cells s at n r x)
  resized_within n Heap x = pick_within K _ (s.cells Heap x) (Byte 0) (fine.cells Heap x) tt
  resized_within n Stack x = fine.cells Stack x
  resized_within n (Sec o k) x = fine.cells (Sec o k) x
  resized_within n (Common q) x = fine.cells (Common q) x

  call_within : (call : Call) (a1 : Value) → StateWithin K (after s at (Calls call a1))
  call_within (Exits status) a1 = record { regs = fine.regs; cells = fine.cells }
  call_within CallObserves a1 = record { regs = fine.regs; cells = fine.cells }
  call_within (Answers v0 a3) a1 = record { regs = answered_within (Num v0) a3 tt; cells = fine.cells }
  call_within (Puts d bytes) a1 = record { regs = answered_within (Num (length bytes)) 0 tt; cells = fine.cells }
  call_within (Takes n) a1 = record { regs = answered_within (Num (length (take n s.input))) 0 tt; cells = taken_within (take n s.input) a1 }
  call_within (HeapEnd m) a1 = record { regs = answered_within (Ptr Heap m) 0 tt; cells = fine.cells }
  call_within (Resizes n) a1 = record { regs = answered_within (Num 0) 0 tt; cells = resized_within n }

  pub after_within : (e : SymEffect) → IsWithin K at e → StateWithin K (after s at e)
  after_within Nothing f = record { regs = fine.regs; cells = fine.cells }
  after_within (Set r v) f = record { regs = write_within s.regs r v fine.regs f.is; cells = fine.cells }
  after_within (Store w) f = record { regs = fine.regs; cells = region_within w.0 w.1 w.2 f.is }
  after_within (Jump None q) f = record { regs = fine.regs; cells = fine.cells }
  after_within (Jump (Some r) q) f = record { regs = link_within r f.is; cells = fine.cells }
  after_within (Stop kind) f = record { regs = fine.regs; cells = fine.cells }
  after_within (Calls call a1) f = call_within call a1
  after_within StepObserves f = record { regs = fine.regs; cells = fine.cells }

-- ---- where a run goes

pub record WentOn (s : SymState) (at : Place) (e : SymEffect) : Type 0 where
  pub place : (after s at e).place ≡ effect_place at e
  pub ended : (after s at e).ended ≡ s.ended

module _ (s : SymState) (at : Place) where
  call_went : (call : Call) (a1 : Value) → call_ends call ≡ false → WentOn s at (Calls call a1)
  call_went (Exits status) a1 h = absurd (true≢false h)
  call_went CallObserves a1 h = absurd (true≢false h)
  call_went (Answers v0 a3) a1 h = record { place = refl; ended = refl }
  call_went (Puts d bytes) a1 h = record { place = refl; ended = refl }
  call_went (Takes n) a1 h = record { place = refl; ended = refl }
  call_went (HeapEnd m) a1 h = record { place = refl; ended = refl }
  call_went (Resizes n) a1 h = record { place = refl; ended = refl }

  pub after_went : (e : SymEffect) → effect_ends e ≡ false → WentOn s at e
  after_went Nothing h = record { place = refl; ended = refl }
  after_went (Set r v) h = record { place = refl; ended = refl }
  after_went (Store w) h = record { place = refl; ended = refl }
  after_went (Jump None q) h = record { place = refl; ended = refl }
  after_went (Jump (Some r) q) h = record { place = refl; ended = refl }
  after_went (Stop kind) h = absurd (true≢false h)
  after_went (Calls call a1) h = call_went call a1 h
  after_went StepObserves h = absurd (true≢false h)

  call_stays : (call : Call) (a1 : Value) → call_ends call ≡ true → (after s at (Calls call a1)).place ≡ s.place
  call_stays (Exits status) a1 h = refl
  call_stays CallObserves a1 h = refl
  call_stays (Answers v0 a3) a1 h = absurd (true≢false (sym h))
  call_stays (Puts d bytes) a1 h = absurd (true≢false (sym h))
  call_stays (Takes n) a1 h = absurd (true≢false (sym h))
  call_stays (HeapEnd m) a1 h = absurd (true≢false (sym h))
  call_stays (Resizes n) a1 h = absurd (true≢false (sym h))

  pub after_stays : (e : SymEffect) → effect_ends e ≡ true → (after s at e).place ≡ s.place
  after_stays (Stop kind) h = refl
  after_stays (Calls call a1) h = call_stays call a1 h
  after_stays StepObserves h = refl
  after_stays Nothing h = absurd (true≢false (sym h))
  after_stays (Set r v) h = absurd (true≢false (sym h))
  after_stays (Store w) h = absurd (true≢false (sym h))
  after_stays (Jump None q) h = absurd (true≢false (sym h))
  after_stays (Jump (Some r) q) h = absurd (true≢false (sym h))

  call_over : (call : Call) (a1 : Value) → call_ends call ≡ true → (after s at (Calls call a1)).ended ≡ None → ⊥
  call_over (Exits status) a1 h o = cc
  call_over CallObserves a1 h o = cc
  call_over (Answers v0 a3) a1 h o = absurd (true≢false (sym h))
  call_over (Puts d bytes) a1 h o = absurd (true≢false (sym h))
  call_over (Takes n) a1 h o = absurd (true≢false (sym h))
  call_over (HeapEnd m) a1 h o = absurd (true≢false (sym h))
  call_over (Resizes n) a1 h o = absurd (true≢false (sym h))

  -- a run that has not ended has not ended by this effect
  pub after_over : (e : SymEffect) → effect_ends e ≡ true → (after s at e).ended ≡ None → ⊥
  after_over (Stop kind) h o = cc
  after_over (Calls call a1) h o = call_over call a1 h o
  after_over StepObserves h o = cc
  after_over Nothing h o = absurd (true≢false (sym h))
  after_over (Set r v) h o = absurd (true≢false (sym h))
  after_over (Store w) h o = absurd (true≢false (sym h))
  after_over (Jump None q) h o = absurd (true≢false (sym h))
  after_over (Jump (Some r) q) h o = absurd (true≢false (sym h))

-- an effect that does not jump
pub record Falls (at : Place) (e : SymEffect) : Type 0 where
  pub is : effect_place at e ≡ next_place at

module _ (at : Place) where
  falls_if : (b : Bool) (e f : SymEffect) → Falls at e → Falls at f → Falls at (cond b e f)
  falls_if true e f d g = d
  falls_if false e f d g = g

  falls_with : {A : Type 0} (o : Option A) (f : A → SymEffect) → ((a : A) → Falls at (f a)) → Falls at (with_value o f)
  falls_with None f d = record { is = refl }
  falls_with (Some a) f d = d a

  falls_spot : (sp : Spot) (f : Region → ℕ → SymEffect) → ((r : Region) (y : ℕ) → Falls at (f r y)) → Falls at (at_spot sp f)
  falls_spot (Inside r y) f d = d r y
  falls_spot (Refused kind) f d = record { is = refl }
  falls_spot Hidden f d = record { is = refl }

  nothing_falls : Falls at Nothing
  nothing_falls = record { is = refl }

  set_falls : (r : ℕ) (v : Value) → Falls at (Set r v)
  set_falls r v = record { is = refl }

  store_falls : (w : Write) → Falls at (Store w)
  store_falls w = record { is = refl }

  stop_falls : (kind : TrapKind) → Falls at (Stop kind)
  stop_falls kind = record { is = refl }

  shows_falls : Falls at StepObserves
  shows_falls = record { is = refl }

  module _ (c : Script) (s : SymState) where
    load_falls : (op : MemOp) (ra : ℕ) (v : Value) → Falls at (load c s op ra v)
    load_falls op ra v = search (falls_spot, falls_with, set_falls)

    store_op_falls : (op : MemOp) (w v : Value) → Falls at (store c s op w v)
    store_op_falls op w v = search (falls_spot, falls_with, store_falls)

    memory_falls : (a : Access) (op : MemOp) (ra : ℕ) (base : Value) (disp : ℤ) → Falls at (memory_effect c s a op ra base disp)
    memory_falls Address op ra base disp = search (falls_with, set_falls)
    memory_falls Load op ra base disp = search (falls_if, falls_with, nothing_falls, load_falls)
    memory_falls Stores op ra base disp = search (falls_with, store_op_falls)

    used_falls : (i : Instr) (t : Target) → Falls at (used_effect c s i t)
    used_falls (Mem op ra rb disp) t = memory_falls (access_of op) op ra (value_of t) disp
    used_falls i t = shows_falls

    goes_to : (K : Place → Type 0) (a : Act) (e : SymEffect) → act_falls a → Falls at e → GoesTo K (record { at = at; act = a }) (effect_place at e)
    goes_to K a e f d = inl (f, sym d.is)

    module _ (K : Place → Type 0) (fine : StateWithin K s) where
      abbrev Leads : Act → SymEffect → Type 0
      Leads a e = effect_ends e ≡ false → GoesTo K (record { at = at; act = a }) (effect_place at e)

      code_leads : (a : Act) (ra : ℕ) (q : Place) (b : Bool) → act_jumps K a q → Leads a (cond b (Jump (Some ra) q) StepObserves)
      code_leads a ra q true k h = inr k
      code_leads a ra q false k h = absurd (true≢false h)

      stop_leads : (a : Act) (kind : TrapKind) (b : Bool) → Leads a (cond b (Stop kind) StepObserves)
      stop_leads a kind true h = absurd (true≢false h)
      stop_leads a kind false h = absurd (true≢false h)

      jump_leads : (kind : JumpOp) (ra rb hint : ℕ) (v : Value) → ValueWithin K v → Leads (Plain (Jumps kind ra rb hint)) (jump_effect c s ra v)
      jump_leads kind ra rb hint (Code q) f h = code_leads (Plain (Jumps kind ra rb hint)) ra q (c.lands q) f h
      jump_leads kind ra rb hint (Num n) f h = stop_leads (Plain (Jumps kind ra rb hint)) trap.Access (nat_lt (n / 4 * 4) 0x10000) h
      jump_leads kind ra rb hint v f h = absurd (true≢false h)

      plain_leads : (i : Instr) → Leads (Plain i) (plain_effect c s i)
      plain_leads (Mem op ra rb disp) h = goes_to K (Plain (Mem op ra rb disp)) (plain_effect c s (Mem op ra rb disp)) tt (memory_falls (access_of op) op ra (read_reg s.regs rb) disp)
      plain_leads (Jumps kind ra rb hint) h = jump_leads kind ra rb hint (read_reg s.regs rb) (read_within K c s fine at rb) h
      plain_leads (Branch op ra disp) h = absurd (true≢false h)
      plain_leads (Alu op ra rb rc) h = goes_to K (Plain (Alu op ra rb rc)) (plain_effect c s (Alu op ra rb rc)) tt (search (falls_if, stop_falls, falls_with, set_falls))
      plain_leads (Cmov k ra rb rc) h = goes_to K (Plain (Cmov k ra rb rc)) (plain_effect c s (Cmov k ra rb rc)) tt (search (falls_with, falls_if, set_falls, nothing_falls))
      plain_leads (Misc op ra rb) h = inl (tt, refl)
      plain_leads Fnop h = inl (tt, refl)
      plain_leads Halt h = absurd (true≢false h)
      plain_leads Callsys h = inl (tt, refl)

      test_leads : (k : BrCond) (ra : ℕ) (q : Place) (o : Option Bool) → Leads (To (If k) ra q) (test_effect c s o (Jump None q))
      test_leads k ra q None h = absurd (true≢false h)
      test_leads k ra q (Some true) h = inr refl
      test_leads k ra q (Some false) h = inl (tt, refl)

      branch_leads : (op : BrOp) (ra : ℕ) (q : Place) → Leads (To op ra q) (branch_effect c s op ra q)
      branch_leads Br ra q h = inr refl
      branch_leads Bsr ra q h = inr refl
      branch_leads (If k) ra q h = test_leads k ra q (lifted_condition k (read_reg s.regs ra) (region_size c s (read_reg s.regs ra))) h

      pub act_leads : (a : Act) → Leads a (act_effect c s at a)
      act_leads (Plain i) h = plain_leads i h
      act_leads (Lit ra rb t) h = goes_to K ((Lit ra rb t)) (act_effect c s at (Lit ra rb t)) tt (search (falls_if, nothing_falls, set_falls, shows_falls))
      act_leads (GpHi ra rb base) h = goes_to K ((GpHi ra rb base)) (act_effect c s at (GpHi ra rb base)) tt (search (falls_if, set_falls, shows_falls))
      act_leads (GpLo ra rb hi) h = goes_to K ((GpLo ra rb hi)) (act_effect c s at (GpLo ra rb hi)) tt (search (falls_if, set_falls, shows_falls))
      act_leads (To op ra q) h = branch_leads op ra q h
      act_leads (AddrLda ra rb t) h = goes_to K ((AddrLda ra rb t)) (act_effect c s at (AddrLda ra rb t)) tt (search (falls_if, set_falls, shows_falls))
      act_leads (AddrHi ra rb t) h = goes_to K ((AddrHi ra rb t)) (act_effect c s at (AddrHi ra rb t)) tt (search (falls_if, nothing_falls, set_falls, shows_falls))
      act_leads (UseLo i hi t) h = goes_to K ((UseLo i hi t)) (act_effect c s at (UseLo i hi t)) tt (search (falls_if, used_falls, shows_falls))
      act_leads (UseGp i gp t) h = goes_to K ((UseGp i gp t)) (act_effect c s at (UseGp i gp t)) tt (search (falls_if, used_falls, shows_falls))
      act_leads Wrong h = absurd (true≢false h)
