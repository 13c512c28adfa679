-- A word writes no other registers than those said.
use Rattle.std.proofs.Common.{◌≡◌, inl, inr, ℕ, Bool, true, false, cond, ◌&&◌, ◌==◌, List, [], ◌∷◌, length, Option, Some, None, refl, sym, ◌∙◌}
use Rattle.std.specs.Prelude.{not, ℤ, take}
use Rattle.std.proofs.lemmas.Bool.{true≢false, eqb-true}
use Rattle.om_alpha.specs.declared.op.TrapKind.{TrapKind}
use Rattle.om_isa.specs.declared.instr.MemOp.{MemOp}
use Rattle.om_isa.specs.declared.instr.BrOp.{BrOp}
use Rattle.om_isa.specs.declared.instr.BrOp.TheVariants.{Br, Bsr, If}
use Rattle.om_isa.specs.declared.instr.Instr.{Instr}
use Rattle.om_isa.specs.declared.instr.Instr.TheVariants.{Mem, Jump as Jumps, Branch, Alu, Cmov, Misc, Fnop, Halt, Callsys}
use Rattle.om_isa.specs.declared.instr.Access.{Access}
use Rattle.om_isa.specs.declared.instr.Access.TheVariants.{Address, Load, Store as Stores}
use Rattle.om_isa.specs.Registers.{access_of, memory_writes, regs_written}
use Rattle.om_isa.specs.Effect.{Nothing, Set, Store, Jump, Stop, Calls, StepObserves, with_value}
use Rattle.om_isa.specs.SystemCall.{Call, Exits, Answers, Puts, Takes, HeapEnd, Resizes, CallObserves}
use Rattle.om_value.specs.declared.value.Place.{Place}
use Rattle.om_value.specs.declared.value.Region.{Region}
use Rattle.om_value.specs.declared.value.Region.TheVariants.{Heap}
use Rattle.om_value.specs.declared.value.Target.{Target}
use Rattle.om_value.specs.declared.value.Value.{Value}
use Rattle.om_value.specs.declared.value.Value.TheVariants.{Num, Ptr, Code}
use Rattle.om_value.specs.Lift.{value_of}
use Rattle.om_prog.specs.Act.{Act, Plain, Lit, GpHi, GpLo, To, AddrLda, AddrHi, UseLo, UseGp, Wrong, Script, act_writes}
use Rattle.om_prog.specs.Step.{SymState, SymEffect, Write, Spot, Inside, Refused, Hidden, read_reg, write_reg, next_place, act_effect, plain_effect, memory_effect, branch_effect, jump_effect, used_effect, load, store, at_spot, after}
use Rattle.om_prog.specs.Flow.{Among, call_writes, effect_writes, effect_ends, call_ends}

-- a register that is not store_cells
pub unwritten : (rs : ℕ → Value) (r : ℕ) (v : Value) (x : ℕ) → (r ≡ x → ⊥) → read_reg (write_reg rs r v) x ≡ read_reg rs x
unwritten rs r v x n = by_case (x == 31) (x == r) refl
  where
    by_case : (a b : Bool) → (x == r) ≡ b → cond a (Num 0) (cond (b && not (r == 31)) v (rs x)) ≡ cond a (Num 0) (rs x)
    by_case true b e = refl
    by_case false true e = absurd (n (sym (eqb-true x r e)))
    by_case false false e = refl

module _ (s : SymState) (at : Place) (x : ℕ) where
  answered_other : (v0 : Value) (a3 : ℕ) → (Among (0 ∷ 19 ∷ []) x → ⊥) → read_reg (write_reg (write_reg s.regs 0 v0) 19 (Num a3)) x ≡ read_reg s.regs x
  answered_other v0 a3 n = unwritten (write_reg s.regs 0 v0) 19 (Num a3) x (λ e. n (inr (inl e))) ∙ unwritten s.regs 0 v0 x (λ e. n (inl e))

  call_other : (call : Call) (a1 : Value) → (Among (call_writes call) x → ⊥) → read_reg (after s at (Calls call a1)).regs x ≡ read_reg s.regs x
  call_other (Exits status) a1 n = refl
  call_other CallObserves a1 n = refl
  call_other (Answers v0 a3) a1 n = answered_other (Num v0) a3 n
  call_other (Puts d bytes) a1 n = answered_other (Num (length bytes)) 0 n
  call_other (Takes m) a1 n = answered_other (Num (length (take m s.input))) 0 n
  call_other (HeapEnd m) a1 n = answered_other (Ptr Heap m) 0 n
  call_other (Resizes m) a1 n = answered_other (Num 0) 0 n

  pub after_other : (e : SymEffect) → (Among (effect_writes e) x → ⊥) → read_reg (after s at e).regs x ≡ read_reg s.regs x
  after_other Nothing n = refl
  after_other (Set r v) n = unwritten s.regs r v x (λ e. n (inl e))
  after_other (Store w) n = refl
  after_other (Jump None q) n = refl
  after_other (Jump (Some r) q) n = unwritten s.regs r (Code (next_place at)) x (λ e. n (inl e))
  after_other (Stop kind) n = refl
  after_other (Calls call a1) n = call_other call a1 n
  after_other StepObserves n = refl

-- an effect that ends the run writes nothing
call_silent : (call : Call) (x : ℕ) → call_ends call ≡ true → Among (call_writes call) x → ⊥
call_silent (Exits status) x h m = m
call_silent CallObserves x h m = m
call_silent (Answers v0 a3) x h m = true≢false (sym h)
call_silent (Puts d bytes) x h m = true≢false (sym h)
call_silent (Takes n) x h m = true≢false (sym h)
call_silent (HeapEnd o) x h m = true≢false (sym h)
call_silent (Resizes n) x h m = true≢false (sym h)

pub end_silent : (e : SymEffect) (x : ℕ) → effect_ends e ≡ true → Among (effect_writes e) x → ⊥
end_silent (Stop kind) x h m = m
end_silent (Calls call a1) x h m = call_silent call x h m
end_silent StepObserves x h m = m
end_silent Nothing x h m = m
end_silent (Set r v) x h m = true≢false (sym h)
end_silent (Store w) x h m = m
end_silent (Jump link q) x h m = true≢false (sym h)

-- what an effect writes is among these registers
pub record Only (ws : List ℕ) (e : SymEffect) : Type 0 where
  pub is : (x : ℕ) → Among (effect_writes e) x → Among ws x

module _ (ws : List ℕ) where
  only_if : (b : Bool) (e f : SymEffect) → Only ws e → Only ws f → Only ws (cond b e f)
  only_if true e f d g = d
  only_if false e f d g = g

  only_with : {A : Type 0} (o : Option A) (f : A → SymEffect) → ((a : A) → Only ws (f a)) → Only ws (with_value o f)
  only_with None f d = record { is = λ x h. absurd h }
  only_with (Some a) f d = d a

  only_spot : (sp : Spot) (f : Region → ℕ → SymEffect) → ((r : Region) (y : ℕ) → Only ws (f r y)) → Only ws (at_spot sp f)
  only_spot (Inside r y) f d = d r y
  only_spot (Refused kind) f d = record { is = λ x h. absurd h }
  only_spot Hidden f d = record { is = λ x h. absurd h }

  only_nothing : Only ws Nothing
  only_nothing = record { is = λ x h. absurd h }

  only_store : (w : Write) → Only ws (Store w)
  only_store w = record { is = λ x h. absurd h }

  only_stop : (kind : TrapKind) → Only ws (Stop kind)
  only_stop kind = record { is = λ x h. absurd h }

  only_shows : Only ws StepObserves
  only_shows = record { is = λ x h. absurd h }

only_set : (r : ℕ) (v : Value) → Only (r ∷ []) (Set r v)
only_set r v = record { is = λ x h. h }

only_jump : (r : ℕ) (q : Place) → Only (r ∷ []) (Jump (Some r) q)
only_jump r q = record { is = λ x h. h }

only_go : (ws : List ℕ) (q : Place) → Only ws (Jump None q)
only_go ws q = record { is = λ x h. absurd h }

only_call : (call : Call) (a1 : Value) → Only (0 ∷ 19 ∷ []) (Calls call a1)
only_call (Exits status) a1 = record { is = λ x h. absurd h }
only_call CallObserves a1 = record { is = λ x h. absurd h }
only_call (Answers v0 a3) a1 = record { is = λ x h. h }
only_call (Puts d bytes) a1 = record { is = λ x h. h }
only_call (Takes n) a1 = record { is = λ x h. h }
only_call (HeapEnd m) a1 = record { is = λ x h. h }
only_call (Resizes n) a1 = record { is = λ x h. h }

module _ (c : Script) (s : SymState) where
  load_only : (op : MemOp) (ra : ℕ) (v : Value) → Only (ra ∷ []) (load c s op ra v)
  load_only op ra v = search (only_spot, only_with, only_set)

  store_only : (op : MemOp) (w v : Value) → Only [] (store c s op w v)
  store_only op w v = search (only_spot, only_with, only_store)

  memory_only : (a : Access) (op : MemOp) (ra : ℕ) (base : Value) (disp : ℤ) → Only (memory_writes a ra) (memory_effect c s a op ra base disp)
  memory_only Address op ra base disp = search (only_with, only_set)
  memory_only Load op ra base disp = search (only_if, only_with, only_nothing, load_only)
  memory_only Stores op ra base disp = search (only_with, store_only)

  jump_only : (ra : ℕ) (v : Value) → Only (ra ∷ []) (jump_effect c s ra v)
  jump_only ra (Code q) = only_if (ra ∷ []) (c.lands q) (Jump (Some ra) q) StepObserves (only_jump ra q) (only_shows (ra ∷ []))
  jump_only ra (Num n) = search (only_if, only_stop, only_shows)
  jump_only ra v = only_shows (ra ∷ [])

  plain_only : (i : Instr) → Only (regs_written i) (plain_effect c s i)
  plain_only (Mem op ra rb disp) = memory_only (access_of op) op ra (read_reg s.regs rb) disp
  plain_only (Jumps kind ra rb hint) = jump_only ra (read_reg s.regs rb)
  plain_only (Branch op ra disp) = only_shows _
  plain_only (Alu op ra rb rc) = search (only_if, only_stop, only_with, only_set)
  plain_only (Cmov k ra rb rc) = search (only_with, only_if, only_set, only_nothing)
  plain_only (Misc op ra rb) = only_nothing _
  plain_only Fnop = only_nothing _
  plain_only Halt = only_stop _ _
  plain_only Callsys = only_call _ _

  used_only : (i : Instr) (t : Target) → Only (regs_written i) (used_effect c s i t)
  used_only (Mem op ra rb disp) t = memory_only (access_of op) op ra (value_of t) disp
  used_only i t = only_shows _

  branch_only : (at : Place) (op : BrOp) (ra : ℕ) (q : Place) → Only (act_writes (To op ra q)) (branch_effect c s op ra q)
  branch_only at Br ra q = only_jump ra q
  branch_only at Bsr ra q = only_jump ra q
  branch_only at (If k) ra q = search (only_with, only_if, only_go, only_nothing)

  pub act_only : (at : Place) (a : Act) → Only (act_writes a) (act_effect c s at a)
  act_only at (Plain i) = plain_only i
  act_only at (Lit ra rb t) = search (only_if, only_nothing, only_set, only_shows)
  act_only at (GpHi ra rb base) = search (only_if, only_set, only_shows)
  act_only at (GpLo ra rb hi) = search (only_if, only_set, only_shows)
  act_only at (To op ra q) = branch_only at op ra q
  act_only at (AddrLda ra rb t) = search (only_if, only_set, only_shows)
  act_only at (AddrHi ra rb t) = search (only_if, only_nothing, only_set, only_shows)
  act_only at (UseLo i hi t) = search (only_if, used_only, only_shows)
  act_only at (UseGp i gp t) = search (only_if, used_only, only_shows)
  act_only at Wrong = only_shows _
