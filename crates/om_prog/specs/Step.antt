-- One step of the symbolic machine over a script. What the instructions compute is the Alpha Architecture
-- Handbook's, chapter 4; what may be done with a value that has no number, and what traps, is this project's own.
-- Where a step would show an address it observes, and the run ends there.
use Rattle.std.specs.Prelude.{ℕ, ◌+◌, ◌*◌, ◌/◌, ◌%◌, ◌^◌, ℤ, pos, ◌*ℤ◌, Bool, true, false, not, ◌&&◌, ◌||◌, ◌==◌, nat_le, nat_lt, is_some, if◌then◌else◌, List, ◌++◌, length, drop, map, Option, Some, None}
use Rattle.om_alpha.specs.declared.op.AluOp.{AluOp}
use Rattle.om_alpha.specs.declared.op.Width.TheVariants as width
use Rattle.om_alpha.specs.declared.op.TrapKind.{TrapKind}
use Rattle.om_alpha.specs.declared.op.TrapKind.TheVariants as trap
use Rattle.om_alpha.specs.Arithmetic.{at_width, overflows}
use Rattle.om_isa.specs.declared.instr.MemOp.{MemOp}
use Rattle.om_isa.specs.declared.instr.MemOp.TheVariants.{Ldah, Ldbu, LdqU, Ldwu, Stw, Stb, StqU, Ldl, Stl}
use Rattle.om_isa.specs.declared.instr.BrOp.{BrOp}
use Rattle.om_isa.specs.declared.instr.BrOp.TheVariants.{Br, Bsr, If}
use Rattle.om_isa.specs.declared.instr.Opnd.{Opnd}
use Rattle.om_isa.specs.declared.instr.Opnd.TheVariants.{R, Lit as Literal}
use Rattle.om_isa.specs.declared.instr.Instr.{Instr}
use Rattle.om_isa.specs.declared.instr.Instr.TheVariants.{Mem, Jump as Jumps, Branch, Alu, Cmov, Misc, Fnop, Halt, Callsys}
use Rattle.om_isa.specs.declared.instr.Access.{Access}
use Rattle.om_isa.specs.declared.instr.Access.TheVariants.{Address, Load, Store as Stores}
use Rattle.om_isa.specs.Registers.{access_of}
use Rattle.om_isa.specs.SystemCall.{Reached, At, BadAddress, Observes, Call, Exits, Answers, Puts, Takes, HeapEnd, Resizes, CallObserves, HeapAsk, AsksEnd, AsksOffset, AsksOther, AskObserves, system_call, taken, resized}
use Rattle.om_isa.specs.Effect.{Effect, Nothing, Set, Store, Jump, Stop, Calls, StepObserves, with_value}
use Rattle.om_value.specs.declared.value.Place.{Place}
use Rattle.om_value.specs.declared.value.Region.{Region}
use Rattle.om_value.specs.declared.value.Region.TheVariants.{Heap}
use Rattle.om_value.specs.declared.value.Target.{Target}
use Rattle.om_value.specs.declared.value.Value.{Value}
use Rattle.om_value.specs.declared.value.Value.TheVariants.{Num, Ptr, Code, Gp, Half}
use Rattle.om_value.specs.Same.{value_eq, region_eq}
use Rattle.om_value.specs.Lift.{lifted, lifted_add, lifted_condition, value_of}
use Rattle.om_prog.specs.Cells.{Cell, Byte, all_bytes, bytes_of, cells_of, cells_from, load_cells, store_cells}
use Rattle.om_prog.specs.Act.{Act, Plain, Lit, GpHi, GpLo, To, AddrLda, AddrHi, UseLo, UseGp, Wrong, Script, base_of}

-- how a run has ended
pub data SymEnd : Type 0 where
  ExitedWith : (status : ℕ) → SymEnd
  TrappedAt : (kind : TrapKind) (place : Place) → SymEnd
  ObservedAt : (place : Place) → SymEnd

-- what a run is at: nothing in it is a numeric address
pub record SymState : Type 0 where
  pub regs : ℕ → Value
  pub place : Place
  pub cells : Region → ℕ → Cell
  -- the heap's size
  pub heap : ℕ
  pub input : List ℕ
  pub out : List ℕ
  pub err : List ℕ
  pub ended : Option SymEnd

-- a write to memory: a region, an offset in it and the cells
abbrev pub Write : Type 0
Write = Region × ℕ × List Cell

abbrev pub SymEffect : Type 0
SymEffect = Effect Value Place Write

-- register 31 reads as 0, and writes to it are lost (Handbook, chapter 3, "Registers")
abbrev pub read_reg : (ℕ → Value) → ℕ → Value
read_reg regs r = if r == 31 then Num 0 else regs r

abbrev pub write_reg : (ℕ → Value) → ℕ → Value → ℕ → Value
write_reg regs r v x = if (x == r) && not (r == 31) then v else regs x

abbrev pub next_place : Place → Place
next_place p = record p { off = p.off + 4 }

abbrev pub number : Value → Option ℕ
number (Num n) = Some n
number _ = None

-- ---- addresses

-- where an access goes: into a region, to a trap, or nowhere without showing an address
pub data Spot : Type 0 where
  Inside : (region : Region) (off : ℕ) → Spot
  Refused : TrapKind → Spot
  Hidden : Spot

-- an access of n bytes: alignment first, by the offset for a pointer, since regions are aligned; then what lies
-- below 0x10000, where nothing is mapped; then the region's bounds
abbrev pub spot_of : (Region → ℕ) → ℕ → Value → Spot
spot_of size n (Num a) =
    if a % n == 0 then (if nat_lt a 0x10000 then Refused trap.Access else Hidden) else Refused trap.Unaligned
spot_of size n (Ptr r x) =
    if x % n == 0 then (if nat_le (x + n) (size r) then Inside r x else Hidden) else Refused trap.Unaligned
spot_of size n _ = Hidden

abbrev pub at_spot : Spot → (Region → ℕ → SymEffect) → SymEffect
at_spot (Inside r x) f = f r x
at_spot (Refused kind) f = Stop kind
at_spot Hidden f = StepObserves

-- how many bytes an operation moves
abbrev pub access_size : MemOp → ℕ
access_size Ldbu = 1
access_size Stb = 1
access_size Ldwu = 2
access_size Stw = 2
access_size Ldl = 4
access_size Stl = 4
access_size _ = 8

-- LDQ_U and STQ_U clear the low three bits
abbrev pub rounded : Value → Value
rounded (Num n) = Num (n / 8 * 8)
rounded (Ptr r x) = Ptr r (x / 8 * 8)
rounded v = v

abbrev pub accessed : MemOp → Value → Value
accessed LdqU v = rounded v
accessed StqU v = rounded v
accessed _ v = v

-- what the displacement is multiplied by
abbrev pub address_scale : MemOp → ℤ
address_scale Ldah = pos 65536
address_scale _ = pos 1

-- LDL extends the sign of a number; LDBU and LDWU have zeros above it
abbrev pub extended : MemOp → Value → Value
extended Ldl (Num n) = Num (at_width width.Long n)
extended _ v = v

-- a number is stored as bytes, another value as eight fragments
abbrev pub stored : ℕ → Value → Option (List Cell)
stored n (Num m) = Some (bytes_of n m)
stored n v = if n == 8 then Some (cells_of 8 v) else None

-- the size of each region now, where the heap's is this
abbrev pub sized : (Region → ℕ) → ℕ → Region → ℕ
sized size heap Heap = heap
sized size heap r = size r

-- ---- what a word does

module _ (c : Script) (s : SymState) where
  abbrev pub reg : ℕ → Value
  reg r = read_reg s.regs r

  abbrev pub operand : Opnd → Value
  operand (R r) = reg r
  operand (Literal n) = Num n

  abbrev pub size_now : Region → ℕ
  size_now r = sized c.sizes s.heap r

  abbrev pub region_size : Value → ℕ
  region_size (Ptr r x) = size_now r
  region_size _ = 0

  abbrev pub load : MemOp → ℕ → Value → SymEffect
  load op ra v =
      at_spot (spot_of size_now (access_size op) v) (λ r x.
      with_value (load_cells (s.cells r) x (access_size op)) (λ w. Set ra (extended op w)))

  abbrev pub store : MemOp → Value → Value → SymEffect
  store op w v =
      at_spot (spot_of size_now (access_size op) v) (λ r x.
      with_value (stored (access_size op) w) (λ cs. Store (r, x, cs)))

  -- over what the base holds
  abbrev pub memory_effect : Access → MemOp → ℕ → Value → ℤ → SymEffect
  memory_effect Address op ra base disp = with_value (lifted_add base (address_scale op *ℤ disp)) (λ v. Set ra v)
  memory_effect Load op ra base disp =
      if ra == 31 then Nothing else with_value (lifted_add base disp) (λ v. load op ra (accessed op v))
  memory_effect Stores op ra base disp = with_value (lifted_add base disp) (λ v. store op (reg ra) (accessed op v))

  abbrev pub overflows_on : AluOp → Value → Value → Bool
  overflows_on op (Num m) (Num n) = overflows op m n
  overflows_on op _ _ = false

  abbrev pub alu_effect : AluOp → Value → Value → ℕ → SymEffect
  alu_effect op a b rc =
      if overflows_on op a b then Stop trap.Overflow
      else with_value (lifted op a (region_size a) b (region_size b)) (λ v. Set rc v)

  abbrev pub jump_effect : ℕ → Value → SymEffect
  jump_effect ra (Code q) = if c.lands q then Jump (Some ra) q else StepObserves
  jump_effect ra (Num n) = if nat_lt (n / 4 * 4) 0x10000 then Stop trap.Access else StepObserves
  jump_effect ra _ = StepObserves

  abbrev pub test_effect : Option Bool → SymEffect → SymEffect
  test_effect holds e = with_value holds (λ b. if b then e else Nothing)

  abbrev pub branch_effect : BrOp → ℕ → Place → SymEffect
  branch_effect Br ra q = Jump (Some ra) q
  branch_effect Bsr ra q = Jump (Some ra) q
  branch_effect (If cond) ra q = test_effect (lifted_condition cond (reg ra) (region_size (reg ra))) (Jump None q)

  -- n cells of a region, which reach no further than it
  abbrev pub range_at : Bool → Region → ℕ → ℕ → Reached Write
  range_at true r x n = At (r, x, cells_from (s.cells r) x n)
  range_at false r x n = Observes

  -- the n cells at a1
  abbrev pub reached : ℕ → Value → Reached Write
  reached n (Num a) = if nat_lt a 0x10000 then BadAddress else Observes
  reached n (Ptr r x) = range_at (nat_le (x + n) (size_now r)) r x n
  reached n _ = Observes

  abbrev pub bytes_or_observes : Option (List ℕ) → Reached (List ℕ)
  bytes_or_observes None = Observes
  bytes_or_observes (Some bytes) = At bytes

  -- the bytes to be written out
  abbrev pub bytes_reached : Reached Write → Reached (List ℕ)
  bytes_reached (At w) = bytes_or_observes (all_bytes w.2)
  bytes_reached BadAddress = BadAddress
  bytes_reached Observes = Observes

  -- the room for bytes that are read
  abbrev pub room_reached : Reached Write → Reached (Unit {0})
  room_reached (At w) = At tt
  room_reached BadAddress = BadAddress
  room_reached Observes = Observes

  -- what a0 asks of the heap
  abbrev pub heap_ask : Value → HeapAsk
  heap_ask (Num n) = if n == 0 then AsksEnd else if nat_lt n 0x10000 then AsksOther else AskObserves
  heap_ask (Ptr Heap x) = if nat_lt x (2 ^ 63) then AsksOffset x else AskObserves
  heap_ask _ = AskObserves

  -- the call with these in v0, a0, a1 and a2
  abbrev pub call_of : Value → Value → Value → Value → Call
  call_of v0 a0 a1 a2 =
      system_call
      (λ n. bytes_reached (reached n a1))
      (λ n. room_reached (reached n a1))
      (number v0)
      (number a0)
      (number a2)
      s.heap
      (heap_ask a0)

  abbrev pub plain_effect : Instr → SymEffect
  plain_effect (Mem op ra rb disp) = memory_effect (access_of op) op ra (reg rb) disp
  plain_effect (Jumps kind ra rb hint) = jump_effect ra (reg rb)
  plain_effect (Branch op ra disp) = StepObserves
  plain_effect (Alu op ra rb rc) = alu_effect op (reg ra) (operand rb) rc
  plain_effect (Cmov cond ra rb rc) =
      test_effect (lifted_condition cond (reg ra) (region_size (reg ra))) (Set rc (operand rb))
  plain_effect (Misc op ra rb) = Nothing
  plain_effect Fnop = Nothing
  plain_effect Halt = Stop trap.Halt
  plain_effect Callsys = Calls (call_of (reg 0) (reg 16) (reg 17) (reg 18)) (reg 17)

  -- where a register holds what a word needs
  abbrev pub needs : ℕ → Value → SymEffect → SymEffect
  needs r need e = if value_eq (reg r) need then e else StepObserves

  -- a load or store over a target
  abbrev pub used_effect : Instr → Target → SymEffect
  used_effect (Mem op ra rb disp) t = memory_effect (access_of op) op ra (value_of t) disp
  used_effect _ t = StepObserves

  abbrev pub is_number : Target → Bool
  is_number t = is_some (number (value_of t))

  abbrev pub act_effect : Place → Act → SymEffect
  act_effect at (Plain i) = plain_effect i
  act_effect at (Lit ra rb t) = if ra == 31 then Nothing else needs rb (Gp (c.table at.obj)) (Set ra (value_of t))
  act_effect at (GpHi ra rb base) = needs rb (Code base) (Set ra (Half at))
  act_effect at (GpLo ra rb hi) = needs rb (Half hi) (Set ra (Gp (c.table at.obj)))
  act_effect at (To op ra q) = branch_effect op ra q
  act_effect at (AddrLda ra rb t) =
      if (ra == 31) || (is_number t && (rb == 31)) then Set ra (value_of t)
      else needs rb (Gp (c.table at.obj)) (Set ra (value_of t))
  act_effect at (AddrHi ra rb t) = if ra == 31 then Nothing else needs rb (Gp (c.table at.obj)) (Set ra (Half at))
  act_effect at (UseLo i hi t) = needs (base_of i) (Half hi) (used_effect i t)
  act_effect at (UseGp i gp t) = needs gp (Gp (c.table at.obj)) (used_effect i t)
  act_effect at Wrong = StepObserves

-- ---- the state after an effect of the word at a place

module _ (s : SymState) (at : Place) where
  abbrev pub ends : SymEnd → SymState
  ends e = record s { ended = Some e }

  abbrev pub goes_on : SymState
  goes_on = record s { place = next_place at }

  abbrev pub sets : ℕ → Value → SymState
  sets r v = record s { place = next_place at; regs = write_reg s.regs r v }

  abbrev pub writes_cells : Write → Region → ℕ → Cell
  writes_cells w r x = if region_eq r w.0 then store_cells (s.cells r) w.1 w.2 x else s.cells r x

  abbrev pub jumps : Option ℕ → Place → SymState
  jumps None q = record s { place = q }
  jumps (Some r) q = record s { place = q; regs = write_reg s.regs r (Code (next_place at)) }

  -- v0 and a3 of a call
  abbrev pub answered : Value → ℕ → ℕ → Value
  answered v0 a3 = write_reg (write_reg s.regs 0 v0) 19 (Num a3)

  abbrev pub answers : Value → ℕ → SymState
  answers v0 a3 = record s { place = next_place at; regs = answered v0 a3 }

  abbrev pub puts : ℕ → List ℕ → SymState
  puts descriptor bytes =
      record s {
        place = next_place at;
        regs = answered (Num (length bytes)) 0;
        out = if descriptor == 1 then s.out ++ bytes else s.out;
        err = if descriptor == 1 then s.err else s.err ++ bytes;
      }

  abbrev pub taken_cells : List ℕ → Value → Region → ℕ → Cell
  taken_cells bytes (Ptr r x) = writes_cells (r, x, map (λ b. Byte b) bytes)
  taken_cells bytes _ = s.cells

  abbrev pub takes : List ℕ → Value → SymState
  takes bytes a1 =
      record s {
        place = next_place at;
        regs = answered (Num (length bytes)) 0;
        input = drop (length bytes) s.input;
        cells = taken_cells bytes a1;
      }

  -- the cells once the heap has a new size
  abbrev pub resized_cells : ℕ → Region → ℕ → Cell
  resized_cells n Heap x = resized (Byte 0) s.heap n (s.cells Heap) x
  resized_cells n r x = s.cells r x

  abbrev pub resizes : ℕ → SymState
  resizes n = record s { place = next_place at; regs = answered (Num 0) 0; heap = n; cells = resized_cells n }

  abbrev pub calls : Call → Value → SymState
  calls (Exits status) a1 = ends (ExitedWith status)
  calls (Answers v0 a3) a1 = answers (Num v0) a3
  calls (Puts descriptor bytes) a1 = puts descriptor bytes
  calls (Takes count) a1 = takes (taken count s.input) a1
  calls (HeapEnd x) a1 = answers (Ptr Heap x) 0
  calls (Resizes n) a1 = resizes n
  calls CallObserves a1 = ends (ObservedAt at)

  abbrev pub after : SymEffect → SymState
  after Nothing = goes_on
  after (Set r v) = sets r v
  after (Store w) = record s { place = next_place at; cells = writes_cells w }
  after (Jump link q) = jumps link q
  after (Stop kind) = ends (TrappedAt kind at)
  after (Calls call a1) = calls call a1
  after StepObserves = ends (ObservedAt at)
