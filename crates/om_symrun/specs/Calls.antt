-- What a system call asks for, and what is known of a state after it.
use Rattle.std.specs.Prelude.{◌≡◌, ◌≤◌, ◌<◌, ◌+◌, ◌^◌, ◌++◌, ◌==◌, if◌then◌else◌, ℕ, List, [], length, take, drop, Option, Some, None}
use Rattle.om_io.specs.Outside.{IsFrontOf}
use Rattle.om_isa.specs.SystemCall.{Reached, Call, Exits, Answers, Puts, Takes, HeapEnd, Resizes, CallObserves, heap_limit}
use Rattle.om_value.specs.declared.value.Region.{Region}
use Rattle.om_value.specs.declared.value.Value.{Value}
use Rattle.om_value.specs.declared.value.Value.TheVariants.{Ptr}
use Rattle.om_prog.specs.Step.{SymState, calls, taken_cells, reached, bytes_reached, room_reached}
use Rattle.om_symrun.specs.RegionCells.{RegionCells, Regions}
use Rattle.om_symrun.specs.Memory.{cells_for, memory_size, heap_size}
use Rattle.om_symrun.specs.Streams.{Told, Tells}
use Rattle.om_symrun.specs.View.{View, state_of, view_script, view_state, view_register, view_call}
use Rattle.om_symrun.specs.declared.requests.Descriptor.{Descriptor}
use Rattle.om_symrun.specs.declared.requests.Descriptor.TheVariants as descriptor
use Rattle.om_symrun.specs.declared.requests.Span.{Span}
use Rattle.om_symrun.specs.declared.requests.Request.{Request}
use Rattle.om_symrun.specs.declared.requests.Request.TheVariants as request
use Rattle.om_symrun.specs.declared.machine.SymStep.{SymStep}
use Rattle.om_symrun.specs.declared.machine.SymStep.TheVariants as step
use Rattle.om_symrun.specs.declared.machine.Ending.{Ending}
use Rattle.om_symrun.specs.declared.machine.Ending.TheVariants as ending

abbrev pub descriptor_number : Descriptor → ℕ
descriptor_number descriptor.Out = 1
descriptor_number descriptor.Err = 2

-- the bytes and the room that are at a1
abbrev pub view_bytes : View → ℕ → Reached (List ℕ)
view_bytes v n = bytes_reached (view_script v) (view_state v) (reached (view_script v) (view_state v) n (view_register v 17))

abbrev pub view_room : View → ℕ → Reached (Unit {0})
view_room v n = room_reached (view_script v) (view_state v) (reached (view_script v) (view_state v) n (view_register v 17))

-- the bytes of a range
abbrev pub bytes_of_region : Option RegionCells → ℕ → ℕ → List ℕ
bytes_of_region None at count = take count (drop at [])
bytes_of_region (Some c) at count = take count (drop at c.bytes)

abbrev pub region_bytes : Regions → Region → ℕ → ℕ → List ℕ
region_bytes m r at count = bytes_of_region (cells_for m r) at count

abbrev pub span_bytes : Regions → Span → List ℕ
span_bytes m s = region_bytes m s.region s.at s.count

-- the call that a request is
abbrev pub call_in : View → Request → Call
call_in v (request.Exit status) = Exits status
call_in v (request.Answer v0 a3) = Answers v0 a3
call_in v (request.Put d s) = Puts (descriptor_number d) (span_bytes v.memory s)
call_in v (request.Take s) = Takes s.count
call_in v request.HeapEnd = HeapEnd (heap_size v.memory)
call_in v (request.Resize size) = Resizes size
call_in v request.Observe = CallObserves

-- a range lies in its region, and begins where a1 points
pub record IsSpan (v : View) (s : Span) : Type 0 where
  pub fits : s.at + s.count ≤ memory_size v.memory s.region
  pub small : s.at + s.count < 2 ^ 64
  pub here : view_register v 17 ≡ Ptr s.region s.at

-- what is moved lies in its region, and a heap is not too large
abbrev pub IsServed : View → Request → Type 0
IsServed v (request.Put d s) = IsSpan v s
IsServed v (request.Take s) = IsSpan v s
IsServed v (request.Resize size) = size ≤ heap_limit
IsServed v _ = Unit {0}

-- the state is that of the machine, of what is left and of what was written, where the sinks tell
pub record IsState (v : View) (left : Option (List ℕ)) (told_out told_err : Told) (s : SymState) : Type 0 where
  pub machine : state_of v s.input s.out s.err ≡ s
  pub input : left ≡ Some s.input
  pub out : Tells told_out s.out
  pub err : Tells told_err s.err

-- a state that took these bytes to a1 and has the rest left, and goes on at no other place
abbrev pub took : SymState → Value → List ℕ → List ℕ → SymState
took s a1 bytes rest = record s { input = rest; cells = taken_cells s s.place bytes a1 }

-- a state that put these bytes on a descriptor
abbrev pub put_on : SymState → ℕ → List ℕ → SymState
put_on s descriptor bytes =
    record s {
      out = if descriptor == 1 then s.out ++ bytes else s.out;
      err = if descriptor == 1 then s.err else s.err ++ bytes;
    }

-- a read failed: the state is as before, but that what was taken stands at the front of the range
pub record FailsToTake (call : Call) (a1 : Value) (s : SymState) (v : View) (left : Option (List ℕ)) (out err : Told) : Type 0 where
  pub count : ℕ
  pub bytes : List ℕ
  pub rest : List ℕ
  pub asked : call ≡ Takes count
  pub few : length bytes < count
  pub split : s.input ≡ bytes ++ rest
  pub state : IsState v left out err (took s a1 bytes rest)

-- a put failed: the state is as before, but that a front of the bytes was written
pub record FailsToPut (call : Call) (s : SymState) (v : View) (left : Option (List ℕ)) (out err : Told) : Type 0 where
  pub descriptor : ℕ
  pub bytes : List ℕ
  pub front : List ℕ
  pub asked : call ≡ Puts descriptor bytes
  pub is_front : IsFrontOf front bytes
  pub state : IsState v left out err (put_on s descriptor front)

-- a call takes bytes, or puts bytes on a descriptor
abbrev pub IsTaking : Call → Type 0
IsTaking call = (count : ℕ) × (call ≡ Takes count)

abbrev pub IsPutting : ℕ → Call → Type 0
IsPutting descriptor call = (bytes : List ℕ) × (call ≡ Puts descriptor bytes)

-- what a step answers of a machine that has ended like this
abbrev pub IsAnswer : SymStep → Option Ending → Type 0
IsAnswer step.Went end = end ≡ None
IsAnswer (step.Exit status) end = end ≡ Some (ending.Exited status)
IsAnswer (step.Trap kind at) end = end ≡ Some (ending.Trapped kind at)
IsAnswer (step.Observes at) end = end ≡ Some (ending.Observed at)
IsAnswer step.ReadFault end = end ≡ None
IsAnswer step.WriteFault end = end ≡ None
IsAnswer step.NoMemory end = end ≡ None

-- what a call leaves of a machine v that was in a state s
abbrev pub CallsTo : View → SymStep → SymState → View → Option (List ℕ) → Told → Told → Type 0
CallsTo v step.ReadFault s w left out err = FailsToTake (view_call v) (view_register v 17) s w left out err
CallsTo v step.WriteFault s w left out err = FailsToPut (view_call v) s w left out err
CallsTo v step.NoMemory s w left out err = IsState w left out err s
CallsTo v (step.Trap kind at) s w left out err = ⊥
CallsTo v _ s w left out err = IsState w left out err (calls s s.place (view_call v) (view_register v 17))
