-- What a system call asks for, and what is known of a state after it.
use Rattle.std.specs.Prelude.{◌≡◌, ◌≤◌, ◌<◌, ◌+◌, ◌^◌, ◌++◌, ℕ, IsTrue, List, length, Option, Some, None}
use Rattle.om_io.specs.Outside.{IsFrontOf}
use Rattle.om_isa.specs.SystemCall.{Reached, Call, Exits, Answers, Puts, Takes, HeapEnd, Resizes, heap_limit}
use Rattle.om_image.specs.NumState.{NumState}
use Rattle.om_image.specs.NumAccess.{is_mapped, bytes_from}
use Rattle.om_image.specs.NumStep.{bytes_at, room_at, calls, puts_on, takes_to}
use Rattle.om_machine.specs.Memory.{memory_of}
use Rattle.om_machine.specs.View.{View, state_of, view_register, view_call}
use Rattle.om_machine.specs.Streams.{Told, Tells}
use Rattle.om_machine.specs.declared.requests.Descriptor.{Descriptor}
use Rattle.om_machine.specs.declared.requests.Descriptor.TheVariants as descriptor
use Rattle.om_machine.specs.declared.requests.Request.{Request}
use Rattle.om_machine.specs.declared.requests.Request.TheVariants as request
use Rattle.om_machine.specs.declared.machine.Step.{Step}
use Rattle.om_machine.specs.declared.machine.Step.TheVariants as step
use Rattle.om_machine.specs.declared.machine.Ending.{Ending}
use Rattle.om_machine.specs.declared.machine.Ending.TheVariants as ending

abbrev pub descriptor_number : Descriptor → ℕ
descriptor_number descriptor.Out = 1
descriptor_number descriptor.Err = 2

-- the bytes and the room that are at a1
abbrev pub view_bytes : View → ℕ → Reached (List ℕ)
view_bytes v n =
    bytes_at (length v.code) (length v.memory.bytes) v.memory.heap_size (λ r. 0) (memory_of v.memory) v.pc (view_register v 17) n

abbrev pub view_room : View → ℕ → Reached (Unit {0})
view_room v n =
    room_at (length v.code) (length v.memory.bytes) v.memory.heap_size (λ r. 0) (memory_of v.memory) v.pc (view_register v 17) n

-- the call that a request is
abbrev pub call_in : View → Request → Call
call_in v (request.Exit status) = Exits status
call_in v (request.Answer v0 a3) = Answers v0 a3
call_in v (request.Put d n) =
    Puts (descriptor_number d) (bytes_from (memory_of v.memory) (view_register v 17) n)
call_in v (request.Take n) = Takes n
call_in v request.HeapEnd = HeapEnd v.memory.heap_size
call_in v (request.Resize size) = Resizes size

-- what is moved lies in mapped memory, and a heap is not too large
abbrev pub IsServed : View → Request → Type 0
IsServed v (request.Exit status) = Unit {0}
IsServed v (request.Answer v0 a3) = Unit {0}
IsServed v (request.Put d n) =
    IsTrue (is_mapped (length v.memory.bytes) v.memory.heap_size (view_register v 17) n)
IsServed v (request.Take n) =
    IsTrue (is_mapped (length v.memory.bytes) v.memory.heap_size (view_register v 17) n)
    × (view_register v 17 + n < 2 ^ 63)
IsServed v request.HeapEnd = Unit {0}
IsServed v (request.Resize size) = size ≤ heap_limit

-- the state is that of the machine, of what is left and of what was written, where the sinks tell
pub record IsState (v : View) (left : Option (List ℕ)) (told_out told_err : Told) (s : NumState) : Type 0 where
  pub machine : state_of v s.input s.out s.err ≡ s
  pub input : left ≡ Some s.input
  pub out : Tells told_out s.out
  pub err : Tells told_err s.err

-- a read failed: the state is as before, but that what was taken stands at the front of the range
pub record FailsToTake (call : Call) (a1 : ℕ) (s : NumState) (v : View) (left : Option (List ℕ)) (out err : Told) : Type 0 where
  pub count : ℕ
  pub bytes : List ℕ
  pub rest : List ℕ
  pub asked : call ≡ Takes count
  pub few : length bytes < count
  pub split : s.input ≡ bytes ++ rest
  pub state : IsState v left out err (takes_to s a1 bytes rest)

-- a put failed: the state is as before, but that a front of the bytes was written
pub record FailsToPut (call : Call) (s : NumState) (v : View) (left : Option (List ℕ)) (out err : Told) : Type 0 where
  pub descriptor : ℕ
  pub bytes : List ℕ
  pub front : List ℕ
  pub asked : call ≡ Puts descriptor bytes
  pub is_front : IsFrontOf front bytes
  pub state : IsState v left out err (puts_on s descriptor front)

-- a call takes bytes, or puts bytes on a descriptor
abbrev pub IsTaking : Call → Type 0
IsTaking call = (count : ℕ) × (call ≡ Takes count)

abbrev pub IsPutting : ℕ → Call → Type 0
IsPutting descriptor call = (bytes : List ℕ) × (call ≡ Puts descriptor bytes)

-- what a step answers of a machine that has ended like this
abbrev pub IsAnswer : Step → Option Ending → Type 0
IsAnswer step.Went end = end ≡ None
IsAnswer (step.Exit status) end = end ≡ Some (ending.Exited status)
IsAnswer (step.Trap kind at) end = end ≡ Some (ending.Trapped kind at)
IsAnswer step.ReadFault end = end ≡ None
IsAnswer step.WriteFault end = end ≡ None

-- what a call leaves of a machine v that was in a state s
abbrev pub CallsTo : View → Step → NumState → View → Option (List ℕ) → Told → Told → Type 0
CallsTo v step.ReadFault s w left out err =
    FailsToTake (view_call v) (view_register v 17) s w left out err
CallsTo v step.WriteFault s w left out err = FailsToPut (view_call v) s w left out err
CallsTo v (step.Trap kind at) s w left out err = ⊥
CallsTo v step.Went s w left out err = IsState w left out err (calls s (view_call v) (view_register v 17))
CallsTo v (step.Exit status) s w left out err =
    IsState w left out err (calls s (view_call v) (view_register v 17))
