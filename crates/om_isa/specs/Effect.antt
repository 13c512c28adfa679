-- What one step does, in the same words for both machines.
use Rattle.std.specs.Prelude.{ℕ, Option, Some, None}
use Rattle.om_alpha.specs.declared.op.TrapKind.{TrapKind}
use Rattle.om_isa.specs.SystemCall.{Call}

-- over values V, places P and writes to memory W; but for Jump and Stop, the next place follows
pub data Effect (V P W : Type 0) : Type 0 where
  Nothing : Effect V P W
  Set : (register : ℕ) (value : V) → Effect V P W
  Store : (write : W) → Effect V P W
  -- the link register, if any, gets the next place
  Jump : (link : Option ℕ) (to : P) → Effect V P W
  Stop : (kind : TrapKind) → Effect V P W
  -- a call, with what a1 holds
  Calls : (call : Call) (buffer : V) → Effect V P W
  -- the step would observe an address
  StepObserves : Effect V P W

-- an effect of a value, where there is one
abbrev pub with_value : {A V P W : Type 0} → Option A → (A → Effect V P W) → Effect V P W
with_value None f = StepObserves
with_value (Some a) f = f a
