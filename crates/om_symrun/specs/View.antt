-- The machine as contracts see it.
use Rattle.std.specs.Prelude.{ℕ, List, [], slice_index_or, Option, Some, None, option_map}
use Rattle.om_isa.specs.SystemCall.{Call}
use Rattle.om_value.specs.declared.value.Place.{Place}
use Rattle.om_value.specs.declared.value.Value.{Value}
use Rattle.om_value.specs.declared.value.Value.TheVariants.{Num}
use Rattle.om_prog.specs.declared.item.Item.{Item}
use Rattle.om_prog.specs.Act.{Act, Script}
use Rattle.om_prog.specs.Script.{program_script, act_of}
use Rattle.om_prog.specs.Step.{SymState, SymEnd, ExitedWith, TrappedAt, ObservedAt, SymEffect, read_reg, act_effect, call_of, ends, after}
use Rattle.om_prog.specs.View.{ProgramView, item_at}
use Rattle.om_symrun.specs.Memory.{memory_cells, heap_size}
use Rattle.om_symrun.specs.RegionCells.{Regions}
use Rattle.om_symrun.specs.declared.machine.Ending.{Ending}
use Rattle.om_symrun.specs.declared.machine.Ending.TheVariants as ending

-- the program, the registers, the place of the next word, the memory, and how the run has ended, if it has
pub record View : Type 0 where
  pub program : ProgramView
  pub registers : List Value
  pub place : Place
  pub memory : Regions
  pub end : Option Ending

abbrev pub end_of : Ending → SymEnd
end_of (ending.Exited status) = ExitedWith status
end_of (ending.Trapped kind at) = TrappedAt kind at
end_of (ending.Observed at) = ObservedAt at

abbrev pub register_in : List Value → ℕ → Value
register_in registers r = slice_index_or registers r (Num 0)

-- the state of the run, with what is left of the input and what was written
abbrev pub state_of : View → List ℕ → List ℕ → List ℕ → SymState
state_of v input out err =
    record {
      regs = register_in v.registers;
      place = v.place;
      cells = memory_cells v.memory;
      heap = heap_size v.memory;
      input = input;
      out = out;
      err = err;
      ended = option_map end_of v.end;
    }

-- the script that it runs
abbrev pub view_script : View → Script
view_script v = program_script v.program

-- its state, but for the streams
abbrev pub view_state : View → SymState
view_state v = state_of v [] [] []

module _ (v : View) where
  abbrev pub view_register : ℕ → Value
  view_register r = read_reg (register_in v.registers) r

  -- what a word does at its place
  abbrev pub view_effect : Act → SymEffect
  view_effect a = act_effect (view_script v) (view_state v) v.place a

  -- the system call over the values in its registers
  abbrev pub view_call : Call
  view_call =
      call_of (view_script v) (view_state v) (view_register 0) (view_register 16) (view_register 17) (view_register 18)

-- ---- steps

abbrev pub view_executed : View → SymState → Option Item → SymState
view_executed v s None = ends s v.place (ObservedAt v.place)
view_executed v s (Some i) = after s v.place (view_effect v (act_of i.role i.instr))

abbrev pub view_step : View → SymState → Option SymEnd → SymState
view_step v s None = view_executed v s (item_at v.program v.place)
view_step v s (Some e) = s
