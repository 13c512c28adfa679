-- Worked ends of blocks, and what words do, on the graph of a call: block 0 calls block 2 at 16; block 1 at 4 stands behind
-- the call and falls into block 2.
use Rattle.std.specs.Prelude.{◌≡◌, ◌^◌, ◌+◌, [], ◌∷◌, Some, None, refl}
use Rattle.om_isa.specs.declared.instr.BrOp.TheVariants.{Bsr}
use Rattle.om_isa.specs.declared.instr.JumpOp.TheVariants.{Ret}
use Rattle.om_isa.specs.declared.instr.Instr.TheVariants.{Jump as Jumps}
use Rattle.om_value.specs.declared.value.Target.TheVariants as target
use Rattle.om_prog.specs.Act.{To}
use Rattle.om_flow.specs.declared.parts.Transfer.TheVariants.{Keep, SetTable, SetUnknown}
use Rattle.om_graph.specs.declared.op.OpKind.TheVariants as op
use Rattle.om_graph.specs.declared.op.Last.TheVariants.{Fall, Call, JumpBy}
use Rattle.om_graph.specs.Rows.{at, calling}
use Rattle.om_blocks.specs.declared.exits.Exit.TheVariants as exit
use Rattle.om_blocks.specs.Effects.{kind_reads, kind_transfer, effect_then}
use Rattle.om_blocks.specs.Exits.{last_exit, next_fallen}
use Rattle.om_blocks.specs.Filling.{first_number, word_lands, numbers_at}

-- ---- where control goes

pub row_call : last_exit calling (Call (at 0) Bsr 26 (at 16)) ≡ exit.Block 2
row_call = refl

-- no kept block has the label
pub row_call_nowhere : last_exit calling (Call (at 0) Bsr 26 (at 8)) ≡ exit.Nowhere
row_call_nowhere = refl

pub row_return : last_exit calling (JumpBy (at 24) (Jumps Ret 31 26 0)) ≡ exit.ByRegister
row_return = refl

pub row_fall : next_fallen calling 1 Fall ≡ Some 2
row_fall = refl

pub row_call_falls_nowhere : next_fallen calling 0 (Call (at 0) Bsr 26 (at 16)) ≡ None
row_call_falls_nowhere = refl

-- with four rows: 4 is no block's number, 5 the hub's
pub row_hub : first_number calling 4 (JumpBy (at 24) (Jumps Ret 31 26 0)) ≡ 5
row_hub = refl

-- ---- landing places

pub row_behind_call : word_lands (record { at = at 0; act = To Bsr 26 (at 16) }) ≡ at 4 ∷ []
row_behind_call = refl

pub row_numbers : numbers_at calling (at 0 ∷ at 8 ∷ at 4 ∷ []) ≡ 0 ∷ 1 ∷ []
row_numbers = refl

-- ---- what words do

pub row_load_into_r31 : kind_reads (op.Lit 31 29 (target.Num 5)) ≡ []
row_load_into_r31 = refl

pub row_high_half : kind_transfer 3 (op.GpHi 29 27 (at 16)) ≡ SetUnknown
row_high_half = refl

pub row_low_half : kind_transfer 3 (op.GpLo 29 29 (at 16)) ≡ SetTable 3
row_low_half = refl

-- what the first words write, those behind them do not read first
pub row_then :
    effect_then (record { reads = 2 ^ 1; writes = 2 ^ 2; transfer = SetTable 3 })
    (record { reads = 2 ^ 2 + 2 ^ 4; writes = 2 ^ 1; transfer = Keep })
    ≡ record { reads = 2 ^ 1 + 2 ^ 4; writes = 2 ^ 1 + 2 ^ 2; transfer = SetTable 3 }
row_then = refl
