-- Worked readers, in a block that loads the address of an array, steps along it and calls.
use Rattle.std.specs.Prelude.{◌≡◌, ℕ, pos, true, false, List, [], ◌∷◌, Some, None, refl}
use Rattle.om_isa.specs.declared.instr.MemOp.{MemOp}
use Rattle.om_isa.specs.declared.instr.MemOp.TheVariants.{Lda, Ldq, Stq}
use Rattle.om_isa.specs.declared.instr.JumpOp.TheVariants.{Jsr}
use Rattle.om_isa.specs.declared.instr.Instr.TheVariants.{Mem, Jump}
use Rattle.om_value.specs.declared.value.Target.TheVariants as target
use Rattle.om_graph.specs.declared.op.OpKind.{OpKind}
use Rattle.om_graph.specs.declared.op.OpKind.TheVariants.{Plain, Lit}
use Rattle.om_graph.specs.declared.op.Last.TheVariants.{CallBy}
use Rattle.om_graph.specs.View.{Node, Block}
use Rattle.om_graph.specs.Rows.{at}
use Rattle.om_uses.specs.Readers.{readers, is_read_last, is_at_end, next_of}

abbrev pub node : ℕ → ℕ → OpKind → Node
node id off kind = record { id = id; op = record { place = at off; kind = kind } }

abbrev pub memory : MemOp → ℕ → ℕ → ℕ → OpKind
memory op ra rb disp = Plain (Mem op ra rb (pos disp))

-- behind ldq r27,0(r29), which loads an address: jsr r26,(r27) ends the block
abbrev pub behind_address : List Node
behind_address = []

-- behind lda r1,8(r1)
abbrev pub behind_step : List Node
behind_step = node 4 12 (memory Stq 1 3 0) ∷ node 5 16 (Lit 27 29 (target.Num 5)) ∷ behind_address

-- behind ldq r1,0(r29), which loads an address
abbrev pub behind_load : List Node
behind_load = node 2 4 (memory Ldq 3 1 0) ∷ node 3 8 (memory Lda 1 1 8) ∷ behind_step

abbrev pub stepping : Block
stepping = record {
  id = 0;
  label = at 0;
  opening = false;
  ops = node 1 0 (Lit 1 29 (target.Num 4)) ∷ behind_load;
  last = CallBy (at 20) (Jump Jsr 26 27 0);
}

-- the step reads the address and writes its register, so the store reads the step
pub row_address : readers 1 behind_load ≡ 2 ∷ 3 ∷ []
row_address = refl

pub row_step : readers 1 behind_step ≡ 4 ∷ []
row_step = refl

-- a store that reads its base
pub row_base : readers 3 (node 3 8 (memory Lda 1 1 8) ∷ behind_step) ≡ 4 ∷ []
row_base = refl

pub row_first : next_of None (readers 1 behind_load) ≡ Some 2
row_first = refl

pub row_next : next_of (Some 2) (readers 1 behind_load) ≡ Some 3
row_next = refl

pub row_no_more : next_of (Some 3) (readers 1 behind_load) ≡ None
row_no_more = refl

-- ---- ends of the block

-- the first address is written over, the step's result is not, and the call reads neither
pub row_written_over : is_at_end 1 stepping behind_load ≡ false
row_written_over = refl

pub row_stays : is_at_end 1 stepping behind_step ≡ true
row_stays = refl

pub row_unread : is_read_last 1 stepping behind_step ≡ false
row_unread = refl

-- the call reads r27 and writes r26
pub row_called : is_read_last 27 stepping behind_address ≡ true
row_called = refl

pub row_called_stays : is_at_end 27 stepping behind_address ≡ true
row_called_stays = refl

pub row_link : is_at_end 26 stepping behind_address ≡ false
row_link = refl
