-- Worked runs of what loads of addresses and their uses become.
use Rattle.std.specs.Prelude.{◌≡◌, ℕ, ◌+◌, ◌*◌, pos, false, List, [], ◌∷◌, length, Some, refl}
use Rattle.om_alpha.specs.declared.op.AluOp.TheVariants.{Bis}
use Rattle.om_isa.specs.declared.instr.MemOp.TheVariants.{Lda, Ldq}
use Rattle.om_isa.specs.declared.instr.Opnd.TheVariants.{R}
use Rattle.om_isa.specs.declared.instr.Instr.TheVariants.{Mem, Alu, Callsys}
use Rattle.om_value.specs.declared.value.Region.TheVariants.{Sec}
use Rattle.om_value.specs.declared.value.Target.{Target}
use Rattle.om_value.specs.declared.value.Target.TheVariants as target
use Rattle.om_value.specs.declared.value.Value.TheVariants.{Num, Ptr}
use Rattle.om_value.specs.Lift.{lifted, lifted_add, on_numbers, moves_pointer, keeps_value}
use Rattle.om_prog.specs.View.{ProgramView}
use Rattle.om_prog.specs.Rows.{program_of}
use Rattle.om_prog.specs.Step.{SymState, ObservedAt}
use Rattle.om_prog.specs.Runs.{sym_run, sym_step, sym_start}
use Rattle.om_graph.specs.declared.op.OpKind.{OpKind}
use Rattle.om_graph.specs.declared.op.OpKind.TheVariants as op
use Rattle.om_graph.specs.declared.op.Last.TheVariants.{Off}
use Rattle.om_graph.specs.View.{Node, GraphView}
use Rattle.om_graph.specs.Run.{graph_run}
use Rattle.om_graph.specs.Rows.{at}

-- a region of 16 bytes with the number 5 at 8
abbrev pub with_five : ProgramView
with_five =
    program_of []
    (record { region = Sec 0 3; size = 16; zero = false; bytes = 0 ∷ 0 ∷ 0 ∷ 0 ∷ 0 ∷ 0 ∷ 0 ∷ 0 ∷ 5 ∷ []; fields = [] } ∷ [])

abbrev pub region : Target
region = target.Ptr (Sec 0 3) 0

abbrev pub nodes_from : ℕ → List OpKind → List Node
nodes_from k [] = []
nodes_from k (kind ∷ kinds) = record { id = k; op = record { place = at (4 * k); kind = kind } } ∷ nodes_from (k + 1) kinds

-- one block of such ops, from place 0 on
abbrev pub graph_of : List OpKind → GraphView
graph_of kinds = record {
  counts = length kinds ∷ [];
  roots = at 0 ∷ [];
  tables = 0 ∷ [];
  labels = at 0 ∷ [];
  blocks = record { id = 0; label = at 0; opening = false; ops = nodes_from 0 kinds; last = Off } ∷ [];
  touched = [];
}

-- the state after n steps
abbrev pub after : List OpKind → ℕ → SymState
after kinds n = graph_run with_five (graph_of kinds) [] n

-- ---- over the global pointer

-- ldq r2,8(r29) that stands for a load over the region's address
abbrev pub over_gp : OpKind
over_gp = op.UseGp (Mem Ldq 2 1 (pos 8)) 29 region

pub row_over_gp : (after (over_gp ∷ []) 1).regs 2 ≡ Num 5
unfolding sym_run sym_step sym_start lifted lifted_add on_numbers moves_pointer keeps_value
row_over_gp = refl

-- lda r29,0(r31) before
abbrev pub clears_gp : OpKind
clears_gp = op.Plain (Mem Lda 29 31 (pos 0))

pub row_no_gp : (after (clears_gp ∷ over_gp ∷ []) 2).ended ≡ Some (ObservedAt (at 4))
unfolding sym_run sym_step sym_start lifted lifted_add on_numbers moves_pointer keeps_value
row_no_gp = refl

-- ---- over a high half

abbrev pub high : OpKind
high = op.AddrHi 1 29 region (pos 8)

abbrev pub over_high : OpKind
over_high = op.UseLo (Mem Ldq 2 1 (pos 8)) (at 0)

pub row_over_high : (after (high ∷ over_high ∷ []) 2).regs 2 ≡ Num 5
unfolding sym_run sym_step sym_start lifted lifted_add on_numbers moves_pointer keeps_value
row_over_high = refl

-- the half of another load is not what the use needs
pub row_other_half : (after (high ∷ high ∷ over_high ∷ []) 3).ended ≡ Some (ObservedAt (at 8))
unfolding sym_run sym_step sym_start lifted lifted_add on_numbers moves_pointer keeps_value
row_other_half = refl

-- a use without its load shows an address
pub row_no_load : (after (op.UseLo (Mem Ldq 2 1 (pos 8)) (at 4) ∷ []) 1).ended ≡ Some (ObservedAt (at 0))
unfolding sym_run sym_step sym_start lifted lifted_add on_numbers moves_pointer keeps_value
row_no_load = refl

-- bis r1,r31,r16; lda r0,1(r31); callsys: a half that a run would show
pub row_shows_half :
    (after
    (high
    ∷ op.Plain (Alu Bis 1 (R 31) 16) ∷ op.Plain (Mem Lda 0 31 (pos 1)) ∷ op.Plain Callsys ∷ [])
    4).ended
    ≡ Some (ObservedAt (at 12))
unfolding sym_run sym_step sym_start lifted lifted_add on_numbers moves_pointer keeps_value
row_shows_half = refl

-- ---- addresses

pub row_number : (after (clears_gp ∷ op.AddrLda 1 31 (target.Num 7) ∷ []) 2).regs 1 ≡ Num 7
unfolding sym_run sym_step sym_start lifted lifted_add on_numbers moves_pointer keeps_value
row_number = refl

-- a number over the global pointer needs it
pub row_number_over_gp : (after (op.AddrLda 1 29 (target.Num 7) ∷ []) 1).regs 1 ≡ Num 7
unfolding sym_run sym_step sym_start lifted lifted_add on_numbers moves_pointer keeps_value
row_number_over_gp = refl

pub row_number_no_gp : (after (clears_gp ∷ op.AddrLda 1 29 (target.Num 7) ∷ []) 2).ended ≡ Some (ObservedAt (at 4))
unfolding sym_run sym_step sym_start lifted lifted_add on_numbers moves_pointer keeps_value
row_number_no_gp = refl

pub row_address : (after (op.AddrLda 1 29 region ∷ []) 1).regs 1 ≡ Ptr (Sec 0 3) 0
unfolding sym_run sym_step sym_start lifted lifted_add on_numbers moves_pointer keeps_value
row_address = refl
