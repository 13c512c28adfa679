-- Worked graphs: a call of a procedure with an opening pair, and the same call past the pair; and a program lifted.
use Rattle.std.specs.Prelude.{◌≡◌, ℕ, pos, negsuc, true, false, List, [], ◌∷◌, map, Some, None, refl}
use Rattle.om_isa.specs.declared.instr.MemOp.TheVariants.{Lda, Ldah, Ldq}
use Rattle.om_isa.specs.declared.instr.JumpOp.TheVariants.{Jsr, Ret}
use Rattle.om_isa.specs.declared.instr.BrOp.TheVariants.{Bsr}
use Rattle.om_isa.specs.declared.instr.Instr.TheVariants.{Mem, Jump as Jumps, Callsys}
use Rattle.om_value.specs.declared.value.Place.{Place}
use Rattle.om_value.specs.declared.value.Target.TheVariants as target
use Rattle.om_value.specs.Lift.{lifted, lifted_add, on_numbers, moves_pointer, keeps_value}
use Rattle.om_prog.specs.declared.item.Role.TheVariants as role
use Rattle.om_prog.specs.View.{ProgramView}
use Rattle.om_prog.specs.Rows.{plain, with_role, program_of}
use Rattle.om_prog.specs.Step.{ExitedWith}
use Rattle.om_prog.specs.Runs.{sym_run, sym_step, sym_start, trace}
use Rattle.om_prog.specs.Act as act
use Rattle.om_prog.specs.Act.{Word}
use Rattle.om_prog.specs.Facts.{Any, Table, Unknown, fact_behind}
use Rattle.om_graph.specs.declared.op.OpKind.TheVariants.{Plain, Lit, GpHi, GpLo}
use Rattle.om_graph.specs.declared.op.Last.TheVariants.{Fall, Off, Br, Call, CallBy, JumpBy}
use Rattle.om_graph.specs.declared.parts.Row.{Row}
use Rattle.om_graph.specs.View.{GraphView, last_set, deleted, dropped, replaced, table_set, cleared, made, labelled, next_op_of, op_of, next_touched_of}
use Rattle.om_graph.specs.Laid.{seen_graph, kept_from}
use Rattle.om_graph.specs.Run.{graph_script}
use Rattle.om_graph.specs.Form.{label_after}
use Rattle.om_graph.specs.LeftIn.{passes, left}
use Rattle.om_graph.specs.Index.{index_of, distance}
use Rattle.om_graph.specs.Landing.{is_landing, is_opening_pair, begins}
use Rattle.om_graph.specs.Lifted.{lifted_shapes}

abbrev pub at : ℕ → Place
at n = record { obj = 0; off = n }

abbrev pub empty : ProgramView
empty = record { texts = []; regions = []; entry = at 0 }

abbrev pub calling : GraphView
calling = record {
  counts = 7 ∷ [];
  roots = at 0 ∷ [];
  tables = 0 ∷ [];
  labels = at 0 ∷ at 4 ∷ at 16 ∷ at 24 ∷ [];
  blocks =
      record { id = 0; label = at 0; opening = false; ops = []; last = Call (at 0) Bsr 26 (at 16) }
      ∷ record {
        id = 1;
        label = at 4;
        opening = false;
        ops =
            record { id = 0; op = record { place = at 4; kind = Plain (Mem Lda 0 31 (pos 1)) } }
            ∷ record { id = 1; op = record { place = at 8; kind = Plain (Mem Lda 16 31 (pos 7)) } }
            ∷ record { id = 2; op = record { place = at 12; kind = Plain Callsys } } ∷ [];
        last = Fall;
      }
      ∷ record {
        id = 2;
        label = at 16;
        opening = true;
        ops = record { id = 3; op = record { place = at 16; kind = GpHi 29 27 (at 0) } } ∷ record { id = 4; op = record { place = at 20; kind = GpLo 29 29 (at 16) } } ∷ [];
        last = Fall;
      }
      ∷ record { id = 3; label = at 24; opening = false; ops = []; last = JumpBy (at 24) (Jumps Ret 31 26 0) } ∷ [];
  touched = [];
}

-- past the pair, and with the pair deleted after that
abbrev pub entering : GraphView
entering = last_set calling 0 (Call (at 0) Bsr 26 (at 24))

abbrev pub lessened : GraphView
lessened = deleted (deleted entering 3) 4

pub row_old : (sym_run (graph_script empty calling) [] 7).ended ≡ Some (ExitedWith 7)
unfolding sym_run sym_step sym_start lifted lifted_add on_numbers moves_pointer keeps_value
row_old = refl

pub row_trace : trace (graph_script empty calling) [] 7 ≡ at 12 ∷ at 8 ∷ at 4 ∷ at 24 ∷ at 20 ∷ at 16 ∷ at 0 ∷ []
unfolding sym_run sym_step sym_start trace lifted lifted_add on_numbers moves_pointer keeps_value
row_trace = refl

pub row_left : left entering (trace (graph_script empty calling) [] 7) ≡ at 12 ∷ at 8 ∷ at 4 ∷ at 24 ∷ at 0 ∷ []
unfolding sym_run sym_step sym_start trace lifted lifted_add on_numbers moves_pointer keeps_value
row_left = refl

pub row_new : (sym_run (graph_script empty entering) [] 5).ended ≡ Some (ExitedWith 7)
unfolding sym_run sym_step sym_start lifted lifted_add on_numbers moves_pointer keeps_value
row_new = refl

-- all at once, and in two passes
pub row_both : left lessened (left entering (trace (graph_script empty calling) [] 7)) ≡ left lessened (trace (graph_script empty calling) [] 7)
unfolding sym_run sym_step sym_start trace lifted lifted_add on_numbers moves_pointer keeps_value
row_both = refl

-- a BSR without a link register goes past the pair as well
abbrev pub without_link : GraphView
without_link = last_set calling 0 (Br (at 0) Bsr 31 (at 24))

pub row_passes : passes without_link (at 0) (at 20) ≡ true
row_passes = refl

-- the block into which control falls is the next one of those that the graph was made with, also where it was dropped
pub row_falls : label_after (dropped calling 2).labels (at 4) ≡ Some (at 16)
row_falls = refl

-- where no walk comes each table is a fact, but for a word that wrote r29, until the next low half
abbrev pub writes_29 : Word
writes_29 = record { at = at 0; act = act.Plain (Mem Lda 29 31 (pos 1)) }

abbrev pub low_half : Word
low_half = record { at = at 8; act = act.GpLo 29 29 (at 4) }

pub row_fact_none : fact_behind (graph_script empty calling) Any [] ≡ Any
row_fact_none = refl

pub row_fact_written : fact_behind (graph_script empty calling) Any (writes_29 ∷ []) ≡ Unknown
row_fact_written = refl

pub row_fact_again : fact_behind (graph_script empty calling) Any (low_half ∷ writes_29 ∷ []) ≡ Any
row_fact_again = refl

pub row_fact_reached : fact_behind (graph_script empty calling) Unknown (low_half ∷ writes_29 ∷ []) ≡ Table 0
row_fact_reached = refl

-- ---- edits

-- an edit touches its block, and a dropped block stays touched; an id that is gone names nothing
pub row_touched : (dropped (replaced calling 3 (Plain Callsys)) 1).touched ≡ at 4 ∷ at 16 ∷ []
row_touched = refl

pub row_next_touched : next_touched_of (at 4 ∷ at 16 ∷ []) (Some (at 4)) ≡ Some (at 16)
row_next_touched = refl

pub row_cleared : (cleared entering).touched ≡ []
row_cleared = refl

pub row_deleted : op_of (deleted calling 1) 1 ≡ None
row_deleted = refl

pub row_next_op : next_op_of (deleted calling 1) 0 ≡ Some 2
row_next_op = refl

pub row_labelled : labelled (dropped calling 2) (at 16) ≡ None
row_labelled = refl

pub row_tables : (table_set (made (3 ∷ 4 ∷ []) (at 0 ∷ [])) 1 0).tables ≡ 0 ∷ 0 ∷ []
row_tables = refl

-- ---- words counted

abbrev pub in_second : ℕ → Place
in_second n = record { obj = 1; off = n }

pub row_index : index_of (3 ∷ 4 ∷ []) (in_second 8) ≡ 5
row_index = refl

pub row_index_past : index_of (3 ∷ 4 ∷ []) (at 400) ≡ 3
row_index_past = refl

-- a branch to itself goes one word back
pub row_distance : distance (3 ∷ 4 ∷ []) (at 4) (at 4) ≡ negsuc 0
row_distance = refl

-- ---- a program lifted

-- lda r16,7(r31); lda r0,1(r31); callsys behind a call through a register; a procedure with its pair, reached by that call
abbrev pub two_blocks : ProgramView
two_blocks =
    program_of
    (with_role (role.Lit (target.Code (at 20))) (Mem Ldq 27 29 (pos 0))
    ∷ plain (Jumps Jsr 26 27 0)
    ∷ plain (Mem Lda 16 31 (pos 7))
    ∷ plain (Mem Lda 0 31 (pos 1))
    ∷ plain Callsys
    ∷ with_role (role.GpHi (at 20)) (Mem Ldah 29 27 (pos 0))
    ∷ with_role (role.GpLo (at 20)) (Mem Lda 29 29 (pos 0)) ∷ plain (Jumps Ret 31 26 0) ∷ [])
    []

pub row_lifted :
    lifted_shapes two_blocks
    ≡ record {
      label = at 0;
      opening = false;
      ops = record { place = at 0; kind = Lit 27 29 (target.Code (at 20)) } ∷ [];
      last = CallBy (at 4) (Jumps Jsr 26 27 0);
    }
    ∷ record {
      label = at 8;
      opening = false;
      ops =
          record { place = at 8; kind = Plain (Mem Lda 16 31 (pos 7)) }
          ∷ record { place = at 12; kind = Plain (Mem Lda 0 31 (pos 1)) } ∷ record { place = at 16; kind = Plain Callsys } ∷ [];
      last = Fall;
    }
    ∷ record {
      label = at 20;
      opening = true;
      ops =
          record { place = at 20; kind = GpHi 29 27 (at 20) } ∷ record { place = at 24; kind = GpLo 29 29 (at 20) } ∷ [];
      last = Fall;
    }
    ∷ record { label = at 28; opening = false; ops = []; last = JumpBy (at 28) (Jumps Ret 31 26 0) } ∷ []
row_lifted = refl

-- a pair that no landing place names is no opening one, and blocks go on behind it
pub row_no_opening :
    is_opening_pair (program_of (plain (Mem Lda 1 31 (pos 0)) ∷ with_role (role.GpHi (at 0)) (Mem Ldah 29 27 (pos 0)) ∷ with_role (role.GpLo (at 4)) (Mem Lda 29 29 (pos 0)) ∷ []) []) (at 4)
    ≡ false
row_no_opening = refl

-- one whose halves are reversed is, and a block begins behind it
abbrev pub reversed : ProgramView
reversed =
    program_of
    (with_role (role.GpLo (at 4)) (Mem Lda 29 29 (pos 0)) ∷ with_role (role.GpHi (at 0)) (Mem Ldah 29 27 (pos 0)) ∷ plain Callsys ∷ [])
    []

pub row_reversed : is_opening_pair reversed (at 0) ≡ true
row_reversed = refl

pub row_behind_reversed : begins reversed (at 8) ≡ true
row_behind_reversed = refl

-- the text ends behind a word that ends no block
pub row_off : map (λ s. s.last) (lifted_shapes reversed) ≡ Fall ∷ Off ∷ []
row_off = refl

-- a pair right behind another is no opening one, though the word behind it is a landing place
abbrev pub two_pairs : ProgramView
two_pairs =
    program_of
    (with_role (role.GpHi (at 0)) (Mem Ldah 29 27 (pos 0))
    ∷ with_role (role.GpLo (at 0)) (Mem Lda 29 29 (pos 0))
    ∷ with_role (role.GpHi (at 0)) (Mem Ldah 29 27 (pos 0))
    ∷ with_role (role.GpLo (at 8)) (Mem Lda 29 29 (pos 0))
    ∷ with_role (role.Lit (target.Code (at 8))) (Mem Ldq 1 29 (pos 0)) ∷ [])
    []

pub row_two_pairs : is_landing two_pairs (at 8) ≡ true
row_two_pairs = refl

pub row_second_pair : map (λ s. s.opening) (lifted_shapes two_pairs) ≡ true ∷ false ∷ []
row_second_pair = refl

-- rows and lists of ops as a graph keeps them, with the second block dropped: its ops are out of sight
abbrev pub calling_rows : List Row
calling_rows =
    record { label = at 0; opening = false; touched = false; last = Call (at 0) Bsr 26 (at 16); kept = Some 4 }
    ∷ record { label = at 4; opening = false; touched = true; last = Fall; kept = None }
    ∷ record { label = at 16; opening = true; touched = false; last = Fall; kept = Some 6 }
    ∷ record { label = at 24; opening = false; touched = false; last = JumpBy (at 24) (Jumps Ret 31 26 0); kept = Some 5 } ∷ []

pub row_seen :
    seen_graph (7 ∷ []) (at 0 ∷ []) (0 ∷ []) calling_rows
    ([]
    ∷ ((0, record { place = at 4; kind = Plain Callsys }) ∷ [])
    ∷ ((3, record { place = at 16; kind = GpHi 29 27 (at 0) }) ∷ (4, record { place = at 20; kind = GpLo 29 29 (at 16) }) ∷ []) ∷ [] ∷ [])
    ≡ dropped calling 1
row_seen = refl

pub row_numbers : kept_from 0 calling_rows ≡ (4, 0) ∷ (6, 2) ∷ (5, 3) ∷ []
row_numbers = refl
